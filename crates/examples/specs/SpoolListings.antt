-- Examples of the listing of a spool.
use Rattle.std.specs.Prelude.{◌≡◌, codes}
use Rattle.cell.specs.Cells.{header_of}
use Rattle.cell.specs.Faults.{raised}
use Rattle.cell.specs.declared.fault.Part.TheVariants.{Spool}
use Rattle.cell.specs.declared.fault.Refusal.TheVariants.{SpoolRecord, SpoolLength}
use Rattle.cell.specs.declared.octets.Cell.{Cell}
use Rattle.spool.specs.declared.record.Mark.TheVariants.{Taken, Waiting, Unused}
use Rattle.spool.specs.Surveys.{survey_of}
use Rattle.spool_listing.specs.Text.{record_line, summary_line, refusal_line}

pub record SpoolListingExamples : Type 0 where
  -- a taken record, and one that waits
  pub line_taken : (cell : Cell) → header_of cell ≡ 0x8B → record_line 0 Taken cell ≡ codes "0 taken 8B\n"
  pub line_waiting : (cell : Cell) → header_of cell ≡ 0x17 → record_line 1 Waiting cell ≡ codes "1 waiting 17\n"
  -- an unused record, whatever its bytes are
  pub line_unused : (cell : Cell) → record_line 3 Unused cell ≡ codes "3 unused --\n"
  -- the last line
  pub summary : summary_line 5 (survey_of 1 2 2) ≡ codes "records 5 taken 1 waiting 2 unused 2\n"
  -- the record 3 is damaged
  pub refused_record : refusal_line (raised SpoolRecord Spool 3) ≡ codes "refused 8 3\n"
  -- there is no record
  pub refused_empty : refusal_line (raised SpoolLength Spool 0) ≡ codes "refused 7 0\n"
