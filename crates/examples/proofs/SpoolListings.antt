-- The examples of the listing of a spool.
use Rattle.std.proofs.Common.{◌≡◌, codes, arith}
use Rattle.cell.specs.Cells.{header_of}
use Rattle.cell.specs.Faults.{raised}
use Rattle.cell.specs.declared.fault.Part.TheVariants.{Spool}
use Rattle.cell.specs.declared.fault.Refusal.TheVariants.{SpoolRecord, SpoolLength}
use Rattle.cell.specs.declared.octets.Cell.{Cell}
use Rattle.spool.specs.declared.record.Mark.TheVariants.{Taken, Waiting, Unused}
use Rattle.spool.specs.Surveys.{survey_of}
use Rattle.spool_listing.specs.Text.{record_line, summary_line, refusal_line}
use Rattle.examples.specs.SpoolListings.{SpoolListingExamples}
use Rattle.std.proofs.lemmas.Fmt.{decimal_digit}

taken : (cell : Cell) → header_of cell ≡ 0x8B → record_line 0 Taken cell ≡ codes "0 taken 8B\n"
unfolding record_line
taken cell e = simp (e, decimal_digit 0 (omega arith))

waiting : (cell : Cell) → header_of cell ≡ 0x17 → record_line 1 Waiting cell ≡ codes "1 waiting 17\n"
unfolding record_line
waiting cell e = simp (e, decimal_digit 1 (omega arith))

unused : (cell : Cell) → record_line 3 Unused cell ≡ codes "3 unused --\n"
unfolding record_line
unused cell = simp (decimal_digit 3 (omega arith))

summed : summary_line 5 (survey_of 1 2 2) ≡ codes "records 5 taken 1 waiting 2 unused 2\n"
unfolding summary_line
summed = simp (decimal_digit 1 (omega arith), decimal_digit 2 (omega arith), decimal_digit 5 (omega arith))

damaged : refusal_line (raised SpoolRecord Spool 3) ≡ codes "refused 8 3\n"
unfolding refusal_line
damaged = simp (decimal_digit 3 (omega arith), decimal_digit 8 (omega arith))

empty : refusal_line (raised SpoolLength Spool 0) ≡ codes "refused 7 0\n"
unfolding refusal_line
empty = simp (decimal_digit 0 (omega arith), decimal_digit 7 (omega arith))

pub spool_listing_examples : SpoolListingExamples
spool_listing_examples = record { line_taken = taken; line_waiting = waiting; line_unused = unused; summary = summed; refused_record = damaged; refused_empty = empty }
