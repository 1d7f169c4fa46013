-- What becomes of bytes that are lent to a spool for one put.
use Rattle.std.specs.Prelude.{◌≡◌, ℕ, ◌+◌, ◌<◌, ◌⊎◌, List, Ok, Err, Result}
use Rattle.cell.specs.Faults.{raised}
use Rattle.cell.specs.declared.fault.Fault.{Fault}
use Rattle.cell.specs.declared.fault.Part.TheVariants as part
use Rattle.cell.specs.declared.fault.Refusal.TheVariants.{Full}
use Rattle.cell.specs.declared.octets.Cell.{Cell}
use Rattle.spool.specs.Records.{record_of, with_record}
use Rattle.spool.specs.Surveys.{Whole, Surveyed}
use Rattle.spool.specs.declared.record.Mark.TheVariants.{Waiting}
use Rattle.spool.specs.declared.survey.Survey.{Survey}

-- The cell stands in the first unused record. Refused as the opening is, or because no record is unused; then no byte changes.
abbrev pub StoredOne : List ℕ → Cell → Result (Unit {0}) Fault → List ℕ → Type 0
StoredOne old cell (Ok _) new = (s : Survey) × Whole old s × (0 < s.unused) × (new ≡ with_record old (s.taken + s.waiting) (record_of Waiting cell))
StoredOne old cell (Err fault) new = ((Surveyed old (Err fault)) ⊎ ((s : Survey) × Whole old s × (s.unused ≡ 0) × (fault ≡ raised Full part.Spool 0))) × (new ≡ old)
