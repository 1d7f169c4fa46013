-- What a spool means, and what its calls leave in its bytes.
use Rattle.std.specs.Prelude.{◌≡◌, ℕ, ◌+◌, ◌-◌, List, [], map, Ok, Err, Result}
use Rattle.std.specs.Borrow.{GName}
use Rattle.std.specs.List.{range_with_len}
use Rattle.cell.specs.declared.fault.Fault.{Fault}
use Rattle.cell.specs.declared.octets.Cell.{Cell}
use Rattle.carriage.specs.Meaning.{Meaning}
use Rattle.spool.specs.declared.record.Mark.TheVariants.{Taken, Waiting}
use Rattle.spool.specs.declared.spool.Spool.{Spool}
use Rattle.spool.specs.declared.survey.Survey.{Survey}
use Rattle.spool.specs.Records.{cell_at, record_of, with_record}
use Rattle.spool.specs.Surveys.{survey_of, Surveyed, Whole}

-- the bytes, as the lender sees them
abbrev pub bytes_of : Spool → List ℕ
bytes_of s = s.bytes.now

-- which loan the spool holds
abbrev pub loan_of : Spool → GName
loan_of s = s.bytes.ghost_name

-- the cells in so many records, from this number on
abbrev pub cells_in : List ℕ → ℕ → ℕ → List Cell
cells_in bytes from count = map (cell_at bytes) (range_with_len from count)

-- the waiting records' cells wait, the unused records are its room, and it has no fates
abbrev pub meaning_in : List ℕ → Survey → Meaning
meaning_in bytes survey = record { waiting = cells_in bytes survey.taken survey.waiting; room = survey.unused; fates = [] }

abbrev pub spool_meaning : Spool → Meaning
spool_meaning s = meaning_in (bytes_of s) s.survey

-- A spool that was opened, and was used since: its records are all of its bytes, and in order.
abbrev pub IsOpen : Spool → Type 0
IsOpen s = Whole (bytes_of s) s.survey

-- The cell stands in the first record that was unused, and waits. All other bytes are as they were.
pub record Stored (old : Spool) (cell : Cell) (new : Spool) : Type 0 where
  pub written : bytes_of new ≡ with_record (bytes_of old) (old.survey.taken + old.survey.waiting) (record_of Waiting cell)
  pub counts : new.survey ≡ survey_of old.survey.taken (old.survey.waiting + 1) (old.survey.unused - 1)
  pub loan_kept : loan_of new ≡ loan_of old
  pub stays_open : IsOpen old → IsOpen new

-- The first record that waited is marked taken and keeps its cell. All other bytes are as they were.
pub record Freed (old new : Spool) : Type 0 where
  pub written : bytes_of new ≡ with_record (bytes_of old) old.survey.taken (record_of Taken (cell_at (bytes_of old) old.survey.taken))
  pub counts : new.survey ≡ survey_of (old.survey.taken + 1) (old.survey.waiting - 1) old.survey.unused
  pub loan_kept : loan_of new ≡ loan_of old
  pub stays_open : IsOpen old → IsOpen new

-- The records of the bytes are counted, and no byte changes. A refused opening changes nothing at all.
abbrev pub Opened : Spool → Result (Unit {0}) Fault → Spool → Type 0
Opened old (Ok _) new = Surveyed (bytes_of old) (Ok new.survey) × (bytes_of new ≡ bytes_of old) × (loan_of new ≡ loan_of old)
Opened old (Err fault) new = Surveyed (bytes_of old) (Err fault) × (new ≡ old)

-- Whichever open spool left these bytes behind: opening them is accepted, and gives a spool of the same meaning.
abbrev pub Reopened : Spool → Result (Unit {0}) Fault → Spool → Type 0
Reopened old r new = (left : Spool) → IsOpen left → bytes_of left ≡ bytes_of old → (r ≡ Ok tt) × (spool_meaning new ≡ spool_meaning left)
