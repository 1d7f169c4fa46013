-- What a draft holds, and what writing into it answers and leaves.
use Rattle.std.specs.Prelude.{◌≡◌, ℕ, if◌then◌else◌, List, [], ◌∷◌, ◌++◌, length, Some, None, Ok, Err, vec_items, Option, Result, nat_le, nat_lt, slice_set}
use Rattle.std.specs.Borrow.{LendsIf, MutBor, Fml}
use Rattle.std.specs.Vec.{with_item}
use Rattle.cell.specs.Faults.{raised}
use Rattle.cell.specs.declared.fault.Fault.{Fault}
use Rattle.cell.specs.declared.fault.Part.TheVariants.{Plan}
use Rattle.cell.specs.declared.fault.Refusal.TheVariants.{FateNumber, PlanFull, NoFate}
use Rattle.carriage.specs.Fates.{fate_of}
use Rattle.carriage.specs.declared.fate.Fate.{Fate}
use Rattle.carriage.specs.contracts.fate.Fate.{the_row as fate_row}
use Rattle.line.specs.declared.draft.Draft.{Draft}
use Rattle.line.specs.declared.draft.Table.{Table}
use Rattle.line.specs.contracts.draft.Table.{the_row}

-- the fates that are written, the first to be met first
abbrev pub written : Draft → List Fate
written d = vec_items d.table.fates

-- the table with another fate at a place
abbrev pub with_fate : Table → ℕ → Fate → Table
with_fate table place fate = record { fates = with_item table.fates place fate }

-- The table ends with what was last written through the loan, at this place. Where nothing is lent it ends as it was.
abbrev pub LendsFate : MutBor Table → ℕ → Option (MutBor Fate) → Fml
LendsFate table place lent = LendsIf the_row fate_row table lent (with_fate table.now place) table.now

-- why a fate is not added: its number is over 256; then, 64 are written
abbrev pub add_fault : List Fate → ℕ → Option Fault
add_fault fates number =
    if nat_lt 256 number then Some (raised FateNumber Plan 0)
    else if nat_le 64 (length fates) then Some (raised PlanFull Plan 0)
    else None

-- why a fate is not amended: none is written at the place; then, the new number is over 256
abbrev pub amend_fault : List Fate → ℕ → ℕ → Option Fault
amend_fault fates place number =
    if nat_le (length fates) place then Some (raised NoFate Plan place)
    else if nat_lt 256 number then Some (raised FateNumber Plan 0)
    else None

-- one fate more is written, after all the others
abbrev pub Added : Draft → ℕ → Result (Unit {0}) Fault → Draft → Type 0
Added old number (Ok _) new = (add_fault (written old) number ≡ None) × ((fate : Fate) × (fate_of number ≡ Some fate) × (written new ≡ written old ++ fate ∷ []))
Added old number (Err fault) new = (add_fault (written old) number ≡ Some fault) × (new ≡ old)

-- the fate at a place is another one, and all others are as they were
abbrev pub Amended : Draft → ℕ → ℕ → Result (Unit {0}) Fault → Draft → Type 0
Amended old place number (Ok _) new = (amend_fault (written old) place number ≡ None) × ((fate : Fate) × (fate_of number ≡ Some fate) × (written new ≡ slice_set (written old) place fate))
Amended old place number (Err fault) new = (amend_fault (written old) place number ≡ Some fault) × (new ≡ old)
