-- A put through a line.
use Rattle.std.proofs.Common.{◌≡◌, ℕ, List, Ok, Err, Result}
use Rattle.cell.specs.Cells.{turned}
use Rattle.cell.specs.declared.fault.Fault.{Fault}
use Rattle.cell.specs.declared.fault.Part.{Part}
use Rattle.cell.specs.declared.octets.Cell.{Cell}
use Rattle.carriage.specs.declared.fate.Fate.{Fate}
use Rattle.carriage.specs.declared.fate.Fate.TheVariants.{Turn}
use Rattle.carriage.specs.Fates.{next_fate, later_fates}
use Rattle.carriage.specs.Meaning.{Meaning, Put}
use Rattle.line.specs.Lines.{under}
use Rattle.line.proofs.Composed.{arriving-composed, later_passed}

-- a cell that the plan passes on is put below with the plan's bits turned
pub put_passed : (part : Part) (own left : List Fate) (mask : ℕ) (cell sent : Cell) (old new : Meaning) (r : Result (Unit {0}) Fault) → next_fate own ≡ Turn mask → left ≡ later_fates own → sent ≡ turned mask cell → (old.room ≡ 0 → ⊥) → Put part sent old r new → Put part cell (under own old) r (under left new)
put_passed part own left mask cell sent old new (Ok _) next later turns has p =
    let a = arriving-composed own old.fates mask cell next in
    let f = later_passed own old.fates mask next in
    record { had_room = p.had_room; waiting = cc; fates = cc; room = p.room }
put_passed part own left mask cell sent old new (Err fault) next later turns has p = absurd (has p.0)
