-- Many puts, one after the other.
use Rattle.std.specs.Prelude.{◌≡◌, List, [], ◌∷◌, ◌++◌, length, drop}
use Rattle.cell.specs.declared.octets.Cell.{Cell}
use Rattle.carriage.specs.Fates.{arrivals}
use Rattle.carriage.specs.Meaning.{Meaning, PutCell}

-- These cells were put in this order, and each put was accepted.
pub data Puts : Meaning → List Cell → Meaning → Type 0 where
  none : {m : Meaning} → Puts m [] m
  more : {cell : Cell} {cells : List Cell} {old next new : Meaning} → PutCell cell old next → Puts next cells new → Puts old (cell ∷ cells) new

-- Those arrive behind the cells that wait that the fates ahead let arrive, and each cell has used up a fate.
pub record Arrived (old : Meaning) (cells : List Cell) (new : Meaning) : Type 0 where
  pub waiting : new.waiting ≡ old.waiting ++ arrivals old.fates cells
  pub fates : new.fates ≡ drop (length cells) old.fates

abbrev pub PutsArrive : Type 0
PutsArrive = (old new : Meaning) (cells : List Cell) → Puts old cells new → Arrived old cells new
