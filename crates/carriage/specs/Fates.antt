-- Fates: what becomes of a cell on its way.
use Rattle.std.specs.Prelude.{◌≡◌, ℕ, if◌then◌else◌, List, [], ◌∷◌, ◌++◌, drop, Some, None, Ok, Err, Option, Result, ◌==◌, nat_lt}
use Rattle.cell.specs.Cells.{turned}
use Rattle.cell.specs.Faults.{raised}
use Rattle.cell.specs.declared.fault.Fault.{Fault}
use Rattle.cell.specs.declared.fault.Part.TheVariants.{Plan}
use Rattle.cell.specs.declared.fault.Refusal.TheVariants.{FateNumber}
use Rattle.cell.specs.declared.octets.Cell.{Cell}
use Rattle.carriage.specs.declared.fate.Fate.{Fate}
use Rattle.carriage.specs.declared.fate.Fate.TheVariants.{Turn, Lost}

-- the number of a fate: the header bits to turn, or 256, lost
abbrev pub number_of : Fate → ℕ
number_of (Turn mask) = mask
number_of Lost = 256

-- the fate of a number, which is at most 256
abbrev pub fate_of : ℕ → Option Fate
fate_of number =
    if nat_lt number 256 then Some (Turn number)
    else if number == 256 then Some Lost
    else None

-- The fate of a number. Refused exactly if none has it.
abbrev pub FateNumbered : ℕ → Result Fate Fault → Type 0
FateNumbered number (Ok fate) = fate_of number ≡ Some fate
FateNumbered number (Err fault) = (fate_of number ≡ None) × (fault ≡ raised FateNumber Plan 0)

-- the fate that the next cell meets: with none left no bit is turned
abbrev pub next_fate : List Fate → Fate
next_fate [] = Turn 0
next_fate (fate ∷ _) = fate

-- the fates that are left once the next cell has met its own
abbrev pub later_fates : List Fate → List Fate
later_fates fates = drop 1 fates

-- what arrives of a cell that meets a fate
abbrev pub arriving : Fate → Cell → List Cell
arriving (Turn mask) cell = turned mask cell ∷ []
arriving Lost cell = []

-- what arrives of some cells, put one after the other
abbrev pub arrivals : List Fate → List Cell → List Cell
arrivals fates [] = []
arrivals fates (cell ∷ cells) = arriving (next_fate fates) cell ++ arrivals (later_fates fates) cells
