-- A line over a carriage: what the two make of cells.
use Rattle.std.proofs.Common.{◌≡◌, ℕ, List, [], ◌∷◌, length, drop, refl, one-add}
use Rattle.std.proofs.lemmas.List.{drop-drop}
use Rattle.cell.proofs.Cells.{turned_none, turned_twice}
use Rattle.cell.specs.Cells.{turned}
use Rattle.cell.specs.declared.octets.Cell.{Cell}
use Rattle.carriage.specs.declared.fate.Fate.{Fate}
use Rattle.carriage.specs.declared.fate.Fate.TheVariants.{Turn, Lost}
use Rattle.carriage.specs.Fates.{next_fate, later_fates, arriving, arrivals}
use Rattle.line.specs.Lines.{meeting, composed, Composes}

-- a cell with bits turned meets a fate as the cell itself meets the two
pub arriving-meeting : (fate : Fate) (mask : ℕ) (cell : Cell) → arriving fate (turned mask cell) ≡ arriving (meeting mask fate) cell
arriving-meeting (Turn below) mask cell = let t = turned_twice cell mask below in cc
arriving-meeting Lost mask cell = refl

-- what a line's next fate makes of a cell: nothing, or what the fate below makes of the cell with the bits turned
pub arriving-composed : (own below : List Fate) (mask : ℕ) (cell : Cell) → next_fate own ≡ Turn mask → arriving (next_fate below) (turned mask cell) ≡ arriving (next_fate (composed own below)) cell
arriving-composed [] below mask cell e =
    let t = turned_none cell in cc
arriving-composed (Turn m ∷ own) below mask cell e =
    let t = arriving-meeting (next_fate below) mask cell in cc
arriving-composed (Lost ∷ own) below mask cell e = cc

-- the fates left once a cell has passed the line
pub later_passed : (own below : List Fate) (mask : ℕ) → next_fate own ≡ Turn mask → composed (later_fates own) (later_fates below) ≡ later_fates (composed own below)
later_passed [] below mask e = refl
later_passed (Turn m ∷ own) below mask e = refl
later_passed (Lost ∷ own) below mask e = cc

-- with no fates of its own a line passes every cell on as it is
arrivals_none : (cells : List Cell) → arrivals [] cells ≡ cells
arrivals_none [] = refl
arrivals_none (cell ∷ cells) = let t = turned_none cell in let rest = arrivals_none cells in cc

-- what arrives through a line is what the line passes on, put into the carriage below
pub arrivals-composed : (own below : List Fate) (cells : List Cell) → arrivals (composed own below) cells ≡ arrivals below (arrivals own cells)
arrivals-composed own below [] = refl
arrivals-composed [] below (cell ∷ cells) = let n = arrivals_none (cell ∷ cells) in cc
arrivals-composed (Lost ∷ own) below (cell ∷ cells) = arrivals-composed own below cells
arrivals-composed (Turn mask ∷ own) below (cell ∷ cells) =
    let rest = arrivals-composed own (later_fates below) cells in
    let here = arriving-meeting (next_fate below) mask cell in
    cc

-- and the fates left: the line's own by the cells put into it, those below by the cells that it passed on
pub left_composed : (own below : List Fate) (cells : List Cell) → drop (length cells) (composed own below) ≡ composed (drop (length cells) own) (drop (length (arrivals own cells)) below)
left_composed own below [] = refl
left_composed [] below (cell ∷ cells) = let n = arrivals_none (cell ∷ cells) in cc
left_composed (Lost ∷ own) below (cell ∷ cells) = left_composed own below cells
left_composed (Turn mask ∷ own) below (cell ∷ cells) =
    let rest = left_composed own (later_fates below) cells in
    let later = drop-drop (length (arrivals own cells)) 1 below in
    let n = one-add (length (arrivals own cells)) in
    cc

pub composes : (own below : List Fate) → Composes own below (composed own below)
composes own below = record { arrive = arrivals-composed own below; left = left_composed own below }
