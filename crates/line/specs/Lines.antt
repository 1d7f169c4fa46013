-- A line over a carriage: what it means, and what it does to the store below.
use Rattle.std.specs.Prelude.{◌≡◌, ℕ, List, [], ◌∷◌, length, drop, bit_xor}
use Rattle.cell.specs.Cells.{turned}
use Rattle.cell.specs.declared.octets.Cell.{Cell}
use Rattle.carriage.specs.declared.fate.Fate.{Fate}
use Rattle.carriage.specs.declared.fate.Fate.TheVariants.{Turn, Lost}
use Rattle.carriage.specs.Fates.{next_fate, later_fates, arrivals}
use Rattle.carriage.specs.Meaning.{Meaning}
use Rattle.line.specs.declared.line.Line.{Line}
use Rattle.line.specs.Plans.{ahead}

-- a mask of the line's own meets a fate below: lost if that is lost, and else the bits of both are turned
abbrev pub meeting : ℕ → Fate → Fate
meeting mask (Turn below) = Turn (bit_xor mask below)
meeting mask Lost = Lost

-- The fates ahead of a line, found by stepping through its own: an own lost uses none below, and an own mask the next one.
-- Those left below follow.
abbrev pub composed : List Fate → List Fate → List Fate
composed [] below = below
composed (Lost ∷ own) below = Lost ∷ composed own below
composed (Turn mask ∷ own) below = meeting mask (next_fate below) ∷ composed own (later_fates below)

-- What a carriage means under a plan: the cells that wait and the room are those below.
abbrev pub under : List Fate → Meaning → Meaning
under own below = record { waiting = below.waiting; room = below.room; fates = composed own below.fates }

abbrev pub line_meaning : {S : Type 0} → (S → Meaning) → Line S → Meaning
line_meaning means l = under (ahead l.plan.now) (means l.below.now)

-- What becomes of the carriage below when a cell has met a fate of the line's own: a lost cell does not come to it.
abbrev pub PassedOn : {S : Type 0} → (S → Cell → S → Type 0) → Fate → S → Cell → S → Type 0
PassedOn stores (Turn mask) old cell new = stores old (turned mask cell) new
PassedOn stores Lost old cell new = new ≡ old

-- A put through a line: what the line passes on is stored below, and the plan has moved on by one fate.
pub record StoresThrough {S : Type 0} (stores : S → Cell → S → Type 0) (old : Line S) (cell : Cell) (new : Line S) : Type 0 where
  pub below : PassedOn stores (next_fate (ahead old.plan.now)) old.below.now cell new.below.now
  pub plan : ahead new.plan.now ≡ later_fates (ahead old.plan.now)
  pub below_kept : new.below.ghost_name ≡ old.below.ghost_name
  pub plan_kept : new.plan.ghost_name ≡ old.plan.ghost_name

-- A drop through a line is a drop below. The plan stays.
pub record FreesThrough {S : Type 0} (frees : S → S → Type 0) (old new : Line S) : Type 0 where
  pub below : frees old.below.now new.below.now
  pub plan : new.plan ≡ old.plan
  pub below_kept : new.below.ghost_name ≡ old.below.ghost_name

-- What composed fates do to cells that are put one after the other, whichever cells these are.
pub record Composes (own below line : List Fate) : Type 0 where
  -- what arrives is what the plan passes on, put into the carriage below
  pub arrive : (cells : List Cell) → arrivals line cells ≡ arrivals below (arrivals own cells)
  -- and the plan has used up a fate for each cell, the carriage below one for each that the plan passed on
  pub left : (cells : List Cell) → drop (length cells) line ≡ composed (drop (length cells) own) (drop (length (arrivals own cells)) below)
