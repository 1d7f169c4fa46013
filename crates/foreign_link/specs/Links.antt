-- What a link means, and what put and drop make of it.
use Rattle.std.specs.Prelude.{ℕ, zero, suc, List, [], ◌∷◌, replicate, Some, None, Option}
use Rattle.cell.specs.declared.octets.Cell.{Cell}
use Rattle.carriage.specs.declared.fate.Fate.TheVariants.{Lost}
use Rattle.carriage.specs.Meaning.{Meaning}
use Rattle.foreign_link.specs.declared.link.Link.{Link}

abbrev pub link_of : ℕ → Option Cell → Link
link_of unlocked held = record { unlocked = unlocked; held = held }

abbrev pub opened : ℕ → Link
opened unlocked = link_of unlocked None

-- the cell that is held waits, and there is room for one where none is held
abbrev pub held_cells : Option Cell → List Cell
held_cells (Some cell) = cell ∷ []
held_cells None = []

abbrev pub room_beside : Option Cell → ℕ
room_beside (Some cell) = 0
room_beside None = 1

-- each cell before the link is locked is lost
abbrev pub link_meaning : Link → Meaning
link_meaning l = record { waiting = held_cells l.held; room = room_beside l.held; fates = replicate l.unlocked Lost }

-- a put: before the link is locked the cell is lost, and then it is held
abbrev pub stored_at : ℕ → Link → Cell → Link
stored_at zero l cell = link_of 0 (Some cell)
stored_at (suc n) l cell = link_of n l.held

abbrev pub stored : Link → Cell → Link
stored l cell = stored_at l.unlocked l cell

-- a drop: nothing is held any more
abbrev pub freed : Link → Link
freed l = link_of l.unlocked None
