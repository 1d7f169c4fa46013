-- The queue as a carriage.
use Rattle.std.specs.Prelude.{◌-◌, [], length}
use Rattle.cell.specs.declared.octets.Cell.{Cell}
use Rattle.ring.specs.declared.ring.Ring.{Ring}
use Rattle.ring.specs.Rings.{entries, slots_of, Popped}
use Rattle.carriage.specs.Meaning.{Meaning}

-- its entries wait, its free slots are its room, and it has no fates
abbrev pub queue_meaning : Ring Cell → Meaning
queue_meaning q = record { waiting = entries q; room = length (slots_of q) - length (entries q); fates = [] }

-- the oldest entry was popped, whichever it was
abbrev pub PoppedFirst : Ring Cell → Ring Cell → Type 0
PoppedFirst old new = (cell : Cell) × Popped old cell new
