-- What a carriage means, and what each call answers and leaves.
use Rattle.std.specs.Prelude.{◌≡◌, ℕ, ◌+◌, ◌<◌, ◌≤◌, List, [], ◌∷◌, ◌++◌, drop, Ok, Err, Result}
use Rattle.cell.specs.Faults.{raised}
use Rattle.cell.specs.declared.fault.Fault.{Fault}
use Rattle.cell.specs.declared.fault.Part.{Part}
use Rattle.cell.specs.declared.fault.Part.TheVariants.{HeaderCode, Ring, Spool, Plan, NearEnd, FarEnd, Carriage}
use Rattle.cell.specs.declared.fault.Refusal.TheVariants.{Full, Empty}
use Rattle.cell.specs.declared.octets.Cell.{Cell}
use Rattle.carriage.specs.declared.fate.Fate.{Fate}
use Rattle.carriage.specs.Fates.{next_fate, later_fates, arriving}

-- The cells that wait, the first to be taken first; its room; the fates ahead, the next one first.
pub record Meaning : Type 0 where
  pub waiting : List Cell
  pub room : ℕ
  pub fates : List Fate

-- Left open: the room after a put is as before or one less.
abbrev pub RoomAfterPut : ℕ → ℕ → Type 0
RoomAfterPut old new = (new ≤ old) × (old ≤ new + 1)

-- Left open: the room after a drop is not less than before.
abbrev pub RoomAfterDrop : ℕ → ℕ → Type 0
RoomAfterDrop old new = old ≤ new

-- A cell was put and has met the next fate.
pub record PutCell (cell : Cell) (old new : Meaning) : Type 0 where
  pub had_room : 0 < old.room
  pub waiting : new.waiting ≡ old.waiting ++ arriving (next_fate old.fates) cell
  pub fates : new.fates ≡ later_fates old.fates
  pub room : RoomAfterPut old.room new.room

-- The first cell that waited is gone.
pub record DroppedCell (old new : Meaning) : Type 0 where
  pub waiting : (cell : Cell) × (old.waiting ≡ cell ∷ new.waiting)
  pub fates : new.fates ≡ old.fates
  pub room : RoomAfterDrop old.room new.room

-- the parts that a refusal of a carriage may name: the ring, the spool, or a carriage from elsewhere
abbrev pub OfCarriage : Part → Type 0
OfCarriage Ring = Unit {0}
OfCarriage Spool = Unit {0}
OfCarriage Carriage = Unit {0}
OfCarriage HeaderCode = ⊥
OfCarriage Plan = ⊥
OfCarriage NearEnd = ⊥
OfCarriage FarEnd = ⊥

-- A put is refused exactly if there is no room, and then changes nothing.
abbrev pub Put : Part → Cell → Meaning → Result (Unit {0}) Fault → Meaning → Type 0
Put part cell old (Ok _) new = PutCell cell old new
Put part cell old (Err fault) new = (old.room ≡ 0) × OfCarriage part × (fault ≡ raised Full part 0) × (new ≡ old)

-- The first cell that waits; refused exactly if none waits.
abbrev pub Look : Part → Meaning → Result Cell Fault → Type 0
Look part old (Ok cell) = old.waiting ≡ cell ∷ drop 1 old.waiting
Look part old (Err fault) = (old.waiting ≡ []) × OfCarriage part × (fault ≡ raised Empty part 0)

-- A drop is refused exactly if none waits, and then changes nothing.
abbrev pub DropFirst : Part → Meaning → Result (Unit {0}) Fault → Meaning → Type 0
DropFirst part old (Ok _) new = DroppedCell old new
DropFirst part old (Err fault) new = (old.waiting ≡ []) × OfCarriage part × (fault ≡ raised Empty part 0) × (new ≡ old)
