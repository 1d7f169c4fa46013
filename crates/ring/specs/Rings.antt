-- What a ring means, and what each call answers and leaves.
use Rattle.std.specs.Prelude.{◌≡◌, ℕ, ◌+◌, ◌%◌, ◌<◌, List, [], ◌∷◌, ◌++◌, length, drop, Ok, Err, Result, slice_set}
use Rattle.std.specs.Borrow.{GName}
use Rattle.cell.specs.Faults.{raised}
use Rattle.cell.specs.declared.fault.Fault.{Fault}
use Rattle.cell.specs.declared.fault.Part.TheVariants as part
use Rattle.cell.specs.declared.fault.Refusal.TheVariants.{Full, Empty}
use Rattle.ring.specs.Round.{held, slot_after}
use Rattle.ring.specs.declared.ring.Ring.{Ring}

-- the slots, as the lender sees them
abbrev pub slots_of : {T : Type 0} → Ring T → List T
slots_of r = r.slots.now

-- which loan the ring holds
abbrev pub loan_of : {T : Type 0} → Ring T → GName
loan_of r = r.slots.ghost_name

-- the entries, the oldest first
unfoldable pub entries : {T : Type 0} → Ring T → List T
entries r = held (slots_of r) r.head r.count

-- the slot that the next push writes
unfoldable pub next_slot : {T : Type 0} → Ring T → ℕ
next_slot r = slot_after (length (slots_of r)) r.head r.count

-- The entry has joined the end. One slot was written, and all others are as they were.
pub record Pushed {T : Type 0} (old : Ring T) (entry : T) (new : Ring T) : Type 0 where
  pub was_free : length (entries old) < length (slots_of old)
  pub joined : entries new ≡ entries old ++ entry ∷ []
  pub written : slots_of new ≡ slice_set (slots_of old) (next_slot old) entry
  pub moves_on : next_slot new ≡ (next_slot old + 1) % length (slots_of old)
  pub loan_kept : loan_of new ≡ loan_of old

-- The oldest entry has gone. No slot was written.
pub record Popped {T : Type 0} (old : Ring T) (entry : T) (new : Ring T) : Type 0 where
  pub removed : entries old ≡ entry ∷ entries new
  pub unwritten : slots_of new ≡ slots_of old
  pub stays : next_slot new ≡ next_slot old
  pub loan_kept : loan_of new ≡ loan_of old

-- A push is refused exactly if every slot is in use, and then changes nothing.
abbrev pub Push : {T : Type 0} → Ring T → T → Result (Unit {0}) Fault → Ring T → Type 0
Push old entry (Ok _) new = Pushed old entry new
Push old entry (Err fault) new = (length (entries old) ≡ length (slots_of old)) × (fault ≡ raised Full part.Ring 0) × (new ≡ old)

-- A pop is refused exactly if there is no entry, and then changes nothing.
abbrev pub Pop : {T : Type 0} → Ring T → Result T Fault → Ring T → Type 0
Pop old (Ok entry) new = Popped old entry new
Pop old (Err fault) new = (entries old ≡ []) × (fault ≡ raised Empty part.Ring 0) × (new ≡ old)

-- The oldest entry, refused exactly if there is none.
abbrev pub First : {T : Type 0} → Ring T → Result T Fault → Type 0
First r (Ok entry) = entries r ≡ entry ∷ drop 1 (entries r)
First r (Err fault) = (entries r ≡ []) × (fault ≡ raised Empty part.Ring 0)
