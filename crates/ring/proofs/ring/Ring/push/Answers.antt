use Rattle.std.proofs.Common.{ℕ, set, refl, ap, arith}
use Rattle.ring.proofs.Rings.{pushed}
use Rattle.ring.proofs.ring.Ring.push.Goals as goal

pub returns : goal.returns
returns g c =
    let r = c.args.self.now in
    pushed r _ c.args.entry (omega arith) (ap (λ (i : ℕ). set r.slots.now i c.args.entry) c.next_slot-at.ensures.value) refl refl refl
