use Rattle.std.proofs.Common.{refl}
use Rattle.ring.proofs.Rings.{popped}
use Rattle.ring.proofs.ring.Ring.pop.Goals as goal

pub returns : goal.returns
returns g c = popped c.args.self.now _ _ c.in_ok-oldest.ensures refl c.next_head-self.ensures refl refl
