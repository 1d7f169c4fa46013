use Rattle.std.proofs.lemmas.List.FromFn.{length-map-range_with_len}
use Rattle.spool.proofs.carried.SpoolCarriage.waiting.Goals as goal

pub returns : goal.returns
returns c = simp length-map-range_with_len
