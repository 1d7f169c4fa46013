use Rattle.std.proofs.Common.{◌≡◌, length}
use Rattle.headers.proofs.list.Given as goal

-- the buffer keeps its length
abbrev pub invariant-loop : goal.invariant-loop
invariant-loop l = length l.piece ≡ 4096
