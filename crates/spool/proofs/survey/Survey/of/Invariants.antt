use Rattle.std.proofs.Common.{◌≡◌}
use Rattle.spool.specs.Surveys.{records_of, Ordered}
use Rattle.spool.proofs.survey.Survey.of.Given as goal

-- the records before the next one are counted, and in order
abbrev pub invariant-loop-number : goal.invariant-loop-number
invariant-loop-number l = record {
  counted : records_of l.survey ≡ l.number;
  ordered : Ordered l.bytes l.survey;
}
