use Rattle.std.proofs.Common.{ap}
use Rattle.spool.specs.declared.record.Record.{Record}
use Rattle.spool.proofs.Spools.{looks}
use Rattle.spool.proofs.carried.SpoolCarriage.look.Goals as goal

pub returns-in-Some : goal.returns-in-Some
returns-in-Some c =
    let s = c.args.self.now in
    looks s.bytes.now s.survey.taken s.survey.waiting c.in-Some.found.cell c.if-self-gt0.true (ap (λ (r : Record). r.cell) c.in-Some.ensures.1)
