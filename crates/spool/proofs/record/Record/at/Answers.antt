use Rattle.std.proofs.Common.{[], ap, ◌∙◌, arith}
use Rattle.spool.specs.Records.{parted}
use Rattle.spool.proofs.Records.{record_in}
use Rattle.spool.proofs.record.Record.at.Goals as goal

pub returns : goal.returns
returns c =
    let here = record_in c.args.bytes.now c.as_chunks.result.0.now c.args.number [] c.as_chunks.ensures.front (omega arith) in
    (here.0, c.apart.ensures ∙ ap parted here.1)
