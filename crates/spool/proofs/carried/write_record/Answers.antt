use Rattle.std.proofs.Common.{◌≡◌, length, rules}
use Rattle.spool.proofs.Records.{record_written}
use Rattle.spool.proofs.carried.write_record.Goals as goal

pub returns : goal.returns
returns c =
    let n : length c.args.cell.octets ≡ 48 = search rules in
    let e = record_written c.args.bytes.now c.args.cell.octets c.args.number c.args.mark c.requires n in
    rw (c.copy_from_slice.ensures.after, c.copy_from_slice-2.ensures.after, c.from-mark.ensures) e
