use Rattle.std.proofs.Common.{◌≡◌, length, refl, arith, rules}
use Rattle.spool.proofs.Spools.{put_means, put_whole}
use Rattle.spool.proofs.carried.SpoolCarriage.put.Goals as goal

pub returns : goal.returns
returns c =
    let s = c.args.self.now in
    let cell = c.args.cell in
    let n : length cell.octets ≡ 48 = search rules in
    record {
      meaning = rw c.write_record.ensures (put_means s.bytes.now s.survey cell s.fit (omega arith) n);
      store = record {
        written = c.write_record.ensures;
        counts = refl;
        loan_kept = refl;
        stays_open = λ was-open. rw c.write_record.ensures (put_whole s.bytes.now s.survey cell (omega arith) n was-open);
      };
    }
