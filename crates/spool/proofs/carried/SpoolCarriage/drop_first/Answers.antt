use Rattle.std.proofs.Common.{refl, ap, ◌∙◌}
use Rattle.cell.specs.declared.octets.Cell.{Cell}
use Rattle.spool.specs.declared.record.Mark.TheVariants.{Taken}
use Rattle.spool.specs.Records.{record_of, with_record}
use Rattle.spool.proofs.Spools.{looked, drop_means, drop_whole}
use Rattle.spool.proofs.carried.SpoolCarriage.drop_first.Goals as goal

pub returns : goal.returns
returns c =
    let s = c.args.self.now in
    let bytes = s.bytes.now in
    let first = looked bytes s.survey.taken s.survey.waiting c.in_ok-cell.cell c.in_ok-cell.ensures in
    let written = c.write_record.ensures ∙ ap (λ (cell : Cell). with_record bytes s.survey.taken (record_of Taken cell)) first.1 in
    record {
      meaning = rw written (drop_means bytes s.survey s.fit first.0);
      store = record {
        written = written;
        counts = refl;
        loan_kept = refl;
        stays_open = λ was-open. rw written (drop_whole bytes s.survey s.fit first.0 was-open);
      };
    }
