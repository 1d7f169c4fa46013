use Rattle.std.proofs.Common.{◌≡◌, Ok, sym, refl, ap, ◌∙◌, subst, inr, arith, rules}
use Rattle.std.proofs.lemmas.Result.{err_from_is_err_and}
use Rattle.cell.specs.Faults.{raised}
use Rattle.cell.specs.declared.fault.Part.TheVariants as part
use Rattle.cell.specs.declared.fault.Refusal.TheVariants.{SpoolRecord}
use Rattle.spool.specs.declared.record.Record.{Record}
use Rattle.spool.specs.Records.{parted}
use Rattle.spool.specs.Surveys.{Misplaced, Surveyed}
use Rattle.spool.proofs.Records.{record_in}
use Rattle.spool.proofs.Surveys.{counts_none, counts_one, only_answer}
use Rattle.spool.proofs.survey.Survey.of.Goals as goal

pub returns-in_err-survey : goal.returns-in_err-survey
returns-in_err-survey c =
    let bytes = c.args.bytes.now in
    let inv = c.loop-number.invariant in
    let here = record_in bytes c.as_chunks.result.0.now c.loop-number.number _ c.as_chunks.ensures.front (omega arith) in
    let read = ap (λ (r : Record). r.mark) (c.apart-mark.ensures ∙ ap parted here.1) in
    let refused = c.in_err-survey.ensures in
    let value = rw refused.ok_part at refused.value in
    let fault : c.in_err-survey.field-0.0 ≡ raised SpoolRecord part.Spool c.loop-number.number = cc in
    let misplaced = counts_none c.loop-number.survey c.apart-mark.result.mark (sym c.with.ensures ∙ refused.ok_part) in
    let p = err_from_is_err_and c.from_residual.result c.from_residual.ensures.1 in
    let answer : Surveyed bytes c.from_residual.result = rw (p.1, p.2, fault) (inr (
      c.loop-number.number,
      record {
        long = (omega arith, omega arith, omega arith);
        within = here.0;
        before = (c.loop-number.survey, inv.counted, inv.ordered, subst (Misplaced c.loop-number.survey) read misplaced);
      },
      refl,
    )) in
    record { answer = answer; only = only_answer bytes c.from_residual.result answer }

pub loop-number-preserved : goal.loop-number-preserved
loop-number-preserved c =
    let bytes = c.args.bytes.now in
    let inv = c.loop-number.invariant in
    let here = record_in bytes c.as_chunks.result.0.now c.loop-number.number _ c.as_chunks.ensures.front (omega arith) in
    let read = ap (λ (r : Record). r.mark) (c.apart-mark.ensures ∙ ap parted here.1) in
    let one = counts_one bytes c.loop-number.survey c.in_ok-survey.survey c.loop-number.number c.apart-mark.result.mark inv.counted inv.ordered here.0 read (sym c.with.ensures ∙ c.in_ok-survey.ensures.ok_part) in
    record { counted = one.0; ordered = one.1 }

pub returns-clause-only : goal.returns-clause-only
returns-clause-only c = only_answer c.args.bytes.now (Ok c.loop-number.survey) (search rules)
