use Rattle.std.proofs.Common.{◌<◌, ◌≤◌, length, vec_items, sym, ap, ◌∙◌, rules}
use Rattle.std.proofs.lemmas.List.{at_drop_more, drop_all, drop-drop}
use Rattle.carriage.specs.Fates.{next_fate, later_fates}
use Rattle.line.proofs.plan.Plan.step.Goals as goal

pub returns-then-self-len : goal.returns-then-self-len
returns-then-self-len c =
    let p = c.args.self.now in
    let n : length (vec_items p.fates) ≤ p.used = search rules in
    let e = drop_all p.used (vec_items p.fates) n in
    record { value = sym (ap next_fate e); left = e ∙ sym (ap later_fates e) }

pub returns : goal.returns
returns c =
    let p = c.args.self.now in
    let n : p.used < length (vec_items p.fates) = search rules in
    let v = at_drop_more next_fate (vec_items p.fates) p.used c.index-fate.result.now n in
    let d = drop-drop 1 p.used (vec_items p.fates) in
    record { value = cc; left = cc }
