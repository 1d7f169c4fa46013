use Rattle.std.proofs.Common.{refl}
use Rattle.std.proofs.lemmas.Result.{err_from_is_err_and}
use Rattle.spool.proofs.Spools.{never_refused, means_again}
use Rattle.spool.proofs.spool.Spool.open.Goals as goal

pub returns-in_err-self : goal.returns-in_err-self
returns-in_err-self c =
    let bytes = c.args.self.now.bytes.now in
    let refused = c.in_err-self.ensures in
    let p = err_from_is_err_and c.from_residual.result c.from_residual.ensures.1 in
    rw (p.1, p.2) (record { answer = (refused, refl); reopens = λ left was-open same. absurd (never_refused bytes c.in_err-self.field-0.0 left was-open same refused) })

pub returns-clause-reopens : goal.returns-clause-reopens
returns-clause-reopens c = λ left was-open same. (refl, means_again c.args.self.now.bytes.now c.in_ok-self.field-0 left was-open same c.in_ok-self.ensures)
