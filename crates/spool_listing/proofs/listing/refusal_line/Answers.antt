use Rattle.std.proofs.Common.{◌≡◌, ℕ, ◌≤◌, length, decimal, ◌∙◌, subst, arith}
use Rattle.cell.specs.Faults.{number_of}
use Rattle.text.proofs.Kept.{kept_short}
use Rattle.text.specs.Lines.{text_of, kept}
use Rattle.text.specs.declared.piece.Piece.TheVariants.{Decimal}
use Rattle.spool_listing.specs.Text.{refusal_line}
use Rattle.spool_listing.proofs.Short.{refusal_short}
use Rattle.spool_listing.proofs.listing.refusal_line.Goals as goal

pub returns : goal.returns
unfolding refusal_line
returns c =
    let fault = c.args.fault.now in
    let few = c.of.ensures.digits in
    let is : c.from.result ≡ number_of fault.refusal = c.from.ensures ∙ c.number.ensures in
    let made : text_of c.of.result ≡ kept (refusal_line fault) = cc (c.of.ensures.text, is) in
    let number : length (decimal (number_of fault.refusal)) ≤ 20 = subst (λ (n : ℕ). length (decimal n) ≤ 20) is (few 1 (Decimal 0) (omega arith)) in
    made ∙ kept_short (refusal_line fault) (refusal_short fault number (few 3 (Decimal 0) (omega arith)))
