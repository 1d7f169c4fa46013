use Rattle.std.proofs.Common.{◌∙◌, arith}
use Rattle.text.proofs.Kept.{kept_short}
use Rattle.text.specs.declared.piece.Piece.TheVariants.{Decimal}
use Rattle.header_listing.specs.Text.{summary_of}
use Rattle.header_listing.proofs.Short.{summary_short}
use Rattle.header_listing.proofs.listing.Tally.line.Goals as goal

pub returns : goal.returns
unfolding summary_of
returns c =
    let t = c.args.self.now in
    let few = c.of.ensures.digits in
    c.of.ensures.text ∙ kept_short (summary_of t) (summary_short t (few 1 (Decimal 0) (omega arith)) (few 3 (Decimal 0) (omega arith)) (few 5 (Decimal 0) (omega arith)))
