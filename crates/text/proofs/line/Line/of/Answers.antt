use Rattle.std.proofs.Common.{subst}
use Rattle.std.proofs.lemmas.List.{get_or_default}
use Rattle.std.proofs.lemmas.List.Elements.{AllWithin-more}
use Rattle.text.specs.Lines.{text_of, FewDigits}
use Rattle.text.proofs.Kept.{kept_piece}
use Rattle.text.proofs.line.Line.of.Goals as goal

pub loop-piece-preserved : goal.loop-piece-preserved
loop-piece-preserved c =
    let turn = c.loop-piece in
    let pieces = c.args.pieces.now in
    let inside = c.loop-piece-test.true in
    record {
      text = kept_piece (text_of turn.line) (text_of c.push.new.self) pieces turn.piece-index _ inside turn.invariant.text c.push.ensures.text;
      digits = AllWithin-more FewDigits pieces 0 turn.piece-index turn.invariant.digits (λ d. subst FewDigits (get_or_default pieces turn.piece-index _ d inside) c.push.ensures.digits);
    }
