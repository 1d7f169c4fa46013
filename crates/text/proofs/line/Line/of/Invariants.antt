use Rattle.std.proofs.Common.{◌≡◌, take}
use Rattle.std.specs.List.{AllWithin}
use Rattle.text.specs.Lines.{text_of, kept, text_of_pieces, FewDigits}
use Rattle.text.proofs.line.Line.of.Given as goal

-- the pieces before this one are pushed
abbrev pub invariant-loop-piece : goal.invariant-loop-piece
invariant-loop-piece l = record {
  text : text_of l.line ≡ kept (text_of_pieces (take l.piece-index l.pieces));
  digits : AllWithin FewDigits l.pieces 0 l.piece-index;
}
