use Rattle.std.proofs.Common.{◌≡◌, ◌≤◌, ◌++◌, length, codes, decimal, ◌∙◌, subst, arith}
use Rattle.text.proofs.Kept.{kept_short}
use Rattle.text.specs.Lines.{text_of, kept}
use Rattle.text.specs.declared.piece.Piece.TheVariants.{Decimal}
use Rattle.header.specs.Reading.{mode_name}
use Rattle.header_listing.specs.Text.{validity_word, line_of}
use Rattle.header_listing.proofs.Short.{line_short, spaced_word}
use Rattle.header_listing.proofs.entry.Entry.line.Goals as goal

pub returns : goal.returns
unfolding line_of
returns c =
    let e = c.args.self.now in
    let spaced = spaced_word (decimal e.reading.count) c.validity_words.result.now (validity_word e.reading.valid) (mode_name e.mode ++ codes "\n") c.validity_words.ensures in
    let made : text_of c.of.result ≡ kept (line_of e) = cc (c.of.ensures.text, c.from.ensures, c.from-2.ensures, c.name.ensures, spaced) in
    let csi : length (decimal e.reading.csi) ≤ 20 = subst (λ n. length (decimal n) ≤ 20) c.from.ensures (c.of.ensures.digits 2 (Decimal 0) (omega arith)) in
    let count : length (decimal e.reading.count) ≤ 20 = subst (λ n. length (decimal n) ≤ 20) c.from-2.ensures (c.of.ensures.digits 4 (Decimal 0) (omega arith)) in
    made ∙ kept_short (line_of e) (line_short e csi count)
