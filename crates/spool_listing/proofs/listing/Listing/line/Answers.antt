use Rattle.std.proofs.Common.{◌≡◌, ap, ◌∙◌, arith}
use Rattle.cell.specs.declared.octets.Cell.{Cell}
use Rattle.spool.specs.declared.record.Mark.{Mark}
use Rattle.spool.specs.declared.record.Record.{Record}
use Rattle.spool.specs.Records.{cell_at}
use Rattle.spool.specs.Surveys.{mark_in}
use Rattle.text.proofs.Kept.{kept_short}
use Rattle.text.specs.Lines.{text_of, kept}
use Rattle.text.specs.declared.piece.Piece.TheVariants.{Decimal}
use Rattle.spool_listing.specs.Text.{record_line}
use Rattle.spool_listing.proofs.Short.{line_short}
use Rattle.spool_listing.proofs.listing.Listing.line.Goals as goal

pub returns : goal.returns
unfolding record_line
returns c =
    let l = c.args.self.now in
    let number = c.args.number in
    let mark : Mark = mark_in l.survey number in
    let cell : Cell = cell_at l.bytes.now number in
    let found = c.in_ok-found.ensures in
    let same : c.in_ok-found.found.cell ≡ cell = ap (λ (r : Record). r.cell) found.1 in
    let made : text_of c.of.result ≡ kept (record_line number mark cell) = cc (c.of.ensures.text, c.mark-mark.ensures, c.mark_piece.ensures, c.header_piece.ensures, same) in
    (found.0, made ∙ kept_short (record_line number mark cell) (line_short number mark cell (c.of.ensures.digits 0 (Decimal 0) (omega arith))))
