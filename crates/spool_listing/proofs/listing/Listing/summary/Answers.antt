use Rattle.std.proofs.Common.{◌≡◌, ℕ, ◌/◌, length, ap, ◌∙◌, arith}
use Rattle.spool.specs.Surveys.{records_of}
use Rattle.text.proofs.Kept.{kept_short}
use Rattle.text.specs.Lines.{text_of, kept}
use Rattle.spool_listing.specs.Text.{summary_line}
use Rattle.spool_listing.proofs.Short.{summary_short}
use Rattle.spool_listing.proofs.listing.Listing.summary.Goals as goal

pub returns : goal.returns
unfolding summary_line
returns c =
    let l = c.args.self.now in
    let s = l.survey in
    let records : ℕ = length l.bytes.now / 50 in
    let text : text_of c.of.result ≡ kept (summary_line records s) = c.of.ensures.text in
    record {
      text = text;
      whole = λ listed.
          let all = listed.all in
          let few = listed.long.2 in
          let counts : records ≡ records_of s = omega arith in
          text ∙ ap (λ (n : ℕ). kept (summary_line n s)) counts ∙ kept_short (summary_line (records_of s) s) (summary_short s (omega arith));
    }
