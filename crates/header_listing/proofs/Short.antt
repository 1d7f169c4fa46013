-- Every line fits into the room of a line. Assumes nothing.
use Rattle.std.proofs.Common.{◌≡◌, ℕ, ◌≤◌, Bool, true, false, List, ◌++◌, length, codes, decimal, ap, ◌∙◌, append_assoc, arith, length-append}
use Rattle.header.specs.declared.reader.Mode.{Mode}
use Rattle.header.specs.declared.reader.Mode.TheVariants.{Correction, Detection}
use Rattle.header.specs.Reading.{mode_name}
use Rattle.header_listing.specs.declared.entry.Entry.{Entry}
use Rattle.header_listing.specs.declared.listing.Tally.{Tally}
use Rattle.header_listing.specs.Text.{validity_word, line_of, summary_of}

validity_short : (b : Bool) → length (validity_word b) ≤ 7
validity_short true = omega arith
validity_short false = omega arith

mode_short : (m : Mode) → length (mode_name m) ≤ 10
mode_short Correction = omega arith
mode_short Detection = omega arith

pub line_short : (e : Entry) → length (decimal e.reading.csi) ≤ 20 → length (decimal e.reading.count) ≤ 20 → length (line_of e) ≤ 96
unfolding line_of
line_short e h k =
    simp length-append (omega (arith, validity_short e.reading.valid, mode_short e.mode))

pub summary_short : (t : Tally) → length (decimal t.read) ≤ 20 → length (decimal t.corrected) ≤ 20 → length (decimal t.invalid) ≤ 20 → length (summary_of t) ≤ 96
unfolding summary_of
summary_short t h k l =
    simp length-append (omega arith)

-- a word with a space on either side, as one piece of a line
pub spaced_word : (front spaced word rest : List ℕ) → spaced ≡ codes " " ++ (word ++ codes " ") → front ++ (spaced ++ rest) ≡ front ++ (codes " " ++ (word ++ (codes " " ++ rest)))
spaced_word front spaced word rest e = ap (λ (xs : List ℕ). front ++ xs) (ap (λ (xs : List ℕ). xs ++ rest) e ∙ ap (λ (xs : List ℕ). codes " " ++ xs) (append_assoc word (codes " ") rest))
