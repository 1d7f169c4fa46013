-- Every header is formed by the rules, and withstands what it should: computed over the sixteen of them. Assumes nothing.
use Rattle.std.proofs.Common.{◌≡◌, ℕ, ◌+◌, ◌*◌, ◌/◌, ◌%◌, ◌^◌, ◌<◌, Bool, true, false, cond, ◌==◌, [], ◌∷◌, refl, ap, ◌∙◌, arith, eqb-true}
use lib.Bits.{bit_xor}
use lib.Count.{ones_in, ones}
use Rattle.std.specs.Prelude.{count_ones, slice_index}
use Rattle.std.proofs.lemmas.Bool.{cond-false, ne_eqb}
use Rattle.header.specs.declared.reader.Mode.{Mode}
use Rattle.header.specs.declared.reader.Mode.TheVariants.{Correction, Detection}
use Rattle.header.specs.declared.reader.Reading.{Reading}
use Rattle.header.specs.Polynomials.{generator, product, reduced, remainder}
use Rattle.header.specs.Code.{crc_of, body, sealed, syndrome_of, first_with, named_by}
use Rattle.header.specs.Reading.{fields_of, finding, reading, mode_after}
use Rattle.header.specs.Laws.{headers, Formed, Reads, Protected}
use Rattle.header.proofs.Computed.{any_below, same_below, some_below}

-- formed by the rules

-- q times the generator, and the CRC of the header, give the four leading bits times x^3
abbrev divides : ℕ → ℕ → ℕ → Bool
divides csi count q = (csi * 8 + count) * 2 ^ 3 == bit_xor (product 4 q generator) (sealed csi count / 2 % 8)

divided : (csi : ℕ) → csi < 2 → (count : ℕ) → count < 8 → any_below (divides csi count) 16 ≡ true
unfolding product sealed body crc_of remainder reduced ones ones_in
divided = same_below _ (2 ∷ 8 ∷ []) _ _ refl

-- the CSI, the count, the parity and the whole octet
abbrev parts : ℕ → ℕ × (ℕ × (ℕ × ℕ))
parts octet = (octet / 128, (octet / 16 % 8, (count_ones octet % 2, octet)))

abbrev listed : ℕ → ℕ → ℕ × (ℕ × (ℕ × ℕ))
listed csi count = (csi, (count, (0, slice_index headers (csi * 8 + count))))

parted : (csi : ℕ) → csi < 2 → (count : ℕ) → count < 8 → parts (sealed csi count) ≡ listed csi count
unfolding sealed body crc_of remainder reduced ones ones_in
parted = same_below _ (2 ∷ 8 ∷ []) _ _ refl

pub sealed_formed : (csi count : ℕ) → csi < 2 → count < 8 → Formed csi count (sealed csi count)
sealed_formed csi count h k =
    let e = parted csi h count k in
    let found = some_below (divides csi count) 16 (divided csi h count k) in
    record {
      csi_first = ap (λ (p : ℕ × (ℕ × (ℕ × ℕ))). p.0) e;
      count_next = ap (λ (p : ℕ × (ℕ × (ℕ × ℕ))). p.1.0) e;
      crc_next = record { quotient = found.0; within = found.1; divides = eqb-true _ _ found.2; lower = omega arith };
      even_ones = ap (λ (p : ℕ × (ℕ × (ℕ × ℕ))). p.1.1.0) e;
      listed = ap (λ (p : ℕ × (ℕ × (ℕ × ℕ))). p.1.1.1) e;
    }

-- protected on the way

-- the answer, and the mode that follows
abbrev found : Mode → ℕ → Reading × Mode
found m octet = (reading m octet, mode_after m octet)

reads_from : {m : Mode} {octet : ℕ} {answer : Reading} {after : Mode} → found m octet ≡ (answer, after) → Reads m octet answer after
reads_from e = record { answers = ap (λ (p : Reading × Mode). p.0) e; follows = ap (λ (p : Reading × Mode). p.1) e }

abbrev told : ℕ → ℕ → Reading
told csi count = record { csi = csi; count = count; valid = true }

abbrev turned : ℕ → ℕ → ℕ → ℕ
turned csi count i = bit_xor (sealed csi count) (2 ^ i)

abbrev turned_twice : ℕ → ℕ → ℕ → ℕ → ℕ
turned_twice csi count i j = bit_xor (turned csi count i) (2 ^ j)

clean : (m : Mode) (csi : ℕ) → csi < 2 → (count : ℕ) → count < 8 → found m (sealed csi count) ≡ (told csi count, Correction)
unfolding reading mode_after finding sealed body syndrome_of named_by first_with crc_of remainder reduced ones ones_in
clean Correction = same_below _ (2 ∷ 8 ∷ []) _ _ refl
clean Detection = same_below _ (2 ∷ 8 ∷ []) _ _ refl

one_turned : (csi : ℕ) → csi < 2 → (count : ℕ) → count < 8 → (i : ℕ) → i < 8 → found Correction (turned csi count i) ≡ (told csi count, Detection)
unfolding reading mode_after finding sealed body syndrome_of named_by first_with crc_of remainder reduced ones ones_in
one_turned = same_below _ (2 ∷ 8 ∷ 8 ∷ []) _ _ refl

one_detected : (csi : ℕ) → csi < 2 → (count : ℕ) → count < 8 → (i : ℕ) → i < 8 → found Detection (turned csi count i) ≡ (fields_of (turned csi count i) false, Detection)
unfolding reading mode_after finding sealed body syndrome_of named_by first_with crc_of remainder reduced ones ones_in
one_detected = same_below _ (2 ∷ 8 ∷ 8 ∷ []) _ _ refl

-- a bit that is turned twice is as it was
two_turned : (m : Mode) (csi : ℕ) → csi < 2 → (count : ℕ) → count < 8 → (i : ℕ) → i < 8 → (j : ℕ) → j < 8 → found m (turned_twice csi count i j) ≡ cond (i == j) (told csi count, Correction) (fields_of (turned_twice csi count i j) false, Detection)
unfolding reading mode_after finding sealed body syndrome_of named_by first_with crc_of remainder reduced ones ones_in
two_turned Correction = same_below _ (2 ∷ 8 ∷ 8 ∷ 8 ∷ []) _ _ refl
two_turned Detection = same_below _ (2 ∷ 8 ∷ 8 ∷ 8 ∷ []) _ _ refl

pub sealed_protected : (csi count : ℕ) → csi < 2 → count < 8 → Protected csi count (sealed csi count)
sealed_protected csi count h k = record {
  clean = λ m. reads_from (clean m csi h count k);
  one_turned = λ i l. reads_from (one_turned csi h count k i l);
  one_detected = λ i l. reads_from (one_detected csi h count k i l);
  two_turned = λ m i j l o different. reads_from (two_turned m csi h count k i l j o ∙ cond-false (i == j) _ _ (ne_eqb i j different));
}
