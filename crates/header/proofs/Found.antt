-- What a reading says of its octet: computed over the 256 octets. Assumes nothing.
use Rattle.std.proofs.Common.{◌≡◌, ℕ, ◌/◌, ◌%◌, ◌^◌, ◌<◌, Bool, true, false, cond, not, ◌&&◌, ltb, ◌==◌, [], ◌∷◌, sym, refl, inl, inr, arith, ltb-true, eqb-true}
use lib.Bits.{bit_xor}
use lib.Count.{ones_in, ones}
use Rattle.std.proofs.lemmas.Bool.{and_parts}
use Rattle.header.specs.declared.reader.Mode.{Mode}
use Rattle.header.specs.declared.reader.Mode.TheVariants.{Correction, Detection}
use Rattle.header.specs.declared.reader.Reading.{Reading}
use Rattle.header.specs.Polynomials.{reduced, remainder}
use Rattle.header.specs.Code.{crc_of, body, sealed, syndrome_of, violated, first_with, named_by}
use Rattle.header.specs.Reading.{fields_of, judged, answered, next_mode, finding, reading, mode_after}
use Rattle.header.specs.Laws.{Explained}
use Rattle.header.proofs.Computed.{any_below, same_below, some_below}

-- the header with the CSI and the count that stand in an octet
abbrev sealed_again : ℕ → ℕ
sealed_again octet = sealed (octet / 128) (octet / 16 % 8)

abbrev turned_back : ℕ → ℕ
turned_back octet = bit_xor octet (named_by (syndrome_of octet))

abbrev one_off : ℕ → ℕ → Bool
one_off octet i = octet == bit_xor (sealed_again (turned_back octet)) (2 ^ i)

-- an octet with syndrome 0 and an even number of ones is a header
intact : (octet : ℕ) → octet < 256 → cond (syndrome_of octet == 0 && not (violated octet)) (sealed_again octet) octet ≡ octet
unfolding sealed body syndrome_of crc_of remainder reduced ones ones_in
intact = same_below _ (256 ∷ []) _ _ refl

-- one with an odd number of ones is one bit off the header that it becomes
correctable : (octet : ℕ) → octet < 256 → cond (violated octet) (ltb (turned_back octet) 256 && any_below (one_off octet) 8) true ≡ true
unfolding sealed body syndrome_of named_by first_with crc_of remainder reduced ones ones_in
correctable = same_below _ (256 ∷ []) _ _ refl

module _ (octet : ℕ) (h : octet < 256) where
  held : (m : Mode) → syndrome_of octet == 0 ≡ true → violated octet ≡ false → Explained m octet (fields_of octet true) Correction
  held m e o = record {
    when_valid = λ _. record { csi_small = omega arith; count_small = omega arith; from = inl (sym (rw (e, o) at (intact octet h)), refl) };
    when_invalid = λ v. absurd cc;
  }

  turned : violated octet ≡ true → Explained Correction octet (fields_of (turned_back octet) true) Detection
  turned o =
      let found = and_parts (ltb (turned_back octet) 256) (any_below (one_off octet) 8) (rw o at (correctable octet h)) in
      let small = ltb-true (turned_back octet) 256 found.0 in
      let at = some_below (one_off octet) 8 found.1 in
      record {
        when_valid = λ _. record { csi_small = omega arith; count_small = omega arith; from = inr (refl, refl, (at.0, at.1, eqb-true octet _ at.2)) };
        when_invalid = λ v. absurd cc;
      }

  invalid : (m : Mode) → Explained m octet (fields_of octet false) Detection
  invalid m = record { when_valid = λ v. absurd cc; when_invalid = λ _. (refl, refl) }

  explained : (m : Mode) (agrees odd : Bool) → syndrome_of octet == 0 ≡ agrees → violated octet ≡ odd → Explained m octet (answered (judged m agrees odd) octet) (next_mode (judged m agrees odd))
  explained m true false e o = held m e o
  explained Correction true true e o = turned o
  explained Correction false true e o = turned o
  explained Correction false false e o = invalid Correction
  explained Detection true true e o = invalid Detection
  explained Detection false odd e o = invalid Detection

pub readings_explained : (m : Mode) (octet : ℕ) → octet < 256 → Explained m octet (reading m octet) (mode_after m octet)
unfolding reading mode_after finding
readings_explained m octet h = explained octet h m (syndrome_of octet == 0) (violated octet) refl refl

pub explained_so : (m : Mode) (octet : ℕ) (answer : Reading) (after : Mode) → octet < 256 → answer ≡ reading m octet → after ≡ mode_after m octet → Explained m octet answer after
explained_so m octet answer after h a n = rw (a, n) (readings_explained m octet h)
