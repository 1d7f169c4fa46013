-- What the header code promises, in the words of its subject. Other parts know it by these alone.
use Rattle.std.specs.Prelude.{◌≡◌, ℕ, ◌+◌, ◌*◌, ◌/◌, ◌%◌, ◌^◌, ◌<◌, true, false, ◌⊎◌, List, [], ◌∷◌, ◌≢◌, bit_xor, count_ones, slice_index}
use Rattle.header.specs.declared.reader.Mode.{Mode}
use Rattle.header.specs.declared.reader.Mode.TheVariants.{Correction, Detection}
use Rattle.header.specs.declared.reader.Reading.{Reading}
use Rattle.header.specs.Polynomials.{generator, product}
use Rattle.header.specs.Code.{sealed}
use Rattle.header.specs.Reading.{fields_of, reading, mode_after}

-- the sixteen headers: CSI 0 with the counts 0 to 7, then CSI 1 with the same
abbrev pub headers : List ℕ
headers =
    0x00 ∷ 0x17 ∷ 0x2D ∷ 0x3A ∷ 0x4E ∷ 0x59 ∷ 0x63 ∷ 0x74
    ∷ 0x8B ∷ 0x9C ∷ 0xA6 ∷ 0xB1 ∷ 0xC5 ∷ 0xD2 ∷ 0xE8 ∷ 0xFF ∷ []

-- r is what is left of p divided by the generator: p is some polynomial times the generator, and r of lower degree
pub record Remainder (p r : ℕ) : Type 0 where
  pub quotient : ℕ
  pub within : quotient < 16
  pub divides : p ≡ bit_xor (product 4 quotient generator) r
  pub lower : r < 8

-- An octet is the header of a CSI and a count.
pub record Formed (csi count octet : ℕ) : Type 0 where
  pub csi_first : octet / 128 ≡ csi
  pub count_next : octet / 16 % 8 ≡ count
  pub crc_next : Remainder ((csi * 8 + count) * 2 ^ 3) (octet / 2 % 8)
  pub even_ones : count_ones octet % 2 ≡ 0
  pub listed : octet ≡ slice_index headers (csi * 8 + count)

-- a reading in a mode: the answer, and the mode that follows
pub record Reads (m : Mode) (octet : ℕ) (answer : Reading) (after : Mode) : Type 0 where
  pub answers : reading m octet ≡ answer
  pub follows : mode_after m octet ≡ after

-- A header is read back as it was sealed.
abbrev pub ReadsBack : Mode → ℕ → ℕ → ℕ → Mode → Type 0
ReadsBack m octet csi count after = Reads m octet (record { csi = csi; count = count; valid = true }) after

-- An octet is found invalid: it is told as received, and detection mode follows.
abbrev pub Invalid : Mode → ℕ → Type 0
Invalid m octet = Reads m octet (fields_of octet false) Detection

-- What a header withstands on its way from sealing to reading.
pub record Protected (csi count header : ℕ) : Type 0 where
  -- as sealed it is read back in either mode, and correction mode follows
  pub clean : (m : Mode) → ReadsBack m header csi count Correction
  -- with any one bit turned it is read back in correction mode, and detection mode follows
  pub one_turned : (i : ℕ) → i < 8 → ReadsBack Correction (bit_xor header (2 ^ i)) csi count Detection
  -- in detection mode it is found invalid
  pub one_detected : (i : ℕ) → i < 8 → Invalid Detection (bit_xor header (2 ^ i))
  -- with any two bits turned it is found invalid in either mode
  pub two_turned : (m : Mode) (i j : ℕ) → i < 8 → j < 8 → (i ≢ j) → Invalid m (bit_xor (bit_xor header (2 ^ i)) (2 ^ j))

-- A valid answer comes from the header that it tells, or in correction mode from that header with one bit turned.
pub record Traced (m : Mode) (octet csi count : ℕ) (after : Mode) : Type 0 where
  pub csi_small : csi < 2
  pub count_small : count < 8
  pub from : ((octet ≡ sealed csi count) × (after ≡ Correction))
      ⊎ ((m ≡ Correction) × (after ≡ Detection) × ((i : ℕ) × (i < 8) × (octet ≡ bit_xor (sealed csi count) (2 ^ i))))

-- What a reading says of the octet that was read.
pub record Explained (m : Mode) (octet : ℕ) (answer : Reading) (after : Mode) : Type 0 where
  pub when_valid : answer.valid ≡ true → Traced m octet answer.csi answer.count after
  pub when_invalid : answer.valid ≡ false → (answer ≡ fields_of octet false) × (after ≡ Detection)
