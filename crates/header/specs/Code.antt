-- The header octet: from the most significant bit the CSI (1 bit), the sequence count (3), the CRC (3) and a parity bit.
use Rattle.std.specs.Prelude.{ℕ, ◌+◌, ◌*◌, ◌/◌, ◌%◌, ◌^◌, Bool, cond, ◌&&◌, List, [], ◌∷◌, Ok, Err, Result, ◌==◌, bit_xor, count_ones, nat_le}
use Rattle.cell.specs.declared.fault.Fault.{Fault}
use Rattle.cell.specs.declared.fault.Part.TheVariants.{HeaderCode}
use Rattle.cell.specs.declared.fault.Refusal.TheVariants.{HeaderField}
use Rattle.cell.specs.Faults.{raised}
use Rattle.header.specs.Polynomials.{remainder}

-- The CRC of the four leading bits: the remainder of them times x^3.
unfoldable pub crc_of : ℕ → ℕ
crc_of bits = remainder 4 (bits * 2 ^ 3)

-- The header octet with the parity bit 0.
unfoldable pub body : ℕ → ℕ → ℕ
body csi count = (csi * 8 + count) * 16 + crc_of (csi * 8 + count) * 2

-- The header octet: the parity bit makes the number of ones even.
unfoldable pub sealed : ℕ → ℕ → ℕ
sealed csi count = body csi count + count_ones (body csi count) % 2

-- What sealing answers: refused exactly if the CSI is over 1 or the count over 7.
abbrev pub sealing : ℕ → ℕ → Result ℕ Fault
sealing csi count = cond (nat_le csi 1 && nat_le count 7) (Ok (sealed csi count)) (Err (raised HeaderField HeaderCode 0))

-- The CRC of the four bits received, combined with the CRC received.
unfoldable pub syndrome_of : ℕ → ℕ
syndrome_of octet = bit_xor (crc_of (octet / 16)) (octet / 2 % 8)

-- An odd number of ones.
abbrev pub violated : ℕ → Bool
violated octet = count_ones octet % 2 == 1

-- The first of some bits that has the syndrome s when it stands alone.
unfoldable pub first_with : ℕ → List ℕ → ℕ
first_with s [] = 0
first_with s (bit ∷ bits) = cond (syndrome_of bit == s) bit (first_with s bits)

-- The one bit of an octet, from the parity bit on, that a syndrome names.
unfoldable pub named_by : ℕ → ℕ
named_by s = first_with s (1 ∷ 2 ∷ 4 ∷ 8 ∷ 16 ∷ 32 ∷ 64 ∷ 128 ∷ [])
