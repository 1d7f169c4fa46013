-- The tables of the code have at each place what their rules say: computed over the whole of each. Assumes nothing.
use Rattle.std.proofs.Common.{◌≡◌, ℕ, ◌<◌, true, refl, [], ◌∷◌, ltb, ltb-true}
use Rattle.std.specs.Prelude.{bit_xor, slice_index}
use Rattle.std.proofs.lemmas.Nat.{xor_lt}
use Rattle.header.specs.Polynomials.{reduced, remainder}
use Rattle.header.specs.Code.{crc_of, syndrome_of, first_with, named_by}
use Rattle.header.specs.declared.code.TheConstants.{CRC, NAMED}
use Rattle.header.proofs.Computed.{same_below}

pub crc_at : (bits : ℕ) → bits < 16 → slice_index CRC bits ≡ crc_of bits
unfolding crc_of remainder reduced
crc_at = same_below _ (16 ∷ []) _ _ refl

small : (bits : ℕ) → bits < 16 → ltb (crc_of bits) 8 ≡ true
unfolding crc_of remainder reduced
small = same_below _ (16 ∷ []) _ _ refl

pub crc_small : (bits : ℕ) → bits < 16 → crc_of bits < 8
crc_small bits h = ltb-true (crc_of bits) 8 (small bits h)

pub xor_small : (a b : ℕ) → a < 8 → b < 8 → bit_xor a b < 8
xor_small = xor_lt 3

pub named_at : (s : ℕ) → s < 8 → slice_index NAMED s ≡ named_by s
unfolding named_by first_with syndrome_of crc_of remainder reduced
named_at = same_below _ (8 ∷ []) _ _ refl
