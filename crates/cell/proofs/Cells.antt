-- Laws of header bits that are turned.
use Rattle.std.proofs.Common.{◌≡◌, ℕ, List, [], ◌∷◌, get_or, set, refl, ap, ◌∙◌}
use lib.Bits.{bit_xor, xor_zero_r, xor_assoc}
use Rattle.std.proofs.lemmas.List.{set-get_or}
use Rattle.cell.specs.declared.octets.Cell.{Cell}
use Rattle.cell.specs.Cells.{turned}

made : List ℕ → Cell
made octets = record { octets = octets }

-- with no bit to turn the cell is as it was
pub turned_none : (c : Cell) → turned 0 c ≡ c
unfolding made
turned_none c =
    let xs : List ℕ = c.octets in
    let e : set xs 0 (bit_xor (get_or xs 0 0) 0) ≡ xs = ap (λ (x : ℕ). set xs 0 x) (xor_zero_r (get_or xs 0 0)) ∙ set-get_or xs 0 0 in
    ap made e

octets_twice : (xs : List ℕ) (m n : ℕ) → set (set xs 0 (bit_xor (get_or xs 0 0) m)) 0 (bit_xor (get_or (set xs 0 (bit_xor (get_or xs 0 0) m)) 0 0) n) ≡ set xs 0 (bit_xor (get_or xs 0 0) (bit_xor m n))
octets_twice [] m n = refl
octets_twice (x ∷ xs) m n = ap (λ (y : ℕ). y ∷ xs) (xor_assoc x m n)

-- bits turned by one mask and then by another are turned by their exclusive or
pub turned_twice : (c : Cell) (m n : ℕ) → turned n (turned m c) ≡ turned (bit_xor m n) c
unfolding made
turned_twice c m n = ap made (octets_twice c.octets m n)
