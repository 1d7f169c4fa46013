-- Polynomials modulo 2, written as numbers: bit i is the coefficient of x^i.
-- To add or to take away is exclusive or; to multiply by x^i is to multiply by 2^i.
use Rattle.std.specs.Prelude.{ℕ, zero, suc, ◌+◌, ◌*◌, ◌/◌, ◌%◌, ◌^◌, cond, ◌==◌, bit_xor}

-- the coefficient of x^i in p
abbrev pub coefficient : ℕ → ℕ → ℕ
coefficient i p = p / 2 ^ i % 2

-- x^3 + x + 1
abbrev pub generator : ℕ
generator = 0b1011

-- One step of long division by the generator: a term x^(i+3) goes as x^i times the generator is taken away.
unfoldable pub reduced : ℕ → ℕ → ℕ
reduced i p = cond (coefficient (i + 3) p == 1) (bit_xor p (generator * 2 ^ i)) p

-- What long division by the generator leaves of a polynomial whose terms lie below x^(n+3).
unfoldable pub remainder : ℕ → ℕ → ℕ
remainder zero p = p
remainder (suc n) p = remainder n (reduced n p)

-- The product of p and of q, whose terms lie below x^n.
unfoldable pub product : ℕ → ℕ → ℕ → ℕ
product zero q p = 0
product (suc n) q p = bit_xor (product n q p) (cond (coefficient n q == 1) (p * 2 ^ n) 0)
