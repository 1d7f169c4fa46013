-- Facts that antt computes at all numbers below some bounds, and what they tell of each. Assumes nothing.
use Rattle.std.proofs.Common.{◌≡◌, ℕ, zero, suc, ◌<◌, Bool, true, false, ◌&&◌, ◌||◌, List, [], ◌∷◌, map, get_or, sym, refl, ap, ◌∙◌, arith}
use Rattle.std.specs.List.{range_with_len}
use Rattle.std.proofs.lemmas.Bool.Decides.{Decides-below_and, Decides-below_or}
use Rattle.std.proofs.lemmas.List.FromFn.{get_or-map-range_with_len}

-- functions of one number for each bound
abbrev pub Over : List ℕ → Type 0 → Type 0
Over [] X = X
Over (n ∷ bounds) X = ℕ → Over bounds X

-- lists in lists, one level for each bound
abbrev pub Nested : List ℕ → Type 0 → Type 0
Nested [] X = X
Nested (n ∷ bounds) X = List (Nested bounds X)

-- what a function answers below the bounds
abbrev pub answers_below : (X : Type 0) (bounds : List ℕ) → Over bounds X → Nested bounds X
answers_below X [] x = x
answers_below X (n ∷ bounds) f = map (λ k. answers_below X bounds (f k)) (range_with_len 0 n)

-- two functions answer the same below the bounds
abbrev pub Agree : (X : Type 0) (bounds : List ℕ) → Over bounds X → Over bounds X → Type 0
Agree X [] x y = x ≡ y
Agree X (n ∷ bounds) f g = (k : ℕ) → k < n → Agree X bounds (f k) (g k)

pub same_below : (X : Type 0) (bounds : List ℕ) (f g : Over bounds X) → answers_below X bounds f ≡ answers_below X bounds g → Agree X bounds f g
same_below X [] x y same = same
same_below X (n ∷ bounds) f g same = λ k h.
    let p : ℕ → Nested bounds X = λ j. answers_below X bounds (f j) in
    let q : ℕ → Nested bounds X = λ j. answers_below X bounds (g j) in
    let left = get_or-map-range_with_len p 0 n k k (q k) h (omega arith) in
    let right = get_or-map-range_with_len q 0 n k k (q k) h (omega arith) in
    same_below X bounds (f k) (g k) (sym left ∙ ap (λ (xs : List (Nested bounds X)). get_or xs k (q k)) same ∙ right)

-- the test passes at every number below n
abbrev pub all_below : (ℕ → Bool) → ℕ → Bool
all_below p zero = true
all_below p (suc n) = p n && all_below p n

pub each_below : (p : ℕ → Bool) (n : ℕ) → all_below p n ≡ true → (k : ℕ) → k < n → p k ≡ true
each_below p n = (Decides-below_and p (λ k. p k ≡ true) (all_below p) (λ k. (λ e. e, λ e. e)) refl (λ _. refl) n).0

-- the test passes at some number below n
abbrev pub any_below : (ℕ → Bool) → ℕ → Bool
any_below p zero = false
any_below p (suc n) = p n || any_below p n

pub some_below : (p : ℕ → Bool) (n : ℕ) → any_below p n ≡ true → (k : ℕ) × (k < n) × (p k ≡ true)
some_below p n = (Decides-below_or p (λ k. p k ≡ true) (any_below p) (λ k. (λ e. e, λ e. e)) refl (λ _. refl) n).0
