-- Laws of a list that is read from a slot on and round the end.
use Rattle.std.proofs.Common.{◌≡◌, ℕ, ◌+◌, ◌-◌, ◌%◌, ◌<◌, ◌≤◌, List, [], ◌∷◌, ◌++◌, length, get_or, take, drop, set, sym, refl, ap, ◌∙◌, ⊎_elim, mod-eq_of_lt, add-one, arith, length-append, length-drop, length-take}
use native.Mathlib.Nat.{mod-eq-sub-mod, mod-add-mod}
use Rattle.std.proofs.Math.Nat.{mod_self}
use lib.Seq.{take-set-lt}
use Rattle.std.proofs.lemmas.List.{length-take-le, take-set-le, drop-set-add, drop-set-lt, set-append_left, set-append_right, take_more_set, append-nil, append_assoc, drop_more, take_more, take-append-le, take_all, drop_all}
use Rattle.std.proofs.lemmas.Bool.{cases_lt}
use Rattle.ring.specs.Round.{round_from, held, slot_after}

pub slot_after_near : (n h c : ℕ) → h + c < n → slot_after n h c ≡ h + c
slot_after_near n h c l = mod-eq_of_lt l

pub slot_after_far : (n h c : ℕ) → n ≤ h + c → h + c < n + n → slot_after n h c ≡ h + c - n
slot_after_far n h c l m = mod-eq-sub-mod l ∙ mod-eq_of_lt (omega arith)

-- the slot behind one of n slots: the next, and behind the last one the first
pub behind_near : (n h : ℕ) → h + 1 < n → h + 1 ≡ (h + 1) % n
behind_near n h l = sym (mod-eq_of_lt l)

pub behind_last : (n h : ℕ) → h < n → n ≤ h + 1 → 0 ≡ (h + 1) % n
behind_last n h l m = let e : h + 1 ≡ n = omega arith in sym (ap (λ (k : ℕ). k % n) e ∙ mod_self n)

pub slot_after_push : (n h c : ℕ) → slot_after n h (c + 1) ≡ (slot_after n h c + 1) % n
slot_after_push n h c = let e : h + (c + 1) ≡ h + c + 1 = omega arith in ap (λ (k : ℕ). k % n) e ∙ sym (mod-add-mod (h + c) n 1)

pub slot_after_pop : (n h c : ℕ) → slot_after n ((h + 1) % n) c ≡ slot_after n h (c + 1)
slot_after_pop n h c = let e : h + 1 + c ≡ h + (c + 1) = omega arith in mod-add-mod (h + 1) n c ∙ ap (λ (k : ℕ). k % n) e

module _ {A : Type 0} where
  pub length_round : (xs : List A) (h : ℕ) → length (round_from xs h) ≡ length xs
  length_round xs h = simp (length-append, length-drop, length-take) (omega arith)

  pub length-held : (xs : List A) (h c : ℕ) → c ≤ length xs → length (held xs h c) ≡ c
  length-held xs h c l = let t = length_round xs h in length-take-le c (round_from xs h) (omega arith)

  -- a write short of the end
  set_near : (xs : List A) (h c : ℕ) (x : A) → h + c < length xs → round_from (set xs (h + c) x) h ≡ set (round_from xs h) c x
  set_near xs h c x l =
      let d = length-drop h xs in
      let k : c < length (drop h xs) = omega arith in
      let a : drop h (set xs (h + c) x) ≡ set (drop h xs) c x = drop-set-add h xs c x in
      let b : take h (set xs (h + c) x) ≡ take h xs = take-set-le h xs (h + c) x (omega arith) in
      let e : set (drop h xs ++ take h xs) c x ≡ set (drop h xs) c x ++ take h xs = set-append_left (drop h xs) (take h xs) c x k in
      cc

  -- a write past the end
  set_far : (xs : List A) (h c : ℕ) (x : A) → h ≤ length xs → c < length xs → length xs ≤ h + c → round_from (set xs (h + c - length xs) x) h ≡ set (round_from xs h) c x
  set_far xs h c x lh lc l =
      let i : ℕ = h + c - length xs in
      let d = length-drop h xs in
      let k : i < h = omega arith in
      let n : length (drop h xs) ≡ length xs - h = d in
      let a : drop h (set xs i x) ≡ drop h xs = drop-set-lt h xs i x k in
      let b : take h (set xs i x) ≡ set (take h xs) i x = take-set-lt h xs i x k in
      let f : c - (length xs - h) ≡ i = omega arith in
      let e : set (drop h xs ++ take h xs) c x ≡ drop h xs ++ set (take h xs) (c - (length xs - h)) x = set-append_right (drop h xs) (take h xs) (length xs - h) c x n (omega arith) in
      let s : set (take h xs) (c - (length xs - h)) x ≡ set (take h xs) i x = ap (λ (j : ℕ). set (take h xs) j x) f in
      cc

  pub set_round : (xs : List A) (h c : ℕ) (x : A) → h ≤ length xs → c < length xs → round_from (set xs (slot_after (length xs) h c) x) h ≡ set (round_from xs h) c x
  set_round xs h c x lh lc =
      ⊎_elim
      (λ l. ap (λ (i : ℕ). round_from (set xs i x) h) (slot_after_near (length xs) h c l) ∙ set_near xs h c x l)
      (λ l. ap (λ (i : ℕ). round_from (set xs i x) h) (slot_after_far (length xs) h c l (omega arith)) ∙ set_far xs h c x lh lc l)
      (cases_lt (h + c) (length xs))

  pub held_push : (xs : List A) (h c : ℕ) (x : A) → h ≤ length xs → c < length xs → held (set xs (slot_after (length xs) h c) x) h (c + 1) ≡ held xs h c ++ x ∷ []
  held_push xs h c x lh lc =
      let t = length_round xs h in
      ap (take (c + 1)) (set_round xs h c x lh lc) ∙ take_more_set (round_from xs h) c x (omega arith)

  -- a head past the last slot is at the first
  held_wrap : (xs : List A) (h c : ℕ) → h ≤ length xs → held xs (h % length xs) c ≡ held xs h c
  held_wrap xs h c l =
      ⊎_elim
      (λ under. ap (λ (i : ℕ). held xs i c) (mod-eq_of_lt under))
      (λ over.
      let z : h % length xs ≡ 0 = ap (λ (n : ℕ). n % length xs) (omega arith) ∙ mod_self (length xs) in
      let e : round_from xs h ≡ round_from xs 0 = rw (drop_all h xs over, take_all h xs over, append-nil xs) refl in
      ap (λ (i : ℕ). held xs i c) z ∙ sym (ap (take c) e))
      (cases_lt h (length xs))

  -- the oldest entry goes
  pub held_pop : (xs : List A) (h c : ℕ) (d : A) → h < length xs → c < length xs → held xs h (c + 1) ≡ get_or xs h d ∷ held xs ((h + 1) % length xs) c
  held_pop xs h c d lh lc =
      let x : A = get_or xs h d in
      let m : List A = drop (h + 1) xs ++ take h xs in
      let a : drop h xs ≡ x ∷ drop (h + 1) xs = drop_more xs h d lh in
      let b : take (h + 1) xs ≡ take h xs ++ x ∷ [] = take_more xs h d lh in
      let dl = length-drop (h + 1) xs in
      let tl = length-take h xs in
      let ml = length-append (drop (h + 1) xs) (take h xs) in
      let e : round_from xs h ≡ x ∷ m = ap (λ (z : List A). z ++ take h xs) a in
      let f : round_from xs (h + 1) ≡ m ++ x ∷ [] = ap (λ (z : List A). drop (h + 1) xs ++ z) b ∙ sym (append_assoc (drop (h + 1) xs) (take h xs) (x ∷ [])) in
      let q : take c (m ++ x ∷ []) ≡ take c m = take-append-le c m (x ∷ []) (omega arith) in
      let r : take (c + 1) (x ∷ m) ≡ x ∷ take c m = rw add-one refl in
      ap (take (c + 1)) e ∙ r ∙ ap (λ (z : List A). x ∷ z) (sym (held_wrap xs (h + 1) c (omega arith) ∙ ap (take c) f ∙ q))
