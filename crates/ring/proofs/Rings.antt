-- Laws of a ring: a push joins the end, a pop takes the oldest.
use Rattle.std.proofs.Common.{◌≡◌, ◌+◌, ◌-◌, ◌%◌, ◌<◌, List, [], ◌∷◌, length, get_or, drop, set, sym, refl, ap, ◌∙◌, arith, length-set}
use Rattle.std.proofs.lemmas.List.{nil_from_length}
use Rattle.ring.specs.Round.{held, slot_after}
use Rattle.ring.specs.Rings.{entries, slots_of, loan_of, next_slot, Pushed, Popped}
use Rattle.ring.specs.declared.ring.Ring.{Ring}
use Rattle.ring.proofs.Round.{length-held, held_push, slot_after_push, held_pop, slot_after_pop}

pub length-entries : {T : Type 0} (r : Ring T) → length (entries r) ≡ r.count
unfolding entries
length-entries r = length-held (slots_of r) r.head r.count r.fits.0

pub none_entered : {T : Type 0} (r : Ring T) → r.count ≡ 0 → entries r ≡ []
none_entered r e = nil_from_length (entries r) (length-entries r ∙ e)

pub none_left : {T : Type 0} (r : Ring T) → entries r ≡ [] → r.count ≡ 0
none_left r e = let n = length-entries r in omega (arith, ap length e)

pub some_entered : {T : Type 0} (r : Ring T) (x : T) (xs : List T) → entries r ≡ x ∷ xs → 0 < r.count
some_entered r x xs e = let n = length-entries r in omega (arith, ap length e)

pub ruleset counts = (length-entries, none_entered, none_left, some_entered)

pub pushed : {T : Type 0} (old new : Ring T) (x : T) → old.count < length (slots_of old) → slots_of new ≡ set (slots_of old) (next_slot old) x → new.head ≡ old.head → new.count ≡ old.count + 1 → loan_of new ≡ loan_of old → Pushed old x new
unfolding entries next_slot
pushed {T} old new x l s h c k =
    let lh : old.head < length (slots_of old) = old.fits.1 (omega arith) in
    let m : length (slots_of new) ≡ length (slots_of old) = ap length s ∙ length-set (slots_of old) (next_slot old) x in
    let n = length-entries old in
    let p = held_push (slots_of old) old.head old.count x (omega arith) l in
    let q = slot_after_push (length (slots_of old)) old.head old.count in
    record {
      was_free = omega arith;
      joined = simp (s, h, c) p;
      written = s;
      moves_on = simp (m, h, c) q;
      loan_kept = k;
    }

pub popped : {T : Type 0} (old new : Ring T) (x : T) → entries old ≡ x ∷ drop 1 (entries old) → slots_of new ≡ slots_of old → new.head ≡ (old.head + 1) % length (slots_of old) → new.count ≡ old.count - 1 → loan_of new ≡ loan_of old → Popped old x new
unfolding entries next_slot
popped {T} old new x e s h c n =
    let f = old.fits.0 in
    let l : 0 < old.count = some_entered old x (drop 1 (entries old)) e in
    let lh : old.head < length (slots_of old) = old.fits.1 (omega arith) in
    let m : old.count ≡ new.count + 1 = omega arith in
    let p = held_pop (slots_of old) old.head new.count x lh (omega arith) in
    let q = slot_after_pop (length (slots_of old)) old.head new.count in
    let a : entries old ≡ held (slots_of old) old.head (new.count + 1) = ap (held (slots_of old) old.head) m in
    let b : next_slot old ≡ slot_after (length (slots_of old)) old.head (new.count + 1) = ap (slot_after (length (slots_of old)) old.head) m in
    record {
      removed = e ∙ ap (λ (ys : List T). x ∷ ys) (ap (drop 1) (a ∙ p) ∙ simp (s, h) refl);
      unwritten = s;
      stays = simp (s, h) q ∙ sym b;
      loan_kept = n;
    }

-- the oldest entry stands in the head slot
pub first_is : {T : Type 0} (r : Ring T) (d : T) → 0 < r.count → entries r ≡ get_or (slots_of r) r.head d ∷ drop 1 (entries r)
unfolding entries
first_is {T} r d l =
    let lh : r.head < length (slots_of r) = r.fits.1 (omega arith) in
    let m : r.count ≡ (r.count - 1) + 1 = omega arith in
    let p : entries r ≡ get_or (slots_of r) r.head d ∷ held (slots_of r) ((r.head + 1) % length (slots_of r)) (r.count - 1) =
    ap (held (slots_of r) r.head) m ∙ held_pop (slots_of r) r.head (r.count - 1) d lh (omega arith) in
    p ∙ ap (λ (ys : List T). get_or (slots_of r) r.head d ∷ ys) (sym (ap (drop 1) p))
