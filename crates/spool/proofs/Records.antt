-- Laws of records: what a write into one leaves in it and in the others, and what a mark is read as.
use Rattle.std.proofs.Common.{◌≡◌, ℕ, zero, suc, ◌+◌, ◌-◌, ◌*◌, ◌/◌, ◌<◌, ◌≤◌, ◌≢◌, List, [], ◌∷◌, ◌++◌, length, get_or, take, drop, set, Some, sym, refl, ap, ◌∙◌, ⊎_elim, arith, length-append, length-drop, length-take, take-add, lit≤}
use borrow.Rule.Slice.PartMut.{put_mid}
use lib.Seq.{paste}
use Rattle.std.proofs.lemmas.List.Edits.{paste_all}
use Rattle.std.proofs.lemmas.List.{append_assoc, drop-append-le, drop_at, drop-drop, drop-take, drop_more, length-take-le, set-append_right, set_at, take-append-drop, take_at, take-take}
use Rattle.std.proofs.lemmas.Slice.{take-put_mid_below, drop-put_mid}
use Rattle.std.proofs.lemmas.Bool.{cases_lt}
use Rattle.std.proofs.lemmas.Bool.Decides.{nat_tests}
use Rattle.std.specs.Simd.{first_chunks}
use Rattle.spool.specs.declared.record.Mark.{Mark}
use Rattle.spool.specs.declared.record.Mark.TheVariants.{Taken, Waiting, Unused}
use Rattle.spool.specs.Records.{first_byte, second_byte, mark_bytes, mark_of, Within, record_at, Marked, mark_at, with_record}

-- a write to the range of a record
placed : (bytes new : List ℕ) (number : ℕ) → with_record bytes number new ≡ put_mid (50 * number) 50 bytes new
placed bytes new number = ap (λ (rest : List ℕ). take (50 * number) bytes ++ (new ++ rest)) (sym (drop-drop 50 (50 * number) bytes))

pub length_record : (bytes : List ℕ) (number : ℕ) → Within (length bytes) number → length (record_at bytes number) ≡ 50
length_record bytes number w = let d = length-drop (50 * number) bytes in length-take-le 50 (drop (50 * number) bytes) (omega arith)

pub length_with : (bytes new : List ℕ) (number : ℕ) → Within (length bytes) number → length new ≡ 50 → length (with_record bytes number new) ≡ length bytes
length_with bytes new number w n = simp (length-append, length-take, length-drop) (omega arith)

-- the record that was written
pub record_there : (bytes new : List ℕ) (number : ℕ) → Within (length bytes) number → length new ≡ 50 → record_at (with_record bytes number new) number ≡ new
record_there bytes new number w n =
    ap (take 50) (drop_at (take (50 * number) bytes) (new ++ drop (50 * number + 50) bytes) (50 * number) (length-take-le (50 * number) bytes (omega arith)))
    ∙ take_at new (drop (50 * number + 50) bytes) 50 n

-- and any other one
pub record_elsewhere : (bytes new : List ℕ) (number other : ℕ) → Within (length bytes) number → length new ≡ 50 → other ≢ number → record_at (with_record bytes number new) other ≡ record_at bytes other
record_elsewhere bytes new number other w n apart =
    let before : other < number → record_at (with_record bytes number new) other ≡ record_at bytes other = λ l.
    sym (drop-take (50 * other) 50 (with_record bytes number new))
    ∙ ap (drop (50 * other)) (ap (take (50 * other + 50)) (placed bytes new number) ∙ take-put_mid_below (50 * number) 50 bytes new (50 * other + 50) (omega arith) (omega arith))
    ∙ drop-take (50 * other) 50 bytes in
    let behind : number ≤ other → record_at (with_record bytes number new) other ≡ record_at bytes other = λ l.
    let m : number < other = omega arith in
    ap (take 50) (ap (drop (50 * other)) (placed bytes new number) ∙ drop-put_mid (50 * number) 50 bytes new (50 * other) (omega arith) (omega arith) n) in
    ⊎_elim before behind (cases_lt other number)

-- a second write into the same record
pub written_twice : (bytes first second : List ℕ) (number : ℕ) → Within (length bytes) number → length first ≡ 50 → with_record (with_record bytes number first) number second ≡ with_record bytes number second
written_twice bytes first second number w n =
    let front : take (50 * number) (with_record bytes number first) ≡ take (50 * number) bytes = take_at (take (50 * number) bytes) (first ++ drop (50 * number + 50) bytes) (50 * number) (length-take-le (50 * number) bytes (omega arith)) in
    let back : drop (50 * number + 50) (with_record bytes number first) ≡ drop (50 * number + 50) bytes = ap (drop (50 * number + 50)) (placed bytes first number) ∙ drop-put_mid (50 * number) 50 bytes first (50 * number + 50) (omega arith) (omega arith) n in
    ap (λ (bs : List ℕ). bs ++ (second ++ drop (50 * number + 50) (with_record bytes number first))) front
    ∙ ap (λ (bs : List ℕ). take (50 * number) bytes ++ (second ++ bs)) back

-- two bytes are written, one after the other
two_set : (p q : List ℕ) (x y f g a : ℕ) → length p ≡ a → set (set (p ++ x ∷ y ∷ q) a f) (a + 1) g ≡ p ++ f ∷ g ∷ q
two_set p q x y f g a e =
    let one : a + 1 - a ≡ 1 = omega arith in
    ap (λ (l : List ℕ). set l (a + 1) g) (set_at p x (y ∷ q) f a e) ∙ set-append_right p (f ∷ y ∷ q) a (a + 1) g e (omega arith) ∙ ap (λ (i : ℕ). p ++ set (f ∷ y ∷ q) i g) one

-- what stands behind the first two of 50 bytes
behind_two : (xs : List ℕ) → 50 ≤ length xs → drop 2 xs ≡ drop 2 (take 50 xs) ++ drop 50 xs
behind_two xs l =
    let n = length-take-le 50 xs l in
    ap (drop 2) (sym (take-append-drop 50 xs)) ∙ drop-append-le 2 (take 50 xs) (drop 50 xs) (omega arith)

-- the two bytes of the mark are written, and the record keeps its cell
pub mark_written : (bytes : List ℕ) (number first second : ℕ) → Within (length bytes) number → set (set bytes (50 * number) first) (50 * number + 1) second ≡ with_record bytes number (first ∷ second ∷ drop 2 (record_at bytes number))
mark_written bytes number first second w =
    let a : ℕ = 50 * number in
    let x : ℕ = get_or bytes a 0 in
    let y : ℕ = get_or bytes (a + 1) 0 in
    let on : a + 1 + 1 ≡ a + 2 = omega arith in
    let split : bytes ≡ take a bytes ++ x ∷ y ∷ drop (a + 2) bytes =
    sym (take-append-drop a bytes)
    ∙ ap (λ (bs : List ℕ). take a bytes ++ bs) (drop_more bytes a 0 (omega arith)
    ∙ ap (λ (bs : List ℕ). x ∷ bs) (drop_more bytes (a + 1) 0 (omega arith) ∙ ap (λ (i : ℕ). y ∷ drop i bytes) on)) in
    let l = length-drop a bytes in
    let rest : drop (a + 2) bytes ≡ drop 2 (record_at bytes number) ++ drop (a + 50) bytes =
    sym (drop-drop 2 a bytes) ∙ behind_two (drop a bytes) (omega arith) ∙ ap (λ (bs : List ℕ). drop 2 (record_at bytes number) ++ bs) (drop-drop 50 a bytes) in
    ap (λ (bs : List ℕ). set (set bs a first) (a + 1) second) split
    ∙ two_set (take a bytes) (drop (a + 2) bytes) x y first second a (length-take-le a bytes (omega arith))
    ∙ ap (λ (bs : List ℕ). take a bytes ++ first ∷ second ∷ bs) rest

-- one of the records that bytes hold, of all of them as arrays
chunk_at : (bytes : List ℕ) (count number : ℕ) (d : List ℕ) → number < count → get_or (first_chunks 50 count bytes) number d ≡ record_at bytes number
chunk_at bytes zero number d l = absurd (omega arith)
chunk_at bytes (suc count) zero d l = refl
chunk_at bytes (suc count) (suc number) d l =
    let on : 50 + 50 * number ≡ 50 * suc number = omega arith in
    chunk_at (drop 50 bytes) count number d (omega arith) ∙ ap (take 50) (drop-drop (50 * number) 50 bytes ∙ ap (λ (k : ℕ). drop k bytes) on)

pub record_in : (bytes : List ℕ) (records : List (List ℕ)) (number : ℕ) (d : List ℕ) → records ≡ first_chunks 50 (length bytes / 50) bytes → number < length bytes / 50 → Within (length bytes) number × (get_or records number d ≡ record_at bytes number)
record_in bytes records number d e l = (omega arith, ap (λ (rs : List (List ℕ)). get_or rs number d) e ∙ chunk_at bytes (length bytes / 50) number d l)

-- the octets of the cell are written, and the record keeps its mark
pub cell_written : (bytes octets : List ℕ) (number : ℕ) → Within (length bytes) number → length octets ≡ 48 → paste bytes (50 * number + 2) octets 48 ≡ with_record bytes number (take 2 (record_at bytes number) ++ octets)
cell_written bytes octets number w n =
    let a : ℕ = 50 * number in
    let on : a + 2 + 48 ≡ a + 50 = omega arith in
    let mark : take 2 (drop a bytes) ≡ take 2 (record_at bytes number) = sym (take-take 2 50 (drop a bytes) (lit≤ tt)) in
    let rest : List ℕ = drop (a + 50) bytes in
    paste_all bytes (a + 2) octets 48 (sym n)
    ∙ ap (λ (i : ℕ). take (a + 2) bytes ++ (octets ++ drop i bytes)) on
    ∙ ap (λ (bs : List ℕ). bs ++ (octets ++ rest)) (take-add a 2 bytes ∙ ap (λ (bs : List ℕ). take a bytes ++ bs) mark)
    ∙ append_assoc (take a bytes) (take 2 (record_at bytes number)) (octets ++ rest)
    ∙ ap (λ (bs : List ℕ). take a bytes ++ bs) (sym (append_assoc (take 2 (record_at bytes number)) octets rest))

-- a cell and then a mark are written
pub record_written : (bytes octets : List ℕ) (number : ℕ) (mark : Mark) → Within (length bytes) number → length octets ≡ 48 → put_mid (50 * number) (50 * number + 2 - 50 * number) (put_mid (50 * number + 2) (50 * number + 50 - (50 * number + 2)) bytes octets) (mark_bytes mark) ≡ with_record bytes number (mark_bytes mark ++ octets)
record_written bytes octets number mark w n =
    let a : ℕ = 50 * number in
    let two : a + 2 - a ≡ 2 = omega arith in
    let rest : a + 50 - (a + 2) ≡ 48 = omega arith in
    let on : a + 2 + 48 ≡ a + 50 = omega arith in
    let celled : List ℕ = put_mid (a + 2) 48 bytes octets in
    let front : take a celled ≡ take a bytes = take-put_mid_below (a + 2) 48 bytes octets a (omega arith) (omega arith) in
    let long : length (take (a + 2) bytes) ≡ a + 2 = length-take-le (a + 2) bytes (omega arith) in
    let back : drop 2 (drop a celled) ≡ octets ++ drop (a + 50) bytes =
    drop-drop 2 a celled
    ∙ drop_at (take (a + 2) bytes) (octets ++ drop 48 (drop (a + 2) bytes)) (a + 2) long
    ∙ ap (λ (bs : List ℕ). octets ++ bs) (drop-drop 48 (a + 2) bytes ∙ ap (λ (i : ℕ). drop i bytes) on) in
    rw (two, rest, front, back) refl

-- the mark of two bytes, and the two bytes of a mark
pub mark_read : (mark : Mark) → mark_of (first_byte mark) (second_byte mark) ≡ Some mark
mark_read Taken = refl
mark_read Waiting = refl
mark_read Unused = refl

bytes_of_mark : (first second : ℕ) (mark : Mark) → mark_of first second ≡ Some mark → (first ≡ first_byte mark) × (second ≡ second_byte mark)
bytes_of_mark first second Taken e = (grind (arith, nat_tests), grind (arith, nat_tests))
bytes_of_mark first second Waiting e = (grind (arith, nat_tests), grind (arith, nat_tests))
bytes_of_mark first second Unused e = (grind (arith, nat_tests), grind (arith, nat_tests))

two_of : (xs : List ℕ) → 2 ≤ length xs → take 2 xs ≡ get_or xs 0 0 ∷ get_or xs 1 0 ∷ []
two_of [] l = absurd (omega arith)
two_of (x ∷ []) l = absurd (omega arith)
two_of (x ∷ y ∷ xs) l = refl

pub marked_from_read : (bytes : List ℕ) (number : ℕ) (mark : Mark) → Within (length bytes) number → mark_at bytes number ≡ Some mark → Marked bytes number mark
marked_from_read bytes number mark w e =
    let r : List ℕ = record_at bytes number in
    let l = length_record bytes number w in
    let b = bytes_of_mark (get_or r 0 0) (get_or r 1 0) mark e in
    two_of r (omega arith) ∙ ap (λ (x : ℕ). x ∷ get_or r 1 0 ∷ []) b.0 ∙ ap (λ (y : ℕ). first_byte mark ∷ y ∷ []) b.1

pub read_from_marked : (bytes : List ℕ) (number : ℕ) (mark : Mark) → Within (length bytes) number → Marked bytes number mark → mark_at bytes number ≡ Some mark
read_from_marked bytes number mark w e =
    let r : List ℕ = record_at bytes number in
    let l = length_record bytes number w in
    let t = two_of r (omega arith) in
    let x : get_or r 0 0 ≡ first_byte mark = cc in
    let y : get_or r 1 0 ≡ second_byte mark = cc in
    ap (λ (f : ℕ). mark_of f (get_or r 1 0)) x ∙ ap (mark_of (first_byte mark)) y ∙ mark_read mark

-- a record has one mark
pub one_mark : (bytes : List ℕ) (number : ℕ) (mark other : Mark) → Marked bytes number mark → Marked bytes number other → mark ≡ other
one_mark bytes number mark other m o =
    let x : first_byte mark ≡ first_byte other = cc in
    let y : second_byte mark ≡ second_byte other = cc in
    let s : Some mark ≡ Some other = sym (mark_read mark) ∙ ap (λ (f : ℕ). mark_of f (second_byte mark)) x ∙ ap (mark_of (first_byte other)) y ∙ mark_read other in
    cc
