-- What a line keeps, octet by octet and piece by piece. Assumes nothing.
use Rattle.std.proofs.Common.{set, length-append, ◌≡◌, ℕ, ◌+◌, ◌<◌, ◌≤◌, List, [], ◌∷◌, ◌++◌, length, get_or, take, sym, ap, ◌∙◌, ⊎_elim, append_assoc, append-nil, arith, length-take, take_all}
use lib.Seq.{take-append-le}
use Rattle.std.specs.List.{concat}
use Rattle.std.proofs.lemmas.List.{flat_map_more, take_more, take_more_set}
use Rattle.std.proofs.lemmas.Bool.{cases_lt}
use Rattle.text.specs.declared.piece.Piece.{Piece}
use Rattle.text.specs.Lines.{kept, text_of_piece, text_of_pieces}

-- one octet

pub kept_one : (xs : List ℕ) (n octet : ℕ) → n < 96 → length xs ≡ 96 → take (n + 1) (set xs n octet) ≡ kept (take n xs ++ (octet ∷ []))
kept_one xs n octet h whole =
    let inside : n < length xs = omega arith in
    let short : length (take n xs ++ (octet ∷ [])) ≤ 96 = simp (length-append, length-take) (omega arith) in
    take_more_set xs n octet inside ∙ sym (take_all 96 (take n xs ++ (octet ∷ [])) short)

pub kept_full : (xs : List ℕ) (n octet : ℕ) → n ≡ 96 → length xs ≡ 96 → take n xs ≡ kept (take n xs ++ (octet ∷ []))
kept_full xs n octet h whole =
    let all : length (take n xs) ≡ 96 = simp length-take (omega arith) in
    let long : 96 ≤ length (take n xs) = omega arith in
    let short : length (take n xs) ≤ 96 = omega arith in
    sym (take-append-le 96 (take n xs) (octet ∷ []) long ∙ take_all 96 (take n xs) short)

-- what was kept already

pub kept_short : (xs : List ℕ) → length xs ≤ 96 → kept xs ≡ xs
kept_short xs h = take_all 96 xs h

pub kept-kept : (xs ys : List ℕ) → kept (kept xs ++ ys) ≡ kept (xs ++ ys)
kept-kept xs ys =
    ⊎_elim
    (λ (short : length xs < 96). let h : length xs ≤ 96 = omega arith in ap (λ zs. kept (zs ++ ys)) (take_all 96 xs h))
    (λ (long : 96 ≤ length xs).
    let full : length (kept xs) ≡ 96 = simp length-take (omega arith) in
    let over : 96 ≤ length (kept xs) = omega arith in
    let within : length (kept xs) ≤ 96 = omega arith in
    take-append-le 96 (kept xs) ys over ∙ take_all 96 (kept xs) within ∙ sym (take-append-le 96 xs ys long))
    (cases_lt (length xs) 96)

-- a piece after a piece
pub kept_more : (before now after xs ys : List ℕ) → now ≡ kept (before ++ xs) → after ≡ kept (now ++ ys) → after ≡ kept (before ++ (xs ++ ys))
kept_more before now after xs ys e f = f ∙ ap (λ zs. kept (zs ++ ys)) e ∙ kept-kept (before ++ xs) ys ∙ ap kept (append_assoc before xs ys)

-- an octet after the first i
pub kept_next : (before now after xs : List ℕ) (i : ℕ) → i < length xs → now ≡ kept (before ++ take i xs) → after ≡ kept (now ++ (get_or xs i 0 ∷ [])) → after ≡ kept (before ++ take (i + 1) xs)
kept_next before now after xs i h e f = kept_more before now after (take i xs) (get_or xs i 0 ∷ []) e f ∙ ap (λ zs. kept (before ++ zs)) (sym (take_more xs i 0 h))

-- nothing more
pub kept_none : (xs : List ℕ) (n : ℕ) → n ≤ 96 → take n xs ≡ kept (take n xs ++ [])
kept_none xs n h =
    let short : length (take n xs) ≤ 96 = simp length-take (omega arith) in
    sym (ap kept (append-nil (take n xs)) ∙ kept_short (take n xs) short)

-- a piece after the first i of a line's pieces
pub kept_piece : (now after : List ℕ) (pieces : List Piece) (i : ℕ) (d : Piece) → i < length pieces → now ≡ kept (text_of_pieces (take i pieces)) → after ≡ kept (now ++ text_of_piece (get_or pieces i d)) → after ≡ kept (text_of_pieces (take (i + 1) pieces))
kept_piece now after pieces i d h e f =
    f
    ∙ ap (λ zs. kept (zs ++ text_of_piece (get_or pieces i d))) e
    ∙ kept-kept (text_of_pieces (take i pieces)) (text_of_piece (get_or pieces i d))
    ∙ ap kept (flat_map_more text_of_piece [] (take i pieces) (get_or pieces i d))
    ∙ ap (λ ps. kept (text_of_pieces ps)) (sym (take_more pieces i d h))

-- pieces pushed one after the other, from the text t to the text u
pub data Pushed : List ℕ → List (List ℕ) → List ℕ → Type 0 where
  done : {t u : List ℕ} → u ≡ kept t → Pushed t [] u
  more : {t p v u : List ℕ} {ps : List (List ℕ)} → v ≡ kept (t ++ p) → Pushed v ps u → Pushed t (p ∷ ps) u

pub all_pushed : (t : List ℕ) (ps : List (List ℕ)) (u : List ℕ) → Pushed t ps u → u ≡ kept (t ++ concat ps)
all_pushed t [] u (done e) = e ∙ sym (ap kept (append-nil t))
all_pushed t (p ∷ ps) u (more {v = v} e rest) =
    all_pushed v ps u rest ∙ ap (λ zs. kept (zs ++ concat ps)) e ∙ kept-kept (t ++ p) (concat ps) ∙ ap kept (append_assoc t p (concat ps))

-- the same, onto an empty line, where all of it fits
pub joined_line : (t : List ℕ) (ps : List (List ℕ)) (u : List ℕ) → t ≡ [] → length (concat ps) ≤ 96 → Pushed t ps u → u ≡ concat ps
joined_line t ps u none short pushes = all_pushed t ps u pushes ∙ ap (λ zs. kept (zs ++ concat ps)) none ∙ kept_short (concat ps) short
