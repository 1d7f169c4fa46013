-- Laws of a spool: what put, drop and opening do to its meaning.
use Rattle.std.proofs.Common.{◌≡◌, ℕ, zero, suc, ◌+◌, ◌-◌, ◌<◌, ◌≤◌, ◌≢◌, List, [], ◌∷◌, ◌++◌, length, take, drop, Ok, Err, Result, sym, refl, ap, ◌∙◌, subst, ⊎_elim, arith, length-drop}
use Rattle.std.proofs.lemmas.List.FromFn.{map-range_with_len_more}
use Rattle.std.proofs.lemmas.Bool.{cases_eq}
use Rattle.std.proofs.lemmas.Bool.Decides.{nat_tests}
use Rattle.cell.proofs.Cells.{turned_none}
use Rattle.cell.specs.declared.fault.Fault.{Fault}
use Rattle.cell.specs.declared.octets.Cell.{Cell}
use Rattle.carriage.specs.Meaning.{PutCell, DroppedCell}
use Rattle.spool.specs.declared.record.Mark.{Mark}
use Rattle.spool.specs.declared.record.Mark.TheVariants.{Taken, Waiting}
use Rattle.spool.specs.declared.spool.Spool.{Spool}
use Rattle.spool.specs.declared.survey.Survey.{Survey}
use Rattle.spool.specs.Records.{Marked, Within, record_at, cell_at, parted, record_of, with_record}
use Rattle.spool.specs.Spools.{bytes_of, cells_in, meaning_in, spool_meaning, IsOpen}
use Rattle.spool.specs.Surveys.{Fit, survey_of, records_of, mark_in, GoodLength, Whole, Surveyed}
use Rattle.spool.proofs.Records.{length_record, length_with, record_there, record_elsewhere}
use Rattle.spool.proofs.Surveys.{is_taken, is_waiting, opens_again}

-- the cells in some records that are as they were
cells_same : (bytes other : List ℕ) (from count : ℕ) → ((k : ℕ) → from ≤ k → k < from + count → record_at bytes k ≡ record_at other k) → cells_in bytes from count ≡ cells_in other from count
cells_same bytes other from zero same = refl
cells_same bytes other from (suc count) same =
    ap (λ (r : List ℕ). (parted r).cell ∷ cells_in bytes (from + 1) count) (same from (omega arith) (omega arith))
    ∙ ap (λ (cs : List Cell). cell_at other from ∷ cs) (cells_same bytes other (from + 1) count (λ k l m. same k (omega arith) (omega arith)))

first_cell_in : (bytes : List ℕ) (from count : ℕ) → 0 < count → cells_in bytes from count ≡ cell_at bytes from ∷ cells_in bytes (from + 1) (count - 1)
first_cell_in bytes from zero l = absurd (omega arith)
first_cell_in bytes from (suc count) l = let e : count ≡ suc count - 1 = omega arith in ap (λ (n : ℕ). cell_at bytes from ∷ cells_in bytes (from + 1) n) e

-- the first cell that waits is that of the first record that waits
pub looks : (bytes : List ℕ) (from count : ℕ) (cell : Cell) → 0 < count → cell ≡ cell_at bytes from → cells_in bytes from count ≡ cell ∷ drop 1 (cells_in bytes from count)
looks bytes from zero cell l e = absurd (omega arith)
looks bytes from (suc count) cell l e = ap (λ (c : Cell). c ∷ cells_in bytes (from + 1) count) (sym e)

pub looked : (bytes : List ℕ) (from count : ℕ) (cell : Cell) → cells_in bytes from count ≡ cell ∷ drop 1 (cells_in bytes from count) → (0 < count) × (cell ≡ cell_at bytes from)
looked bytes from zero cell e = absurd (cc)
looked bytes from (suc count) cell e = (omega arith, cc)

-- one record has another mark, all others keep theirs, and the records are still all of the bytes and in order
remarked : (bytes : List ℕ) (s more : Survey) (number : ℕ) (mark : Mark) (cell : Cell) → number < records_of s → length cell.octets ≡ 48 → records_of more ≡ records_of s → ((k : ℕ) → k ≢ number → mark_in more k ≡ mark_in s k) → mark_in more number ≡ mark → Whole bytes s → Whole (with_record bytes number (record_of mark cell)) more
remarked bytes s more number mark cell l n same others this w =
    let all = w.all in
    let new : List ℕ = record_of mark cell in
    let within : Within (length bytes) number = omega arith in
    let fifty : length new ≡ 50 = omega arith in
    let len : length (with_record bytes number new) ≡ length bytes = length_with bytes new number within fifty in
    record {
      long = subst GoodLength (sym len) w.long;
      all = omega arith;
      ordered = λ k m. ⊎_elim
          (λ (e : k ≡ number).
          let here : Marked (with_record bytes number new) number mark = ap (take 2) (record_there bytes new number within fifty) in
          subst (λ (i : ℕ). Marked (with_record bytes number new) i (mark_in more i)) (sym e) (subst (Marked (with_record bytes number new) number) (sym this) here))
          (λ (e : k ≢ number).
          let there : Marked (with_record bytes number new) k (mark_in s k) = ap (take 2) (record_elsewhere bytes new number k within fifty e) ∙ w.ordered k (omega arith) in
          subst (Marked (with_record bytes number new) k) (sym (others k e)) there)
          (cases_eq k number);
    }

-- a cell goes into the first unused record
abbrev put_in : List ℕ → Survey → Cell → List ℕ
put_in bytes s cell = with_record bytes (s.taken + s.waiting) (record_of Waiting cell)

abbrev once_put : Survey → Survey
once_put s = survey_of s.taken (s.waiting + 1) (s.unused - 1)

pub put_means : (bytes : List ℕ) (s : Survey) (cell : Cell) → Fit bytes s → 0 < s.unused → length cell.octets ≡ 48 → PutCell cell (meaning_in bytes s) (meaning_in (put_in bytes s cell) (once_put s))
put_means bytes s cell fit u n =
    let number : ℕ = s.taken + s.waiting in
    let fifty : length (record_of Waiting cell) ≡ 50 = omega arith in
    let put : List ℕ = put_in bytes s cell in
    let before : cells_in put s.taken s.waiting ≡ cells_in bytes s.taken s.waiting = cells_same put bytes s.taken s.waiting (λ k l m. record_elsewhere bytes (record_of Waiting cell) number k (omega arith) fifty (omega arith)) in
    let last : cell_at put number ≡ cell = ap (λ (r : List ℕ). (parted r).cell) (record_there bytes (record_of Waiting cell) number (omega arith) fifty) in
    record {
      had_room = u;
      waiting = map-range_with_len_more (cell_at put) s.taken s.waiting number refl
          ∙ ap (λ (cs : List Cell). cs ++ cell_at put number ∷ []) before
          ∙ ap (λ (c : Cell). cells_in bytes s.taken s.waiting ++ c ∷ []) (last ∙ sym (turned_none cell));
      fates = refl;
      room = (omega arith, omega arith);
    }

pub put_whole : (bytes : List ℕ) (s : Survey) (cell : Cell) → 0 < s.unused → length cell.octets ≡ 48 → Whole bytes s → Whole (put_in bytes s cell) (once_put s)
put_whole bytes s cell u n = remarked bytes s (once_put s) (s.taken + s.waiting) Waiting cell (omega arith) n (omega arith) (λ k e. grind (arith, nat_tests)) (is_waiting (once_put s) (s.taken + s.waiting) (omega arith) (omega arith))

-- the first waiting record is taken
abbrev take_in : List ℕ → Survey → List ℕ
take_in bytes s = with_record bytes s.taken (record_of Taken (cell_at bytes s.taken))

abbrev once_taken : Survey → Survey
once_taken s = survey_of (s.taken + 1) (s.waiting - 1) s.unused

cell_in_48 : (bytes : List ℕ) (number : ℕ) → Within (length bytes) number → length (cell_at bytes number).octets ≡ 48
cell_in_48 bytes number w = omega (arith, length-drop 2 (record_at bytes number), length_record bytes number w)

pub drop_means : (bytes : List ℕ) (s : Survey) → Fit bytes s → 0 < s.waiting → DroppedCell (meaning_in bytes s) (meaning_in (take_in bytes s) (once_taken s))
drop_means bytes s fit w =
    let n = cell_in_48 bytes s.taken (omega arith) in
    let fifty : length (record_of Taken (cell_at bytes s.taken)) ≡ 50 = omega arith in
    let behind : cells_in (take_in bytes s) (s.taken + 1) (s.waiting - 1) ≡ cells_in bytes (s.taken + 1) (s.waiting - 1) = cells_same (take_in bytes s) bytes (s.taken + 1) (s.waiting - 1) (λ k l m. record_elsewhere bytes (record_of Taken (cell_at bytes s.taken)) s.taken k (omega arith) fifty (omega arith)) in
    record {
      waiting = (cell_at bytes s.taken, first_cell_in bytes s.taken s.waiting w ∙ ap (λ (cs : List Cell). cell_at bytes s.taken ∷ cs) (sym behind));
      fates = refl;
      room = omega arith;
    }

pub drop_whole : (bytes : List ℕ) (s : Survey) → Fit bytes s → 0 < s.waiting → Whole bytes s → Whole (take_in bytes s) (once_taken s)
drop_whole bytes s fit w = remarked bytes s (once_taken s) s.taken Taken (cell_at bytes s.taken) (omega arith) (cell_in_48 bytes s.taken (omega arith)) (omega arith) (λ k e. grind (arith, nat_tests)) (is_taken (once_taken s) s.taken (omega arith))

-- bytes that an open spool left behind are opened as it was
opened_again : (bytes : List ℕ) (r : Result Survey Fault) (left : Spool) → IsOpen left → bytes_of left ≡ bytes → Surveyed bytes r → r ≡ Ok left.survey
opened_again bytes r left was-open same found = opens_again bytes left.survey r (subst (λ (bs : List ℕ). Whole bs left.survey) same was-open) found

pub never_refused : (bytes : List ℕ) (fault : Fault) (left : Spool) → IsOpen left → bytes_of left ≡ bytes → Surveyed bytes (Err fault) → ⊥
never_refused bytes fault left was-open same refused = let e = opened_again bytes (Err fault) left was-open same refused in cc

-- and give a spool of the same meaning
pub means_again : (bytes : List ℕ) (survey : Survey) (left : Spool) → IsOpen left → bytes_of left ≡ bytes → Surveyed bytes (Ok survey) → meaning_in bytes survey ≡ spool_meaning left
means_again bytes survey left was-open same found =
    let e = opened_again bytes (Ok survey) left was-open same found in
    let s : survey ≡ left.survey = cc in
    ap (λ (bs : List ℕ). meaning_in bs survey) (sym same) ∙ ap (meaning_in (bytes_of left)) s
