-- Laws of surveys: one record more, and that bytes have one survey at most.
use Rattle.std.proofs.Common.{◌≡◌, ℕ, ◌+◌, ◌-◌, ◌<◌, ◌≤◌, List, length, Some, None, Ok, Err, Option, Result, sym, ap, ◌∙◌, subst, ⊎_elim, arith}
use Rattle.std.proofs.lemmas.Bool.{cases_lt, cases_order}
use Rattle.std.proofs.lemmas.Bool.Decides.{nat_tests}
use Rattle.cell.specs.Faults.{raised}
use Rattle.cell.specs.declared.fault.Fault.{Fault}
use Rattle.cell.specs.declared.fault.Part.TheVariants as part
use Rattle.cell.specs.declared.fault.Refusal.TheVariants.{SpoolRecord}
use Rattle.spool.specs.declared.record.Mark.{Mark}
use Rattle.spool.specs.declared.record.Mark.TheVariants.{Taken, Waiting, Unused}
use Rattle.spool.specs.declared.survey.Survey.{Survey}
use Rattle.spool.specs.Records.{Marked, mark_at, Within}
use Rattle.spool.specs.Surveys.{survey_of, records_of, mark_in, Ordered, counted, Misplaced, Whole, Broken, Surveyed, OnlyAnswer}
use Rattle.spool.proofs.Records.{marked_from_read, read_from_marked, one_mark}

-- where each mark stands
pub is_taken : (s : Survey) (k : ℕ) → k < s.taken → mark_in s k ≡ Taken
is_taken s k l = grind (arith, nat_tests)

pub is_waiting : (s : Survey) (k : ℕ) → s.taken ≤ k → k < s.taken + s.waiting → mark_in s k ≡ Waiting
is_waiting s k l m = grind (arith, nat_tests)

pub is_unused : (s : Survey) (k : ℕ) → s.taken + s.waiting ≤ k → mark_in s k ≡ Unused
is_unused s k l = grind (arith, nat_tests)

taken_means : (s : Survey) (k : ℕ) → mark_in s k ≡ Taken → k < s.taken
taken_means s k e = grind (arith, nat_tests)

waiting_means : (s : Survey) (k : ℕ) → mark_in s k ≡ Waiting → k < s.taken + s.waiting
waiting_means s k e = grind (arith, nat_tests)

unused_means : (s : Survey) (k : ℕ) → mark_in s k ≡ Unused → s.taken + s.waiting ≤ k
unused_means s k e = grind (arith, nat_tests)

-- a survey with one record more at its end
record Grown (s : Survey) (mark : Mark) (more : Survey) : Type 0 where
  one_more : records_of more ≡ records_of s + 1
  before : (k : ℕ) → k < records_of s → mark_in more k ≡ mark_in s k
  last : mark_in more (records_of s) ≡ mark

grown : (s more : Survey) (mark : Mark) → counted s (Some mark) ≡ Some more → Grown s mark more
grown s more Taken e = record { one_more = grind (arith, nat_tests); before = λ k l. grind (arith, nat_tests); last = grind (arith, nat_tests) }
grown s more Waiting e = record { one_more = grind (arith, nat_tests); before = λ k l. grind (arith, nat_tests); last = grind (arith, nat_tests) }
grown s more Unused e = record { one_more = grind (arith, nat_tests); before = λ k l. grind (arith, nat_tests); last = grind (arith, nat_tests) }

-- one record more is counted
pub counts_one : (bytes : List ℕ) (s more : Survey) (number : ℕ) (read : Option Mark) → records_of s ≡ number → Ordered bytes s → Within (length bytes) number → read ≡ mark_at bytes number → counted s read ≡ Some more → (records_of more ≡ number + 1) × Ordered bytes more
counts_one bytes s more number None n o w r e = absurd (cc)
counts_one bytes s more number (Some mark) n o w r e =
    let g = grown s more mark e in
    let one = g.one_more in
    let here : Marked bytes number mark = marked_from_read bytes number mark w (sym r) in
    let last : mark_in more number ≡ mark = ap (mark_in more) (sym n) ∙ g.last in (
      omega arith,
      λ k l.
          ⊎_elim
          (λ (b : k < records_of s). subst (Marked bytes k) (sym (g.before k b)) (o k b))
          (λ (b : records_of s ≤ k).
          let at : number ≡ k = omega arith in
          subst (λ (i : ℕ). Marked bytes i (mark_in more i)) at (subst (Marked bytes number) (sym last) here))
          (cases_lt k (records_of s)),
    )

-- a record that is not counted may not stand there
pub counts_none : (s : Survey) (read : Option Mark) → counted s read ≡ None → Misplaced s read
counts_none s None e = tt
counts_none s (Some Taken) e = grind (arith, nat_tests)
counts_none s (Some Waiting) e = grind (arith, nat_tests)
counts_none s (Some Unused) e = cc

same_marks : (bytes : List ℕ) (s other : Survey) (k : ℕ) → Ordered bytes s → Ordered bytes other → k < records_of s → k < records_of other → mark_in s k ≡ mark_in other k
same_marks bytes s other k o p l m = one_mark bytes k (mark_in s k) (mark_in other k) (o k l) (p k m)

no_more_taken : (bytes : List ℕ) (s other : Survey) → Ordered bytes s → Ordered bytes other → records_of s ≡ records_of other → s.taken ≤ other.taken
no_more_taken bytes s other o p n =
    ⊎_elim
    (λ (l : other.taken < s.taken).
    let k : ℕ = other.taken in
    let t = taken_means other k (sym (same_marks bytes s other k o p (omega arith) (omega arith)) ∙ is_taken s k l) in
    absurd (omega arith))
    (λ (l : s.taken ≤ other.taken). l)
    (cases_lt other.taken s.taken)

no_more_used : (bytes : List ℕ) (s other : Survey) → Ordered bytes s → Ordered bytes other → records_of s ≡ records_of other → s.taken + s.waiting ≤ other.taken + other.waiting
no_more_used bytes s other o p n =
    ⊎_elim
    (λ (l : other.taken + other.waiting < s.taken + s.waiting).
    let k : ℕ = other.taken + other.waiting in
    let u = unused_means s k (same_marks bytes s other k o p (omega arith) (omega arith) ∙ is_unused other k (omega arith)) in
    absurd (omega arith))
    (λ (l : s.taken + s.waiting ≤ other.taken + other.waiting). l)
    (cases_lt (other.taken + other.waiting) (s.taken + s.waiting))

-- bytes have one survey at most
pub one_survey : (bytes : List ℕ) (s other : Survey) → Whole bytes s → Whole bytes other → s ≡ other
one_survey bytes s other w v =
    let n : records_of s ≡ records_of other = let a = w.all in let b = v.all in omega arith in
    let t1 = no_more_taken bytes s other w.ordered v.ordered n in
    let t2 = no_more_taken bytes other s v.ordered w.ordered (sym n) in
    let u1 = no_more_used bytes s other w.ordered v.ordered n in
    let u2 = no_more_used bytes other s v.ordered w.ordered (sym n) in
    let t : s.taken ≡ other.taken = omega arith in
    let x : s.waiting ≡ other.waiting = omega arith in
    let u : s.unused ≡ other.unused = omega arith in
    let same : survey_of s.taken s.waiting s.unused ≡ survey_of other.taken other.waiting other.unused = cc in
    same

-- a record of the one survey cannot be misplaced behind those of the other
misplaced : (bytes : List ℕ) (s other : Survey) (mark : Mark) → Ordered bytes s → Ordered bytes other → records_of other < records_of s → mark_in s (records_of other) ≡ mark → Misplaced other (Some mark) → ⊥
misplaced bytes s other Taken o p l e wrong =
    let k : ℕ = records_of other - 1 in
    let t = taken_means s (records_of other) e in
    let m = taken_means other k (sym (same_marks bytes s other k o p (omega arith) (omega arith)) ∙ is_taken s k (omega arith)) in
    omega arith
misplaced bytes s other Waiting o p l e wrong =
    let k : ℕ = records_of other - 1 in
    let t = waiting_means s (records_of other) e in
    let m = unused_means s k (same_marks bytes s other k o p (omega arith) (omega arith) ∙ is_unused other k (omega arith)) in
    omega arith
misplaced bytes s other Unused o p l e wrong = wrong

-- where all records are in order, there is none that may not stand where it stands
pub not_broken : (bytes : List ℕ) (s : Survey) (place : ℕ) → Whole bytes s → Broken bytes place → ⊥
not_broken bytes s place w b =
    let other : Survey = b.before.0 in
    let n : records_of other ≡ place = b.before.1 in
    let a = w.all in
    let in_bytes = b.within in
    let in_all : place < records_of s = omega arith in
    let read : mark_at bytes place ≡ Some (mark_in s place) = read_from_marked bytes place (mark_in s place) b.within (w.ordered place in_all) in
    let wrong : Misplaced other (Some (mark_in s place)) = subst (Misplaced other) read b.before.3 in
    misplaced bytes s other (mark_in s place) w.ordered b.before.2 (omega arith) (ap (mark_in s) n) wrong

-- bytes whose records are in order are opened as they were left
pub opens_again : (bytes : List ℕ) (s : Survey) (r : Result Survey Fault) → Whole bytes s → Surveyed bytes r → r ≡ Ok s
opens_again bytes s (Ok other) w v = ap Ok (one_survey bytes other s v w)
opens_again bytes s (Err fault) w v = ⊎_elim (λ p. absurd (p.0 w.long)) (λ p. absurd (not_broken bytes s p.0 w p.1)) v

-- the first record that may not stand where it stands is one
one_broken : (bytes : List ℕ) (place other : ℕ) → Broken bytes place → Broken bytes other → place < other → ⊥
one_broken bytes place other b d l =
    let s : Survey = b.before.0 in
    let longer : Survey = d.before.0 in
    let n : records_of s ≡ place = b.before.1 in
    let m : records_of longer ≡ other = d.before.1 in
    let read : mark_at bytes place ≡ Some (mark_in longer place) = read_from_marked bytes place (mark_in longer place) b.within (d.before.2 place (omega arith)) in
    misplaced bytes longer s (mark_in longer place) d.before.2 b.before.2 (omega arith) (ap (mark_in longer) n) (subst (Misplaced s) read b.before.3)

same_place : (bytes : List ℕ) (place other : ℕ) → Broken bytes place → Broken bytes other → place ≡ other
same_place bytes place other b d =
    ⊎_elim (λ e. e) (λ l. absurd (⊎_elim (one_broken bytes place other b d) (one_broken bytes other place d b) l)) (cases_order place other)

-- there is one answer
pub only_answer : (bytes : List ℕ) (r : Result Survey Fault) → Surveyed bytes r → OnlyAnswer bytes r
only_answer bytes (Ok s) v other w = opens_again bytes s other v w
only_answer bytes (Err fault) v (Ok s) w = sym (opens_again bytes s (Err fault) w v)
only_answer bytes (Err fault) v (Err another) w =
    ⊎_elim
    (λ p. ⊎_elim (λ q. ap Err (q.1 ∙ sym p.1)) (λ q. absurd (p.0 q.1.long)) w)
    (λ p. ⊎_elim (λ q. absurd (q.0 p.1.long)) (λ q. ap Err (q.2 ∙ ap (raised SpoolRecord part.Spool) (same_place bytes q.0 p.0 q.1 p.1) ∙ sym p.2)) w) v
