-- Every line fits into the room of a line.
use Rattle.std.proofs.Common.{ℕ, ◌^◌, ◌<◌, ◌≤◌, length, decimal, arith, length-append}
use Rattle.std.proofs.lemmas.Fmt.{length-decimal-le}
use Rattle.cell.specs.Faults.{number_of}
use Rattle.cell.specs.declared.fault.Fault.{Fault}
use Rattle.cell.specs.declared.octets.Cell.{Cell}
use Rattle.spool.specs.declared.record.Mark.{Mark}
use Rattle.spool.specs.declared.record.Mark.TheVariants.{Taken, Waiting, Unused}
use Rattle.spool.specs.declared.survey.Survey.{Survey}
use Rattle.spool.specs.Records.{mark_name}
use Rattle.spool.specs.Surveys.{records_of}
use Rattle.spool_listing.specs.Text.{header_word, record_line, summary_line, refusal_line}

mark_short : (mark : Mark) → length (mark_name mark) ≤ 7
mark_short Taken = omega arith
mark_short Waiting = omega arith
mark_short Unused = omega arith

header_short : (mark : Mark) (cell : Cell) → length (header_word mark cell) ≤ 2
header_short Taken cell = omega arith
header_short Waiting cell = omega arith
header_short Unused cell = omega arith

pub line_short : (number : ℕ) (mark : Mark) (cell : Cell) → length (decimal number) ≤ 20 → length (record_line number mark cell) ≤ 96
unfolding record_line
line_short number mark cell h = simp length-append (omega (arith, mark_short mark, header_short mark cell))

four : (n : ℕ) → n ≤ 1310 → length (decimal n) ≤ 4
four n h = let wide : n < 10 ^ 4 = omega arith in let fits : n < 2 ^ 64 = omega arith in length-decimal-le 4 n (omega arith) wide fits

pub summary_short : (s : Survey) → records_of s ≤ 1310 → length (summary_line (records_of s) s) ≤ 96
unfolding summary_line
summary_short s h =
    let a = four (records_of s) h in
    let b = four s.taken (omega arith) in
    let c = four s.waiting (omega arith) in
    let d = four s.unused (omega arith) in
    simp length-append (omega arith)

pub refusal_short : (fault : Fault) → length (decimal (number_of fault.refusal)) ≤ 20 → length (decimal fault.place) ≤ 20 → length (refusal_line fault) ≤ 96
unfolding refusal_line
refusal_short fault h k = simp length-append (omega arith)
