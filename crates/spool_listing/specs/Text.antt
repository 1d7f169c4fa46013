-- The text of the listing, as octets of ASCII.
use Rattle.std.specs.Prelude.{ℕ, List, [], ◌∷◌, codes, decimal}
use Rattle.std.specs.List.{concat}
use Rattle.cell.specs.Cells.{header_of}
use Rattle.cell.specs.Faults.{number_of}
use Rattle.cell.specs.declared.fault.Fault.{Fault}
use Rattle.cell.specs.declared.octets.Cell.{Cell}
use Rattle.spool.specs.declared.record.Mark.{Mark}
use Rattle.spool.specs.declared.record.Mark.TheVariants.{Taken, Waiting, Unused}
use Rattle.spool.specs.Records.{mark_name}
use Rattle.spool.specs.declared.survey.Survey.{Survey}
use Rattle.text.specs.Lines.{hex_of}

-- the header octet of the record's cell, if it has one
abbrev pub header_word : Mark → Cell → List ℕ
header_word Taken cell = hex_of (header_of cell)
header_word Waiting cell = hex_of (header_of cell)
header_word Unused cell = codes "--"

-- a line: the number, the mark and the header octet, single spaces between
unfoldable pub record_line : ℕ → Mark → Cell → List ℕ
record_line number mark cell = concat (decimal number ∷ codes " " ∷ mark_name mark ∷ codes " " ∷ header_word mark cell ∷ codes "\n" ∷ [])

-- the last line: how many records there are, and how many of each kind
unfoldable pub summary_line : ℕ → Survey → List ℕ
summary_line records s = concat (
    codes "records " ∷ decimal records
    ∷ codes " taken " ∷ decimal s.taken
    ∷ codes " waiting " ∷ decimal s.waiting
    ∷ codes " unused " ∷ decimal s.unused
    ∷ codes "\n" ∷ [])

-- the line of a refusal
unfoldable pub refusal_line : Fault → List ℕ
refusal_line fault = concat (codes "refused " ∷ decimal (number_of fault.refusal) ∷ codes " " ∷ decimal fault.place ∷ codes "\n" ∷ [])
