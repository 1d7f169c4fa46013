-- A record is 50 bytes: two of a mark, then the 48 octets of a cell.
use Rattle.std.specs.Prelude.{◌≡◌, ℕ, ◌+◌, ◌*◌, ◌≤◌, cond, List, [], ◌∷◌, ◌++◌, take, drop, Some, None, Option, ◌==◌, slice_index, codes}
use Rattle.cell.specs.declared.octets.Cell.{Cell}
use Rattle.spool.specs.declared.record.Mark.{Mark}
use Rattle.spool.specs.declared.record.Mark.TheVariants.{Taken, Waiting, Unused}
use Rattle.spool.specs.declared.record.Record.{Record}

-- the names of the marks
abbrev pub mark_name : Mark → List ℕ
mark_name Taken = codes "taken"
mark_name Waiting = codes "waiting"
mark_name Unused = codes "unused"

-- the two bytes of each mark
abbrev pub first_byte : Mark → ℕ
first_byte Taken = 0xA1
first_byte Waiting = 0xA1
first_byte Unused = 0x00

abbrev pub second_byte : Mark → ℕ
second_byte Taken = 0x02
second_byte Waiting = 0x01
second_byte Unused = 0x00

abbrev pub mark_bytes : Mark → List ℕ
mark_bytes mark = first_byte mark ∷ second_byte mark ∷ []

-- the mark that two bytes are, if they are one
abbrev pub mark_of : ℕ → ℕ → Option Mark
mark_of first second =
    cond (first == 0xA1) (cond (second == 0x02) (Some Taken) (cond (second == 0x01) (Some Waiting) None))
    (cond (first == 0x00) (cond (second == 0x00) (Some Unused) None) None)

-- the bytes of a record with this mark and this cell
abbrev pub record_of : Mark → Cell → List ℕ
record_of mark cell = first_byte mark ∷ second_byte mark ∷ cell.octets

-- a record's bytes, taken apart
abbrev pub parted : List ℕ → Record
parted bytes = record { mark = mark_of (slice_index bytes 0) (slice_index bytes 1); cell = record { octets = drop 2 bytes } }

-- there is a record of this number in so many bytes
abbrev pub Within : ℕ → ℕ → Type 0
Within len number = 50 * number + 50 ≤ len

-- the bytes of the record of this number, from 0
abbrev pub record_at : List ℕ → ℕ → List ℕ
record_at bytes number = take 50 (drop (50 * number) bytes)

-- it has this mark
abbrev pub Marked : List ℕ → ℕ → Mark → Type 0
Marked bytes number mark = take 2 (record_at bytes number) ≡ mark_bytes mark

-- its mark, if it has one, and its cell
abbrev pub mark_at : List ℕ → ℕ → Option Mark
mark_at bytes number = (parted (record_at bytes number)).mark

abbrev pub cell_at : List ℕ → ℕ → Cell
cell_at bytes number = (parted (record_at bytes number)).cell

-- all the bytes, with other ones in the record of this number
abbrev pub with_record : List ℕ → ℕ → List ℕ → List ℕ
with_record bytes number new = take (50 * number) bytes ++ (new ++ drop (50 * number + 50) bytes)
