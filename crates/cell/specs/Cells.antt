-- A cell is 48 octets: the header octet, then a payload of 47.
use Rattle.std.specs.Prelude.{ℕ, List, take, drop, bit_xor, slice_index, slice_set}
use Rattle.cell.specs.declared.octets.Cell.{Cell}

abbrev pub header_of : Cell → ℕ
header_of c = slice_index c.octets 0

-- the 47 octets from octet 1 on
abbrev pub payload_of : Cell → List ℕ
payload_of c = take 47 (drop 1 c.octets)

-- another header octet, the payload as it was
abbrev pub with_header : ℕ → Cell → Cell
with_header h c = record { octets = slice_set c.octets 0 h }

-- those header bits turned that are set in the mask
abbrev pub turned : ℕ → Cell → Cell
turned mask c = with_header (bit_xor (header_of c) mask) c
