-- The octets of a line, and what is pushed onto it.
use Rattle.std.specs.Prelude.{◌≡◌, ℕ, ◌+◌, ◌-◌, ◌/◌, ◌%◌, ◌≤◌, cond, List, [], ◌∷◌, ◌++◌, length, take, nat_lt, decimal}
use Rattle.std.specs.List.{flat_map}
use Rattle.text.specs.declared.line.Line.{Line}
use Rattle.text.specs.declared.piece.Piece.{Piece}
use Rattle.text.specs.declared.piece.Piece.TheVariants.{Text, Hex, Decimal}

-- what a line holds
abbrev pub text_of : Line → List ℕ
text_of l = take l.len l.octets

-- what a line keeps of some octets: the first 96
abbrev pub kept : List ℕ → List ℕ
kept octets = take 96 octets

-- These octets were pushed: the line holds them behind what it held, cut at its room.
abbrev pub Appends : Line → List ℕ → Line → Type 0
Appends old octets new = text_of new ≡ kept (text_of old ++ octets)

-- `0` to `9`, then `A` to `F`
abbrev pub hex_digit : ℕ → ℕ
hex_digit n = cond (nat_lt n 10) (48 + n) (65 + (n - 10))

-- an octet in two hexadecimal digits
abbrev pub hex_of : ℕ → List ℕ
hex_of octet = hex_digit (octet / 16) ∷ hex_digit (octet % 16) ∷ []

-- the octets of a piece
abbrev pub text_of_piece : Piece → List ℕ
text_of_piece (Text text) = text.now
text_of_piece (Hex octet) = hex_of octet
text_of_piece (Decimal n) = decimal n

-- the octets of some pieces, one after the other
abbrev pub text_of_pieces : List Piece → List ℕ
text_of_pieces = flat_map text_of_piece

-- the number that a piece is, if it is one, has at most 20 digits
abbrev pub FewDigits : Piece → Type 0
FewDigits (Text text) = Unit {0}
FewDigits (Hex octet) = Unit {0}
FewDigits (Decimal n) = length (decimal n) ≤ 20
