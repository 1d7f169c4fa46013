-- The text of the listing, as octets of ASCII.
use Rattle.std.specs.Prelude.{ℕ, Bool, true, false, List, [], ◌∷◌, codes, decimal}
use Rattle.std.specs.List.{concat}
use Rattle.header.specs.Reading.{mode_name}
use Rattle.text.specs.Lines.{hex_of}
use Rattle.header_listing.specs.declared.entry.Entry.{Entry}
use Rattle.header_listing.specs.declared.listing.Tally.{Tally}

abbrev pub validity_word : Bool → List ℕ
validity_word true = codes "valid"
validity_word false = codes "invalid"

-- a line: the octet, the CSI, the count, the validity and the mode that followed, single spaces between
unfoldable pub line_of : Entry → List ℕ
line_of e = concat (
    hex_of e.octet
    ∷ codes " " ∷ decimal e.reading.csi
    ∷ codes " " ∷ decimal e.reading.count
    ∷ codes " " ∷ validity_word e.reading.valid
    ∷ codes " " ∷ mode_name e.mode
    ∷ codes "\n" ∷ [])

-- the last line
unfoldable pub summary_of : Tally → List ℕ
summary_of t = concat (
    codes "read " ∷ decimal t.read
    ∷ codes " corrected " ∷ decimal t.corrected
    ∷ codes " invalid " ∷ decimal t.invalid
    ∷ codes "\n" ∷ [])
