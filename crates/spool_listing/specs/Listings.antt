-- What a listing is made of.
use Rattle.std.specs.Prelude.{◌≡◌, ℕ, List, Ok, Err, Result}
use Rattle.cell.specs.declared.fault.Fault.{Fault}
use Rattle.spool.specs.Records.{cell_at}
use Rattle.spool.specs.Surveys.{mark_in, Whole, Surveyed}
use Rattle.spool_listing.specs.declared.listing.Listing.{Listing}
use Rattle.spool_listing.specs.Text.{record_line}

abbrev pub listed_bytes : Listing → List ℕ
listed_bytes l = l.bytes.now

-- the listing is of all the records of its bytes, and they are in order
abbrev pub IsListed : Listing → Type 0
IsListed l = Whole (listed_bytes l) l.survey

-- A listing is made of these bytes, or refused as the opening of a spool would be.
abbrev pub Listed : List ℕ → Result Listing Fault → Type 0
Listed bytes (Ok l) = (listed_bytes l ≡ bytes) × IsListed l
Listed bytes (Err fault) = Surveyed bytes (Err fault)

-- the line of the record of this number
abbrev pub line_at : Listing → ℕ → List ℕ
line_at l number = record_line number (mark_in l.survey number) (cell_at (listed_bytes l) number)
