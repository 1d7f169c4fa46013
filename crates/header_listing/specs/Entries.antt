-- What a listing finds in one octet, and how it goes on.
use Rattle.std.specs.Prelude.{ℕ, ◌+◌, ◌-◌, ◌^◌, min, Bool, cond, not, ◌&&◌}
use Rattle.header.specs.declared.reader.Mode.{Mode}
use Rattle.header.specs.declared.reader.Mode.TheVariants.{Correction}
use Rattle.header.specs.Reading.{corrects, reading, mode_after}
use Rattle.header_listing.specs.declared.entry.Entry.{Entry}
use Rattle.header_listing.specs.declared.listing.Listing.{Listing}
use Rattle.header_listing.specs.declared.listing.Tally.{Tally}

-- one octet, read in a mode
abbrev pub entry_of : Mode → ℕ → Entry
entry_of m octet = record { octet = octet; reading = reading m octet; mode = mode_after m octet }

abbrev pub is_invalid : Entry → Bool
is_invalid e = not e.reading.valid

-- a bit was turned back: the header is valid, and detection mode follows
abbrev pub is_corrected : Entry → Bool
is_corrected e = e.reading.valid && not (corrects e.mode)

-- a number that stops at the largest of 64 bits
abbrev pub capped : ℕ → ℕ
capped n = min n (2 ^ 64 - 1)

-- one more, if the test passed
abbrev pub bumped : Bool → ℕ → ℕ
bumped b n = cond b (capped (n + 1)) n

-- the numbers after one entry more
abbrev pub noted : Tally → Entry → Tally
noted t e = record {
  read = capped (t.read + 1);
  corrected = bumped (is_corrected e) t.corrected;
  invalid = bumped (is_invalid e) t.invalid;
}

-- before the first octet: correction mode, and nothing read
abbrev pub opened : Listing
opened = record { reader = record { mode = Correction }; tally = record { read = 0; corrected = 0; invalid = 0 } }

-- after one octet more
abbrev pub advanced : Listing → ℕ → Listing
advanced l octet = record {
  reader = record { mode = mode_after l.reader.mode octet };
  tally = noted l.tally (entry_of l.reader.mode octet);
}
