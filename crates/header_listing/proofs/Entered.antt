-- One octet entered: from what the reader and the tally promise. Assumes nothing.
use Rattle.std.proofs.Common.{◌≡◌, ℕ, ap, ◌∙◌}
use Rattle.header.specs.declared.reader.Mode.{Mode}
use Rattle.header.specs.declared.reader.Reader.{Reader}
use Rattle.header.specs.declared.reader.Reading.{Reading}
use Rattle.header.specs.Reading.{reading, mode_after}
use Rattle.header_listing.specs.declared.entry.Entry.{Entry}
use Rattle.header_listing.specs.declared.listing.Listing.{Listing}
use Rattle.header_listing.specs.declared.listing.Tally.{Tally}
use Rattle.header_listing.specs.Entries.{entry_of, noted, advanced}

abbrev entry_from : ℕ → Reading → Mode → Entry
entry_from octet r m = record { octet = octet; reading = r; mode = m }

abbrev listing_from : Mode → Tally → Listing
listing_from m t = record { reader = record { mode = m }; tally = t }

module _ (l : Listing) (octet : ℕ) (r : Reading) (reader : Reader) (m : Mode) (read : r ≡ reading l.reader.mode octet) (moved : reader.mode ≡ mode_after l.reader.mode octet) (told : m ≡ reader.mode) where
  pub the_entry : entry_from octet r m ≡ entry_of l.reader.mode octet
  the_entry = cc

  pub the_listing : (t : Tally) → t ≡ noted l.tally (entry_from octet r m) → listing_from reader.mode t ≡ advanced l octet
  the_listing t tallied =
      let same : t ≡ noted l.tally (entry_of l.reader.mode octet) = tallied ∙ ap (noted l.tally) the_entry in
      ap (λ x. listing_from x t) moved ∙ ap (listing_from (mode_after l.reader.mode octet)) same
