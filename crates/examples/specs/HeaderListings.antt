-- Examples of the listing of headers.
use Rattle.std.specs.Prelude.{◌≡◌, codes}
use Rattle.header.specs.declared.reader.Mode.TheVariants.{Correction}
use Rattle.header_listing.specs.Text.{line_of, summary_of}
use Rattle.header_listing.specs.Entries.{entry_of, opened}

pub record HeaderListingExamples : Type 0 where
  -- `07`, read in correction mode
  pub line_07 : line_of (entry_of Correction 0x07) ≡ codes "07 0 1 valid detection\n"
  -- the last line of an empty recording
  pub empty : summary_of opened.tally ≡ codes "read 0 corrected 0 invalid 0\n"
