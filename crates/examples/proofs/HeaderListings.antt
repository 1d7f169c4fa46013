-- The examples of the listing. Assumes nothing.
use Rattle.std.proofs.Common.{◌≡◌, true, codes, arith}
use Rattle.header.specs.declared.reader.Mode.TheVariants.{Correction, Detection}
use Rattle.header.specs.Reading.{reading, mode_after}
use Rattle.header_listing.specs.Text.{line_of, summary_of}
use Rattle.header_listing.specs.Entries.{entry_of, opened}
use Rattle.examples.specs.HeaderListings.{HeaderListingExamples}
use Rattle.std.proofs.lemmas.Fmt.{decimal_digit}
use Rattle.examples.proofs.Headers.{header_examples}

written_07 : line_of (entry_of Correction 0x07) ≡ codes "07 0 1 valid detection\n"
unfolding line_of
written_07 =
    let answers : reading Correction 0x07 ≡ record { csi = 0; count = 1; valid = true } = header_examples.corrected_07.answers in
    let follows : mode_after Correction 0x07 ≡ Detection = header_examples.corrected_07.follows in
    simp (answers, follows, decimal_digit 0 (omega arith), decimal_digit 1 (omega arith))

written_none : summary_of opened.tally ≡ codes "read 0 corrected 0 invalid 0\n"
unfolding summary_of
written_none = simp (decimal_digit 0 (omega arith))

pub header_listing_examples : HeaderListingExamples
header_listing_examples = record { line_07 = written_07; empty = written_none }
