-- A whole recording, in the words of its subject.
use Rattle.std.specs.Prelude.{◌≡◌, ℕ, ◌+◌, ◌<◌, Bool, true, cond, List, [], ◌∷◌, length, Decides, ◌≢◌}
use Rattle.header.specs.declared.reader.Mode.{Mode}
use Rattle.header.specs.declared.reader.Mode.TheVariants.{Correction}
use Rattle.header.specs.Code.{sealed}
use Rattle.header.specs.Reading.{reading, mode_after}
use Rattle.header_listing.specs.declared.entry.Entry.{Entry}
use Rattle.header_listing.specs.declared.listing.Listing.{Listing}
use Rattle.header_listing.specs.Entries.{entry_of, is_corrected, is_invalid, capped, opened, advanced}

-- the octets of a recording, the first read in the given mode, each next one in the mode that followed
unfoldable pub entries : Mode → List ℕ → List Entry
entries m [] = []
entries m (octet ∷ octets) = entry_of m octet ∷ entries (mode_after m octet) octets

-- how many entries pass a test
unfoldable pub how_many : (Entry → Bool) → List Entry → ℕ
how_many p [] = 0
how_many p (e ∷ es) = cond (p e) 1 0 + how_many p es

-- a listing after some octets, one after the other
unfoldable pub advanced_by : Listing → List ℕ → Listing
advanced_by l [] = l
advanced_by l (octet ∷ octets) = advanced_by (advanced l octet) octets

-- the numbers of a whole recording, read from its first octet on
pub record Counts (octets : List ℕ) : Type 0 where
  pub read : (advanced_by opened octets).tally.read ≡ capped (length octets)
  pub corrected : (advanced_by opened octets).tally.corrected ≡ capped (how_many is_corrected (entries Correction octets))
  pub invalid : (advanced_by opened octets).tally.invalid ≡ capped (how_many is_invalid (entries Correction octets))

abbrev pub NumbersCountOctets : Type 0
NumbersCountOctets = (octets : List ℕ) → Counts octets

-- the reading is valid, and the octet is not itself the header of the CSI and the count that were read
abbrev pub Differs : Mode → ℕ → Type 0
Differs m octet = ((reading m octet).valid ≡ true) × (octet ≢ sealed (reading m octet).csi (reading m octet).count)

abbrev pub CorrectedOctetsDiffer : Type 0
CorrectedOctetsDiffer = (m : Mode) (octet : ℕ) → octet < 256 → Decides (is_corrected (entry_of m octet)) (Differs m octet)
