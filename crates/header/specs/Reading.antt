-- Reading a header octet, in the reader's mode.
use Rattle.std.specs.Prelude.{ℕ, ◌/◌, ◌%◌, Bool, true, false, cond, not, ◌&&◌, List, codes, ◌==◌, bit_xor}
use Rattle.header.specs.declared.finding.Finding.{Finding}
use Rattle.header.specs.declared.finding.Finding.TheVariants.{Intact, Correctable, Invalid}
use Rattle.header.specs.declared.reader.Mode.{Mode}
use Rattle.header.specs.declared.reader.Mode.TheVariants.{Correction, Detection}
use Rattle.header.specs.declared.reader.Reading.{Reading}
use Rattle.header.specs.Code.{syndrome_of, violated, named_by}

-- the names of the modes
abbrev pub mode_name : Mode → List ℕ
mode_name Correction = codes "correction"
mode_name Detection = codes "detection"

-- the CSI and the count as they stand in an octet
abbrev pub fields_of : ℕ → Bool → Reading
fields_of octet valid = record { csi = octet / 128; count = octet / 16 % 8; valid = valid }

-- whether one turned bit is turned back in this mode
abbrev pub corrects : Mode → Bool
corrects Correction = true
corrects Detection = false

-- What a reader finds: a header that holds, one with a bit to turn back, or one that is invalid.
-- By the mode, by whether the syndrome is 0, and by whether the parity is violated.
abbrev pub judged : Mode → Bool → Bool → Finding
judged m agrees odd = cond (agrees && not odd) Intact (cond (corrects m && odd) Correctable Invalid)

unfoldable pub finding : Mode → ℕ → Finding
finding m octet = judged m (syndrome_of octet == 0) (violated octet)

-- The answer: an invalid header is told as received.
abbrev pub answered : Finding → ℕ → Reading
answered Intact octet = fields_of octet true
answered Correctable octet = fields_of (bit_xor octet (named_by (syndrome_of octet))) true
answered Invalid octet = fields_of octet false

-- The mode that follows.
abbrev pub next_mode : Finding → Mode
next_mode Intact = Correction
next_mode Correctable = Detection
next_mode Invalid = Detection

unfoldable pub reading : Mode → ℕ → Reading
reading m octet = answered (finding m octet) octet

unfoldable pub mode_after : Mode → ℕ → Mode
mode_after m octet = next_mode (finding m octet)
