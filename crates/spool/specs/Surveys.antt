-- The records of a spool, in order: those taken, then those that wait, then those unused.
use Rattle.std.specs.Prelude.{◌≡◌, ℕ, ◌+◌, ◌*◌, ◌%◌, ◌<◌, ◌≤◌, cond, ◌⊎◌, List, length, Some, None, Ok, Err, Option, Result, ◌==◌, nat_lt}
use Rattle.cell.specs.Faults.{raised}
use Rattle.cell.specs.declared.fault.Fault.{Fault}
use Rattle.cell.specs.declared.fault.Part.TheVariants as part
use Rattle.cell.specs.declared.fault.Refusal.TheVariants.{SpoolLength, SpoolRecord}
use Rattle.spool.specs.declared.record.Mark.{Mark}
use Rattle.spool.specs.declared.record.Mark.TheVariants.{Taken, Waiting, Unused}
use Rattle.spool.specs.declared.survey.Survey.{Survey}
use Rattle.spool.specs.Records.{mark_at, Marked, Within}

abbrev pub survey_of : ℕ → ℕ → ℕ → Survey
survey_of taken waiting unused = record { taken = taken; waiting = waiting; unused = unused }

-- no records
abbrev pub nothing : Survey
nothing = survey_of 0 0 0

-- how many records there are
abbrev pub records_of : Survey → ℕ
records_of s = s.taken + s.waiting + s.unused

-- the mark that the record of this number has, from 0
abbrev pub mark_in : Survey → ℕ → Mark
mark_in s number = cond (nat_lt number s.taken) Taken (cond (nat_lt number (s.taken + s.waiting)) Waiting Unused)

-- these bytes have room for so many records
abbrev pub Fit : List ℕ → Survey → Type 0
Fit bytes s = 50 * records_of s ≤ length bytes

-- the first records have the marks of the survey
abbrev pub Ordered : List ℕ → Survey → Type 0
Ordered bytes s = (number : ℕ) → number < records_of s → Marked bytes number (mark_in s number)

-- one record more, behind those counted: a taken one only behind taken ones, and a waiting one not behind an unused one
abbrev pub counted : Survey → Option Mark → Option Survey
counted s (Some Taken) = cond (s.waiting == 0) (cond (s.unused == 0) (Some (survey_of (s.taken + 1) s.waiting s.unused)) None) None
counted s (Some Waiting) = cond (s.unused == 0) (Some (survey_of s.taken (s.waiting + 1) s.unused)) None
counted s (Some Unused) = Some (survey_of s.taken s.waiting (s.unused + 1))
counted s None = None

-- a length that a spool can have: one record or more, and at most 65,500 bytes
abbrev pub GoodLength : ℕ → Type 0
GoodLength len = (0 < len) × (len % 50 ≡ 0) × (len ≤ 65500)

-- A record with this mark may not stand behind those of the survey:
-- it has another mark, or is taken behind one that waits or is unused, or waits behind one that is unused.
abbrev pub Misplaced : Survey → Option Mark → Type 0
Misplaced s None = Unit {0}
Misplaced s (Some Taken) = 0 < s.waiting + s.unused
Misplaced s (Some Waiting) = 0 < s.unused
Misplaced s (Some Unused) = ⊥

-- The bytes are records in order, all of them.
pub record Whole (bytes : List ℕ) (s : Survey) : Type 0 where
  pub long : GoodLength (length bytes)
  pub all : 50 * records_of s ≡ length bytes
  pub ordered : Ordered bytes s

-- The records before the one at this place are in order, and that one may not stand behind them.
pub record Broken (bytes : List ℕ) (place : ℕ) : Type 0 where
  pub long : GoodLength (length bytes)
  pub within : Within (length bytes) place
  pub before : (s : Survey) × (records_of s ≡ place) × Ordered bytes s × Misplaced s (mark_at bytes place)

-- Refused exactly if no spool has this length, and then exactly if a record may not stand where it stands.
abbrev pub Surveyed : List ℕ → Result Survey Fault → Type 0
Surveyed bytes (Ok s) = Whole bytes s
Surveyed bytes (Err fault) = ((GoodLength (length bytes) → ⊥) × (fault ≡ raised SpoolLength part.Spool 0)) ⊎ ((place : ℕ) × Broken bytes place × (fault ≡ raised SpoolRecord part.Spool place))

-- No other answer fits these bytes.
abbrev pub OnlyAnswer : List ℕ → Result Survey Fault → Type 0
OnlyAnswer bytes r = (other : Result Survey Fault) → Surveyed bytes other → other ≡ r
