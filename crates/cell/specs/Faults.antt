-- What a refusal tells: its number, the part where it arose, and a place.
use Rattle.std.specs.Prelude.{ℕ, List, ◌++◌, codes, decimal}
use Rattle.cell.specs.declared.fault.Fault.{Fault}
use Rattle.cell.specs.declared.fault.Part.{Part}
use Rattle.cell.specs.declared.fault.Part.TheVariants.{HeaderCode, Ring, Spool, Plan, NearEnd, FarEnd, Carriage}
use Rattle.cell.specs.declared.fault.Refusal.{Refusal}
use Rattle.cell.specs.declared.fault.Refusal.TheVariants.{BlockSize, ListTooLong, Full, Empty, TrayTooFull, HeaderField, SpoolLength, SpoolRecord, FateNumber, PlanFull, NoFate}

-- the numbers by which refusals are known
abbrev pub number_of : Refusal → ℕ
number_of BlockSize = 1
number_of ListTooLong = 2
number_of Full = 3
number_of Empty = 4
number_of TrayTooFull = 5
number_of HeaderField = 6
number_of SpoolLength = 7
number_of SpoolRecord = 8
number_of FateNumber = 9
number_of PlanFull = 10
number_of NoFate = 11

-- the names of the parts
abbrev pub name_of : Part → List ℕ
name_of HeaderCode = codes "header code"
name_of Ring = codes "ring"
name_of Spool = codes "spool"
name_of Plan = codes "plan"
name_of NearEnd = codes "near end"
name_of FarEnd = codes "far end"
name_of Carriage = codes "carriage"

-- this refusal, from this part, at this place
abbrev pub raised : Refusal → Part → ℕ → Fault
raised refusal part place = record { refusal = refusal; part = part; place = place }

-- a refusal as text: its number, the name of the part and the place, single spaces between
abbrev pub fault_text : Fault → List ℕ
fault_text fault = decimal (number_of fault.refusal) ++ codes " " ++ name_of fault.part ++ codes " " ++ decimal fault.place
