-- A list of slots, read from a slot on and round the end.
use Rattle.std.specs.Prelude.{ℕ, ◌+◌, ◌%◌, List, ◌++◌, take, drop}

-- all the slots, from this one on
abbrev pub round_from : {A : Type 0} → List A → ℕ → List A
round_from slots head = drop head slots ++ take head slots

-- as many of them as are in use
abbrev pub held : {A : Type 0} → List A → ℕ → ℕ → List A
held slots head count = take count (round_from slots head)

-- the slot after those in use, where there are n slots
abbrev pub slot_after : ℕ → ℕ → ℕ → ℕ
slot_after n head count = (head + count) % n
