-- What a plan that has started means.
use Rattle.std.specs.Prelude.{List, drop, vec_items}
use Rattle.carriage.specs.declared.fate.Fate.{Fate}
use Rattle.line.specs.declared.plan.Plan.{Plan}

-- the fates ahead, the next one first
abbrev pub ahead : Plan → List Fate
ahead p = drop p.used (vec_items p.fates)
