-- Examples of lines.
use Rattle.std.specs.Prelude.{◌≡◌, [], ◌∷◌}
use Rattle.carriage.specs.declared.fate.Fate.TheVariants.{Turn, Lost}
use Rattle.line.specs.Lines.{composed}

pub record LineExamples : Type 0 where
  -- the own fates 1, 256 and 2 over the fates 256, 4 and 8
  pub composed_fates : composed (Turn 1 ∷ Lost ∷ Turn 2 ∷ []) (Lost ∷ Turn 4 ∷ Turn 8 ∷ []) ≡ Lost ∷ Lost ∷ Turn 6 ∷ Turn 8 ∷ []
