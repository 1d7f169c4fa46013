-- Examples of the header code.
use Rattle.header.specs.declared.reader.Mode.{Mode}
use Rattle.header.specs.declared.reader.Mode.TheVariants.{Correction, Detection}
use Rattle.header.specs.Laws.{ReadsBack, Invalid}

pub record HeaderExamples : Type 0 where
  -- `07` in correction mode is CSI 0, count 1
  pub corrected_07 : ReadsBack Correction 0x07 0 1 Detection
  -- in detection mode it is invalid
  pub invalid_07 : Invalid Detection 0x07
  -- `0F` is invalid in both modes
  pub invalid_0f : (m : Mode) → Invalid m 0x0F
  -- `01` in correction mode is CSI 0, count 0
  pub corrected_01 : ReadsBack Correction 0x01 0 0 Detection
