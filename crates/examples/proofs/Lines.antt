-- The examples of lines.
use Rattle.std.proofs.Common.{refl}
use Rattle.examples.specs.Lines.{LineExamples}

pub line_examples : LineExamples
line_examples = record { composed_fates = refl }
