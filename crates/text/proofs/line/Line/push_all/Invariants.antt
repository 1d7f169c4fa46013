use Rattle.std.proofs.Common.{◌≡◌, ◌≤◌, ◌++◌, length, take}
use Rattle.text.specs.Lines.{text_of, kept}
use Rattle.text.proofs.line.Line.push_all.Given as goal

-- the octets before this one are written
abbrev pub invariant-loop-octet : goal.invariant-loop-octet
invariant-loop-octet l = record {
  whole : length l.self.octets ≡ 96;
  within : l.len ≤ 96;
  text : take l.len l.self.octets ≡ kept (text_of l.initial.self ++ take l.octet-index l.octets);
}
