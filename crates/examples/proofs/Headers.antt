-- The examples of the header code, by its laws alone. Assumes nothing.
use Rattle.std.proofs.Common.{ℕ, ◌+◌, ◌*◌, ◌<◌, get_or, subst, arith}
use Rattle.header.specs.Laws.{headers, Protected}
use Rattle.header.proofs.Sealed.{sealed_formed, sealed_protected}
use Rattle.examples.specs.Headers.{HeaderExamples}

-- each of the listed headers is protected
listed : (csi count : ℕ) → csi < 2 → count < 8 → Protected csi count (get_or headers (csi * 8 + count) 0)
listed csi count h k = subst (Protected csi count) (sealed_formed csi count h k).listed (sealed_protected csi count h k)

pub header_examples : HeaderExamples
header_examples =
    let at-00 = listed 0 0 (omega arith) (omega arith) in
    let at-17 = listed 0 1 (omega arith) (omega arith) in
    record {
      corrected_07 = at-17.one_turned 4 (omega arith);
      invalid_07 = at-17.one_detected 4 (omega arith);
      invalid_0f = λ m. at-17.two_turned m 4 3 (omega arith) (omega arith) (λ e. omega arith);
      corrected_01 = at-00.one_turned 0 (omega arith);
    }
