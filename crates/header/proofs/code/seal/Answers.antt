use Rattle.std.proofs.Common.{arith}
use Rattle.header.proofs.Sealed.{sealed_formed, sealed_protected}
use Rattle.header.proofs.code.seal.Goals as goal

pub returns-clause-formed : goal.returns-clause-formed
returns-clause-formed c = grind (arith, sealed_formed c.args.csi c.args.count)

pub returns-clause-protected : goal.returns-clause-protected
returns-clause-protected c = grind (arith, sealed_protected c.args.csi c.args.count)
