use Rattle.std.proofs.Common.{arith}
use Rattle.std.proofs.lemmas.Nat.{one_shl}
use Rattle.morsel_exec.proofs.permutation.places.Goals as goal

pub returns : goal.returns
returns c = one_shl c.args.width 32 (omega arith)
