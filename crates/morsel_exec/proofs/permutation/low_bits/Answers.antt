use Rattle.std.proofs.lemmas.Nat.{and_mask}
use Rattle.morsel_exec.proofs.permutation.low_bits.Goals as goal

pub returns : goal.returns
returns c = rw c.places.ensures (and_mask c.args.word c.args.width)
