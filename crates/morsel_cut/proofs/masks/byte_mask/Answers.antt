use Rattle.std.proofs.Common.{◌==◌, ℕ, arith}
use Rattle.std.proofs.lemmas.List.{length-take-le}
use Rattle.std.proofs.lemmas.Simd.{bitmask_splat}
use Rattle.std.specs.Int.{w8}
use Rattle.morsel_cut.proofs.masks.byte_mask.Goals as goal

pub returns : goal.returns
returns c = bitmask_splat w8 (λ (x y : ℕ). x == y) _ 64 c.args.byte (length-take-le 64 c.args.lane.now c.requires) (omega arith)
