use Rattle.std.proofs.Common.{ℕ, arith}
use Rattle.morsel_cut.specs.Blocks.{ones_below}
use Rattle.morsel_cut.proofs.BitLemmas.{ladder_start, ladder_step, ladder_end}
use Rattle.morsel_cut.proofs.masks.prefix_xor.Goals as goal

pub returns : goal.returns
returns c =
    let p : ℕ → ℕ = ones_below c.args.bits in
    ladder_end c.args.bits _
    (ladder_step p 32 _ (omega arith) (ladder_step p 16 _ (omega arith) (ladder_step p 8 _ (omega arith)
    (ladder_step p 4 _ (omega arith) (ladder_step p 2 _ (omega arith) (ladder_step p 1 _ (omega arith) (ladder_start c.args.bits)))))))
