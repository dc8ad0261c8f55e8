use Rattle.std.proofs.Common.{◌==◌, ℕ, ◌∙◌, sym, ap, arith}
use Rattle.std.proofs.lemmas.Simd.{bitmask_splat, leading_from_mask_l, trailing_mask_l}
use Rattle.std.specs.Int.{w8}
use lib.Count.{count_trailing_zeros}
use Rattle.morsel_text.proofs.split.lane_len.Goals as goal

pub returns-then-found-eq0 : goal.returns-then-found-eq0
returns-then-found-eq0 c =
    let mask = bitmask_splat w8 (λ (x y : ℕ). x == y) c.args.lane 16 c.args.byte c.fits-lane.0 (omega arith) in
    sym (leading_from_mask_l (λ (x : ℕ). x == c.args.byte) c.args.lane (sym mask ∙ c.if-found-eq0.true) ∙ c.fits-lane.0)

pub returns : goal.returns
returns c =
    let mask = bitmask_splat w8 (λ (x y : ℕ). x == y) c.args.lane 16 c.args.byte c.fits-lane.0 (omega arith) in
    ap (count_trailing_zeros 64) mask
    ∙ trailing_mask_l (λ (x : ℕ). x == c.args.byte) 64 c.args.lane (omega (arith, c.fits-lane.0)) (omega (arith, mask, c.if-found-eq0.false))
