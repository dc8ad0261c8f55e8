use Rattle.std.proofs.Common.{◌+◌, refl, subst, ◌∙◌, ℕ, ◌<◌, length, arith, add_assoc}
use Rattle.std.proofs.lemmas.Nat.{ones-le}
use Rattle.std.specs.Int.Count.{ones}
use Rattle.morsel_marks.proofs.PlaceLemmas.{Placed, placed_none, placed_more}
use Rattle.morsel_marks.proofs.places.put_places.Goals as goal

pub loop-to-init : goal.loop-to-init
loop-to-init c = record { fits = c.ranges.bits.fits; kept = refl; placed = placed_none c.args.count c.args.at c.args.bits c.args.out.now c.ranges.bits.fits }

pub loop-i-preserved : goal.loop-i-preserved
loop-i-preserved c =
    let i = c.loop-i in
    let l = c.put_lowest-left in
    let room : c.loop-to.to + i.i < length i.out = omega (arith, ones-le 64 c.args.bits c.ranges.bits.fits, i.invariant.kept) in
    record {
      fits = l.type_inv;
      kept = l.ensures.kept ∙ i.invariant.kept;
      placed = subst (λ (k : ℕ). Placed c.args.count c.args.at c.args.bits c.args.out.now (c.args.count + ones c.args.bits) k l.result l.new.out) (add_assoc c.loop-to.to i.i 1)
          (placed_more c.args.count c.args.at c.args.bits (c.args.count + ones c.args.bits) (c.loop-to.to + i.i) i.left l.result c.args.out.now i.out l.new.out i.invariant.fits room l.ensures.kept
          l.ensures.some l.ensures.none l.ensures.front i.invariant.placed);
    }
