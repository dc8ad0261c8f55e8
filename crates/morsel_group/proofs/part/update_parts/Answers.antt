use Rattle.std.proofs.Common.{ap, sym, ◌∙◌}
use Rattle.morsel_frame.proofs.StackLemmas.{set-through}
use Rattle.morsel_keys.specs.Reductions.{input_place}
use Rattle.morsel_group.specs.Parts.{updated_part}
use Rattle.morsel_group.proofs.part.update_parts.Goals as goal

pub loop-i-preserved : goal.loop-i-preserved
loop-i-preserved c = set-through (updated_part c.args.count (input_place c.args.place.0 c.args.place.1) c.args.numbers.now c.args.frame.now.rows) c.args.parts.now c.loop-i.parts c.loop-i.i c.index-parts-i.result c.update_part.new.part c.loop-i-test.true c.loop-i.invariant c.index-parts-i.is (c.in_ok-update_part.ensures.ok ∙ ap (updated_part c.args.count (input_place c.args.place.0 c.args.place.1) c.args.numbers.now c.args.frame.now.rows) (sym c.index-parts-i.is))
