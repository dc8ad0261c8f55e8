use Rattle.std.proofs.Common.{rules, arith, ◌∙◌, ◌+◌, ◌++◌, ◌∷◌, [], ap, append_assoc}
use Rattle.std.specs.Prelude.{pos}
use Rattle.std.proofs.lemmas.Int.{to_z_pos}
use Rattle.std.proofs.lemmas.Slice.{pushed}
use mir.Val.{to_z}
use mir.Syntax.{w64}
use Rattle.morsel_frame.specs.Made.{counted}
use Rattle.morsel_frame.proofs.BesideLemmas.{counted_push}
use Rattle.morsel_frame.proofs.made.push_counted.Goals as goal

pub loop-i-preserved : goal.loop-i-preserved
loop-i-preserved c = record {
  items =
      pushed (to_z w64 (c.args.first + c.loop-i.i) ∷ []) c.loop-i.invariant.items c.unwrap.ensures c.push.ensures.items
      ∙ ap (λ n. c.args.numbers.now.items ++ counted c.args.first c.loop-i.i ++ n ∷ []) (to_z_pos w64 (c.args.first + c.loop-i.i) (omega arith))
      ∙ append_assoc c.args.numbers.now.items (counted c.args.first c.loop-i.i) (pos (c.args.first + c.loop-i.i) ∷ [])
      ∙ ap (λ ns. c.args.numbers.now.items ++ ns) (counted_push c.args.first c.loop-i.i);
  room = search rules;
}
