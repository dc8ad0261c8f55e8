use Rattle.std.proofs.Common.{◌++◌, ◌∷◌, [], length, ap, arith}
use Rattle.std.proofs.lemmas.List.{length_push}
use Rattle.std.proofs.lemmas.List.Elements.{All-push, All-same}
use Rattle.morsel_group.specs.Locals.{IsGroupBy}
use Rattle.morsel_group_uses.proofs.tests.grouped.parts_of.Goals as goal

pub loop-part-preserved : goal.loop-part-preserved
loop-part-preserved c =
    let old = c.loop-part.locals.items in
    let local = c.in_ok-part_of.field-0 in
    record {
      len = omega (arith, ap length c.in_ok-push.ensures.items, length_push old local, c.loop-part.invariant.len);
      each = All-same (IsGroupBy c.args.table.now.schema c.args.spec.now) c.push.new.self.items (old ++ local ∷ []) c.in_ok-push.ensures.items
          (All-push (IsGroupBy c.args.table.now.schema c.args.spec.now) old local c.loop-part.invariant.each c.in_ok-part_of.ensures);
    }
