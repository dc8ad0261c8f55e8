use Rattle.std.proofs.Common.{arith, get_or, ◌∙◌, refl, sym, ◌<◌, ◌+◌, length}
use Rattle.std.proofs.lemmas.Bool.{false≢true}
use Rattle.std.proofs.lemmas.List.{length-set}
use Rattle.std.proofs.lemmas.List.Elements.{All-get_or}
use Rattle.morsel_meaning.specs.declared.value.Value.TheVariants as values
use Rattle.morsel_keys.specs.declared.reduction.Reduction.TheVariants as ops
use Rattle.morsel_states.proofs.RowLemmas.{step_done, stops_at, full_refuses, rows_done}
use Rattle.morsel_states.proofs.PartLemmas.{room_step, low_of_counted}
use Rattle.morsel_states.proofs.lens.count_each.Goals as goal

pub returns-then-is_full-clause-rows : goal.returns-then-is_full-clause-rows
returns-then-is_full-clause-rows c = λ at vs same.
    let group = get_or c.args.groups.now c.loop-i.i 0 in
    let there : group < length c.args.lens.now = All-get_or (λ g. g < length c.args.lens.now) c.args.groups.now c.loop-i.i 0 (omega arith) c.requires in
    stops_at ops.Len c.args.lens.now c.loop-i.lens at c.args.groups.now vs c.loop-i.i group c.index-lens-group.result c.too_long.result same (omega arith) refl (omega (arith, there, c.loop-i.invariant.len))
    (full_refuses (get_or c.loop-i.lens group c.index-lens-group.result) c.too_long.result (c.is_full.ensures.full.0 c.if-is_full.true) c.too_long.ensures) (c.loop-i.invariant.done at vs same)

pub loop-i-preserved : goal.loop-i-preserved
loop-i-preserved c =
    let group = get_or c.args.groups.now c.loop-i.i 0 in
    let there : group < length c.args.lens.now = All-get_or (λ g. g < length c.args.lens.now) c.args.groups.now c.loop-i.i 0 (omega arith) c.requires in
    let low = low_of_counted c.loop-i.lens group c.index-lens-group.result c.index-lens-group-in-loop-i.result c.add.new.self (record { at = 0; value = values.Null }) (omega (arith, there, c.loop-i.invariant.len)) c.is_full.ensures.within (λ full. false≢true (sym c.if-is_full.false ∙ c.is_full.ensures.full.1 full)) (c.add.ensures (record { at = 0; value = values.Null })) in
    record {
      room = room_step c.args.groups.now c.loop-i.lens c.loop-i.i c.add.new.self (omega arith) (omega (arith, there, c.loop-i.invariant.len)) low c.loop-i.invariant.room;
      len = length-set c.loop-i.lens group c.add.new.self ∙ c.loop-i.invariant.len;
      done = λ at vs same. step_done ops.Len c.args.lens.now c.loop-i.lens at c.args.groups.now vs c.loop-i.i group c.index-lens-group-in-loop-i.result c.add.new.self same (omega arith) refl (omega (arith, there, c.loop-i.invariant.len))
          (c.add.ensures (record { at = at + c.loop-i.i; value = get_or vs c.loop-i.i values.Null })) (c.loop-i.invariant.done at vs same);
    }

pub returns-clause-rows : goal.returns-clause-rows
returns-clause-rows c = λ at vs same. rows_done ops.Len c.args.lens.now c.loop-i.lens at c.args.groups.now vs c.loop-i.i same (omega arith) (c.loop-i.invariant.done at vs same)
