use Rattle.std.proofs.Common.{arith, get_or, ◌∙◌, ◌+◌, pos, refl, rules, false, if◌then◌else◌}
use Rattle.std.specs.Int.{w64}
use Rattle.std.proofs.lemmas.Int.{to_z-of_z}
use Rattle.std.proofs.lemmas.List.{length-set}
use Rattle.morsel_meaning.specs.declared.value.Value.TheVariants as values
use Rattle.morsel_keys.specs.Reductions.{input_place}
use Rattle.morsel_states.proofs.RowLemmas.{number_done, number_stops, numbers_done}
use Rattle.morsel_states.proofs.picks.pick_each.Goals as goal

pub returns-then-is_full-clause-rows : goal.returns-then-is_full-clause-rows
returns-then-is_full-clause-rows c = number_stops c.args.op c.args.picks.now c.loop-i.picks (input_place c.args.place.0 c.args.place.1) c.args.groups.now c.args.valid.now c.args.numbers.now c.loop-i.i c.index-picks-group.result c.too_long.result
    c.requires.valid c.requires.numbers c.requires.within (omega arith) c.loop-i.invariant.len (c.is_full.ensures.0 c.if-is_full.true) c.too_long.ensures c.loop-i.invariant.done

pub loop-i-preserved : goal.loop-i-preserved
loop-i-preserved c =
    let value = if get_or c.args.valid.now c.loop-i.i false then values.Int (get_or c.args.numbers.now c.loop-i.i (pos 0)) else values.Null in
    record {
      len = length-set c.loop-i.picks (get_or c.args.groups.now c.loop-i.i 0) c.add.new.self ∙ c.loop-i.invariant.len;
      done = number_done c.args.op c.args.picks.now c.loop-i.picks (input_place c.args.place.0 c.args.place.1) c.args.groups.now c.args.valid.now c.args.numbers.now c.loop-i.i c.index-picks-group-in-loop-i.result c.add.new.self (record { at = input_place c.args.place.0 (c.args.place.1 + c.loop-i.i); value = value })
          c.requires.valid c.requires.numbers c.requires.within (omega arith) c.loop-i.invariant.len (rw (to_z-of_z w64 (get_or c.args.numbers.now c.loop-i.i (pos 0)) (search rules)) at c.add.ensures) (omega arith) refl c.loop-i.invariant.done;
    }

pub returns-clause-rows : goal.returns-clause-rows
returns-clause-rows c = numbers_done c.args.op c.args.picks.now c.loop-i.picks (input_place c.args.place.0 c.args.place.1) c.args.groups.now c.args.valid.now c.args.numbers.now c.loop-i.i c.requires.valid c.requires.numbers (omega arith) c.loop-i.invariant.done
