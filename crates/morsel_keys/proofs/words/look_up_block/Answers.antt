use Rattle.std.proofs.Common.{rules, refl, map, arith, get_or, pos}
use Rattle.std.proofs.lemmas.Option.{slice_get-get_or}
use Rattle.std.specs.Int.{w64}
use Rattle.std.proofs.lemmas.Int.{to_z-of_z}
use Rattle.std.proofs.lemmas.List.{get_or-set_other}
use Rattle.morsel_meaning.specs.declared.value.Value.TheVariants as values
use Rattle.morsel_keys.specs.ColumnKeys.{int_held}
use Rattle.morsel_keys.proofs.HeldLemmas.{shown}
use Rattle.morsel_keys.proofs.FoundLemmas.{found_step}
use Rattle.morsel_keys.proofs.words.look_up_block.Goals as goal

pub loop-i-preserved : goal.loop-i-preserved
loop-i-preserved c =
    let here = slice_get-get_or c.args.numbers.now c.loop-i.i (pos 0) (search rules) in
    record {
      len = search rules;
      done = found_step (map int_held c.args.words.now) (map values.Int c.args.numbers.now) c.loop-i.out c.loop-i.i c.number_of_int.result (values.Int (get_or c.args.numbers.now c.loop-i.i (pos 0))) c.loop-i.invariant.done
          (shown values.Int c.args.numbers.now c.loop-i.i (get_or c.args.numbers.now c.loop-i.i (pos 0)) (values.Int (get_or c.args.numbers.now c.loop-i.i (pos 0))) here refl) (rw (to_z-of_z w64 (get_or c.args.numbers.now c.loop-i.i (pos 0)) (search rules)) at c.number_of_int.ensures) (search rules);
      rest = λ k later l. rw (get_or-set_other c.loop-i.out c.loop-i.i k c.number_of_int.result 0 (λ same. omega (arith, later, same))) (c.loop-i.invariant.rest k (omega (arith, later)) l);
    }
