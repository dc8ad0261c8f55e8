use Rattle.std.proofs.Common.{rules, refl, map, arith, get_or, false}
use Rattle.std.proofs.lemmas.Option.{slice_get-get_or}
use Rattle.std.proofs.lemmas.List.{length-map}
use Rattle.morsel_meaning.specs.declared.value.Value.TheVariants as values
use Rattle.morsel_keys.specs.ColumnKeys.{flag_held}
use Rattle.morsel_keys.proofs.HeldLemmas.{shown}
use Rattle.morsel_keys.proofs.FoundLemmas.{found_step, found_all}
use Rattle.morsel_keys.proofs.words.look_up_flags.Goals as goal

pub loop-i-preserved : goal.loop-i-preserved
loop-i-preserved c =
    let here = slice_get-get_or c.args.flags.now c.loop-i.i false (search rules) in
    found_step (map flag_held c.args.words.now) (map values.Bool c.args.flags.now) c.loop-i.out c.loop-i.i c.number_of_flag.result (values.Bool (get_or c.args.flags.now c.loop-i.i false)) c.loop-i.invariant
    (shown values.Bool c.args.flags.now c.loop-i.i (get_or c.args.flags.now c.loop-i.i false) (values.Bool (get_or c.args.flags.now c.loop-i.i false)) here refl) c.number_of_flag.ensures (search rules)

pub returns : goal.returns
returns c = let len = length-map c.args.flags.now values.Bool in found_all (map flag_held c.args.words.now) (map values.Bool c.args.flags.now) c.loop-i.out c.loop-i.i (omega (arith, len)) (omega (arith, len)) c.loop-i.invariant
