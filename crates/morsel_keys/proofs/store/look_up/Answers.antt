use Rattle.std.proofs.Common.{rules, map}
use Rattle.morsel_meaning.specs.declared.value.Value.TheVariants as values
use Rattle.morsel_keys.specs.ColumnKeys.{int_held, flag_held}
use Rattle.morsel_keys.proofs.FoundLemmas.{finds_valid, found_texts}
use Rattle.morsel_keys.proofs.store.look_up.Goals as goal

pub returns-in-Some : goal.returns-in-Some
returns-in-Some c = rw c.in-Ints.is (finds_valid (map int_held c.in-Ints.words) c.args.column.now.values (map values.Int c.in-Some.numbers.now) c.in-Some._valid.now c.look_up_ints.new.out c.in-Some.ensures.values (search rules) c.look_up_ints.ensures)

pub returns-in-Some-bools : goal.returns-in-Some-bools
returns-in-Some-bools c = rw c.in-Bools.is (finds_valid (map flag_held c.in-Bools.words) c.args.column.now.values (map values.Bool c.in-Some-bools.flags.now) c.in-Some-bools._valid.now c.look_up_flags.new.out c.in-Some-bools.ensures.values (search rules) c.look_up_flags.ensures)

pub returns-in-Some-texts : goal.returns-in-Some-texts
returns-in-Some-texts c = rw c.in-Texts.is (finds_valid (map values.Text c.in-Texts.texts) c.args.column.now.values (map values.Text c.in-Some-texts.others.now) c.in-Some-texts._valid.now c.look_up.new.out c.in-Some-texts.ensures.values (search rules) (found_texts c.in-Texts.texts c.in-Some-texts.others.now c.look_up.new.out c.look_up.ensures))
