use Rattle.std.proofs.Common.{rules}
use Rattle.morsel_meaning.specs.declared.value.Value.TheVariants as values
use Rattle.morsel_keys.proofs.HeldLemmas.{new_int}
use Rattle.morsel_keys.proofs.store.find_int.Goals as goal

pub returns-in-None-clause-none : goal.returns-in-None-clause-none
returns-in-None-clause-none c = new_int c.args.words.now c.cast_unsigned.result (values.Int c.args.number) c.find.ensures.fit (search rules) c.in-None.ensures.none
