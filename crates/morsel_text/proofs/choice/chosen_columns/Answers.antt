use Rattle.std.proofs.Common.{arith, []}
use Rattle.morsel_grammar.specs.Reading.{chosen}
use Rattle.morsel_frame.specs.Columns.{Values}
use Rattle.morsel_meaning.specs.declared.value.ColType.TheVariants as types
use Rattle.morsel_text.proofs.ChoiceLemmas.{kept_skip}
use Rattle.morsel_text.proofs.choice.chosen_columns.Goals as goal

blank : Values
blank = record { kind = types.Int; values = [] }

pub loop-at-preserved-then-not-used-at : goal.loop-at-preserved-then-not-used-at
loop-at-preserved-then-not-used-at c = record {
  so_far = kept_skip (chosen c.args.used.now c.args.columns.now.items) c.loop-at.kept.items c.args.used.now c.loop-at.columns.items c.loop-at.at blank
      (omega arith) (omega arith) c.if-not-used-at.true c.loop-at.invariant.so_far;
  width = c.loop-at.invariant.width;
}
