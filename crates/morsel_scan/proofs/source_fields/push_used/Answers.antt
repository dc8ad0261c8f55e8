use Rattle.std.proofs.Common.{[], ◌++◌, arith}
use Rattle.morsel_meaning.specs.declared.value.Field.{Field}
use Rattle.morsel_meaning.specs.declared.value.ColType.TheVariants as types
use Rattle.morsel_grammar.specs.Reading.{chosen}
use Rattle.morsel_text.proofs.ChoiceLemmas.{copied_more, kept_skip}
use Rattle.morsel_scan.proofs.source_fields.push_used.Goals as goal

blank : Field
blank = record { name = []; kind = types.Int }

pub loop-at-preserved-then-not-used-at : goal.loop-at-preserved-then-not-used-at
loop-at-preserved-then-not-used-at c =
    kept_skip (c.args.fields.now.items ++ chosen c.args.used.now c.args.schema.now) c.loop-at.fields.items c.args.used.now c.args.schema.now c.loop-at.at blank
    (omega arith) (omega arith) c.if-not-used-at.true c.loop-at.invariant

pub loop-at-preserved : goal.loop-at-preserved
loop-at-preserved c =
    copied_more (c.args.fields.now.items ++ chosen c.args.used.now c.args.schema.now) c.loop-at.fields.items _ c.args.used.now c.args.schema.now c.loop-at.at c.field-field.result.now
    (omega arith) (omega arith) c.if-not-used-at.false c.field-field.ensures c.in_ok-push_field.ensures.ok c.loop-at.invariant
