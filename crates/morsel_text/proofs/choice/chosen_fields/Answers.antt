use Rattle.std.proofs.Common.{◌∙◌, ap, sym, subst, arith, List, ◌∷◌, [], ◌++◌}
use Rattle.morsel_grammar.specs.Reading.{chosen}
use Rattle.morsel_meaning.specs.declared.value.Field.{Field}
use Rattle.morsel_meaning.specs.Values.{names_of}
use Rattle.morsel_frame.specs.Names.{AreDistinct}
use Rattle.morsel_meaning.specs.declared.value.ColType.TheVariants as types
use Rattle.morsel_text.proofs.ChoiceLemmas.{copied_more, kept_skip, chosen_all, chosen_distinct}
use Rattle.morsel_text.proofs.choice.chosen_fields.Goals as goal

blank : Field
blank = record { name = []; kind = types.Int }

pub loop-at-preserved-then-not-used-at : goal.loop-at-preserved-then-not-used-at
loop-at-preserved-then-not-used-at c =
    kept_skip (chosen c.args.used.now c.args.schema.now) c.loop-at.fields.items c.args.used.now c.args.schema.now c.loop-at.at blank
    (omega arith) (omega arith) c.if-not-used-at.true c.loop-at.invariant

pub loop-at-preserved : goal.loop-at-preserved
loop-at-preserved c =
    copied_more (chosen c.args.used.now c.args.schema.now) c.loop-at.fields.items _ c.args.used.now c.args.schema.now c.loop-at.at c.field.result.now
    (omega arith) (omega arith) c.if-not-used-at.false c.field.ensures
    (c.in_ok-push.ensures.items ∙ ap (λ f. c.loop-at.fields.items ++ f ∷ []) c.in_ok-field_again.ensures.same) c.loop-at.invariant

pub returns-clause-distinct : goal.returns-clause-distinct
returns-clause-distinct c =
    let all = chosen_all (chosen c.args.used.now c.args.schema.now) c.loop-at.fields.items c.args.used.now c.args.schema.now c.loop-at.at (omega arith) c.loop-at.invariant in
    subst (λ (kept : List Field). AreDistinct (names_of kept)) (sym all) (chosen_distinct c.args.used.now c.args.schema.now c.len-at-end.ensures.distinct)
