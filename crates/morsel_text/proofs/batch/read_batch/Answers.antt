use Rattle.std.proofs.Common.{◌∙◌, sym, ap, subst, length, []}
use Rattle.std.proofs.lemmas.List.{length-replicate}
use Rattle.morsel_text.specs.Pushes.{column_kinds}
use Rattle.morsel_text.specs.Batches.{AreTextColumns}
use Rattle.morsel_text.proofs.BatchLemmas.{no_texts}
use Rattle.morsel_text.proofs.BatchStepLemmas.{made_kinds, made_length, length-spread_all}
use Rattle.morsel_text.proofs.batch.read_batch.Goals as goal

pub split_rows-requires-clause-texts : goal.split_rows-requires-clause-texts
split_rows-requires-clause-texts c = subst AreTextColumns (sym c.in_ok-batch.ensures.ok) (no_texts c.len.result)

pub made_columns-requires-clause-batch : goal.made_columns-requires-clause-batch
made_columns-requires-clause-batch c =
    let rows = c.in_ok-rest.ensures.rows in
    ap length c.deref-2.ensures.value ∙ ap length rows.3 ∙ length-spread_all _ rows.0 ∙ ap length c.in_ok-batch.ensures.ok
    ∙ length-replicate c.len.result [] ∙ c.len.ensures ∙ sym c.deref.ensures.len

pub append_columns-requires-clause-kinds : goal.append_columns-requires-clause-kinds
append_columns-requires-clause-kinds c =
    made_kinds c.args.options.now c.args.used.now (column_kinds c.deref.result.now) c.deref-2.result.now c.in-Some.made.items (rw c.in-Some.is at c.in_ok-made.ensures.columns)
    ∙ ap column_kinds c.deref.ensures.value

pub append_columns-requires-clause-width : goal.append_columns-requires-clause-width
append_columns-requires-clause-width c =
    made_length c.args.options.now c.args.used.now c.deref.result.now c.deref-2.result.now c.in-Some.made.items (rw c.in-Some.is at c.in_ok-made.ensures.columns)
    ∙ ap length c.deref.ensures.value
