use Rattle.std.proofs.Common.{◌∙◌, List, ap, refl, get_or, length}
use Rattle.std.proofs.lemmas.List.{length-map}
use Rattle.morsel_meaning.specs.declared.value.Value.{Value}
use Rattle.morsel_frame.specs.Tables.{cell_at}
use Rattle.morsel_join.proofs.build.mask_each.Goals as goal
use Rattle.morsel_join.proofs.BuildLemmas.{masked-more}

pub loop-at-preserved : goal.loop-at-preserved
loop-at-preserved c =
    let at = get_or c.args.columns.now c.loop-at.at-index 0 in record {
      len = c.mask_column.ensures.len ∙ c.loop-at.invariant.len;
      masked = masked-more c.args.frame.now.rows c.args.columns.now c.loop-at.at-index at c.column.result.now.values c.args.numbers.now c.loop-at.numbers c.mask_column.new.numbers c.loop-at-test.true refl c.column.ensures.values c.loop-at.invariant.masked c.mask_column.ensures.masked
          (ap (λ (vs : List Value). length vs) c.column.ensures.values ∙ length-map c.args.frame.now.rows (cell_at at));
    }
