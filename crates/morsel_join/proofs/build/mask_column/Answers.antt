use Rattle.std.proofs.Common.{◌∙◌, ap, if◌then◌else◌, get_or, arith, rules}
use Rattle.std.proofs.lemmas.List.{length-set}
use Rattle.morsel_frame.specs.Cells.{not_null}
use Rattle.morsel_keys.specs.Slots.{no_number}
use Rattle.morsel_join.proofs.build.mask_column.Goals as goal
use Rattle.morsel_join.proofs.BuildLemmas.{mask-done, mask-rest}

pub loop-row-preserved : goal.loop-row-preserved
loop-row-preserved c =
    let here = c.loop-row.invariant.rest c.loop-row.row (omega arith) in record {
      len = length-set c.loop-row.numbers c.loop-row.row c.masked.result ∙ c.loop-row.invariant.len;
      done = mask-done c.args.column.now.values c.args.numbers.now c.loop-row.numbers c.loop-row.row c.masked.result (search rules)
          (c.masked.ensures ∙ ap (λ v. if not_null v then get_or c.loop-row.numbers c.loop-row.row 0 else no_number) c.get.ensures.value) here c.loop-row.invariant.done;
      rest = mask-rest c.args.numbers.now c.loop-row.numbers c.loop-row.row c.masked.result c.loop-row.invariant.rest;
    }
