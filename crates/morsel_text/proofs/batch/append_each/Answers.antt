use Rattle.std.proofs.Common.{◌≡◌, ◌∙◌, sym, ap, refl, arith, rules, length}
use Rattle.morsel_text.proofs.BatchStepLemmas.{appended_more, kinds_set, kind_at, all_appended}
use Rattle.morsel_text.proofs.batch.append_each.Goals as goal

pub append_rows-requires-clause-same_kind : goal.append_rows-requires-clause-same_kind
append_rows-requires-clause-same_kind c =
    let made = c.index-made-at.result in
    let column = c.index_mut-column.result.now in
    sym (kind_at c.args.made.now c.loop-at.at made made.kind c.loop-at-test.true (search rules))
    ∙ ap (λ ks. Rattle.std.proofs.Common.get_or ks c.loop-at.at made.kind) (sym c.loop-at.invariant.kinds)
    ∙ kind_at c.loop-at.columns.items c.loop-at.at column made.kind (omega arith) (sym c.index_mut-column.ensures.value)

pub loop-at-preserved : goal.loop-at-preserved
loop-at-preserved c =
    let made = c.index-made-at.result in
    let column = c.index_mut-column.result.now in
    record {
      so_far = appended_more c.loop-at.columns.items c.args.made.now c.loop-at.at c.len.result column made c.append_rows.new.self made (omega arith) c.loop-at-test.true
          (sym c.index_mut-column.ensures.value) (search rules) c.in_ok-append_rows.ensures.ok c.len.ensures.len ∙ c.loop-at.invariant.so_far;
      width = search rules;
      kinds = kinds_set c.loop-at.columns.items c.loop-at.at column c.append_rows.new.self (sym c.index_mut-column.ensures.value) (ap (λ x. x.kind) c.in_ok-append_rows.ensures.ok) ∙ c.loop-at.invariant.kinds;
    }

pub returns-clause-ok : goal.returns-clause-ok
returns-clause-ok c = all_appended c.loop-at.columns.items c.args.made.now c.args.columns.now.items c.loop-at.at _ (omega arith) c.loop-at.invariant.so_far
