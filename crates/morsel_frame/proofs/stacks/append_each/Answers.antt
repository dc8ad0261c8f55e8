use Rattle.std.proofs.Common.{arith, ap, length, ◌∙◌, ◌≡◌, List, ◌++◌, get_or, set, add-one}
use Rattle.morsel_meaning.specs.declared.value.Value.{Value}
use Rattle.morsel_frame.specs.Columns.{Values}
use Rattle.morsel_frame.specs.Stacks.{stacked_up_to}
use Rattle.morsel_frame.proofs.StackLemmas.{length-alike, length-stacked, get_or-stacked, alike-at, set-stacked, range-whole}
use Rattle.morsel_frame.proofs.stacks.append_each.Goals as goal

-- a column with these values below its own
abbrev below : Values → List Value → Values
below column vs = record { kind = column.kind; values = column.values ++ vs }

pub index_mut-column-requires : goal.index_mut-column-requires
index_mut-column-requires c =
    let lens = length-stacked c.loop-at.at c.args.columns.now.items c.args.others.now in
    let same = ap length c.loop-at.invariant in
    omega (arith, lens, same, length-alike c.args.columns.now.items c.args.others.now c.requires)

pub append_rows-requires-clause-same_kind : goal.append_rows-requires-clause-same_kind
append_rows-requires-clause-same_kind c =
    let read = c.index_mut-column.ensures.value ∙ ap (λ columns. get_or columns c.loop-at.at c.index_mut-column.result.now) c.loop-at.invariant
    ∙ get_or-stacked c.loop-at.at c.args.columns.now.items c.args.others.now c.index_mut-column.result.now in
    alike-at c.args.columns.now.items c.args.others.now c.loop-at.at c.index_mut-column.result.now c.index-others-at.result c.requires c.loop-at-test.true read c.index-others-at.is

pub loop-at-preserved : goal.loop-at-preserved
loop-at-preserved c =
    let read = c.index_mut-column.ensures.value ∙ ap (λ columns. get_or columns c.loop-at.at c.index_mut-column.result.now) c.loop-at.invariant
    ∙ get_or-stacked c.loop-at.at c.args.columns.now.items c.args.others.now c.index_mut-column.result.now in
    let lens = length-alike c.args.columns.now.items c.args.others.now c.requires in
    let all = range-whole c.index-others-at.result.values c.len.result c.len.ensures.len in
    let made = c.in_ok-append_rows.ensures.ok ∙ ap (λ vs. below c.index_mut-column.result.now vs) all in
    rw add-one
    (ap (λ columns. set columns c.loop-at.at c.append_rows.new.self) c.loop-at.invariant
    ∙ set-stacked c.loop-at.at c.args.columns.now.items c.args.others.now c.index_mut-column.result.now c.index-others-at.result c.append_rows.new.self (omega (arith, lens)) c.loop-at-test.true read c.index-others-at.is made)

pub returns-clause-ok : goal.returns-clause-ok
returns-clause-ok c =
    let lens = length-alike c.args.columns.now.items c.args.others.now c.requires in
    let done : c.loop-at.at ≡ length c.args.columns.now.items = omega (arith, lens) in
    c.loop-at.invariant ∙ ap (λ n. stacked_up_to n c.args.columns.now.items c.args.others.now) done
