use Rattle.std.proofs.Common.{ap, arith, sym, ◌∙◌, ◌<◌, ◌++◌, ℕ, map, length, List, get_or}
use Rattle.std.proofs.lemmas.List.{append-nil}
use Rattle.morsel_meaning.specs.Values.{Row, Table}
use Rattle.morsel_frame.specs.Tables.{cells_at, rows_at}
use Rattle.morsel_group.specs.Fresh.{picked_from}
use Rattle.morsel_group.proofs.FreshLemmas.{none_fresh, fresh_table, fresh_rows, fresh_len}
use Rattle.morsel_group.proofs.fresh.put_keys.Goals as goal

pub returns-then-counts-clause-ok : goal.returns-then-counts-clause-ok
returns-then-counts-clause-ok c =
    let keys = c.args.keys.now in
    let below = λ (k : ℕ) (within : k < length c.args.numbers.now). (let low : get_or c.args.numbers.now k 0 < c.args.counts.1 = c.requires.each k 0 within in let high : get_or c.args.numbers.now k 0 < c.args.counts.0 = omega (arith, low, c.if-counts.true) in high) in
    let none = none_fresh c.args.counts.0 0 c.args.numbers.now below in
    ap (λ (rs : List Row). record keys { rows = rs }) (sym (ap (λ fs. keys.rows ++ map (cells_at c.args.places.now) (rows_at c.args.frame.now.rows fs)) none ∙ append-nil keys.rows))

pub new-more-requires : goal.new-more-requires
new-more-requires c =
    fresh_table c.args.frame.now c.in_ok-schema.schema c.args.places.now c.in_ok-fresh.fresh.items c.in_ok-columns.columns.items c.len.result c.requires.within
    (c.in_ok-schema.ensures.same ∙ c.schema.ensures ∙ c.requires.fields) (c.in_ok-columns.ensures.ok ∙ ap (picked_from c.args.frame.now c.args.places.now) c.deref.ensures.value)
    (omega (arith, c.len.ensures, c.in_ok-fresh.fresh.ok.0))

pub vstack-requires : goal.vstack-requires
vstack-requires c =
    let fresh = c.in_ok-fresh.fresh in
    let picked = c.in_ok-columns.ensures.ok ∙ ap (picked_from c.args.frame.now c.args.places.now) c.deref.ensures.value in
    let rows = ap length (ap (λ (t : Table). t.rows) c.new-more.ensures ∙ fresh_rows c.args.frame.now c.args.places.now fresh.items c.in_ok-columns.columns.items c.len.result picked (omega (arith, c.len.ensures, fresh.ok.0))) ∙ fresh_len c.args.frame.now c.args.places.now fresh.items in
    omega (arith, rows, fresh.ok.0, fresh.ok.1, fresh.small, c.requires.rows)

pub returns-in-Ok-clause-ok : goal.returns-in-Ok-clause-ok
returns-in-Ok-clause-ok c =
    let keys = c.args.keys.now in
    let fresh = c.in_ok-fresh.fresh in
    let picked = c.in_ok-columns.ensures.ok ∙ ap (picked_from c.args.frame.now c.args.places.now) c.deref.ensures.value in
    let rows = ap (λ (t : Table). t.rows) c.new-more.ensures ∙ fresh_rows c.args.frame.now c.args.places.now fresh.items c.in_ok-columns.columns.items c.len.result picked (omega (arith, c.len.ensures, fresh.ok.0)) in
    c.in-Ok.ensures.ok
    ∙ ap (λ (rs : List Row). record keys { rows = keys.rows ++ rs }) (rows ∙ ap (λ fs. map (cells_at c.args.places.now) (rows_at c.args.frame.now.rows fs)) c.in_ok-fresh.ensures.ok)
