use Rattle.std.proofs.Common.{subst, sym, ap, ◌∙◌, ◌-◌, map, take, drop, get_or, List, length}
use Rattle.std.proofs.lemmas.List.{length-map}
use Rattle.morsel_frame.specs.Tables.{cell_at, cells_at}
use Rattle.morsel_keys.specs.Slots.{AreLookedUp}
use Rattle.morsel_keys.specs.Keyed.{Keyed}
use Rattle.morsel_row_keys.specs.Pairs.{PairList}
use Rattle.morsel_row_keys.specs.Chains.{LooksUpChain}
use Rattle.morsel_row_keys.proofs.StepLemmas.{later_columns, first_kind}
use Rattle.morsel_row_keys.proofs.RowLemmas.{columns_found}
use Rattle.morsel_row_keys.proofs.row_keys.RowKeys.look_up.Goals as goal

pub look_up-requires-clause-kind : goal.look_up-requires-clause-kind
look_up-requires-clause-kind c =
    first_kind c.args.frame.now.schema c.args.columns.now c.self.inside.first.kind c.column.result.now.kind (map (λ (t : PairList). t.kind) c.self.inside.more.items) c.requires.columns (c.requires.kinds ∙ ap (λ (t : Keyed). t.kinds) (sym c.self.view_is)) c.column.ensures.kind

pub look_up_chain-requires-clause-within : goal.look_up_chain-requires-clause-within
look_up_chain-requires-clause-within c =
    (later_columns c.args.frame.now.schema c.args.columns.now c.self.inside.first.kind (map (λ (t : PairList). t.kind) c.self.inside.more.items) c.requires.columns (c.requires.kinds ∙ ap (λ (t : Keyed). t.kinds) (sym c.self.view_is))).within

pub look_up_chain-requires-clause-count : goal.look_up_chain-requires-clause-count
look_up_chain-requires-clause-count c =
    (later_columns c.args.frame.now.schema c.args.columns.now c.self.inside.first.kind (map (λ (t : PairList). t.kind) c.self.inside.more.items) c.requires.columns (c.requires.kinds ∙ ap (λ (t : Keyed). t.kinds) (sym c.self.view_is))).count
    ∙ length-map c.self.inside.more.items (λ (t : PairList). t.kind) ∙ ap (λ (ts : List PairList). length ts) (sym c.deref.ensures.value)

pub look_up_chain-requires-clause-kinds : goal.look_up_chain-requires-clause-kinds
look_up_chain-requires-clause-kinds c =
    (later_columns c.args.frame.now.schema c.args.columns.now c.self.inside.first.kind (map (λ (t : PairList). t.kind) c.self.inside.more.items) c.requires.columns (c.requires.kinds ∙ ap (λ (t : Keyed). t.kinds) (sym c.self.view_is))).kinds
    ∙ ap (λ (ts : List PairList). map (λ (t : PairList). t.kind) ts) (sym c.deref.ensures.value)

pub returns-clause-ok : goal.returns-clause-ok
returns-clause-ok c =
    let later = later_columns c.args.frame.now.schema c.args.columns.now c.self.inside.first.kind (map (λ (t : PairList). t.kind) c.self.inside.more.items) c.requires.columns (c.requires.kinds ∙ ap (λ (t : Keyed). t.kinds) (sym c.self.view_is)) in
    let all = subst (λ (ts : List PairList). LooksUpChain ts c.look_up.new.out (map (λ at. map (cell_at at) c.args.frame.now.rows) (take (length c.args.columns.now - 1) (drop 1 c.args.columns.now))) c.look_up_chain.new.numbers) c.deref.ensures.value c.in_ok-look_up_chain.ensures.ok in
    subst (λ (t : Keyed). AreLookedUp t.keys (map (cells_at c.args.columns.now) c.args.frame.now.rows) c.look_up_chain.new.numbers) c.self.view_is
    (columns_found c.self.inside.first c.self.inside.more.items c.args.frame.now.rows c.args.columns.now (take (length c.args.columns.now - 1) (drop 1 c.args.columns.now)) c.look_up.new.out c.look_up_chain.new.numbers (get_or c.args.columns.now 0 0) c.column.result.now.values
    later.split c.column.ensures.values c.self.invariant c.look_up.ensures all c.in_ok-look_up_chain.ensures.len)
