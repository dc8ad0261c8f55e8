use Rattle.std.proofs.Common.{subst, sym, ap, ◌∙◌, ◌-◌, ◌∷◌, map, take, drop, get_or, List, length, ◌≡◌, []}
use Rattle.std.specs.Prelude.{Err, IfOk, OnErr}
use Rattle.std.proofs.lemmas.List.{length-map}
use Rattle.morsel_meaning.specs.declared.fault.Fault.{Fault}
use Rattle.morsel_meaning.specs.declared.value.ColType.{ColType}
use Rattle.morsel_meaning.specs.Values.{Row, IsOfType}
use Rattle.morsel_frame.specs.Cells.{value_of}
use Rattle.morsel_frame.specs.Tables.{cell_at, cells_at}
use Rattle.morsel_keys.specs.Slots.{GivesNumber, RefusesKey}
use Rattle.morsel_keys.specs.Keyed.{Keyed}
use Rattle.morsel_row_keys.specs.Pairs.{PairList}
use Rattle.morsel_row_keys.specs.Chains.{AreRowTables}
use Rattle.morsel_row_keys.proofs.StepLemmas.{later_columns, first_kind, cell_is, all_put}
use Rattle.morsel_row_keys.proofs.RowLemmas.{keyed_of, rows_after, first_refused, cells_split}
use Rattle.morsel_row_keys.proofs.row_keys.RowKeys.insert.Goals as goal

pub insert-requires : goal.insert-requires
insert-requires c = subst (λ (kind : ColType). IsOfType kind (value_of c.get.result)) (first_kind c.args.frame.now.schema c.args.columns.now c.self.inside.first.kind c.column.result.now.kind (map (λ (t : PairList). t.kind) c.self.inside.more.items) c.requires.columns (c.requires.kinds ∙ ap (λ (t : Keyed). t.kinds) (sym c.self.view_is)) c.column.ensures.kind) c.get.ensures.of_type

pub returns-in-Err-clause-refused : goal.returns-in-Err-clause-refused
returns-in-Err-clause-refused c =
    subst (λ (t : Keyed). RefusesKey t.keys (cells_at c.args.columns.now (get_or c.args.frame.now.rows c.args.row [])) (Err c.refusal.result)) c.self.view_is
    (subst (λ (key : Row). RefusesKey (keyed_of c.self.inside.first c.self.inside.more.items).keys key (Err c.refusal.result)) (sym (sym (cells_split c.args.columns.now (take (length c.args.columns.now - 1) (drop 1 c.args.columns.now)) (get_or c.args.columns.now 0 0) (value_of c.get.result) (get_or c.args.frame.now.rows c.args.row []) (later_columns c.args.frame.now.schema c.args.columns.now c.self.inside.first.kind (map (λ (t : PairList). t.kind) c.self.inside.more.items) c.requires.columns (c.requires.kinds ∙ ap (λ (t : Keyed). t.kinds) (sym c.self.view_is))).split (c.get.ensures.value ∙ cell_is c.column.result.now.values c.args.frame.now.rows (get_or c.args.columns.now 0 0) c.args.row c.column.ensures.values c.requires.row))))
    (subst (λ (fault : Fault). RefusesKey (keyed_of c.self.inside.first c.self.inside.more.items).keys ((value_of c.get.result) ∷ (cells_at (take (length c.args.columns.now - 1) (drop 1 c.args.columns.now)) (get_or c.args.frame.now.rows c.args.row []))) (Err fault)) (sym c.refusal.ensures)
    (first_refused c.self.inside.first c.self.inside.more.items (value_of c.get.result) (cells_at (take (length c.args.columns.now - 1) (drop 1 c.args.columns.now)) (get_or c.args.frame.now.rows c.args.row [])) c.in-Err.fault c.len-count.result c.self.invariant c.in-Err.ensures.refused (length-map (take (length c.args.columns.now - 1) (drop 1 c.args.columns.now)) (λ at. cell_at at (get_or c.args.frame.now.rows c.args.row [])) ∙ (later_columns c.args.frame.now.schema c.args.columns.now c.self.inside.first.kind (map (λ (t : PairList). t.kind) c.self.inside.more.items) c.requires.columns (c.requires.kinds ∙ ap (λ (t : Keyed). t.kinds) (sym c.self.view_is))).count ∙ length-map c.self.inside.more.items (λ (t : PairList). t.kind)) (c.len-count.ensures.len ∙ ap (λ (t : Keyed). length t.keys) (sym c.self.view_is)) c.len-count.ensures.within)))

pub insert_chain-inserted-requires-clause-within : goal.insert_chain-inserted-requires-clause-within
insert_chain-inserted-requires-clause-within c = (later_columns c.args.frame.now.schema c.args.columns.now c.self.inside.first.kind (map (λ (t : PairList). t.kind) c.self.inside.more.items) c.requires.columns (c.requires.kinds ∙ ap (λ (t : Keyed). t.kinds) (sym c.self.view_is))).within

pub insert_chain-inserted-requires-clause-count : goal.insert_chain-inserted-requires-clause-count
insert_chain-inserted-requires-clause-count c = (later_columns c.args.frame.now.schema c.args.columns.now c.self.inside.first.kind (map (λ (t : PairList). t.kind) c.self.inside.more.items) c.requires.columns (c.requires.kinds ∙ ap (λ (t : Keyed). t.kinds) (sym c.self.view_is))).count ∙ length-map c.self.inside.more.items (λ (t : PairList). t.kind) ∙ ap (λ (ts : List PairList). length ts) (sym c.deref_mut.ensures.value)

pub insert_chain-inserted-requires-clause-kinds : goal.insert_chain-inserted-requires-clause-kinds
insert_chain-inserted-requires-clause-kinds c = (later_columns c.args.frame.now.schema c.args.columns.now c.self.inside.first.kind (map (λ (t : PairList). t.kind) c.self.inside.more.items) c.requires.columns (c.requires.kinds ∙ ap (λ (t : Keyed). t.kinds) (sym c.self.view_is))).kinds ∙ ap (λ (ts : List PairList). map (λ (t : PairList). t.kind) ts) (sym c.deref_mut.ensures.value)

pub invariant_of-self-2 : goal.invariant_of-self-2
invariant_of-self-2 c = subst (AreRowTables c.insert.new.self) (sym (all_put c.self.inside.more.len c.insert_chain-inserted.new.tables c.self.inside.more.items (sym c.deref_mut.ensures.len ∙ sym c.insert_chain-inserted.ensures.len))) (rows_after c.self.inside.first c.insert.new.self c.self.inside.more.items c.deref_mut.result.now c.insert_chain-inserted.new.tables (value_of c.get.result) c.in-Ok.first (cells_at (take (length c.args.columns.now - 1) (drop 1 c.args.columns.now)) (get_or c.args.frame.now.rows c.args.row [])) c.len-count.result c.insert_chain-inserted.result c.whole_result.result (cells_at c.args.columns.now (get_or c.args.frame.now.rows c.args.row [])) c.deref_mut.ensures.value c.whole_result.ensures (sym (cells_split c.args.columns.now (take (length c.args.columns.now - 1) (drop 1 c.args.columns.now)) (get_or c.args.columns.now 0 0) (value_of c.get.result) (get_or c.args.frame.now.rows c.args.row []) (later_columns c.args.frame.now.schema c.args.columns.now c.self.inside.first.kind (map (λ (t : PairList). t.kind) c.self.inside.more.items) c.requires.columns (c.requires.kinds ∙ ap (λ (t : Keyed). t.kinds) (sym c.self.view_is))).split (c.get.ensures.value ∙ cell_is c.column.result.now.values c.args.frame.now.rows (get_or c.args.columns.now 0 0) c.args.row c.column.ensures.values c.requires.row))) c.self.invariant c.in-Ok.ensures.ok c.in-Ok.ensures.refused c.in-Ok.ensures.kind c.insert_chain-inserted.ensures.ok c.insert_chain-inserted.ensures.number c.insert_chain-inserted.ensures.err (length-map (take (length c.args.columns.now - 1) (drop 1 c.args.columns.now)) (λ at. cell_at at (get_or c.args.frame.now.rows c.args.row [])) ∙ (later_columns c.args.frame.now.schema c.args.columns.now c.self.inside.first.kind (map (λ (t : PairList). t.kind) c.self.inside.more.items) c.requires.columns (c.requires.kinds ∙ ap (λ (t : Keyed). t.kinds) (sym c.self.view_is))).count ∙ length-map c.self.inside.more.items (λ (t : PairList). t.kind)) (c.len-count.ensures.len ∙ ap (λ (t : Keyed). length t.keys) (sym c.self.view_is)) c.len-count.ensures.within).are

pub returns-clause-kinds : goal.returns-clause-kinds
returns-clause-kinds c = ap (λ (ts : List PairList). (keyed_of c.insert.new.self ts).kinds) (all_put c.self.inside.more.len c.insert_chain-inserted.new.tables c.self.inside.more.items (sym c.deref_mut.ensures.len ∙ sym c.insert_chain-inserted.ensures.len)) ∙ (rows_after c.self.inside.first c.insert.new.self c.self.inside.more.items c.deref_mut.result.now c.insert_chain-inserted.new.tables (value_of c.get.result) c.in-Ok.first (cells_at (take (length c.args.columns.now - 1) (drop 1 c.args.columns.now)) (get_or c.args.frame.now.rows c.args.row [])) c.len-count.result c.insert_chain-inserted.result c.whole_result.result (cells_at c.args.columns.now (get_or c.args.frame.now.rows c.args.row [])) c.deref_mut.ensures.value c.whole_result.ensures (sym (cells_split c.args.columns.now (take (length c.args.columns.now - 1) (drop 1 c.args.columns.now)) (get_or c.args.columns.now 0 0) (value_of c.get.result) (get_or c.args.frame.now.rows c.args.row []) (later_columns c.args.frame.now.schema c.args.columns.now c.self.inside.first.kind (map (λ (t : PairList). t.kind) c.self.inside.more.items) c.requires.columns (c.requires.kinds ∙ ap (λ (t : Keyed). t.kinds) (sym c.self.view_is))).split (c.get.ensures.value ∙ cell_is c.column.result.now.values c.args.frame.now.rows (get_or c.args.columns.now 0 0) c.args.row c.column.ensures.values c.requires.row))) c.self.invariant c.in-Ok.ensures.ok c.in-Ok.ensures.refused c.in-Ok.ensures.kind c.insert_chain-inserted.ensures.ok c.insert_chain-inserted.ensures.number c.insert_chain-inserted.ensures.err (length-map (take (length c.args.columns.now - 1) (drop 1 c.args.columns.now)) (λ at. cell_at at (get_or c.args.frame.now.rows c.args.row [])) ∙ (later_columns c.args.frame.now.schema c.args.columns.now c.self.inside.first.kind (map (λ (t : PairList). t.kind) c.self.inside.more.items) c.requires.columns (c.requires.kinds ∙ ap (λ (t : Keyed). t.kinds) (sym c.self.view_is))).count ∙ length-map c.self.inside.more.items (λ (t : PairList). t.kind)) (c.len-count.ensures.len ∙ ap (λ (t : Keyed). length t.keys) (sym c.self.view_is)) c.len-count.ensures.within).kinds ∙ ap (λ (t : Keyed). t.kinds) c.self.view_is

pub returns-clause-ok : goal.returns-clause-ok
returns-clause-ok c =
    subst (λ (ts : List PairList). IfOk c.whole_result.result (λ at. GivesNumber c.args.self.now.keys (cells_at c.args.columns.now (get_or c.args.frame.now.rows c.args.row [])) at (keyed_of c.insert.new.self ts).keys)) (sym (all_put c.self.inside.more.len c.insert_chain-inserted.new.tables c.self.inside.more.items (sym c.deref_mut.ensures.len ∙ sym c.insert_chain-inserted.ensures.len)))
    (subst (λ (t : Keyed). IfOk c.whole_result.result (λ at. GivesNumber t.keys (cells_at c.args.columns.now (get_or c.args.frame.now.rows c.args.row [])) at (keyed_of c.insert.new.self c.insert_chain-inserted.new.tables).keys)) c.self.view_is (rows_after c.self.inside.first c.insert.new.self c.self.inside.more.items c.deref_mut.result.now c.insert_chain-inserted.new.tables (value_of c.get.result) c.in-Ok.first (cells_at (take (length c.args.columns.now - 1) (drop 1 c.args.columns.now)) (get_or c.args.frame.now.rows c.args.row [])) c.len-count.result c.insert_chain-inserted.result c.whole_result.result (cells_at c.args.columns.now (get_or c.args.frame.now.rows c.args.row [])) c.deref_mut.ensures.value c.whole_result.ensures (sym (cells_split c.args.columns.now (take (length c.args.columns.now - 1) (drop 1 c.args.columns.now)) (get_or c.args.columns.now 0 0) (value_of c.get.result) (get_or c.args.frame.now.rows c.args.row []) (later_columns c.args.frame.now.schema c.args.columns.now c.self.inside.first.kind (map (λ (t : PairList). t.kind) c.self.inside.more.items) c.requires.columns (c.requires.kinds ∙ ap (λ (t : Keyed). t.kinds) (sym c.self.view_is))).split (c.get.ensures.value ∙ cell_is c.column.result.now.values c.args.frame.now.rows (get_or c.args.columns.now 0 0) c.args.row c.column.ensures.values c.requires.row))) c.self.invariant c.in-Ok.ensures.ok c.in-Ok.ensures.refused c.in-Ok.ensures.kind c.insert_chain-inserted.ensures.ok c.insert_chain-inserted.ensures.number c.insert_chain-inserted.ensures.err (length-map (take (length c.args.columns.now - 1) (drop 1 c.args.columns.now)) (λ at. cell_at at (get_or c.args.frame.now.rows c.args.row [])) ∙ (later_columns c.args.frame.now.schema c.args.columns.now c.self.inside.first.kind (map (λ (t : PairList). t.kind) c.self.inside.more.items) c.requires.columns (c.requires.kinds ∙ ap (λ (t : Keyed). t.kinds) (sym c.self.view_is))).count ∙ length-map c.self.inside.more.items (λ (t : PairList). t.kind)) (c.len-count.ensures.len ∙ ap (λ (t : Keyed). length t.keys) (sym c.self.view_is)) c.len-count.ensures.within).gives)

pub returns-clause-refused : goal.returns-clause-refused
returns-clause-refused c = subst (λ (t : Keyed). RefusesKey t.keys (cells_at c.args.columns.now (get_or c.args.frame.now.rows c.args.row [])) c.whole_result.result) c.self.view_is (rows_after c.self.inside.first c.insert.new.self c.self.inside.more.items c.deref_mut.result.now c.insert_chain-inserted.new.tables (value_of c.get.result) c.in-Ok.first (cells_at (take (length c.args.columns.now - 1) (drop 1 c.args.columns.now)) (get_or c.args.frame.now.rows c.args.row [])) c.len-count.result c.insert_chain-inserted.result c.whole_result.result (cells_at c.args.columns.now (get_or c.args.frame.now.rows c.args.row [])) c.deref_mut.ensures.value c.whole_result.ensures (sym (cells_split c.args.columns.now (take (length c.args.columns.now - 1) (drop 1 c.args.columns.now)) (get_or c.args.columns.now 0 0) (value_of c.get.result) (get_or c.args.frame.now.rows c.args.row []) (later_columns c.args.frame.now.schema c.args.columns.now c.self.inside.first.kind (map (λ (t : PairList). t.kind) c.self.inside.more.items) c.requires.columns (c.requires.kinds ∙ ap (λ (t : Keyed). t.kinds) (sym c.self.view_is))).split (c.get.ensures.value ∙ cell_is c.column.result.now.values c.args.frame.now.rows (get_or c.args.columns.now 0 0) c.args.row c.column.ensures.values c.requires.row))) c.self.invariant c.in-Ok.ensures.ok c.in-Ok.ensures.refused c.in-Ok.ensures.kind c.insert_chain-inserted.ensures.ok c.insert_chain-inserted.ensures.number c.insert_chain-inserted.ensures.err (length-map (take (length c.args.columns.now - 1) (drop 1 c.args.columns.now)) (λ at. cell_at at (get_or c.args.frame.now.rows c.args.row [])) ∙ (later_columns c.args.frame.now.schema c.args.columns.now c.self.inside.first.kind (map (λ (t : PairList). t.kind) c.self.inside.more.items) c.requires.columns (c.requires.kinds ∙ ap (λ (t : Keyed). t.kinds) (sym c.self.view_is))).count ∙ length-map c.self.inside.more.items (λ (t : PairList). t.kind)) (c.len-count.ensures.len ∙ ap (λ (t : Keyed). length t.keys) (sym c.self.view_is)) c.len-count.ensures.within).refused

pub returns-clause-err : goal.returns-clause-err
returns-clause-err c =
    subst (λ (ts : List PairList). OnErr c.whole_result.result (keyed_of c.insert.new.self ts ≡ c.args.self.now)) (sym (all_put c.self.inside.more.len c.insert_chain-inserted.new.tables c.self.inside.more.items (sym c.deref_mut.ensures.len ∙ sym c.insert_chain-inserted.ensures.len)))
    (subst (λ (t : Keyed). OnErr c.whole_result.result (keyed_of c.insert.new.self c.insert_chain-inserted.new.tables ≡ t)) c.self.view_is (rows_after c.self.inside.first c.insert.new.self c.self.inside.more.items c.deref_mut.result.now c.insert_chain-inserted.new.tables (value_of c.get.result) c.in-Ok.first (cells_at (take (length c.args.columns.now - 1) (drop 1 c.args.columns.now)) (get_or c.args.frame.now.rows c.args.row [])) c.len-count.result c.insert_chain-inserted.result c.whole_result.result (cells_at c.args.columns.now (get_or c.args.frame.now.rows c.args.row [])) c.deref_mut.ensures.value c.whole_result.ensures (sym (cells_split c.args.columns.now (take (length c.args.columns.now - 1) (drop 1 c.args.columns.now)) (get_or c.args.columns.now 0 0) (value_of c.get.result) (get_or c.args.frame.now.rows c.args.row []) (later_columns c.args.frame.now.schema c.args.columns.now c.self.inside.first.kind (map (λ (t : PairList). t.kind) c.self.inside.more.items) c.requires.columns (c.requires.kinds ∙ ap (λ (t : Keyed). t.kinds) (sym c.self.view_is))).split (c.get.ensures.value ∙ cell_is c.column.result.now.values c.args.frame.now.rows (get_or c.args.columns.now 0 0) c.args.row c.column.ensures.values c.requires.row))) c.self.invariant c.in-Ok.ensures.ok c.in-Ok.ensures.refused c.in-Ok.ensures.kind c.insert_chain-inserted.ensures.ok c.insert_chain-inserted.ensures.number c.insert_chain-inserted.ensures.err (length-map (take (length c.args.columns.now - 1) (drop 1 c.args.columns.now)) (λ at. cell_at at (get_or c.args.frame.now.rows c.args.row [])) ∙ (later_columns c.args.frame.now.schema c.args.columns.now c.self.inside.first.kind (map (λ (t : PairList). t.kind) c.self.inside.more.items) c.requires.columns (c.requires.kinds ∙ ap (λ (t : Keyed). t.kinds) (sym c.self.view_is))).count ∙ length-map c.self.inside.more.items (λ (t : PairList). t.kind)) (c.len-count.ensures.len ∙ ap (λ (t : Keyed). length t.keys) (sym c.self.view_is)) c.len-count.ensures.within).same)
