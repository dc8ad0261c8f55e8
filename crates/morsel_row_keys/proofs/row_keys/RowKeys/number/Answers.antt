use Rattle.std.proofs.Common.{arith, ◌∙◌, sym, subst, take, get_or, [], map, length}
use Rattle.std.specs.Prelude.{Err}
use Rattle.std.proofs.lemmas.Result.{err_from_is_err_and}
use Rattle.std.proofs.lemmas.List.{length-set, get_or-set_other}
use Rattle.morsel_frame.specs.Tables.{cells_at}
use Rattle.morsel_keys.specs.Slots.{RefusesKey}
use Rattle.morsel_keys.specs.Keyed.{Keyed}
use Rattle.morsel_keys.proofs.NumberLemmas.{numbers_step, found_still}
use Rattle.morsel_row_keys.proofs.StepLemmas.{not_empty}
use Rattle.morsel_row_keys.proofs.RowLemmas.{row_at, stops_first}
use Rattle.morsel_row_keys.proofs.row_keys.RowKeys.number.Goals as goal

pub returns-in_err-look_up-clause-numbers : goal.returns-in_err-look_up-clause-numbers
returns-in_err-look_up-clause-numbers c =
    let some = not_empty (length c.args.out.now) c.is_empty.result c.is_empty.ensures c.if-is_empty.false in
    let p = err_from_is_err_and c.from_residual.result c.from_residual.ensures.1 in
    rw (p.1, p.2) (stops_first c.args.self.now.keys c.args.frame.now.rows c.args.columns.now c.in_err-look_up.field-0.0 (omega (arith, some, c.requires.len)) c.in_err-look_up.ensures.out_of_memory)

pub number_row-requires-clause-found : goal.number_row-requires-clause-found
number_row-requires-clause-found c =
    let key = cells_at c.args.columns.now (get_or c.args.frame.now.rows c.loop-row.row []) in
    let here = row_at c.args.frame.now.rows c.args.columns.now c.loop-row.row (omega (arith, c.loop-row.invariant.len)) in
    found_still c.args.self.now.keys (take c.loop-row.row (map (cells_at c.args.columns.now) c.args.frame.now.rows)) (take c.loop-row.row c.loop-row.out) c.loop-row.self.keys key (get_or c.loop-row.out c.loop-row.row 0) c.loop-row.invariant.done
    (c.loop-row.invariant.rest c.loop-row.row key (omega arith) here)

pub returns-in-Err-clause-numbers : goal.returns-in-Err-clause-numbers
returns-in-Err-clause-numbers c = record {
  at = c.loop-row.row;
  key = cells_at c.args.columns.now (get_or c.args.frame.now.rows c.loop-row.row []);
  numbers = take c.loop-row.row c.loop-row.out;
  stopped = row_at c.args.frame.now.rows c.args.columns.now c.loop-row.row (omega (arith, c.loop-row.invariant.len));
  before = rw c.in-Err.ensures.err c.loop-row.invariant.done;
  refused = subst (λ (t : Keyed). RefusesKey t.keys (cells_at c.args.columns.now (get_or c.args.frame.now.rows c.loop-row.row [])) (Err c.in-Err.fault)) (sym c.in-Err.ensures.err) c.in-Err.ensures.refused;
}

pub loop-row-preserved : goal.loop-row-preserved
loop-row-preserved c =
    let key = cells_at c.args.columns.now (get_or c.args.frame.now.rows c.loop-row.row []) in
    let here = row_at c.args.frame.now.rows c.args.columns.now c.loop-row.row (omega (arith, c.loop-row.invariant.len)) in
    record {
      kinds = c.number_row.ensures.kinds ∙ c.loop-row.invariant.kinds;
      len = length-set c.loop-row.out c.loop-row.row c.in-Ok.at ∙ c.loop-row.invariant.len;
      done = numbers_step c.args.self.now.keys (map (cells_at c.args.columns.now) c.args.frame.now.rows) c.loop-row.out c.loop-row.row c.loop-row.self.keys key c.in-Ok.at c.number_row.new.self.keys (omega (arith, c.loop-row.invariant.len)) here c.loop-row.invariant.done c.in-Ok.ensures.ok;
      rest = λ k v later e. rw (get_or-set_other c.loop-row.out c.loop-row.row k c.in-Ok.at 0 (λ same. omega (arith, later, same))) (c.loop-row.invariant.rest k v (omega (arith, later)) e);
    }
