use Rattle.std.proofs.Common.{rules, ◌∙◌, Some, take, get_or, arith, ◌≡◌, slice_get, subst, sym}
use Rattle.std.proofs.lemmas.Option.{slice_get-get_or}
use Rattle.std.proofs.lemmas.List.{get_or-set_other}
use Rattle.morsel_meaning.specs.declared.value.Value.TheVariants as values
use Rattle.std.specs.Prelude.{Err}
use Rattle.morsel_frame.specs.Columns.{Values, value_at}
use Rattle.morsel_keys.specs.Slots.{RefusesKey}
use Rattle.morsel_keys.proofs.NumberLemmas.{numbers_step, found_still}
use Rattle.morsel_keys.proofs.column_keys.ColumnKeys.number_absent.Goals as goal

pub number_row-requires-clause-found : goal.number_row-requires-clause-found
number_row-requires-clause-found c =
    let here : slice_get c.args.column.now.values c.loop-i.i ≡ Some (value_at c.args.column.now.values c.loop-i.i) = slice_get-get_or c.args.column.now.values c.loop-i.i values.Null (search rules) in
    found_still c.args.self.now.values (take c.loop-i.i c.args.column.now.values) (take c.loop-i.i c.loop-i.out) c.loop-i.self.values (value_at c.args.column.now.values c.loop-i.i) (get_or c.loop-i.out c.loop-i.i 0) c.loop-i.invariant.done
    (c.loop-i.invariant.rest c.loop-i.i (value_at c.args.column.now.values c.loop-i.i) (omega arith) here)

pub returns-in-Err-clause-numbers : goal.returns-in-Err-clause-numbers
returns-in-Err-clause-numbers c = record {
  at = c.loop-i.i;
  key = value_at c.args.column.now.values c.loop-i.i;
  numbers = take c.loop-i.i c.loop-i.out;
  stopped = slice_get-get_or c.args.column.now.values c.loop-i.i values.Null (search rules);
  before = rw c.in-Err.ensures.err c.loop-i.invariant.done;
  refused = subst (λ (t : Values). RefusesKey t.values (value_at c.args.column.now.values c.loop-i.i) (Err c.in-Err.fault)) (sym c.in-Err.ensures.err) c.in-Err.ensures.refused;
}

pub loop-i-preserved : goal.loop-i-preserved
loop-i-preserved c =
    let here : slice_get c.args.column.now.values c.loop-i.i ≡ Some (value_at c.args.column.now.values c.loop-i.i) = slice_get-get_or c.args.column.now.values c.loop-i.i values.Null (search rules) in
    record {
      kind = c.number_row.ensures.kind ∙ c.loop-i.invariant.kind;
      done = numbers_step c.args.self.now.values c.args.column.now.values c.loop-i.out c.loop-i.i c.loop-i.self.values (value_at c.args.column.now.values c.loop-i.i) c.in-Ok.at c.number_row.new.self.values (search rules) here c.loop-i.invariant.done c.in-Ok.ensures.ok;
      rest = λ k v later e. rw (get_or-set_other c.loop-i.out c.loop-i.i k c.in-Ok.at 0 (λ same. omega (arith, later, same))) (c.loop-i.invariant.rest k v (omega (arith, later)) e);
    }
