use Rattle.std.proofs.Common.{arith, ◌∙◌, ◌+◌, subst, get_or, []}
use Rattle.std.proofs.lemmas.Grind.{drop_more_same}
use Rattle.std.proofs.lemmas.List.{length-set, drop-set-lt}
use Rattle.morsel_meaning.specs.declared.value.ColType.{ColType}
use Rattle.morsel_meaning.specs.Values.{IsOfType}
use Rattle.morsel_frame.specs.Cells.{value_of}
use Rattle.morsel_row_keys.proofs.StepLemmas.{numbers_step, numbers_all, stop_step, cell_is, kind_then}
use Rattle.morsel_row_keys.proofs.chain.insert_chain.Goals as goal

pub insert-requires-clause-of_type : goal.insert-requires-clause-of_type
insert-requires-clause-of_type c =
    subst (λ (kind : ColType). IsOfType kind (value_of c.get.result))
    (kind_then c.args.frame.now.schema c.args.columns.now c.args.tables.now c.loop-i.tables c.loop-i.i c.column.result.now.kind c.index-tables-i.result c.requires.within c.requires.kinds (omega (arith, c.loop-i.invariant.len)) c.requires.count c.loop-i.invariant.rest c.column.ensures.kind)
    c.get.ensures.of_type

pub loop-i-preserved : goal.loop-i-preserved
loop-i-preserved c = record {
  len = length-set c.loop-i.tables c.loop-i.i c.insert.new.self ∙ c.loop-i.invariant.len;
  low = c.in-Ok.ensures.refused;
  rest = drop-set-lt (c.loop-i.i + 1) c.loop-i.tables c.loop-i.i c.insert.new.self (omega arith) ∙ drop_more_same c.loop-i.tables c.args.tables.now c.loop-i.i c.loop-i.invariant.rest;
  done = numbers_step c.args.tables.now c.loop-i.tables c.args.first (get_or c.args.frame.now.rows c.args.row []) c.args.columns.now c.loop-i.i c.loop-i.number c.in-Ok.at c.index-tables-i.result c.insert.new.self (value_of c.get.result)
      (omega (arith, c.loop-i.invariant.len)) c.loop-i.invariant.len c.requires.count c.loop-i.invariant.rest (c.get.ensures.value ∙ cell_is c.column.result.now.values c.args.frame.now.rows (get_or c.args.columns.now c.loop-i.i 0) c.args.row c.column.ensures.values c.requires.row)
      c.loop-i.invariant.done c.in-Ok.ensures.ok c.in-Ok.ensures.refused c.in-Ok.ensures.kind;
}

pub returns-in-Err-clause-err : goal.returns-in-Err-clause-err
returns-in-Err-clause-err c =
    stop_step c.args.tables.now c.loop-i.tables c.args.first (get_or c.args.frame.now.rows c.args.row []) c.args.columns.now c.loop-i.i c.loop-i.number c.index-tables-i.result c.insert.new.self (value_of c.get.result) c.in-Err.fault
    (omega (arith, c.loop-i.invariant.len)) c.loop-i.invariant.len c.requires.count c.loop-i.invariant.rest (c.get.ensures.value ∙ cell_is c.column.result.now.values c.args.frame.now.rows (get_or c.args.columns.now c.loop-i.i 0) c.args.row c.column.ensures.values c.requires.row)
    c.loop-i.invariant.done c.in-Err.ensures.refused c.in-Err.ensures.err

pub returns-clause-ok : goal.returns-clause-ok
returns-clause-ok c = numbers_all c.args.tables.now c.loop-i.tables c.args.first (get_or c.args.frame.now.rows c.args.row []) c.args.columns.now c.loop-i.i c.loop-i.number (omega (arith, c.loop-i.invariant.len)) c.loop-i.invariant.len c.requires.count c.loop-i.invariant.done
