use Rattle.std.proofs.Common.{arith, ◌∙◌, length, refl}
use Rattle.std.proofs.lemmas.Option.{slice_get_read}
use Rattle.morsel_row_keys.proofs.StepLemmas.{looks_step, looks_all, kind_is}
use Rattle.morsel_row_keys.proofs.chain.look_up_chain.Goals as goal

pub look_up-requires-clause-kind : goal.look_up-requires-clause-kind
look_up-requires-clause-kind c =
    kind_is c.args.frame.now.schema c.args.columns.now c.args.tables.now c.loop-i.i c.column.result.now.kind c.index-tables-i.result c.requires.within c.requires.kinds (omega (arith, c.requires.count)) c.column.ensures.kind
    (slice_get_read c.args.tables.now (length c.args.tables.now) c.loop-i.i c.index-tables-i.result refl (omega arith) c.index-tables-i.is)

pub loop-i-preserved : goal.loop-i-preserved
loop-i-preserved c = record {
  len = c.in_ok-look_up.ensures.len ∙ c.loop-i.invariant.len;
  done = looks_step c.args.tables.now c.args.numbers.now c.args.frame.now.rows c.args.columns.now c.loop-i.numbers c.look_up.new.numbers c.loop-i.i c.index-tables-i.result c.column.result.now.values (omega arith) c.requires.count c.index-tables-i.is c.column.ensures.values
      c.loop-i.invariant.done c.in_ok-look_up.ensures.ok;
}

pub returns-clause-ok : goal.returns-clause-ok
returns-clause-ok c = looks_all c.args.tables.now c.args.numbers.now c.args.frame.now.rows c.args.columns.now c.loop-i.numbers c.loop-i.i (omega arith) c.requires.count c.loop-i.invariant.done
