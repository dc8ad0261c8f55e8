use Rattle.std.proofs.Common.{sym, subst}
use Rattle.morsel_text.specs.Steps.{AreHigh}
use Rattle.morsel_text.proofs.BatchStepLemmas.{appended-empty}
use Rattle.morsel_text.proofs.batch.append_columns.Goals as goal

pub returns-then-are_empty-clause-ok : goal.returns-then-are_empty-clause-ok
returns-then-are_empty-clause-ok c =
    sym (appended-empty c.args.columns.now.items c.args.made.items (subst (AreHigh 0) c.deref.ensures.value (c.are_empty.ensures c.if-are_empty.true)) c.requires.kinds)
