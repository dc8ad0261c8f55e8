use Rattle.morsel_join.specs.declared.rules.JoinColumn.TheVariants as columns
use Rattle.morsel_join.proofs.gather.gather_columns.Goals as goal
use Rattle.morsel_join.proofs.GatherLemmas.{fits-at}

pub gather_column-requires-clause-fit : goal.gather_column-requires-clause-fit
gather_column-requires-clause-fit c = fits-at c.args.left.now.schema c.args.right.now.schema c.args.columns.now c.loop-column.column-index (columns.Left 0) c.requires.columns c.loop-column-test.true
