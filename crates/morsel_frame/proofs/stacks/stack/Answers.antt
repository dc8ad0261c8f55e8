use Rattle.std.proofs.Common.{◌∙◌, ap, map}
use Rattle.morsel_frame.specs.Stacks.{column_front}
use Rattle.morsel_frame.proofs.StackLemmas.{front-stacked}
use Rattle.morsel_frame.proofs.stacks.stack.Goals as goal

pub returns-in-Err-clause-err : goal.returns-in-Err-clause-err
returns-in-Err-clause-err c =
    let partly = c.in-Err.ensures.err in
    c.truncate_each.ensures ∙ ap (map (column_front c.args.height)) partly.1
    ∙ front-stacked c.args.height partly.0 c.args.columns.now.items c.args.others.now c.requires.level
