use Rattle.std.proofs.Common.{sym, ◌∙◌, if◌then◌else◌, true, false}
use Rattle.morsel_join.specs.declared.join_type.JoinType.TheVariants as kinds
use Rattle.morsel_join.specs.Items.{same_item}
use Rattle.morsel_join.proofs.Counts.{each-once}
use Rattle.morsel_join.proofs.Grid.{items-mirrored}
use Rattle.morsel_join.proofs.Promises.{items-promised, promised-mirrored, left-promised, right-promised, any-promised}
use Rattle.morsel_join.proofs.laws.a_join_has_each_item_once.Goals as goal

pub returns-clause-once : goal.returns-clause-once
returns-clause-once given c = λ how same xs ys list often item. sym (often (λ other. if same_item item other then 1 else 0)) ∙ each-once how same xs ys item

pub returns-clause-in_order : goal.returns-clause-in_order
returns-clause-in_order given c = items-promised

pub returns-clause-mirrored : goal.returns-clause-mirrored
returns-clause-mirrored given c = elim [
  | kinds.Inner ↦ λ same xs ys. items-mirrored same false false xs ys
  | kinds.Left ↦ λ same xs ys. items-mirrored same true false xs ys
  | kinds.Right ↦ λ same xs ys. items-mirrored same false true xs ys
  | kinds.Full ↦ λ same xs ys. items-mirrored same true true xs ys
]

pub returns-clause-mirrored_order : goal.returns-clause-mirrored_order
returns-clause-mirrored_order given c = promised-mirrored

pub returns-clause-weaker : goal.returns-clause-weaker
returns-clause-weaker given c = λ list. (left-promised list, right-promised list, any-promised list)
