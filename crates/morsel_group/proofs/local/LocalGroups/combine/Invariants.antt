use Rattle.std.proofs.Common.{◌≡◌, ◌<◌, ◌++◌, ℕ, All, List, Option, None, IsSome, length, get_or}
use Rattle.std.specs.Prelude.{option_map}
use Rattle.std.specs.List.{flat_map}
use Rattle.std.specs.Vec.Iter.{into_iter_items}
use Rattle.morsel_group.specs.Grouping.{RowAt}
use Rattle.morsel_group.specs.Locals.{AreGroupsIfAny, AreSameGroupBy, HaveRowsIfAny, HaveTaken, HeldGroups, held_in}
use Rattle.morsel_group.proofs.LocalLemmas.{HaveBegun}
use Rattle.morsel_group.proofs.local.LocalGroups.combine.Given as goal

abbrev pub invariant-loop-local : goal.invariant-loop-local
invariant-loop-local l = record {
  all : l.yielded ++ into_iter_items l.local-iterator ≡ l.fn.locals.items;
  groups : AreGroupsIfAny l.whole;
  begun : HaveBegun l.whole l.yielded;
  each : All (λ (local : Option HeldGroups). IsSome local) l.yielded;
  alike : (k : ℕ) → k < length l.fn.locals.items → AreSameGroupBy (option_map held_in l.whole) (get_or l.fn.locals.items k None);
  rows : (lists : List (List RowAt)) → HaveTaken l.yielded lists → HaveRowsIfAny l.whole (flat_map (λ rows. rows) lists);
}
