use Rattle.std.proofs.Common.{◌≡◌, ◌++◌, [], List, Some, refl, sym, subst}
use Rattle.std.specs.Prelude.{Option, IfErr, IsSome, option_map}
use Rattle.morsel_group.specs.declared.groups.Groups.{Groups}
use Rattle.morsel_group.specs.Asked.{GroupShape}
use Rattle.morsel_group.specs.Grouping.{RowAt}
use Rattle.morsel_group.specs.Locals.{AreGroupsIfAny, AreSameGroupBy, HasGroupedRows, HasShape, HasTakenRows, HaveRowsIfAny, IsGroupFault, held_in}
use Rattle.morsel_group.proofs.LocalLemmas.{on_ok}
use Rattle.morsel_group.proofs.local.joined.Goals as goal

pub returns-in-None-Some-clause-groups : goal.returns-in-None-Some-clause-groups
returns-in-None-Some-clause-groups c = subst AreGroupsIfAny c.in-None-Some.is-1 c.requires.other

pub returns-in-None-Some-clause-alike : goal.returns-in-None-Some-clause-alike
returns-in-None-Some-clause-alike c held is = subst (λ (v : Option Groups). AreSameGroupBy (option_map held_in v) held) c.in-None-Some.is-1 is

pub returns-in-None-Some-clause-rows : goal.returns-in-None-Some-clause-rows
returns-in-None-Some-clause-rows c rows more have has =
    let none : rows ≡ [] = subst (λ (v : Option Groups). HaveRowsIfAny v rows) c.in-None-Some.is-0 have in
    subst (λ (rs : List RowAt). HasGroupedRows (held_in c.in-None-Some.other) (rs ++ more)) (sym none) (subst (λ (v : Option Groups). HasTakenRows (option_map held_in v) more) c.in-None-Some.is-1 has)

pub returns-in-None-Some-clause-some : goal.returns-in-None-Some-clause-some
returns-in-None-Some-clause-some c = subst (λ (v : Option Groups). IsSome (option_map held_in v)) (sym c.in-None-Some.is-1) refl

pub joined_both-requires-clause-groups : goal.joined_both-requires-clause-groups
joined_both-requires-clause-groups c = subst AreGroupsIfAny c.in-Some-Some.is-0 c.requires.groups

pub joined_both-requires-clause-other : goal.joined_both-requires-clause-other
joined_both-requires-clause-other c = subst AreGroupsIfAny c.in-Some-Some.is-1 c.requires.other

pub joined_both-requires-clause-alike : goal.joined_both-requires-clause-alike
joined_both-requires-clause-alike c =
    subst (λ (v : Option Groups). AreSameGroupBy (option_map held_in v) (Some (held_in c.in-Some-Some.other))) c.in-Some-Some.is-0
    (subst (λ (v : Option Groups). AreSameGroupBy (option_map held_in c.args.groups) (option_map held_in v)) c.in-Some-Some.is-1 c.requires.alike)

pub returns-in-Some-Some-clause-alike : goal.returns-in-Some-Some-clause-alike
returns-in-Some-Some-clause-alike c held is = c.joined_both.ensures.alike held (subst (λ (v : Option Groups). AreSameGroupBy (option_map held_in v) held) c.in-Some-Some.is-1 is)

pub returns-in-Some-Some-clause-some : goal.returns-in-Some-Some-clause-some
returns-in-Some-Some-clause-some c = on_ok _ c.joined_both.result (subst (λ (v : Option Groups). IsSome (option_map held_in v)) (sym c.in-Some-Some.is-1) refl)

pub returns-in-Some-Some-clause-rows : goal.returns-in-Some-Some-clause-rows
returns-in-Some-Some-clause-rows c rows more have has =
    c.joined_both.ensures.rows rows more (subst (λ (v : Option Groups). HaveRowsIfAny v rows) c.in-Some-Some.is-0 have) (subst (λ (v : Option Groups). HasTakenRows (option_map held_in v) more) c.in-Some-Some.is-1 has)

pub returns-in-Some-Some-clause-refused : goal.returns-in-Some-Some-clause-refused
returns-in-Some-Some-clause-refused c rows more shape have has shaped =
    let own = subst (λ (v : Option Groups). HasShape (option_map held_in v) shape) c.in-Some-Some.is-1 shaped in
    let alike = subst (λ (v : Option Groups). AreSameGroupBy (option_map held_in v) (Some (held_in c.in-Some-Some.other))) c.in-Some-Some.is-0
    (subst (λ (v : Option Groups). AreSameGroupBy (option_map held_in c.args.groups) (option_map held_in v)) c.in-Some-Some.is-1 c.requires.alike) in
    subst (λ (s : GroupShape). IfErr c.joined_both.result (IsGroupFault s (rows ++ more))) own
    (subst (λ (s : GroupShape). IfErr c.joined_both.result (IsGroupFault s (rows ++ more))) (sym alike.1)
    (c.joined_both.ensures.refused rows more (subst (λ (v : Option Groups). HaveRowsIfAny v rows) c.in-Some-Some.is-0 have) (subst (λ (v : Option Groups). HasTakenRows (option_map held_in v) more) c.in-Some-Some.is-1 has)))
