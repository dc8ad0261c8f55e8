-- Ends and their units, in order.
use Rattle.std.proofs.Common.{◌≡◌, Option, Some, None, List, [], ◌∷◌, All, length, refl, sym, ap, subst, ◌∙◌, suc}
use Rattle.std.proofs.lemmas.List.Elements.{All-cons, All-head, All-nil, All-tail}
use Rattle.atomic_table.specs.Seated.{TableId}
use Rattle.morsel_prims.specs.Polled.{BoardId, LaneId}
use Rattle.morsel_lane_pipe.specs.Tasks.{Has}
use Rattle.morsel_lane_pipe.specs.declared.stepping.Stepping.{Stepping}
use Rattle.morsel_ports.specs.Joining.{MayJoin}
use Rattle.morsel_ports.specs.Nodes.{UnitSeen}
use Rattle.morsel_pair.specs.declared.two_of.TwoOf.{TwoOf}
use Rattle.morsel_pair.specs.declared.two_of.TwoOf.TheVariants.{First, Second}
use Rattle.morsel_group_phases.specs.declared.places.GroupAt.{GroupAt}
use Rattle.morsel_group_phases.specs.declared.places.GroupAt.TheVariants as at
use Rattle.morsel_join_node.specs.JoinUnits.{IsMadeUnit}
use Rattle.morsel_group_node.specs.GroupUnits.{IsGroupUnitAt}

-- there is a unit for each end
pub as_many : {X U : Type 0} (P : X → U → Type 0) (xs : List X) (us : List U) → MayJoin P xs us → length us ≡ length xs
as_many P [] [] are = refl
as_many P [] (u ∷ us) are = absurd are
as_many P (x ∷ xs) [] are = absurd are
as_many P (x ∷ xs) (u ∷ us) are = ap suc (as_many P xs us are.1)

-- what follows of an end and its unit is so of each unit
pub each_unit : {X U : Type 0} (P : X → U → Type 0) (Q : X → Type 0) (T : U → Type 0) → ((x : X) (u : U) → Q x → P x u → T u) → (xs : List X) (us : List U) → MayJoin P xs us → All Q xs → All T us
each_unit P Q T then [] [] are all = All-nil T
each_unit P Q T then [] (u ∷ us) are all = absurd are
each_unit P Q T then (x ∷ xs) [] are all = absurd are
each_unit P Q T then (x ∷ xs) (u ∷ us) are all = All-cons T u us (then x u (All-head Q x xs all) are.0) (each_unit P Q T then xs us are.1 (All-tail Q x xs all))

-- what follows of an end and its unit is so of all of them
pub each_made : {X U : Type 0} (P R : X → U → Type 0) (Q : X → Type 0) → ((x : X) (u : U) → Q x → P x u → R x u) → (xs : List X) (us : List U) → MayJoin P xs us → All Q xs → MayJoin R xs us
each_made P R Q then [] [] are all = tt
each_made P R Q then [] (u ∷ us) are all = absurd are
each_made P R Q then (x ∷ xs) [] are all = absurd are
each_made P R Q then (x ∷ xs) (u ∷ us) are all = (then x u (All-head Q x xs all) are.0, each_made P R Q then xs us are.1 (All-tail Q x xs all))

-- one end, and its unit
pub one_made : {X U : Type 0} (P : X → U → Type 0) (x : X) (u : U) (us : List U) → us ≡ u ∷ [] → P x u → MayJoin P (x ∷ []) us
one_made P x u us is made = subst (MayJoin P (x ∷ [])) (sym is) (made, tt)

-- a unit that was made alone may be polled with the board of its ends
pub alone_polled : {U : Type 0} (can_poll : BoardId → U → Type 0) (seen : U → UnitSeen) (is : U → Type 0) (home : TableId) (from to : List LaneId) (tokens : BoardId → Type 0) (id : BoardId) (u : U) (us : List U)
    → IsMadeUnit can_poll seen is home from to tokens u → us ≡ u ∷ [] → home ≡ id.lane_table → tokens id → All (can_poll id) us
alone_polled can_poll seen is home from to tokens id u us made one same of = subst (All (can_poll id)) (sym one) (All-cons (can_poll id) u [] (made.pollable id same of) (All-nil (can_poll id)))

-- units that were made for ends
module _ {X U : Type 0} (can_poll : BoardId → U → Type 0) (seen : U → UnitSeen) (is : X → U → Type 0) (home : X → TableId) (from to : X → List LaneId) (tokens : X → BoardId → Type 0) where
  abbrev pub IsMadeFor : X → U → Type 0
  IsMadeFor x u = IsMadeUnit can_poll seen (is x) (home x) (from x) (to x) (tokens x) u

  -- may be polled with the board of these ends
  pub all_polled : (id : BoardId) (xs : List X) (us : List U) → MayJoin IsMadeFor xs us → All (λ x. (home x ≡ id.lane_table) × tokens x id) xs → All (can_poll id) us
  all_polled id xs us are all = each_unit IsMadeFor (λ x. (home x ≡ id.lane_table) × tokens x id) (can_poll id) (λ x u of made. made.pollable id of.0 of.1) xs us are all

  -- have what they were made with
  pub all_made : (Q : X → Type 0) (T : U → Type 0) → ((x : X) (u : U) → Q x → is x u → T u) → (xs : List X) (us : List U) → MayJoin IsMadeFor xs us → All Q xs → All T us
  all_made Q T then xs us are all = each_unit IsMadeFor Q T (λ x u of made. then x u of made.made) xs us are all

  -- and have the lanes of these ends
  pub lanes_made : (table : TableId) (xs : List X) (us : List U) → MayJoin IsMadeFor xs us → All (λ x. home x ≡ table) xs → MayJoin (λ x u. seen u ≡ record { home = table; from = from x; to = to x }) xs us
  lanes_made table xs us are all =
      each_made IsMadeFor (λ x u. seen u ≡ record { home = table; from = from x; to = to x }) (λ x. home x ≡ table)
      (λ x u of made. made.lanes ∙ ap (λ (t : TableId). record { home = t; from = from x; to = to x }) of) xs us are all

has_weaker : {T : Type 0} (P P' : T → Type 0) → ((t : T) → P t → P' t) → (task : Option T) → Has task P → Has task P'
has_weaker P P' then None is = absurd is
has_weaker P P' then (Some t) is = then t is

of_kind : {A Z : Type 0} (there : GroupAt) (P P' : A → Type 0) (Q Q' : Z → Type 0) → ((a : A) → P a → P' a) → ((z : Z) → Q z → Q' z) → (unit : TwoOf (Stepping A) (Stepping Z)) → IsGroupUnitAt there unit P Q → IsGroupUnitAt there unit P' Q'
of_kind at.Sink P P' Q Q' p q (First unit) is = has_weaker P P' p unit.task is
of_kind at.Sink P P' Q Q' p q (Second unit) is = absurd is
of_kind at.Source P P' Q Q' p q (First unit) is = absurd is
of_kind at.Source P P' Q Q' p q (Second unit) is = has_weaker Q Q' q unit.task is
of_kind at.Done P P' Q Q' p q unit is = absurd is

-- a unit of one kind, there
pub unit_there : {A Z : Type 0} (place there : GroupAt) (P P' : A → Type 0) (Q Q' : Z → Type 0) → place ≡ there → ((a : A) → P a → P' a) → ((z : Z) → Q z → Q' z) → (unit : TwoOf (Stepping A) (Stepping Z)) → IsGroupUnitAt there unit P Q → IsGroupUnitAt place unit P' Q'
unit_there {A} {Z} place there P P' Q Q' same p q unit is = subst (λ (o : GroupAt). IsGroupUnitAt o unit P' Q') (sym same) (of_kind there P P' Q Q' p q unit is)
