-- Ends and their units, in order.
use Rattle.std.proofs.Common.{◌≡◌, Option, Some, None, ◌++◌, ◌+◌, List, [], ◌∷◌, All, map, length, refl, sym, ap, subst, ◌∙◌, suc, append_assoc, arith}
use Rattle.std.proofs.lemmas.List.{length-append, length-map, map_push}
use Rattle.std.proofs.lemmas.List.Elements.{All-cons, All-head, All-nil, All-tail}
use Rattle.atomic_table.specs.Seated.{TableId}
use Rattle.morsel_prims.specs.Polled.{BoardId, LaneId}
use Rattle.morsel_lane_pipe.specs.Tasks.{Has}
use Rattle.morsel_lane_pipe.specs.declared.stepping.Stepping.{Stepping}
use Rattle.morsel_ports.specs.Joining.{MayJoin}
use Rattle.morsel_ports.specs.Nodes.{UnitSeen}
use Rattle.morsel_stage.specs.declared.one_of.OneOf.{OneOf}
use Rattle.morsel_stage.specs.declared.one_of.OneOf.TheVariants.{First, Second, Third}
use Rattle.morsel_join_phases.specs.declared.places.JoinAt.{JoinAt}
use Rattle.morsel_join_phases.specs.declared.places.JoinAt.TheVariants as at
use Rattle.morsel_join_node.specs.JoinUnits.{IsMadeUnit, IsUnitAt}

-- one more is behind
pub part_more : {X : Type 0} (before xs xs' all : List X) (x : X) → before ++ xs ≡ all → xs ≡ x ∷ xs' → (before ++ x ∷ []) ++ xs' ≡ all
part_more before xs xs' all x is first = append_assoc before (x ∷ []) xs' ∙ ap (λ zs. before ++ zs) (sym first) ∙ is

-- what is so of all is so of those behind the first ones
all_rest : {X : Type 0} (P : X → Type 0) (before xs all : List X) → before ++ xs ≡ all → All P all → All P xs
all_rest P [] xs all is h = subst (All P) (sym is) h
all_rest P (b ∷ before) xs all is h = all_rest P before xs (before ++ xs) refl (All-tail P b (before ++ xs) (subst (All P) (sym is) h))

pub all_first : {X : Type 0} (P : X → Type 0) (before xs xs' all : List X) (x : X) → before ++ xs ≡ all → xs ≡ x ∷ xs' → All P all → P x
all_first P before xs xs' all x is first h = All-head P x xs' (subst (All P) first (all_rest P before xs all is h))

-- there is a unit for each end
pub as_many : {X U : Type 0} (P : X → U → Type 0) (xs : List X) (us : List U) → MayJoin P xs us → length us ≡ length xs
as_many P [] [] are = refl
as_many P [] (u ∷ us) are = absurd are
as_many P (x ∷ xs) [] are = absurd are
as_many P (x ∷ xs) (u ∷ us) are = ap suc (as_many P xs us are.1)

-- what follows of an end and its unit is so of each unit
pub each_unit : {X U : Type 0} (P : X → U → Type 0) (Q : X → Type 0) (T : U → Type 0) → ((x : X) (u : U) → Q x → P x u → T u) → (xs : List X) (us : List U) → MayJoin P xs us → All Q xs → All T us
each_unit P Q T then [] [] are all = All-nil T
each_unit P Q T then [] (u ∷ us) are all = absurd are
each_unit P Q T then (x ∷ xs) [] are all = absurd are
each_unit P Q T then (x ∷ xs) (u ∷ us) are all = All-cons T u us (then x u (All-head Q x xs all) are.0) (each_unit P Q T then xs us are.1 (All-tail Q x xs all))

-- what follows of an end and its unit is so of all of them
pub each_made : {X U : Type 0} (P R : X → U → Type 0) (Q : X → Type 0) → ((x : X) (u : U) → Q x → P x u → R x u) → (xs : List X) (us : List U) → MayJoin P xs us → All Q xs → MayJoin R xs us
each_made P R Q then [] [] are all = tt
each_made P R Q then [] (u ∷ us) are all = absurd are
each_made P R Q then (x ∷ xs) [] are all = absurd are
each_made P R Q then (x ∷ xs) (u ∷ us) are all = (then x u (All-head Q x xs all) are.0, each_made P R Q then xs us are.1 (All-tail Q x xs all))

-- one more end, and its unit
pub one_more : {X U : Type 0} (P : X → U → Type 0) (xs : List X) (us : List U) (x : X) (u : U) → MayJoin P xs us → P x u → MayJoin P (xs ++ x ∷ []) (us ++ u ∷ [])
one_more P [] [] x u are is = (is, tt)
one_more P [] (v ∷ us) x u are is = absurd are
one_more P (y ∷ xs) [] x u are is = absurd are
one_more P (y ∷ xs) (v ∷ us) x u are is = (are.0, one_more P xs us x u are.1 is)

-- one end, and its unit
pub one_made : {X U : Type 0} (P : X → U → Type 0) (x : X) (u : U) (us : List U) → us ≡ u ∷ [] → P x u → MayJoin P (x ∷ []) us
one_made P x u us is made = subst (MayJoin P (x ∷ [])) (sym is) (made, tt)

-- what is so of each of two lists is so of each pair of what stands at the same places
pub all_pairs : {X Y : Type 0} (P : X → Type 0) (Q : Y → Type 0) (R : X × Y → Type 0) → ((x : X) (y : Y) → P x → Q y → R (x, y)) → (ps : List (X × Y)) → All P (map (λ p. p.0) ps) → All Q (map (λ p. p.1) ps) → All R ps
all_pairs P Q R both [] p q = All-nil R
all_pairs P Q R both (pair ∷ ps) p q = All-cons R pair ps (both pair.0 pair.1 (All-head P pair.0 (map (λ o. o.0) ps) p) (All-head Q pair.1 (map (λ o. o.1) ps) q)) (all_pairs P Q R both ps (All-tail P pair.0 (map (λ o. o.0) ps) p) (All-tail Q pair.1 (map (λ o. o.1) ps) q))

-- one pair more, of the first of what is left of both lists
pub pair_more : {X Z : Type 0} (f : Z → X) (zs zs' : List Z) (z : Z) (xs xs' all : List X) → zs' ≡ zs ++ z ∷ [] → xs ≡ f z ∷ xs' → map f zs ++ xs ≡ all → map f zs' ++ xs' ≡ all
pair_more f zs zs' z xs xs' all pushed first is =
    ap (λ us. map f us ++ xs') pushed ∙ ap (λ us. us ++ xs') (map_push f zs z) ∙ append_assoc (map f zs) (f z ∷ []) xs' ∙ ap (λ us. map f zs ++ us) (sym first) ∙ is

-- where nothing is left of the one list, nothing is left of the other one
pub none_left : {X Y Z : Type 0} (f : Z → X) (g : Z → Y) (zs : List Z) (xs all : List X) (ys others : List Y) → length all ≡ length others → map f zs ++ xs ≡ all → map g zs ++ ys ≡ others → length xs ≡ length ys
none_left f g zs xs all ys others same firsts seconds =
    let one : length zs + length xs ≡ length all = ap (λ n. n + length xs) (sym (length-map zs f)) ∙ sym (length-append (map f zs) xs) ∙ ap length firsts in
    let other : length zs + length ys ≡ length others = ap (λ n. n + length ys) (sym (length-map zs g)) ∙ sym (length-append (map g zs) ys) ∙ ap length seconds in
    omega (arith, one, other, same)

-- a unit that was made alone may be polled with the board of its ends
pub alone_polled : {U : Type 0} (can_poll : BoardId → U → Type 0) (seen : U → UnitSeen) (is : U → Type 0) (home : TableId) (from to : List LaneId) (tokens : BoardId → Type 0) (id : BoardId) (u : U) (us : List U)
    → IsMadeUnit can_poll seen is home from to tokens u → us ≡ u ∷ [] → home ≡ id.lane_table → tokens id → All (can_poll id) us
alone_polled can_poll seen is home from to tokens id u us made one same of = subst (All (can_poll id)) (sym one) (All-cons (can_poll id) u [] (made.pollable id same of) (All-nil (can_poll id)))

-- units that were made for ends
module _ {X U : Type 0} (can_poll : BoardId → U → Type 0) (seen : U → UnitSeen) (is : X → U → Type 0) (home : X → TableId) (from to : X → List LaneId) (tokens : X → BoardId → Type 0) where
  abbrev pub IsMadeFor : X → U → Type 0
  IsMadeFor x u = IsMadeUnit can_poll seen (is x) (home x) (from x) (to x) (tokens x) u

  -- may be polled with the board of these ends
  pub all_polled : (id : BoardId) (xs : List X) (us : List U) → MayJoin IsMadeFor xs us → All (λ x. (home x ≡ id.lane_table) × tokens x id) xs → All (can_poll id) us
  all_polled id xs us are all = each_unit IsMadeFor (λ x. (home x ≡ id.lane_table) × tokens x id) (can_poll id) (λ x u of made. made.pollable id of.0 of.1) xs us are all

  -- have what they were made with
  pub all_made : (Q : X → Type 0) (T : U → Type 0) → ((x : X) (u : U) → Q x → is x u → T u) → (xs : List X) (us : List U) → MayJoin IsMadeFor xs us → All Q xs → All T us
  all_made Q T then xs us are all = each_unit IsMadeFor Q T (λ x u of made. then x u of made.made) xs us are all

  -- and have the lanes of these ends
  pub lanes_made : (table : TableId) (xs : List X) (us : List U) → MayJoin IsMadeFor xs us → All (λ x. home x ≡ table) xs → MayJoin (λ x u. seen u ≡ record { home = table; from = from x; to = to x }) xs us
  lanes_made table xs us are all =
      each_made IsMadeFor (λ x u. seen u ≡ record { home = table; from = from x; to = to x }) (λ x. home x ≡ table)
      (λ x u of made. made.lanes ∙ ap (λ (t : TableId). record { home = t; from = from x; to = to x }) of) xs us are all

has_weaker : {T : Type 0} (P P' : T → Type 0) → ((t : T) → P t → P' t) → (task : Option T) → Has task P → Has task P'
has_weaker P P' then None is = absurd is
has_weaker P P' then (Some t) is = then t is

of_kind : {A M Z : Type 0} (there : JoinAt) (P P' : A → Type 0) (Q Q' : M → Type 0) (N N' : Z → Type 0) → ((a : A) → P a → P' a) → ((m : M) → Q m → Q' m) → ((z : Z) → N z → N' z)
    → (unit : OneOf (Stepping A) (Stepping M) (Stepping Z)) → IsUnitAt there unit P Q N → IsUnitAt there unit P' Q' N'
of_kind at.Build P P' Q Q' N N' p q n (First unit) is = has_weaker P P' p unit.task is
of_kind at.Build P P' Q Q' N N' p q n (Second unit) is = absurd is
of_kind at.Build P P' Q Q' N N' p q n (Third unit) is = absurd is
of_kind at.Probe P P' Q Q' N N' p q n (First unit) is = absurd is
of_kind at.Probe P P' Q Q' N N' p q n (Second unit) is = has_weaker Q Q' q unit.task is
of_kind at.Probe P P' Q Q' N N' p q n (Third unit) is = absurd is
of_kind at.Emit P P' Q Q' N N' p q n (First unit) is = absurd is
of_kind at.Emit P P' Q Q' N N' p q n (Second unit) is = absurd is
of_kind at.Emit P P' Q Q' N N' p q n (Third unit) is = has_weaker N N' n unit.task is
of_kind at.Done P P' Q Q' N N' p q n unit is = absurd is

-- a unit of one kind, there
pub unit_there : {A M Z : Type 0} (place there : JoinAt) (P P' : A → Type 0) (Q Q' : M → Type 0) (N N' : Z → Type 0) → place ≡ there → ((a : A) → P a → P' a) → ((m : M) → Q m → Q' m) → ((z : Z) → N z → N' z)
    → (unit : OneOf (Stepping A) (Stepping M) (Stepping Z)) → IsUnitAt there unit P Q N → IsUnitAt place unit P' Q' N'
unit_there {A} {M} {Z} place there P P' Q Q' N N' same p q n unit is = subst (λ (o : JoinAt). IsUnitAt o unit P' Q' N') (sym same) (of_kind there P P' Q Q' N N' p q n unit is)
