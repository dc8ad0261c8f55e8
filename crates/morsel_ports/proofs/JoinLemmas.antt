-- Pairs of ends, and what is made between them.
use Rattle.std.proofs.Common.{◌≡◌, List, [], ◌∷◌, ◌++◌, map, Option, Some, Result, Ok, Err, IfOk, sym, ap, subst, ◌∙◌, append_assoc, append-nil}
use Rattle.std.proofs.lemmas.List.{map_push}
use Rattle.atomic_table.specs.Seated.{TableId}
use Rattle.morsel_prims.specs.Polled.{LaneId}
use Rattle.morsel_ports.specs.Between.{PipeKind, TaskLanes, passing_task, tasks_by_pairs}
use Rattle.morsel_ports.specs.Joining.{MayJoin}

-- where something is left on one side, something is left on the other
pub other_left : {X Y : Type 0} (may : X → Y → Type 0) (xs xs' : List X) (x : X) → xs ≡ x ∷ xs' → MayJoin may xs [] → ⊥
other_left may xs xs' x is left = subst (λ zs. MayJoin may zs []) is left

pub join_first : {X Y : Type 0} (may : X → Y → Type 0) (xs xs' : List X) (ys ys' : List Y) (x : X) (y : Y) → xs ≡ x ∷ xs' → ys ≡ y ∷ ys' → MayJoin may xs ys → may x y × MayJoin may xs' ys'
join_first may xs xs' ys ys' x y xs_is ys_is left = let first = subst (λ zs. MayJoin may zs ys) xs_is left in subst (λ zs. MayJoin may (x ∷ xs') zs) ys_is first

-- what was made for the first pairs, and what is to be made for those that are left
module _ {X Y T : Type 0} (lanes : T → TaskLanes) (from : X → LaneId) (to : Y → LaneId) (kind : PipeKind) (home : TableId) where
  abbrev made_lanes : List T → List (Option TaskLanes)
  made_lanes tasks = map (λ task. Some (lanes task)) tasks

  abbrev left_lanes : List X → List Y → List (Option TaskLanes)
  left_lanes xs ys = tasks_by_pairs kind home (map from xs) (map to ys)

  -- one task more
  pub pairs_more : (tasks tasks' : List T) (task : T) (xs xs' : List X) (ys ys' : List Y) (x : X) (y : Y) (all : List (Option TaskLanes))
      → tasks' ≡ tasks ++ task ∷ [] → xs ≡ x ∷ xs' → ys ≡ y ∷ ys' → lanes task ≡ passing_task kind home (from x) (to y)
      → made_lanes tasks ++ left_lanes xs ys ≡ all → made_lanes tasks' ++ left_lanes xs' ys' ≡ all
  pairs_more tasks tasks' task xs xs' ys ys' x y all pushed xs_are ys_are is before =
      ap (λ ts. made_lanes ts ++ left_lanes xs' ys') pushed ∙ ap (λ zs. zs ++ left_lanes xs' ys') (map_push (λ t. Some (lanes t)) tasks task) ∙ append_assoc (made_lanes tasks) (Some (lanes task) ∷ []) (left_lanes xs' ys')
      ∙ ap (λ one. made_lanes tasks ++ Some one ∷ left_lanes xs' ys') is
      ∙ ap (λ zs. made_lanes tasks ++ left_lanes zs (y ∷ ys')) (sym xs_are) ∙ ap (λ zs. made_lanes tasks ++ left_lanes xs zs) (sym ys_are) ∙ before

  -- nothing is left
  pub pairs_end : (tasks : List T) (xs : List X) (ys : List Y) (all : List (Option TaskLanes)) → xs ≡ [] → made_lanes tasks ++ left_lanes xs ys ≡ all → made_lanes tasks ≡ all
  pairs_end tasks xs ys all none before = sym (append-nil (made_lanes tasks)) ∙ ap (λ zs. made_lanes tasks ++ left_lanes zs ys) (sym none) ∙ before

-- what is true of an answer for a reason
pub if_ok-on : {A E : Type 0} (P R : A → Type 0) (answer : Result A E) → IfOk answer P → ((x : A) → P x → R x) → IfOk answer R
if_ok-on P R (Ok x) p on = on x p
if_ok-on P R (Err e) p on = tt

-- one task more is gathered
pub gather_more : {A B X : Type 0} (f : A → X) (h : B → X) (tasks tasks' : List A) (a : A) (bs bs' : List B) (b : B) (all : List X) → bs ≡ b ∷ bs' → tasks' ≡ tasks ++ a ∷ [] → f a ≡ h b → map f tasks ++ map h bs ≡ all → map f tasks' ++ map h bs' ≡ all
gather_more f h tasks tasks' a bs bs' b all bs_are pushed same before =
    ap (λ ts. map f ts ++ map h bs') pushed ∙ ap (λ z. z ++ map h bs') (map_push f tasks a) ∙ append_assoc (map f tasks) (f a ∷ []) (map h bs') ∙ ap (λ x. map f tasks ++ x ∷ map h bs') same ∙ ap (λ zs. map f tasks ++ map h zs) (sym bs_are) ∙ before

-- nothing is left to be gathered
pub gather_end : {A B X : Type 0} (f : A → X) (h : B → X) (tasks : List A) (bs : List B) (all : List X) → bs ≡ [] → map f tasks ++ map h bs ≡ all → map f tasks ≡ all
gather_end f h tasks bs all none before = sym (append-nil (map f tasks)) ∙ ap (λ zs. map f tasks ++ map h zs) (sym none) ∙ before
