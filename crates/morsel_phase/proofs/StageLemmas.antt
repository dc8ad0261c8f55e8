-- Whose the tasks of a phase are.
use Rattle.std.proofs.Common.{◌≡◌, Bool, true, false, ℕ, zero, suc, ◌+◌, All, List, [], ◌∷◌, ◌++◌, length, Result, Ok, Err, refl, ap, sym, subst, ◌∙◌, arith}
use Rattle.std.proofs.lemmas.List.Elements.{All-cons}
use Rattle.std.specs.Bool.{◌==◌}
use Rattle.std.specs.Prelude.{Vec}
use Rattle.morsel_meaning.specs.declared.fault.Fault.{Fault}
use Rattle.morsel_stage.specs.declared.one_of.OneOf.{OneOf}
use Rattle.morsel_stage.specs.declared.one_of.OneOf.TheVariants.{First, Second, Third}
use Rattle.morsel_lane_pipe.specs.declared.receipts.Receipts.{Receipts}
use Rattle.morsel_ports.specs.Nodes.{EndedBy, EndedCut, EndedWhole, IfEndedBy, IsGivenBack, UnitEnd}
use Rattle.morsel_stage.specs.Kinds.{ByKinds, firsts, seconds, thirds}
use Rattle.morsel_prims.specs.declared.lane.Ended.{Ended}
use Rattle.morsel_prims.specs.declared.lane.Ended.TheVariants as ended
use Rattle.morsel_phase.specs.Stages.{HasOut}
use Rattle.morsel_phase.specs.Told.{TellsUnit}
use Rattle.morsel_stage.proofs.SpawnLemmas.{firsts_more, seconds_more, thirds_more}

length_between : {X : Type 0} (xs ys : List X) (x : X) → length (xs ++ x ∷ ys) ≡ length (xs ++ ys) + 1
length_between [] ys x = omega arith
length_between (y ∷ xs) ys x = omega (arith, length_between xs ys x)

-- of all, one that stands between others
pub all_between : {X : Type 0} (P : X → Type 0) (xs ys : List X) (x : X) → All P (xs ++ x ∷ ys) → P x
all_between P [] ys x all = all zero x (omega arith)
all_between P (y ∷ xs) ys x all = all_between P xs ys x (λ k d lt. all (suc k) d (omega (arith, lt)))

-- the others
pub all_others : {X : Type 0} (P : X → Type 0) (xs ys : List X) (x : X) → All P (xs ++ x ∷ ys) → All P (xs ++ ys)
all_others P [] ys x all = λ k d lt. all (suc k) d (omega (arith, lt))
all_others P (y ∷ xs) ys x all = All-cons P y (xs ++ ys) (all zero y (omega arith)) (all_others P xs ys x (λ k d lt. all (suc k) d (omega (arith, lt))))

module _ {U : Type 0} (is_unit : U → Type 0) (unit_fails : U → Fault → Type 0) (may_fail : Fault → Type 0) where
  -- one was given back
  pub less_out : (now : U → Type 0) (out out' : ℕ) (front behind : List U) (unit : U) → out' + 1 ≡ out → ((u : U) → is_unit u → now u) → HasOut out is_unit unit_fails may_fail (front ++ unit ∷ behind) → HasOut out' now unit_fails may_fail (front ++ behind)
  less_out now out out' front behind unit less stays it = record {
    count = omega (arith, it.count, less, length_between front behind unit);
    own = λ k d lt. stays _ (all_others is_unit front behind unit it.own k d lt);
    fails = all_others (λ u. (fault : Fault) → unit_fails u fault → may_fail fault) front behind unit it.fails;
  }

-- the fault of a unit is the one that is told
pub given_fault : {R S : Type 0} (P : Fault → Type 0) (end : UnitEnd R S) (fault : Fault) → IsGivenBack end (Err fault) → IfEndedBy end P → P fault
given_fault P (EndedWhole taken sent) fault given may = absurd given
given_fault P EndedCut fault given may = absurd given
given_fault {R} {S} P (EndedBy f) fault given may = subst P (same_fault f fault given) may
  where
    fault_of : Fault → Result (Receipts R S) Fault → Fault
    fault_of other (Err x) = x
    fault_of other (Ok x) = other

    same_fault : (f fault : Fault) → IsGivenBack {R = R} {S = S} (EndedBy f) (Err fault) → f ≡ fault
    same_fault f fault e = sym (ap (fault_of f) e)

-- a unit whose receipts are none is told as cut
pub told_cut : {R S : Type 0} (end : UnitEnd R S) (receipts : Receipts R S) → IsGivenBack end (Ok receipts) → TellsUnit end (Ok ended.Cut)
told_cut (EndedWhole taken sent) receipts given = refl
told_cut EndedCut receipts given = refl
told_cut (EndedBy fault) receipts given = absurd (no_fault given)
  where
    no_fault : Ok receipts ≡ Err fault → ⊥
    no_fault e = cc

-- and as whole where it has some
pub told_whole : {R S : Type 0} (end : UnitEnd R S) (receipts : Receipts R S) → IsGivenBack end (Ok receipts) → (receipts.taken.items ≡ [] → receipts.sent.items ≡ [] → ⊥) → TellsUnit end (Ok ended.Whole)
told_whole (EndedWhole taken sent) receipts given some = refl
told_whole EndedCut receipts given some = absurd (some given.0 given.1)
told_whole (EndedBy fault) receipts given some = absurd (no_fault given)
  where
    no_fault : Ok receipts ≡ Err fault → ⊥
    no_fault e = cc

-- a list of which it was told that it is not empty has an item
pub not_empty : {X A : Type 0} (v : Vec X A) (empty : Bool) → empty ≡ (v.len == 0) → empty ≡ false → v.items ≡ [] → ⊥
not_empty {X} v empty is not none = true_is_false (ap (λ n. n == 0) (sym (v.ok.0 ∙ ap (λ (xs : List X). length xs) none)) ∙ sym is ∙ not)
  where
    true_is_false : true ≡ false → ⊥
    true_is_false e = cc

-- its fault is told
pub told_fault : {R S : Type 0} (end : UnitEnd R S) (fault : Fault) → IsGivenBack end (Err fault) → TellsUnit end (Err fault)
told_fault (EndedWhole taken sent) fault given = absurd given
told_fault EndedCut fault given = absurd given
told_fault (EndedBy other) fault given = given_fault (λ (f : Fault). ◌≡◌ {A = Result Ended Fault} (Err f) (Err other)) (EndedBy other) fault given refl

-- of a task whose output is of one kind, and of what its stage owes before and after it was given back
module _ {A M Z X Y W : Type 0} (GA : A → X → Type 0) (GM : M → Y → Type 0) (GZ : Z → W → Type 0) where
  pub first_owed : (P : List A → Type 0) (before after : List (OneOf A M Z)) (task : OneOf A M Z) (o : OneOf X Y W) (out : X) → o ≡ First out → P (firsts (before ++ task ∷ after)) → ByKinds task o GA GM GZ
      → (front : List A) × (behind : List A) × (unit : A) × P (front ++ unit ∷ behind) × GA unit out
  first_owed P before after task o out is owed gave = by task owed (subst (λ (x : OneOf X Y W). ByKinds task x GA GM GZ) is gave)
    where
      by : (task : OneOf A M Z) → P (firsts (before ++ task ∷ after)) → ByKinds task (First out) GA GM GZ → (front : List A) × (behind : List A) × (unit : A) × P (front ++ unit ∷ behind) × GA unit out
      by (First unit) owed gave = (firsts before, firsts after, unit, subst P (firsts_more before (First unit ∷ after)) owed, gave)
      by (Second unit) owed gave = absurd gave
      by (Third unit) owed gave = absurd gave

  pub second_owed : (P : List M → Type 0) (before after : List (OneOf A M Z)) (task : OneOf A M Z) (o : OneOf X Y W) (out : Y) → o ≡ Second out → P (seconds (before ++ task ∷ after)) → ByKinds task o GA GM GZ
      → (front : List M) × (behind : List M) × (unit : M) × P (front ++ unit ∷ behind) × GM unit out
  second_owed P before after task o out is owed gave = by task owed (subst (λ (x : OneOf X Y W). ByKinds task x GA GM GZ) is gave)
    where
      by : (task : OneOf A M Z) → P (seconds (before ++ task ∷ after)) → ByKinds task (Second out) GA GM GZ → (front : List M) × (behind : List M) × (unit : M) × P (front ++ unit ∷ behind) × GM unit out
      by (First unit) owed gave = absurd gave
      by (Second unit) owed gave = (seconds before, seconds after, unit, subst P (seconds_more before (Second unit ∷ after)) owed, gave)
      by (Third unit) owed gave = absurd gave

  pub first_back : (P : List A → Type 0) (Q : List M → Type 0) (R : List Z → Type 0) (P' : List A → Type 0) (before after : List (OneOf A M Z)) (task : OneOf A M Z) (o : OneOf X Y W) (out : X) → o ≡ First out → P (firsts (before ++ task ∷ after)) → Q (seconds (before ++ task ∷ after)) → R (thirds (before ++ task ∷ after)) → ByKinds task o GA GM GZ
      → ((front behind : List A) (unit : A) → P (front ++ unit ∷ behind) → GA unit out → P' (front ++ behind)) → P' (firsts (before ++ after)) × Q (seconds (before ++ after)) × R (thirds (before ++ after))
  first_back P Q R P' before after task o out is first second third gave back = by task first second third (subst (λ (x : OneOf X Y W). ByKinds task x GA GM GZ) is gave)
    where
      by : (task : OneOf A M Z) → P (firsts (before ++ task ∷ after)) → Q (seconds (before ++ task ∷ after)) → R (thirds (before ++ task ∷ after)) → ByKinds task (First out) GA GM GZ → P' (firsts (before ++ after)) × Q (seconds (before ++ after)) × R (thirds (before ++ after))
      by (First unit) first second third gave = (
        subst P' (sym (firsts_more before after)) (back (firsts before) (firsts after) unit (subst P (firsts_more before (First unit ∷ after)) first) gave),
        subst Q (seconds_more before (First unit ∷ after) ∙ sym (seconds_more before after)) second,
        subst R (thirds_more before (First unit ∷ after) ∙ sym (thirds_more before after)) third,
      )
      by (Second unit) first second third gave = absurd gave
      by (Third unit) first second third gave = absurd gave

  pub second_back : (P : List A → Type 0) (Q : List M → Type 0) (R : List Z → Type 0) (P' : List M → Type 0) (before after : List (OneOf A M Z)) (task : OneOf A M Z) (o : OneOf X Y W) (out : Y) → o ≡ Second out → P (firsts (before ++ task ∷ after)) → Q (seconds (before ++ task ∷ after)) → R (thirds (before ++ task ∷ after)) → ByKinds task o GA GM GZ
      → ((front behind : List M) (unit : M) → Q (front ++ unit ∷ behind) → GM unit out → P' (front ++ behind)) → P (firsts (before ++ after)) × P' (seconds (before ++ after)) × R (thirds (before ++ after))
  second_back P Q R P' before after task o out is first second third gave back = by task first second third (subst (λ (x : OneOf X Y W). ByKinds task x GA GM GZ) is gave)
    where
      by : (task : OneOf A M Z) → P (firsts (before ++ task ∷ after)) → Q (seconds (before ++ task ∷ after)) → R (thirds (before ++ task ∷ after)) → ByKinds task (Second out) GA GM GZ → P (firsts (before ++ after)) × P' (seconds (before ++ after)) × R (thirds (before ++ after))
      by (First unit) first second third gave = absurd gave
      by (Second unit) first second third gave = (
        subst P (firsts_more before (Second unit ∷ after) ∙ sym (firsts_more before after)) first,
        subst P' (sym (seconds_more before after)) (back (seconds before) (seconds after) unit (subst Q (seconds_more before (Second unit ∷ after)) second) gave),
        subst R (thirds_more before (Second unit ∷ after) ∙ sym (thirds_more before after)) third,
      )
      by (Third unit) first second third gave = absurd gave

  pub third_back : (P : List A → Type 0) (Q : List M → Type 0) (R : List Z → Type 0) (P' : List Z → Type 0) (before after : List (OneOf A M Z)) (task : OneOf A M Z) (o : OneOf X Y W) (out : W) → o ≡ Third out → P (firsts (before ++ task ∷ after)) → Q (seconds (before ++ task ∷ after)) → R (thirds (before ++ task ∷ after)) → ByKinds task o GA GM GZ
      → ((front behind : List Z) (unit : Z) → R (front ++ unit ∷ behind) → GZ unit out → P' (front ++ behind)) → P (firsts (before ++ after)) × Q (seconds (before ++ after)) × P' (thirds (before ++ after))
  third_back P Q R P' before after task o out is first second third gave back = by task first second third (subst (λ (x : OneOf X Y W). ByKinds task x GA GM GZ) is gave)
    where
      by : (task : OneOf A M Z) → P (firsts (before ++ task ∷ after)) → Q (seconds (before ++ task ∷ after)) → R (thirds (before ++ task ∷ after)) → ByKinds task (Third out) GA GM GZ → P (firsts (before ++ after)) × Q (seconds (before ++ after)) × P' (thirds (before ++ after))
      by (First unit) first second third gave = absurd gave
      by (Second unit) first second third gave = absurd gave
      by (Third unit) first second third gave = (
        subst P (firsts_more before (Third unit ∷ after) ∙ sym (firsts_more before after)) first,
        subst Q (seconds_more before (Third unit ∷ after) ∙ sym (seconds_more before after)) second,
        subst P' (sym (thirds_more before after)) (back (thirds before) (thirds after) unit (subst R (thirds_more before (Third unit ∷ after)) third) gave),
      )

  -- a task of the third kind has ended by a fault, and none of them does
  pub third_fault : (P : Z → Type 0) (before after : List (OneOf A M Z)) (task : OneOf A M Z) (o : OneOf X Y W) (out : W) → o ≡ Third out → All P (thirds (before ++ task ∷ after)) → ByKinds task o GA GM GZ → ((unit : Z) → P unit → GZ unit out → ⊥) → ⊥
  third_fault P before after task o out is all gave never = by task all (subst (λ (x : OneOf X Y W). ByKinds task x GA GM GZ) is gave)
    where
      by : (task : OneOf A M Z) → All P (thirds (before ++ task ∷ after)) → ByKinds task (Third out) GA GM GZ → ⊥
      by (First unit) all gave = gave
      by (Second unit) all gave = gave
      by (Third unit) all gave = never unit (all_between P (thirds before) (thirds after) unit (subst (All P) (thirds_more before (Third unit ∷ after)) all)) gave

-- all of two lists
pub all_both : {X : Type 0} (P : X → Type 0) (xs ys : List X) → All P xs → All P ys → All P (xs ++ ys)
all_both P [] ys all more = more
all_both P (x ∷ xs) ys all more = All-cons P x (xs ++ ys) (all zero x (omega arith)) (all_both P xs ys (λ k d lt. all (suc k) d (omega (arith, lt))) more)
