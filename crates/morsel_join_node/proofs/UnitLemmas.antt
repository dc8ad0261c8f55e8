-- Which lanes the units of a join have.
use Rattle.std.proofs.Common.{◌≡◌, ◌<◌, ◌≤◌, ◌==◌, ◌++◌, if◌then◌else◌, ℕ, zero, suc, false, List, [], ◌∷◌, map, length, Some, None, refl, sym, ap, subst, ◌∙◌, arith}
use Rattle.std.specs.List.{All, slice_get}
use Rattle.std.specs.Arc.{arc_value}
use Rattle.std.specs.Prelude.{Vec}
use Rattle.std.specs.declared.alloc.Global.{Global}
use Rattle.std.proofs.lemmas.Bool.Decides.{nat_tests}
use Rattle.std.proofs.lemmas.List.{length-map}
use Rattle.std.proofs.lemmas.List.Elements.{All-nil}
use Rattle.atomic_table.specs.Seated.{TableId}
use Rattle.morsel_prims.specs.Polled.{LaneId, held_list}
use Rattle.morsel_ports.specs.declared.node.Ends.TheVariants.{Absent, Parallel, Serial}
use Rattle.morsel_ports.specs.Joining.{MayJoin}
use Rattle.morsel_ports.specs.Nodes.{AreUnitsBetween, UnitSeen, unit_between, unit_ends}
use Rattle.morsel_load.specs.Loads.{LoadSeen}
use Rattle.morsel_join.specs.declared.build_side.Build.{Build}
use Rattle.morsel_join.specs.Hits.{HaveHit}
use Rattle.morsel_join_units.specs.LookedUps.{AreLookedUpOf}
use Rattle.morsel_join_units.specs.ProbeMakers.{AreToGive, DidProbe}
use Rattle.morsel_join_units.specs.declared.looked_up.LookedUp.{LookedUp}
use Rattle.morsel_join_units.specs.declared.probe_maker.ProbeMaker.{ProbeMaker}
use Rattle.morsel_join_node.proofs.EndLemmas.{as_many}

-- a new maker has looked nothing up
pub did_none : (maker : ProbeMaker) (build : Build) → arc_value maker.build ≡ build → maker.probed ≡ None → HaveHit build maker.hits.seen.items [] → DidProbe maker [] []
did_none maker build same none hit = record {
  hits = subst (λ (b : Build). HaveHit b maker.hits.seen.items []) (sym same) hit;
  rest = [];
  left = subst (λ p. AreToGive (arc_value maker.build) p []) (sym none) refl;
  all = refl;
}

pub looked_none : {J : Type 0} (suits : J → LoadSeen → Type 0) (job : J) (looked : List LookedUp) → looked ≡ [] → All (AreLookedUpOf suits job) looked
looked_none suits job looked none = subst (All (AreLookedUpOf suits job)) (sym none) (All-nil (AreLookedUpOf suits job))

some_within : {E : Type 0} (ends : List E) (i : ℕ) → i < length ends → held_list (slice_get ends i) ++ [] ≡ [] → ⊥
some_within [] i within none = omega (arith, within)
some_within (end ∷ ends) zero within none = cc
some_within (end ∷ ends) (suc i) within none = some_within ends i (omega (arith, within)) none

none_past : {E : Type 0} (ends : List E) (i : ℕ) → length ends ≤ i → held_list (slice_get ends i) ++ [] ≡ []
none_past [] i past = refl
none_past (end ∷ ends) zero past = absurd (omega (arith, past))
none_past (end ∷ ends) (suc i) past = none_past ends i (omega (arith, past))

-- an end that is alone is the first unit's
none_later : {E : Type 0} (i : ℕ) → 1 ≤ i → (end : E) → unit_ends i (Serial end ∷ []) ≡ []
none_later i past end = let other : (i == 0) ≡ false = grind (arith, nat_tests) in ap (λ first. (if first then end ∷ [] else []) ++ []) other

-- which lanes the unit of each place has
module _ {U R S : Type 0} (seen : U → UnitSeen) (taken_lane : R → LaneId) (sent_lane : S → LaneId) (table : TableId) where
  abbrev pub HasTaken : R → U → Type 0
  HasTaken r u = seen u ≡ record { home = table; from = taken_lane r ∷ []; to = [] }

  abbrev pub HasBoth : R × S → U → Type 0
  HasBoth pair u = seen u ≡ record { home = table; from = taken_lane pair.0 ∷ []; to = sent_lane pair.1 ∷ [] }

  each_taken : (rs : List R) (us : List U) → MayJoin HasTaken rs us → (i : ℕ) (u : U) → slice_get us i ≡ Some u → seen u ≡ record { home = table; from = map taken_lane (held_list (slice_get rs i) ++ []); to = [] }
  each_taken [] [] are i u is = absurd (let none : None ≡ Some u = is in cc)
  each_taken [] (v ∷ us) are i u is = absurd are
  each_taken (r ∷ rs) [] are i u is = absurd are
  each_taken (r ∷ rs) (v ∷ us) are zero u is = let same : v ≡ u = cc in ap seen (sym same) ∙ are.0
  each_taken (r ∷ rs) (v ∷ us) are (suc i) u is = each_taken rs us are.1 i u is

  each_both : (ps : List (R × S)) (us : List U) → MayJoin HasBoth ps us → (i : ℕ) (u : U) → slice_get us i ≡ Some u
      → seen u ≡ record { home = table; from = map taken_lane (held_list (slice_get (map (λ p. p.0) ps) i) ++ []); to = map sent_lane (held_list (slice_get (map (λ p. p.1) ps) i) ++ []) }
  each_both [] [] are i u is = absurd (let none : None ≡ Some u = is in cc)
  each_both [] (v ∷ us) are i u is = absurd are
  each_both (p ∷ ps) [] are i u is = absurd are
  each_both (p ∷ ps) (v ∷ us) are zero u is = let same : v ≡ u = cc in ap seen (sym same) ∙ are.0
  each_both (p ∷ ps) (v ∷ us) are (suc i) u is = each_both ps us are.1 i u is

  -- behind the ends of the first receiving port
  pub kept_between : (from : Vec R Global) (us : List U) → MayJoin HasTaken from.items us → AreUnitsBetween {U = U} {R = R} {S = S} seen (unit_between {R = R} {S = S} taken_lane sent_lane table (Parallel from ∷ Absent ∷ []) (Absent ∷ [])) (Parallel from ∷ Absent ∷ []) (Absent ∷ []) us
  kept_between from us are = let many = as_many HasTaken from.items us are in record {
    each = λ i u is. each_taken from.items us are i u is;
    some = λ i within none none_to. some_within from.items i (omega (arith, within, many)) none;
    no_more = λ i past. (none_past from.items i (omega (arith, past, many)), refl);
  }

  -- between the ends of the second receiving port and those of the sending one
  pub asked_between : (from : Vec R Global) (to : Vec S Global) (ps : List (R × S)) (us : List U) → map (λ p. p.0) ps ≡ from.items → map (λ p. p.1) ps ≡ to.items → MayJoin HasBoth ps us
      → AreUnitsBetween {U = U} {R = R} {S = S} seen (unit_between {R = R} {S = S} taken_lane sent_lane table (Absent ∷ Parallel from ∷ []) (Parallel to ∷ [])) (Absent ∷ Parallel from ∷ []) (Parallel to ∷ []) us
  asked_between from to ps us firsts seconds are =
      let many = as_many HasBoth ps us are in
      let of_from : length us ≡ length from.items = many ∙ sym (length-map ps (λ p. p.0)) ∙ ap length firsts in
      let of_to : length us ≡ length to.items = many ∙ sym (length-map ps (λ p. p.1)) ∙ ap length seconds in record {
        each = λ i u is.
            subst (λ ss. seen u ≡ record { home = table; from = map taken_lane (held_list (slice_get from.items i) ++ []); to = map sent_lane (held_list (slice_get ss i) ++ []) }) seconds
            (subst (λ rs. seen u ≡ record { home = table; from = map taken_lane (held_list (slice_get rs i) ++ []); to = map sent_lane (held_list (slice_get (map (λ p. p.1) ps) i) ++ []) }) firsts (each_both ps us are i u is));
        some = λ i within none none_to. some_within from.items i (omega (arith, within, of_from)) none;
        no_more = λ i past. (none_past from.items i (omega (arith, past, of_from)), none_past to.items i (omega (arith, past, of_to)));
      }

  given_first : (to : S) (unit : U) → seen unit ≡ record { home = table; from = []; to = sent_lane to ∷ [] } → (i : ℕ) (u : U) → slice_get (unit ∷ []) i ≡ Some u → seen u ≡ unit_between {R = R} {S = S} taken_lane sent_lane table (Absent ∷ Absent ∷ []) (Serial to ∷ []) i
  given_first to unit is zero u got = let same : unit ≡ u = cc in ap seen (sym same) ∙ is
  given_first to unit is (suc i) u got = absurd (cc)

  given_some : (to : S) (i : ℕ) → i < 1 → unit_ends {E = R} i (Absent ∷ Absent ∷ []) ≡ [] → unit_ends i (Serial to ∷ []) ≡ [] → ⊥
  given_some to zero within none none_to = cc
  given_some to (suc i) within none none_to = absurd (omega (arith, within))

  given_no_more : (to : S) (i : ℕ) → 1 ≤ i → (unit_ends {E = R} i (Absent ∷ Absent ∷ []) ≡ []) × (unit_ends i (Serial to ∷ []) ≡ [])
  given_no_more to zero past = absurd (omega (arith, past))
  given_no_more to (suc i) past = (refl, none_later (suc i) past to)

  -- before the end of the sending port
  pub given_between : (to : S) (us : List U) → MayJoin (λ (s : S) (u : U). seen u ≡ record { home = table; from = []; to = sent_lane s ∷ [] }) (to ∷ []) us → AreUnitsBetween {U = U} {R = R} {S = S} seen (unit_between {R = R} {S = S} taken_lane sent_lane table (Absent ∷ Absent ∷ []) (Serial to ∷ [])) (Absent ∷ Absent ∷ []) (Serial to ∷ []) us
  given_between to [] are = absurd are
  given_between to (u ∷ []) are = record { each = given_first to u are.0; some = given_some to; no_more = given_no_more to }
  given_between to (u ∷ v ∷ us) are = absurd are.1

  -- between no ends
  pub none_between : AreUnitsBetween {U = U} {R = R} {S = S} seen (unit_between {R = R} {S = S} taken_lane sent_lane table (Absent ∷ Absent ∷ []) (Absent ∷ [])) (Absent ∷ Absent ∷ []) (Absent ∷ []) []
  none_between = record {
    each = λ i u is. absurd (let none : None ≡ Some u = is in cc);
    some = λ i within none none_to. omega (arith, within);
    no_more = λ i past. (refl, refl);
  }
