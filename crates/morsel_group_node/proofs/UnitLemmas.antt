-- Which lanes the units of a group-by have.
use Rattle.std.proofs.Common.{◌≡◌, ◌<◌, ◌≤◌, ◌==◌, ◌++◌, if◌then◌else◌, ℕ, zero, suc, false, List, [], ◌∷◌, map, length, Some, None, refl, sym, ap, subst, ◌∙◌, arith}
use Rattle.std.specs.List.{slice_get}
use Rattle.std.specs.Prelude.{Vec}
use Rattle.std.specs.declared.alloc.Global.{Global}
use Rattle.std.proofs.lemmas.Bool.Decides.{nat_tests}
use Rattle.atomic_table.specs.Seated.{TableId}
use Rattle.morsel_prims.specs.Polled.{LaneId, held_list}
use Rattle.morsel_ports.specs.declared.node.Ends.TheVariants.{Absent, Parallel, Serial}
use Rattle.morsel_ports.specs.Joining.{MayJoin}
use Rattle.morsel_ports.specs.Nodes.{AreUnitsBetween, UnitSeen, unit_between, unit_ends}
use Rattle.morsel_group_node.proofs.EndLemmas.{as_many}

some_within : {E : Type 0} (ends : List E) (i : ℕ) → i < length ends → held_list (slice_get ends i) ++ [] ≡ [] → ⊥
some_within [] i within none = omega (arith, within)
some_within (end ∷ ends) zero within none = cc
some_within (end ∷ ends) (suc i) within none = some_within ends i (omega (arith, within)) none

none_past : {E : Type 0} (ends : List E) (i : ℕ) → length ends ≤ i → held_list (slice_get ends i) ++ [] ≡ []
none_past [] i past = refl
none_past (end ∷ ends) zero past = absurd (omega (arith, past))
none_past (end ∷ ends) (suc i) past = none_past ends i (omega (arith, past))

-- an end that is alone is the first unit's
none_later : {E : Type 0} (i : ℕ) → 1 ≤ i → (end : E) → unit_ends i (Serial end ∷ []) ≡ []
none_later i past end = let other : (i == 0) ≡ false = grind (arith, nat_tests) in ap (λ first. (if first then end ∷ [] else []) ++ []) other

-- which lanes the unit of each place has
module _ {U R S : Type 0} (seen : U → UnitSeen) (taken_lane : R → LaneId) (sent_lane : S → LaneId) (table : TableId) where
  abbrev pub HasTakenLane : R → U → Type 0
  HasTakenLane r u = seen u ≡ record { home = table; from = taken_lane r ∷ []; to = [] }

  each_taken : (rs : List R) (us : List U) → MayJoin HasTakenLane rs us → (i : ℕ) (u : U) → slice_get us i ≡ Some u → seen u ≡ record { home = table; from = map taken_lane (held_list (slice_get rs i) ++ []); to = [] }
  each_taken [] [] are i u is = absurd (let none : None ≡ Some u = is in cc)
  each_taken [] (v ∷ us) are i u is = absurd are
  each_taken (r ∷ rs) [] are i u is = absurd are
  each_taken (r ∷ rs) (v ∷ us) are zero u is = let same : v ≡ u = cc in ap seen (sym same) ∙ are.0
  each_taken (r ∷ rs) (v ∷ us) are (suc i) u is = each_taken rs us are.1 i u is

  -- behind the ends of the receiving port
  pub taken_between : (from : Vec R Global) (us : List U) → MayJoin HasTakenLane from.items us → AreUnitsBetween {U = U} {R = R} {S = S} seen (unit_between {R = R} {S = S} taken_lane sent_lane table (Parallel from ∷ []) (Absent ∷ [])) (Parallel from ∷ []) (Absent ∷ []) us
  taken_between from us are = let many = as_many HasTakenLane from.items us are in record {
    each = λ i u is. each_taken from.items us are i u is;
    some = λ i within none none_to. some_within from.items i (omega (arith, within, many)) none;
    no_more = λ i past. (none_past from.items i (omega (arith, past, many)), refl);
  }

  given_first : (to : S) (unit : U) → seen unit ≡ record { home = table; from = []; to = sent_lane to ∷ [] } → (i : ℕ) (u : U) → slice_get (unit ∷ []) i ≡ Some u → seen u ≡ unit_between {R = R} {S = S} taken_lane sent_lane table (Absent ∷ []) (Serial to ∷ []) i
  given_first to unit is zero u got = let same : unit ≡ u = cc in ap seen (sym same) ∙ is
  given_first to unit is (suc i) u got = absurd (cc)

  given_some : (to : S) (i : ℕ) → i < 1 → unit_ends {E = R} i (Absent ∷ []) ≡ [] → unit_ends i (Serial to ∷ []) ≡ [] → ⊥
  given_some to zero within none none_to = cc
  given_some to (suc i) within none none_to = absurd (omega (arith, within))

  given_no_more : (to : S) (i : ℕ) → 1 ≤ i → (unit_ends {E = R} i (Absent ∷ []) ≡ []) × (unit_ends i (Serial to ∷ []) ≡ [])
  given_no_more to zero past = absurd (omega (arith, past))
  given_no_more to (suc i) past = (refl, none_later (suc i) past to)

  -- before the end of the sending port
  pub given_between : (to : S) (us : List U) → MayJoin (λ (s : S) (u : U). seen u ≡ record { home = table; from = []; to = sent_lane s ∷ [] }) (to ∷ []) us → AreUnitsBetween {U = U} {R = R} {S = S} seen (unit_between {R = R} {S = S} taken_lane sent_lane table (Absent ∷ []) (Serial to ∷ [])) (Absent ∷ []) (Serial to ∷ []) us
  given_between to [] are = absurd are
  given_between to (u ∷ []) are = record { each = given_first to u are.0; some = given_some to; no_more = given_no_more to }
  given_between to (u ∷ v ∷ us) are = absurd are.1

  -- between no ends
  pub none_between : AreUnitsBetween {U = U} {R = R} {S = S} seen (unit_between {R = R} {S = S} taken_lane sent_lane table (Absent ∷ []) (Absent ∷ [])) (Absent ∷ []) (Absent ∷ []) []
  none_between = record {
    each = λ i u is. absurd (let none : None ≡ Some u = is in cc);
    some = λ i within none none_to. omega (arith, within);
    no_more = λ i past. (refl, refl);
  }
