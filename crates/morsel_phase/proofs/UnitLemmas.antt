-- How many units stand between the ends of a node.
use Rattle.std.proofs.Common.{◌≡◌, ◌⊎◌, inl, inr, ◌<◌, ◌≤◌, ℕ, zero, suc, List, [], ◌∷◌, length, slice_get, refl, ap, sym, ◌∙◌, arith}
use Rattle.std.proofs.lemmas.Option.{slice_get_past}
use Rattle.morsel_prims.specs.Polled.{held_list}
use Rattle.morsel_ports.specs.declared.node.Ends.{Ends}
use Rattle.morsel_ports.specs.Nodes.{AreUnitsBetween, UnitSeen, unit_ends}

order : (m n : ℕ) → (m ≡ n) ⊎ (m < n) ⊎ (n < m)
order zero zero = inl refl
order zero (suc n) = inr (inl (omega arith))
order (suc m) zero = inr (inr (omega arith))
order (suc m) (suc n) = more (order m n)
  where
    more : (m ≡ n) ⊎ (m < n) ⊎ (n < m) → (suc m ≡ suc n) ⊎ (suc m < suc n) ⊎ (suc n < suc m)
    more (inl same) = inl (ap suc same)
    more (inr (inl less)) = inr (inl (omega (arith, less)))
    more (inr (inr greater)) = inr (inr (omega (arith, greater)))

-- each end is in the list
has_end : {E : Type 0} (ends : List E) (i : ℕ) → i < length ends → held_list (slice_get ends i) ≡ [] → ⊥
has_end [] i less none = absurd (omega (arith, less))
has_end (x ∷ ends) zero less none = cc
has_end (x ∷ ends) (suc i) less none = has_end ends i (omega (arith, less)) none

no_end : {E : Type 0} (ends : List E) (i : ℕ) → length ends ≤ i → held_list (slice_get ends i) ≡ []
no_end ends i past = ap held_list (slice_get_past ends i past)

-- where each unit has an end of its own, and each end is a unit's, there are as many units as ends
pub as_many_units : {U R S : Type 0} (seen : U → UnitSeen) (between : ℕ → UnitSeen) (recv recv' : List (Ends R)) (send send' : List (Ends S)) (units : List U) (froms : List R) (tos : List S)
    → recv ≡ recv' → send ≡ send' → ((i : ℕ) → unit_ends i recv' ≡ held_list (slice_get froms i)) → ((i : ℕ) → unit_ends i send' ≡ held_list (slice_get tos i)) → length tos ≡ length froms
    → AreUnitsBetween seen between recv send units → length units ≡ length froms
as_many_units seen between recv recv' send send' units froms tos recv_is send_is takes gives same it = by (order (length units) (length froms))
  where
    from_of : (i : ℕ) → unit_ends i recv ≡ held_list (slice_get froms i)
    from_of i = ap (unit_ends i) recv_is ∙ takes i

    to_of : (i : ℕ) → unit_ends i send ≡ held_list (slice_get tos i)
    to_of i = ap (unit_ends i) send_is ∙ gives i

    by : (length units ≡ length froms) ⊎ (length units < length froms) ⊎ (length froms < length units) → length units ≡ length froms
    by (inl as_many) = as_many
    by (inr (inl fewer)) = absurd (has_end froms (length units) fewer (sym (from_of (length units)) ∙ (it.no_more (length units) (omega arith)).0))
    by (inr (inr greater)) = absurd (it.some (length froms) greater (from_of (length froms) ∙ no_end froms (length froms) (omega arith)) (to_of (length froms) ∙ no_end tos (length froms) (omega (arith, same))))
