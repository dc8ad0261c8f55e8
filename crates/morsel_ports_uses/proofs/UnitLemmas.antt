-- The one unit of a node of one receiving and one sending end.
use Rattle.std.proofs.Common.{◌≡◌, ℕ, List, [], ◌∷◌, refl, arith}
use Rattle.morsel_ports.specs.declared.node.Ends.TheVariants.{Serial}
use Rattle.morsel_ports.specs.Nodes.{AreUnitsBetween, UnitSeen}

-- there is one, and it has both ends
pub one_unit : {U R S : Type 0} (seen : U → UnitSeen) (between : ℕ → UnitSeen) (from : R) (to : S) (units : List U) → AreUnitsBetween seen between (Serial from ∷ []) (Serial to ∷ []) units → (unit : U) × (units ≡ unit ∷ []) × (seen unit ≡ between 0)
one_unit seen between from to [] all = let none = (all.no_more 0 (omega arith)).0 in absurd (cc)
one_unit seen between from to (unit ∷ []) all = (unit, refl, all.each 0 unit refl)
one_unit seen between from to (unit ∷ other ∷ units) all = absurd (all.some 1 (omega arith) refl refl)
