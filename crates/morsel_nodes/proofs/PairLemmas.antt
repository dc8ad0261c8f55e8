-- Pairs of ends, and the units that are made between them.
use Rattle.std.proofs.Common.{◌≡◌, List, [], ◌∷◌, ◌++◌, All, map, length, refl, sym, ap, subst, ◌∙◌, append_assoc, append-nil, arith}
use Rattle.std.proofs.lemmas.List.{map_push}
use Rattle.std.proofs.lemmas.List.Elements.{All-head, All-tail}
use Rattle.atomic_table.specs.Seated.{TableId}
use Rattle.morsel_prims.specs.Polled.{LaneId}
use Rattle.morsel_ports.specs.Nodes.{UnitSeen}
use Rattle.morsel_ports.specs.Joining.{MayJoin}
use Rattle.morsel_nodes.specs.MakerNodes.{lanes_of_pairs}

-- where something is left on one side, something is left on the other
pub other_left : {X Y : Type 0} (P : X → Y → Type 0) (xs xs' : List X) (x : X) → xs ≡ x ∷ xs' → MayJoin P xs [] → ⊥
other_left P xs xs' x is left = subst (λ zs. MayJoin P zs []) is left

pub pair_first : {X Y : Type 0} (P : X → Y → Type 0) (xs xs' : List X) (ys ys' : List Y) (x : X) (y : Y) → xs ≡ x ∷ xs' → ys ≡ y ∷ ys' → MayJoin P xs ys → P x y × MayJoin P xs' ys'
pair_first P xs xs' ys ys' x y xs_is ys_is left = let first = subst (λ zs. MayJoin P zs ys) xs_is left in subst (λ zs. MayJoin P (x ∷ xs') zs) ys_is first

-- what is so of all is so of those behind the first ones
pub all_rest : {X : Type 0} (P : X → Type 0) (before xs all : List X) → before ++ xs ≡ all → All P all → All P xs
all_rest P [] xs all is h = subst (All P) (sym is) h
all_rest P (b ∷ before) xs all is h = all_rest P before xs (before ++ xs) refl (All-tail P b (before ++ xs) (subst (All P) (sym is) h))

pub all_first : {X : Type 0} (P : X → Type 0) (before xs xs' all : List X) (x : X) → before ++ xs ≡ all → xs ≡ x ∷ xs' → All P all → P x
all_first P before xs xs' all x is first h = All-head P x xs' (subst (All P) first (all_rest P before xs all is h))

-- one more is behind
pub part_more : {X : Type 0} (before xs xs' all : List X) (x : X) → before ++ xs ≡ all → xs ≡ x ∷ xs' → (before ++ x ∷ []) ++ xs' ≡ all
part_more before xs xs' all x is first = append_assoc before (x ∷ []) xs' ∙ ap (λ zs. before ++ zs) (sym first) ∙ is

-- what is so of each of two lists of one length is so of each pair
pub pairs_of : {X Y : Type 0} (P : X → Type 0) (Q : Y → Type 0) (R : X → Y → Type 0) → ((x : X) (y : Y) → P x → Q y → R x y) → (xs : List X) (ys : List Y) → length xs ≡ length ys → All P xs → All Q ys → MayJoin R xs ys
pairs_of P Q R both [] [] same p q = tt
pairs_of P Q R both [] (y ∷ ys) same p q = absurd (omega (arith, same))
pairs_of P Q R both (x ∷ xs) [] same p q = absurd (omega (arith, same))
pairs_of P Q R both (x ∷ xs) (y ∷ ys) same p q = (both x y (All-head P x xs p) (All-head Q y ys q), pairs_of P Q R both xs ys (omega (arith, same)) (All-tail P x xs p) (All-tail Q y ys q))

-- what was made for the first pairs, and what is to be made for those that are left
module _ {X Y U : Type 0} (seen : U → UnitSeen) (from : X → LaneId) (to : Y → LaneId) (table : TableId) where
  -- one unit more
  pub units_more : (units units' : List U) (unit : U) (xs xs' : List X) (ys ys' : List Y) (x : X) (y : Y) (all : List UnitSeen)
      → units' ≡ units ++ unit ∷ [] → xs ≡ x ∷ xs' → ys ≡ y ∷ ys' → seen unit ≡ record { home = table; from = from x ∷ []; to = to y ∷ [] }
      → map seen units ++ lanes_of_pairs table (map from xs) (map to ys) ≡ all → map seen units' ++ lanes_of_pairs table (map from xs') (map to ys') ≡ all
  units_more units units' unit xs xs' ys ys' x y all pushed xs_are ys_are is before =
      ap (λ us. map seen us ++ lanes_of_pairs table (map from xs') (map to ys')) pushed ∙ ap (λ zs. zs ++ lanes_of_pairs table (map from xs') (map to ys')) (map_push seen units unit)
      ∙ append_assoc (map seen units) (seen unit ∷ []) (lanes_of_pairs table (map from xs') (map to ys'))
      ∙ ap (λ one. map seen units ++ one ∷ lanes_of_pairs table (map from xs') (map to ys')) is
      ∙ ap (λ zs. map seen units ++ lanes_of_pairs table (map from zs) (map to (y ∷ ys'))) (sym xs_are) ∙ ap (λ zs. map seen units ++ lanes_of_pairs table (map from xs) (map to zs)) (sym ys_are) ∙ before

  -- nothing is left
  pub units_end : (units : List U) (xs : List X) (ys : List Y) (all : List UnitSeen) → xs ≡ [] → map seen units ++ lanes_of_pairs table (map from xs) (map to ys) ≡ all → map seen units ≡ all
  units_end units xs ys all none before = sym (append-nil (map seen units)) ∙ ap (λ zs. map seen units ++ lanes_of_pairs table (map from zs) (map to ys)) (sym none) ∙ before
