-- Truths row by row: two lists that functions of the rows give, joined or compared.
use Rattle.std.proofs.Common.{◌≡◌, List, [], ◌∷◌, map, refl, ap}
use Rattle.std.specs.List.{zip}
use Rattle.morsel_meaning.specs.declared.value.Value.{Value}
use Rattle.morsel_expr.specs.declared.node.CmpOp.{CmpOp}
use Rattle.morsel_expr.specs.Predicates.{compared, compared_pairs}

-- two functions of each row, side by side
pub map-zip : {R X Y Z : Type 0} (f : X → Y → Z) (g : R → X) (h : R → Y) (rows : List R) → map (λ (pair : X × Y). f pair.0 pair.1) (zip (map g rows) (map h rows)) ≡ map (λ row. f (g row) (h row)) rows
map-zip f g h [] = refl
map-zip f g h (row ∷ rows) = ap (λ zs. f (g row) (h row) ∷ zs) (map-zip f g h rows)

-- two columns of the same rows, compared
pub compared_pairs-map : {R : Type 0} (op : CmpOp) (g h : R → Value) (rows : List R) → compared_pairs op (map g rows) (map h rows) ≡ map (λ row. compared op (g row) (h row)) rows
compared_pairs-map op g h [] = refl
compared_pairs-map op g h (row ∷ rows) = ap (λ zs. compared op (g row) (h row) ∷ zs) (compared_pairs-map op g h rows)
