-- The rows that a filter keeps.
use Rattle.std.specs.Prelude.{ℕ, ◌+◌, if◌then◌else◌, List, [], ◌∷◌}
use Rattle.morsel_meaning.specs.Values.{Row}
use Rattle.morsel_expr.specs.declared.truth.Truth.{Truth}
use Rattle.morsel_expr.specs.Truths.{is_true}

-- the rows that are true, in their order
abbrev pub kept_rows : List Row → List Truth → List Row
kept_rows [] mask = []
kept_rows (row ∷ rows) [] = []
kept_rows (row ∷ rows) (t ∷ mask) = if is_true t then row ∷ kept_rows rows mask else kept_rows rows mask

-- the numbers of the rows that are true, the first row having number `first`
abbrev pub true_rows : ℕ → List Truth → List ℕ
true_rows first [] = []
true_rows first (t ∷ mask) = if is_true t then first ∷ true_rows (first + 1) mask else true_rows (first + 1) mask
