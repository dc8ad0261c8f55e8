-- What a step of a log does.
use Rattle.std.specs.Prelude.{◌≡◌, ℕ, List, [], ◌∷◌, ◌++◌}
use mathlib.Core.Option.{some}
use Rattle.atomic_table.specs.Table.{Me, Step}

-- what was said comes last
abbrev pub Appends : (X : Type 0) → Step X → Me X (List X) → ℕ → Me X (List X) → Type 0
Appends X st m n m' = (x : X) → st.said ≡ some x → m' ≡ (m.0 ++ x ∷ [], m.1)
