-- A log has no rule, so each step keeps it.
use Rattle.std.proofs.Common.{ℕ, List, [], ◌∷◌, ◌++◌, eqb, ap}
use mathlib.Core.Option.{some, some-injective}
use prog.Atomic.{either}
use Rattle.std.specs.Prelude.{⊤}
use Rattle.atomic_table.specs.Table.{Me, step, keeps, Allows}
use Rattle.morsel_merge.specs.Log.{Appends}

pub appends : {X : Type 0} (slots id : ℕ) (me : Me X (List X)) (i : ℕ) (x : X) → Allows {S = X} {V = List X} (λ state. ⊤) slots id me i (λ n. either (eqb n 0) 0 n) (Appends X (step slots i 0 0 (some x)) me)
appends slots id me i x s held _ here _ = (me.0 ++ x ∷ [], keeps, tt, tt, λ y is. ap (λ z. (me.0 ++ z ∷ [], me.1)) (some-injective x y is))
