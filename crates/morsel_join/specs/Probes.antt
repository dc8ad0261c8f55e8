-- What is put of rows that are looked up: a left and a right row number for each item.
use Rattle.std.specs.Prelude.{◌≡◌, ◌++◌, ℕ, Bool, false, not, List, [], ◌∷◌, map, get_or}
use Rattle.morsel_join.specs.Items.{JoinItem, LoneRight, places, or_lone, left_items}
use Rattle.morsel_join.specs.Chains.{Chain, same_number, left_mark, right_mark}

-- the marks of items were put last
pub record PutsItems (items : List JoinItem) (lefts rights new_lefts new_rights : List ℕ) : Type 0 where
  pub left_side : new_lefts ≡ lefts ++ map left_mark items
  pub right_side : new_rights ≡ rights ++ map right_mark items

-- a row was put with each row of a chain
abbrev pub PutsChain : List ℕ → ℕ → ℕ → List ℕ → List ℕ → List ℕ → List ℕ → Type 0
PutsChain next head row lefts rights new_lefts new_rights = (js : List ℕ) → Chain next head js → (new_lefts ≡ lefts ++ map (λ (j : ℕ). row) js) × (new_rights ≡ rights ++ js)

-- the items of a row were put, by the rows of a chain
abbrev pub PutsRow : List ℕ → ℕ → Bool → ℕ → List ℕ → List ℕ → List ℕ → List ℕ → Type 0
PutsRow next head wanted row lefts rights new_lefts new_rights = (js : List ℕ) → Chain next head js → PutsItems (or_lone wanted row js) lefts rights new_lefts new_rights

-- the items of rows were put, by the numbers of keys
abbrev pub PutsLookedUp : ℕ → List ℕ → List ℕ → Bool → List ℕ → List ℕ → List ℕ → List ℕ → Type 0
PutsLookedUp keys build numbers wanted lefts rights new_lefts new_rights = PutsItems (left_items (same_number keys) wanted 0 numbers build) lefts rights new_lefts new_rights

-- rows were put whose keys are not marked, from one place on
abbrev pub PutsLone : List Bool → ℕ → List ℕ → List ℕ → List ℕ → List ℕ → List ℕ → Type 0
PutsLone seen at numbers lefts rights new_lefts new_rights = PutsItems (map LoneRight (places (λ m. not (get_or seen m false)) at numbers)) lefts rights new_lefts new_rights

-- a row was put if its key is not marked
abbrev pub PutsLoneRow : List Bool → ℕ → ℕ → List ℕ → List ℕ → List ℕ → List ℕ → Type 0
PutsLoneRow seen number row lefts rights new_lefts new_rights = PutsLone seen row (number ∷ []) lefts rights new_lefts new_rights
