-- Rows of each key as chains: the first row of a key, and after each row the next one. A link is 1 more than the row it leads to, and 0 at the end.
use Rattle.std.specs.Prelude.{◌≡◌, ◌+◌, ◌<◌, ◌≤◌, ◌==◌, ◌⊎◌, ◌&&◌, ℕ, nat_lt, Bool, false, List, [], ◌∷◌, length, get_or, drop}
use Rattle.std.specs.List.{list_any}
use Rattle.morsel_frame.specs.Columns.{no_row}
use Rattle.morsel_join.specs.Items.{JoinItem, Both, LoneLeft, LoneRight, places}

-- the rows of a chain from a link on
abbrev pub Chain : List ℕ → ℕ → List ℕ → Type 0
Chain next head [] = head ≡ 0
Chain next head (j ∷ js) = (head ≡ j + 1) × Chain next (get_or next j 0) js

-- each link leads to a later row, or ends
abbrev pub LinksRise : List ℕ → Type 0
LinksRise next = (j : ℕ) → (get_or next j 0 ≤ length next) × ((get_or next j 0 ≡ 0) ⊎ (j + 1 < get_or next j 0))

-- from a row on, the rows of each key stand in its chain; a number past the keys is no key's
pub record AreRowChains (numbers first next : List ℕ) (row : ℕ) : Type 0 where
  pub width : length next ≡ length numbers
  pub rises : LinksRise next
  pub heads : (k : ℕ) → (get_or first k 0 ≤ length next) × ((get_or first k 0 ≡ 0) ⊎ (row < get_or first k 0))
  pub chain : (k : ℕ) → k < length first → Chain next (get_or first k 0) (places (λ m. m == k) row (drop row numbers))

-- the same, over so many keys
pub record AreLinked (numbers first next : List ℕ) (row keys : ℕ) : Type 0 where
  pub chained : AreRowChains numbers first next row
  pub width : length first ≡ keys

-- whether two rows, by the numbers of their keys, have one key; a number past the keys is no key's
abbrev pub same_number : ℕ → ℕ → ℕ → Bool
same_number keys n m = (m == n) && nat_lt n keys

-- the row numbers of 32 bits of an item, with the number that names no row where there is none
abbrev pub left_mark : JoinItem → ℕ
left_mark (Both i j) = i
left_mark (LoneLeft i) = i
left_mark (LoneRight j) = no_row

abbrev pub right_mark : JoinItem → ℕ
right_mark (Both i j) = j
right_mark (LoneLeft i) = no_row
right_mark (LoneRight j) = j

-- the keys are marked that have one of these numbers
abbrev pub HasSeen : ℕ → List ℕ → List Bool → Type 0
HasSeen keys numbers seen = (m : ℕ) → get_or seen m false ≡ list_any (λ n. same_number keys n m) numbers
