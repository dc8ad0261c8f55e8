-- Lines without bytes, which are passed where they give no rows.
use Rattle.std.specs.Prelude.{◌≡◌, ◌≢◌, ◌⊎◌, ◌<◌, ◌≤◌, ℕ, Bool, true, List, length, take, drop, replicate}
use Rattle.morsel_grammar.specs.Dialect.{Dialect}

-- a record without bytes gives no row: before the header, or where there is not one column
abbrev pub GivesNoRow : Bool → ℕ → Type 0
GivesNoRow head width = (head ≡ true) ⊎ (width ≢ 1)

-- the rest of a text after some lines without bytes, which give no rows
pub record SkipsEmpty (o : Dialect) (head : Bool) (width : ℕ) (text rest : List ℕ) : Type 0 where
  pub lines : ℕ
  pub within : lines ≤ length text
  pub rest_is : rest ≡ drop lines text
  pub empty : take lines text ≡ replicate lines o.eol
  pub no_rows : 0 < lines → GivesNoRow head width
