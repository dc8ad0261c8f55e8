-- Which columns a group-by reads, and joins whose rows have only these.
use Rattle.std.specs.Prelude.{◌≡◌, ℕ, Bool, false, ◌||◌, if◌then◌else◌, Option, Some, None, List, [], ◌∷◌}
use Rattle.std.specs.List.{list_any}
use Rattle.std.specs.Str.{bytes_eq}
use Rattle.morsel_meaning.specs.declared.value.Field.{Field}
use Rattle.morsel_frame.specs.Names.{stands_in}
use Rattle.morsel_join.specs.declared.rules.JoinRules.{JoinRules}
use Rattle.morsel_group.specs.Asked.{GroupAsked}

-- whether a reduction of this column reads the column of this name; a count of rows reads none
abbrev pub reads_column : List ℕ → Option (List ℕ) → Bool
reads_column name None = false
reads_column name (Some column) = bytes_eq column name

-- whether a group-by reads the column of this name: it is a key, or one is reduced
abbrev pub is_read : GroupAsked → List ℕ → Bool
is_read asked name = stands_in name asked.keys || list_any (λ agg. reads_column name agg.column) asked.aggs

-- of things that stand beside columns, those beside the columns that the group-by reads, in their order
abbrev pub kept_by : {T : Type 0} → GroupAsked → List Field → List T → List T
kept_by asked fields [] = []
kept_by asked [] (thing ∷ things) = []
kept_by asked (field ∷ fields) (thing ∷ things) = if is_read asked field.name then thing ∷ kept_by asked fields things else kept_by asked fields things

-- rules of the same join, whose rows have only the columns that the group-by reads
pub record KeepsColumns (asked : GroupAsked) (rules read : JoinRules) : Type 0 where
  pub how : read.how ≡ rules.how
  pub order : read.maintain_order ≡ rules.maintain_order
  pub nulls : read.join_nulls ≡ rules.join_nulls
  pub left_keys : read.left_keys ≡ rules.left_keys
  pub right_keys : read.right_keys ≡ rules.right_keys
  pub kinds : read.kinds ≡ rules.kinds
  pub columns : read.columns.items ≡ kept_by asked rules.output rules.columns.items
  pub output : read.output ≡ kept_by asked rules.output rules.output
