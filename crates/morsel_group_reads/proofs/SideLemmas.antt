-- The rows of a join with only the columns that are read.
use Rattle.std.proofs.Common.{◌≡◌, ◌<◌, ◌++◌, [], ◌∷◌, List, ℕ, length, map, refl, ap, ◌∙◌, sym, subst, Bool, true, false, not, ◌||◌, if◌then◌else◌}
use Rattle.std.proofs.lemmas.List.{map-append, length-map}
use Rattle.std.specs.List.{filter, flat_map, list_any}
use Rattle.morsel_meaning.specs.declared.value.ColType.{ColType}
use Rattle.morsel_meaning.specs.declared.value.Field.{Field}
use Rattle.morsel_meaning.specs.Values.{Row, kinds_of}
use Rattle.morsel_join.specs.declared.rules.JoinColumn.{JoinColumn}
use Rattle.morsel_join.specs.declared.rules.JoinRules.{JoinRules}
use Rattle.morsel_join.specs.Items.{wants_left, wants_right}
use Rattle.morsel_join.specs.Payloads.{FitKeys}
use Rattle.morsel_join.specs.Rows.{FitColumns, FitRules, FitsColumn, column_kind, column_value, rows_match}
use Rattle.morsel_join.specs.Sides.{KeptSide, wants_asked, wants_kept, row_finds, joined_row, with_each, found_by_row, rows_found, is_asked_for, rows_alone}
use Rattle.morsel_group.specs.Asked.{GroupAsked}
use Rattle.morsel_group_reads.specs.Reads.{KeepsColumns, is_read, kept_by}
use Rattle.morsel_group_reads.proofs.KeptLemmas.{kept_map}

-- columns that are kept are columns of their sides
columns_fit : (asked : GroupAsked) (left right fields : List Field) (columns : List JoinColumn) → FitColumns left right columns → FitColumns left right (kept_by asked fields columns)
columns_fit asked left right fields [] fit = tt
columns_fit asked left right [] (column ∷ columns) fit = tt
columns_fit asked left right (field ∷ fields) (column ∷ columns) fit = by (is_read asked field.name) (columns_fit asked left right fields columns fit.1)
  where
    by : (t : Bool) → FitColumns left right (kept_by asked fields columns) → FitColumns left right (if t then column ∷ kept_by asked fields columns else kept_by asked fields columns)
    by true later = (fit.0, later)
    by false later = later

-- the rules fit the sides that they fitted
pub rules_fit : (asked : GroupAsked) (left right : List Field) (rules read : JoinRules) → KeepsColumns asked rules read → FitRules left right rules → FitRules left right read
rules_fit asked left right rules read k fit = record {
  keys = subst (λ keys. FitKeys left right keys.items read.right_keys.items read.kinds.items) (sym k.left_keys)
      (subst (λ keys. FitKeys left right rules.left_keys.items keys.items read.kinds.items) (sym k.right_keys)
      (subst (λ kinds. FitKeys left right rules.left_keys.items rules.right_keys.items kinds.items) (sym k.kinds) fit.keys));
  some = subst (λ kinds. 0 < length kinds.items) (sym k.kinds) fit.some;
  columns = subst (FitColumns left right) (sym k.columns) (columns_fit asked left right rules.output rules.columns.items fit.columns);
  types = ap kinds_of k.output ∙ sym (kept_map asked (λ (field : Field). field.kind) rules.output rules.output)
      ∙ ap (kept_by asked rules.output) fit.types ∙ kept_map asked (column_kind left right) rules.output rules.columns.items
      ∙ ap (map (column_kind left right)) (sym k.columns);
}

-- there are as many places of columns as columns
pub as_many_columns : (left right : List Field) (rules : JoinRules) → FitRules left right rules → length rules.columns.items ≡ length rules.output
as_many_columns left right rules fit =
    sym (length-map rules.columns.items (column_kind left right)) ∙ ap (λ (kinds : List ColType). length kinds) (sym fit.types) ∙ length-map rules.output (λ (field : Field). field.kind)

map_both : (one two read : Row → Row) → ((row : Row) → one row ≡ read (two row)) → (rows : List Row) → map one rows ≡ map read (map two rows)
map_both one two read same [] = refl
map_both one two read same (row ∷ rows) = ap (λ (first : Row). first ∷ map one rows) (same row) ∙ ap (λ (more : List Row). read (two row) ∷ more) (map_both one two read same rows)

filter_both : (one two : Row → Bool) → ((row : Row) → one row ≡ two row) → (rows : List Row) → filter one rows ≡ filter two rows
filter_both one two same [] = refl
filter_both one two same (row ∷ rows) = ap (λ (t : Bool). if t then row ∷ filter one rows else filter one rows) (same row) ∙ ap (λ (more : List Row). if two row then row ∷ more else more) (filter_both one two same rows)

any_both : (one two : Row → Bool) → ((row : Row) → one row ≡ two row) → (rows : List Row) → list_any one rows ≡ list_any two rows
any_both one two same [] = refl
any_both one two same (row ∷ rows) = ap (λ (t : Bool). t || list_any one rows) (same row) ∙ ap (λ (t : Bool). two row || t) (any_both one two same rows)

flat_both : (one two : Row → List Row) (read : Row → Row) → ((row : Row) → one row ≡ map read (two row)) → (rows : List Row) → flat_map one rows ≡ map read (flat_map two rows)
flat_both one two read same [] = refl
flat_both one two read same (row ∷ rows) =
    ap (λ (first : List Row). first ++ flat_map one rows) (same row) ∙ ap (λ (more : List Row). map read (two row) ++ more) (flat_both one two read same rows) ∙ sym (map-append read (two row) (flat_map two rows))

each_both : (wanted : Bool) (one two read : Row → Row) → ((row : Row) → one row ≡ read (two row)) → (rows : List Row) → with_each wanted one rows ≡ map read (with_each wanted two rows)
each_both true one two read same [] = ap (λ (row : Row). row ∷ []) (same [])
each_both false one two read same [] = refl
each_both wanted one two read same (row ∷ rows) = map_both one two read same (row ∷ rows)

module _ (asked : GroupAsked) (rules read : JoinRules) (k : KeepsColumns asked rules read) (is_left : Bool) (rows : List Row) where
  -- a side that is kept, by the rules of all columns
  abbrev pub whole_side : KeptSide
  whole_side = record { rules = rules; is_left = is_left; rows = rows }

  -- the same, by those of the columns that are read
  abbrev pub read_side : KeptSide
  read_side = record { rules = read; is_left = is_left; rows = rows }

  -- what is read of a row
  abbrev pub row_read : Row → Row
  row_read row = kept_by asked rules.output row

  joined_read : (looked_up kept : Row) → joined_row read_side looked_up kept ≡ row_read (joined_row whole_side looked_up kept)
  joined_read looked_up kept = by is_left
    where
      values : (left right : Row) → map (column_value left right) read.columns.items ≡ row_read (map (column_value left right) rules.columns.items)
      values left right = ap (map (column_value left right)) k.columns ∙ sym (kept_map asked (column_value left right) rules.output rules.columns.items)

      by : (b : Bool) → (if b then map (column_value kept looked_up) read.columns.items else map (column_value looked_up kept) read.columns.items)
          ≡ row_read (if b then map (column_value kept looked_up) rules.columns.items else map (column_value looked_up kept) rules.columns.items)
      by true = values kept looked_up
      by false = values looked_up kept

  pub wants_same : wants_kept read_side ≡ wants_kept whole_side
  wants_same = ap (λ how. if is_left then wants_left how else wants_right how) k.how

  finds_same : (looked_up kept : Row) → row_finds read_side looked_up kept ≡ row_finds whole_side looked_up kept
  finds_same looked_up kept =
      ap (λ (nulls : Bool). rows_match nulls (if is_left then read.right_keys.items else read.left_keys.items) (if is_left then read.left_keys.items else read.right_keys.items) looked_up kept) k.nulls
      ∙ ap (λ keys. rows_match rules.join_nulls (if is_left then read.right_keys.items else keys.items) (if is_left then keys.items else read.right_keys.items) looked_up kept) k.left_keys
      ∙ ap (λ keys. rows_match rules.join_nulls (if is_left then keys.items else rules.left_keys.items) (if is_left then rules.left_keys.items else keys.items) looked_up kept) k.right_keys

  found_read : (looked_up : Row) → found_by_row read_side looked_up ≡ map row_read (found_by_row whole_side looked_up)
  found_read looked_up =
      ap (λ how. with_each (if is_left then wants_right how else wants_left how) (joined_row read_side looked_up) (filter (row_finds read_side looked_up) rows)) k.how
      ∙ ap (with_each (wants_asked whole_side) (joined_row read_side looked_up)) (filter_both (row_finds read_side looked_up) (row_finds whole_side looked_up) (finds_same looked_up) rows)
      ∙ each_both (wants_asked whole_side) (joined_row read_side looked_up) (joined_row whole_side looked_up) row_read (joined_read looked_up) (filter (row_finds whole_side looked_up) rows)

  -- what rows find, as far as it is read
  pub rows_found_read : (looked_up : List Row) → rows_found read_side looked_up ≡ map row_read (rows_found whole_side looked_up)
  rows_found_read looked_up = flat_both (found_by_row read_side) (found_by_row whole_side) row_read found_read looked_up

  alone_same : (looked_up : List Row) (kept : Row) → not (is_asked_for read_side looked_up kept) ≡ not (is_asked_for whole_side looked_up kept)
  alone_same looked_up kept = ap not (any_both (λ (row : Row). row_finds read_side row kept) (λ (row : Row). row_finds whole_side row kept) (λ row. finds_same row kept) looked_up)

  -- the kept rows that none finds, as far as they are read
  pub rows_alone_read : (looked_up : List Row) → rows_alone read_side looked_up ≡ map row_read (rows_alone whole_side looked_up)
  rows_alone_read looked_up =
      ap (λ (t : Bool). if t then map (joined_row read_side []) (filter (λ kept. not (is_asked_for read_side looked_up kept)) rows) else []) wants_same
      ∙ by (wants_kept whole_side)
    where
      wanted : map (joined_row read_side []) (filter (λ kept. not (is_asked_for read_side looked_up kept)) rows) ≡ map row_read (map (joined_row whole_side []) (filter (λ kept. not (is_asked_for whole_side looked_up kept)) rows))
      wanted = ap (map (joined_row read_side [])) (filter_both (λ kept. not (is_asked_for read_side looked_up kept)) (λ kept. not (is_asked_for whole_side looked_up kept)) (alone_same looked_up) rows)
          ∙ map_both (joined_row read_side []) (joined_row whole_side []) row_read (joined_read []) (filter (λ kept. not (is_asked_for whole_side looked_up kept)) rows)

      by : (t : Bool) → (if t then map (joined_row read_side []) (filter (λ kept. not (is_asked_for read_side looked_up kept)) rows) else [])
          ≡ map row_read (if t then map (joined_row whole_side []) (filter (λ kept. not (is_asked_for whole_side looked_up kept)) rows) else [])
      by true = wanted
      by false = refl
