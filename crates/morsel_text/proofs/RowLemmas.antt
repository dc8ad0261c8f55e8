-- Rows of fields in columns, one field after another.
use Rattle.std.proofs.Common.{◌≡◌, ℕ, zero, suc, ◌+◌, ◌<◌, ◌∙◌, sym, ap, refl, arith, Bool, true, false, List, [], ◌∷◌, ◌++◌, length, take, drop, set, get_or, map, subst}
use Rattle.std.proofs.lemmas.List.{drop_more, take_more, take_more_set, drop-set-lt, append_assoc, get_or-map, get_or_default, length-map}
use Rattle.std.specs.Prelude.{Option, Some, None, IsUtf8}
use Rattle.morsel_frame.specs.Columns.{Values}
use Rattle.morsel_grammar.specs.Dialect.{Dialect}
use Rattle.morsel_grammar.specs.Grammar.{CsvField, Fields}
use Rattle.morsel_meaning.specs.declared.value.ColType.TheVariants as types
use Rattle.morsel_meaning.specs.declared.value.Value.{Value}
use Rattle.morsel_meaning.specs.declared.value.Value.TheVariants as values
use Rattle.morsel_meaning.specs.Values.{Row}
use Rattle.morsel_grammar.specs.Cells.{CsvCell, Good, Bad, cell_of}
use Rattle.morsel_grammar.specs.Rows.{RowOf, NoRow, is_empty, cells_of, row_or_misfit, row_of, row_of_nothing}
use Rattle.morsel_grammar.specs.Reading.{used_values, chosen}
use Rattle.morsel_text.specs.declared.rows.RowPushed.{RowPushed}
use Rattle.morsel_text.specs.declared.rows.RowPushed.TheVariants as rows
use Rattle.morsel_text.specs.RawFields.{shown}
use Rattle.morsel_text.specs.declared.raw_field.RawField.{RawField}
use Rattle.morsel_text.specs.Pushes.{with_cell, in_front, with_fields, AreTexts, column_kinds, with_row, PushesRow}

-- columns in front of those that are found
abbrev pub fronted : List Values → Option (List Values) → Option (List Values)
fronted front None = None
fronted front (Some columns) = Some (front ++ columns)

fronted-in_front : (front : List Values) (column : Values) (found : Option (List Values)) → fronted front (in_front (Some column) found) ≡ fronted (front ++ column ∷ []) found
fronted-in_front front column None = refl
fronted-in_front front column (Some columns) = rw append_assoc

-- the first i fields are in their columns, and the columns after them are as they were
abbrev pub fields_from : Dialect → List Bool → List Values → List CsvField → ℕ → Option (List Values)
fields_from o used columns fields i = fronted (take i columns) (with_fields o (drop i used) (drop i columns) (drop i fields))

-- the fields from i on, where there is one more
at_field : (o : Dialect) (used : List Bool) (columns : List Values) (fields : List CsvField) (i : ℕ) (u : Bool) (column : Values) (f : CsvField)
    → i < length used → i < length columns → i < length fields → get_or used i false ≡ u → get_or columns i column ≡ column → get_or fields i f ≡ f
    → fields_from o used columns fields i ≡ fronted (take i columns) (with_fields o (u ∷ drop (i + 1) used) (column ∷ drop (i + 1) columns) (f ∷ drop (i + 1) fields))
at_field o used columns fields i u column f in_used in_columns in_fields is_u is_column is_f =
    ap (λ rest. fronted (take i columns) (with_fields o rest (drop i columns) (drop i fields))) (drop_more used i false in_used ∙ ap (λ x. x ∷ drop (i + 1) used) is_u)
    ∙ ap (λ rest. fronted (take i columns) (with_fields o (u ∷ drop (i + 1) used) rest (drop i fields))) (drop_more columns i column in_columns ∙ ap (λ x. x ∷ drop (i + 1) columns) is_column)
    ∙ ap (λ rest. fronted (take i columns) (with_fields o (u ∷ drop (i + 1) used) (column ∷ drop (i + 1) columns) rest)) (drop_more fields i f in_fields ∙ ap (λ x. x ∷ drop (i + 1) fields) is_f)

-- a used field whose cell is put
pub fields_from-put : (o : Dialect) (used : List Bool) (columns after : List Values) (fields : List CsvField) (i : ℕ) (column new : Values) (f : CsvField)
    → i < length used → i < length columns → i < length fields → get_or used i false ≡ true → get_or columns i column ≡ column → get_or fields i f ≡ f
    → with_cell (cell_of o column.kind f) column ≡ Some new → after ≡ set columns i new
    → fields_from o used after fields (i + 1) ≡ fields_from o used columns fields i
fields_from-put o used columns after fields i column new f in_used in_columns in_fields is_u is_column is_f put written =
    let rest : Option (List Values) = with_fields o (drop (i + 1) used) (drop (i + 1) columns) (drop (i + 1) fields) in
    ap (λ cs. fields_from o used cs fields (i + 1)) written
    ∙ ap (λ front. fronted front (with_fields o (drop (i + 1) used) (drop (i + 1) (set columns i new)) (drop (i + 1) fields))) (take_more_set columns i new in_columns)
    ∙ ap (λ cs. fronted (take i columns ++ new ∷ []) (with_fields o (drop (i + 1) used) cs (drop (i + 1) fields))) (drop-set-lt (i + 1) columns i new (omega arith))
    ∙ sym (fronted-in_front (take i columns) new rest)
    ∙ ap (λ c. fronted (take i columns) (in_front c rest)) (sym put)
    ∙ sym (at_field o used columns fields i true column f in_used in_columns in_fields is_u is_column is_f)

-- a used field whose cell is bad
pub fields_from-bad : (o : Dialect) (used : List Bool) (columns : List Values) (fields : List CsvField) (i : ℕ) (column : Values) (f : CsvField)
    → i < length used → i < length columns → i < length fields → get_or used i false ≡ true → get_or columns i column ≡ column → get_or fields i f ≡ f
    → with_cell (cell_of o column.kind f) column ≡ None → fields_from o used columns fields i ≡ None
fields_from-bad o used columns fields i column f in_used in_columns in_fields is_u is_column is_f bad =
    at_field o used columns fields i true column f in_used in_columns in_fields is_u is_column is_f
    ∙ ap (λ c. fronted (take i columns) (in_front c (with_fields o (drop (i + 1) used) (drop (i + 1) columns) (drop (i + 1) fields)))) bad

-- a field that is not used
pub fields_from-skip : (o : Dialect) (used : List Bool) (columns : List Values) (fields : List CsvField) (i : ℕ) (column : Values) (f : CsvField)
    → i < length used → i < length columns → i < length fields → get_or used i false ≡ false → get_or columns i column ≡ column → get_or fields i f ≡ f
    → fields_from o used columns fields (i + 1) ≡ fields_from o used columns fields i
fields_from-skip o used columns fields i column f in_used in_columns in_fields is_u is_column is_f =
    let rest : Option (List Values) = with_fields o (drop (i + 1) used) (drop (i + 1) columns) (drop (i + 1) fields) in
    ap (λ front. fronted front rest) (take_more columns i column in_columns ∙ ap (λ c. take i columns ++ c ∷ []) is_column)
    ∙ sym (fronted-in_front (take i columns) column rest)
    ∙ sym (at_field o used columns fields i false column f in_used in_columns in_fields is_u is_column is_f)

pub text_at : (fields : List CsvField) (i : ℕ) (f : CsvField) → AreTexts fields → i < length fields → IsUtf8 (get_or fields i f).bytes
text_at [] i f texts within = absurd (omega arith)
text_at (g ∷ fields) zero f texts within = texts.0
text_at (g ∷ fields) (suc i) f texts within = text_at fields i f texts.1 (omega arith)

-- the columns with a row, where there is one
abbrev pub gains : List Bool → List Values → Option Row → Option (List Values)
gains used columns None = None
gains used columns (Some row) = Some (with_row used columns row)

put_held : (v : Value) (column : Values) (used : List Bool) (columns : List Values) (cells : List CsvCell) (found : Option Row) → used_values used cells ≡ found
    → in_front (with_cell (Good v) column) (gains used columns (used_values used cells)) ≡ gains (true ∷ used) (column ∷ columns) (used_values (true ∷ used) (Good v ∷ cells))
put_held v column used columns cells None is = rw is
put_held v column used columns cells (Some row) is = rw is

put_used : (cell : CsvCell) (column : Values) (used : List Bool) (columns : List Values) (cells : List CsvCell)
    → in_front (with_cell cell column) (gains used columns (used_values used cells)) ≡ gains (true ∷ used) (column ∷ columns) (used_values (true ∷ used) (cell ∷ cells))
put_used (Good v) column used columns cells = put_held v column used columns cells (used_values used cells) refl
put_used Bad column used columns cells = refl

put_unused : (column : Values) (used : List Bool) (columns : List Values) (found : Option Row)
    → in_front (Some column) (gains used columns found) ≡ gains (false ∷ used) (column ∷ columns) found
put_unused column used columns None = refl
put_unused column used columns (Some row) = refl

-- fields put one by one are their cells' row put at once
pub with_fields-row : (o : Dialect) (used : List Bool) (columns : List Values) (fields : List CsvField) → length used ≡ length columns → length fields ≡ length columns
    → (cells : List CsvCell) × (cells_of o (column_kinds columns) fields ≡ Some cells) × (with_fields o used columns fields ≡ gains used columns (used_values used cells))
    × (length cells ≡ length columns)
with_fields-row o [] [] [] same_used same_fields = ([], refl, refl, refl)
with_fields-row o (u ∷ used) [] fields same_used same_fields = absurd (omega arith)
with_fields-row o [] (column ∷ columns) fields same_used same_fields = absurd (omega arith)
with_fields-row o [] [] (f ∷ fields) same_used same_fields = absurd (omega arith)
with_fields-row o (u ∷ used) (column ∷ columns) [] same_used same_fields = absurd (omega arith)
with_fields-row o (true ∷ used) (column ∷ columns) (f ∷ fields) same_used same_fields =
    let later = with_fields-row o used columns fields (omega arith) (omega arith) in (
      cell_of o column.kind f ∷ later.0,
      rw later.1 refl,
      ap (in_front (with_cell (cell_of o column.kind f) column)) later.2 ∙ put_used (cell_of o column.kind f) column used columns later.0,
      ap suc later.3,
    )
with_fields-row o (false ∷ used) (column ∷ columns) (f ∷ fields) same_used same_fields =
    let later = with_fields-row o used columns fields (omega arith) (omega arith) in (
      cell_of o column.kind f ∷ later.0,
      rw later.1 refl,
      ap (in_front (Some column)) later.2 ∙ put_unused column used columns (used_values used later.0),
      ap suc later.3,
    )

-- a row has a value for each used column
row_width : (used : List Bool) (columns : List Values) (cells : List CsvCell) (row : Row) → length used ≡ length columns → length cells ≡ length columns
    → used_values used cells ≡ Some row → length row ≡ length (chosen used columns)
row_width [] [] cells [] same_used same_cells is = refl
row_width [] [] cells (v ∷ row) same_used same_cells is = absurd (cc)
row_width [] (column ∷ columns) cells row same_used same_cells is = absurd (omega arith)
row_width (u ∷ used) [] cells row same_used same_cells is = absurd (omega arith)
row_width (u ∷ used) (column ∷ columns) [] row same_used same_cells is = absurd (omega arith)
row_width (false ∷ used) (column ∷ columns) (cell ∷ cells) row same_used same_cells is = row_width used columns cells row (omega arith) (omega arith) is
row_width (true ∷ used) (column ∷ columns) (Bad ∷ cells) row same_used same_cells is = absurd (cc)
row_width (true ∷ used) (column ∷ columns) (Good v ∷ cells) row same_used same_cells is = by (used_values used cells) refl (λ later found. row_width used columns cells later (omega arith) (omega arith) found)
  where
    by : (found : Option Row) → used_values used cells ≡ found → ((later : Row) → used_values used cells ≡ Some later → length later ≡ length (chosen used columns))
        → length row ≡ suc (length (chosen used columns))
    by None none later = absurd (let bad : used_values (true ∷ used) (Good v ∷ cells) ≡ None = rw none in cc)
    by (Some x) some later =
        let good : used_values (true ∷ used) (Good v ∷ cells) ≡ Some (v ∷ x) = rw some in
        let same : v ∷ x ≡ row = cc in
        ap length (sym same) ∙ ap suc (later x some)

gained : (used : List Bool) (columns new : List Values) (found : Option Row) → gains used columns found ≡ Some new → (row : Row) × (found ≡ Some row) × (new ≡ with_row used columns row)
gained used columns new None is = absurd (cc)
gained used columns new (Some row) is = (row, refl, cc)

not_gained : (used : List Bool) (columns : List Values) (found : Option Row) → gains used columns found ≡ None → found ≡ None
not_gained used columns None is = refl
not_gained used columns (Some row) is = absurd (cc)

pub row_put : (o : Dialect) (used : List Bool) (columns new : List Values) (fields : List CsvField) → length used ≡ length columns → length fields ≡ length columns
    → with_fields o used columns fields ≡ Some new → PushesRow (row_or_misfit (cells_of o (column_kinds columns) fields)) used columns rows.Row new
row_put o used columns new fields same_used same_fields put =
    let all = with_fields-row o used columns fields same_used same_fields in
    let row = gained used columns new (used_values used all.0) (sym all.2 ∙ put) in
    (all.0, row.0, ap row_or_misfit all.1, row.1, row_width used columns all.0 row.0 same_used all.3 row.1, row.2)

pub row_bad : (o : Dialect) (used : List Bool) (columns new : List Values) (fields : List CsvField) → length used ≡ length columns → length fields ≡ length columns
    → with_fields o used columns fields ≡ None → PushesRow (row_or_misfit (cells_of o (column_kinds columns) fields)) used columns rows.Bad new
row_bad o used columns new fields same_used same_fields bad =
    let all = with_fields-row o used columns fields same_used same_fields in
    (all.0, ap row_or_misfit all.1, not_gained used columns (used_values used all.0) (sym all.2 ∙ bad))

-- where there are more or fewer fields than columns
pub cells_of-misfit : (o : Dialect) (columns : List Values) (fields : List CsvField) → (length fields ≡ length columns → ⊥) → cells_of o (column_kinds columns) fields ≡ None
cells_of-misfit o [] [] other = absurd (other refl)
cells_of-misfit o [] (f ∷ fields) other = refl
cells_of-misfit o (column ∷ columns) [] other = refl
cells_of-misfit o (column ∷ columns) (f ∷ fields) other = rw (cells_of-misfit o columns fields (λ same. other (ap suc same))) refl

-- a record without bytes
pub no_row : (columns : List Values) → (length columns ≡ 1 → ⊥) → row_of_nothing (column_kinds columns) ≡ NoRow
no_row [] other = refl
no_row (column ∷ []) other = absurd (other refl)
no_row (column ∷ next ∷ columns) other = refl

pub null_put : (used : List Bool) (columns after : List Values) (column new : Values) → length columns ≡ 1 → length used ≡ length columns → get_or used 0 false ≡ true
    → get_or columns 0 column ≡ column → new ≡ record column { values = column.values ++ values.Null ∷ [] } → after ≡ set columns 0 new
    → PushesRow (row_of_nothing (column_kinds columns)) used columns rows.Row after
null_put used [] after column new one same is_u is_column put written = absurd (omega arith)
null_put [] (c ∷ columns) after column new one same is_u is_column put written = absurd (omega arith)
null_put (false ∷ used) (c ∷ columns) after column new one same is_u is_column put written = absurd (cc)
null_put (true ∷ v ∷ used) (c ∷ columns) after column new one same is_u is_column put written = absurd (omega arith)
null_put (true ∷ []) (c ∷ d ∷ columns) after column new one same is_u is_column put written = absurd (omega arith)
null_put (true ∷ []) (c ∷ []) after column new one same is_u is_column put written = (
  Good values.Null ∷ [],
  values.Null ∷ [],
  refl,
  refl,
  refl,
  written ∙ ap (λ (x : Values). x ∷ []) (put ∙ ap (λ (x : Values). let y : Values = record x { values = x.values ++ values.Null ∷ [] } in y) (sym is_column)),
)

pub null_unused : (used : List Bool) (columns : List Values) → length columns ≡ 1 → length used ≡ length columns → get_or used 0 false ≡ false
    → PushesRow (row_of_nothing (column_kinds columns)) used columns rows.Row columns
null_unused used [] one same is_u = absurd (omega arith)
null_unused [] (c ∷ columns) one same is_u = absurd (omega arith)
null_unused (true ∷ used) (c ∷ columns) one same is_u = absurd (cc)
null_unused (false ∷ v ∷ used) (c ∷ columns) one same is_u = absurd (omega arith)
null_unused (false ∷ []) (c ∷ d ∷ columns) one same is_u = absurd (omega arith)
null_unused (false ∷ []) (c ∷ []) one same is_u = (Good values.Null ∷ [], [], refl, refl, refl, refl)

-- the same of fields as they are written in the text
field_shown : (fields : List RawField) (i : ℕ) (d : RawField) → i < length fields → get_or (map shown fields) i (shown (get_or fields i d)) ≡ shown (get_or fields i d)
field_shown fields i d within = get_or-map shown fields i d (shown (get_or fields i d)) within

shown_within : (fields : List RawField) (i : ℕ) → i < length fields → i < length (map shown fields)
shown_within fields i within = rw length-map within

pub raw_put : (o : Dialect) (used : List Bool) (columns : List Values) (fields : List RawField) (i : ℕ) (column new : Values) (d : RawField)
    → i < length used → i < length columns → i < length fields → get_or used i false ≡ true → column ≡ get_or columns i column
    → with_cell (cell_of o column.kind (shown (get_or fields i d))) column ≡ Some new
    → fields_from o used (set columns i new) (map shown fields) (i + 1) ≡ fields_from o used columns (map shown fields) i
raw_put o used columns fields i column new d in_used in_columns in_fields is_u is_column put =
    fields_from-put o used columns (set columns i new) (map shown fields) i column new (shown (get_or fields i d)) in_used in_columns
    (shown_within fields i in_fields) is_u (sym is_column) (field_shown fields i d in_fields) put refl

pub raw_bad : (o : Dialect) (used : List Bool) (columns : List Values) (fields : List RawField) (i : ℕ) (column : Values) (d : RawField)
    → i < length used → i < length columns → i < length fields → get_or used i false ≡ true → column ≡ get_or columns i column
    → with_cell (cell_of o column.kind (shown (get_or fields i d))) column ≡ None → fields_from o used columns (map shown fields) i ≡ None
raw_bad o used columns fields i column d in_used in_columns in_fields is_u is_column bad =
    fields_from-bad o used columns (map shown fields) i column (shown (get_or fields i d)) in_used in_columns
    (shown_within fields i in_fields) is_u (sym is_column) (field_shown fields i d in_fields) bad

blank : Values
blank = record { kind = types.Int; values = [] }

pub raw_skip : (o : Dialect) (used : List Bool) (columns : List Values) (fields : List RawField) (i : ℕ) (d : RawField)
    → i < length used → i < length columns → i < length fields → get_or used i false ≡ false
    → fields_from o used columns (map shown fields) (i + 1) ≡ fields_from o used columns (map shown fields) i
raw_skip o used columns fields i d in_used in_columns in_fields is_u =
    fields_from-skip o used columns (map shown fields) i (get_or columns i blank) (shown (get_or fields i d)) in_used in_columns
    (shown_within fields i in_fields) is_u (get_or_default columns i (get_or columns i blank) blank in_columns) (field_shown fields i d in_fields)

pub raw_text : (fields : List RawField) (i : ℕ) (d : RawField) → AreTexts (map shown fields) → i < length fields → IsUtf8 (shown (get_or fields i d)).bytes
raw_text fields i d texts within =
    let P : CsvField → Type 0 = λ f. IsUtf8 f.bytes in
    subst P (field_shown fields i d within) (text_at (map shown fields) i (shown (get_or fields i d)) texts (shown_within fields i within))

row_of-filled : (o : Dialect) (columns : List Values) (fields : List CsvField) → is_empty fields ≡ false
    → row_of o (column_kinds columns) (Fields fields) ≡ row_or_misfit (cells_of o (column_kinds columns) fields)
row_of-filled o columns fields filled = rw filled

-- what a record with bytes makes of the columns, by its cells
pub filled_row : (o : Dialect) (used : List Bool) (columns new : List Values) (fields : List CsvField) (pushed : RowPushed) → is_empty fields ≡ false
    → PushesRow (row_or_misfit (cells_of o (column_kinds columns) fields)) used columns pushed new
    → PushesRow (row_of o (column_kinds columns) (Fields fields)) used columns pushed new
filled_row o used columns new fields pushed filled is =
    let P : RowOf → Type 0 = λ r. PushesRow r used columns pushed new in subst P (sym (row_of-filled o columns fields filled)) is

pub shown_length : (fields : List RawField) (n : ℕ) → length fields ≡ n → length (map shown fields) ≡ n
shown_length fields n is = length-map fields shown ∙ is
