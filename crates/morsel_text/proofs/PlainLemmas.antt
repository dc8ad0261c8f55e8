-- The plain reader: its fields and rows, and how columns gain them.
use Rattle.std.proofs.Common.{◌≡◌, ℕ, zero, suc, ◌+◌, ◌<◌, ◌≤◌, ◌∙◌, sym, ap, refl, arith, subst, Bool, true, false, List, [], ◌∷◌, ◌++◌, length, take, drop, set, get_or, map, replicate, append_assoc, add-one}
use Rattle.std.proofs.lemmas.List.{drop_more, drop_all, take_more_set, drop-set-lt, append-nil, length-replicate, length-map}
use Rattle.std.specs.Prelude.{Option, Some, None, if◌then◌else◌}
use Rattle.std.specs.List.{slice_get}
use Rattle.morsel_meaning.specs.declared.value.ColType.{ColType}
use Rattle.morsel_meaning.specs.declared.value.ColType.TheVariants as types
use Rattle.morsel_meaning.specs.declared.value.Value.{Value}
use Rattle.morsel_meaning.specs.declared.value.Value.TheVariants as values
use Rattle.morsel_meaning.specs.declared.fault.Fault.{Fault}
use Rattle.morsel_meaning.specs.declared.value.Field.{Field}
use Rattle.morsel_meaning.specs.Values.{Row, IsOfType, FitsRow, kinds_of}
use Rattle.morsel_frame.specs.Columns.{Values}
use Rattle.morsel_frame.specs.Frames.{rows_of, Fit}
use Rattle.morsel_grammar.specs.Dialect.{Dialect}
use Rattle.morsel_grammar.specs.Grammar.{CsvField, CsvRecord, Fields}
use Rattle.morsel_grammar.specs.Cells.{CsvCell, Good, Bad, int_value, bool_value, int_of, bool_of, value_written, cell_or_bad, cell_of}
use Rattle.morsel_grammar.specs.Rows.{NoRow, IsRow, is_empty, cells_of, row_or_misfit, row_of_nothing, row_of}
use Rattle.morsel_grammar.specs.Split.{record_at}
use Rattle.morsel_grammar.specs.Reading.{Read, ends, read_of, used_values, chosen}
use Rattle.morsel_grammar.specs.Results.{IsRefused}
use Rattle.morsel_text.specs.Pushes.{column_kinds, with_row}
use Rattle.morsel_text.specs.Steps as steps
use Rattle.morsel_text.specs.Steps.{left, row_first, AreHigh, empty_columns}
use Rattle.morsel_text.specs.Plain.{cells_with, with_values, GivesRow, GainsValues}
use Rattle.morsel_text.specs.declared.plain.rows.PlainRow.{PlainRow}
use Rattle.morsel_text.proofs.StepLemmas.{ReadSo, read_more, read_start, read_refused}

-- the record of fields, however they are lent
pub plain_record : (o : Dialect) (text rest : List ℕ) (fields slice : List CsvField) → slice ≡ fields → record_at o text ≡ Some (Fields fields, rest)
    → record_at o text ≡ Some (Fields slice, rest)
plain_record o text rest fields slice same is =
    is ∙ ap (λ (fs : List CsvField). let p : CsvRecord × List ℕ = (Fields fs, rest) in Some p) (sym same)

-- a value that a text says is of the type
value_typed : (kind : ColType) (text : List ℕ) (v : Value) → value_written kind text ≡ Some v → IsOfType kind v
value_typed types.Int text v is = int_typed (int_of text) is
  where
    int_typed : (found : Option _) → int_value found ≡ Some v → IsOfType types.Int v
    int_typed None is = cc
    int_typed (Some n) is = let same : values.Int n ≡ v = cc in subst (IsOfType types.Int) same refl
value_typed types.Bool text v is = bool_typed (bool_of text) is
  where
    bool_typed : (found : Option Bool) → bool_value found ≡ Some v → IsOfType types.Bool v
    bool_typed None is = cc
    bool_typed (Some b) is = let same : values.Bool b ≡ v = cc in subst (IsOfType types.Bool) same refl
value_typed types.Text text v is = let same : values.Text text ≡ v = cc in subst (IsOfType types.Text) same refl

found_typed : (kind : ColType) (text : List ℕ) (ignore_errors : Bool) (found : Option Value) (v : Value) → value_written kind text ≡ found → cell_or_bad ignore_errors found ≡ Good v → IsOfType kind v
found_typed kind text ignore_errors (Some w) v said is = let same : w ≡ v = cc in subst (IsOfType kind) same (value_typed kind text w said)
found_typed kind text true None v said is = let same : values.Null ≡ v = cc in subst (IsOfType kind) same tt
found_typed kind text false None v said is = cc

null_or : (kind : ColType) (cell : CsvCell) (t : Bool) (v : Value) → (cell ≡ Good v → IsOfType kind v) → (if t then Good values.Null else cell) ≡ Good v → IsOfType kind v
null_or kind cell true v typed is = let same : values.Null ≡ v = cc in subst (IsOfType kind) same tt
null_or kind cell false v typed is = typed is

cell_typed : (o : Dialect) (kind : ColType) (f : CsvField) (v : Value) → cell_of o kind f ≡ Good v → IsOfType kind v
cell_typed o kind f v is = null_or kind (cell_or_bad o.ignore_errors (value_written kind f.bytes)) _ v (found_typed kind f.bytes o.ignore_errors (value_written kind f.bytes) v refl) is

-- each cell is bad, or has a value of its type
abbrev AreOfTypes : List ColType → List CsvCell → Type 0
AreOfTypes [] [] = Unit {0}
AreOfTypes [] (c ∷ cells) = ⊥
AreOfTypes (kind ∷ kinds) [] = ⊥
AreOfTypes (kind ∷ kinds) (c ∷ cells) = ((v : Value) → c ≡ Good v → IsOfType kind v) × AreOfTypes kinds cells

-- as many fields as types have a cell each
pub cells_of-with : (o : Dialect) (kinds : List ColType) (fields : List CsvField) → length fields ≡ length kinds → cells_of o kinds fields ≡ Some (cells_with o kinds fields)
cells_of-with o [] [] same = refl
cells_of-with o [] (f ∷ fields) same = absurd (omega arith)
cells_of-with o (kind ∷ kinds) [] same = absurd (omega arith)
cells_of-with o (kind ∷ kinds) (f ∷ fields) same = rw (cells_of-with o kinds fields (omega arith)) refl

cells_more : (o : Dialect) (kind : ColType) (kinds : List ColType) (f : CsvField) (fields : List CsvField) (cells : List CsvCell) (found : Option (List CsvCell)) → cells_of o kinds fields ≡ found
    → ((rest : List CsvCell) → cells_of o kinds fields ≡ Some rest → AreOfTypes kinds rest) → cells_of o (kind ∷ kinds) (f ∷ fields) ≡ Some cells → AreOfTypes (kind ∷ kinds) cells
cells_more o kind kinds f fields cells None found typed is = let none : cells_of o (kind ∷ kinds) (f ∷ fields) ≡ None = rw found refl in cc
cells_more o kind kinds f fields cells (Some rest) found typed is =
    let all : cells_of o (kind ∷ kinds) (f ∷ fields) ≡ Some (cell_of o kind f ∷ rest) = rw found refl in
    let same : cell_of o kind f ∷ rest ≡ cells = cc in
    subst (AreOfTypes (kind ∷ kinds)) same (cell_typed o kind f, typed rest found)

cells_typed : (o : Dialect) (kinds : List ColType) (fields : List CsvField) (cells : List CsvCell) → cells_of o kinds fields ≡ Some cells → AreOfTypes kinds cells
cells_typed o [] [] cells is = let same : [] ≡ cells = cc in subst (AreOfTypes []) same tt
cells_typed o [] (f ∷ fields) cells is = cc
cells_typed o (kind ∷ kinds) [] cells is = cc
cells_typed o (kind ∷ kinds) (f ∷ fields) cells is = cells_more o kind kinds f fields cells (cells_of o kinds fields) refl (λ rest found. cells_typed o kinds fields rest found) is

nothing_typed : (kinds : List ColType) (cells : List CsvCell) → row_of_nothing kinds ≡ IsRow cells → AreOfTypes kinds cells
nothing_typed [] cells is = cc
nothing_typed (kind ∷ []) cells is =
    let same : Good values.Null ∷ [] ≡ cells = cc in
    subst (AreOfTypes (kind ∷ [])) same ((λ v held. let null : values.Null ≡ v = cc in subst (IsOfType kind) null tt), tt)
nothing_typed (kind ∷ next ∷ kinds) cells is = cc

filled_typed : (o : Dialect) (kinds : List ColType) (fields : List CsvField) (cells : List CsvCell) (found : Option (List CsvCell)) → cells_of o kinds fields ≡ found → row_or_misfit found ≡ IsRow cells → AreOfTypes kinds cells
filled_typed o kinds fields cells None found is = cc
filled_typed o kinds fields cells (Some all) found is = let same : all ≡ cells = cc in cells_typed o kinds fields cells (found ∙ ap Some same)

row_typed : (o : Dialect) (kinds : List ColType) (fields : List CsvField) (cells : List CsvCell) → row_of o kinds (Fields fields) ≡ IsRow cells → AreOfTypes kinds cells
row_typed o kinds fields cells is = by_bytes (is_empty fields) refl
  where
    by_bytes : (t : Bool) → is_empty fields ≡ t → AreOfTypes kinds cells
    by_bytes true e = nothing_typed kinds cells (let same : row_of o kinds (Fields fields) ≡ row_of_nothing kinds = rw e refl in sym same ∙ is)
    by_bytes false e = filled_typed o kinds fields cells (cells_of o kinds fields) refl (let same : row_of o kinds (Fields fields) ≡ row_or_misfit (cells_of o kinds fields) = rw e refl in sym same ∙ is)

held_more : (used : List Bool) (kind : ColType) (kinds : List ColType) (v : Value) (cells : List CsvCell) (row : Row) (found : Option Row) → IsOfType kind v → used_values used cells ≡ found
    → ((rest : Row) → used_values used cells ≡ Some rest → FitsRow (chosen used kinds) rest) → used_values (true ∷ used) (Good v ∷ cells) ≡ Some row → FitsRow (kind ∷ chosen used kinds) row
held_more used kind kinds v cells row None of_type found fits is = let none : used_values (true ∷ used) (Good v ∷ cells) ≡ None = rw found refl in cc
held_more used kind kinds v cells row (Some rest) of_type found fits is =
    let all : used_values (true ∷ used) (Good v ∷ cells) ≡ Some (v ∷ rest) = rw found refl in
    let same : v ∷ rest ≡ row = cc in
    subst (FitsRow (kind ∷ chosen used kinds)) same (of_type, fits rest found)

-- the values of the used columns are of their types
used_typed : (used : List Bool) (kinds : List ColType) (cells : List CsvCell) (row : Row) → AreOfTypes kinds cells → used_values used cells ≡ Some row → FitsRow (chosen used kinds) row
used_typed [] kinds cells row typed is = let none : [] ≡ row = cc in subst (FitsRow []) none tt
used_typed (u ∷ used) [] [] row typed is = let none : [] ≡ row = cc in subst (FitsRow []) none tt
used_typed (u ∷ used) [] (c ∷ cells) row typed is = absurd typed
used_typed (u ∷ used) (kind ∷ kinds) [] row typed is = absurd typed
used_typed (false ∷ used) (kind ∷ kinds) (c ∷ cells) row typed is = used_typed used kinds cells row typed.1 is
used_typed (true ∷ used) (kind ∷ kinds) (Bad ∷ cells) row typed is = cc
used_typed (true ∷ used) (kind ∷ kinds) (Good v ∷ cells) row typed is =
    held_more used kind kinds v cells row (used_values used cells) (typed.0 v refl) refl (λ rest found. used_typed used kinds cells rest typed.1 found) is

pub row_fits : (o : Dialect) (kinds : List ColType) (used : List Bool) (fields : List CsvField) (cells : List CsvCell) (row : Row)
    → row_of o kinds (Fields fields) ≡ IsRow cells → used_values used cells ≡ Some row → FitsRow (chosen used kinds) row
row_fits o kinds used fields cells row is values = used_typed used kinds cells row (row_typed o kinds fields cells is) values

-- a record with bytes and a field for each column
pub row_of-filled : (o : Dialect) (kinds : List ColType) (fields : List CsvField) → is_empty fields ≡ false → length fields ≡ length kinds
    → row_of o kinds (Fields fields) ≡ IsRow (cells_with o kinds fields)
row_of-filled o kinds fields filled same = rw (filled, cells_of-with o kinds fields same) refl

cells_from : (o : Dialect) (kinds : List ColType) (fields : List CsvField) (i : ℕ) (k : ColType) (f : CsvField) → i < length kinds → i < length fields
    → drop i (cells_with o kinds fields) ≡ cell_of o (get_or kinds i k) (get_or fields i f) ∷ drop (suc i) (cells_with o kinds fields)
cells_from o [] fields i k f in_kinds in_fields = absurd (omega arith)
cells_from o (kind ∷ kinds) [] i k f in_kinds in_fields = absurd (omega arith)
cells_from o (kind ∷ kinds) (g ∷ fields) zero k f in_kinds in_fields = refl
cells_from o (kind ∷ kinds) (g ∷ fields) (suc i) k f in_kinds in_fields = cells_from o kinds fields i k f (omega arith) (omega arith)

-- the cell at a place, and those after it
pub cells_at : (o : Dialect) (kinds : List ColType) (fields : List CsvField) (i : ℕ) (k : ColType) (f : CsvField) → i < length kinds → i < length fields
    → drop i (cells_with o kinds fields) ≡ cell_of o (get_or kinds i k) (get_or fields i f) ∷ drop (i + 1) (cells_with o kinds fields)
cells_at o kinds fields i k f in_kinds in_fields =
    cells_from o kinds fields i k f in_kinds in_fields ∙ ap (λ n. cell_of o (get_or kinds i k) (get_or fields i f) ∷ drop n (cells_with o kinds fields)) (sym (add-one i))

kind_at : (schema : List Field) (i : ℕ) (field : Field) → slice_get schema i ≡ Some field → get_or (kinds_of schema) i field.kind ≡ field.kind
kind_at [] i field is = refl
kind_at (f ∷ schema) zero field is = let same : f ≡ field = cc in ap (λ (x : Field). x.kind) same
kind_at (f ∷ schema) (suc i) field is = kind_at schema i field is

-- the cell of a field that is looked at under a column
pub cells_here : (o : Dialect) (schema : List Field) (fields : List CsvField) (i : ℕ) (field : Field) (f : CsvField) → i < length schema → i < length fields
    → slice_get schema i ≡ Some field → f ≡ get_or fields i f
    → drop i (cells_with o (kinds_of schema) fields) ≡ cell_of o field.kind f ∷ drop (i + 1) (cells_with o (kinds_of schema) fields)
cells_here o schema fields i field f in_schema in_fields is_field is_f =
    let width = length-map schema (λ (x : Field). x.kind) in
    cells_at o (kinds_of schema) fields i field.kind f (omega arith) in_fields
    ∙ ap (λ k. cell_of o k (get_or fields i f) ∷ drop (i + 1) (cells_with o (kinds_of schema) fields)) (kind_at schema i field is_field)
    ∙ ap (λ x. cell_of o field.kind x ∷ drop (i + 1) (cells_with o (kinds_of schema) fields)) (sym is_f)

-- or of one that is not
pub cells_passed : (o : Dialect) (schema : List Field) (fields : List CsvField) (i : ℕ) → i < length schema → i < length fields
    → (c : CsvCell) × (drop i (cells_with o (kinds_of schema) fields) ≡ c ∷ drop (i + 1) (cells_with o (kinds_of schema) fields))
cells_passed o schema fields i in_schema in_fields =
    let width = length-map schema (λ (x : Field). x.kind) in
    let blank : CsvField = record { quoted = false; bytes = [] } in
    (cell_of o (get_or (kinds_of schema) i types.Int) (get_or fields i blank), cells_at o (kinds_of schema) fields i types.Int blank (omega arith) in_fields)

-- the row of a record without bytes
pub none_of_nothing : (used : List Bool) (kinds : List ColType) → length used ≡ length kinds → (length used ≡ 1 → ⊥) → row_of_nothing kinds ≡ NoRow
none_of_nothing used [] same other = refl
none_of_nothing used (kind ∷ []) same other = absurd (other same)
none_of_nothing used (kind ∷ next ∷ kinds) same other = refl

pub row_of_one : (used : List Bool) (kinds : List ColType) (row : Row) → length used ≡ length kinds → length used ≡ 1 → used_values used (Good values.Null ∷ []) ≡ Some row
    → (cells : List CsvCell) × (row_of_nothing kinds ≡ IsRow cells) × (used_values used cells ≡ Some row)
row_of_one used [] row same one is = absurd (omega arith)
row_of_one used (kind ∷ []) row same one is = (Good values.Null ∷ [], refl, is)
row_of_one used (kind ∷ next ∷ kinds) row same one is = absurd (omega arith)

pub null_used : (used : List Bool) → length used ≡ 1 → get_or used 0 false ≡ true → used_values used (Good values.Null ∷ []) ≡ Some (values.Null ∷ [])
null_used [] one is = absurd (omega arith)
null_used (true ∷ []) one is = refl
null_used (false ∷ []) one is = cc
null_used (u ∷ v ∷ used) one is = absurd (omega arith)

pub null_unused : (used : List Bool) → length used ≡ 1 → get_or used 0 false ≡ false → used_values used (Good values.Null ∷ []) ≡ Some []
null_unused [] one is = absurd (omega arith)
null_unused (true ∷ []) one is = cc
null_unused (false ∷ []) one is = refl
null_unused (u ∷ v ∷ used) one is = absurd (omega arith)

pub gives_nothing : (o : Dialect) (kinds : List ColType) (used : List Bool) (fields : List CsvField) (row : PlainRow) → is_empty fields ≡ true → GivesRow (row_of_nothing kinds) used row
    → GivesRow (row_of o kinds (Fields fields)) used row
gives_nothing o kinds used fields row empty gives = rw empty gives

-- values in front of those that are found
abbrev pub fronted : Row → Option Row → Option Row
fronted front None = None
fronted front (Some row) = Some (front ++ row)

pub values_nil : (found : Option Row) → fronted [] found ≡ found
values_nil None = refl
values_nil (Some row) = refl

with_held : (front : Row) (v : Value) (used : List Bool) (cells : List CsvCell) (found : Option Row) → used_values used cells ≡ found
    → fronted front (used_values (true ∷ used) (Good v ∷ cells)) ≡ fronted (front ++ v ∷ []) (used_values used cells)
with_held front v used cells None found = rw found refl
with_held front v used cells (Some row) found = rw found (ap Some (sym (append_assoc front (v ∷ []) row)))

-- what is left of the values from a place on
abbrev pub from_place : List Bool → List CsvCell → Row → ℕ → Option Row
from_place used cells front i = fronted front (used_values (drop i used) (drop i cells))

from_step : (used : List Bool) (cells : List CsvCell) (front : Row) (i : ℕ) (u : Bool) (c : CsvCell) → i < length used → get_or used i false ≡ u
    → drop i cells ≡ c ∷ drop (i + 1) cells → from_place used cells front i ≡ fronted front (used_values (u ∷ drop (i + 1) used) (c ∷ drop (i + 1) cells))
from_step used cells front i u c within is_u is_c =
    ap (λ cs. fronted front (used_values (drop i used) cs)) is_c
    ∙ ap (λ us. fronted front (used_values us (c ∷ drop (i + 1) cells))) (drop_more used i false within ∙ ap (λ x. x ∷ drop (i + 1) used) is_u)

pub from_skip : (used : List Bool) (cells : List CsvCell) (front : Row) (i : ℕ) (c : CsvCell) → i < length used → get_or used i false ≡ false
    → drop i cells ≡ c ∷ drop (i + 1) cells → from_place used cells front (i + 1) ≡ from_place used cells front i
from_skip used cells front i c within is_u is_c = sym (from_step used cells front i false c within is_u is_c)

pub from_value : (used : List Bool) (cells : List CsvCell) (front : Row) (i : ℕ) (c : CsvCell) (v : Value) → i < length used → get_or used i false ≡ true
    → drop i cells ≡ c ∷ drop (i + 1) cells → c ≡ Good v → from_place used cells (front ++ v ∷ []) (i + 1) ≡ from_place used cells front i
from_value used cells front i c v within is_u is_c held =
    sym (from_step used cells front i true c within is_u is_c
    ∙ ap (λ x. fronted front (used_values (true ∷ drop (i + 1) used) (x ∷ drop (i + 1) cells))) held
    ∙ with_held front v (drop (i + 1) used) (drop (i + 1) cells) _ refl)

pub from_bad : (used : List Bool) (cells : List CsvCell) (front : Row) (i : ℕ) (c : CsvCell) → i < length used → get_or used i false ≡ true
    → drop i cells ≡ c ∷ drop (i + 1) cells → c ≡ Bad → from_place used cells front i ≡ None
from_bad used cells front i c within is_u is_c bad =
    from_step used cells front i true c within is_u is_c ∙ ap (λ x. fronted front (used_values (true ∷ drop (i + 1) used) (x ∷ drop (i + 1) cells))) bad

-- at the end of the used columns nothing is left
pub from_end : (used : List Bool) (cells : List CsvCell) (front : Row) (i : ℕ) → length used ≤ i → from_place used cells front i ≡ Some front
from_end used cells front i past = ap (λ us. fronted front (used_values us (drop i cells))) (drop_all i used past) ∙ ap Some (append-nil front)

-- a row that is put value by value
abbrev pub put_to : ℕ → List Values → Row → List Values
put_to i columns row = take i columns ++ with_values (drop i columns) (drop i row)

pub put_value : (columns : List Values) (row : Row) (i : ℕ) (column new : Values) (v d : Value) → i < length columns → i < length row
    → column ≡ get_or columns i column → v ≡ get_or row i d → new ≡ record column { values = column.values ++ v ∷ [] }
    → put_to (i + 1) (set columns i new) row ≡ put_to i columns row
put_value columns row i column new v d in_columns in_row is_column is_v put =
    let rest : List Values = with_values (drop (i + 1) columns) (drop (i + 1) row) in
    ap (λ front. front ++ with_values (drop (i + 1) (set columns i new)) (drop (i + 1) row)) (take_more_set columns i new in_columns)
    ∙ ap (λ cs. (take i columns ++ new ∷ []) ++ with_values cs (drop (i + 1) row)) (drop-set-lt (i + 1) columns i new (omega arith))
    ∙ append_assoc (take i columns) (new ∷ []) rest
    ∙ ap (λ c. take i columns ++ c ∷ rest) put
    ∙ sym (ap (λ cs. take i columns ++ with_values cs (drop i row)) (drop_more columns i column in_columns ∙ ap (λ c. c ∷ drop (i + 1) columns) (sym is_column))
    ∙ ap (λ vs. take i columns ++ with_values (column ∷ drop (i + 1) columns) vs) (drop_more row i d in_row ∙ ap (λ x. x ∷ drop (i + 1) row) (sym is_v)))

-- the types of what is left
pub fits_at : (columns : List Values) (row : Row) (i : ℕ) (column : Values) (d : Value) → i < length columns → i < length row → column ≡ get_or columns i column
    → FitsRow (column_kinds (drop i columns)) (drop i row) → IsOfType column.kind (get_or row i d) × FitsRow (column_kinds (drop (i + 1) columns)) (drop (i + 1) row)
fits_at columns row i column d in_columns in_row is_column fits =
    let P : List Values → Type 0 = λ cs. FitsRow (column_kinds cs) (drop i row) in
    let Q : List Value → Type 0 = λ vs. FitsRow (column_kinds (column ∷ drop (i + 1) columns)) vs in
    subst Q (drop_more row i d in_row) (subst P (drop_more columns i column in_columns ∙ ap (λ c. c ∷ drop (i + 1) columns) (sym is_column)) fits)

pub fits-length : (columns : List Values) (row : Row) → FitsRow (column_kinds columns) row → length row ≡ length columns
fits-length [] [] fits = refl
fits-length [] (v ∷ row) fits = absurd fits
fits-length (column ∷ columns) [] fits = absurd fits
fits-length (column ∷ columns) (v ∷ row) fits = ap suc (fits-length columns row fits.1)

-- every column is chosen
pub chosen-trues : {A : Type 0} (xs : List A) → chosen (replicate (length xs) true) xs ≡ xs
chosen-trues [] = refl
chosen-trues (x ∷ xs) = ap (λ ys. x ∷ ys) (chosen-trues xs)

with_row-trues : (columns : List Values) (row : Row) → with_row (replicate (length columns) true) columns row ≡ with_values columns row
with_row-trues [] row = refl
with_row-trues (column ∷ columns) [] = refl
with_row-trues (column ∷ columns) (v ∷ row) =
    let new : Values = record column { values = column.values ++ v ∷ [] } in ap (λ cs. new ∷ cs) (with_row-trues columns row)

gains_all : (old : List Values) (row : Option Row) (rows : ℕ) (new : List Values) → GainsValues old row rows new → steps.GainsRow (replicate (length old) true) old row rows new
gains_all old None rows new gains = gains
gains_all old (Some row) rows new (one, width, is) = (one, width ∙ sym (ap length (chosen-trues old)), is ∙ sym (with_row-trues old row))

-- how far reading into the used columns alone has come
abbrev pub PlainSo : Read → ℕ → List ColType → ℕ → List Values → Read → Type 0
PlainSo total width kinds height columns later = ReadSo total (replicate width true) kinds height columns later

pub plain_more : (total : Read) (width : ℕ) (kinds : List ColType) (height rows at : ℕ) (columns new : List Values) (before later : Read) (row : Option Row)
    → PlainSo total width kinds height columns before → GainsValues columns row rows new → before ≡ row_first at row later → PlainSo total width kinds (height + rows) new later
plain_more total width kinds height rows at columns new before later row so_far gains is =
    let same : length columns ≡ width = sym so_far.width ∙ length-replicate width true in
    let P : ℕ → Type 0 = λ n. steps.GainsRow (replicate n true) columns row rows new in
    read_more total before later (replicate width true) kinds height rows at columns new row so_far (subst P same (gains_all columns row rows new gains)) is

-- a step of reading, from the step of one record
pub plain_step : (total : Read) (width : ℕ) (kinds ks : List ColType) (o : Dialect) (used : List Bool) (n k height rows at next : ℕ) (head awaits_header : Bool) (rest after : List ℕ)
    (columns new : List Values) (row : Option Row) → k ≡ suc n → PlainSo total width kinds height columns (left k o ks used head at rest) → GainsValues columns row rows new
    → ((m : ℕ) → left (suc m) o ks used head at rest ≡ row_first at row (left m o ks used awaits_header next after))
    → PlainSo total width kinds (height + rows) new (left n o ks used awaits_header next after)
plain_step total width kinds ks o used n k height rows at next head awaits_header rest after columns new row one_more so_far gains step =
    plain_more total width kinds height rows at columns new (left k o ks used head at rest) (left n o ks used awaits_header next after) row so_far gains
    (ap (λ m. left m o ks used head at rest) one_more ∙ step n)

pub plain_refused : (file : ℕ) (total : Read) (width : ℕ) (kinds ks : List ColType) (o : Dialect) (used : List Bool) (n k height at : ℕ) (head : Bool) (rest : List ℕ)
    (columns : List Values) (fault : Fault) → k ≡ suc n → PlainSo total width kinds height columns (left k o ks used head at rest)
    → ((m : ℕ) → IsRefused file (left (suc m) o ks used head at rest).refusal fault) → IsRefused file total.refusal fault
plain_refused file total width kinds ks o used n k height at head rest columns fault one_more so_far step =
    let P : Read → Type 0 = λ r. IsRefused file r.refusal fault in
    read_refused file total (left k o ks used head at rest) (replicate width true) kinds columns height fault so_far
    (subst P (sym (ap (λ m. left m o ks used head at rest) one_more)) (step n))

-- before the first record
pub plain_start : (total : Read) (columns : List Values) → AreHigh 0 columns → PlainSo total (length columns) (column_kinds columns) 0 columns total
plain_start total columns high =
    read_start total (replicate (length columns) true) columns (subst (AreHigh 0) (sym (chosen-trues columns)) high) (length-replicate (length columns) true)

-- after the last
pub left_nil : (n : ℕ) (o : Dialect) (ks : List ColType) (used : List Bool) (head : Bool) (at : ℕ) (text : List ℕ) → length text ≡ 0 → left n o ks used head at text ≡ read_of used (ends head)
left_nil zero o ks used head at [] none = refl
left_nil (suc n) o ks used head at [] none = refl
left_nil n o ks used head at (b ∷ bs) none = absurd (omega arith)

pub left_zero : (n : ℕ) (o : Dialect) (ks : List ColType) (used : List Bool) (head : Bool) (at : ℕ) (text : List ℕ) → n ≡ 0 → left n o ks used head at text ≡ read_of used (ends head)
left_zero zero o ks used head at [] none = refl
left_zero zero o ks used head at (b ∷ bs) none = refl
left_zero (suc n) o ks used head at text none = absurd (omega arith)

pub plain_end : (total : Read) (width : ℕ) (kinds : List ColType) (used : List Bool) (height : ℕ) (columns : List Values) (head : Bool) (later : Read)
    → PlainSo total width kinds height columns later → later ≡ read_of used (ends head)
    → (total.refusal ≡ None) × (map (λ (r : ℕ × Row). r.1) total.rows ≡ rows_of height columns) × (total.head ≡ head) × AreHigh height columns × (column_kinds columns ≡ kinds)
plain_end total width kinds used height columns head later so_far is =
    let same : length columns ≡ width = sym so_far.width ∙ length-replicate width true in
    let all : chosen (replicate width true) columns ≡ columns = ap (λ n. chosen (replicate n true) columns) (sym same) ∙ chosen-trues columns in (
      so_far.follows.refusal ∙ ap (λ (r : Read). r.refusal) is,
      so_far.follows.rows ∙ ap (λ (r : Read). rows_of height (chosen (replicate width true) columns) ++ map (λ (x : ℕ × Row). x.1) r.rows) is
          ∙ append-nil (rows_of height (chosen (replicate width true) columns)) ∙ ap (rows_of height) all,
      so_far.follows.head ∙ ap (λ (r : Read). r.head) is,
      subst (AreHigh height) all so_far.high,
      so_far.kinds,
    )

pub gains_one : (old new : List Values) (row : Option Row) (rows : ℕ) → GainsValues old row rows new → rows ≤ 1
gains_one old new None rows gains = omega (arith, gains.0)
gains_one old new (Some row) rows gains = omega (arith, gains.0)

-- the chosen fields and their columns
pub kinds_of-chosen : (used : List Bool) (fields : List Field) → kinds_of (chosen used fields) ≡ chosen used (kinds_of fields)
kinds_of-chosen [] fields = refl
kinds_of-chosen (u ∷ used) [] = refl
kinds_of-chosen (true ∷ used) (f ∷ fields) = ap (λ ks. f.kind ∷ ks) (kinds_of-chosen used fields)
kinds_of-chosen (false ∷ used) (f ∷ fields) = kinds_of-chosen used fields

pub high-none : (fields : List Field) → AreHigh 0 (empty_columns fields)
high-none [] = tt
high-none (f ∷ fields) = (refl, high-none fields)

pub fit-all : (fields : List Field) (height : ℕ) (columns : List Values) → column_kinds columns ≡ kinds_of fields → AreHigh height columns → Fit fields height columns
fit-all [] height [] same high = tt
fit-all [] height (column ∷ columns) same high = absurd (cc)
fit-all (f ∷ fields) height [] same high = absurd (cc)
fit-all (f ∷ fields) height (column ∷ columns) same high = (cc, high.0, fit-all fields height columns (cc) high.1)
