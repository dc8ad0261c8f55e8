-- Fields before marks, and columns of them with a cell more.
use Rattle.std.proofs.Common.{◌≡◌, ◌≢◌, refl, ℕ, zero, suc, ◌+◌, ◌-◌, ◌*◌, ◌<◌, ◌≤◌, ◌∙◌, sym, ap, subst, arith, Bool, true, false, ◌==◌, List, [], ◌∷◌, ◌++◌, length, length-append, get_or, map, Option, Some, None}
use Rattle.std.specs.Prelude.{if◌then◌else◌}
use Rattle.std.proofs.lemmas.List.{map-append, length-map}
use Rattle.morsel_meaning.specs.declared.value.ColType.{ColType}
use Rattle.morsel_meaning.specs.declared.value.Value.{Value}
use Rattle.morsel_meaning.specs.declared.value.Value.TheVariants as values
use Rattle.morsel_frame.specs.Columns.{Values, masked}
use Rattle.morsel_grammar.specs.Dialect.{Dialect, IsDialect}
use Rattle.morsel_grammar.specs.Grammar.{CsvField, BeginsUnquoted}
use Rattle.morsel_grammar.specs.Cells.{CsvCell, Good, Bad, cell_of}
use Rattle.morsel_grammar.specs.Split.{is_quote, last_field}
use Rattle.morsel_grammar.proofs.ByteLemmas.{bytes_differ}
use Rattle.morsel_marks.specs.Marks.{is_well_quoted, field_ends}
use Rattle.morsel_marks.specs.ByMarks.{begin_after, field_bytes, marked_field, whole_field}
use Rattle.morsel_marks.proofs.WalkLemmas.{walk_step, walk_all}
use Rattle.morsel_marks.proofs.ReadLemmas.{sound_of, keeps_plain_fields}
use Rattle.morsel_text.specs.RawFields.{shown}
use Rattle.morsel_text.specs.Pushes.{with_cell}
use Rattle.morsel_text.specs.MarkedColumns.{shown_field, field_before, column_fields, field_or_empty}
use Rattle.morsel_text.proofs.IntColumnLemmas.{masked_more}
use Rattle.morsel_text.specs.declared.raw_field.RawField.{RawField}

-- the place after the mark before
pub begin_after_mark : (marks : List ℕ) (j : ℕ) → 0 < j → begin_after marks j ≡ get_or marks (j - 1) 0 + 1
begin_after_mark marks zero some = absurd (omega arith)
begin_after_mark marks (suc j) some = let same : j ≡ suc j - 1 = omega arith in ap (λ (k : ℕ). get_or marks k 0 + 1) same

-- where a field begins and ends
pub record FieldBounds (text marks : List ℕ) (j : ℕ) : Type 0 where
  pub begins : begin_after marks j ≤ get_or marks j 0
  pub ends : get_or marks j 0 < length text

pub field_bounds : (o : Dialect) (text marks : List ℕ) (j : ℕ) → IsDialect o → is_well_quoted o text ≡ true → marks ≡ field_ends o text → j < length marks → FieldBounds text marks j
field_bounds o text marks j fit quoted is below =
    let walk = walk_all o text marks fit is (sound_of o text quoted) j (omega arith) in
    let field = (walk_step o text marks j fit below walk).0 in
    record { begins = field.from; ends = field.below }

-- bytes that are none, or of which the first is no quote
pub first_unquoted : (quote : Option ℕ) (raw : List ℕ) → (0 < length raw → is_quote quote (get_or raw 0 0) ≡ false) → BeginsUnquoted quote raw
first_unquoted None raw other = tt
first_unquoted (Some q) [] other = tt
first_unquoted (Some q) (b ∷ bs) other = bytes_differ b q (other (omega arith))

-- a field without quotes is the bytes before its mark
pub plain_marked : (o : Dialect) (is_last : Bool) (text marks : List ℕ) (j : ℕ) → IsDialect o → is_well_quoted o text ≡ true → marks ≡ field_ends o text → j < length marks
    → BeginsUnquoted o.quote (field_bytes text marks j)
    → (let f : CsvField = record { quoted = false; bytes = field_bytes text marks j } in marked_field o is_last text marks j ≡ Some (if is_last then last_field o f else f))
plain_marked o is_last text marks j fit quoted is below plain =
    subst (λ (ms : List ℕ). j < length ms → BeginsUnquoted o.quote (field_bytes text ms j)
    → (let f : CsvField = record { quoted = false; bytes = field_bytes text ms j } in marked_field o is_last text ms j ≡ Some (if is_last then last_field o f else f)))
    (sym is) (by is_last) below plain
  where
    by : (t : Bool) → j < length (field_ends o text) → BeginsUnquoted o.quote (field_bytes text (field_ends o text) j)
        → (let f : CsvField = record { quoted = false; bytes = field_bytes text (field_ends o text) j } in marked_field o t text (field_ends o text) j ≡ Some (if t then last_field o f else f))
    by true within unquoted = (keeps_plain_fields o fit text j quoted within unquoted).1
    by false within unquoted = (keeps_plain_fields o fit text j quoted within unquoted).0

-- what is shown of a field without quotes is the field before its mark
pub plain_shown : (o : Dialect) (is_last : Bool) (text marks : List ℕ) (j : ℕ) → IsDialect o → is_well_quoted o text ≡ true → marks ≡ field_ends o text → j < length marks
    → (raw : List ℕ) → raw ≡ field_bytes text marks j → BeginsUnquoted o.quote raw
    → (g : CsvField) → (let f : CsvField = record { quoted = false; bytes = raw } in g ≡ (if is_last then last_field o f else f))
    → Some g ≡ marked_field o is_last text marks j
plain_shown o is_last text marks j fit quoted is within raw same unquoted g shown =
    ap Some (shown ∙ ap (λ (bytes : List _). let f : CsvField = record { quoted = false; bytes = bytes } in let g : CsvField = if is_last then last_field o f else f in g) same)
    ∙ sym (plain_marked o is_last text marks j fit quoted is within (subst (BeginsUnquoted o.quote) same unquoted))

-- a field that nothing follows
pub whole_alone : (o : Dialect) (is_last : Bool) (f : CsvField) (rest : List ℕ) → length rest ≡ 0 → whole_field o is_last (Some (f, rest)) ≡ Some (if is_last then last_field o f else f)
whole_alone o true f [] none = refl
whole_alone o false f [] none = refl
whole_alone o is_last f (b ∷ bs) none = absurd (omega arith)

-- a byte after another field than the last of its record
pub whole_not_last : (o : Dialect) (f : CsvField) (rest : List ℕ) → 0 < length rest → whole_field o false (Some (f, rest)) ≡ None
whole_not_last o f [] some = absurd (omega arith)
whole_not_last o f (b ∷ []) some = refl
whole_not_last o f (b ∷ c ∷ bs) some = refl

-- more than one byte
pub whole_not_one : (o : Dialect) (is_last : Bool) (f : CsvField) (rest : List ℕ) → 0 < length rest → length rest ≢ 1 → whole_field o is_last (Some (f, rest)) ≡ None
whole_not_one o is_last f [] some other = absurd (omega arith)
whole_not_one o is_last f (b ∷ []) some other = absurd (other refl)
whole_not_one o is_last f (b ∷ c ∷ bs) some other = refl

-- one byte after the last field
pub whole_one : (o : Dialect) (f : CsvField) (rest : List ℕ) (s t : Bool) → length rest ≡ 1 → (get_or rest 0 0 == 13) ≡ s → (o.eol == 10) ≡ t
    → whole_field o true (Some (f, rest)) ≡ (if s then (if t then Some (last_field o f) else None) else None)
whole_one o f [] s t one is_return is_line = absurd (omega arith)
whole_one o f (b ∷ []) true true one is_return is_line = rw (is_return, is_line) refl
whole_one o f (b ∷ []) true false one is_return is_line = rw (is_return, is_line) refl
whole_one o f (b ∷ []) false t one is_return is_line = rw is_return refl
whole_one o f (b ∷ c ∷ bs) s t one is_return is_line = absurd (omega arith)

-- what a field that was found says
pub shown_before : (o : Dialect) (is_last : Bool) (text marks : List ℕ) (j : ℕ) (found : Option RawField) (f : RawField)
    → shown_field found ≡ marked_field o is_last text marks j → found ≡ Some f → shown f ≡ field_before o is_last text marks j
shown_before o is_last text marks j found f is some = ap (λ r. field_or_empty (shown_field r)) (sym some) ∙ ap field_or_empty is

-- a mark of a row
pub row_mark : (row rows width first j n : ℕ) → row < rows → first < width → j ≡ row * width + first → n ≡ rows * width → j + width < n + width
row_mark zero zero width first j n below less at is = absurd (omega arith)
row_mark zero (suc rows) width first j n below less at is = omega arith
row_mark (suc row) zero width first j n below less at is = absurd (omega arith)
row_mark (suc row) (suc rows) width first j n below less at is = omega (arith, row_mark row rows width first (row * width + first) (rows * width) (omega arith) less refl refl)

-- the mark of the row after it
pub next_mark : (row width first j : ℕ) → j ≡ row * width + first → j + width ≡ (row + 1) * width + first
next_mark row width first j at = omega arith

-- one row more in a column
pub column_fields-more : (o : Dialect) (is_last : Bool) (text marks : List ℕ) (first width row j : ℕ) → j ≡ row * width + first
    → column_fields o is_last text marks first width (row + 1) ≡ column_fields o is_last text marks first width row ++ field_before o is_last text marks j ∷ []
column_fields-more o is_last text marks first width row j at =
    let one : row + 1 ≡ suc row = omega arith in
    ap (column_fields o is_last text marks first width) one
    ∙ ap (λ (k : ℕ). column_fields o is_last text marks first width row ++ field_before o is_last text marks k ∷ []) (sym at)

-- a column with a cell more
pub cells_more : {A : Type 0} (wrap : A → Value) (o : Dialect) (kind : ColType) (fields : List CsvField) (f : CsvField) (valid : List Bool) (items : List A) (b : Bool) (x : A)
    → map Good (masked valid (map wrap items)) ≡ map (cell_of o kind) fields → length valid ≡ length items
    → cell_of o kind f ≡ Good (if b then wrap x else values.Null)
    → map Good (masked (valid ++ b ∷ []) (map wrap (items ++ x ∷ []))) ≡ map (cell_of o kind) (fields ++ f ∷ [])
cells_more wrap o kind fields f valid items b x is same cell =
    ap (λ (vs : List Value). map Good (masked (valid ++ b ∷ []) vs)) (map-append wrap items (x ∷ []))
    ∙ ap (map Good) (masked_more valid (map wrap items) b (wrap x) (same ∙ sym (length-map items wrap)))
    ∙ map-append Good (masked valid (map wrap items)) ((if b then wrap x else values.Null) ∷ [])
    ∙ ap (λ (cs : List CsvCell). cs ++ Good (if b then wrap x else values.Null) ∷ []) is
    ∙ ap (λ (c : CsvCell). map (cell_of o kind) fields ++ c ∷ []) (sym cell)
    ∙ sym (map-append (cell_of o kind) fields (f ∷ []))

pub record CellsMore {A : Type 0} (wrap : A → Value) (o : Dialect) (kind : ColType) (fields : List CsvField) (valid : List Bool) (items : List A) : Type 0 where
  pub cells : map Good (masked valid (map wrap items)) ≡ map (cell_of o kind) fields
  pub width : length valid ≡ length items

pub cells_next : {A : Type 0} (wrap : A → Value) (o : Dialect) (kind : ColType) (is_last : Bool) (text marks : List ℕ) (first width row j : ℕ) (valid new : List Bool) (items more : List A) (b : Bool) (x : A)
    → CellsMore wrap o kind (column_fields o is_last text marks first width row) valid items → j ≡ row * width + first
    → cell_of o kind (field_before o is_last text marks j) ≡ Good (if b then wrap x else values.Null) → new ≡ valid ++ b ∷ [] → more ≡ items ++ x ∷ []
    → CellsMore wrap o kind (column_fields o is_last text marks first width (row + 1)) new more
cells_next wrap o kind is_last text marks first width row j valid new items more b x is at cell is_new is_more =
    let f = field_before o is_last text marks j in
    let fields = column_fields o is_last text marks first width row in
    record {
      cells = ap (λ (xs : List Bool). map Good (masked xs (map wrap more))) is_new
          ∙ ap (λ (xs : List _). map Good (masked (valid ++ b ∷ []) (map wrap xs))) is_more
          ∙ cells_more wrap o kind fields f valid items b x is.cells is.width cell
          ∙ ap (map (cell_of o kind)) (sym (column_fields-more o is_last text marks first width row j at));
      width = ap length is_new ∙ length-append valid (b ∷ []) ∙ ap (λ (k : ℕ). k + 1) is.width ∙ sym (length-append items (x ∷ [])) ∙ ap length (sym is_more);
    }

-- a column of the values of so many fields
pub record HasCells (o : Dialect) (kind : ColType) (fields : List CsvField) (column : Values) : Type 0 where
  pub kind_is : column.kind ≡ kind
  pub cells : map Good column.values ≡ map (cell_of o kind) fields

value_held : (o : Dialect) (kind : ColType) (fields : List CsvField) (f : CsvField) (column : Values) (v : Value) → HasCells o kind fields column → cell_of o kind f ≡ Good v
    → HasCells o kind (fields ++ f ∷ []) (record column { values = column.values ++ v ∷ [] })
value_held o kind fields f column v is cell = record {
  kind_is = is.kind_is;
  cells = map-append Good column.values (v ∷ []) ∙ ap (λ (cs : List CsvCell). cs ++ Good v ∷ []) is.cells
      ∙ ap (λ (c : CsvCell). map (cell_of o kind) fields ++ c ∷ []) (sym cell) ∙ sym (map-append (cell_of o kind) fields (f ∷ []));
}

value_put : (o : Dialect) (kind : ColType) (fields : List CsvField) (f : CsvField) (column new : Values) (cell : CsvCell) → HasCells o kind fields column
    → cell_of o kind f ≡ cell → with_cell cell column ≡ Some new → HasCells o kind (fields ++ f ∷ []) new
value_put o kind fields f column new (Good v) is cell put =
    let same : (let filled : Values = record column { values = column.values ++ v ∷ [] } in filled ≡ new) = cc in
    subst (HasCells o kind (fields ++ f ∷ [])) same (value_held o kind fields f column v is cell)
value_put o kind fields f column new Bad is cell put = absurd (cc)

-- a column with the value of one row more
pub value_next : (o : Dialect) (kind : ColType) (is_last : Bool) (text marks : List ℕ) (first width row j : ℕ) (column new : Values)
    → HasCells o kind (column_fields o is_last text marks first width row) column → j ≡ row * width + first
    → with_cell (cell_of o column.kind (field_before o is_last text marks j)) column ≡ Some new → HasCells o kind (column_fields o is_last text marks first width (row + 1)) new
value_next o kind is_last text marks first width row j column new is at put =
    let f = field_before o is_last text marks j in
    let fields = column_fields o is_last text marks first width row in
    subst (λ (fs : List CsvField). HasCells o kind fs new) (sym (column_fields-more o is_last text marks first width row j at))
    (value_put o kind fields f column new (cell_of o kind f) is refl (ap (λ (k : ColType). with_cell (cell_of o k f) column) (sym is.kind_is) ∙ put))
