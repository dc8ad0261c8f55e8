-- A text of rows read row by row, each field between its marks.
use Rattle.std.proofs.Common.{◌≡◌, refl, ℕ, zero, suc, ◌+◌, ◌-◌, ◌*◌, ◌<◌, ◌≤◌, ◌∙◌, sym, ap, subst, arith, Bool, true, false, not, ◌||◌, ◌==◌, List, [], ◌∷◌, length, get_or, take, drop, length-drop, drop-drop, Option, Some, None}
use Rattle.std.specs.Prelude.{if◌then◌else◌, IsUtf8}
use Rattle.std.specs.Str.{is_utf8}
use Rattle.std.proofs.lemmas.Bool.{and_parts, eqb-true}
use Rattle.std.proofs.lemmas.List.{get_or-drop, drop_all}
use Rattle.std.proofs.lemmas.Str.{IsUtf8-take, IsUtf8-drop, IsCharBoundary-after_ascii, is_utf8-from_IsUtf8}
use Rattle.morsel_meaning.specs.declared.value.ColType.{ColType}
use Rattle.morsel_grammar.specs.Dialect.{Dialect, IsDialect}
use Rattle.morsel_grammar.specs.Grammar.{CsvField, CsvRecord, Fields, BeginsUnquoted}
use Rattle.morsel_grammar.specs.Rows.{row_of, is_header}
use Rattle.morsel_grammar.specs.Split.{is_quote, stops, fields_record, record_at}
use Rattle.morsel_grammar.specs.Reading.{NotUtf8, Reading, ends, refuses, row_then, split_then, reading_up_to}
use Rattle.morsel_grammar.proofs.ByteLemmas.{other_byte}
use Rattle.morsel_marks.specs.Marks.{field_start, is_well_quoted, field_ends}
use Rattle.morsel_marks.specs.ByMarks.{begin_after, AreMarksWithin, AreRowMarks, row_fields, with_rest, field_bytes, whole_field}
use Rattle.morsel_marks.specs.MarkedRows.{fields_row_then, marked_reading, SplitsAtMarks, SplitsMarkedRows, KeepsMarksWithin, ReadsAtMarks, KeepsPlainFields}
use Rattle.morsel_marks.proofs.BridgeLemmas.{Sound, BeginsPlain, record_found}
use Rattle.morsel_marks.proofs.WalkLemmas.{Walk, walk_step, walk_all, marks_within, row_record}

pub sound_of : (o : Dialect) (text : List ℕ) → is_well_quoted o text ≡ true → Sound o field_start text
sound_of o text is = (and_parts _ _ is).0

pub splits_at_marks : (o : Dialect) → IsDialect o → o.comment ≡ None → SplitsAtMarks o
splits_at_marks o fit plain = λ text is. record_found o text fit plain (sound_of o text is)

pub splits_rows : (o : Dialect) → IsDialect o → o.comment ≡ None → SplitsMarkedRows o
splits_rows o fit plain = λ text j w is within row.
    row_record o text (field_ends o text) j w fit plain (walk_all o text (field_ends o text) fit refl (sound_of o text is) j within) row

pub keeps_marks_within : (o : Dialect) → IsDialect o → KeepsMarksWithin o
keeps_marks_within o fit = λ text is. marks_within o text (field_ends o text) fit refl (sound_of o text is)

-- a text that is walked from mark to mark
pub record IsWalked (o : Dialect) (text marks : List ℕ) : Type 0 where
  pub fit : IsDialect o
  pub no_comment : o.comment ≡ None
  pub walks : (j : ℕ) → j ≤ length marks → Walk o text marks j

-- the places where fields begin rise
begins_rise : (o : Dialect) (text marks : List ℕ) (j k : ℕ) → IsWalked o text marks → j + k ≤ length marks → begin_after marks j ≤ begin_after marks (j + k)
begins_rise o text marks j zero walked within = let same : j + 0 ≡ j = omega arith in subst (λ (i : ℕ). begin_after marks j ≤ begin_after marks i) (sym same) (omega arith)
begins_rise o text marks j (suc k) walked within =
    let one : j + suc k ≡ suc (j + k) = omega arith in
    let before = begins_rise o text marks j k walked (omega arith) in
    let field = (walk_step o text marks (j + k) walked.fit (omega arith) (walked.walks (j + k) (omega arith))).0 in
    subst (λ (i : ℕ). begin_after marks j ≤ begin_after marks i) (sym one) (omega (arith, before, field.from))

-- the last mark of a row is an eol byte
eol_of : (o : Dialect) (b : ℕ) → IsDialect o → stops o b ≡ true → (b == o.separator) ≡ false → b < 128
eol_of o b fit stop other =
    let is : (b == o.eol) ≡ true = sym (ap (λ (t : Bool). t || b == o.eol) other) ∙ stop in
    omega (arith, eqb-true b o.eol is, fit.eol_ascii)

-- a row has bytes, and lies in the text
pub record RowBounds (text marks : List ℕ) (j w : ℕ) : Type 0 where
  pub some : begin_after marks j < begin_after marks (j + w + 1)
  pub within : begin_after marks (j + w + 1) ≤ length text

pub row_bounds : (o : Dialect) (text marks : List ℕ) (j w : ℕ) → IsWalked o text marks → AreRowMarks o.separator text marks j w → RowBounds text marks j w
row_bounds o text marks j w walked row =
    let end : j + w + 1 ≡ suc (j + w) = omega arith in
    let end_is : begin_after marks (j + w + 1) ≡ get_or marks (j + w) 0 + 1 = ap (begin_after marks) end in
    let field = (walk_step o text marks (j + w) walked.fit row.enough (walked.walks (j + w) (omega (arith, row.enough)))).0 in
    let rise = begins_rise o text marks j w walked (omega (arith, row.enough)) in
    record { some = omega (arith, end_is, rise, field.from); within = omega (arith, end_is, field.below) }

-- the bytes of a row are UTF-8, and so is what follows them
record RowBytes (text marks : List ℕ) (j w : ℕ) : Type 0 where
  bytes : is_utf8 (take (begin_after marks (j + w + 1) - begin_after marks j) (drop (begin_after marks j) text)) ≡ true
  rest : IsUtf8 (drop (begin_after marks (j + w + 1)) text)

row_bytes : (o : Dialect) (text marks : List ℕ) (j w : ℕ) → IsWalked o text marks → AreRowMarks o.separator text marks j w → IsUtf8 (drop (begin_after marks j) text) → RowBytes text marks j w
row_bytes o text marks j w walked row utf8 =
    let p = begin_after marks j in
    let m = get_or marks (j + w) 0 in
    let rest = drop p text in
    let end : j + w + 1 ≡ suc (j + w) = omega arith in
    let end_is : begin_after marks (j + w + 1) ≡ m + 1 = ap (begin_after marks) end in
    let field = (walk_step o text marks (j + w) walked.fit row.enough (walked.walks (j + w) (omega (arith, row.enough)))).0 in
    let rise : p ≤ begin_after marks (j + w) = begins_rise o text marks j w walked (omega (arith, row.enough)) in
    let there : p + (m - p) ≡ m = omega (arith, rise, field.from) in
    let size : m - p + 1 ≡ m + 1 - p = omega (arith, rise, field.from) in
    let here : get_or rest (m - p) 0 < 128 =
    subst (λ (b : ℕ). b < 128) (sym (get_or-drop p text (m - p) 0 ∙ ap (λ (k : ℕ). get_or text k 0) there)) (eol_of o (get_or text m 0) walked.fit field.stop row.ended) in
    let inside : m - p < length rest = omega (arith, length-drop p text, field.below, rise, field.from) in
    let cut = IsCharBoundary-after_ascii rest (m - p) utf8 inside here in
    let next : drop (m - p + 1) rest ≡ drop (m + 1) text = drop-drop (m - p + 1) p text ∙ ap (λ (k : ℕ). drop k text) (omega (arith, rise, field.from)) in
    record {
      bytes = ap (λ (k : ℕ). is_utf8 (take k rest)) (ap (λ (e : ℕ). e - p) end_is ∙ sym size) ∙ is_utf8-from_IsUtf8 (take (m - p + 1) rest) (IsUtf8-take rest (m - p + 1) utf8 cut);
      rest = subst IsUtf8 (next ∙ ap (λ (e : ℕ). drop e text) (sym end_is)) (IsUtf8-drop rest (m - p + 1) utf8 cut);
    }

-- what the split gave is the row of the fields that it gave
row_split : (o : Dialect) (kinds : List ColType) (head : Bool) (at : ℕ) (rest next : List ℕ) (fields : Option (List CsvField)) (later : Bool → ℕ → List ℕ → Reading) (marked : Bool → Reading)
    → is_utf8 (take (length rest - length next) rest) ≡ true → ((a : Bool) → later a (at + (length rest - length next)) next ≡ marked a)
    → split_then o kinds head at rest (fields_record (with_rest next fields)) later ≡ fields_row_then o kinds head at fields marked
row_split o kinds head at rest next None later marked utf8 same = refl
row_split o kinds head at rest next (Some fields) later marked utf8 same =
    let r : CsvRecord = Fields fields in
    let here : Bool → Reading = λ a. later a (at + (length rest - length next)) next in
    ap (λ (t : Bool). if t then (if head then here (not (is_header r)) else row_then false at (row_of o kinds r) (here false)) else refuses head at NotUtf8) utf8
    ∙ by head
  where
    by : (h : Bool) → (if h then later (not (is_header (Fields fields))) (at + (length rest - length next)) next else row_then false at (row_of o kinds (Fields fields)) (later false (at + (length rest - length next)) next))
        ≡ (if h then marked (not (is_header (Fields fields))) else row_then false at (row_of o kinds (Fields fields)) (marked false))
    by true = same (not (is_header (Fields fields)))
    by false = ap (row_then false at (row_of o kinds (Fields fields))) (same false)

nothing_left : (fuel : ℕ) (o : Dialect) (kinds : List ColType) (head : Bool) (at : ℕ) (text : List ℕ) → text ≡ [] → reading_up_to fuel o kinds head at text ≡ ends head
nothing_left zero o kinds head at text is = ap (reading_up_to zero o kinds head at) is
nothing_left (suc fuel) o kinds head at text is = ap (reading_up_to (suc fuel) o kinds head at) is

one_record : (fuel : ℕ) (o : Dialect) (kinds : List ColType) (head : Bool) (at : ℕ) (text : List ℕ) → 0 < length text
    → reading_up_to (suc fuel) o kinds head at text ≡ split_then o kinds head at text (record_at o text) (λ awaits_header next rest. reading_up_to fuel o kinds awaits_header next rest)
one_record fuel o kinds head at [] some = absurd (omega arith)
one_record fuel o kinds head at (b ∷ bs) some = refl

-- rows are read row by row
rows_read : (fuel n : ℕ) (o : Dialect) (kinds : List ColType) (head : Bool) (at : ℕ) (text marks : List ℕ) (w j : ℕ) → IsWalked o text marks
    → ((i : ℕ) → i < n → AreRowMarks o.separator text marks (j + i * (w + 1)) w) → begin_after marks (j + n * (w + 1)) ≡ length text → j ≤ length marks
    → IsUtf8 (drop (begin_after marks j) text) → length (drop (begin_after marks j) text) ≤ fuel
    → reading_up_to fuel o kinds head (at + begin_after marks j) (drop (begin_after marks j) text) ≡ marked_reading o kinds head at text marks w j n
rows_read fuel zero o kinds head at text marks w j walked rows whole within utf8 room =
    let same : j + 0 * (w + 1) ≡ j = omega arith in
    let end : begin_after marks j ≡ length text = ap (begin_after marks) (sym same) ∙ whole in
    nothing_left fuel o kinds head (at + begin_after marks j) (drop (begin_after marks j) text) (drop_all (begin_after marks j) text (omega (arith, end)))
rows_read zero (suc n) o kinds head at text marks w j walked rows whole within utf8 room =
    let first : j + 0 * (w + 1) ≡ j = omega arith in
    let row = subst (λ (i : ℕ). AreRowMarks o.separator text marks i w) first (rows 0 (omega arith)) in
    let bounds = row_bounds o text marks j w walked row in
    absurd (omega (arith, bounds.some, bounds.within, room, length-drop (begin_after marks j) text))
rows_read (suc fuel) (suc n) o kinds head at text marks w j walked rows whole within utf8 room =
    let first : j + 0 * (w + 1) ≡ j = omega arith in
    let row = subst (λ (i : ℕ). AreRowMarks o.separator text marks i w) first (rows 0 (omega arith)) in
    let bounds = row_bounds o text marks j w walked row in
    let bytes = row_bytes o text marks j w walked row utf8 in
    let p = begin_after marks j in
    let next = begin_after marks (j + w + 1) in
    let rest = drop p text in
    let left = drop next text in
    let size : length rest - length left ≡ next - p = omega (arith, length-drop p text, length-drop next text, bounds.some, bounds.within) in
    let on : at + p + (length rest - length left) ≡ at + next = omega (arith, size, bounds.some) in
    let end : j + suc n * (w + 1) ≡ j + w + 1 + n * (w + 1) = omega arith in
    one_record fuel o kinds head (at + p) rest (omega (arith, length-drop p text, bounds.some, bounds.within))
    ∙ ap (λ (found : Option (CsvRecord × List ℕ)). split_then o kinds head (at + p) rest found (λ awaits_header place more. reading_up_to fuel o kinds awaits_header place more))
    (row_record o text marks j w walked.fit walked.no_comment (walked.walks j within) row)
    ∙ row_split o kinds head (at + p) rest left (row_fields o text marks j w) (λ awaits_header place more. reading_up_to fuel o kinds awaits_header place more)
    (λ awaits_header. marked_reading o kinds awaits_header at text marks w (j + w + 1) n)
    (ap (λ (k : ℕ). is_utf8 (take k rest)) size ∙ bytes.bytes)
    (λ a. ap (λ (place : ℕ). reading_up_to fuel o kinds a place left) on
    ∙ rows_read fuel n o kinds a at text marks w (j + w + 1) walked
    (λ i below. let same : j + suc i * (w + 1) ≡ j + w + 1 + i * (w + 1) = omega arith in subst (λ (k : ℕ). AreRowMarks o.separator text marks k w) same (rows (suc i) (omega arith)))
    (ap (begin_after marks) (sym end) ∙ whole) (omega (arith, row.enough)) bytes.rest
    (omega (arith, room, length-drop p text, length-drop next text, bounds.some, bounds.within)))

pub reads_at_marks : (o : Dialect) → IsDialect o → ReadsAtMarks o
reads_at_marks o fit = λ kinds head at text w n utf8 is.
    let marks = field_ends o text in
    let sound = sound_of o text is.quoted in
    let place : at ≡ at + 0 = omega arith in
    ap (λ (k : ℕ). reading_up_to (length text) o kinds head k text) place
    ∙ rows_read (length text) n o kinds head at text marks w 0 (record { fit = fit; no_comment = is.no_comment; walks = walk_all o text marks fit refl sound })
    (λ i below. let same : i * (w + 1) ≡ 0 + i * (w + 1) = omega arith in subst (λ (k : ℕ). AreRowMarks o.separator text marks k w) same (is.rows.rows i below))
    (let same : n * (w + 1) ≡ 0 + n * (w + 1) = omega arith in ap (begin_after marks) (sym same) ∙ is.rows.whole) (omega arith) utf8 (omega arith)

-- places that are those of the marks lie in the text
pub places_within : (o : Dialect) (text places marks : List ℕ) → IsDialect o → is_well_quoted o text ≡ true → marks ≡ places → places ≡ field_ends o text → AreMarksWithin text marks
places_within o text places marks fit quoted same are = subst (AreMarksWithin text) (sym (same ∙ are)) (keeps_marks_within o fit text quoted)

unquoted_plain : (o : Dialect) (quote : Option ℕ) (bytes : List ℕ) → o.quote ≡ quote → BeginsUnquoted quote bytes → BeginsPlain o bytes
unquoted_plain o quote [] is unquoted = tt
unquoted_plain o None (b ∷ bs) is unquoted = ap (λ (q : Option ℕ). is_quote q b) is
unquoted_plain o (Some quote) (b ∷ bs) is unquoted = ap (λ (q : Option ℕ). is_quote q b) is ∙ other_byte b quote unquoted

pub keeps_plain_fields : (o : Dialect) → IsDialect o → KeepsPlainFields o
keeps_plain_fields o fit = λ text j is below unquoted.
    let marks = field_ends o text in
    let field = (walk_step o text marks j fit below (walk_all o text marks fit refl (sound_of o text is) j (omega arith))).0 in
    let plain = field.plain (unquoted_plain o o.quote (field_bytes text marks j) refl unquoted) in
    (ap (whole_field o false) plain, ap (whole_field o true) plain)
