-- A text of rows whose fields are known by their marks.
use Rattle.std.proofs.Common.{◌≡◌, refl, ℕ, zero, suc, ◌+◌, ◌*◌, ◌<◌, ◌≤◌, ◌∙◌, sym, ap, subst, arith, true, false, List, length, map, drop, length-drop, Option, Some}
use Rattle.std.proofs.lemmas.List.{drop_all}
use Rattle.std.specs.List.{range_with_len}
use Rattle.morsel_grammar.specs.Dialect.{Dialect, IsDialect}
use Rattle.morsel_grammar.specs.Grammar.{CsvField}
use Rattle.morsel_grammar.specs.Split.{fields_record}
use Rattle.morsel_marks.specs.Marks.{field_ends}
use Rattle.morsel_marks.specs.ByMarks.{begin_after, AreRowMarks, marked_field, row_fields, with_rest}
use Rattle.morsel_marks.specs.MarkedRows.{rows_from, AreRecordsOf, HasMarkedRecords}
use Rattle.morsel_marks.proofs.WalkLemmas.{walk_all, row_record}
use Rattle.morsel_marks.proofs.ReadLemmas.{IsWalked, row_bounds, sound_of}

-- a row has the fields before its marks
row_fields_are : (o : Dialect) (text marks : List ℕ) (w j : ℕ) (field : ℕ → CsvField) → ((c : ℕ) → c < w → marked_field o false text marks (j + c) ≡ Some (field (j + c)))
    → marked_field o true text marks (j + w) ≡ Some (field (j + w)) → row_fields o text marks j w ≡ Some (map field (range_with_len j (suc w)))
row_fields_are o text marks zero j field inner last =
    let same : j + 0 ≡ j = omega arith in
    let here : marked_field o true text marks j ≡ Some (field j) = subst (λ (k : ℕ). marked_field o true text marks k ≡ Some (field k)) same last in
    rw here
row_fields_are o text marks (suc w) j field inner last =
    let same : j + 0 ≡ j = omega arith in
    let here : marked_field o false text marks j ≡ Some (field j) = subst (λ (k : ℕ). marked_field o false text marks k ≡ Some (field k)) same (inner 0 (omega arith)) in
    let end : j + suc w ≡ j + 1 + w = omega arith in
    let later = row_fields_are o text marks w (j + 1) field
    (λ c below. let on : j + suc c ≡ j + 1 + c = omega arith in subst (λ (k : ℕ). marked_field o false text marks k ≡ Some (field k)) on (inner (suc c) (omega arith)))
    (subst (λ (k : ℕ). marked_field o true text marks k ≡ Some (field k)) end last) in
    rw (here, later)

-- rows from a mark on are records
records_from : (n : ℕ) (o : Dialect) (text marks : List ℕ) (w j : ℕ) (field : ℕ → CsvField) → IsWalked o text marks
    → ((i : ℕ) → i < n → AreRowMarks o.separator text marks (j + i * (w + 1)) w) → begin_after marks (j + n * (w + 1)) ≡ length text → j ≤ length marks
    → ((i c : ℕ) → i < n → c < w → marked_field o false text marks (j + i * (w + 1) + c) ≡ Some (field (j + i * (w + 1) + c)))
    → ((i : ℕ) → i < n → marked_field o true text marks (j + i * (w + 1) + w) ≡ Some (field (j + i * (w + 1) + w)))
    → AreRecordsOf o (drop (begin_after marks j) text) (rows_from field w j n)
records_from zero o text marks w j field walked rows whole within inner last =
    let same : j + 0 * (w + 1) ≡ j = omega arith in
    let end : begin_after marks j ≡ length text = ap (begin_after marks) (sym same) ∙ whole in
    drop_all (begin_after marks j) text (omega (arith, end))
records_from (suc n) o text marks w j field walked rows whole within inner last =
    let first : j + 0 * (w + 1) ≡ j = omega arith in
    let row = subst (λ (i : ℕ). AreRowMarks o.separator text marks i w) first (rows 0 (omega arith)) in
    let bounds = row_bounds o text marks j w walked row in
    let next = begin_after marks (j + w + 1) in
    let end : j + suc n * (w + 1) ≡ j + w + 1 + n * (w + 1) = omega arith in
    let one : suc w ≡ w + 1 = omega arith in
    let fields_are = row_fields_are o text marks w j field
    (λ c below. subst (λ (k : ℕ). marked_field o false text marks (k + c) ≡ Some (field (k + c))) first (inner 0 c (omega arith) below))
    (subst (λ (k : ℕ). marked_field o true text marks (k + w) ≡ Some (field (k + w))) first (last 0 (omega arith)))
    ∙ ap (λ (k : ℕ). let found : Option (List CsvField) = Some (map field (range_with_len j k)) in found) one in (
      drop next text,
      row_record o text marks j w walked.fit walked.no_comment (walked.walks j within) row
          ∙ ap (λ (found : Option (List CsvField)). fields_record (with_rest (drop next text) found)) fields_are,
      omega (arith, length-drop (begin_after marks j) text, length-drop next text, bounds.some, bounds.within),
      records_from n o text marks w (j + w + 1) field walked
          (λ i below. subst (λ (k : ℕ). AreRowMarks o.separator text marks k w) (onward i) (rows (suc i) (omega arith)))
          (ap (begin_after marks) (sym end) ∙ whole) (omega (arith, row.enough))
          (λ i c below less. subst (λ (k : ℕ). marked_field o false text marks (k + c) ≡ Some (field (k + c))) (onward i) (inner (suc i) c (omega arith) less))
          (λ i below. subst (λ (k : ℕ). marked_field o true text marks (k + w) ≡ Some (field (k + w))) (onward i) (last (suc i) (omega arith))),
    )
  where
    onward : (i : ℕ) → j + suc i * (w + 1) ≡ j + w + 1 + i * (w + 1)
    onward i = omega arith

pub has_marked_records : (o : Dialect) → IsDialect o → HasMarkedRecords o
has_marked_records o fit = λ text w n field is fields.
    let marks = field_ends o text in
    records_from n o text marks w 0 field (record { fit = fit; no_comment = is.no_comment; walks = walk_all o text marks fit refl (sound_of o text is.quoted) })
    (λ i below. subst (λ (k : ℕ). AreRowMarks o.separator text marks k w) (sym (from_zero (i * (w + 1)))) (is.rows.rows i below))
    (ap (begin_after marks) (from_zero (n * (w + 1))) ∙ is.rows.whole) (omega arith)
    (λ i c below less. subst (λ (k : ℕ). marked_field o false text marks (k + c) ≡ Some (field (k + c))) (sym (from_zero (i * (w + 1)))) (fields.inner i c below less))
    (λ i below. subst (λ (k : ℕ). marked_field o true text marks (k + w) ≡ Some (field (k + w))) (sym (from_zero (i * (w + 1)))) (fields.last i below))
  where
    from_zero : (k : ℕ) → 0 + k ≡ k
    from_zero k = omega arith
