-- A text walked from mark to mark.
use Rattle.std.proofs.Common.{◌≡◌, ◌⊎◌, inl, inr, refl, ℕ, zero, suc, ◌+◌, ◌-◌, ◌<◌, ◌≤◌, ◌∙◌, sym, ap, ap₂, subst, arith, Bool, true, false, List, [], ◌∷◌, length, get_or, take, drop, length-drop, drop-cons, drop-drop, Option, Some, None, ◌==◌}
use Rattle.std.specs.Prelude.{if◌then◌else◌}
use Rattle.std.proofs.lemmas.List.{get_or-drop}
use Rattle.morsel_grammar.specs.Dialect.{Dialect, IsDialect}
use Rattle.morsel_grammar.specs.Grammar.{CsvField}
use Rattle.morsel_grammar.specs.Split.{is_quote, stops, field_at, plain_field, fields_record, record_at, record_then_fields, comment_body}
use Rattle.morsel_marks.specs.Marks.{marks_from, field_start}
use Rattle.morsel_marks.specs.ByMarks.{begin_after, AreRowMarks, marked_field, row_fields, with_rest, AreMarksWithin, record_by_marks, field_between, field_then, last_then}
use Rattle.morsel_marks.proofs.BridgeLemmas.{Sound, BeginsPlain, span, onto, FieldCut, field_cut, NoMark, MarkAt, first_mark, by_marks}

-- the marks from number `j` on are those of the text from the place after them on, which is sound
pub record Walk (o : Dialect) (text marks : List ℕ) (j : ℕ) : Type 0 where
  pub within : begin_after marks j ≤ length text
  pub left : drop j marks ≡ marks_from (is_quote o.quote) (stops o) (begin_after marks j) false (drop (begin_after marks j) text)
  pub sound : Sound o field_start (drop (begin_after marks j) text)

-- a field and the mark after it
pub record MarkedField (o : Dialect) (text marks : List ℕ) (j : ℕ) : Type 0 where
  pub from : begin_after marks j ≤ get_or marks j 0
  pub below : get_or marks j 0 < length text
  pub size : span o false (drop (begin_after marks j) text) ≡ get_or marks j 0 - begin_after marks j
  pub stop : stops o (get_or text (get_or marks j 0) 0) ≡ true
  pub field : field_at o (drop (begin_after marks j) text)
      ≡ onto (drop (get_or marks j 0) text) (field_at o (take (get_or marks j 0 - begin_after marks j) (drop (begin_after marks j) text)))
  pub plain : BeginsPlain o (take (get_or marks j 0 - begin_after marks j) (drop (begin_after marks j) text))
      → field_at o (take (get_or marks j 0 - begin_after marks j) (drop (begin_after marks j) text))
      ≡ plain_field (take (get_or marks j 0 - begin_after marks j) (drop (begin_after marks j) text), [])

pub walk_start : (o : Dialect) (text marks : List ℕ) → marks ≡ marks_from (is_quote o.quote) (stops o) 0 false text → Sound o field_start text → Walk o text marks 0
walk_start o text marks is sound = record { within = omega arith; left = is; sound = sound }

pub walk_step : (o : Dialect) (text marks : List ℕ) (j : ℕ) → IsDialect o → j < length marks → Walk o text marks j → MarkedField o text marks j × Walk o text marks (suc j)
walk_step o text marks j fit more walk = by (first_mark o p false rest) (field_cut o rest fit walk.sound)
  where
    p : ℕ
    p = begin_after marks j

    rest : List ℕ
    rest = drop p text

    by : NoMark o p false rest (span o false rest) ⊎ MarkAt o p false rest (span o false rest) → FieldCut o rest (span o false rest) → MarkedField o text marks j × Walk o text marks (suc j)
    by (inl none) cut = absurd (omega (arith, length-drop j marks, ap length (walk.left ∙ none.marks)))
    by (inr some) cut =
        let n = span o false rest in
        let split : get_or marks j 0 ∷ drop (suc j) marks ≡ (p + n) ∷ marks_from (is_quote o.quote) (stops o) (p + n + 1) false (drop (suc n) rest) =
        sym (drop-cons marks j 0 more) ∙ walk.left ∙ some.marks in
        let here : get_or marks j 0 ≡ p + n = ap (λ (xs : List ℕ). get_or xs 0 0) split in
        let later : drop (suc j) marks ≡ marks_from (is_quote o.quote) (stops o) (p + n + 1) false (drop (suc n) rest) = ap (λ (xs : List ℕ). drop 1 xs) split in
        let next : p + suc n ≡ get_or marks j 0 + 1 = omega arith in
        let after : drop (suc n) rest ≡ drop (get_or marks j 0 + 1) text = drop-drop (suc n) p text ∙ ap (λ (k : ℕ). drop k text) next in
        let back : n ≡ get_or marks j 0 - p = omega arith in (
          record {
            from = omega arith;
            below = omega (arith, some.below, length-drop p text, walk.within);
            size = back;
            stop = ap (λ (k : ℕ). stops o (get_or text k 0)) here ∙ ap (stops o) (sym (get_or-drop p text n 0)) ∙ some.stop;
            field = cut.value ∙ ap₂ (λ (xs ys : List ℕ). onto xs (field_at o ys)) (drop-drop n p text ∙ ap (λ (k : ℕ). drop k text) (sym here)) (ap (λ (k : ℕ). take k rest) back);
            plain = subst (λ (k : ℕ). BeginsPlain o (take k rest) → field_at o (take k rest) ≡ plain_field (take k rest, [])) back cut.plain;
          },
          record {
            within = omega (arith, some.below, length-drop p text, walk.within);
            left = later ∙ ap₂ (λ (k : ℕ) (xs : List ℕ). marks_from (is_quote o.quote) (stops o) k false xs) (ap (λ (k : ℕ). k + 1) (sym here)) after;
            sound = subst (Sound o field_start) after cut.rest;
          },
        )

by_mark : (o : Dialect) (text marks : List ℕ) (j : ℕ) (t : Bool) → j < length marks → MarkedField o text marks j → (get_or text (get_or marks j 0) 0 == o.separator) ≡ t
    → record_by_marks o (begin_after marks j) (drop (begin_after marks j) text) (drop j marks)
    ≡ (if t then field_then (marked_field o false text marks j) (record_by_marks o (begin_after marks (suc j)) (drop (begin_after marks (suc j)) text) (drop (suc j) marks))
    else last_then (marked_field o true text marks j) (drop (begin_after marks (suc j)) text))
by_mark o text marks j t more field is =
    let p = begin_after marks j in
    let m = get_or marks j 0 in
    let rest = drop p text in
    let there : p + (m - p) ≡ m = omega (arith, field.from) in
    let next : p + (m - p + 1) ≡ m + 1 = omega (arith, field.from) in
    ap (record_by_marks o p rest) (drop-cons marks j 0 more)
    ∙ ap₂ (λ (b : Bool) (xs : List ℕ). if b then field_then (field_between o false (take (m - p) rest)) (record_by_marks o (m + 1) xs (drop (suc j) marks))
    else last_then (field_between o true (take (m - p) rest)) xs)
    (ap (λ (x : ℕ). x == o.separator) (get_or-drop p text (m - p) 0 ∙ ap (λ (k : ℕ). get_or text k 0) there) ∙ is)
    (drop-drop (m - p + 1) p text ∙ ap (λ (k : ℕ). drop k text) next)

pub record RowFound (o : Dialect) (text marks : List ℕ) (j w : ℕ) : Type 0 where
  pub value : record_by_marks o (begin_after marks j) (drop (begin_after marks j) text) (drop j marks) ≡ with_rest (drop (begin_after marks (j + w + 1)) text) (row_fields o text marks j w)
  pub walk : Walk o text marks (j + w + 1)

join_fields : (o : Dialect) (text marks : List ℕ) (j w : ℕ) (rest : List ℕ)
    → field_then (marked_field o false text marks j) (with_rest rest (row_fields o text marks (j + 1) w)) ≡ with_rest rest (row_fields o text marks j (suc w))
join_fields o text marks j w rest = by (marked_field o false text marks j) (row_fields o text marks (j + 1) w)
  where
    before : Option CsvField → Option (List CsvField) → Option (List CsvField)
    before None fields = None
    before (Some f) None = None
    before (Some f) (Some fields) = Some (f ∷ fields)

    by : (f : Option CsvField) (fs : Option (List CsvField)) → field_then f (with_rest rest fs) ≡ with_rest rest (before f fs)
    by None fs = refl
    by (Some f) None = refl
    by (Some f) (Some fs) = refl

last_field_found : (o : Dialect) (text marks : List ℕ) (j : ℕ) (rest : List ℕ) → last_then (marked_field o true text marks j) rest ≡ with_rest rest (row_fields o text marks j 0)
last_field_found o text marks j rest = by (marked_field o true text marks j)
  where
    listed : Option CsvField → Option (List CsvField)
    listed None = None
    listed (Some f) = Some (f ∷ [])

    by : (f : Option CsvField) → last_then f rest ≡ with_rest rest (listed f)
    by None = refl
    by (Some f) = refl

-- the record after `j` marks, where the next ones are a row's
pub row_found : (o : Dialect) (text marks : List ℕ) (j w : ℕ) → IsDialect o → Walk o text marks j → AreRowMarks o.separator text marks j w → RowFound o text marks j w
row_found o text marks j zero fit walk row =
    let last : j + 0 ≡ j = omega arith in
    let one : j + 0 + 1 ≡ suc j = omega arith in
    let quote_step = walk_step o text marks j fit (omega (arith, row.enough)) walk in
    record {
      value = by_mark o text marks j false (omega (arith, row.enough)) quote_step.0 (ap (λ (k : ℕ). get_or text (get_or marks k 0) 0 == o.separator) (sym last) ∙ row.ended)
          ∙ last_field_found o text marks j (drop (begin_after marks (suc j)) text)
          ∙ ap (λ (k : ℕ). with_rest (drop (begin_after marks k) text) (row_fields o text marks j 0)) (sym one);
      walk = subst (Walk o text marks) (sym one) quote_step.1;
    }
row_found o text marks j (suc w) fit walk row =
    let quote_step = walk_step o text marks j fit (omega (arith, row.enough)) walk in
    let first : j + 0 ≡ j = omega arith in
    let one : j + 1 ≡ suc j = omega arith in
    let end : j + 1 + w + 1 ≡ j + suc w + 1 = omega arith in
    let later = row_found o text marks (j + 1) w fit (subst (Walk o text marks) (sym one) quote_step.1) (record {
      enough = omega (arith, row.enough);
      separated = λ i below.
          let same : j + 1 + i ≡ j + suc i = omega arith in
          ap (λ (k : ℕ). get_or text (get_or marks k 0) 0 == o.separator) same ∙ row.separated (suc i) (omega arith);
      ended =
          let same : j + 1 + w ≡ j + suc w = omega arith in
          ap (λ (k : ℕ). get_or text (get_or marks k 0) 0 == o.separator) same ∙ row.ended;
    }) in
    record {
      value = by_mark o text marks j true (omega (arith, row.enough)) quote_step.0 (ap (λ (k : ℕ). get_or text (get_or marks k 0) 0 == o.separator) (sym first) ∙ row.separated 0 (omega arith))
          ∙ ap (field_then (marked_field o false text marks j))
          (ap (λ (k : ℕ). record_by_marks o (begin_after marks k) (drop (begin_after marks k) text) (drop k marks)) (sym one) ∙ later.value)
          ∙ join_fields o text marks j w (drop (begin_after marks (j + 1 + w + 1)) text)
          ∙ ap (λ (k : ℕ). with_rest (drop (begin_after marks k) text) (row_fields o text marks j (suc w))) end;
      walk = subst (Walk o text marks) end later.walk;
    }

-- so it is the record of the grammar
pub row_record : (o : Dialect) (text marks : List ℕ) (j w : ℕ) → IsDialect o → o.comment ≡ None → Walk o text marks j → AreRowMarks o.separator text marks j w
    → record_at o (drop (begin_after marks j) text) ≡ fields_record (with_rest (drop (begin_after marks (j + w + 1)) text) (row_fields o text marks j w))
row_record o text marks j w fit plain walk row =
    let rest = drop (begin_after marks j) text in
    ap (λ (p : Option (List ℕ)). record_then_fields o rest (comment_body p rest)) plain
    ∙ ap fields_record (by_marks o (length rest + 1) (begin_after marks j) rest fit (omega arith) walk.sound
    ∙ ap (record_by_marks o (begin_after marks j) rest) (sym walk.left) ∙ (row_found o text marks j w fit walk row).value)

pub walk_all : (o : Dialect) (text marks : List ℕ) → IsDialect o → marks ≡ marks_from (is_quote o.quote) (stops o) 0 false text → Sound o field_start text
    → (j : ℕ) → j ≤ length marks → Walk o text marks j
walk_all o text marks fit is sound zero most = walk_start o text marks is sound
walk_all o text marks fit is sound (suc j) most = (walk_step o text marks j fit most (walk_all o text marks fit is sound j (omega arith))).1

pub marks_within : (o : Dialect) (text marks : List ℕ) → IsDialect o → marks ≡ marks_from (is_quote o.quote) (stops o) 0 false text → Sound o field_start text → AreMarksWithin text marks
marks_within o text marks fit is sound = λ k below. (walk_step o text marks k fit below (walk_all o text marks fit is sound k (omega arith))).0.below
