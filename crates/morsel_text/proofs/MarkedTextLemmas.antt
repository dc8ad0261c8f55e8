-- Texts of fields before marks.
use Rattle.std.proofs.Common.{◌≡◌, ◌≢◌, refl, ℕ, suc, ◌+◌, ◌-◌, ◌<◌, ◌≤◌, ◌∙◌, sym, ap, subst, arith, Bool, true, false, ◌||◌, ◌==◌, List, [], ◌∷◌, length, length-drop, get_or, take, drop, Option, Some}
use Rattle.std.specs.Prelude.{if◌then◌else◌}
use Rattle.std.proofs.lemmas.List.{drop_more, drop_all, get_or-drop, get_or-take, take-take, length-take, length-take-le}
use Rattle.morsel_grammar.specs.Dialect.{Dialect, IsDialect}
use Rattle.morsel_grammar.specs.Grammar.{CsvField, BeginsUnquoted}
use Rattle.morsel_grammar.specs.Split.{is_quote, quoted_at, in_quotes, field_at, last_field, begins}
use Rattle.morsel_grammar.proofs.ByteLemmas.{true_not_false, none_of}
use Rattle.morsel_marks.specs.Marks.{is_well_quoted, field_ends}
use Rattle.morsel_marks.specs.ByMarks.{begin_after, field_bytes, whole_field}
use Rattle.morsel_text.specs.RawFields.{IsRun}
use Rattle.morsel_text.specs.MarkedColumns.{field_or_empty, field_before}
use Rattle.morsel_text.proofs.SplitLemmas.{NoneTo, quoted_first}
use Rattle.morsel_text.proofs.MarkedLemmas.{plain_marked, field_bounds}

opens_quoted : (o : Dialect) (b : ℕ) (bs : List ℕ) → is_quote o.quote b ≡ true → field_at o (b ∷ bs) ≡ in_quotes (quoted_at b bs)
opens_quoted o b bs is = rw is

one_of_same : (t : Bool) → (t || t) ≡ true → t ≡ true
one_of_same true is = refl
one_of_same false is = is

-- content of few bytes, none of which is the quote, and the quote that closes it
pub short_field : (o : Dialect) (text : List ℕ) (begin end len : ℕ) → is_quote o.quote (get_or text begin 0) ≡ true → end ≤ length text
    → IsRun (get_or text begin 0) (get_or text begin 0) text (begin + 1) len → len ≢ 16 → begin + 1 + len + 1 ≡ end
    → field_at o (take (end - begin) (drop begin text)) ≡ Some (record { quoted = true; bytes = take len (drop (begin + 1) text) }, [])
short_field o text begin end len is within run short last =
    ap (λ (n : ℕ). field_at o (take n (drop begin text))) size
    ∙ ap (λ (xs : List ℕ). field_at o (take (suc (suc len)) xs)) (drop_more text begin 0 (omega arith))
    ∙ opens_quoted o q inside is
    ∙ ap in_quotes (quoted_first q inside len (omega (arith, long)) none closes (ap (begins q) nothing))
    ∙ ap (λ (xs : List ℕ). let found : Option (CsvField × List ℕ) = Some (record { quoted = true; bytes = take len inside }, xs) in found) nothing
    ∙ ap (λ (xs : List ℕ). let found : Option (CsvField × List ℕ) = Some (record { quoted = true; bytes = xs }, []) in found) (take-take len (suc len) rest (omega arith))
  where
    q : ℕ
    q = get_or text begin 0

    rest : List ℕ
    rest = drop (begin + 1) text

    inside : List ℕ
    inside = take (suc len) rest

    size : end - begin ≡ suc (suc len)
    size = omega arith

    long : length inside ≡ suc len
    long = length-take-le (suc len) rest (omega (arith, length-drop (begin + 1) text))

    byte : (k : ℕ) → k < suc len → get_or inside k 0 ≡ get_or text (begin + 1 + k) 0
    byte k below = get_or-take (suc len) rest k 0 below ∙ get_or-drop (begin + 1) text k 0

    none : NoneTo q inside len
    none = λ k low high there.
        true_not_false (get_or inside k 0 == q) there
        (ap (λ (b : ℕ). b == q) (byte k (omega arith)) ∙ (none_of _ _ (run.passed (begin + 1 + k) (omega arith) (omega arith))).0)

    closes : (get_or inside len 0 == q) ≡ true
    closes = ap (λ (b : ℕ). b == q) (byte len (omega arith)) ∙ one_of_same _ (run.stopped (omega (arith, run.within)))

    nothing : drop (suc len) inside ≡ []
    nothing = drop_all (suc len) inside (omega (arith, long))

-- a field in quotes that nothing follows
pub quoted_before : (o : Dialect) (is_last : Bool) (text marks : List ℕ) (j begin end : ℕ) (bytes : List ℕ) → begin ≡ begin_after marks j → end ≡ get_or marks j 0
    → field_at o (take (end - begin) (drop begin text)) ≡ Some (record { quoted = true; bytes = bytes }, []) → field_before o is_last text marks j ≡ record { quoted = true; bytes = bytes }
quoted_before o is_last text marks j begin end bytes begins ends found =
    ap (λ (p : ℕ). field_or_empty (whole_field o is_last (field_at o (take (get_or marks j 0 - p) (drop p text))))) (sym begins)
    ∙ ap (λ (m : ℕ). field_or_empty (whole_field o is_last (field_at o (take (m - begin) (drop begin text))))) (sym ends)
    ∙ ap (λ (r : Option (CsvField × List ℕ)). field_or_empty (whole_field o is_last r)) found ∙ by is_last
  where
    by : (t : Bool) → (let f : CsvField = record { quoted = true; bytes = bytes } in field_or_empty (whole_field o t (Some (f, []))) ≡ f)
    by true = refl
    by false = refl

-- a field without quotes, of which so many bytes are its text
pub plain_before : (o : Dialect) (is_last : Bool) (text marks raw : List ℕ) (j begin len : ℕ) → IsDialect o → is_well_quoted o text ≡ true → marks ≡ field_ends o text → j < length marks
    → raw ≡ field_bytes text marks j → begin ≡ begin_after marks j → BeginsUnquoted o.quote raw → len ≤ length raw
    → (let f : CsvField = record { quoted = false; bytes = raw } in let g : CsvField = record { quoted = false; bytes = take len raw } in (if is_last then last_field o f else f) ≡ g)
    → (let g : CsvField = record { quoted = false; bytes = take len (drop begin text) } in field_before o is_last text marks j ≡ g)
plain_before o is_last text marks raw j begin len fit quoted marks_are below raw_is begins plain short is =
    let p = begin_after marks j in
    let m = get_or marks j 0 in
    let few : len ≤ m - p = omega (arith, short, ap length raw_is, length-take (m - p) (drop p text)) in
    ap field_or_empty (plain_marked o is_last text marks j fit quoted marks_are below (subst (BeginsUnquoted o.quote) raw_is plain))
    ∙ ap (λ (bytes : List ℕ). let f : CsvField = record { quoted = false; bytes = bytes } in let g : CsvField = if is_last then last_field o f else f in g) (sym raw_is)
    ∙ is
    ∙ ap (λ (bytes : List ℕ). let f : CsvField = record { quoted = false; bytes = bytes } in f)
    (ap (take len) raw_is ∙ take-take len (m - p) (drop p text) few ∙ ap (λ (k : ℕ). take len (drop k text)) (sym begins))

-- it lies in the text
pub plain_within : (o : Dialect) (text marks raw : List ℕ) (j begin len : ℕ) → IsDialect o → is_well_quoted o text ≡ true → marks ≡ field_ends o text → j < length marks
    → raw ≡ field_bytes text marks j → begin ≡ begin_after marks j → len ≤ length raw → begin + len ≤ length text
plain_within o text marks raw j begin len fit quoted marks_are below raw_is begins short =
    let p = begin_after marks j in
    let m = get_or marks j 0 in
    let bounds = field_bounds o text marks j fit quoted marks_are below in
    omega (arith, short, ap length raw_is, length-take (m - p) (drop p text), bounds.begins, bounds.ends, begins)
