-- A record is empty exactly where the text begins with its end, and a row or none by that and by its prefix.
use Rattle.std.proofs.Common.{◌≡◌, ℕ, zero, suc, ◌+◌, ◌<◌, ◌≤◌, ◌∙◌, sym, ap, refl, arith, inl, inr, add-one, Bool, true, false, ◌==◌, List, [], ◌∷◌, length, drop, get_or}
use Rattle.std.proofs.lemmas.List.{drop_more, drop_all}
use Rattle.std.specs.Prelude.{Option, Some, None, not, ◌&&◌, ◌||◌, ◌⊎◌, if◌then◌else◌, is_some}
use Rattle.morsel_grammar.specs.Dialect.{Dialect, IsDialect}
use Rattle.morsel_grammar.specs.Grammar.{CsvField, CsvRecord, Comment, Fields}
use Rattle.morsel_grammar.specs.Rows.{is_empty, is_header}
use Rattle.morsel_grammar.specs.Split.{is_quote, plain_at, quoted_at, in_quotes, plain_field, without_return, last_field, ended, returned, with_field, fields_then, fields_up_to, field_at, line_at, fields_record, behind_front, comment_body, record_then_fields, record_at}
use Rattle.morsel_grammar.proofs.ByteLemmas.{same_byte, other_byte, true_not_false, either_second}
use Rattle.morsel_grammar.proofs.RecordEndLemmas.{is_quote-stop, is_quote-return}
use Rattle.morsel_cut.specs.FirstEnds.{is_blank, ends_line}
use Rattle.morsel_cut.specs.RowCounts.{is_row}

-- one field without quotes and without bytes
abbrev is_nothing : CsvField → Bool
is_nothing f = not f.quoted && length f.bytes == 0

-- the fields begin with this one, or with it as the last field of a record
record HasHead (o : Dialect) (f : CsvField) (fields : List CsvField) : Type 0 where
  head : CsvField
  more : List CsvField
  is : fields ≡ head ∷ more
  same : (head ≡ f) ⊎ (head ≡ last_field o f)

ended_head : (o : Dialect) (f : CsvField) (rest : List ℕ) (fields : List CsvField) (after : List ℕ) → ended o f rest ≡ Some (fields, after) → HasHead o f fields
ended_head o f rest fields after is =
    let pair : ◌≡◌ {A = List CsvField × List ℕ} (last_field o f ∷ [], rest) (fields, after) = cc in
    record { head = last_field o f; more = []; is = sym (ap (λ (p : List CsvField × List ℕ). p.0) pair); same = inr refl }

with_field_head : (o : Dialect) (f : CsvField) (found : Option (List CsvField × List ℕ)) (fields : List CsvField) (after : List ℕ) → with_field f found ≡ Some (fields, after)
    → (g : List CsvField) × (found ≡ Some (g, after)) × (fields ≡ f ∷ g)
with_field_head o f None fields after is = cc
with_field_head o f (Some found) fields after is =
    let pair : ◌≡◌ {A = List CsvField × List ℕ} (f ∷ found.0, found.1) (fields, after) = cc in (
      found.0,
      ap (λ (x : List ℕ). let p : List CsvField × List ℕ = (found.0, x) in Some p) (ap (λ (p : List CsvField × List ℕ). p.1) pair),
      sym (ap (λ (p : List CsvField × List ℕ). p.0) pair),
    )

returned_head : (o : Dialect) (f : CsvField) (rest : List ℕ) (fields : List CsvField) (after : List ℕ) → returned o f rest ≡ Some (fields, after) → HasHead o f fields
returned_head o f [] fields after is = ended_head o f [] fields after is
returned_head o f (b ∷ rest) fields after is = by (b == o.eol) is
  where
    by : (t : Bool) → (if t then ended o f rest else None) ≡ Some (fields, after) → HasHead o f fields
    by true is = ended_head o f rest fields after is
    by false is = cc

then_head : (o : Dialect) (f : CsvField) (rest : List ℕ) (more : List ℕ → Option (List CsvField × List ℕ)) (fields : List CsvField) (after : List ℕ)
    → fields_then o (Some (f, rest)) more ≡ Some (fields, after) → HasHead o f fields
then_head o f [] more fields after is = ended_head o f [] fields after is
then_head o f (b ∷ rest) more fields after is = by (b == o.separator) (b == o.eol) (b == 13 && o.eol == 10) (more rest) is
  where
    by : (s e r : Bool) (found : Option (List CsvField × List ℕ))
        → (if s then with_field f found else (if e then ended o f rest else (if r then returned o f rest else None))) ≡ Some (fields, after) → HasHead o f fields
    by true e r found is = let parts = with_field_head o f found fields after is in record { head = f; more = parts.0; is = parts.2; same = inl refl }
    by false true r found is = ended_head o f rest fields after is
    by false false true found is = returned_head o f rest fields after is
    by false false false found is = cc

-- a record has at least one field
fields_some : (n : ℕ) (o : Dialect) (text : List ℕ) (fields : List CsvField) (after : List ℕ) → fields_up_to n o text ≡ Some (fields, after)
    → (head : CsvField) × (more : List CsvField) × (fields ≡ head ∷ more)
fields_some zero o text fields after is = cc
fields_some (suc n) o text fields after is = by (field_at o text) is
  where
    by : (found : Option (CsvField × List ℕ)) → fields_then o found (λ rest. fields_up_to n o rest) ≡ Some (fields, after) → (head : CsvField) × (more : List CsvField) × (fields ≡ head ∷ more)
    by None is = cc
    by (Some found) is = let head = then_head o found.0 found.1 (λ rest. fields_up_to n o rest) fields after is in (head.head, head.more, head.is)

not_empty : (fields : List CsvField) (head : CsvField) (more : List CsvField) → fields ≡ head ∷ more → is_nothing head ≡ false → is_empty fields ≡ false
not_empty fields head [] is some = ap is_empty is ∙ some
not_empty fields head (g ∷ more) is some = ap is_empty is

-- fields that begin with one that has bytes or quotes
not_empty_head : (o : Dialect) (f : CsvField) (fields : List CsvField) → HasHead o f fields → is_nothing f ≡ false → is_nothing (last_field o f) ≡ false → is_empty fields ≡ false
not_empty_head o f fields head some last_some = by head.same
  where
    by : (head.head ≡ f) ⊎ (head.head ≡ last_field o f) → is_empty fields ≡ false
    by (inl same) = not_empty fields head.head head.more head.is (ap is_nothing same ∙ some)
    by (inr same) = not_empty fields head.head head.more head.is (ap is_nothing same ∙ last_some)

-- two fields and more are never empty
not_empty_two : (n : ℕ) (o : Dialect) (f : CsvField) (rest : List ℕ) (fields : List CsvField) (after : List ℕ) → with_field f (fields_up_to n o rest) ≡ Some (fields, after) → is_empty fields ≡ false
not_empty_two n o f rest fields after is =
    let parts = with_field_head o f (fields_up_to n o rest) fields after is in
    let later = fields_some n o rest parts.0 after parts.1 in
    ap is_empty (parts.2 ∙ ap (λ (g : List CsvField). f ∷ g) later.2)

-- the last field of a record
abbrev plain : List ℕ → CsvField
plain bytes = record { quoted = false; bytes = bytes }

last_field-nothing : (o : Dialect) → last_field o (plain []) ≡ plain []
last_field-nothing o = by (o.eol == 10)
  where
    by : (t : Bool) → (if t then plain [] else plain []) ≡ plain []
    by true = refl
    by false = refl

some_bytes : (n : ℕ) → (suc n == 0) ≡ false
some_bytes n = other_byte (suc n) 0 (λ e. omega arith)

last_field-two : (o : Dialect) (b c : ℕ) (bs : List ℕ) → is_nothing (last_field o (plain (b ∷ c ∷ bs))) ≡ false
last_field-two o b c bs = by (o.eol == 10)
  where
    by : (t : Bool) → is_nothing (if t then plain (b ∷ without_return (c ∷ bs)) else plain (b ∷ c ∷ bs)) ≡ false
    by true = some_bytes (length (without_return (c ∷ bs)))
    by false = some_bytes (suc (length bs))

last_field-one : (o : Dialect) (b : ℕ) → is_nothing (last_field o (plain (b ∷ []))) ≡ (b == 13 && (o.eol == 10 && true))
last_field-one o b = by (b == 13) (o.eol == 10)
  where
    by : (r t : Bool) → is_nothing (if t then plain (if r then [] else b ∷ []) else plain (b ∷ [])) ≡ (r && (t && true))
    by true true = refl
    by true false = refl
    by false true = refl
    by false false = refl

ended_one : (o : Dialect) (f : CsvField) (rest : List ℕ) (fields : List CsvField) (after : List ℕ) → ended o f rest ≡ Some (fields, after) → is_empty fields ≡ is_nothing (last_field o f)
ended_one o f rest fields after is =
    let pair : ◌≡◌ {A = List CsvField × List ℕ} (last_field o f ∷ [], rest) (fields, after) = cc in
    sym (ap (λ (p : List CsvField × List ℕ). is_empty p.0) pair)

-- what a blank begins with
pub blank_no : (eol b : ℕ) (bs : List ℕ) → (b == eol) ≡ false → (b == 13) ≡ false → is_blank eol (b ∷ bs) ≡ false
blank_no eol b bs no_eol no_return = rw (no_eol, no_return) refl

blank_one : (eol b : ℕ) (bs : List ℕ) (t : Bool) → (b == eol) ≡ false → ends_line eol bs ≡ t → is_blank eol (b ∷ bs) ≡ (b == 13 && (eol == 10 && t))
blank_one eol b bs t no_eol ends = rw (no_eol, ends) refl

neither_way : (r t : Bool) → (r && (t && false)) ≡ false
neither_way true true = refl
neither_way true false = refl
neither_way false t = refl

blank_not_one : (eol b c : ℕ) (cs : List ℕ) → (b == eol) ≡ false → (c == eol) ≡ false → is_blank eol (b ∷ c ∷ cs) ≡ false
blank_not_one eol b c cs no_eol other = blank_one eol b (c ∷ cs) false no_eol other ∙ neither_way (b == 13) (eol == 10)

not_so : (t : Bool) → (t ≡ true → ⊥) → t ≡ false
not_so true never = absurd (never refl)
not_so false never = refl

pub separator_no_eol : (o : Dialect) (b : ℕ) → IsDialect o → (b == o.separator) ≡ true → (b == o.eol) ≡ false
separator_no_eol o b fit is = other_byte b o.eol (λ same. fit.apart (sym (same_byte b o.separator is) ∙ same))

separator_no_return : (o : Dialect) (b : ℕ) → IsDialect o → (b == o.separator) ≡ true → (b == 13) ≡ false
separator_no_return o b fit is = other_byte b 13 (λ same. fit.separator_no_return (sym (same_byte b o.separator is) ∙ same))

pub quote_no_eol : (o : Dialect) (b : ℕ) → IsDialect o → is_quote o.quote b ≡ true → (b == o.eol) ≡ false
quote_no_eol o b fit is = not_so (b == o.eol) (λ same. true_not_false (is_quote o.quote b) is (is_quote-stop o b fit (either_second (b == o.separator) (b == o.eol) same)))

quote_no_return : (o : Dialect) (b : ℕ) → IsDialect o → is_quote o.quote b ≡ true → (b == 13) ≡ false
quote_no_return o b fit is = not_so (b == 13)
    (λ same. true_not_false (is_quote o.quote b) is (ap (is_quote o.quote) (same_byte b 13 same) ∙ is_quote-return o fit))

-- a record of fields is empty exactly where the text begins with its end
quoted_blank : (n : ℕ) (o : Dialect) (b : ℕ) (bs : List ℕ) (found : Option (List ℕ × List ℕ)) (fields : List CsvField) (after : List ℕ)
    → fields_then o (in_quotes found) (λ rest. fields_up_to n o rest) ≡ Some (fields, after) → is_empty fields ≡ false
quoted_blank n o b bs None fields after is = cc
quoted_blank n o b bs (Some found) fields after is =
    let f : CsvField = record { quoted = true; bytes = found.0 } in
    not_empty_head o f fields (then_head o f found.1 (λ rest. fields_up_to n o rest) fields after is) refl refl

-- a field of one byte without quotes, or of more
one_blank : (n : ℕ) (o : Dialect) (b : ℕ) (bs : List ℕ) (fields : List CsvField) (after : List ℕ) → IsDialect o → (b == o.eol) ≡ false
    → fields_then o (Some (plain (b ∷ (plain_at o bs).0), (plain_at o bs).1)) (λ rest. fields_up_to n o rest) ≡ Some (fields, after) → is_empty fields ≡ is_blank o.eol (b ∷ bs)
one_blank n o b [] fields after fit no_eol is = ended_one o (plain (b ∷ [])) [] fields after is ∙ last_field-one o b ∙ sym (blank_one o.eol b [] true no_eol refl)
one_blank n o b (c ∷ cs) fields after fit no_eol is = by (c == o.separator) (c == o.eol) refl refl is
  where
    by : (s e : Bool) → (c == o.separator) ≡ s → (c == o.eol) ≡ e
        → (let found : List ℕ × List ℕ = if (s || e) then ([], c ∷ cs) else (c ∷ (plain_at o cs).0, (plain_at o cs).1) in
        fields_then o (Some (plain (b ∷ found.0), found.1)) (λ rest. fields_up_to n o rest) ≡ Some (fields, after)) → is_empty fields ≡ is_blank o.eol (b ∷ c ∷ cs)
    by true e is_separator ends is =
        not_empty_two n o (plain (b ∷ [])) cs fields after (rw is_separator at is)
        ∙ sym (blank_not_one o.eol b c cs no_eol (separator_no_eol o c fit is_separator))
    by false true other ends is =
        ended_one o (plain (b ∷ [])) cs fields after (rw (other, ends) at is) ∙ last_field-one o b ∙ sym (blank_one o.eol b (c ∷ cs) true no_eol ends)
    by false false other goes is =
        let f = plain (b ∷ c ∷ (plain_at o cs).0) in
        not_empty_head o f fields (then_head o f (plain_at o cs).1 (λ rest. fields_up_to n o rest) fields after is) (some_bytes (suc (length (plain_at o cs).0))) (last_field-two o b c (plain_at o cs).0)
        ∙ sym (blank_not_one o.eol b c cs no_eol goes)

plain_blank : (n : ℕ) (o : Dialect) (b : ℕ) (bs : List ℕ) (fields : List CsvField) (after : List ℕ) → IsDialect o
    → fields_then o (plain_field (plain_at o (b ∷ bs))) (λ rest. fields_up_to n o rest) ≡ Some (fields, after) → is_empty fields ≡ is_blank o.eol (b ∷ bs)
plain_blank n o b bs fields after fit is = by (b == o.separator) (b == o.eol) refl refl is
  where
    by : (s e : Bool) → (b == o.separator) ≡ s → (b == o.eol) ≡ e
        → fields_then o (plain_field (if (s || e) then ([], b ∷ bs) else (b ∷ (plain_at o bs).0, (plain_at o bs).1))) (λ rest. fields_up_to n o rest) ≡ Some (fields, after)
        → is_empty fields ≡ is_blank o.eol (b ∷ bs)
    by true e is_separator ends is =
        not_empty_two n o (plain []) bs fields after (rw is_separator at is)
        ∙ sym (blank_no o.eol b bs (separator_no_eol o b fit is_separator) (separator_no_return o b fit is_separator))
    by false true other ends is =
        ended_one o (plain []) bs fields after (rw (other, ends) at is) ∙ ap is_nothing (last_field-nothing o) ∙ sym (rw ends refl)
    by false false other goes is = one_blank n o b bs fields after fit goes is

pub fields_blank : (n : ℕ) (o : Dialect) (text : List ℕ) (fields : List CsvField) (after : List ℕ) → IsDialect o → fields_up_to (suc n) o text ≡ Some (fields, after)
    → is_empty fields ≡ is_blank o.eol text
fields_blank n o [] fields after fit is = ended_one o (plain []) [] fields after is ∙ ap is_nothing (last_field-nothing o)
fields_blank n o (b ∷ bs) fields after fit is = by (is_quote o.quote b) refl is
  where
    by : (q : Bool) → is_quote o.quote b ≡ q
        → fields_then o (if q then in_quotes (quoted_at b bs) else plain_field (plain_at o (b ∷ bs))) (λ rest. fields_up_to n o rest) ≡ Some (fields, after)
        → is_empty fields ≡ is_blank o.eol (b ∷ bs)
    by true quoted is = quoted_blank n o b bs (quoted_at b bs) fields after is ∙ sym (blank_no o.eol b bs (quote_no_eol o b fit quoted) (quote_no_return o b fit quoted))
    by false unquoted is = plain_blank n o b bs fields after fit is

-- what is read is a row or none by the prefix and by the first bytes
abbrev pub row_by : ℕ → ℕ → List ℕ → Bool → Bool
row_by columns eol text true = false
row_by columns eol text false = columns == 1 || not (is_blank eol text)

row_of_fields : (o : Dialect) (columns : ℕ) (text : List ℕ) (found : Option (List CsvField × List ℕ)) (r : CsvRecord) (rest : List ℕ)
    → ((fields : List CsvField) (after : List ℕ) → found ≡ Some (fields, after) → is_empty fields ≡ is_blank o.eol text)
    → fields_record found ≡ Some (r, rest) → is_row columns r ≡ (columns == 1 || not (is_blank o.eol text))
row_of_fields o columns text None r rest blank is = cc
row_of_fields o columns text (Some found) r rest blank is =
    let pair : ◌≡◌ {A = CsvRecord × List ℕ} (Fields found.0, found.1) (r, rest) = cc in
    sym (ap (λ (p : CsvRecord × List ℕ). is_row columns p.0) pair) ∙ ap (λ (t : Bool). columns == 1 || not t) (blank found.0 found.1 refl)

row_then : (o : Dialect) (columns : ℕ) (text : List ℕ) (body : Option (List ℕ)) (r : CsvRecord) (rest : List ℕ) → IsDialect o
    → record_then_fields o text body ≡ Some (r, rest) → is_row columns r ≡ row_by columns o.eol text (is_some body)
row_then o columns text (Some body) r rest fit is =
    let pair : ◌≡◌ {A = CsvRecord × List ℕ} (Comment (line_at o.eol body).0, (line_at o.eol body).1) (r, rest) = cc in
    sym (ap (λ (p : CsvRecord × List ℕ). is_row columns p.0) pair)
row_then o columns text None r rest fit is =
    row_of_fields o columns text (fields_up_to (length text + 1) o text) r rest
    (λ fields after found. fields_blank (length text) o text fields after fit (ap (λ (n : ℕ). fields_up_to n o text) (sym (add-one (length text))) ∙ found)) is

pub row_at : (o : Dialect) (columns : ℕ) (text : List ℕ) (r : CsvRecord) (rest : List ℕ) → IsDialect o
    → record_at o text ≡ Some (r, rest) → is_row columns r ≡ row_by columns o.eol text (is_some (comment_body o.comment text))
row_at o columns text r rest fit is = row_then o columns text (comment_body o.comment text) r rest fit is

pub row_else : (o : Dialect) (columns eol : ℕ) (text rest : List ℕ) (r : CsvRecord) (blank : Bool) → IsDialect o → is_some (comment_body o.comment text) ≡ false → (columns ≡ 1 → ⊥)
    → blank ≡ is_blank eol text → eol ≡ o.eol → record_at o text ≡ Some (r, rest) → not blank ≡ is_row columns r
row_else o columns eol text rest r blank fit no_comment other blank_is eol_is is =
    ap not (blank_is ∙ ap (λ (e : ℕ). is_blank e text) eol_is)
    ∙ sym (row_at o columns text r rest fit is ∙ ap (row_by columns o.eol text) no_comment ∙ ap (λ (t : Bool). t || not (is_blank o.eol text)) (other_byte columns 1 other))

-- a text that is over does not begin with more
pub front_over : (front text : List ℕ) (at : ℕ) → at < length front → length text ≤ at → is_some (behind_front (drop at front) (drop at text)) ≡ false
front_over front text at within over =
    ap (λ (f : List ℕ). is_some (behind_front f (drop at text))) (drop_more front at 0 within)
    ∙ ap (λ (t : List ℕ). is_some (behind_front (get_or front at 0 ∷ drop (at + 1) front) t)) (drop_all at text over)

header_row : (r : CsvRecord) → is_row 0 r ≡ is_header r
header_row (Comment body) = refl
header_row (Fields fields) = refl

-- what is no comment is a header where it is not blank
pub header_else : (o : Dialect) (eol : ℕ) (text rest : List ℕ) (r : CsvRecord) (blank : Bool) → IsDialect o → is_some (comment_body o.comment text) ≡ false
    → blank ≡ is_blank eol text → eol ≡ o.eol → record_at o text ≡ Some (r, rest) → not blank ≡ is_header r
header_else o eol text rest r blank fit no_comment blank_is eol_is is =
    ap not (blank_is ∙ ap (λ (e : ℕ). is_blank e text) eol_is)
    ∙ sym (row_at o 0 text r rest fit is ∙ ap (row_by 0 o.eol text) no_comment) ∙ header_row r
