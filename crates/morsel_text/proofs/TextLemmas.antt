-- The fields of a record that is text are texts.
use Rattle.std.proofs.Common.{◌≡◌, ℕ, zero, suc, ◌+◌, ◌-◌, ◌<◌, ◌∙◌, sym, ap, refl, arith, subst, Bool, true, false, not, ◌&&◌, ◌==◌, List, [], ◌∷◌, ◌++◌, length, take, drop, get_or, append_assoc, length-append, ◌⊎◌, inl, inr, lit<}
use Rattle.std.proofs.lemmas.Bool.{eqb-true, and_parts}
use Rattle.std.proofs.lemmas.List.{take_at, drop_at, append-nil, get_or_at}
use Rattle.std.proofs.lemmas.Str.{IsUtf8-append, IsUtf8-take, IsUtf8-drop, IsCharBoundary-before_ascii, IsCharBoundary-after_ascii, IsUtf8-from_ascii}
use Rattle.std.specs.Prelude.{Option, Some, None, IsUtf8}
use Rattle.morsel_grammar.specs.Dialect.{Dialect, IsDialect, IsQuoteFor}
use Rattle.morsel_grammar.specs.Grammar.{CsvField, CsvRecord, Comment, Fields}
use Rattle.morsel_grammar.specs.Split.{is_quote, stops, plain_at, with_byte, quoted_at, in_quotes, field_at, plain_field, without_return, last_field, ended, returned, with_field, fields_then, fields_up_to, comment_body, fields_record, line_at, record_then_fields, record_at, begins}
use Rattle.morsel_text.specs.Pushes.{AreTexts}
use Rattle.morsel_text.proofs.SplitLemmas.{closed_by, quoted_other, quoted_twice}

-- a text is cut at a byte below 128 into texts
utf8_before : (xs ys : List ℕ) (b : ℕ) → b < 128 → IsUtf8 (xs ++ b ∷ ys) → IsUtf8 xs
utf8_before xs ys b ascii utf8 =
    let within : length xs < length (xs ++ b ∷ ys) = simp length-append (omega arith) in
    let here : get_or (xs ++ b ∷ ys) (length xs) 0 < 128 = rw (get_or_at xs b ys 0 (length xs) refl) ascii in
    subst IsUtf8 (take_at xs (b ∷ ys) (length xs) refl) (IsUtf8-take (xs ++ b ∷ ys) (length xs) utf8 (IsCharBoundary-before_ascii (xs ++ b ∷ ys) (length xs) within here))

drop_behind : (xs ys : List ℕ) (b : ℕ) → drop (length xs + 1) (xs ++ b ∷ ys) ≡ ys
drop_behind xs ys b = ap (drop (length xs + 1)) (sym (append_assoc xs (b ∷ []) ys)) ∙ drop_at (xs ++ b ∷ []) ys (length xs + 1) (length-append xs (b ∷ []))

pub utf8_behind : (xs ys : List ℕ) (b : ℕ) → b < 128 → IsUtf8 (xs ++ b ∷ ys) → IsUtf8 ys
utf8_behind xs ys b ascii utf8 =
    let within : length xs < length (xs ++ b ∷ ys) = simp length-append (omega arith) in
    let here : get_or (xs ++ b ∷ ys) (length xs) 0 < 128 = rw (get_or_at xs b ys 0 (length xs) refl) ascii in
    subst IsUtf8 (drop_behind xs ys b) (IsUtf8-drop (xs ++ b ∷ ys) (length xs + 1) utf8 (IsCharBoundary-after_ascii (xs ++ b ∷ ys) (length xs) utf8 within here))

pub utf8_byte : (b : ℕ) (ys : List ℕ) → b < 128 → IsUtf8 ys → IsUtf8 (b ∷ ys)
utf8_byte b ys ascii utf8 = IsUtf8-append (b ∷ []) ys (IsUtf8-from_ascii (b ∷ []) (λ i. one i)) utf8
  where
    one : (i : ℕ) → get_or (b ∷ []) i 0 < 128
    one zero = ascii
    one (suc i) = omega arith

-- what is between quotes, and how its content is text
record Inner (bs rest content : List ℕ) : Type 0 where
  raw : List ℕ
  is : bs ≡ raw ++ rest
  text : (front : List ℕ) → IsUtf8 (front ++ raw) → IsUtf8 (front ++ content)

inner_other : (b : ℕ) (bs rest content : List ℕ) → Inner bs rest content → Inner (b ∷ bs) rest (b ∷ content)
inner_other b bs rest content later = record {
  raw = b ∷ later.raw;
  is = ap (λ (x : List ℕ). b ∷ x) later.is;
  text = λ front utf8.
      subst IsUtf8 (append_assoc front (b ∷ []) content) (later.text (front ++ b ∷ []) (subst IsUtf8 (sym (append_assoc front (b ∷ []) later.raw)) utf8));
}

inner_twice : (q : ℕ) (bs rest content : List ℕ) → q < 128 → Inner bs rest content → Inner (q ∷ q ∷ bs) rest (q ∷ content)
inner_twice q bs rest content ascii later = record {
  raw = q ∷ q ∷ later.raw;
  is = ap (λ (x : List ℕ). q ∷ q ∷ x) later.is;
  text = λ front utf8.
      let after : IsUtf8 (q ∷ later.raw) = utf8_behind front (q ∷ later.raw) q ascii utf8 in
      IsUtf8-append front (q ∷ content) (utf8_before front (q ∷ later.raw) q ascii utf8)
      (utf8_byte q content ascii (later.text [] (utf8_behind [] later.raw q ascii after)));
}

inner_closed : (q : ℕ) (rest : List ℕ) → q < 128 → Inner (q ∷ rest) rest []
inner_closed q rest ascii = record {
  raw = q ∷ [];
  is = refl;
  text = λ front utf8. subst IsUtf8 (sym (append-nil front)) (utf8_before front [] q ascii utf8);
}

pub some_same : {A : Type 0} (x y : A) → (let found : Option A = Some x in found ≡ Some y) → x ≡ y
some_same x y is = cc

with_byte-some : (b : ℕ) (found : Option (List ℕ × List ℕ)) (content rest : List ℕ) → with_byte b found ≡ Some (content, rest)
    → (later : List ℕ) × (found ≡ Some (later, rest)) × (content ≡ b ∷ later)
with_byte-some b None content rest is = absurd (cc)
with_byte-some b (Some x) content rest is =
    let same : (let p : List ℕ × List ℕ = (b ∷ x.0, x.1) in p ≡ (content, rest)) = some_same _ _ is in
    (x.0, ap (λ (r : List ℕ). let p : List ℕ × List ℕ = (x.0, r) in Some p) (ap (λ p. p.1) same), sym (ap (λ p. p.0) same))

-- the content is what was read in front of it
inner_along : (bs rest content content' : List ℕ) → content ≡ content' → Inner bs rest content' → Inner bs rest content
inner_along bs rest content content' is inner = subst (λ k. Inner bs rest k) (sym is) inner

inner_closing : (q b : ℕ) (bs content rest : List ℕ) → q < 128 → (b == q) ≡ true → begins q bs ≡ false → quoted_at q (b ∷ bs) ≡ Some (content, rest) → Inner (b ∷ bs) rest content
inner_closing q b bs content rest ascii is lone found =
    let same : (let p : List ℕ × List ℕ = ([], bs) in p ≡ (content, rest)) = some_same _ _ (sym (closed_by q b bs is lone) ∙ found) in
    let b_is : b ≡ q = eqb-true b q is in
    subst (λ r. Inner (b ∷ bs) r content) (ap (λ p. p.1) same)
    (inner_along (b ∷ bs) bs content [] (sym (ap (λ p. p.0) same)) (inner_closed b bs (rw b_is ascii)))

inner_by : (q b c : ℕ) (cs content rest : List ℕ) → q < 128 → (t u : Bool) → (b == q) ≡ t → (c == q) ≡ u → quoted_at q (b ∷ c ∷ cs) ≡ Some (content, rest)
    → ((k r : List ℕ) → quoted_at q (c ∷ cs) ≡ Some (k, r) → Inner (c ∷ cs) r k) → ((k r : List ℕ) → quoted_at q cs ≡ Some (k, r) → Inner cs r k)
    → Inner (b ∷ c ∷ cs) rest content
inner_by q b c cs content rest ascii false u is next found later behind =
    let more = with_byte-some b (quoted_at q (c ∷ cs)) content rest (sym (quoted_other q b (c ∷ cs) is) ∙ found) in
    inner_along (b ∷ c ∷ cs) rest content (b ∷ more.0) more.2 (inner_other b (c ∷ cs) rest more.0 (later more.0 rest more.1))
inner_by q b c cs content rest ascii true false is next found later behind = inner_closing q b (c ∷ cs) content rest ascii is next found
inner_by q b c cs content rest ascii true true is next found later behind =
    let b_is : b ≡ q = eqb-true b q is in
    let c_is : c ≡ q = eqb-true c q next in
    let twice : quoted_at q (b ∷ c ∷ cs) ≡ with_byte q (quoted_at q cs) =
    ap (λ x. quoted_at q (x ∷ c ∷ cs)) b_is ∙ ap (λ x. quoted_at q (q ∷ x ∷ cs)) c_is ∙ quoted_twice q cs in
    let more = with_byte-some q (quoted_at q cs) content rest (sym twice ∙ found) in
    rw (b_is, c_is) (inner_along (q ∷ q ∷ cs) rest content (q ∷ more.0) more.2 (inner_twice q cs rest more.0 ascii (behind more.0 rest more.1)))

quoted_inner : (q : ℕ) (bs content rest : List ℕ) → q < 128 → quoted_at q bs ≡ Some (content, rest) → Inner bs rest content
quoted_inner q [] content rest ascii is = absurd (cc)
quoted_inner q (b ∷ []) content rest ascii is = last (b == q) refl
  where
    last : (t : Bool) → (b == q) ≡ t → Inner (b ∷ []) rest content
    last true same = inner_closing q b [] content rest ascii same refl is
    last false other = absurd (let none : quoted_at q (b ∷ []) ≡ None = rw other in cc)
quoted_inner q (b ∷ c ∷ bs) content rest ascii is =
    inner_by q b c bs content rest ascii (b == q) (c == q) refl refl is
    (λ k r found. quoted_inner q (c ∷ bs) k r ascii found) (λ k r found. quoted_inner q bs k r ascii found)

-- what a text begins with, and how the fields there are texts
pub record Front (text rest : List ℕ) (fields : List CsvField) : Type 0 where
  pub raw : List ℕ
  pub is : text ≡ raw ++ rest
  pub texts : IsUtf8 raw → AreTexts fields

-- the same of one field
pub record FieldFront (text rest : List ℕ) (f : CsvField) : Type 0 where
  pub raw : List ℕ
  pub is : text ≡ raw ++ rest
  pub text_of : IsUtf8 raw → IsUtf8 f.bytes

plain_split : (o : Dialect) (text : List ℕ) → text ≡ (plain_at o text).0 ++ (plain_at o text).1
plain_split o [] = refl
plain_split o (b ∷ bs) = by (stops o b) refl (plain_split o bs)
  where
    by : (t : Bool) → stops o b ≡ t → bs ≡ (plain_at o bs).0 ++ (plain_at o bs).1 → b ∷ bs ≡ (plain_at o (b ∷ bs)).0 ++ (plain_at o (b ∷ bs)).1
    by true is later = rw is
    by false other later = rw other (ap (λ (x : List ℕ). b ∷ x) later)

plain_front : (o : Dialect) (text rest : List ℕ) (f : CsvField) → plain_field (plain_at o text) ≡ Some (f, rest) → FieldFront text rest f
plain_front o text rest f found =
    let plain : CsvField = record { quoted = false; bytes = (plain_at o text).0 } in
    let same : (let p : CsvField × List ℕ = (plain, (plain_at o text).1) in p ≡ (f, rest)) = some_same _ _ found in
    record {
      raw = (plain_at o text).0;
      is = plain_split o text ∙ ap (λ r. (plain_at o text).0 ++ r) (ap (λ p. p.1) same);
      text_of = λ utf8. subst (λ (g : CsvField). IsUtf8 g.bytes) (ap (λ p. p.0) same) utf8;
    }

quoted_front : (q : ℕ) (bs rest : List ℕ) (f : CsvField) (found : Option (List ℕ × List ℕ)) → q < 128 → quoted_at q bs ≡ found → in_quotes found ≡ Some (f, rest) → FieldFront (q ∷ bs) rest f
quoted_front q bs rest f None ascii is held = absurd (cc)
quoted_front q bs rest f (Some x) ascii is held =
    let plain : CsvField = record { quoted = true; bytes = x.0 } in
    let same : (let p : CsvField × List ℕ = (plain, x.1) in p ≡ (f, rest)) = some_same _ _ held in
    let inner = quoted_inner q bs x.0 x.1 ascii is in
    record {
      raw = q ∷ inner.raw;
      is = ap (λ (t : List ℕ). q ∷ t) (inner.is ∙ ap (λ r. inner.raw ++ r) (ap (λ p. p.1) same));
      text_of = λ utf8. subst (λ (g : CsvField). IsUtf8 g.bytes) (ap (λ p. p.0) same) (inner.text [] (utf8_behind [] inner.raw q ascii utf8));
    }

quote_ascii : (o : Dialect) (quote : Option ℕ) (b : ℕ) → IsQuoteFor o.separator o.eol quote → is_quote quote b ≡ true → b < 128
quote_ascii o None b fit is = absurd (cc)
quote_ascii o (Some q) b fit is = rw (eqb-true b q is) fit.0

pub field_front : (o : Dialect) (text rest : List ℕ) (f : CsvField) → IsDialect o → field_at o text ≡ Some (f, rest) → FieldFront text rest f
field_front o [] rest f fit found = plain_front o [] rest f found
field_front o (b ∷ bs) rest f fit found = by (is_quote o.quote b) refl
  where
    by : (t : Bool) → is_quote o.quote b ≡ t → FieldFront (b ∷ bs) rest f
    by true is = quoted_front b bs rest f (quoted_at b bs) (quote_ascii o o.quote b fit.quote is) refl
        (let open_quote : field_at o (b ∷ bs) ≡ in_quotes (quoted_at b bs) = rw is in sym open_quote ∙ found)
    by false other = plain_front o (b ∷ bs) rest f
        (let plain : field_at o (b ∷ bs) ≡ plain_field (plain_at o (b ∷ bs)) = rw other in sym plain ∙ found)

return_split : (bs : List ℕ) → (without_return bs ≡ bs) ⊎ (bs ≡ without_return bs ++ 13 ∷ [])
return_split [] = inl refl
return_split (b ∷ []) = by (b == 13) refl
  where
    by : (t : Bool) → (b == 13) ≡ t → (without_return (b ∷ []) ≡ b ∷ []) ⊎ (b ∷ [] ≡ without_return (b ∷ []) ++ 13 ∷ [])
    by true is = inr (rw is (ap (λ (x : ℕ). x ∷ []) (eqb-true b 13 is)))
    by false other = inl (rw other)
return_split (b ∷ c ∷ bs) = by (return_split (c ∷ bs))
  where
    by : (without_return (c ∷ bs) ≡ c ∷ bs) ⊎ (c ∷ bs ≡ without_return (c ∷ bs) ++ 13 ∷ [])
        → (b ∷ without_return (c ∷ bs) ≡ b ∷ c ∷ bs) ⊎ (b ∷ c ∷ bs ≡ b ∷ without_return (c ∷ bs) ++ 13 ∷ [])
    by (inl same) = inl (ap (λ (x : List ℕ). b ∷ x) same)
    by (inr cut) = inr (ap (λ (x : List ℕ). b ∷ x) cut)

without_return-text : (bs : List ℕ) → IsUtf8 bs → IsUtf8 (without_return bs)
without_return-text bs utf8 = by (return_split bs)
  where
    by : (without_return bs ≡ bs) ⊎ (bs ≡ without_return bs ++ 13 ∷ []) → IsUtf8 (without_return bs)
    by (inl same) = subst IsUtf8 (sym same) utf8
    by (inr cut) = utf8_before (without_return bs) [] 13 (lit< tt) (subst IsUtf8 cut utf8)

last_field-text : (o : Dialect) (f : CsvField) → IsUtf8 f.bytes → IsUtf8 (last_field o f).bytes
last_field-text o f utf8 = by (not f.quoted && o.eol == 10) refl
  where
    by : (t : Bool) → (not f.quoted && o.eol == 10) ≡ t → IsUtf8 (last_field o f).bytes
    by true is = rw is (without_return-text f.bytes utf8)
    by false other = rw other utf8

-- the record ends after its last field and so many bytes
ended_front : (o : Dialect) (text end behind rest : List ℕ) (f : CsvField) (fields : List CsvField) (field : FieldFront text (end ++ behind) f)
    → ((raw : List ℕ) → IsUtf8 (raw ++ end) → IsUtf8 raw) → ended o f behind ≡ Some (fields, rest) → Front text rest fields
ended_front o text end behind rest f fields field cut found =
    let last : List CsvField = last_field o f ∷ [] in
    let same : (let p : List CsvField × List ℕ = (last, behind) in p ≡ (fields, rest)) = some_same _ _ found in
    record {
      raw = field.raw ++ end;
      is = field.is ∙ sym (append_assoc field.raw end behind) ∙ ap (λ r. (field.raw ++ end) ++ r) (ap (λ p. p.1) same);
      texts = λ utf8. subst AreTexts (ap (λ p. p.0) same) (last_field-text o f (field.text_of (cut field.raw utf8)), tt);
    }

with_field-some : (f : CsvField) (found : Option (List CsvField × List ℕ)) (fields : List CsvField) (rest : List ℕ) → with_field f found ≡ Some (fields, rest)
    → (later : List CsvField) × (found ≡ Some (later, rest)) × (fields ≡ f ∷ later)
with_field-some f None fields rest is = absurd (cc)
with_field-some f (Some x) fields rest is =
    let all : List CsvField = f ∷ x.0 in
    let same : (let p : List CsvField × List ℕ = (all, x.1) in p ≡ (fields, rest)) = some_same _ _ is in
    (x.0, ap (λ (r : List ℕ). let p : List CsvField × List ℕ = (x.0, r) in Some p) (ap (λ p. p.1) same), sym (ap (λ p. p.0) same))

-- fields after a separator
more_front : (text after rest : List ℕ) (b : ℕ) (f : CsvField) (later fields : List CsvField) → b < 128 → FieldFront text (b ∷ after) f → fields ≡ f ∷ later
    → Front after rest later → Front text rest fields
more_front text after rest b f later fields ascii field is front = record {
  raw = field.raw ++ b ∷ front.raw;
  is = field.is ∙ ap (λ (r : List ℕ). field.raw ++ b ∷ r) front.is ∙ sym (append_assoc field.raw (b ∷ front.raw) rest);
  texts = λ utf8. subst AreTexts (sym is)
      (field.text_of (utf8_before field.raw front.raw b ascii utf8), front.texts (utf8_behind field.raw front.raw b ascii utf8));
}

cut_none : (raw : List ℕ) → IsUtf8 (raw ++ []) → IsUtf8 raw
cut_none raw utf8 = subst IsUtf8 (append-nil raw) utf8

returned_front : (o : Dialect) (text behind rest : List ℕ) (f : CsvField) (fields : List CsvField) → FieldFront text (13 ∷ behind) f
    → returned o f behind ≡ Some (fields, rest) → Front text rest fields
returned_front o text [] rest f fields field found = ended_front o text (13 ∷ []) [] rest f fields field (λ raw utf8. utf8_before raw [] 13 (lit< tt) utf8) found
returned_front o text (b ∷ behind) rest f fields field found = by (b == o.eol) refl
  where
    by : (t : Bool) → (b == o.eol) ≡ t → Front text rest fields
    by true is = ended_front o text (13 ∷ b ∷ []) behind rest f fields field (λ raw utf8. utf8_before raw (b ∷ []) 13 (lit< tt) utf8)
        (let end : returned o f (b ∷ behind) ≡ ended o f behind = rw is in sym end ∙ found)
    by false other = absurd (let none : returned o f (b ∷ behind) ≡ None = rw other in cc)

-- what follows a field
after_field : (o : Dialect) (text behind rest : List ℕ) (b : ℕ) (f : CsvField) (fields : List CsvField) (more : List ℕ → Option (List CsvField × List ℕ)) (t u v : Bool)
    → IsDialect o → (b == o.separator) ≡ t → (b == o.eol) ≡ u → (b == 13 && o.eol == 10) ≡ v
    → ((later : List CsvField) → more behind ≡ Some (later, rest) → Front behind rest later)
    → FieldFront text (b ∷ behind) f → fields_then o (Some (f, b ∷ behind)) more ≡ Some (fields, rest) → Front text rest fields
after_field o text behind rest b f fields more true u v fit is_separator is_eol is_return later field found =
    let goes : fields_then o (Some (f, b ∷ behind)) more ≡ with_field f (more behind) = rw is_separator in
    let next = with_field-some f (more behind) fields rest (sym goes ∙ found) in
    more_front text behind rest b f next.0 fields (rw (eqb-true b o.separator is_separator) fit.separator_ascii) field next.2 (later next.0 next.1)
after_field o text behind rest b f fields more false true v fit is_separator is_eol is_return later field found =
    let ends : fields_then o (Some (f, b ∷ behind)) more ≡ ended o f behind = rw (is_separator, is_eol) in
    ended_front o text (b ∷ []) behind rest f fields field (λ raw utf8. utf8_before raw [] b (rw (eqb-true b o.eol is_eol) fit.eol_ascii) utf8) (sym ends ∙ found)
after_field o text behind rest b f fields more false false true fit is_separator is_eol is_return later field found =
    let returns : fields_then o (Some (f, b ∷ behind)) more ≡ returned o f behind = rw (is_separator, is_eol, is_return) in
    let b_is : b ≡ 13 = eqb-true b 13 (and_parts (b == 13) (o.eol == 10) is_return).0 in
    returned_front o text behind rest f fields (subst (λ (c : ℕ). FieldFront text (c ∷ behind) f) b_is field) (sym returns ∙ found)
after_field o text behind rest b f fields more false false false fit is_separator is_eol is_return later field found =
    absurd (let none : fields_then o (Some (f, b ∷ behind)) more ≡ None = rw (is_separator, is_eol, is_return) in cc)

found_field : (o : Dialect) (text after rest : List ℕ) (f : CsvField) (fields : List CsvField) (more : List ℕ → Option (List CsvField × List ℕ))
    → IsDialect o → ((behind : List ℕ) (later : List CsvField) → more behind ≡ Some (later, rest) → Front behind rest later)
    → FieldFront text after f → fields_then o (Some (f, after)) more ≡ Some (fields, rest) → Front text rest fields
found_field o text [] rest f fields more fit later field found = ended_front o text [] [] rest f fields field (λ raw utf8. cut_none raw utf8) found
found_field o text (b ∷ behind) rest f fields more fit later field found =
    after_field o text behind rest b f fields more (b == o.separator) (b == o.eol) (b == 13 && o.eol == 10) fit refl refl refl
    (λ fs is. later behind fs is) field found

some_field : (o : Dialect) (text rest : List ℕ) (fields : List CsvField) (more : List ℕ → Option (List CsvField × List ℕ)) (found : Option (CsvField × List ℕ))
    → IsDialect o → ((behind : List ℕ) (later : List CsvField) → more behind ≡ Some (later, rest) → Front behind rest later)
    → field_at o text ≡ found → fields_then o found more ≡ Some (fields, rest) → Front text rest fields
some_field o text rest fields more None fit later is found = absurd (cc)
some_field o text rest fields more (Some x) fit later is found = found_field o text x.1 rest x.0 fields more fit later (field_front o text x.1 x.0 fit is) found

fields_front : (n : ℕ) (o : Dialect) (text rest : List ℕ) (fields : List CsvField) → IsDialect o → fields_up_to n o text ≡ Some (fields, rest) → Front text rest fields
fields_front zero o text rest fields fit found = absurd (cc)
fields_front (suc n) o text rest fields fit found =
    some_field o text rest fields (λ r. fields_up_to n o r) (field_at o text) fit (λ behind later is. fields_front n o behind rest later fit is) refl found

fields_of-some : (found : Option (List CsvField × List ℕ)) (fields : List CsvField) (rest : List ℕ) → fields_record found ≡ Some (Fields fields, rest) → found ≡ Some (fields, rest)
fields_of-some None fields rest is = absurd (cc)
fields_of-some (Some x) fields rest is =
    let all : CsvRecord = Fields x.0 in
    let same : (let p : CsvRecord × List ℕ = (all, x.1) in p ≡ (Fields fields, rest)) = some_same _ _ is in
    let parts : x.0 ≡ fields = fields_same x.0 fields (ap (λ p. p.0) same) in
    ap (λ (fs : List CsvField). let p : List CsvField × List ℕ = (fs, x.1) in Some p) parts
    ∙ ap (λ (r : List ℕ). let p : List CsvField × List ℕ = (fields, r) in Some p) (ap (λ p. p.1) same)
  where
    fields_same : (a b : List CsvField) → Fields a ≡ Fields b → a ≡ b
    fields_same a b e = cc

record_front : (o : Dialect) (text rest : List ℕ) (fields : List CsvField) (body : Option (List ℕ)) → IsDialect o
    → record_then_fields o text body ≡ Some (Fields fields, rest) → Front text rest fields
record_front o text rest fields None fit found = fields_front (length text + 1) o text rest fields fit (fields_of-some (fields_up_to (length text + 1) o text) fields rest found)
record_front o text rest fields (Some body) fit found =
    let all : CsvRecord = Comment (line_at o.eol body).0 in
    let same : (let p : CsvRecord × List ℕ = (all, (line_at o.eol body).1) in p ≡ (Fields fields, rest)) = some_same _ _ found in
    absurd (never (line_at o.eol body).0 fields (ap (λ p. p.0) same))
  where
    never : (a : List ℕ) (b : List CsvField) → Comment a ≡ Fields b → ⊥
    never a b e = cc

take_front : (raw rest text : List ℕ) → text ≡ raw ++ rest → take (length text - length rest) text ≡ raw
take_front raw rest text is =
    let size : length text - length rest ≡ length raw = omega (arith, ap length is, length-append raw rest) in
    ap (λ n. take n text) size ∙ ap (take (length raw)) is ∙ take_at raw rest (length raw) refl

-- the fields of a record that is text are texts
pub record_texts : (o : Dialect) (text rest : List ℕ) (fields : List CsvField) → IsDialect o → record_at o text ≡ Some (Fields fields, rest)
    → IsUtf8 (take (length text - length rest) text) → AreTexts fields
record_texts o text rest fields fit found utf8 =
    let front = record_front o text rest fields (comment_body o.comment text) fit found in
    front.texts (subst IsUtf8 (take_front front.raw rest text front.is) utf8)
