-- The record that a text begins with, in both directions.
use Rattle.std.proofs.Common.{◌≡◌, ◌≢◌, ℕ, suc, ◌+◌, ◌<◌, ap, sym, subst, refl, ◌∙◌, inl, inr, arith, append_assoc, length-append}
use Rattle.std.proofs.lemmas.List.{append-nil}
use Rattle.std.specs.Prelude.{◌⊎◌, Option, Some, None, List, [], ◌∷◌, ◌++◌, length}
use Rattle.morsel_grammar.specs.Dialect.{Dialect, IsDialect, IsWithout}
use Rattle.morsel_grammar.specs.Grammar.{CsvField, CsvRecord, Comment, Fields, Spells, IsLineEnd, IsEnd, AreFields, BeginsComment, IsRecord, Records}
use Rattle.morsel_grammar.specs.Split.{fields_up_to, comment_body, fields_record, comment_record, record_then_fields, record_at}
use Rattle.morsel_grammar.specs.Laws.{ReadsByGrammar, RefusesByGrammar, BeginsWithOne, IsOneList, TakesBytes}
use Rattle.morsel_grammar.proofs.FieldListLemmas.{fields-written, AreFound, fields-read}
use Rattle.morsel_grammar.proofs.CommentLemmas.{line_at-written, line_at-read, IsBodyText, comment_body-read, comment_body-written, prefix_without_eol, front_before}

-- the text begins with the record that is found
abbrev pub IsFound : Dialect → List ℕ → Option (CsvRecord × List ℕ) → Type 0
IsFound o text None = Unit {0}
IsFound o text (Some found) = IsRecord o found.0 text found.1

fields_read : (o : Dialect) (text : List ℕ) (found : Option (List CsvField × List ℕ)) → (BeginsComment o text → ⊥) → AreFound o text found → IsFound o text (fields_record found)
fields_read o text None never are = tt
fields_read o text (Some found) never are = (never, are)

body_read : (o : Dialect) (text : List ℕ) (body : Option (List ℕ)) → IsBodyText o.comment text body → IsFound o text (record_then_fields o text body)
body_read o text None never =
    fields_read o text (fields_up_to (length text + 1) o text) (λ begins. never begins.0 begins.1 begins.2 begins.3) (fields-read (length text + 1) o text)
body_read o text (Some body) begins =
    let line = line_at-read o body in
    record {
      prefix = begins.0;
      end = line.end;
      asked = begins.1;
      spelled = begins.2 ∙ ap (λ (x : List ℕ). begins.0 ++ x) line.is;
      no_eol = line.no_eol;
      ended = line.line;
    }

pub record_at-read : (o : Dialect) (text : List ℕ) → IsFound o text (record_at o text)
record_at-read o text = body_read o text (comment_body o.comment text) (comment_body-read o.comment text)

pub no_body : (o : Dialect) (text : List ℕ) (body : Option (List ℕ)) → (BeginsComment o text → ⊥) → IsBodyText o.comment text body → body ≡ None
no_body o text None never is = refl
no_body o text (Some body) never is = absurd (never (is.0, body, is.1, is.2))

pub record_at-written : (o : Dialect) (r : CsvRecord) (text rest : List ℕ) → IsDialect o → IsRecord o r text rest → record_at o text ≡ Some (r, rest)
record_at-written o (Comment body) text rest fit is =
    ap (record_then_fields o text) (comment_body-written o.comment is.prefix text (body ++ is.end) is.asked is.spelled)
    ∙ ap comment_record (line_at-written o body is.end rest is.no_eol is.ended)
record_at-written o (Fields fields) text rest fit is =
    ap (record_then_fields o text) (no_body o text (comment_body o.comment text) is.0 (comment_body-read o.comment text))
    ∙ ap fields_record (fields-written (length text + 1) o fields text rest fit is.1 (omega arith))

pub reads_by_grammar : (o : Dialect) → IsDialect o → ReadsByGrammar o
reads_by_grammar o fit = λ text r rest. (
  λ read. let P : Option (CsvRecord × List ℕ) → Type 0 = λ found. IsFound o text found in subst P read (record_at-read o text),
  λ is. record_at-written o r text rest fit is,
)

none_found : (o : Dialect) (text : List ℕ) (found : Option (CsvRecord × List ℕ)) → IsFound o text found
    → ((r : CsvRecord) (rest : List ℕ) → IsRecord o r text rest → ⊥) → found ≡ None
none_found o text None is never = refl
none_found o text (Some found) is never = absurd (never found.0 found.1 is)

pub refuses_by_grammar : (o : Dialect) → IsDialect o → RefusesByGrammar o
refuses_by_grammar o fit = λ text. (
  λ none r rest is. let found : record_at o text ≡ Some (r, rest) = record_at-written o r text rest fit is in cc,
  λ never. none_found o text (record_at o text) (record_at-read o text) never,
)

found_same : (a b : CsvRecord × List ℕ) → Some a ≡ Some b → a ≡ b
found_same a b is = cc

pub begins_with_one : (o : Dialect) → IsDialect o → BeginsWithOne o
begins_with_one o fit = λ text r s rest other is also.
    let one : record_at o text ≡ Some (r, rest) = record_at-written o r text rest fit is in
    let two : record_at o text ≡ Some (s, other) = record_at-written o s text other fit also in
    let same = found_same (r, rest) (s, other) (sym one ∙ two) in
    (ap (λ (x : CsvRecord × List ℕ). x.0) same, ap (λ (x : CsvRecord × List ℕ). x.1) same)

pub one_list : (o : Dialect) → IsDialect o → (text : List ℕ) (a b : List CsvRecord) → Records o text a → Records o text b → a ≡ b
one_list o fit text [] [] is also = refl
one_list o fit text [] (s ∷ b) is also = absurd (also.0 is)
one_list o fit text (r ∷ a) [] is also = absurd (is.0 also)
one_list o fit text (r ∷ a) (s ∷ b) is also =
    let same = begins_with_one o fit text r s is.1 also.1 is.2 also.2 in
    let P : List ℕ → Type 0 = λ x. Records o x b in
    let first : r ≡ s = same.0 in
    let later : a ≡ b = one_list o fit is.1 a b is.3 (subst P (sym same.1) also.3) in
    cc

pub is_one_list : (o : Dialect) → IsDialect o → IsOneList o
is_one_list o fit = λ text a b is also. one_list o fit text a b is also

-- how a record ends
abbrev pub EndsIn : (o : Dialect) → (List ℕ → List ℕ → Type 0) → List ℕ → List ℕ → Type 0
EndsIn o Is text rest = (rest ≡ []) ⊎ ((bytes : List ℕ) × (text ≡ bytes ++ o.eol ∷ rest) × ((more : List ℕ) → Is (bytes ++ o.eol ∷ more) more))

last_ends : (o : Dialect) (f : CsvField) (text spelled end rest : List ℕ) → Spells o f.quoted f.bytes spelled → text ≡ spelled ++ end → IsEnd o f end rest
    → EndsIn o (AreFields o (f ∷ [])) text rest
last_ends o f text spelled end rest spells is (inl (ten, after, end_is, inl line)) =
    inr (
      spelled ++ 13 ∷ [],
      is ∙ ap (λ (x : List ℕ). spelled ++ x) (end_is ∙ ap (λ (x : List ℕ). 13 ∷ x) line) ∙ sym (append_assoc spelled (13 ∷ []) (o.eol ∷ rest)),
      λ more. (spelled, 13 ∷ o.eol ∷ more, spells, append_assoc spelled (13 ∷ []) (o.eol ∷ more), inl (ten, o.eol ∷ more, refl, inl refl)),
    )
last_ends o f text spelled end rest spells is (inl (ten, after, end_is, inr line)) = inl line.1
last_ends o f text spelled end rest spells is (inr (inl line, never)) =
    inr (spelled, is ∙ ap (λ (x : List ℕ). spelled ++ x) line, λ more. (spelled, o.eol ∷ more, spells, refl, inr (inl refl, never)))
last_ends o f text spelled end rest spells is (inr (inr line, never)) = inl line.1

next_ends : (o : Dialect) (f g : CsvField) (fields : List CsvField) (text spelled after rest : List ℕ) → Spells o f.quoted f.bytes spelled
    → text ≡ spelled ++ o.separator ∷ after → EndsIn o (AreFields o (g ∷ fields)) after rest → EndsIn o (AreFields o (f ∷ g ∷ fields)) text rest
next_ends o f g fields text spelled after rest spells is (inl none) = inl none
next_ends o f g fields text spelled after rest spells is (inr (bytes, after_is, again)) =
    inr (
      spelled ++ o.separator ∷ bytes,
      is ∙ ap (λ (x : List ℕ). spelled ++ o.separator ∷ x) after_is ∙ sym (append_assoc spelled (o.separator ∷ bytes) (o.eol ∷ rest)),
      λ more. (spelled, bytes ++ o.eol ∷ more, spells, append_assoc spelled (o.separator ∷ bytes) (o.eol ∷ more), again more),
    )

pub fields_end : (o : Dialect) (fields : List CsvField) (text rest : List ℕ) → AreFields o fields text rest → EndsIn o (AreFields o fields) text rest
fields_end o [] text rest are = absurd are
fields_end o (f ∷ []) text rest are = last_ends o f text are.0 are.1 rest are.2 are.3 are.4
fields_end o (f ∷ g ∷ fields) text rest are =
    next_ends o f g fields text are.0 are.1 rest are.2 are.3 (fields_end o (g ∷ fields) are.1 rest are.4)

fields_record_ends : (o : Dialect) (fields : List CsvField) (text rest : List ℕ) → IsDialect o → (BeginsComment o text → ⊥)
    → EndsIn o (AreFields o fields) text rest → EndsIn o (IsRecord o (Fields fields)) text rest
fields_record_ends o fields text rest fit never (inl none) = inl none
fields_record_ends o fields text rest fit never (inr (bytes, is, again)) =
    inr (
      bytes,
      is,
      λ more. (
        λ begins.
            let found = front_before o.eol begins.0 begins.1 bytes more (prefix_without_eol o.eol o.comment begins.0 fit.comment begins.2) begins.3 in
            never (
              begins.0,
              found.0 ++ o.eol ∷ rest,
              begins.2,
              is ∙ ap (λ (x : List ℕ). x ++ o.eol ∷ rest) found.1 ∙ append_assoc begins.0 found.0 (o.eol ∷ rest),
            ),
        again more,
      ),
    )

comment_ends : (o : Dialect) (body text prefix end rest : List ℕ) → o.comment ≡ Some prefix → text ≡ prefix ++ (body ++ end) → IsWithout o.eol body → IsLineEnd o end rest
    → EndsIn o (IsRecord o (Comment body)) text rest
comment_ends o body text prefix end rest asked is no_eol (inl line) =
    inr (
      prefix ++ body,
      is ∙ ap (λ (x : List ℕ). prefix ++ (body ++ x)) line ∙ sym (append_assoc prefix body (o.eol ∷ rest)),
      λ more. record {
        prefix = prefix;
        end = o.eol ∷ more;
        asked = asked;
        spelled = append_assoc prefix body (o.eol ∷ more);
        no_eol = no_eol;
        ended = inl refl;
      },
    )
comment_ends o body text prefix end rest asked is no_eol (inr line) = inl line.1

pub record_ends : (o : Dialect) (r : CsvRecord) (text rest : List ℕ) → IsDialect o → IsRecord o r text rest → EndsIn o (IsRecord o r) text rest
record_ends o (Comment body) text rest fit is = comment_ends o body text is.prefix is.end rest is.asked is.spelled is.no_eol is.ended
record_ends o (Fields fields) text rest fit is = fields_record_ends o fields text rest fit is.0 (fields_end o fields text rest is.1)

some_byte : (text : List ℕ) → text ≢ [] → 0 < length text
some_byte [] some = absurd (some refl)
some_byte (b ∷ bs) some = omega arith

left_after : (o : Dialect) (r : CsvRecord) (text rest : List ℕ) → text ≢ [] → EndsIn o (IsRecord o r) text rest
    → (front : List ℕ) × (text ≡ front ++ rest) × (length rest < length text)
left_after o r text rest some (inl none) =
    let more : 0 < length text = some_byte text some in
    let size : length rest ≡ 0 = ap length none in
    (text, sym (append-nil text) ∙ ap (λ (x : List ℕ). text ++ x) (sym none), omega arith)
left_after o r text rest some (inr (bytes, is, again)) =
    let size : length text ≡ length bytes + suc (length rest) = ap length is ∙ length-append bytes (o.eol ∷ rest) in
    (bytes ++ o.eol ∷ [], is ∙ sym (append_assoc bytes (o.eol ∷ []) rest), omega arith)

pub takes_bytes : (o : Dialect) → IsDialect o → TakesBytes o
takes_bytes o fit = λ text r rest is some. left_after o r text rest some (record_ends o r text rest fit is)
