-- The fields of a record, in both directions.
use Rattle.std.proofs.Common.{◌≡◌, ◌≢◌, ℕ, zero, suc, ◌+◌, ◌<◌, ap, sym, subst, refl, ◌∙◌, inl, inr, arith, append_assoc, length-append}
use Rattle.std.proofs.lemmas.Bool.{eq-eqb}
use Rattle.std.specs.Prelude.{Bool, true, false, ◌&&◌, ◌||◌, ◌==◌, if◌then◌else◌, Option, Some, None, List, [], ◌∷◌, ◌++◌, length}
use Rattle.morsel_grammar.specs.Dialect.{Dialect, IsDialect, IsWithout}
use Rattle.morsel_grammar.specs.Grammar.{CsvField, BeginsUnquoted, IsPlain, Spells, EndsInReturn, IsLineEnd, IsEnd, AreFields}
use Rattle.morsel_grammar.specs.Split.{is_quote, field_at, without_return, last_field, ended, returned, with_field, fields_then, fields_up_to}
use Rattle.morsel_grammar.proofs.ByteLemmas.{true_not_false, byte_itself, same_byte, other_byte, bytes_differ, neither}
use Rattle.morsel_grammar.proofs.PlainFieldLemmas.{IsStop, stops-separator, stops-eol, IsWithout-front, IsWithout-push, BeginsUnquoted-front, BeginsUnquoted-push}
use Rattle.morsel_grammar.proofs.RecordEndLemmas.{is_quote-return, field_at-quoted, field_at-plain, field_at-written, IsFieldText, field_at-read, KeepsOrEnds, without_return-cases, last_field-written, last_field-returned}

-- what is found after a field
abbrev pub More : Type 0
More = List ℕ → Option (List CsvField × List ℕ)

no_return : (eol : ℕ) → eol ≡ 10 → 13 ≢ eol
no_return eol ten = λ e. omega arith

then_separator : (o : Dialect) (f : CsvField) (rest : List ℕ) (more : More) → fields_then o (Some (f, o.separator ∷ rest)) more ≡ with_field f (more rest)
then_separator o f rest more = rw (byte_itself o.separator) refl

then_eol : (o : Dialect) (f : CsvField) (rest : List ℕ) (more : More) → IsDialect o → fields_then o (Some (f, o.eol ∷ rest)) more ≡ ended o f rest
then_eol o f rest more fit = rw (other_byte o.eol o.separator (λ e. fit.apart (sym e)), byte_itself o.eol) refl

then_return : (o : Dialect) (f : CsvField) (after : List ℕ) (more : More) → IsDialect o → o.eol ≡ 10
    → fields_then o (Some (f, 13 ∷ after)) more ≡ returned o f after
then_return o f after more fit ten =
    let no_separator : (13 == o.separator) ≡ false = other_byte 13 o.separator (λ e. fit.separator_no_return (sym e)) in
    let no_eol : (13 == o.eol) ≡ false = other_byte 13 o.eol (no_return o.eol ten) in
    rw (no_separator, no_eol, eq-eqb o.eol 10 ten) refl

then_line_end : (o : Dialect) (f : CsvField) (end rest : List ℕ) (more : More) → IsDialect o → IsLineEnd o end rest
    → fields_then o (Some (f, end)) more ≡ ended o f rest
then_line_end o f end rest more fit (inl is) = ap (λ (x : List ℕ). fields_then o (Some (f, x)) more) is ∙ then_eol o f rest more fit
then_line_end o f end rest more fit (inr is) = ap (λ (x : List ℕ). fields_then o (Some (f, x)) more) is.0 ∙ ap (ended o f) (sym is.1)

returned_line_end : (o : Dialect) (f : CsvField) (after rest : List ℕ) → IsLineEnd o after rest → returned o f after ≡ ended o f rest
returned_line_end o f after rest (inl is) = ap (returned o f) is ∙ rw (byte_itself o.eol) refl
returned_line_end o f after rest (inr is) = ap (returned o f) is.0 ∙ ap (ended o f) (sym is.1)

stop_line_end : (o : Dialect) (end rest : List ℕ) → IsLineEnd o end rest → IsStop o end
stop_line_end o end rest (inl is) = let P : List ℕ → Type 0 = λ x. IsStop o x in subst P (sym is) (stops-eol o)
stop_line_end o end rest (inr is) = let P : List ℕ → Type 0 = λ x. IsStop o x in subst P (sym is.0) tt

-- a last field, a byte 13 and the end
returned_written : (o : Dialect) (quoted : Bool) (bytes spelled after rest : List ℕ) (more : More) → IsDialect o → o.eol ≡ 10
    → Spells o quoted bytes spelled → IsLineEnd o after rest
    → fields_then o (field_at o (spelled ++ 13 ∷ after)) more ≡ Some (record { quoted = quoted; bytes = bytes } ∷ [], rest)
returned_written o true bytes spelled after rest more fit ten spells line =
    let f : CsvField = record { quoted = true; bytes = bytes } in
    ap (λ found. fields_then o found more)
    (field_at-quoted o spells.0 bytes spelled (13 ∷ after) spells.1 spells.2
    (ap (λ (x : Option ℕ). is_quote x 13) (sym spells.1) ∙ is_quote-return o fit))
    ∙ then_return o f after more fit ten ∙ returned_line_end o f after rest line
returned_written o false bytes spelled after rest more fit ten spells line =
    let f : CsvField = record { quoted = false; bytes = bytes ++ 13 ∷ [] } in
    let no_eol : 13 ≢ o.eol = no_return o.eol ten in
    let plain : IsPlain o (bytes ++ 13 ∷ []) = record {
      no_separator = IsWithout-push o.separator 13 bytes spells.1.no_separator (λ e. fit.separator_no_return (sym e));
      no_eol = IsWithout-push o.eol 13 bytes spells.1.no_eol no_eol;
      unquoted = BeginsUnquoted-push o.quote bytes 13 spells.1.unquoted (is_quote-return o fit);
    } in
    ap (λ (x : List ℕ). fields_then o (field_at o (x ++ 13 ∷ after)) more) spells.0
    ∙ ap (λ (x : List ℕ). fields_then o (field_at o x) more) (sym (append_assoc bytes (13 ∷ []) after))
    ∙ ap (λ found. fields_then o found more) (field_at-plain o (bytes ++ 13 ∷ []) after fit plain (stop_line_end o after rest line))
    ∙ then_line_end o f after rest more fit line
    ∙ ap (λ (x : CsvField). let found : List CsvField × List ℕ = (x ∷ [], rest) in Some found) (last_field-returned o bytes ten)

-- a last field and the end
ended_written : (o : Dialect) (quoted : Bool) (bytes spelled end rest : List ℕ) (more : More) → IsDialect o
    → Spells o quoted bytes spelled → IsLineEnd o end rest → (o.eol ≡ 10 → quoted ≡ false → EndsInReturn bytes → ⊥)
    → fields_then o (field_at o (spelled ++ end)) more ≡ Some (record { quoted = quoted; bytes = bytes } ∷ [], rest)
ended_written o quoted bytes spelled end rest more fit spells line never =
    let f : CsvField = record { quoted = quoted; bytes = bytes } in
    ap (λ found. fields_then o found more) (field_at-written o quoted bytes spelled end fit spells (stop_line_end o end rest line))
    ∙ then_line_end o f end rest more fit line
    ∙ ap (λ (x : CsvField). let found : List CsvField × List ℕ = (x ∷ [], rest) in Some found) (last_field-written o quoted bytes never)

last_written : (o : Dialect) (f : CsvField) (spelled end rest : List ℕ) (more : More) → IsDialect o → Spells o f.quoted f.bytes spelled
    → IsEnd o f end rest → fields_then o (field_at o (spelled ++ end)) more ≡ Some (f ∷ [], rest)
last_written o f spelled end rest more fit spells (inl is) =
    ap (λ (x : List ℕ). fields_then o (field_at o (spelled ++ x)) more) is.2
    ∙ returned_written o f.quoted f.bytes spelled is.1 rest more fit is.0 spells is.3
last_written o f spelled end rest more fit spells (inr is) =
    ended_written o f.quoted f.bytes spelled end rest more fit spells is.0 is.1

pub next_written : (o : Dialect) (f : CsvField) (spelled after : List ℕ) (more : More) → IsDialect o → Spells o f.quoted f.bytes spelled
    → fields_then o (field_at o (spelled ++ o.separator ∷ after)) more ≡ with_field f (more after)
next_written o f spelled after more fit spells =
    ap (λ found. fields_then o found more) (field_at-written o f.quoted f.bytes spelled (o.separator ∷ after) fit spells (stops-separator o))
    ∙ then_separator o f after more

-- fields that a text has are read
pub fields-written : (n : ℕ) (o : Dialect) (fields : List CsvField) (text rest : List ℕ) → IsDialect o → AreFields o fields text rest → length text < n
    → fields_up_to n o text ≡ Some (fields, rest)
fields-written zero o fields text rest fit are enough = absurd (omega arith)
fields-written (suc n) o [] text rest fit are enough = absurd are
fields-written (suc n) o (f ∷ []) text rest fit are enough =
    ap (λ (x : List ℕ). fields_then o (field_at o x) (λ r. fields_up_to n o r)) are.3
    ∙ last_written o f are.0 are.1 rest (λ r. fields_up_to n o r) fit are.2 are.4
fields-written (suc n) o (f ∷ g ∷ fields) text rest fit are enough =
    let size : length text ≡ length are.0 + suc (length are.1) = ap length are.3 ∙ length-append are.0 (o.separator ∷ are.1) in
    ap (λ (x : List ℕ). fields_then o (field_at o x) (λ r. fields_up_to n o r)) are.3
    ∙ next_written o f are.0 are.1 (λ r. fields_up_to n o r) fit are.2
    ∙ ap (with_field f) (fields-written n o (g ∷ fields) are.1 rest fit are.4 (omega arith))

-- what is found is written so
abbrev pub AreFound : Dialect → List ℕ → Option (List CsvField × List ℕ) → Type 0
AreFound o text None = Unit {0}
AreFound o text (Some found) = AreFields o found.0 text found.1

keeps_read : (o : Dialect) (bytes kept text spelled end rest : List ℕ) → o.eol ≡ 10 → KeepsOrEnds bytes kept → Spells o false bytes spelled → text ≡ spelled ++ end → IsLineEnd o end rest
    → AreFields o (record { quoted = false; bytes = kept } ∷ []) text rest
keeps_read o bytes kept text spelled end rest ten (inl keeps) spells is line =
    let P : List ℕ → Type 0 = λ x. AreFields o (record { quoted = false; bytes = x } ∷ []) text rest in
    subst P (sym keeps.1) (spelled, end, spells, is, inr (line, λ e plain. keeps.0))
keeps_read o bytes kept text spelled end rest ten (inr ends) spells is line =
    let WithoutSeparator : List ℕ → Type 0 = λ x. IsWithout o.separator x in
    let WithoutEol : List ℕ → Type 0 = λ x. IsWithout o.eol x in
    let Unquoted : List ℕ → Type 0 = λ x. BeginsUnquoted o.quote x in
    let plain : IsPlain o kept = record {
      no_separator = IsWithout-front o.separator kept (13 ∷ []) (subst WithoutSeparator ends spells.1.no_separator);
      no_eol = IsWithout-front o.eol kept (13 ∷ []) (subst WithoutEol ends spells.1.no_eol);
      unquoted = BeginsUnquoted-front o.quote kept (13 ∷ []) (subst Unquoted ends spells.1.unquoted);
    } in (
      kept,
      13 ∷ end,
      (refl, plain),
      is ∙ ap (λ (x : List ℕ). x ++ end) (spells.0 ∙ ends) ∙ append_assoc kept (13 ∷ []) end,
      inl (ten, end, refl, line),
    )

plain_last_read : (o : Dialect) (bytes text spelled end rest : List ℕ) (t : Bool) → (o.eol == 10) ≡ t → Spells o false bytes spelled → text ≡ spelled ++ end → IsLineEnd o end rest
    → (let f : CsvField = record { quoted = false; bytes = bytes } in AreFields o ((if t then record f { bytes = without_return f.bytes } else f) ∷ []) text rest)
plain_last_read o bytes text spelled end rest true ten spells is line =
    keeps_read o bytes (without_return bytes) text spelled end rest (same_byte o.eol 10 ten) (without_return-cases bytes) spells is line
plain_last_read o bytes text spelled end rest false other spells is line =
    (spelled, end, spells, is, inr (line, λ ten. absurd (bytes_differ o.eol 10 other ten)))

last_read : (o : Dialect) (quoted : Bool) (bytes text spelled end rest : List ℕ) → Spells o quoted bytes spelled → text ≡ spelled ++ end → IsLineEnd o end rest
    → AreFields o (last_field o (record { quoted = quoted; bytes = bytes }) ∷ []) text rest
last_read o true bytes text spelled end rest spells is line = (spelled, end, spells, is, inr (line, λ ten plain. true_not_false true refl plain))
last_read o false bytes text spelled end rest spells is line = plain_last_read o bytes text spelled end rest (o.eol == 10) refl spells is line

with_field_read : (o : Dialect) (f : CsvField) (text spelled after : List ℕ) (found : Option (List CsvField × List ℕ)) → Spells o f.quoted f.bytes spelled
    → text ≡ spelled ++ o.separator ∷ after → AreFound o after found → AreFound o text (with_field f found)
with_field_read o f text spelled after None spells is later = tt
with_field_read o f text spelled after (Some found) spells is later = more found.0 found.1 later
  where
    more : (fields : List CsvField) (rest : List ℕ) → AreFields o fields after rest → AreFields o (f ∷ fields) text rest
    more [] rest none = absurd none
    more (g ∷ fields) rest are = (spelled, after, spells, is, are)

returned_end : (o : Dialect) (quoted : Bool) (bytes text spelled after rest : List ℕ) → o.eol ≡ 10 → Spells o quoted bytes spelled → text ≡ spelled ++ 13 ∷ after
    → (quoted ≡ false → ⊥) → IsLineEnd o after rest → AreFields o (last_field o (record { quoted = quoted; bytes = bytes }) ∷ []) text rest
returned_end o true bytes text spelled after rest ten spells is never line = (spelled, 13 ∷ after, spells, is, inl (ten, after, refl, line))
returned_end o false bytes text spelled after rest ten spells is never line = absurd (never refl)

returned_byte : (o : Dialect) (f : CsvField) (text spelled rest : List ℕ) (b : ℕ) (t : Bool) → (b == o.eol) ≡ t → o.eol ≡ 10 → Spells o f.quoted f.bytes spelled
    → text ≡ spelled ++ 13 ∷ b ∷ rest → (f.quoted ≡ false → ⊥) → AreFound o text (if t then ended o f rest else None)
returned_byte o f text spelled rest b true b_is ten spells is never =
    returned_end o f.quoted f.bytes text spelled (b ∷ rest) rest ten spells is never (inl (ap (λ (x : ℕ). x ∷ rest) (same_byte b o.eol b_is)))
returned_byte o f text spelled rest b false b_is ten spells is never = tt

returned_read : (o : Dialect) (f : CsvField) (text spelled after : List ℕ) → o.eol ≡ 10 → Spells o f.quoted f.bytes spelled
    → text ≡ spelled ++ 13 ∷ after → (f.quoted ≡ false → ⊥) → AreFound o text (returned o f after)
returned_read o f text spelled [] ten spells is never = returned_end o f.quoted f.bytes text spelled [] [] ten spells is never (inr (refl, refl))
returned_read o f text spelled (b ∷ rest) ten spells is never = returned_byte o f text spelled rest b (b == o.eol) refl ten spells is never

both : (s t : Bool) → (s && t) ≡ true → (s ≡ true) × (t ≡ true)
both true t is = (refl, is)
both false t is = true_not_false false is refl

behind_read : (o : Dialect) (f : CsvField) (text spelled rest : List ℕ) (b : ℕ) (more : More) (s e r : Bool)
    → (b == o.separator) ≡ s → (b == o.eol) ≡ e → (b == 13 && o.eol == 10) ≡ r
    → Spells o f.quoted f.bytes spelled → text ≡ spelled ++ b ∷ rest → (f.quoted ≡ false → IsStop o (b ∷ rest)) → AreFound o rest (more rest)
    → AreFound o text (if s then with_field f (more rest) else (if e then ended o f rest else (if r then returned o f rest else None)))
behind_read o f text spelled rest b more true e r s_is e_is r_is spells is stop later =
    with_field_read o f text spelled rest (more rest) spells (is ∙ ap (λ (x : ℕ). spelled ++ x ∷ rest) (same_byte b o.separator s_is)) later
behind_read o f text spelled rest b more false true r s_is e_is r_is spells is stop later =
    last_read o f.quoted f.bytes text spelled (b ∷ rest) rest spells is (inl (ap (λ (x : ℕ). x ∷ rest) (same_byte b o.eol e_is)))
behind_read o f text spelled rest b more false false true s_is e_is r_is spells is stop later =
    let r_parts = both (b == 13) (o.eol == 10) r_is in
    returned_read o f text spelled rest (same_byte o.eol 10 r_parts.1) spells
    (is ∙ ap (λ (x : ℕ). spelled ++ x ∷ rest) (same_byte b 13 r_parts.0))
    (λ plain. true_not_false (b == o.separator || b == o.eol) (stop plain) (neither (b == o.separator) (b == o.eol) s_is e_is))
behind_read o f text spelled rest b more false false false s_is e_is r_is spells is stop later = tt

after_read : (o : Dialect) (f : CsvField) (text spelled after : List ℕ) (more : More) → Spells o f.quoted f.bytes spelled → text ≡ spelled ++ after
    → (f.quoted ≡ false → IsStop o after) → ((rest : List ℕ) → AreFound o rest (more rest)) → AreFound o text (fields_then o (Some (f, after)) more)
after_read o f text spelled [] more spells is stop later = last_read o f.quoted f.bytes text spelled [] [] spells is (inr (refl, refl))
after_read o f text spelled (b ∷ rest) more spells is stop later =
    behind_read o f text spelled rest b more (b == o.separator) (b == o.eol) (b == 13 && o.eol == 10) refl refl refl spells is stop (later rest)

then_read : (o : Dialect) (text : List ℕ) (found : Option (CsvField × List ℕ)) (more : More) → IsFieldText o text found
    → ((rest : List ℕ) → AreFound o rest (more rest)) → AreFound o text (fields_then o found more)
then_read o text None more is later = tt
then_read o text (Some found) more is later = after_read o found.0 text is.0 found.1 more is.1 is.2 is.3 later

-- fields that are read are written so
pub fields-read : (n : ℕ) (o : Dialect) (text : List ℕ) → AreFound o text (fields_up_to n o text)
fields-read zero o text = tt
fields-read (suc n) o text = then_read o text (field_at o text) (λ rest. fields_up_to n o rest) (field_at-read o text) (λ rest. fields-read n o rest)
