-- The last field of a record and what ends it.
use Rattle.std.proofs.Common.{◌≡◌, ℕ, ap, sym, subst, refl, ◌∙◌, inl, inr, append_assoc}
use Rattle.std.proofs.lemmas.Bool.{eq-eqb}
use Rattle.std.specs.Prelude.{Bool, true, false, ◌==◌, ◌⊎◌, if◌then◌else◌, Option, Some, None, List, [], ◌∷◌, ◌++◌}
use Rattle.morsel_grammar.specs.Dialect.{Dialect, IsDialect, IsQuoteFor}
use Rattle.morsel_grammar.specs.Grammar.{CsvField, doubled, BeginsUnquoted, IsPlain, Spells, EndsInReturn}
use Rattle.morsel_grammar.specs.Split.{is_quote, stops, plain_at, quoted_at, in_quotes, plain_field, field_at, without_return, last_field}
use Rattle.morsel_grammar.specs.Split.{begins}
use Rattle.morsel_grammar.proofs.ByteLemmas.{true_not_false, byte_itself, same_byte, other_byte, bytes_differ, one_of}
use Rattle.morsel_grammar.proofs.QuotedFieldLemmas.{quoted_at-written, quoted_at-read, IsQuotedText}
use Rattle.morsel_grammar.proofs.PlainFieldLemmas.{IsStop, plain_at-written, plain_at-read, IsPlainText, begins_nothing, is_quote-unquoted, BeginsUnquoted-front, BeginsUnquoted-first, quote_is}

-- a byte before which an unquoted field ends is no quote
quote_apart : (separator eol b : ℕ) (quote : Option ℕ) → IsQuoteFor separator eol quote → (b ≡ separator) ⊎ (b ≡ eol) → is_quote quote b ≡ false
quote_apart separator eol b None apart is = refl
quote_apart separator eol b (Some q) apart (inl is) = other_byte b q (λ e. apart.1 (sym e ∙ is))
quote_apart separator eol b (Some q) apart (inr is) = other_byte b q (λ e. apart.2 (sym e ∙ is))

stop_cases : (o : Dialect) (b : ℕ) → (b == o.separator ≡ true) ⊎ (b == o.eol ≡ true) → (b ≡ o.separator) ⊎ (b ≡ o.eol)
stop_cases o b (inl is) = inl (same_byte b o.separator is)
stop_cases o b (inr is) = inr (same_byte b o.eol is)

pub is_quote-stop : (o : Dialect) (b : ℕ) → IsDialect o → stops o b ≡ true → is_quote o.quote b ≡ false
is_quote-stop o b fit stop = quote_apart o.separator o.eol b o.quote fit.quote (stop_cases o b (one_of (b == o.separator) (b == o.eol) stop))

return_apart : (separator eol : ℕ) (quote : Option ℕ) → IsQuoteFor separator eol quote → is_quote quote 13 ≡ false
return_apart separator eol None apart = refl
return_apart separator eol (Some q) apart = other_byte 13 q (λ e. apart.4 (sym e))

pub is_quote-return : (o : Dialect) → IsDialect o → is_quote o.quote 13 ≡ false
is_quote-return o fit = return_apart o.separator o.eol o.quote fit.quote

-- the first field of a text, by its first byte
pub field_at-first : (o : Dialect) (b : ℕ) (bs : List ℕ) (t : Bool) → is_quote o.quote b ≡ t
    → field_at o (b ∷ bs) ≡ (if t then in_quotes (quoted_at b bs) else plain_field (plain_at o (b ∷ bs)))
field_at-first o b bs t is = ap (λ t. if t then in_quotes (quoted_at b bs) else plain_field (plain_at o (b ∷ bs))) is

quote_itself : (o : Dialect) (q : ℕ) → o.quote ≡ Some q → is_quote o.quote q ≡ true
quote_itself o q asked = ap (λ (x : Option ℕ). is_quote x q) asked ∙ byte_itself q

-- a quoted field that a text has is read, unless another quote follows
pub field_at-quoted : (o : Dialect) (q : ℕ) (bytes spelled after : List ℕ) → o.quote ≡ Some q → spelled ≡ q ∷ doubled q bytes ++ q ∷ []
    → begins q after ≡ false → field_at o (spelled ++ after) ≡ Some (record { quoted = true; bytes = bytes }, after)
field_at-quoted o q bytes spelled after asked is lone =
    ap (λ (x : List ℕ). field_at o (x ++ after)) is
    ∙ ap (field_at o) (append_assoc (q ∷ doubled q bytes) (q ∷ []) after)
    ∙ field_at-first o q (doubled q bytes ++ q ∷ after) true (quote_itself o q asked)
    ∙ ap in_quotes (quoted_at-written q bytes after lone)

-- an unquoted field that a text has is read, where it ends
pub field_at-plain : (o : Dialect) (bytes after : List ℕ) → IsDialect o → IsPlain o bytes → IsStop o after
    → field_at o (bytes ++ after) ≡ Some (record { quoted = false; bytes = bytes }, after)
field_at-plain o [] [] fit plain stop = refl
field_at-plain o [] (b ∷ after) fit plain stop =
    field_at-first o b after false (is_quote-stop o b fit stop) ∙ ap plain_field (plain_at-written o [] (b ∷ after) tt tt stop)
field_at-plain o (b ∷ bytes) after fit plain stop =
    field_at-first o b (bytes ++ after) false (is_quote-unquoted o.quote b bytes plain.unquoted)
    ∙ ap plain_field (plain_at-written o (b ∷ bytes) after plain.no_separator plain.no_eol stop)

lone_first : (o : Dialect) (q : ℕ) (after : List ℕ) → o.quote ≡ Some q → IsDialect o → IsStop o after → begins q after ≡ false
lone_first o q [] asked fit stop = refl
lone_first o q (b ∷ after) asked fit stop = ap (λ (x : Option ℕ). is_quote x b) (sym asked) ∙ is_quote-stop o b fit stop

-- a field of either kind is read, where a byte follows that ends an unquoted one
pub field_at-written : (o : Dialect) (quoted : Bool) (bytes spelled after : List ℕ) → IsDialect o → Spells o quoted bytes spelled → IsStop o after
    → field_at o (spelled ++ after) ≡ Some (record { quoted = quoted; bytes = bytes }, after)
field_at-written o true bytes spelled after fit spells stop =
    field_at-quoted o spells.0 bytes spelled after spells.1 spells.2 (lone_first o spells.0 after spells.1 fit stop)
field_at-written o false bytes spelled after fit spells stop =
    ap (λ (x : List ℕ). field_at o (x ++ after)) spells.0 ∙ field_at-plain o bytes after fit spells.1 stop

-- the text is a field as it is written, and a rest
abbrev pub IsFieldText : Dialect → List ℕ → Option (CsvField × List ℕ) → Type 0
IsFieldText o text None = Unit {0}
IsFieldText o text (Some found) = (spelled : List ℕ) × Spells o found.0.quoted found.0.bytes spelled × (text ≡ spelled ++ found.1)
    × (found.0.quoted ≡ false → IsStop o found.1)

read_quoted : (o : Dialect) (q : ℕ) (bs : List ℕ) (found : Option (List ℕ × List ℕ)) → o.quote ≡ Some q → IsQuotedText q bs found → IsFieldText o (q ∷ bs) (in_quotes found)
read_quoted o q bs None asked is = tt
read_quoted o q bs (Some found) asked is = (
  q ∷ doubled q found.0 ++ q ∷ [],
  (q, asked, refl),
  ap (λ (x : List ℕ). q ∷ x) is.0 ∙ sym (append_assoc (q ∷ doubled q found.0) (q ∷ []) found.1),
  λ plain. true_not_false true refl plain,
)

read_plain : (o : Dialect) (text : List ℕ) (found : List ℕ × List ℕ) → BeginsUnquoted o.quote text → IsPlainText o text found → IsFieldText o text (plain_field found)
read_plain o text found unquoted is =
    let P : List ℕ → Type 0 = λ x. BeginsUnquoted o.quote x in (
      found.0,
      (
        refl,
        record {
          no_separator = is.no_separator;
          no_eol = is.no_eol;
          unquoted = BeginsUnquoted-front o.quote found.0 found.1 (subst P is.is unquoted);
        },
      ),
      is.is,
      λ plain. is.stop,
    )

read_first : (o : Dialect) (b : ℕ) (bs : List ℕ) (t : Bool) → is_quote o.quote b ≡ t
    → IsFieldText o (b ∷ bs) (if t then in_quotes (quoted_at b bs) else plain_field (plain_at o (b ∷ bs)))
read_first o b bs true is = read_quoted o b bs (quoted_at b bs) (quote_is o.quote b is) (quoted_at-read b bs)
read_first o b bs false is = read_plain o (b ∷ bs) (plain_at o (b ∷ bs)) (BeginsUnquoted-first o.quote b bs is) (plain_at-read o (b ∷ bs))

-- a field that is read is written so
pub field_at-read : (o : Dialect) (text : List ℕ) → IsFieldText o text (field_at o text)
field_at-read o [] = read_plain o [] ([], []) (begins_nothing o.quote) (plain_at-read o [])
field_at-read o (b ∷ bs) = read_first o b bs (is_quote o.quote b) refl

-- a byte 13 at the end of an unquoted field
pub EndsInReturn-push : (bytes : List ℕ) → EndsInReturn (bytes ++ 13 ∷ [])
EndsInReturn-push [] = refl
EndsInReturn-push (b ∷ []) = refl
EndsInReturn-push (b ∷ c ∷ bytes) = EndsInReturn-push (c ∷ bytes)

pub without_return-push : (bytes : List ℕ) → without_return (bytes ++ 13 ∷ []) ≡ bytes
without_return-push [] = refl
without_return-push (b ∷ []) = refl
without_return-push (b ∷ c ∷ bytes) = ap (λ (x : List ℕ). b ∷ x) (without_return-push (c ∷ bytes))

-- a list is kept, or has a byte 13 at its end that is taken off
abbrev pub KeepsOrEnds : List ℕ → List ℕ → Type 0
KeepsOrEnds bytes kept = ((EndsInReturn bytes → ⊥) × (kept ≡ bytes)) ⊎ (bytes ≡ kept ++ 13 ∷ [])

return_last : (b : ℕ) (t : Bool) → (b == 13) ≡ t → KeepsOrEnds (b ∷ []) (if t then [] else b ∷ [])
return_last b true is = inr (ap (λ (x : ℕ). x ∷ []) (same_byte b 13 is))
return_last b false other = inl (bytes_differ b 13 other, refl)

return_more : (b c : ℕ) (bs kept : List ℕ) → KeepsOrEnds (c ∷ bs) kept → KeepsOrEnds (b ∷ c ∷ bs) (b ∷ kept)
return_more b c bs kept (inl keeps) = inl (keeps.0, ap (λ (x : List ℕ). b ∷ x) keeps.1)
return_more b c bs kept (inr ends) = inr (ap (λ (x : List ℕ). b ∷ x) ends)

pub without_return-cases : (bytes : List ℕ) → KeepsOrEnds bytes (without_return bytes)
without_return-cases [] = inl (λ ends. ends, refl)
without_return-cases (b ∷ []) = return_last b (b == 13) refl
without_return-cases (b ∷ c ∷ bs) = return_more b c bs (without_return (c ∷ bs)) (without_return-cases (c ∷ bs))

kept_alone : (bytes kept : List ℕ) → (EndsInReturn bytes → ⊥) → KeepsOrEnds bytes kept → kept ≡ bytes
kept_alone bytes kept never (inl keeps) = keeps.1
kept_alone bytes kept never (inr ends) =
    let P : List ℕ → Type 0 = λ x. EndsInReturn x in absurd (never (subst P (sym ends) (EndsInReturn-push kept)))

pub without_return-keeps : (bytes : List ℕ) → (EndsInReturn bytes → ⊥) → without_return bytes ≡ bytes
without_return-keeps bytes never = kept_alone bytes (without_return bytes) never (without_return-cases bytes)

last_plain : (o : Dialect) (bytes : List ℕ) (t : Bool) → (o.eol == 10) ≡ t → (o.eol ≡ 10 → EndsInReturn bytes → ⊥)
    → (let f : CsvField = record { quoted = false; bytes = bytes } in (if t then record f { bytes = without_return f.bytes } else f) ≡ f)
last_plain o bytes true is never =
    ap (λ (x : List ℕ). let f : CsvField = record { quoted = false; bytes = x } in f) (without_return-keeps bytes (never (same_byte o.eol 10 is)))
last_plain o bytes false other never = refl

-- the last field as it is written is the last field
pub last_field-written : (o : Dialect) (quoted : Bool) (bytes : List ℕ) → (o.eol ≡ 10 → quoted ≡ false → EndsInReturn bytes → ⊥)
    → (let f : CsvField = record { quoted = quoted; bytes = bytes } in last_field o f ≡ f)
last_field-written o true bytes never = refl
last_field-written o false bytes never = last_plain o bytes (o.eol == 10) refl (λ ten. never ten refl)

pub last_field-returned : (o : Dialect) (bytes : List ℕ) → o.eol ≡ 10
    → (let f : CsvField = record { quoted = false; bytes = bytes ++ 13 ∷ [] } in let g : CsvField = record { quoted = false; bytes = bytes } in last_field o f ≡ g)
last_field-returned o bytes ten = rw (eq-eqb o.eol 10 ten)
    (ap (λ (x : List ℕ). let f : CsvField = record { quoted = false; bytes = x } in f) (without_return-push bytes))
