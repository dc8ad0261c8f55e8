-- How a line without quotes is split at the marks of its separators.
use Rattle.std.proofs.Common.{◌≡◌, ◌⊎◌, inl, inr, ℕ, suc, ◌+◌, ◌-◌, ◌/◌, ◌%◌, ◌^◌, ◌<◌, ◌≤◌, ◌∙◌, sym, ap, refl, arith, Bool, true, false, ◌==◌, List, [], ◌∷◌, ◌++◌, length, take, drop, get_or, map}
use Rattle.std.proofs.lemmas.Bool.{cases_eq, or_from, or_left, or_right, ne_eqb, eqb-true}
use Rattle.std.proofs.lemmas.List.{get_or-drop, get_or-map, get_or-take, length-drop, length-take-le, drop_more}
use Rattle.std.proofs.lemmas.Nat.{shr-shr, trailing_le}
use Rattle.std.proofs.lemmas.Nat.Bits.{bit_at-zero, bit_at-trailing_zeros}
use Rattle.std.proofs.lemmas.Simd.{bit_mask_l}
use Rattle.std.specs.Int.{bit_at, trailing_zeros, w64}
use Rattle.std.specs.Int.Count.{trailing_of_zero}
use Rattle.std.specs.Prelude.{Option, Some, if◌then◌else◌}
use lib.Lanes.{mask_l}
use Rattle.morsel_grammar.specs.Dialect.{Dialect, IsDialect}
use Rattle.morsel_grammar.specs.Grammar.{CsvField}
use Rattle.morsel_grammar.specs.Split.{is_quote, stops, plain_at, plain_field, field_at, last_field, ended, with_field, fields_then, fields_up_to}
use Rattle.morsel_text.specs.RawFields.{PassedTo, with_front}
use Rattle.morsel_text.specs.Lines.{IsPlainLine, Marks}
use Rattle.morsel_text.proofs.SplitLemmas.{plain_stop, with_front-field}

-- the mask of a comparison marks the bytes that pass it
pub marks_of : (byte : ℕ) (text : List ℕ) (bits : ℕ) → 64 ≤ length text → bits ≡ mask_l (map (λ (x : ℕ). x == byte) (take 64 text)) → Marks (λ b. b == byte) text 64 bits
marks_of byte text bits room is = λ k below.
    ap (λ (m : ℕ). bit_at m k) is
    ∙ bit_mask_l (map (λ (x : ℕ). x == byte) (take 64 text)) k
    ∙ ap (λ (t : Bool). let r : ℕ = if t then 1 else 0 in r)
    (get_or-map (λ (x : ℕ). x == byte) (take 64 text) k 0 false (omega (arith, length-take-le 64 text room))
    ∙ ap (λ (x : ℕ). x == byte) (get_or-take 64 text k 0 below))

from_zero : (t : Bool) → ◌≡◌ {A = ℕ} (if t then 1 else 0) 0 → t ≡ false
from_zero true is = absurd (omega arith)
from_zero false is = refl

from_one : (t : Bool) → ◌≡◌ {A = ℕ} (if t then 1 else 0) 1 → t ≡ true
from_one true is = refl
from_one false is = absurd (omega arith)

-- no byte before the lowest mark passes the test
pub none_marked : (test : ℕ → Bool) (text : List ℕ) (n bits : ℕ) → Marks test text n bits → bits < 2 ^ 64 → (k : ℕ) → k < trailing_zeros w64 bits → k < n
    → test (get_or text k 0) ≡ false
none_marked test text n bits marked fits k before below = by (cases_eq bits 0)
  where
    by : (bits ≡ 0) ⊎ (bits ≡ 0 → ⊥) → test (get_or text k 0) ≡ false
    by (inl none) = from_zero _ (sym (marked k below) ∙ ap (λ (m : ℕ). bit_at m k) none ∙ bit_at-zero k)
    by (inr some) = from_zero _ (sym (marked k below) ∙ (bit_at-trailing_zeros w64 bits (omega arith) fits).2 k before)

-- the byte at the lowest mark passes it
pub first_marked : (test : ℕ → Bool) (text : List ℕ) (n bits : ℕ) → Marks test text n bits → bits < 2 ^ 64 → trailing_zeros w64 bits < n → trailing_zeros w64 bits < 64
    → test (get_or text (trailing_zeros w64 bits) 0) ≡ true
first_marked test text n bits marked fits below within = by (cases_eq bits 0)
  where
    by : (bits ≡ 0) ⊎ (bits ≡ 0 → ⊥) → test (get_or text (trailing_zeros w64 bits) 0) ≡ true
    by (inl none) = absurd (omega (arith, ap (trailing_zeros w64) none, trailing_of_zero 64))
    by (inr some) = from_one _ (sym (marked _ below) ∙ (bit_at-trailing_zeros w64 bits (omega arith) fits).1)

-- the marks of what follows a byte
pub marks_behind : (test : ℕ → Bool) (text : List ℕ) (n bits s : ℕ) → Marks test text n bits → s ≤ n → Marks test (drop s text) (n - s) (bits / 2 ^ s)
marks_behind test text n bits s marked within = λ k below.
    ap (λ (m : ℕ). m % 2) (shr-shr bits s k)
    ∙ marked (s + k) (omega arith)
    ∙ ap (λ (x : ℕ). let r : ℕ = if test x then 1 else 0 in r) (sym (get_or-drop s text k 0))

-- a line without quotes ends at the first mark of an eol, where the first mark of a quote comes after it
pub line_found : (o : Dialect) (text : List ℕ) (eols quotes : ℕ) → 64 ≤ length text → Marks (λ b. b == o.eol) text 64 eols → Marks (is_quote o.quote) text 64 quotes
    → eols < 2 ^ 64 → quotes < 2 ^ 64 → trailing_zeros w64 eols < trailing_zeros w64 quotes → IsPlainLine o text (trailing_zeros w64 eols)
line_found o text eols quotes room ends quoted fit_ends fit_quotes before =
    let most : trailing_zeros w64 quotes ≤ 64 = trailing_le 64 quotes in
    record {
      within = omega arith;
      inside = λ k below. none_marked (λ b. b == o.eol) text 64 eols ends fit_ends k below (omega arith);
      ended = first_marked (λ b. b == o.eol) text 64 eols ends fit_ends (omega arith) (omega arith);
      unquoted = λ k below. none_marked (is_quote o.quote) text 64 quotes quoted fit_quotes k (omega arith) (omega arith);
    }

-- what follows a byte of a line is a line
pub line_behind : (o : Dialect) (text : List ℕ) (len s : ℕ) → IsPlainLine o text len → s ≤ len → IsPlainLine o (drop s text) (len - s)
line_behind o text len s line within = record {
  within = omega (arith, length-drop s text, line.within);
  inside = λ k below. ap (λ (x : ℕ). x == o.eol) (get_or-drop s text k 0) ∙ line.inside (s + k) (omega arith);
  ended = ap (λ (x : ℕ). x == o.eol) (get_or-drop s text (len - s) 0 ∙ ap (λ n. get_or text n 0) (omega arith)) ∙ line.ended;
  unquoted = λ k below. ap (is_quote o.quote) (get_or-drop s text k 0) ∙ line.unquoted (s + k) (omega arith);
}

unquoted_field : (o : Dialect) (text : List ℕ) → is_quote o.quote (get_or text 0 0) ≡ false → field_at o text ≡ plain_field (plain_at o text)
unquoted_field o [] other = refl
unquoted_field o (b ∷ bs) other = rw other

-- the bytes as a field without quotes
abbrev pub plain : List ℕ → CsvField
plain bytes = record { quoted = false; bytes = bytes }

run_field : (o : Dialect) (text : List ℕ) (n : ℕ) → n < length text → is_quote o.quote (get_or text 0 0) ≡ false → PassedTo o text n → stops o (get_or text n 0) ≡ true
    → (let found : CsvField × List ℕ = (plain (take n text), drop n text) in field_at o text ≡ Some found)
run_field o text n within other passed ends = unquoted_field o text other ∙ ap plain_field (plain_stop o text n within passed ends)

separator_first : (o : Dialect) (f : CsvField) (b : ℕ) (bs : List ℕ) (more : List ℕ → Option (List CsvField × List ℕ)) → (b == o.separator) ≡ true
    → fields_then o (Some (f, b ∷ bs)) more ≡ with_field f (more bs)
separator_first o f b bs more is = rw is

eol_first : (o : Dialect) (f : CsvField) (b : ℕ) (bs : List ℕ) (more : List ℕ → Option (List CsvField × List ℕ)) → (b == o.separator) ≡ false → (b == o.eol) ≡ true
    → fields_then o (Some (f, b ∷ bs)) more ≡ ended o f bs
eol_first o f b bs more other is = rw (other, is)

split_at : (o : Dialect) (f : CsvField) (text : List ℕ) (n : ℕ) (more : List ℕ → Option (List CsvField × List ℕ)) → n < length text
    → fields_then o (Some (f, drop n text)) more ≡ fields_then o (Some (f, get_or text n 0 ∷ drop (n + 1) text)) more
split_at o f text n more within = ap (λ (rest : List ℕ). let found : CsvField × List ℕ = (f, rest) in fields_then o (Some found) more) (drop_more text n 0 within)

separated_lowest : (o : Dialect) (front : List CsvField) (rest : List ℕ) (n i left bits : ℕ) → i < n → IsPlainLine o rest left → Marks (λ b. b == o.separator) rest left bits → bits < 2 ^ 64
    → trailing_zeros w64 bits < left → left < 64
    → with_front front (fields_up_to (n - i) o rest)
    ≡ with_front (front ++ plain (take (trailing_zeros w64 bits) rest) ∷ []) (fields_up_to (n - (i + 1)) o (drop (trailing_zeros w64 bits + 1) rest))
separated_lowest o front rest n i left bits room line marked fits before near =
    let at = trailing_zeros w64 bits in
    let one : n - i ≡ suc (n - (i + 1)) = omega arith in
    let within : at < length rest = omega (arith, line.within) in
    let passed : PassedTo o rest at = λ k below.
    or_from _ _ (none_marked (λ b. b == o.separator) rest left bits marked fits k below (omega arith)) (line.inside k (omega arith)) in
    let is : (get_or rest at 0 == o.separator) ≡ true = first_marked (λ b. b == o.separator) rest left bits marked fits before (omega arith) in
    let more : List ℕ → Option (List CsvField × List ℕ) = λ r. fields_up_to (n - (i + 1)) o r in
    ap (λ k. with_front front (fields_up_to k o rest)) one
    ∙ ap (λ found. with_front front (fields_then o found more)) (run_field o rest at within (line.unquoted 0 (omega arith)) passed (or_left _ _ is))
    ∙ ap (with_front front) (split_at o (plain (take at rest)) rest at more within ∙ separator_first o (plain (take at rest)) (get_or rest at 0) (drop (at + 1) rest) more is)
    ∙ with_front-field front (plain (take at rest)) (more (drop (at + 1) rest))

-- the field before the lowest mark of a line
pub separated : (o : Dialect) (front : List CsvField) (rest : List ℕ) (n i left bits at : ℕ) → i < n → IsPlainLine o rest left → Marks (λ b. b == o.separator) rest left bits
    → bits < 2 ^ 64 → at ≡ trailing_zeros w64 bits → at < left → left < 64
    → with_front front (fields_up_to (n - i) o rest) ≡ with_front (front ++ plain (take at rest) ∷ []) (fields_up_to (n - (i + 1)) o (drop (at + 1) rest))
separated o front rest n i left bits at room line marked fits lowest before near =
    rw lowest (separated_lowest o front rest n i left bits room line marked fits (omega arith) near)

-- the last field of a line
pub line_ended : (o : Dialect) (front : List CsvField) (rest : List ℕ) (n i left bits : ℕ) → IsDialect o → i < n → IsPlainLine o rest left → Marks (λ b. b == o.separator) rest left bits
    → bits < 2 ^ 64 → left ≤ trailing_zeros w64 bits
    → (let found : List CsvField × List ℕ = (front ++ last_field o (plain (take left rest)) ∷ [], drop (left + 1) rest) in with_front front (fields_up_to (n - i) o rest) ≡ Some found)
line_ended o front rest n i left bits fit room line marked fits before =
    let one : n - i ≡ suc (n - (i + 1)) = omega arith in
    let passed : PassedTo o rest left = λ k below.
    or_from _ _ (none_marked (λ b. b == o.separator) rest left bits marked fits k (omega arith) below) (line.inside k below) in
    let other : (get_or rest left 0 == o.separator) ≡ false = ne_eqb _ _ (λ e. fit.apart (sym e ∙ eqb-true _ _ line.ended)) in
    let more : List ℕ → Option (List CsvField × List ℕ) = λ r. fields_up_to (n - (i + 1)) o r in
    ap (λ k. with_front front (fields_up_to k o rest)) one
    ∙ ap (λ found. with_front front (fields_then o found more)) (run_field o rest left line.within (line.unquoted 0 (omega arith)) passed (or_right _ _ line.ended))
    ∙ ap (with_front front) (split_at o (plain (take left rest)) rest left more line.within
    ∙ eol_first o (plain (take left rest)) (get_or rest left 0) (drop (left + 1) rest) more other line.ended)
