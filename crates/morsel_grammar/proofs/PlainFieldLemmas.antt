-- An unquoted field runs to the next separator or eol byte.
use Rattle.std.proofs.Common.{◌≡◌, ◌≢◌, ℕ, ap, sym, refl, ◌∙◌}
use Rattle.std.specs.Prelude.{Bool, true, false, ◌==◌, if◌then◌else◌, Option, Some, None, List, [], ◌∷◌, ◌++◌}
use Rattle.morsel_grammar.specs.Dialect.{Dialect, IsWithout}
use Rattle.morsel_grammar.specs.Grammar.{BeginsUnquoted}
use Rattle.morsel_grammar.specs.Split.{plain_at, stops, is_quote}
use Rattle.morsel_grammar.proofs.ByteLemmas.{byte_itself, other_byte, bytes_differ, neither, none_of, either_first, either_second, true_not_false, same_byte}

-- the end of the text, or a byte before which an unquoted field ends
abbrev pub IsStop : Dialect → List ℕ → Type 0
IsStop o [] = Unit {0}
IsStop o (b ∷ bs) = stops o b ≡ true

pub goes_on : (o : Dialect) (b : ℕ) → b ≢ o.separator → b ≢ o.eol → stops o b ≡ false
goes_on o b no_separator no_eol = neither (b == o.separator) (b == o.eol) (other_byte b o.separator no_separator) (other_byte b o.eol no_eol)

pub stops-separator : (o : Dialect) → stops o o.separator ≡ true
stops-separator o = either_first (o.separator == o.separator) (o.separator == o.eol) (byte_itself o.separator)

pub stops-eol : (o : Dialect) → stops o o.eol ≡ true
stops-eol o = either_second (o.eol == o.separator) (o.eol == o.eol) (byte_itself o.eol)

pub plain_at-written : (o : Dialect) (bytes after : List ℕ) → IsWithout o.separator bytes → IsWithout o.eol bytes → IsStop o after
    → plain_at o (bytes ++ after) ≡ (bytes, after)
plain_at-written o [] [] no_separator no_eol stop = refl
plain_at-written o [] (b ∷ after) no_separator no_eol stop = rw stop refl
plain_at-written o (b ∷ bytes) after no_separator no_eol stop =
    ap (λ t. if t then ([], b ∷ bytes ++ after) else (b ∷ (plain_at o (bytes ++ after)).0, (plain_at o (bytes ++ after)).1)) (goes_on o b no_separator.0 no_eol.0)
    ∙ ap (λ (found : List ℕ × List ℕ). let more : List ℕ × List ℕ = (b ∷ found.0, found.1) in more) (plain_at-written o bytes after no_separator.1 no_eol.1 stop)

-- the text is content with neither separator nor eol, and a rest that ends it
pub record IsPlainText (o : Dialect) (text : List ℕ) (found : List ℕ × List ℕ) : Type 0 where
  pub is : text ≡ found.0 ++ found.1
  pub no_separator : IsWithout o.separator found.0
  pub no_eol : IsWithout o.eol found.0
  pub stop : IsStop o found.1

read_byte : (o : Dialect) (b : ℕ) (bs : List ℕ) (found : List ℕ × List ℕ) (t : Bool) → stops o b ≡ t → IsPlainText o bs found
    → IsPlainText o (b ∷ bs) (if t then ([], b ∷ bs) else (b ∷ found.0, found.1))
read_byte o b bs found true ends later = record { is = refl; no_separator = tt; no_eol = tt; stop = ends }
read_byte o b bs found false goes later =
    let other = none_of (b == o.separator) (b == o.eol) goes in
    record {
      is = ap (λ (x : List ℕ). b ∷ x) later.is;
      no_separator = (bytes_differ b o.separator other.0, later.no_separator);
      no_eol = (bytes_differ b o.eol other.1, later.no_eol);
      stop = later.stop;
    }

pub plain_at-read : (o : Dialect) (text : List ℕ) → IsPlainText o text (plain_at o text)
plain_at-read o [] = record { is = refl; no_separator = tt; no_eol = tt; stop = tt }
plain_at-read o (b ∷ bs) = read_byte o b bs (plain_at o bs) (stops o b) refl (plain_at-read o bs)

-- a front of bytes without some byte is without it
pub IsWithout-front : (byte : ℕ) (front back : List ℕ) → IsWithout byte (front ++ back) → IsWithout byte front
IsWithout-front byte [] back without = tt
IsWithout-front byte (b ∷ front) back without = (without.0, IsWithout-front byte front back without.1)

pub IsWithout-push : (byte b : ℕ) (front : List ℕ) → IsWithout byte front → b ≢ byte → IsWithout byte (front ++ b ∷ [])
IsWithout-push byte b [] without other = (other, tt)
IsWithout-push byte b (c ∷ front) without other = (without.0, IsWithout-push byte b front without.1 other)

-- the first byte and the quote
pub begins_nothing : (quote : Option ℕ) → BeginsUnquoted quote []
begins_nothing None = tt
begins_nothing (Some q) = tt

pub is_quote-unquoted : (quote : Option ℕ) (b : ℕ) (bs : List ℕ) → BeginsUnquoted quote (b ∷ bs) → is_quote quote b ≡ false
is_quote-unquoted None b bs unquoted = refl
is_quote-unquoted (Some q) b bs unquoted = other_byte b q unquoted

pub BeginsUnquoted-front : (quote : Option ℕ) (front back : List ℕ) → BeginsUnquoted quote (front ++ back) → BeginsUnquoted quote front
BeginsUnquoted-front quote [] back unquoted = begins_nothing quote
BeginsUnquoted-front None (b ∷ front) back unquoted = tt
BeginsUnquoted-front (Some q) (b ∷ front) back unquoted = unquoted

pub BeginsUnquoted-first : (quote : Option ℕ) (b : ℕ) (bs : List ℕ) → is_quote quote b ≡ false → BeginsUnquoted quote (b ∷ bs)
BeginsUnquoted-first None b bs other = tt
BeginsUnquoted-first (Some q) b bs other = bytes_differ b q other

pub BeginsUnquoted-push : (quote : Option ℕ) (bytes : List ℕ) (b : ℕ) → BeginsUnquoted quote bytes → is_quote quote b ≡ false → BeginsUnquoted quote (bytes ++ b ∷ [])
BeginsUnquoted-push quote [] b unquoted other = BeginsUnquoted-first quote b [] other
BeginsUnquoted-push None (c ∷ bytes) b unquoted other = tt
BeginsUnquoted-push (Some q) (c ∷ bytes) b unquoted other = unquoted

pub quote_is : (quote : Option ℕ) (b : ℕ) → is_quote quote b ≡ true → quote ≡ Some b
quote_is None b is = true_not_false false is refl
quote_is (Some q) b is = ap (λ (x : ℕ). Some x) (sym (same_byte b q is))
