-- The forms of predicates: a word and one part, a word and two parts, and no other list.
use Rattle.std.proofs.Common.{◌≡◌, ℕ, List, [], ◌∷◌, false, Some, None, refl, ap, length, get_or, arith}
use Rattle.serde_json.specs.Data.{Data, null, boolean, number, string, array, object, Items, no_items, item}
use Rattle.serde_json.specs.Find.{as_str}
use Rattle.serde_json.specs.View.{view, items_view}
use Rattle.serde_json.specs.declared.value.Value.{Value}
use Rattle.morsel_query_text.specs.Predicates.{one_part, two_parts, is_predicate}

text_is : (d : Data) (word : List ℕ) → as_str d ≡ Some word → d ≡ string word
text_is null word is = cc
text_is (boolean b) word is = cc
text_is (number n) word is = cc
text_is (string s) word is = let same : s ≡ word = cc in ap string same
text_is (array ds) word is = cc
text_is (object ms) word is = cc

-- two items, the first a word
pub one_form : (items : List Value) (d e : Value) (word : List ℕ) → length items ≡ 2 → as_str (view (get_or items 0 d)) ≡ Some word → array (items_view items) ≡ one_part word (view (get_or items 1 e))
one_form [] d e word two is = absurd (omega (arith, two))
one_form (a ∷ []) d e word two is = absurd (omega (arith, two))
one_form (a ∷ b ∷ []) d e word two is = ap (λ (first : Data). array (item first (item (view b) no_items))) (text_is (view a) word is)
one_form (a ∷ b ∷ c ∷ items) d e word two is = absurd (omega (arith, two))

-- three items, the first a word
pub two_form : (items : List Value) (d e f : Value) (word : List ℕ) → length items ≡ 3 → as_str (view (get_or items 0 d)) ≡ Some word → array (items_view items) ≡ two_parts word (view (get_or items 1 e)) (view (get_or items 2 f))
two_form [] d e f word three is = absurd (omega (arith, three))
two_form (a ∷ []) d e f word three is = absurd (omega (arith, three))
two_form (a ∷ b ∷ []) d e f word three is = absurd (omega (arith, three))
two_form (a ∷ b ∷ c ∷ []) d e f word three is = ap (λ (first : Data). array (item first (item (view b) (item (view c) no_items)))) (text_is (view a) word is)
two_form (a ∷ b ∷ c ∷ more ∷ items) d e f word three is = absurd (omega (arith, three))

lone : (d : Data) → is_predicate (array (item d no_items)) ≡ false
lone null = refl
lone (boolean b) = refl
lone (number n) = refl
lone (string s) = refl
lone (array ds) = refl
lone (object ms) = refl

many : (d a b c : Data) (ds : Items) → is_predicate (array (item d (item a (item b (item c ds))))) ≡ false
many null a b c ds = refl
many (boolean x) a b c ds = refl
many (number n) a b c ds = refl
many (string s) a b c ds = refl
many (array xs) a b c ds = refl
many (object ms) a b c ds = refl

-- neither two items nor three
pub no_form : (items : List Value) → (length items ≡ 2 → ⊥) → (length items ≡ 3 → ⊥) → is_predicate (array (items_view items)) ≡ false
no_form [] two three = refl
no_form (a ∷ []) two three = lone (view a)
no_form (a ∷ b ∷ []) two three = absurd (two refl)
no_form (a ∷ b ∷ c ∷ []) two three = absurd (three refl)
no_form (a ∷ b ∷ c ∷ more ∷ items) two three = many (view a) (view b) (view c) (view more) (items_view items)

wordless : (d : Data) (ds : Items) → as_str d ≡ None → is_predicate (array (item d ds)) ≡ false
wordless null ds none = refl
wordless (boolean b) ds none = refl
wordless (number n) ds none = refl
wordless (string s) ds none = cc
wordless (array xs) ds none = refl
wordless (object ms) ds none = refl

-- the first item is no word
pub no_word : (items : List Value) (d : Value) → as_str (view (get_or items 0 d)) ≡ None → is_predicate (array (items_view items)) ≡ false
no_word [] d none = refl
no_word (a ∷ items) d none = wordless (view a) (items_view items) none
