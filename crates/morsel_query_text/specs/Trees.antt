-- What a JSON tree has at a key, and kinds of values.
use Rattle.std.specs.Prelude.{◌≡◌, ℕ, ℤ, pos, negsuc, ◌^◌, nat_lt, Bool, true, false, ◌&&◌, if◌then◌else◌, Option, Some, None, option_map, option_and_then, is_some, List, [], ◌∷◌}
use Rattle.serde_json.specs.Data.{Num, unsigned, negative, float, Data, Items, no_items, item, Members, no_members, member}
use Rattle.serde_json.specs.Find.{get, as_null, as_str, as_array, as_object, as_number, as_u64, as_i64}
use Rattle.morsel_frame.specs.Names.{stands_in}

-- whether each key is one of these
abbrev pub are_among : List (List ℕ) → Members → Bool
are_among keys no_members = true
are_among keys (member key d ms) = stands_in key keys && are_among keys ms

-- whether these are the members of an object, each with one of these keys
abbrev pub members_among : List (List ℕ) → Option Members → Bool
members_among keys None = false
members_among keys (Some ms) = are_among keys ms

-- whether a tree is an object without other keys than these
abbrev pub has_only : List (List ℕ) → Data → Bool
has_only keys tree = members_among keys (as_object tree)

-- what was found, as a value of a kind; the default where nothing was
abbrev pub found_as : {T : Type 0} → (Data → Option T) → Option T → Option Data → Option T
found_as kind default None = default
found_as kind default (Some tree) = kind tree

-- what an object has at a key, as a value of a kind; the default where the key is absent, and none where there is none
abbrev pub at_key : {T : Type 0} → List ℕ → (Data → Option T) → Option T → Data → Option T
at_key key kind default tree = found_as kind default (get key tree)

-- what was found is this value, by a relation; the value is the default where nothing was found
abbrev pub FoundAs : {T : Type 0} → (Data → T → Type 0) → Option T → Option Data → T → Type 0
FoundAs Of default None value = default ≡ Some value
FoundAs Of default (Some tree) value = Of tree value

-- what an object has at a key is this value, by a relation; the value is the default where the key is absent
abbrev pub IsAtKey : {T : Type 0} → List ℕ → (Data → T → Type 0) → Option T → Data → T → Type 0
IsAtKey key Of default tree value = FoundAs Of default (get key tree) value

-- a value that may be left out, by a relation
abbrev pub SomeOf : {T : Type 0} → (Data → T → Type 0) → Data → Option T → Type 0
SomeOf Of tree None = ⊥
SomeOf Of tree (Some value) = Of tree value

-- a kind of value that may be left out
abbrev pub some_of : {T : Type 0} → (Data → Option T) → Data → Option (Option T)
some_of kind tree = option_map (λ value. Some value) (kind tree)

-- a text, or null for none
abbrev pub text_or_null : Data → Option (Option (List ℕ))
text_or_null tree = if is_some (as_null tree) then Some None else option_map (λ text. Some text) (as_str tree)

-- what a word names
abbrev pub word_as : {T : Type 0} → (List ℕ → Option T) → Data → Option T
word_as named tree = option_and_then named (as_str tree)

-- a number without a sign: no fraction, no exponent, and not -0. Those of a tree that was read have 64 bits
abbrev pub number : Data → Option ℕ
number tree = option_and_then as_u64 (as_number tree)

-- such a number of 32 bits
abbrev pub narrow_number : Data → Option ℕ
narrow_number tree = option_and_then (λ n. if nat_lt n (2 ^ 32) then Some n else None) (number tree)

-- a number of 64 bits with a sign; what is below 0 has one
abbrev pub integer_of : Num → Option ℤ
integer_of (unsigned n) = as_i64 (unsigned n)
integer_of (negative (pos n)) = None
integer_of (negative (negsuc n)) = Some (negsuc n)
integer_of (float x) = None

-- a number of 64 bits with a sign
abbrev pub signed_number : Data → Option ℤ
signed_number tree = option_and_then integer_of (as_number tree)

-- each item as a value of a kind
abbrev pub each_as : {T : Type 0} → (Data → Option T) → Items → Option (List T)
each_as kind no_items = Some []
each_as kind (item tree ds) = option_and_then (λ value. option_map (λ values. value ∷ values) (each_as kind ds)) (kind tree)

-- a list of values of a kind
abbrev pub list_of : {T : Type 0} → (Data → Option T) → Data → Option (List T)
list_of kind tree = option_and_then (each_as kind) (as_array tree)

-- two items and no more
abbrev pub two_items : Items → Option (Data × Data)
two_items no_items = None
two_items (item a no_items) = None
two_items (item a (item b no_items)) = Some (a, b)
two_items (item a (item b (item c ds))) = None

-- three items and no more
abbrev pub three_items : Items → Option (Data × Data × Data)
three_items no_items = None
three_items (item a no_items) = None
three_items (item a (item b no_items)) = None
three_items (item a (item b (item c no_items))) = Some (a, b, c)
three_items (item a (item b (item c (item d ds)))) = None

-- two values
abbrev pub both : {A B : Type 0} → Option A → Option B → Option (A × B)
both a b = option_and_then (λ x. option_map (λ y. (x, y)) b) a

-- a list of two values, each of a kind of its own
abbrev pub pair_of : {A B : Type 0} → (Data → Option A) → (Data → Option B) → Data → Option (A × B)
pair_of first second tree = option_and_then (λ pair. both (first pair.0) (second pair.1)) (option_and_then two_items (as_array tree))
