-- The order of values is total, and level values are the same.
use Rattle.std.specs.Prelude.{◌≡◌, ℕ, ℤ, pos, Bool, true, false, List, [], refl}
use Rattle.std.proofs.Common.{sym, ap, subst}
use Rattle.std.specs.Cmp.{IsTotalOrder, nat_cmp_total, int_cmp_total, bool_cmp_total, on_total, then_total, tied_itself}
use Rattle.std.specs.Cmp.Lexicographic.{slice_cmp, nat_list_cmp_total}
use Rattle.std.specs.Ordering.{nat_cmp, int_cmp, bool_cmp, ordering_then, eq_by_cmp, is_eq}
use mathlib.Core.Bool.{beq}
use Rattle.std.specs.declared.cmp.Ordering.{Ordering}
use Rattle.std.specs.declared.cmp.Ordering.TheVariants.{Less, Equal, Greater}
use Rattle.std.proofs.lemmas.Map.Lookups.{exact_signed, exact_bytes}
use Rattle.morsel_meaning.specs.declared.value.Value.{Value}
use Rattle.morsel_meaning.specs.declared.value.Value.TheVariants.{Null, Int, Bool as Truth, Text}
use Rattle.morsel_meaning.specs.Order.{rank, value_cmp, value_eq}

-- what a value holds of each type, and a blank where it is of another
abbrev int_part : Value → ℤ
int_part (Int n) = n
int_part Null = pos 0
int_part (Truth b) = pos 0
int_part (Text t) = pos 0

abbrev bool_part : Value → Bool
bool_part (Truth b) = b
bool_part Null = false
bool_part (Int n) = false
bool_part (Text t) = false

abbrev text_part : Value → List ℕ
text_part (Text t) = t
text_part Null = []
text_part (Int n) = []
text_part (Truth b) = []

-- the same order, part by part
abbrev by_parts : Value → Value → Ordering
by_parts a b = ordering_then (nat_cmp (rank a) (rank b)) (ordering_then (int_cmp (int_part a) (int_part b)) (ordering_then (bool_cmp (bool_part a) (bool_part b)) (slice_cmp nat_cmp (text_part a) (text_part b))))

by_parts_total : IsTotalOrder by_parts
by_parts_total = then_total (on_total rank nat_cmp_total) (then_total (on_total int_part int_cmp_total) (then_total (on_total bool_part bool_cmp_total) (on_total text_part nat_list_cmp_total)))

then_level : (r : Ordering) → r ≡ ordering_then r Equal
then_level Less = refl
then_level Equal = refl
then_level Greater = refl

value_cmp-by_parts : (a b : Value) → by_parts a b ≡ value_cmp a b
value_cmp-by_parts Null Null = refl
value_cmp-by_parts Null (Int n) = refl
value_cmp-by_parts Null (Truth b) = refl
value_cmp-by_parts Null (Text t) = refl
value_cmp-by_parts (Int m) Null = refl
value_cmp-by_parts (Int m) (Int n) = sym (then_level (int_cmp m n))
value_cmp-by_parts (Int m) (Truth b) = refl
value_cmp-by_parts (Int m) (Text t) = refl
value_cmp-by_parts (Truth a) Null = refl
value_cmp-by_parts (Truth a) (Int n) = refl
value_cmp-by_parts (Truth a) (Truth b) = sym (then_level (bool_cmp a b))
value_cmp-by_parts (Truth a) (Text t) = refl
value_cmp-by_parts (Text s) Null = refl
value_cmp-by_parts (Text s) (Int n) = refl
value_cmp-by_parts (Text s) (Truth b) = refl
value_cmp-by_parts (Text s) (Text t) = refl

pub value_cmp_total : IsTotalOrder value_cmp
value_cmp_total = subst IsTotalOrder (λ i a b. value_cmp-by_parts a b i) by_parts_total

pub value_eq-itself : (a : Value) → value_eq a a ≡ true
value_eq-itself a = ap is_eq (tied_itself value_cmp_total a)

level : (r : Ordering) → is_eq r ≡ true → r ≡ Equal
level Less h = cc
level Equal h = refl
level Greater h = cc

exact_bools : (a b : Bool) → bool_cmp a b ≡ Equal → a ≡ b
exact_bools true true h = refl
exact_bools true false h = cc
exact_bools false true h = cc
exact_bools false false h = refl

level_values : (a b : Value) → value_cmp a b ≡ Equal → a ≡ b
level_values Null Null h = refl
level_values Null (Int n) h = cc
level_values Null (Truth b) h = cc
level_values Null (Text t) h = cc
level_values (Int m) Null h = cc
level_values (Int m) (Int n) h = ap Int (exact_signed m n h)
level_values (Int m) (Truth b) h = cc
level_values (Int m) (Text t) h = cc
level_values (Truth a) Null h = cc
level_values (Truth a) (Int n) h = cc
level_values (Truth a) (Truth b) h = ap Truth (exact_bools a b h)
level_values (Truth a) (Text t) h = cc
level_values (Text s) Null h = cc
level_values (Text s) (Int n) h = cc
level_values (Text s) (Truth b) h = cc
level_values (Text s) (Text t) h = ap Text (exact_bytes s t h)

pub value_eq-same : (a b : Value) → value_eq a b ≡ true → a ≡ b
value_eq-same a b h = level_values a b (level (value_cmp a b) h)

-- `==` of truth values tells apart what their order does
pub bool_eq-ties : (a b : Bool) → beq a b ≡ eq_by_cmp bool_cmp a b
bool_eq-ties true true = refl
bool_eq-ties true false = refl
bool_eq-ties false true = refl
bool_eq-ties false false = refl
