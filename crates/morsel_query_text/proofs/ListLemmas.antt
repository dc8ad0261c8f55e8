-- Lists of a tree, item after item.
use Rattle.std.proofs.Common.{◌≡◌, ℕ, ◌+◌, ◌<◌, ◌≤◌, List, [], ◌∷◌, ◌++◌, Option, Some, None, refl, ap, sym, ◌∙◌, length, drop, get_or, option_map, option_and_then, append_assoc, append-nil, arith}
use Rattle.std.proofs.lemmas.List.{at_drop_more, at_drop_all}
use Rattle.serde_json.specs.Data.{Data}
use Rattle.serde_json.specs.View.{view, items_view}
use Rattle.serde_json.specs.declared.value.Value.{Value}
use Rattle.morsel_meaning.specs.declared.fault.Fault.{Fault}
use Rattle.morsel_meaning.specs.declared.fault.Fault.TheVariants as faults
use Rattle.morsel_query_text.specs.Trees.{each_as, two_items, three_items}
use Rattle.morsel_query_text.specs.Reads.{Refused}

moved : (T : Type 0) (done : List T) (v : T) (rest : Option (List T)) → option_map (λ (more : List T). done ++ more) (option_map (λ (values : List T). v ∷ values) rest) ≡ option_map (λ (more : List T). (done ++ v ∷ []) ++ more) rest
moved T done v None = refl
moved T done v (Some more) = ap (λ (all : List T). Some all) (sym (append_assoc done (v ∷ []) more))

-- one more item that is of the kind
pub each-step : (T : Type 0) (kind : Data → Option T) (items : List Value) (i : ℕ) (d : Value) (done : List T) (v : T) → i < length items → kind (view (get_or items i d)) ≡ Some v
    → option_map (λ (more : List T). done ++ more) (each_as kind (items_view (drop i items))) ≡ option_map (λ (more : List T). (done ++ v ∷ []) ++ more) (each_as kind (items_view (drop (i + 1) items)))
each-step T kind items i d done v within is =
    at_drop_more (λ (xs : List Value). option_map (λ (more : List T). done ++ more) (each_as kind (items_view xs))) items i d within
    ∙ ap (λ (told : Option T). option_map (λ (more : List T). done ++ more) (option_and_then (λ (value : T). option_map (λ (values : List T). value ∷ values) (each_as kind (items_view (drop (i + 1) items)))) told)) is
    ∙ moved T done v (each_as kind (items_view (drop (i + 1) items)))

-- an item that is not
pub each-none : (T : Type 0) (kind : Data → Option T) (items : List Value) (i : ℕ) (d : Value) (done : List T) → i < length items → kind (view (get_or items i d)) ≡ None
    → option_map (λ (more : List T). done ++ more) (each_as kind (items_view (drop i items))) ≡ None
each-none T kind items i d done within is =
    at_drop_more (λ (xs : List Value). option_map (λ (more : List T). done ++ more) (each_as kind (items_view xs))) items i d within
    ∙ ap (λ (told : Option T). option_map (λ (more : List T). done ++ more) (option_and_then (λ (value : T). option_map (λ (values : List T). value ∷ values) (each_as kind (items_view (drop (i + 1) items)))) told)) is

-- no more items
pub each-all : (T : Type 0) (kind : Data → Option T) (items : List Value) (i : ℕ) (done : List T) → length items ≤ i
    → option_map (λ (more : List T). done ++ more) (each_as kind (items_view (drop i items))) ≡ Some done
each-all T kind items i done past =
    at_drop_all (λ (xs : List Value). option_map (λ (more : List T). done ++ more) (each_as kind (items_view xs))) items i past
    ∙ ap (λ (all : List T). Some all) (append-nil done)

-- what is refused as one thing is refused as another that is none then
pub refused-so : (A B : Type 0) (told : Option A) (whole : Option B) (fault : Fault) → (told ≡ None → whole ≡ None) → Refused {T = A} told fault → Refused {T = B} whole fault
refused-so A B told whole faults.OutOfMemory so refused = tt
refused-so A B told whole faults.QueryText so refused = so refused
refused-so A B told whole (faults.ReadFault file) so refused = refused
refused-so A B told whole faults.WriteFault so refused = refused
refused-so A B told whole (faults.InvalidQuery why) so refused = refused
refused-so A B told whole (faults.Malformed file at) so refused = refused
refused-so A B told whole (faults.Unsupported file code) so refused = refused
refused-so A B told whole (faults.ColumnNotFound name) so refused = refused
refused-so A B told whole (faults.SchemaMismatch name) so refused = refused
refused-so A B told whole (faults.Duplicate name) so refused = refused
refused-so A B told whole (faults.ComputeError kind file at) so refused = refused
refused-so A B told whole faults.Usage so refused = refused

-- a list that has another length than two is no pair
pub no_pair : (items : List Value) → (length items ≡ 2 → ⊥) → two_items (items_view items) ≡ None
no_pair [] not = refl
no_pair (a ∷ []) not = refl
no_pair (a ∷ b ∷ []) not = absurd (not refl)
no_pair (a ∷ b ∷ c ∷ items) not = refl

-- one that has two is one
pub pair_is : (items : List Value) (d e : Value) → length items ≡ 2 → two_items (items_view items) ≡ Some (view (get_or items 0 d), view (get_or items 1 e))
pair_is [] d e two = absurd (omega (arith, two))
pair_is (a ∷ []) d e two = absurd (omega (arith, two))
pair_is (a ∷ b ∷ []) d e two = refl
pair_is (a ∷ b ∷ c ∷ items) d e two = absurd (omega (arith, two))

-- a list that has another length than three is no triple
pub no_triple : (items : List Value) → (length items ≡ 3 → ⊥) → three_items (items_view items) ≡ None
no_triple [] not = refl
no_triple (a ∷ []) not = refl
no_triple (a ∷ b ∷ []) not = refl
no_triple (a ∷ b ∷ c ∷ []) not = absurd (not refl)
no_triple (a ∷ b ∷ c ∷ more ∷ items) not = refl

-- one that has three is one
pub triple_is : (items : List Value) (d e f : Value) → length items ≡ 3 → three_items (items_view items) ≡ Some (view (get_or items 0 d), view (get_or items 1 e), view (get_or items 2 f))
triple_is [] d e f three = absurd (omega (arith, three))
triple_is (a ∷ []) d e f three = absurd (omega (arith, three))
triple_is (a ∷ b ∷ []) d e f three = absurd (omega (arith, three))
triple_is (a ∷ b ∷ c ∷ []) d e f three = refl
triple_is (a ∷ b ∷ c ∷ more ∷ items) d e f three = absurd (omega (arith, three))
