-- Answers of marked items, one more at a time.
use Rattle.std.proofs.Common.{◌≡◌, ℕ, ◌+◌, ◌<◌, ◌≤◌, Bool, false, if◌then◌else◌, List, [], ◌∷◌, ◌++◌, length, map, take, get_or, ap, ◌∙◌, arith}
use Rattle.std.specs.List.{zip}
use Rattle.std.proofs.lemmas.List.{take_more, take_all, length-map, get_or-map}
use Rattle.std.proofs.lemmas.Slice.Zip.{length-zip, get_or-zip}
use Rattle.morsel_meaning.specs.declared.value.Value.{Value}
use Rattle.morsel_meaning.specs.declared.value.Value.TheVariants as values
use Rattle.morsel_meaning.specs.Order.{value_cmp}
use Rattle.morsel_expr.specs.declared.truth.Truth.TheVariants.{Unknown}
use Rattle.morsel_expr.specs.declared.order_truths.OrderTruths.{OrderTruths}
use Rattle.morsel_expr.specs.OrderTruths.{answer, answered, answer_of_pair, answered_pairs}

-- what a function gives of one more item
map-more : {X Y : Type 0} (f : X → Y) (xs : List X) (n : ℕ) (d : X) → n < length xs → take (n + 1) (map f xs) ≡ take n (map f xs) ++ f (get_or xs n d) ∷ []
map-more f xs n d within =
    take_more (map f xs) n (f d) (omega (arith, length-map xs f))
    ∙ ap (λ y. take n (map f xs) ++ y ∷ []) (get_or-map f xs n d (f d) within)

-- no more answers than marks
pub answered_all : (answers : OrderTruths) (by : Value) (valid : List Bool) (texts : List (List ℕ)) (n : ℕ) → length valid ≤ n → take n (answered values.Text answers by valid texts) ≡ answered values.Text answers by valid texts
answered_all answers by valid texts n past =
    take_all n (answered values.Text answers by valid texts) (omega (arith, length-map (zip valid texts) (λ (pair : Bool × List ℕ). if pair.0 then answer answers (value_cmp (values.Text pair.1) by) else Unknown), length-zip valid texts))

pub answered_pairs_all : (answers : OrderTruths) (valid : List Bool) (texts : List (List ℕ)) (other_valid : List Bool) (others : List (List ℕ)) (n : ℕ) → length valid ≤ n → take n (answered_pairs values.Text answers valid texts other_valid others) ≡ answered_pairs values.Text answers valid texts other_valid others
answered_pairs_all answers valid texts other_valid others n past =
    take_all n (answered_pairs values.Text answers valid texts other_valid others) (omega (arith, length-map (zip (zip valid texts) (zip other_valid others)) (λ (pair : (Bool × List ℕ) × (Bool × List ℕ)). answer_of_pair values.Text answers pair.0 pair.1), length-zip valid texts, length-zip (zip valid texts) (zip other_valid others)))

-- one text more beside a text
pub answered_more : (answers : OrderTruths) (by : Value) (valid : List Bool) (texts : List (List ℕ)) (n : ℕ) → n < length valid → length texts ≡ length valid → take (n + 1) (answered values.Text answers by valid texts) ≡ take n (answered values.Text answers by valid texts) ++ (if get_or valid n false then answer answers (value_cmp (values.Text (get_or texts n [])) by) else Unknown) ∷ []
answered_more answers by valid texts n within same =
    map-more (λ (pair : Bool × List ℕ). if pair.0 then answer answers (value_cmp (values.Text pair.1) by) else Unknown) (zip valid texts) n (false, []) (omega (arith, length-zip valid texts))
    ∙ ap (λ (pair : Bool × List ℕ). take n (answered values.Text answers by valid texts) ++ (if pair.0 then answer answers (value_cmp (values.Text pair.1) by) else Unknown) ∷ []) (get_or-zip valid texts n (false, []) within (omega arith))

-- one text more beside another
pub answered_pairs_more : (answers : OrderTruths) (valid : List Bool) (texts : List (List ℕ)) (other_valid : List Bool) (others : List (List ℕ)) (n : ℕ) → n < length valid → length texts ≡ length valid → length other_valid ≡ length valid → length others ≡ length valid → take (n + 1) (answered_pairs values.Text answers valid texts other_valid others) ≡ take n (answered_pairs values.Text answers valid texts other_valid others) ++ (if get_or valid n false then (if get_or other_valid n false then answer answers (value_cmp (values.Text (get_or texts n [])) (values.Text (get_or others n []))) else Unknown) else Unknown) ∷ []
answered_pairs_more answers valid texts other_valid others n within same other_same others_same =
    map-more (λ (pair : (Bool × List ℕ) × (Bool × List ℕ)). answer_of_pair values.Text answers pair.0 pair.1) (zip (zip valid texts) (zip other_valid others)) n ((false, []), (false, [])) (omega (arith, length-zip valid texts, length-zip other_valid others, length-zip (zip valid texts) (zip other_valid others)))
    ∙ ap (λ (pair : (Bool × List ℕ) × (Bool × List ℕ)). take n (answered_pairs values.Text answers valid texts other_valid others) ++ answer_of_pair values.Text answers pair.0 pair.1 ∷ [])
    (get_or-zip (zip valid texts) (zip other_valid others) n ((false, []), (false, [])) (omega (arith, length-zip valid texts)) (omega (arith, length-zip other_valid others)))
    ∙ ap (λ (pair : Bool × List ℕ). take n (answered_pairs values.Text answers valid texts other_valid others) ++ answer_of_pair values.Text answers pair (get_or (zip other_valid others) n (false, [])) ∷ []) (get_or-zip valid texts n (false, []) within (omega arith))
    ∙ ap (λ (pair : Bool × List ℕ). take n (answered_pairs values.Text answers valid texts other_valid others) ++ answer_of_pair values.Text answers (get_or valid n false, get_or texts n []) pair ∷ []) (get_or-zip other_valid others n (false, []) (omega arith) (omega arith))
