-- The entries of the used columns, one after another.
use Rattle.std.proofs.Common.{◌≡◌, ℕ, zero, suc, ◌+◌, ◌<◌, ◌≤◌, ◌∙◌, sym, ap, refl, Bool, true, false, List, [], ◌∷◌, ◌++◌, length, drop, get_or, append_assoc}
use Rattle.std.proofs.lemmas.List.{drop_more, drop_all, append-nil}
use Rattle.std.specs.Prelude.{Some, slice_get}
use Rattle.std.specs.List.{IsDistinct, AllByRecursion}
use Rattle.std.specs.Str.{bytes_eq}
use Rattle.morsel_meaning.specs.Values.{names_of}
use Rattle.morsel_frame.specs.Names.{AreDistinct}
use Rattle.morsel_meaning.specs.declared.value.Field.{Field}
use Rattle.morsel_frame.specs.Columns.{Values}
use Rattle.morsel_grammar.specs.Reading.{chosen}
use Rattle.morsel_text.specs.Steps.{empty_columns}

pub got : {A : Type 0} (xs : List A) (i : ℕ) (x : A) → slice_get xs i ≡ Some x → get_or xs i x ≡ x
got [] i x is = refl
got (y ∷ xs) zero x is = cc
got (y ∷ xs) (suc i) x is = got xs i x is

chosen_used : {A : Type 0} (used : List Bool) (xs : List A) (i : ℕ) (x : A) → i < length used → i < length xs → get_or used i false ≡ true → get_or xs i x ≡ x
    → chosen (drop i used) (drop i xs) ≡ x ∷ chosen (drop (i + 1) used) (drop (i + 1) xs)
chosen_used {A} used xs i x in_used in_xs is_used is_x =
    ap (λ (us : List Bool). chosen us (drop i xs)) (drop_more used i false in_used ∙ ap (λ u. u ∷ drop (i + 1) used) is_used)
    ∙ ap (λ (ys : List A). chosen (true ∷ drop (i + 1) used) ys) (drop_more xs i x in_xs ∙ ap (λ y. y ∷ drop (i + 1) xs) is_x)

chosen_unused : {A : Type 0} (used : List Bool) (xs : List A) (i : ℕ) (x : A) → i < length used → i < length xs → get_or used i false ≡ false
    → chosen (drop i used) (drop i xs) ≡ chosen (drop (i + 1) used) (drop (i + 1) xs)
chosen_unused {A} used xs i x in_used in_xs is_used =
    ap (λ (us : List Bool). chosen us (drop i xs)) (drop_more used i false in_used ∙ ap (λ u. u ∷ drop (i + 1) used) is_used)
    ∙ ap (λ (ys : List A). chosen (false ∷ drop (i + 1) used) ys) (drop_more xs i x in_xs)

-- the same where what is read stays
pub copied_more : {A : Type 0} (all kept items : List A) (used : List Bool) (xs : List A) (i : ℕ) (x : A) → i < length used → i < length xs → get_or used i false ≡ true
    → slice_get xs i ≡ Some x → items ≡ kept ++ x ∷ [] → kept ++ chosen (drop i used) (drop i xs) ≡ all
    → items ++ chosen (drop (i + 1) used) (drop (i + 1) xs) ≡ all
copied_more {A} all kept items used xs i x in_used in_xs is_used is_x pushed so_far =
    let rest : List A = chosen (drop (i + 1) used) (drop (i + 1) xs) in
    ap (λ (zs : List A). zs ++ rest) pushed ∙ append_assoc kept (x ∷ []) rest
    ∙ ap (λ (zs : List A). kept ++ zs) (sym (chosen_used used xs i x in_used in_xs is_used (got xs i x is_x))) ∙ so_far

pub kept_skip : {A : Type 0} (all kept : List A) (used : List Bool) (xs : List A) (i : ℕ) (x : A) → i < length used → i < length xs → get_or used i false ≡ false
    → kept ++ chosen (drop i used) (drop i xs) ≡ all → kept ++ chosen (drop (i + 1) used) (drop (i + 1) xs) ≡ all
kept_skip {A} all kept used xs i x in_used in_xs is_used so_far = ap (λ (zs : List A). kept ++ zs) (sym (chosen_unused used xs i x in_used in_xs is_used)) ∙ so_far

-- the empty columns so far, and then those of the fields that are left
pub empty_more : (all columns items : List Values) (fields : List Field) (i : ℕ) (f : Field) (column : Values) → i < length fields → slice_get fields i ≡ Some f
    → column ≡ record { kind = f.kind; values = [] } → items ≡ columns ++ column ∷ [] → columns ++ empty_columns (drop i fields) ≡ all
    → items ++ empty_columns (drop (i + 1) fields) ≡ all
empty_more all columns items fields i f column within is_f is_column pushed so_far =
    let rest : List Values = empty_columns (drop (i + 1) fields) in
    ap (λ (zs : List Values). zs ++ rest) pushed ∙ append_assoc columns (column ∷ []) rest
    ∙ ap (λ (c : Values). columns ++ c ∷ rest) is_column
    ∙ ap (λ (fs : List Field). columns ++ empty_columns fs) (sym (drop_more fields i f within ∙ ap (λ g. g ∷ drop (i + 1) fields) (got fields i f is_f))) ∙ so_far

pub empty_all : (all columns : List Values) (fields : List Field) (i : ℕ) → length fields ≤ i → columns ++ empty_columns (drop i fields) ≡ all → columns ≡ all
empty_all all columns fields i past so_far =
    sym (append-nil columns) ∙ ap (λ fs. columns ++ empty_columns fs) (sym (drop_all i fields past)) ∙ so_far

-- the chosen ones so far, where none are left
pub chosen_all : {A : Type 0} (all kept : List A) (used : List Bool) (xs : List A) (i : ℕ) → length used ≤ i → kept ++ chosen (drop i used) (drop i xs) ≡ all → kept ≡ all
chosen_all {A} all kept used xs i past so_far =
    sym (append-nil kept) ∙ ap (λ (us : List Bool). kept ++ chosen us (drop i xs)) (sym (drop_all i used past)) ∙ so_far

others_chosen : (name : List ℕ) (used : List Bool) (fields : List Field) → AllByRecursion (λ other. bytes_eq name other ≡ false) (names_of fields)
    → AllByRecursion (λ other. bytes_eq name other ≡ false) (names_of (chosen used fields))
others_chosen name [] fields apart = tt
others_chosen name (u ∷ used) [] apart = tt
others_chosen name (true ∷ used) (f ∷ fields) apart = (apart.0, others_chosen name used fields apart.1)
others_chosen name (false ∷ used) (f ∷ fields) apart = others_chosen name used fields apart.1

-- of distinct names those that are chosen are distinct
pub chosen_distinct : (used : List Bool) (fields : List Field) → AreDistinct (names_of fields) → AreDistinct (names_of (chosen used fields))
unfolding IsDistinct
chosen_distinct [] fields distinct = tt
chosen_distinct (u ∷ used) [] distinct = tt
chosen_distinct (true ∷ used) (f ∷ fields) distinct = (others_chosen f.name used fields distinct.0, chosen_distinct used fields distinct.1)
chosen_distinct (false ∷ used) (f ∷ fields) distinct = chosen_distinct used fields distinct.1
