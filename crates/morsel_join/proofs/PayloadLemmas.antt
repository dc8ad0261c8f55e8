-- The names of columns, one after the other.
use Rattle.std.proofs.Common.{◌≡◌, ◌<◌, ◌+◌, ◌++◌, [], ◌∷◌, List, ℕ, length, drop, get_or, refl, arith, ap, ◌∙◌, sym, append_assoc, ◌||◌, if◌then◌else◌, Some, None}
use Rattle.std.specs.Prelude.{Option}
use Rattle.std.specs.List.{list_any}
use Rattle.std.specs.Str.{bytes_eq}
use Rattle.std.proofs.lemmas.List.{at_drop_more}
use Rattle.morsel_meaning.specs.declared.value.Field.{Field}
use Rattle.morsel_meaning.specs.Values.{names_of}
use Rattle.morsel_frame.specs.Names.{stands_in}
use Rattle.morsel_join.specs.declared.payload.JoinArgs.{JoinArgs}
use Rattle.morsel_join.specs.Payloads.{named_fields, first_clash, is_clash, suffixed}

pub any_name : (name : List ℕ) (fields : List Field) → list_any (λ f. bytes_eq f.name name) fields ≡ stands_in name (names_of fields)
any_name name [] = refl
any_name name (f ∷ fields) = ap (λ t. bytes_eq f.name name || t) (any_name name fields)

append-nil : {X : Type 0} (xs : List X) → xs ++ [] ≡ xs
append-nil [] = refl
append-nil (x ∷ xs) = ap (λ t. x ∷ t) (append-nil xs)

named-more : (put : List Field) (name : Option (List ℕ)) (f : Field) (names : List (Option (List ℕ))) (fields : List Field) → (put ++ named_fields (name ∷ []) (f ∷ [])) ++ named_fields names fields ≡ put ++ named_fields (name ∷ names) (f ∷ fields)
named-more put None f names fields = ap (λ xs. xs ++ named_fields names fields) (append-nil put)
named-more put (Some name) f names fields = append_assoc put (record { name = name; kind = f.kind } ∷ []) (named_fields names fields)

-- one column more is put
pub named-step : (put new : List Field) (names : List (Option (List ℕ))) (fields : List Field) (i : ℕ) (name : Option (List ℕ)) (f : Field) → new ≡ put ++ named_fields (name ∷ []) (f ∷ []) → i < length fields → length names ≡ length fields → name ≡ get_or names i name → f ≡ get_or fields i f
    → new ++ named_fields (drop (i + 1) names) (drop (i + 1) fields) ≡ put ++ named_fields (drop i names) (drop i fields)
named-step put new names fields i name f is l len there here =
    ap (λ xs. xs ++ named_fields (drop (i + 1) names) (drop (i + 1) fields)) is
    ∙ named-more put name f (drop (i + 1) names) (drop (i + 1) fields)
    ∙ ap (λ (o : Option (List ℕ)). put ++ named_fields (o ∷ drop (i + 1) names) (f ∷ drop (i + 1) fields)) there
    ∙ ap (λ (g : Field). put ++ named_fields (get_or names i name ∷ drop (i + 1) names) (g ∷ drop (i + 1) fields)) here
    ∙ sym (at_drop_more (λ fs. put ++ named_fields (get_or names i name ∷ drop (i + 1) names) fs) fields i f l)
    ∙ sym (at_drop_more (λ ns. put ++ named_fields ns (drop i fields)) names i name (omega (arith, l, len)))

-- the first clash is at one column, or at one of those that follow
pub clash-step : (args : JoinArgs) (keys lefts : List (List ℕ)) (fields : List Field) (i : ℕ) (f : Field) → i < length fields → f ≡ get_or fields i f
    → first_clash args keys lefts (drop i fields) ≡ (if is_clash args keys lefts f.name then Some (suffixed args.suffix lefts f.name) else first_clash args keys lefts (drop (i + 1) fields))
clash-step args keys lefts fields i f l here =
    at_drop_more (first_clash args keys lefts) fields i f l
    ∙ ap (λ (g : Field). first_clash args keys lefts (g ∷ drop (i + 1) fields)) (sym here)
