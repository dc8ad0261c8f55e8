-- Names of a choice of columns, one after another, and the first that no column has.
use Rattle.std.proofs.Common.{◌≡◌, ℕ, ◌+◌, ◌<◌, ◌∙◌, sym, ap, Bool, true, false, List, ◌∷◌, length, drop, get_or}
use Rattle.std.specs.Prelude.{if◌then◌else◌, is_some, Option, Some, None}
use Rattle.std.proofs.lemmas.List.{drop_more}
use Rattle.morsel_meaning.specs.declared.value.Field.{Field}
use Rattle.morsel_meaning.specs.declared.fault.Fault.{Fault}
use Rattle.morsel_meaning.specs.declared.fault.Fault.TheVariants.{ColumnNotFound}
use Rattle.morsel_frame.specs.Refusals.{first_fault}
use Rattle.morsel_expr.specs.Predicates.{place_of}
use Rattle.morsel_expr.specs.Flaws.{absence}
use Rattle.morsel_scan.specs.ScanFlaws.{choice_absence}

absence-is : (fields : List Field) (name asked : List ℕ) (found : Option ℕ) (t : Bool) → found ≡ place_of fields asked → asked ≡ name → is_some found ≡ t
    → absence fields name ≡ (if t then None else Some (ColumnNotFound name))
absence-is fields name asked found t is_found is_name is =
    ap (λ (x : Bool). if x then None else Some (ColumnNotFound name)) (ap (λ (n : List ℕ). is_some (place_of fields n)) (sym is_name) ∙ ap (λ (p : Option ℕ). is_some p) (sym is_found) ∙ is)

absence-here : (fields : List Field) (names : List (List ℕ)) (i : ℕ) (name : List ℕ) → i < length names → name ≡ get_or names i name
    → choice_absence fields (drop i names) ≡ first_fault (absence fields name) (choice_absence fields (drop (i + 1) names))
absence-here fields names i name within is = ap (choice_absence fields) (drop_more names i name within ∙ ap (λ (n : List ℕ). n ∷ drop (i + 1) names) (sym is))

-- the name here is the first that no column has
pub absent_here : (fields : List Field) (names : List (List ℕ)) (i : ℕ) (name asked told : List ℕ) (found : Option ℕ) → i < length names → name ≡ get_or names i name
    → found ≡ place_of fields asked → asked ≡ name → is_some found ≡ false → told ≡ name → choice_absence fields (drop i names) ≡ choice_absence fields names
    → choice_absence fields names ≡ Some (ColumnNotFound told)
absent_here fields names i name asked told found within is is_found is_name none is_told so_far =
    sym so_far ∙ absence-here fields names i name within is
    ∙ ap (λ (due : Option Fault). first_fault due (choice_absence fields (drop (i + 1) names))) (absence-is fields name asked found false is_found is_name none)
    ∙ ap (λ (n : List ℕ). Some (ColumnNotFound n)) (sym is_told)

-- a column has the name here
pub present_here : (fields : List Field) (names : List (List ℕ)) (i : ℕ) (name asked : List ℕ) (found : Option ℕ) → i < length names → name ≡ get_or names i name
    → found ≡ place_of fields asked → asked ≡ name → is_some found ≡ true → choice_absence fields (drop i names) ≡ choice_absence fields names
    → choice_absence fields (drop (i + 1) names) ≡ choice_absence fields names
present_here fields names i name asked found within is is_found is_name some so_far =
    sym (ap (λ (due : Option Fault). first_fault due (choice_absence fields (drop (i + 1) names))) (absence-is fields name asked found true is_found is_name some))
    ∙ sym (absence-here fields names i name within is) ∙ so_far
