-- Names of a list, one after the other: which of them is the first that occurs before it, and which the first that no column has.
use Rattle.std.proofs.Common.{◌≡◌, inl, inr, ℕ, suc, ◌+◌, ◌<◌, ◌≤◌, Bool, true, false, not, ◌||◌, nat_lt, cond, if◌then◌else◌, List, [], ◌∷◌, Option, Some, None, is_some, refl, ap, sym, ◌∙◌, length, drop, get_or, arith}
use Rattle.std.specs.Prelude.{◌⊎◌}
use Rattle.std.specs.List.{position_or_len}
use Rattle.std.specs.Str.{bytes_eq}
use Rattle.std.proofs.lemmas.Bool.{cases_lt, lt-ltb, le-ltb}
use Rattle.std.proofs.lemmas.List.{at_drop_more}
use Rattle.morsel_meaning.specs.declared.value.Field.{Field}
use Rattle.morsel_meaning.specs.declared.fault.Fault.{Fault}
use Rattle.morsel_meaning.specs.declared.fault.Fault.TheVariants as faults
use Rattle.morsel_frame.specs.Names.{stands_in, first_known}
use Rattle.morsel_frame.specs.Refusals.{first_fault}
use Rattle.morsel_meaning.specs.Values.{names_of}
use Rattle.morsel_expr.specs.Predicates.{place_of}
use Rattle.morsel_expr.specs.Flaws.{absence}
use Rattle.morsel_scan.specs.ScanFlaws.{choice_absence}

-- the first that occurs before it is this one, or one of those that follow
pub known-step : (before names : List (List ℕ)) (i : ℕ) (name text : List ℕ) → text ≡ name → i < length names → name ≡ get_or names i name
    → first_known before (drop i names) ≡ (if stands_in text before then Some text else first_known (text ∷ before) (drop (i + 1) names))
known-step before names i name text same within read =
    at_drop_more (first_known before) names i name within
    ∙ ap (λ (n : List ℕ). first_known before (n ∷ drop (i + 1) names)) (sym read)
    ∙ ap (λ (n : List ℕ). first_known before (n ∷ drop (i + 1) names)) (sym same)

-- where a name was not before, it is one of those that follow
pub known-later : (before names : List (List ℕ)) (i : ℕ) (name text : List ℕ) → text ≡ name → i < length names → name ≡ get_or names i name → stands_in text before ≡ false
    → first_known before (drop i names) ≡ first_known (text ∷ before) (drop (i + 1) names)
known-later before names i name text same within read absent =
    known-step before names i name text same within read ∙ ap (λ (b : Bool). if b then Some text else first_known (text ∷ before) (drop (i + 1) names)) absent

-- where it was, it is this one
pub known-here : (before names : List (List ℕ)) (i : ℕ) (name text : List ℕ) → text ≡ name → i < length names → name ≡ get_or names i name → stands_in text before ≡ true
    → first_known before (drop i names) ≡ Some text
known-here before names i name text same within read there =
    known-step before names i name text same within read ∙ ap (λ (b : Bool). if b then Some text else first_known (text ∷ before) (drop (i + 1) names)) there

-- the first name that no column has is this one, or one of those that follow
pub absence-step : (fields : List Field) (names : List (List ℕ)) (i : ℕ) (name : List ℕ) → i < length names → name ≡ get_or names i name
    → choice_absence fields (drop i names) ≡ choice_absence fields (name ∷ drop (i + 1) names)
absence-step fields names i name within read =
    at_drop_more (choice_absence fields) names i name within
    ∙ ap (λ (n : List ℕ). choice_absence fields (n ∷ drop (i + 1) names)) (sym read)

place_told : (t : Bool) (at : ℕ) → is_some (cond t (Some at) None) ≡ t
place_told true at = refl
place_told false at = refl

lt_next : (k n : ℕ) → nat_lt (suc k) (suc n) ≡ nat_lt k n
lt_next k n = by (cases_lt k n)
  where
    by : (k < n) ⊎ (n ≤ k) → nat_lt (suc k) (suc n) ≡ nat_lt k n
    by (inl lt) = lt-ltb (suc k) (suc n) (omega arith) ∙ sym (lt-ltb k n lt)
    by (inr le) = le-ltb (suc k) (suc n) (omega arith) ∙ sym (le-ltb k n le)

found_first : (field : Field) (fields : List Field) (name : List ℕ) (t : Bool) → bytes_eq field.name name ≡ t
    → is_some (place_of (field ∷ fields) name) ≡ (t || is_some (place_of fields name))
found_first field fields name true is =
    let k : ℕ = position_or_len (λ (f : Field). bytes_eq f.name name) fields in
    let n : ℕ = length fields in
    ap (λ t. is_some (cond (nat_lt (cond (not t) (1 + k) 0) (suc n)) (Some (cond (not t) (1 + k) 0)) None)) is
    ∙ place_told (nat_lt 0 (suc n)) 0
    ∙ lt-ltb 0 (suc n) (omega arith)
found_first field fields name false is =
    let k : ℕ = position_or_len (λ (f : Field). bytes_eq f.name name) fields in
    let n : ℕ = length fields in
    let one : 1 + k ≡ suc k = omega arith in
    ap (λ t. is_some (cond (nat_lt (cond (not t) (1 + k) 0) (suc n)) (Some (cond (not t) (1 + k) 0)) None)) is
    ∙ place_told (nat_lt (1 + k) (suc n)) (1 + k)
    ∙ ap (λ j. nat_lt j (suc n)) one
    ∙ lt_next k n
    ∙ sym (place_told (nat_lt k n) k)

-- a column has a name where it is one of the columns' names
pub found-is : (fields : List Field) (name : List ℕ) → is_some (place_of fields name) ≡ stands_in name (names_of fields)
found-is [] name = refl
found-is (field ∷ fields) name = found_first field fields name (bytes_eq field.name name) refl ∙ ap (λ t. bytes_eq field.name name || t) (found-is fields name)

absence-is : (fields : List Field) (name : List ℕ) (t : Bool) → stands_in name (names_of fields) ≡ t → absence fields name ≡ (if t then None else Some (faults.ColumnNotFound name))
absence-is fields name t is = ap (λ (b : Bool). if b then None else Some (faults.ColumnNotFound name)) (found-is fields name ∙ is)

-- the first name that no column has is this one
pub absence-here : (fields : List Field) (names : List (List ℕ)) (i : ℕ) (name text : List ℕ) → text ≡ name → i < length names → name ≡ get_or names i name → stands_in text (names_of fields) ≡ false
    → choice_absence fields (drop i names) ≡ Some (faults.ColumnNotFound text)
absence-here fields names i name text same within read gone =
    absence-step fields names i name within read
    ∙ ap (λ (n : List ℕ). choice_absence fields (n ∷ drop (i + 1) names)) (sym same)
    ∙ ap (λ (due : Option Fault). first_fault due (choice_absence fields (drop (i + 1) names))) (absence-is fields text false gone)

-- or it is one of those that follow
pub absence-past : (fields : List Field) (names : List (List ℕ)) (i : ℕ) (name text : List ℕ) → text ≡ name → i < length names → name ≡ get_or names i name → stands_in text (names_of fields) ≡ true
    → choice_absence fields (drop i names) ≡ choice_absence fields (drop (i + 1) names)
absence-past fields names i name text same within read there =
    absence-step fields names i name within read
    ∙ ap (λ (n : List ℕ). choice_absence fields (n ∷ drop (i + 1) names)) (sym same)
    ∙ ap (λ (due : Option Fault). first_fault due (choice_absence fields (drop (i + 1) names))) (absence-is fields text true there)
