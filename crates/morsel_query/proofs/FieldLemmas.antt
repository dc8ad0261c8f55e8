-- Fields that differ in name, of which a choice of columns keeps some, which differ too.
use Rattle.std.proofs.Common.{◌≡◌, ℕ, Bool, true, false, ◌||◌, if◌then◌else◌, List, [], ◌∷◌, ◌++◌, Option, Some, None, refl, ap, sym, subst, ◌∙◌, append-nil}
use Rattle.std.specs.Str.{bytes_eq}
use Rattle.morsel_meaning.specs.declared.value.Field.{Field}
use Rattle.morsel_meaning.specs.Values.{names_of}
use Rattle.morsel_frame.specs.Names.{AreDistinct, stands_in, first_known, first_repeated}
use Rattle.morsel_frame.proofs.SeenNames.{distinct-from_known}
use Rattle.morsel_scan.specs.ScanColumns.{is_kept}
use Rattle.morsel_query.specs.Queries.{kept_fields}

-- each of these names is one of those
abbrev pub AreIn : List (List ℕ) → List (List ℕ) → Type 0
AreIn some all = (name : List ℕ) → stands_in name all ≡ false → stands_in name some ≡ false

neither : (a b : Bool) → (a || b) ≡ false → (a ≡ false) × (b ≡ false)
neither true b none = cc
neither false b none = (refl, none)

nor : (a b : Bool) → a ≡ false → b ≡ false → (a || b) ≡ false
nor a b first second = rw (first, second) refl

in-more : (some all : List (List ℕ)) (n : List ℕ) → AreIn some all → AreIn (n ∷ some) (n ∷ all)
in-more some all n are = λ name none.
    let apart = neither (bytes_eq n name) (stands_in name all) none in
    nor (bytes_eq n name) (stands_in name some) apart.0 (are name apart.1)

in-past : (some all : List (List ℕ)) (n : List ℕ) → AreIn some all → AreIn some (n ∷ all)
in-past some all n are = λ name none. are name (neither (bytes_eq n name) (stands_in name all) none).1

unknown : (found : Bool) (name : List ℕ) (later : Option (List ℕ)) → (if found then Some name else later) ≡ None → (found ≡ false) × (later ≡ None)
unknown true name later none = cc
unknown false name later none = (refl, none)

-- whatever came before, of these names none is known where of those none is
abbrev pub KeepsUnknown : List Field → List Field → Type 0
KeepsUnknown some all = (before before_all : List (List ℕ)) → AreIn before before_all → first_known before_all (names_of all) ≡ None → first_known before (names_of some) ≡ None

unknown-nothing : KeepsUnknown [] []
unknown-nothing before before_all are none = refl

unknown-next : (field : Field) (some all : List Field) → KeepsUnknown some all → KeepsUnknown (field ∷ some) (field ∷ all)
unknown-next field some all keeps before before_all are none =
    let split = unknown (stands_in field.name before_all) field.name (first_known (field.name ∷ before_all) (names_of all)) none in
    let later = keeps (field.name ∷ before) (field.name ∷ before_all) (in-more before before_all field.name are) split.1 in
    ap (λ (b : Bool). if b then Some field.name else first_known (field.name ∷ before) (names_of some)) (are field.name split.0) ∙ later

unknown-past : (field : Field) (some all : List Field) → KeepsUnknown some all → KeepsUnknown some (field ∷ all)
unknown-past field some all keeps before before_all are none =
    let split = unknown (stands_in field.name before_all) field.name (first_known (field.name ∷ before_all) (names_of all)) none in
    keeps before (field.name ∷ before_all) (in-past before before_all field.name are) split.1

unknown-front : (front some all : List Field) → KeepsUnknown some all → KeepsUnknown (front ++ some) (front ++ all)
unknown-front [] some all keeps = keeps
unknown-front (field ∷ front) some all keeps = unknown-next field (front ++ some) (front ++ all) (unknown-front front some all keeps)

unknown-choice : (kept : Bool) (columns : List (List ℕ)) (field : Field) (fields back : List Field) → is_kept columns field.name ≡ kept
    → KeepsUnknown (kept_fields columns fields ++ back) (fields ++ back) → KeepsUnknown (kept_fields columns (field ∷ fields) ++ back) ((field ∷ fields) ++ back)
unknown-choice true columns field fields back is keeps =
    let next : kept_fields columns (field ∷ fields) ≡ field ∷ kept_fields columns fields = rw is refl in
    subst (λ (fs : List Field). KeepsUnknown (fs ++ back) ((field ∷ fields) ++ back)) (sym next) (unknown-next field (kept_fields columns fields ++ back) (fields ++ back) keeps)
unknown-choice false columns field fields back is keeps =
    let next : kept_fields columns (field ∷ fields) ≡ kept_fields columns fields = rw is refl in
    subst (λ (fs : List Field). KeepsUnknown (fs ++ back) ((field ∷ fields) ++ back)) (sym next) (unknown-past field (kept_fields columns fields ++ back) (fields ++ back) keeps)

unknown-kept : (columns : List (List ℕ)) (fields back : List Field) → KeepsUnknown (kept_fields columns fields ++ back) (fields ++ back)
unknown-kept columns [] back = subst (λ (fs : List Field). KeepsUnknown fs fs) (append-nil back) (unknown-front back [] [] unknown-nothing)
unknown-kept columns (field ∷ fields) back = unknown-choice (is_kept columns field.name) columns field fields back refl (unknown-kept columns fields back)

-- where fields differ in name, those of them that are kept do so, among others
pub kept-distinct : (columns : List (List ℕ)) (front fields back : List Field) → first_repeated (names_of (front ++ (fields ++ back))) ≡ None → AreDistinct (names_of (front ++ (kept_fields columns fields ++ back)))
kept-distinct columns front fields back distinct =
    distinct-from_known [] (names_of (front ++ (kept_fields columns fields ++ back)))
    (unknown-front front (kept_fields columns fields ++ back) (fields ++ back) (unknown-kept columns fields back) [] [] (λ name none. none) distinct)
