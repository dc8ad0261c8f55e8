-- The columns of a join's rows are columns of its sides, of the types that they are told to have.
use Rattle.std.proofs.Common.{◌≡◌, ◌<◌, ◌≤◌, ◌+◌, ◌++◌, ◌&&◌, [], ◌∷◌, List, ℕ, suc, length, drop, get_or, map, nat_eq, refl, arith, ap, ◌∙◌, sym, append_assoc, Bool, true, false, if◌then◌else◌, Some, None}
use Rattle.std.specs.Prelude.{Option}
use Rattle.std.specs.List.{All}
use Rattle.std.proofs.lemmas.List.{at_drop_more, map-append, length-map}
use Rattle.std.proofs.Math.ListN.{get_or-map}
use Rattle.morsel_meaning.specs.declared.value.ColType.{ColType}
use Rattle.morsel_meaning.specs.declared.value.ColType.TheVariants as types
use Rattle.morsel_meaning.specs.declared.value.Field.{Field}
use Rattle.morsel_meaning.specs.Values.{kinds_of, names_of}
use Rattle.morsel_frame.specs.Tables.{fields_at}
use Rattle.morsel_frame.proofs.SelectLemmas.{field-at}
use Rattle.morsel_join.specs.declared.payload.JoinArgs.{JoinArgs}
use Rattle.morsel_join.specs.declared.rules.JoinColumn.{JoinColumn}
use Rattle.morsel_join.specs.declared.rules.JoinColumn.TheVariants as columns
use Rattle.morsel_join.specs.Payloads.{FitKeys, named_fields, left_names, right_names, merged_keys, merges_keys, pairs_of_places, join_fields}
use Rattle.morsel_join.specs.Rows.{FitsColumn, FitColumns, column_kind, kind_at, left_column, left_columns, right_columns}

-- pairs of columns of both sides, of the same types
abbrev AreMerged : List Field → List Field → List (ℕ × ℕ) → Type 0
AreMerged left right [] = Unit {0}
AreMerged left right (pair ∷ pairs) = ((pair.0 < length left) × (pair.1 < length right) × (kind_at right pair.1 ≡ kind_at left pair.0)) × AreMerged left right pairs

kind-first : (fields : List Field) (at : ℕ) (places : List ℕ) → at < length fields → kinds_of (fields_at fields (at ∷ places)) ≡ kind_at fields at ∷ kinds_of (fields_at fields places)
kind-first fields at places less =
    let blank : Field = record { name = []; kind = types.Int } in
    ap (λ (fs : List Field). kinds_of (fs ++ fields_at fields places)) (field-at fields at blank less)
    ∙ ap (λ (k : ColType). k ∷ kinds_of (fields_at fields places)) (sym (get_or-map (λ (f : Field). f.kind) fields at blank))

pairs-merged : (left right : List Field) (lefts rights : List ℕ) (ks : List ColType) → All (λ at. at < length left) lefts → All (λ at. at < length right) rights → kinds_of (fields_at left lefts) ≡ ks → kinds_of (fields_at right rights) ≡ ks → AreMerged left right (pairs_of_places lefts rights)
pairs-merged left right [] rights ks one two a b = tt
pairs-merged left right (l ∷ lefts) [] ks one two a b = tt
pairs-merged left right (l ∷ lefts) (r ∷ rights) ks one two a b =
    let here : l < length left = one 0 0 (omega arith) in
    let there : r < length right = two 0 0 (omega arith) in
    let both : kind_at right r ∷ kinds_of (fields_at right rights) ≡ kind_at left l ∷ kinds_of (fields_at left lefts) = sym (kind-first right r rights there) ∙ b ∙ sym a ∙ kind-first left l lefts here in
    ((here, there, cc), pairs-merged left right lefts rights (kinds_of (fields_at left lefts)) (λ k d less. one (suc k) d (omega (arith, less))) (λ k d less. two (suc k) d (omega (arith, less))) refl (cc))

keys-merged : (args : JoinArgs) (left right : List Field) (lefts rights : List ℕ) (ks : List ColType) → FitKeys left right lefts rights ks → AreMerged left right (merged_keys args lefts rights)
keys-merged args left right lefts rights ks fit = by (args.coalesce && merges_keys args.how)
  where
    by : (t : Bool) → AreMerged left right (if t then pairs_of_places lefts rights else [])
    by true = pairs-merged left right lefts rights ks fit.left_within fit.right_within fit.left_types fit.right_types
    by false = tt

left-one : (left right : List Field) (merged : List (ℕ × ℕ)) (at : ℕ) → AreMerged left right merged → at < length left → FitsColumn left right (left_column merged at)
left-one left right [] at are less = less
left-one left right (pair ∷ merged) at are less = left-by (nat_eq pair.0 at) refl (left-one left right merged at are.1 less)
  where
    left-by : (t : Bool) → nat_eq pair.0 at ≡ t → FitsColumn left right (left_column merged at) → FitsColumn left right (if t then columns.Either at pair.1 else left_column merged at)
    left-by true q rest = let same : pair.0 ≡ at = grind (arith, q) in (less, are.0.1, are.0.2 ∙ ap (kind_at left) same)
    left-by false q rest = rest

left-fit : (left right : List Field) (merged : List (ℕ × ℕ)) (at : ℕ) (names : List (Option (List ℕ))) → AreMerged left right merged → at + length names ≤ length left → FitColumns left right (left_columns merged at names)
left-fit left right merged at [] are less = tt
left-fit left right merged at (None ∷ names) are less = left-fit left right merged (suc at) names are (omega (arith, less))
left-fit left right merged at (Some name ∷ names) are less = (left-one left right merged at are (omega (arith, less)), left-fit left right merged (suc at) names are (omega (arith, less)))

right-fit : (left right : List Field) (at : ℕ) (names : List (Option (List ℕ))) → at + length names ≤ length right → FitColumns left right (right_columns at names)
right-fit left right at [] less = tt
right-fit left right at (None ∷ names) less = right-fit left right (suc at) names (omega (arith, less))
right-fit left right at (Some name ∷ names) less = (omega (arith, less), right-fit left right (suc at) names (omega (arith, less)))

fit-append : (left right : List Field) (cs ds : List JoinColumn) → FitColumns left right cs → FitColumns left right ds → FitColumns left right (cs ++ ds)
fit-append left right [] ds a b = b
fit-append left right (c ∷ cs) ds a b = (a.0, fit-append left right cs ds a.1 b)

-- the columns are those of their sides
pub columns-fit : (args : JoinArgs) (left right : List Field) (lks rks : List (List ℕ)) (lefts rights : List ℕ) (ks : List ColType) → FitKeys left right lefts rights ks
    → FitColumns left right (left_columns (merged_keys args lefts rights) 0 (left_names args lks left) ++ right_columns 0 (right_names args rks (names_of left) right))
columns-fit args left right lks rks lefts rights ks fit =
    let a : length (left_names args lks left) ≡ length left = length-map left _ in
    let b : length (right_names args rks (names_of left) right) ≡ length right = length-map right _ in
    fit-append left right (left_columns (merged_keys args lefts rights) 0 (left_names args lks left)) (right_columns 0 (right_names args rks (names_of left) right))
    (left-fit left right (merged_keys args lefts rights) 0 (left_names args lks left) (keys-merged args left right lefts rights ks fit) (omega (arith, a)))
    (right-fit left right 0 (right_names args rks (names_of left) right) (omega (arith, b)))

left-kind : (left right : List Field) (merged : List (ℕ × ℕ)) (at : ℕ) → column_kind left right (left_column merged at) ≡ kind_at left at
left-kind left right [] at = refl
left-kind left right (pair ∷ merged) at = kind-by (nat_eq pair.0 at) (left-kind left right merged at)
  where
    kind-by : (t : Bool) → column_kind left right (left_column merged at) ≡ kind_at left at → column_kind left right (if t then columns.Either at pair.1 else left_column merged at) ≡ kind_at left at
    kind-by true rest = refl
    kind-by false rest = rest

left-kinds : (left right : List Field) (merged : List (ℕ × ℕ)) (at : ℕ) (names : List (Option (List ℕ))) (fields : List Field) → length names ≡ length fields → ((k : ℕ) → kind_at left (at + k) ≡ kind_at fields k)
    → kinds_of (named_fields names fields) ≡ map (column_kind left right) (left_columns merged at names)
left-kinds left right merged at [] [] len h = refl
left-kinds left right merged at [] (f ∷ fields) len h = absurd (omega (arith, len))
left-kinds left right merged at (name ∷ names) [] len h = absurd (omega (arith, len))
left-kinds left right merged at (None ∷ names) (f ∷ fields) len h = left-kinds left right merged (suc at) names fields (omega (arith, len)) (λ k. let e : suc at + k ≡ at + suc k = omega arith in ap (kind_at left) e ∙ h (suc k))
left-kinds left right merged at (Some name ∷ names) (f ∷ fields) len h =
    let rest = left-kinds left right merged (suc at) names fields (omega (arith, len)) (λ k. let e : suc at + k ≡ at + suc k = omega arith in ap (kind_at left) e ∙ h (suc k)) in
    let e : at ≡ at + 0 = omega arith in
    let here : f.kind ≡ column_kind left right (left_column merged at) = sym (left-kind left right merged at ∙ ap (kind_at left) e ∙ h 0) in
    ap (λ (k : ColType). k ∷ kinds_of (named_fields names fields)) here ∙ ap (λ (ks : List ColType). column_kind left right (left_column merged at) ∷ ks) rest

right-kinds : (left right : List Field) (at : ℕ) (names : List (Option (List ℕ))) (fields : List Field) → length names ≡ length fields → ((k : ℕ) → kind_at right (at + k) ≡ kind_at fields k)
    → kinds_of (named_fields names fields) ≡ map (column_kind left right) (right_columns at names)
right-kinds left right at [] [] len h = refl
right-kinds left right at [] (f ∷ fields) len h = absurd (omega (arith, len))
right-kinds left right at (name ∷ names) [] len h = absurd (omega (arith, len))
right-kinds left right at (None ∷ names) (f ∷ fields) len h = right-kinds left right (suc at) names fields (omega (arith, len)) (λ k. let e : suc at + k ≡ at + suc k = omega arith in ap (kind_at right) e ∙ h (suc k))
right-kinds left right at (Some name ∷ names) (f ∷ fields) len h =
    let rest = right-kinds left right (suc at) names fields (omega (arith, len)) (λ k. let e : suc at + k ≡ at + suc k = omega arith in ap (kind_at right) e ∙ h (suc k)) in
    let e : at ≡ at + 0 = omega arith in
    let here : f.kind ≡ kind_at right at = sym (ap (kind_at right) e ∙ h 0) in
    ap (λ (k : ColType). k ∷ kinds_of (named_fields names fields)) here ∙ ap (λ (ks : List ColType). kind_at right at ∷ ks) rest

from-start : (fields : List Field) (k : ℕ) → kind_at fields (0 + k) ≡ kind_at fields k
from-start fields k = let e : 0 + k ≡ k = omega arith in ap (kind_at fields) e

-- the columns have the types that they are told to have
pub columns-typed : (args : JoinArgs) (left right : List Field) (lks rks : List (List ℕ)) (merged : List (ℕ × ℕ))
    → kinds_of (join_fields args left right lks rks) ≡ map (column_kind left right) (left_columns merged 0 (left_names args lks left) ++ right_columns 0 (right_names args rks (names_of left) right))
columns-typed args left right lks rks merged =
    let ln = left_names args lks left in
    let rn = right_names args rks (names_of left) right in
    let a : length (left_names args lks left) ≡ length left = length-map left _ in
    let b : length (right_names args rks (names_of left) right) ≡ length right = length-map right _ in
    map-append (λ (f : Field). f.kind) (named_fields ln left) (named_fields rn right)
    ∙ ap (λ (ks : List ColType). ks ++ kinds_of (named_fields rn right)) (left-kinds left right merged 0 ln left a (from-start left))
    ∙ ap (λ (ks : List ColType). map (column_kind left right) (left_columns merged 0 ln) ++ ks) (right-kinds left right 0 rn right b (from-start right))
    ∙ sym (map-append (column_kind left right) (left_columns merged 0 ln) (right_columns 0 rn))

append-nil : {X : Type 0} (xs : List X) → xs ++ [] ≡ xs
append-nil [] = refl
append-nil (x ∷ xs) = ap (λ t. x ∷ t) (append-nil xs)

left-more : (put : List JoinColumn) (merged : List (ℕ × ℕ)) (at : ℕ) (name : Option (List ℕ)) (names : List (Option (List ℕ))) → (put ++ left_columns merged at (name ∷ [])) ++ left_columns merged (suc at) names ≡ put ++ left_columns merged at (name ∷ names)
left-more put merged at None names = ap (λ xs. xs ++ left_columns merged (suc at) names) (append-nil put)
left-more put merged at (Some name) names = append_assoc put (left_column merged at ∷ []) (left_columns merged (suc at) names)

-- one left column more is put
pub left-step : (put new : List JoinColumn) (merged : List (ℕ × ℕ)) (names : List (Option (List ℕ))) (i : ℕ) (name : Option (List ℕ)) → new ≡ put ++ left_columns merged i (name ∷ []) → i < length names → name ≡ get_or names i name
    → new ++ left_columns merged (i + 1) (drop (i + 1) names) ≡ put ++ left_columns merged i (drop i names)
left-step put new merged names i name is less here =
    let e : i + 1 ≡ suc i = omega arith in
    ap (λ xs. xs ++ left_columns merged (i + 1) (drop (i + 1) names)) is
    ∙ ap (λ n. (put ++ left_columns merged i (name ∷ [])) ++ left_columns merged n (drop (i + 1) names)) e
    ∙ left-more put merged i name (drop (i + 1) names)
    ∙ ap (λ (o : Option (List ℕ)). put ++ left_columns merged i (o ∷ drop (i + 1) names)) here
    ∙ sym (at_drop_more (λ ns. put ++ left_columns merged i ns) names i name less)

right-more : (put : List JoinColumn) (at : ℕ) (name : Option (List ℕ)) (names : List (Option (List ℕ))) → (put ++ right_columns at (name ∷ [])) ++ right_columns (suc at) names ≡ put ++ right_columns at (name ∷ names)
right-more put at None names = ap (λ xs. xs ++ right_columns (suc at) names) (append-nil put)
right-more put at (Some name) names = append_assoc put (columns.Right at ∷ []) (right_columns (suc at) names)

-- one right column more is put
pub right-step : (put new : List JoinColumn) (names : List (Option (List ℕ))) (i : ℕ) (name : Option (List ℕ)) → new ≡ put ++ right_columns i (name ∷ []) → i < length names → name ≡ get_or names i name
    → new ++ right_columns (i + 1) (drop (i + 1) names) ≡ put ++ right_columns i (drop i names)
right-step put new names i name is less here =
    let e : i + 1 ≡ suc i = omega arith in
    ap (λ xs. xs ++ right_columns (i + 1) (drop (i + 1) names)) is
    ∙ ap (λ n. (put ++ right_columns i (name ∷ [])) ++ right_columns n (drop (i + 1) names)) e
    ∙ right-more put i name (drop (i + 1) names)
    ∙ ap (λ (o : Option (List ℕ)). put ++ right_columns i (o ∷ drop (i + 1) names)) here
    ∙ sym (at_drop_more (λ ns. put ++ right_columns i ns) names i name less)

-- the column with which one becomes one is told by one of those pairs from a place on
pub merged-step : (merged : List (ℕ × ℕ)) (at i : ℕ) (pair : ℕ × ℕ) → i < length merged → pair ≡ get_or merged i pair → left_column (drop i merged) at ≡ (if nat_eq pair.0 at then columns.Either at pair.1 else left_column (drop (i + 1) merged) at)
merged-step merged at i pair less here =
    at_drop_more (λ ps. left_column ps at) merged i pair less
    ∙ ap (λ (p : ℕ × ℕ). left_column (p ∷ drop (i + 1) merged) at) (sym here)
