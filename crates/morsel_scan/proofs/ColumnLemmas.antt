-- What a predicate says of a row without its unused columns, and what is kept of such a row.
use Rattle.std.proofs.Common.{◌≡◌, ℕ, suc, ◌+◌, ◌<◌, ◌≤◌, ap, sym, refl, ◌∙◌, inl, inr, arith}
use Rattle.std.specs.Prelude.{◌⊎◌, Bool, true, false, not, ◌||◌, nat_lt, cond, if◌then◌else◌, Option, Some, None, List, [], ◌∷◌, ◌++◌, length, map}
use Rattle.std.specs.List.{position_or_len}
use Rattle.std.specs.Str.{bytes_eq}
use Rattle.std.proofs.lemmas.Bool.{cases_lt, lt-ltb, le-ltb}
use Rattle.std.proofs.lemmas.List.Folds.{list_any-append}
use Rattle.std.proofs.lemmas.Slice.Eq.{bytes_eq-Decides}
use Rattle.morsel_meaning.specs.declared.value.Value.{Value}
use Rattle.morsel_meaning.specs.declared.value.Field.{Field}
use Rattle.morsel_meaning.specs.Values.{Row}
use Rattle.morsel_frame.specs.Names.{stands_in}
use Rattle.morsel_grammar.specs.Cells.{CsvCell, Good, Bad}
use Rattle.morsel_grammar.specs.Reading.{chosen, used_values}
use Rattle.morsel_expr.specs.declared.node.Rhs.{Rhs}
use Rattle.morsel_expr.specs.declared.node.Rhs.TheVariants as sides
use Rattle.morsel_expr.specs.declared.node.PredNode.{PredNode}
use Rattle.morsel_expr.specs.declared.node.PredNode.TheVariants as nodes
use Rattle.morsel_expr.specs.Truths.{least, greatest, mirror, certain}
use Rattle.morsel_expr.specs.Predicates.{is_null, compared, asserted, value_at_place, value_under, side, truth}
use Rattle.morsel_scan.specs.ScanColumns.{names_in, names_in_side}
use Rattle.morsel_scan.specs.ScanRows.{good_value}

value_past : (v : Value) (row : Row) (k n : ℕ) → value_at_place (cond (nat_lt (suc k) (suc n)) (Some (suc k)) None) (v ∷ row) ≡ value_at_place (cond (nat_lt k n) (Some k) None) row
value_past v row k n = by (cases_lt k n)
  where
    by : (k < n) ⊎ (n ≤ k) → value_at_place (cond (nat_lt (suc k) (suc n)) (Some (suc k)) None) (v ∷ row) ≡ value_at_place (cond (nat_lt k n) (Some k) None) row
    by (inl lt) =
        ap (λ t. value_at_place (cond t (Some (suc k)) None) (v ∷ row)) (lt-ltb (suc k) (suc n) (omega arith))
        ∙ sym (ap (λ t. value_at_place (cond t (Some k) None) row) (lt-ltb k n lt))
    by (inr le) =
        ap (λ t. value_at_place (cond t (Some (suc k)) None) (v ∷ row)) (le-ltb (suc k) (suc n) (omega arith))
        ∙ sym (ap (λ t. value_at_place (cond t (Some k) None) row) (le-ltb k n le))

-- the value under a name is the first one, or one after it
value_first : (field : Field) (fields : List Field) (name : List ℕ) (v : Value) (row : Row) (t : Bool) → bytes_eq field.name name ≡ t
    → value_under (field ∷ fields) name (v ∷ row) ≡ (if t then v else value_under fields name row)
value_first field fields name v row true is =
    let k : ℕ = position_or_len (λ (f : Field). bytes_eq f.name name) fields in
    let n : ℕ = length fields in
    ap (λ t. value_at_place (cond (nat_lt (cond (not t) (1 + k) 0) (suc n)) (Some (cond (not t) (1 + k) 0)) None) (v ∷ row)) is
    ∙ ap (λ t. value_at_place (cond t (Some 0) None) (v ∷ row)) (lt-ltb 0 (suc n) (omega arith))
value_first field fields name v row false is =
    let k : ℕ = position_or_len (λ (f : Field). bytes_eq f.name name) fields in
    let n : ℕ = length fields in
    let one : 1 + k ≡ suc k = omega arith in
    ap (λ t. value_at_place (cond (nat_lt (cond (not t) (1 + k) 0) (suc n)) (Some (cond (not t) (1 + k) 0)) None) (v ∷ row)) is
    ∙ ap (λ j. value_at_place (cond (nat_lt j (suc n)) (Some j) None) (v ∷ row)) one
    ∙ value_past v row k n

pub value_under-first : (field : Field) (fields : List Field) (name : List ℕ) (v : Value) (row : Row)
    → value_under (field ∷ fields) name (v ∷ row) ≡ (if bytes_eq field.name name then v else value_under fields name row)
value_under-first field fields name v row = value_first field fields name v row (bytes_eq field.name name) refl

-- of the columns of a name, each is used
abbrev pub AreNamedUsed : List Bool → List Field → List ℕ → Type 0
AreNamedUsed [] [] name = Unit {0}
AreNamedUsed [] (field ∷ fields) name = ⊥
AreNamedUsed (u ∷ used) [] name = ⊥
AreNamedUsed (u ∷ used) (field ∷ fields) name = (bytes_eq field.name name ≡ true → u ≡ true) × AreNamedUsed used fields name

-- the value of a first used cell, and the others
pub used_first : (used : List Bool) (x : Value) (cells : List CsvCell) (row : Row) → used_values (true ∷ used) (Good x ∷ cells) ≡ Some row
    → (later : Row) × (used_values used cells ≡ Some later) × (row ≡ x ∷ later)
used_first used x cells row is = by (used_values used cells) refl
  where
    by : (found : Option Row) → used_values used cells ≡ found → (later : Row) × (used_values used cells ≡ Some later) × (row ≡ x ∷ later)
    by None none = absurd (let bad : used_values (true ∷ used) (Good x ∷ cells) ≡ None = rw none in cc)
    by (Some later) some = let good : used_values (true ∷ used) (Good x ∷ cells) ≡ Some (x ∷ later) = rw some in (later, some, cc)

not_named : (t : Bool) → (t ≡ true → false ≡ true) → t ≡ false
not_named true none = absurd (let bad = none refl in cc)
not_named false none = refl

-- the value under a name whose columns are used is that of the whole row
pub value_under-used : (used : List Bool) (fields : List Field) (cells : List CsvCell) (row : Row) (last : List Field) (ends : Row) (name : List ℕ) → AreNamedUsed used fields name → length cells ≡ length fields
    → used_values used cells ≡ Some row → value_under (chosen used fields ++ last) name (row ++ ends) ≡ value_under (fields ++ last) name (map good_value cells ++ ends)
value_under-used [] [] [] row last ends name named same is = let none : [] ≡ row = cc in ap (λ (r : Row). value_under last name (r ++ ends)) (sym none)
value_under-used [] [] (cell ∷ cells) row last ends name named same is = absurd (omega arith)
value_under-used [] (field ∷ fields) cells row last ends name named same is = absurd named
value_under-used (u ∷ used) [] cells row last ends name named same is = absurd named
value_under-used (u ∷ used) (field ∷ fields) [] row last ends name named same is = absurd (omega arith)
value_under-used (true ∷ used) (field ∷ fields) (Bad ∷ cells) row last ends name named same is = absurd (cc)
value_under-used (true ∷ used) (field ∷ fields) (Good x ∷ cells) row last ends name named same is =
    let first = used_first used x cells row is in
    ap (λ (r : Row). value_under (field ∷ chosen used fields ++ last) name (r ++ ends)) first.2
    ∙ value_under-first field (chosen used fields ++ last) name x (first.0 ++ ends)
    ∙ ap (λ v. if bytes_eq field.name name then x else v) (value_under-used used fields cells first.0 last ends name named.1 (omega arith) first.1)
    ∙ sym (value_under-first field (fields ++ last) name x (map good_value cells ++ ends))
value_under-used (false ∷ used) (field ∷ fields) (cell ∷ cells) row last ends name named same is =
    value_under-used used fields cells row last ends name named.1 (omega arith) is
    ∙ sym (value_first field (fields ++ last) name (good_value cell) (map good_value cells ++ ends) false (not_named (bytes_eq field.name name) named.0))

or_true : (t : Bool) → (t || true) ≡ true
or_true true = refl
or_true false = refl

pub stands-left : (name : List ℕ) (xs ys : List (List ℕ)) → stands_in name xs ≡ true → stands_in name (xs ++ ys) ≡ true
stands-left name xs ys is = list_any-append (λ other. bytes_eq other name) xs ys ∙ ap (λ t. t || stands_in name ys) is

pub stands-right : (name : List ℕ) (xs ys : List (List ℕ)) → stands_in name ys ≡ true → stands_in name (xs ++ ys) ≡ true
stands-right name xs ys is = list_any-append (λ other. bytes_eq other name) xs ys ∙ ap (λ t. stands_in name xs || t) is ∙ or_true (stands_in name xs)

stands-first : (name : List ℕ) (xs : List (List ℕ)) → stands_in name (name ∷ xs) ≡ true
stands-first name xs = ap (λ t. t || stands_in name xs) ((bytes_eq-Decides name name).1 refl)

stands-later : (name other : List ℕ) (xs : List (List ℕ)) → stands_in name xs ≡ true → stands_in name (other ∷ xs) ≡ true
stands-later name other xs is = ap (λ t. bytes_eq other name || t) is ∙ or_true (bytes_eq other name)

-- both rows have the same under each of these names
abbrev pub AreAlikeUnder : List (List ℕ) → List Field → Row → List Field → Row → Type 0
AreAlikeUnder names fields row others other = (name : List ℕ) → stands_in name names ≡ true → value_under fields name row ≡ value_under others name other

alike_side : (rhs : Rhs) (fields others : List Field) (row other : Row) → AreAlikeUnder (names_in_side rhs) fields row others other → side fields rhs row ≡ side others rhs other
alike_side (sides.Col name) fields others row other alike = alike name (stands-first name [])
alike_side (sides.Lit value) fields others row other alike = refl

-- a predicate says the same of rows that have the same under its names
pub truth-alike : (node : PredNode) (fields others : List Field) (row other : Row) → AreAlikeUnder (names_in node) fields row others other → truth fields node row ≡ truth others node other
truth-alike (nodes.And' p a q b) fields others row other alike =
    ap (λ t. least t (truth fields b row)) (truth-alike a fields others row other (λ name is. alike name (stands-left name (names_in a) (names_in b) is)))
    ∙ ap (least (truth others a other)) (truth-alike b fields others row other (λ name is. alike name (stands-right name (names_in a) (names_in b) is)))
truth-alike (nodes.Or' p a q b) fields others row other alike =
    ap (λ t. greatest t (truth fields b row)) (truth-alike a fields others row other (λ name is. alike name (stands-left name (names_in a) (names_in b) is)))
    ∙ ap (greatest (truth others a other)) (truth-alike b fields others row other (λ name is. alike name (stands-right name (names_in a) (names_in b) is)))
truth-alike (nodes.Not' p a) fields others row other alike = ap mirror (truth-alike a fields others row other alike)
truth-alike (nodes.IsNull name) fields others row other alike = ap (λ v. certain (is_null v)) (alike name (stands-first name []))
truth-alike (nodes.NotNull name) fields others row other alike = ap (λ v. certain (not (is_null v))) (alike name (stands-first name []))
truth-alike (nodes.Is name) fields others row other alike = ap asserted (alike name (stands-first name []))
truth-alike (nodes.Cmp op name rhs) fields others row other alike =
    ap (λ v. compared op v (side fields rhs row)) (alike name (stands-first name (names_in_side rhs)))
    ∙ ap (compared op (value_under others name other)) (alike_side rhs fields others row other (λ n is. alike n (stands-later n name (names_in_side rhs) is)))

-- what is kept is used
abbrev pub AreKeptUsed : List Bool → List Bool → Type 0
AreKeptUsed [] [] = Unit {0}
AreKeptUsed [] (u ∷ used) = ⊥
AreKeptUsed (k ∷ kept) [] = ⊥
AreKeptUsed (k ∷ kept) (u ∷ used) = (k ≡ true → u ≡ true) × AreKeptUsed kept used

-- what is kept of the values of used columns
pub chosen-used : (kept used : List Bool) (cells : List CsvCell) (row : Row) (mask : List Bool) (ends : Row) → AreKeptUsed kept used → length cells ≡ length used → used_values used cells ≡ Some row
    → chosen (chosen used kept ++ mask) (row ++ ends) ≡ chosen kept (map good_value cells) ++ chosen mask ends
chosen-used [] [] [] row mask ends within same is = let none : [] ≡ row = cc in ap (λ (r : Row). chosen mask (r ++ ends)) (sym none)
chosen-used [] [] (cell ∷ cells) row mask ends within same is = absurd (omega arith)
chosen-used [] (u ∷ used) cells row mask ends within same is = absurd within
chosen-used (k ∷ kept) [] cells row mask ends within same is = absurd within
chosen-used (k ∷ kept) (u ∷ used) [] row mask ends within same is = absurd (omega arith)
chosen-used (k ∷ kept) (true ∷ used) (Bad ∷ cells) row mask ends within same is = absurd (cc)
chosen-used (true ∷ kept) (true ∷ used) (Good x ∷ cells) row mask ends within same is =
    let first = used_first used x cells row is in
    ap (λ (r : Row). chosen (true ∷ chosen used kept ++ mask) (r ++ ends)) first.2
    ∙ ap (λ (r : Row). x ∷ r) (chosen-used kept used cells first.0 mask ends within.1 (omega arith) first.1)
chosen-used (false ∷ kept) (true ∷ used) (Good x ∷ cells) row mask ends within same is =
    let first = used_first used x cells row is in
    ap (λ (r : Row). chosen (false ∷ chosen used kept ++ mask) (r ++ ends)) first.2
    ∙ chosen-used kept used cells first.0 mask ends within.1 (omega arith) first.1
chosen-used (true ∷ kept) (false ∷ used) (cell ∷ cells) row mask ends within same is = absurd (let bad = within.0 refl in cc)
chosen-used (false ∷ kept) (false ∷ used) (cell ∷ cells) row mask ends within same is = chosen-used kept used cells row mask ends within.1 (omega arith) is

-- what is kept of the used columns
pub chosen-chosen : {A : Type 0} (kept used : List Bool) (xs : List A) (mask : List Bool) (ends : List A) → AreKeptUsed kept used → length xs ≡ length used
    → chosen (chosen used kept ++ mask) (chosen used xs ++ ends) ≡ chosen kept xs ++ chosen mask ends
chosen-chosen [] [] [] mask ends within same = refl
chosen-chosen [] [] (x ∷ xs) mask ends within same = absurd (omega arith)
chosen-chosen [] (u ∷ used) xs mask ends within same = absurd within
chosen-chosen (k ∷ kept) [] xs mask ends within same = absurd within
chosen-chosen (k ∷ kept) (u ∷ used) [] mask ends within same = absurd (omega arith)
chosen-chosen (true ∷ kept) (true ∷ used) (x ∷ xs) mask ends within same = ap (λ ys. x ∷ ys) (chosen-chosen kept used xs mask ends within.1 (omega arith))
chosen-chosen (false ∷ kept) (true ∷ used) (x ∷ xs) mask ends within same = chosen-chosen kept used xs mask ends within.1 (omega arith)
chosen-chosen (true ∷ kept) (false ∷ used) (x ∷ xs) mask ends within same = absurd (let bad = within.0 refl in cc)
chosen-chosen (false ∷ kept) (false ∷ used) (x ∷ xs) mask ends within same = chosen-chosen kept used xs mask ends within.1 (omega arith)

-- there are as many values as used columns
pub length-used : (kept used : List Bool) (cells : List CsvCell) (row : Row) → length kept ≡ length used → length cells ≡ length used → used_values used cells ≡ Some row → length (chosen used kept) ≡ length row
length-used [] [] [] row same_kept same is = let none : [] ≡ row = cc in ap (λ (r : Row). length r) none
length-used [] [] (cell ∷ cells) row same_kept same is = absurd (omega arith)
length-used [] (u ∷ used) cells row same_kept same is = absurd (omega arith)
length-used (k ∷ kept) [] cells row same_kept same is = absurd (omega arith)
length-used (k ∷ kept) (u ∷ used) [] row same_kept same is = absurd (omega arith)
length-used (k ∷ kept) (true ∷ used) (Bad ∷ cells) row same_kept same is = absurd (cc)
length-used (k ∷ kept) (true ∷ used) (Good x ∷ cells) row same_kept same is =
    let first = used_first used x cells row is in
    ap suc (length-used kept used cells first.0 (omega arith) (omega arith) first.1) ∙ sym (ap (λ (r : Row). length r) first.2)
length-used (k ∷ kept) (false ∷ used) (cell ∷ cells) row same_kept same is = length-used kept used cells row (omega arith) (omega arith) is
