-- Rows that are true, by their numbers.
use Rattle.std.proofs.Common.{◌≡◌, ℕ, zero, suc, ◌+◌, ◌<◌, ◌≤◌, false, cond, List, [], ◌∷◌, ◌++◌, length, take, drop, set, get_or, refl, ap, sym, ◌∙◌, arith}
use Rattle.std.specs.List.{count_by}
use Rattle.std.proofs.lemmas.List.{take_more, take_more_set, take-set, drop_more, length-take}
use Rattle.std.proofs.lemmas.List.Sums.{count_by_more_yes, count_by_more_no, sum_by-take-le}
use mir.Val.{bool_byte}
use Rattle.morsel_meaning.specs.Values.{Row}
use Rattle.morsel_frame.specs.Tables.{rows_at}
use Rattle.morsel_expr.specs.declared.truth.Truth.{Truth}
use Rattle.morsel_expr.specs.declared.truth.Truth.TheVariants.{False, Unknown, True}
use Rattle.morsel_expr.specs.Truths.{is_true}
use Rattle.morsel_expr.specs.Kept.{kept_rows, true_rows}

-- one row more behind others: one that is true, or another
true_rows-yes : (first : ℕ) (mask : List Truth) → true_rows first (mask ++ True ∷ []) ≡ true_rows first mask ++ (first + length mask) ∷ []
true_rows-yes first [] = let same : first ≡ first + 0 = omega arith in ap (λ row. row ∷ []) same
true_rows-yes first (True ∷ mask) =
    let same : first + 1 + length mask ≡ first + suc (length mask) = omega arith in
    ap (λ rows. first ∷ rows) (true_rows-yes (first + 1) mask ∙ ap (λ row. true_rows (first + 1) mask ++ row ∷ []) same)
true_rows-yes first (False ∷ mask) =
    let same : first + 1 + length mask ≡ first + suc (length mask) = omega arith in
    true_rows-yes (first + 1) mask ∙ ap (λ row. true_rows (first + 1) mask ++ row ∷ []) same
true_rows-yes first (Unknown ∷ mask) =
    let same : first + 1 + length mask ≡ first + suc (length mask) = omega arith in
    true_rows-yes (first + 1) mask ∙ ap (λ row. true_rows (first + 1) mask ++ row ∷ []) same

true_rows-no : (first : ℕ) (mask : List Truth) (t : Truth) → is_true t ≡ false → true_rows first (mask ++ t ∷ []) ≡ true_rows first mask
true_rows-no first [] False is_no = refl
true_rows-no first [] Unknown is_no = refl
true_rows-no first [] True is_no = cc
true_rows-no first (True ∷ mask) t is_no = ap (λ rows. first ∷ rows) (true_rows-no (first + 1) mask t is_no)
true_rows-no first (False ∷ mask) t is_no = true_rows-no (first + 1) mask t is_no
true_rows-no first (Unknown ∷ mask) t is_no = true_rows-no (first + 1) mask t is_no

-- one row more is counted where it is true
counted : (t d : Truth) (place : ℕ) (mask : List Truth) (row : ℕ) → t ≡ get_or mask row d → row < length mask → place ≡ count_by is_true (take row mask) → place + bool_byte (is_true t) ≡ count_by is_true (take (row + 1) mask)
counted True d place mask row is within so_far =
    ap (λ n. n + 1) so_far ∙ sym (count_by_more_yes is_true mask row d within (sym (ap is_true is)))
counted False d place mask row is within so_far =
    let same : place + 0 ≡ place = omega arith in
    same ∙ so_far ∙ sym (count_by_more_no is_true mask row d within (sym (ap is_true is)))
counted Unknown d place mask row is within so_far =
    let same : place + 0 ≡ place = omega arith in
    same ∙ so_far ∙ sym (count_by_more_no is_true mask row d within (sym (ap is_true is)))

pub count-more : (d : Truth) (place : ℕ) (mask : List Truth) (row : ℕ) → row < length mask → place ≡ count_by is_true (take row mask) → place + bool_byte (is_true (get_or mask row d)) ≡ count_by is_true (take (row + 1) mask)
count-more d place mask row = counted (get_or mask row d) d place mask row refl

-- a turn of the loop writes the number of a row, which stays where the row is true
written_yes : (d : Truth) (rows : List ℕ) (place : ℕ) (mask : List Truth) (row : ℕ) → True ≡ get_or mask row d → row < length mask → take place rows ≡ true_rows 0 (take row mask) → place < length rows → take (place + 1) (set rows place row) ≡ true_rows 0 (take (row + 1) mask)
written_yes d rows place mask row is within so_far room =
    let long : 0 + length (take row mask) ≡ row = omega (arith, length-take row mask) in
    take_more_set rows place row room
    ∙ ap (λ written. written ++ row ∷ []) so_far
    ∙ ap (λ number. true_rows 0 (take row mask) ++ number ∷ []) (sym long)
    ∙ sym (true_rows-yes 0 (take row mask))
    ∙ ap (λ t. true_rows 0 (take row mask ++ t ∷ [])) is
    ∙ ap (true_rows 0) (sym (take_more mask row d within))

written_no : (d : Truth) (rows : List ℕ) (place : ℕ) (mask : List Truth) (row : ℕ) → is_true (get_or mask row d) ≡ false → row < length mask → take place rows ≡ true_rows 0 (take row mask) → take (place + 0) (set rows place row) ≡ true_rows 0 (take (row + 1) mask)
written_no d rows place mask row is_no within so_far =
    let same : place + 0 ≡ place = omega arith in
    ap (λ n. take n (set rows place row)) same
    ∙ take-set rows place row
    ∙ so_far
    ∙ sym (true_rows-no 0 (take row mask) (get_or mask row d) is_no)
    ∙ ap (true_rows 0) (sym (take_more mask row d within))

written : (t d : Truth) (rows : List ℕ) (place : ℕ) (mask : List Truth) (row : ℕ) → t ≡ get_or mask row d → row < length mask → take place rows ≡ true_rows 0 (take row mask) → place < length rows → take (place + bool_byte (is_true t)) (set rows place row) ≡ true_rows 0 (take (row + 1) mask)
written True d rows place mask row is within so_far room = written_yes d rows place mask row is within so_far room
written False d rows place mask row is within so_far room = written_no d rows place mask row (sym (ap is_true is)) within so_far
written Unknown d rows place mask row is within so_far room = written_no d rows place mask row (sym (ap is_true is)) within so_far

pub rows-more : (d : Truth) (rows : List ℕ) (place : ℕ) (mask : List Truth) (row : ℕ) → row < length mask → take place rows ≡ true_rows 0 (take row mask) → place < length rows → take (place + bool_byte (is_true (get_or mask row d))) (set rows place row) ≡ true_rows 0 (take (row + 1) mask)
rows-more d rows place mask row = written (get_or mask row d) d rows place mask row refl

-- no more rows are true before a row than in all
pub count-front : (mask : List Truth) (row : ℕ) → count_by is_true (take row mask) ≤ count_by is_true mask
count-front mask row = sum_by-take-le (λ t. cond (is_true t) 1 0) mask row

kept-none : (rows : List Row) → kept_rows rows [] ≡ []
kept-none [] = refl
kept-none (row ∷ rows) = refl

-- the rows with these numbers are those that are kept
kept_from : (all : List Row) (first : ℕ) (mask : List Truth) → first + length mask ≡ length all → rows_at all (true_rows first mask) ≡ kept_rows (drop first all) mask
kept_from all first [] same = sym (kept-none (drop first all))
kept_from all first (True ∷ mask) same =
    ap (λ rows. get_or all first [] ∷ rows) (kept_from all (first + 1) mask (omega arith))
    ∙ ap (λ rows. kept_rows rows (True ∷ mask)) (sym (drop_more all first [] (omega arith)))
kept_from all first (False ∷ mask) same =
    kept_from all (first + 1) mask (omega arith)
    ∙ ap (λ rows. kept_rows rows (False ∷ mask)) (sym (drop_more all first [] (omega arith)))
kept_from all first (Unknown ∷ mask) same =
    kept_from all (first + 1) mask (omega arith)
    ∙ ap (λ rows. kept_rows rows (Unknown ∷ mask)) (sym (drop_more all first [] (omega arith)))

pub rows_at-true : (rows : List Row) (mask : List Truth) → length rows ≡ length mask → rows_at rows (true_rows 0 mask) ≡ kept_rows rows mask
rows_at-true rows mask same = kept_from rows 0 mask (omega arith)

-- each of these numbers is that of a row
numbers_within : (n first : ℕ) (mask : List Truth) → first + length mask ≡ n → (k d : ℕ) → k < length (true_rows first mask) → get_or (true_rows first mask) k d < n
numbers_within n first [] same k d inside = absurd (omega arith)
numbers_within n first (True ∷ mask) same zero d inside = omega arith
numbers_within n first (True ∷ mask) same (suc k) d inside = numbers_within n (first + 1) mask (omega arith) k d (omega arith)
numbers_within n first (False ∷ mask) same k d inside = numbers_within n (first + 1) mask (omega arith) k d inside
numbers_within n first (Unknown ∷ mask) same k d inside = numbers_within n (first + 1) mask (omega arith) k d inside

pub true_rows-within : (n : ℕ) (mask : List Truth) → n ≡ length mask → (k d : ℕ) → k < length (true_rows 0 mask) → get_or (true_rows 0 mask) k d < n
true_rows-within n mask same = numbers_within n 0 mask (omega arith)
