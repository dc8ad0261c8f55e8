-- Columns one below the other, one column at a time.
use Rattle.std.proofs.Common.{◌≡◌, ℕ, zero, suc, ◌+◌, ◌-◌, ◌<◌, ◌≤◌, List, [], ◌∷◌, ◌++◌, length, take, drop, get_or, map, refl, ap, sym, ◌∙◌, arith, set}
use Rattle.std.specs.Prelude.{slice_range}
use Rattle.std.proofs.lemmas.List.{drop_more, get_or_at, set_at, map_more, append_assoc, length-map, length-take-le, take_all, take_at}
use Rattle.morsel_frame.specs.Columns.{Values}
use Rattle.morsel_frame.specs.Stacks.{column_front, AreTall, AreLevel, AreAlike, stacked_up_to}

-- the range of all
pub range-whole : {X : Type 0} (xs : List X) (n : ℕ) → n ≡ length xs → slice_range xs 0 n ≡ xs
range-whole xs n all = take_all (n - 0) xs (omega arith)

-- a list of which the first items went through a function, with one more
pub set-through : {X : Type 0} (f : X → X) (xs ys : List X) (i : ℕ) (d y : X) → i < length xs → ys ≡ map f (take i xs) ++ drop i xs → d ≡ get_or ys i d → y ≡ f d → set ys i y ≡ map f (take (i + 1) xs) ++ drop (i + 1) xs
set-through f xs ys i d y within is read made =
    let front : length (map f (take i xs)) ≡ i = length-map (take i xs) f ∙ length-take-le i xs (omega arith) in
    let split : ys ≡ map f (take i xs) ++ (get_or xs i d ∷ drop (i + 1) xs) = is ∙ ap (λ zs. map f (take i xs) ++ zs) (drop_more xs i d within) in
    let here : d ≡ get_or xs i d = read ∙ ap (λ zs. get_or zs i d) split ∙ get_or_at (map f (take i xs)) (get_or xs i d) (drop (i + 1) xs) d i front in
    ap (λ zs. set zs i y) split
    ∙ set_at (map f (take i xs)) (get_or xs i d) (drop (i + 1) xs) y i front
    ∙ ap (λ z. map f (take i xs) ++ (z ∷ drop (i + 1) xs)) (made ∙ ap f here)
    ∙ sym (append_assoc (map f (take i xs)) (f (get_or xs i d) ∷ []) (drop (i + 1) xs))
    ∙ ap (λ zs. zs ++ drop (i + 1) xs) (sym (map_more f xs i d within))

-- one of tall columns
pub tall-at : (height : ℕ) (columns : List Values) (i : ℕ) (d : Values) → AreTall height columns → i < length columns → d ≡ get_or columns i d → height ≤ length d.values
tall-at height [] i d tall within read = absurd (omega arith)
tall-at height (column ∷ columns) zero d tall within read =
    let lens : length d.values ≡ length column.values = ap (λ (c : Values). length c.values) read in omega (arith, tall.0)
tall-at height (column ∷ columns) (suc i) d tall within read = tall-at height columns i d tall.1 (omega arith) read

pub length-alike : (columns others : List Values) → AreAlike columns others → length others ≡ length columns
length-alike [] [] alike = refl
length-alike [] (other ∷ others) alike = absurd alike
length-alike (column ∷ columns) [] alike = absurd alike
length-alike (column ∷ columns) (other ∷ others) alike = ap suc (length-alike columns others alike.1)

pub length-stacked : (n : ℕ) (columns others : List Values) → length (stacked_up_to n columns others) ≡ length columns
length-stacked zero columns others = refl
length-stacked (suc n) [] others = refl
length-stacked (suc n) (column ∷ columns) [] = refl
length-stacked (suc n) (column ∷ columns) (other ∷ others) = ap suc (length-stacked n columns others)

-- the next column is as it was
pub get_or-stacked : (n : ℕ) (columns others : List Values) (d : Values) → get_or (stacked_up_to n columns others) n d ≡ get_or columns n d
get_or-stacked zero columns others d = refl
get_or-stacked (suc n) [] others d = refl
get_or-stacked (suc n) (column ∷ columns) [] d = refl
get_or-stacked (suc n) (column ∷ columns) (other ∷ others) d = get_or-stacked n columns others d

-- and is of the other's type
pub alike-at : (columns others : List Values) (n : ℕ) (c o : Values) → AreAlike columns others → n < length others → c ≡ get_or columns n c → o ≡ get_or others n o → o.kind ≡ c.kind
alike-at [] [] n c o alike within read read_other = absurd (omega arith)
alike-at [] (other ∷ others) n c o alike within read read_other = absurd alike
alike-at (column ∷ columns) [] n c o alike within read read_other = absurd alike
alike-at (column ∷ columns) (other ∷ others) zero c o alike within read read_other =
    ap (λ (v : Values). v.kind) read_other ∙ alike.0 ∙ ap (λ (v : Values). v.kind) (sym read)
alike-at (column ∷ columns) (other ∷ others) (suc n) c o alike within read read_other = alike-at columns others n c o alike.1 (omega arith) read read_other

-- one column more
pub set-stacked : (n : ℕ) (columns others : List Values) (c o y : Values) → n < length columns → n < length others → c ≡ get_or columns n c → o ≡ get_or others n o → y ≡ record { kind = c.kind; values = c.values ++ o.values } → set (stacked_up_to n columns others) n y ≡ stacked_up_to (suc n) columns others
set-stacked n [] others c o y within within_other read read_other made = absurd (omega arith)
set-stacked n (column ∷ columns) [] c o y within within_other read read_other made = absurd (omega arith)
set-stacked zero (column ∷ columns) (other ∷ others) c o y within within_other read read_other made =
    ap (λ z. z ∷ columns)
    (made ∙ ap (λ (v : Values). record { kind = v.kind; values = v.values ++ o.values }) read
    ∙ ap (λ (v : Values). record { kind = column.kind; values = column.values ++ v.values }) read_other)
set-stacked (suc n) (column ∷ columns) (other ∷ others) c o y within within_other read read_other made =
    ap (λ zs. record { kind = column.kind; values = column.values ++ other.values } ∷ zs)
    (set-stacked n columns others c o y (omega arith) (omega arith) read read_other made)

level-front : (height : ℕ) (columns : List Values) → AreLevel height columns → map (column_front height) columns ≡ columns
level-front height [] level = refl
level-front height (column ∷ columns) level =
    ap (λ vs. record { kind = column.kind; values = vs } ∷ map (column_front height) columns) (take_all height column.values (omega (arith, level.0)))
    ∙ ap (λ cs. column ∷ cs) (level-front height columns level.1)

-- what was put below level columns is cut off again
pub front-stacked : (height n : ℕ) (columns others : List Values) → AreLevel height columns → map (column_front height) (stacked_up_to n columns others) ≡ columns
front-stacked height zero columns others level = level-front height columns level
front-stacked height (suc n) [] others level = refl
front-stacked height (suc n) (column ∷ columns) [] level = level-front height (column ∷ columns) level
front-stacked height (suc n) (column ∷ columns) (other ∷ others) level =
    ap (λ vs. record { kind = column.kind; values = vs } ∷ map (column_front height) (stacked_up_to n columns others)) (take_at column.values other.values height level.0)
    ∙ ap (λ cs. column ∷ cs) (front-stacked height n columns others level.1)
