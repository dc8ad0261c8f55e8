-- The kept rows that no row finds, by the marks of their keys.
use Rattle.std.proofs.Common.{◌≡◌, ◌≤◌, ◌++◌, ◌⊎◌, inl, inr, [], ◌∷◌, List, ℕ, ◌+◌, suc, length, drop, get_or, slice_get, arith, refl, ap, ◌∙◌, sym, subst, Bool, true, false, not, ◌||◌, if◌then◌else◌, map, Some}
use Rattle.std.specs.List.{filter, list_any}
use Rattle.std.proofs.lemmas.List.{drop_all, length-drop, length-map}
use Rattle.morsel_meaning.specs.Values.{Row}
use Rattle.morsel_frame.specs.Tables.{cells_at}
use Rattle.morsel_join.specs.declared.build_side.Build.{Build}
use Rattle.morsel_join.specs.declared.some_rows.SomeRows.{SomeRows}
use Rattle.morsel_join.specs.BuildSides.{IsBuild, kept_side}
use Rattle.morsel_join.specs.Chains.{left_mark, right_mark, same_number}
use Rattle.morsel_join.specs.Cuts.{GivesSome, PutsFirst, unmarked_items}
use Rattle.morsel_join.specs.Hits.{HaveHit}
use Rattle.morsel_join.specs.Items.{JoinItem, places}
use Rattle.morsel_join.specs.LoneRows.{rows_alone_from, unmarked_rows}
use Rattle.morsel_join.specs.Probings.{AreNumbersOf}
use Rattle.morsel_join.specs.Sides.{KeptSide, asked_keys, is_asked_for, joined_row, kept_keys, row_finds, rows_alone, side_row, wants_kept}
use Rattle.morsel_join.proofs.AgreeLemmas.{any-agree, keyed-agree}
use Rattle.morsel_join.proofs.FindLemmas.{gives-first}
use Rattle.morsel_join.proofs.LoneLemmas.{unmarked-end}
use Rattle.morsel_join.proofs.SideLemmas.{asked-append, drop-first, rows-of-lone}

-- marks of two lists of rows, joined, are those of both
pub marks-joined : (build : Build) (asked more : List Row) (old other new : List Bool) → HaveHit build old asked → HaveHit build other more → length new ≡ length old → ((m : ℕ) → get_or new m false ≡ (get_or old m false || get_or other m false)) → HaveHit build new (asked ++ more)
marks-joined build asked more old other new a b len marked = record {
  len = len ∙ a.len;
  each = λ j kept is.
      let m = get_or build.keyed.numbers.items j 0 in
      marked m ∙ ap (λ t. t || get_or other m false) (a.each j kept is) ∙ ap (λ t. is_asked_for (kept_side build) asked kept || t) (b.each j kept is) ∙ sym (asked-append (kept_side build) asked more kept);
}

-- the marks that rows set are those of these rows too
pub marks-set : (build : Build) (asked rows : List Row) (numbers : List ℕ) (old new : List Bool) → IsBuild build → AreNumbersOf build rows numbers → length new ≡ length old → ((m : ℕ) → get_or new m false ≡ (get_or old m false || list_any (λ n. same_number (length old) n m) numbers)) → HaveHit build old asked → HaveHit build new (asked ++ rows)
marks-set build asked rows numbers old new built looked len marked a =
    let side : KeptSide = kept_side build in record {
      len = len ∙ a.len;
      each = λ j kept is.
          let m = get_or build.keyed.numbers.items j 0 in
          marked m ∙ ap (λ t. t || list_any (λ n. same_number (length old) n m) numbers) (a.each j kept is)
          ∙ ap (λ (k : ℕ). is_asked_for side asked kept || list_any (λ n. same_number k n m) numbers) a.len
          ∙ ap (λ t. is_asked_for side asked kept || t) (sym (any-agree (λ row. row_finds side row kept) (λ n. same_number (length build.keyed.keys.keys) n m) rows numbers (looked.len ∙ length-map rows (cells_at (asked_keys side)))
          (λ i row e. keyed-agree build.rules.join_nulls rows build.kept.rows (asked_keys side) (kept_keys side) numbers build.keyed.numbers.items build.keyed.keys.keys built.keyed.once built.keyed.few looked built.keyed.each i j row kept e is)))
          ∙ sym (asked-append side asked rows kept);
    }

-- the rows at the places of the rows that are not marked are these rows
places-unmarked : (marks : List Bool) (all : List Row) (at : ℕ) (numbers : List ℕ) (rows : List Row) → length numbers ≡ length rows → rows ≡ drop at all → map (λ (j : ℕ). get_or all j []) (places (λ m. not (get_or marks m false)) at numbers) ≡ unmarked_rows marks numbers rows
places-unmarked marks all at [] rows len e = refl
places-unmarked marks all at (n ∷ numbers) [] len e = absurd (omega (arith, len))
places-unmarked marks all at (n ∷ numbers) (row ∷ rows) len e =
    let h = drop-first at all row [] rows e in
    step (get_or marks n false) (places (λ m. not (get_or marks m false)) (suc at) numbers) (unmarked_rows marks numbers rows) h.0 (places-unmarked marks all (suc at) numbers rows (omega (arith, len)) h.1)
  where
    step : (t : Bool) (js : List ℕ) (found : List Row) → get_or all at [] ≡ row → map (λ (j : ℕ). get_or all j []) js ≡ found → map (λ (j : ℕ). get_or all j []) (if not t then at ∷ js else js) ≡ (if t then found else row ∷ found)
    step true js found here rest = rest
    step false js found here rest = ap (λ (r : Row). r ∷ map (λ (j : ℕ). get_or all j []) js) here ∙ ap (λ (rs : List Row). row ∷ rs) rest

-- the rows of the lone items from a place on
pub rows-unmarked : (build : Build) (marks : List Bool) (at : ℕ) → IsBuild build → rows_alone_from build marks at ≡ map (side_row (kept_side build) []) (unmarked_items marks build.keyed.numbers.items at)
rows-unmarked build marks at built =
    let numbers = build.keyed.numbers.items in
    sym (rows-of-lone (kept_side build) [] (places (λ m. not (get_or marks m false)) at (drop at numbers))
    ∙ ap (map (joined_row (kept_side build) [])) (places-unmarked marks build.kept.rows at (drop at numbers) (drop at build.kept.rows) (omega (arith, length-drop at numbers, length-drop at build.kept.rows, built.keyed.len)) refl))

-- the next of the rows that are alone were given
pub gives-alone : (build : Build) (marks : List Bool) (from at limit : ℕ) (lefts rights : List ℕ) (some : SomeRows) → IsBuild build
    → PutsFirst (unmarked_items marks build.keyed.numbers.items from) (unmarked_items marks build.keyed.numbers.items at) [] [] lefts rights
    → length lefts ≤ limit → (length build.kept.rows ≤ at) ⊎ (length lefts ≡ limit) → (unmarked_items marks build.keyed.numbers.items at ≡ [] → length build.kept.rows ≤ at)
    → ((done : List JoinItem) → lefts ≡ map left_mark done → rights ≡ map right_mark done → some.frame.rows ≡ map (side_row (kept_side build) []) done)
    → (some.last ≡ true → length build.kept.rows ≤ at) → (length build.kept.rows ≤ at → some.last ≡ true)
    → GivesSome (λ rest. rest ≡ rows_alone_from build marks at) limit (rows_alone_from build marks from) some
gives-alone build marks from at limit lefts rights some built put room full settled rows ended open_end =
    let numbers = build.keyed.numbers.items in
    let f : JoinItem → Row = side_row (kept_side build) [] in
    let at_end : length build.kept.rows ≤ at → unmarked_items marks numbers at ≡ [] = λ past. unmarked-end marks numbers at (omega (arith, past, built.keyed.len)) in
    subst (λ (rs : List Row). GivesSome (λ rest. rest ≡ rows_alone_from build marks at) limit rs some) (sym (rows-unmarked build marks from built))
    (gives-first (λ rest. rest ≡ rows_alone_from build marks at) f limit (unmarked_items marks numbers from) (unmarked_items marks numbers at) lefts rights some put room (by full at_end) (sym (rows-unmarked build marks at built)) rows
    (λ is. at_end (ended is)) (λ none. open_end (settled none)))
  where
    by : (length build.kept.rows ≤ at) ⊎ (length lefts ≡ limit) → (length build.kept.rows ≤ at → unmarked_items marks build.keyed.numbers.items at ≡ []) → (unmarked_items marks build.keyed.numbers.items at ≡ []) ⊎ (length lefts ≡ limit)
    by (inl past) at_end = inl (at_end past)
    by (inr is) at_end = inr is

marks-filter : (marks : List Bool) (test : Row → Bool) (numbers : List ℕ) (rows : List Row) → length numbers ≡ length rows → ((j : ℕ) (row : Row) → slice_get rows j ≡ Some row → get_or marks (get_or numbers j 0) false ≡ test row) → unmarked_rows marks numbers rows ≡ filter (λ row. not (test row)) rows
marks-filter marks test [] [] len same = refl
marks-filter marks test [] (row ∷ rows) len same = absurd (omega (arith, len))
marks-filter marks test (n ∷ numbers) [] len same = absurd (omega (arith, len))
marks-filter marks test (n ∷ numbers) (row ∷ rows) len same =
    step (get_or marks n false) (test row) (unmarked_rows marks numbers rows) (filter (λ r. not (test r)) rows) (same 0 row refl) (marks-filter marks test numbers rows (omega (arith, len)) (λ j r e. same (suc j) r e))
  where
    step : (t u : Bool) (xs ys : List Row) → t ≡ u → xs ≡ ys → (if t then xs else row ∷ xs) ≡ (if not u then row ∷ ys else ys)
    step t true xs ys is rest = ap (λ s. if s then xs else row ∷ xs) is ∙ rest
    step t false xs ys is rest = ap (λ s. if s then xs else row ∷ xs) is ∙ ap (λ (rs : List Row). row ∷ rs) rest

-- the kept rows that are alone are those whose keys are not marked, where the kind has them
pub alone-unmarked : (build : Build) (marks : List Bool) (asked : List Row) (at : ℕ) → IsBuild build → HaveHit build marks asked → (wants_kept (kept_side build) ≡ true → at ≡ 0) → (wants_kept (kept_side build) ≡ false → at ≡ length build.kept.rows) → rows_alone (kept_side build) asked ≡ rows_alone_from build marks at
alone-unmarked build marks asked at built hit wanted unwanted = by (wants_kept (kept_side build)) wanted unwanted
  where
    by : (t : Bool) → (t ≡ true → at ≡ 0) → (t ≡ false → at ≡ length build.kept.rows)
        → (if t then map (joined_row (kept_side build) []) (filter (λ kept. not (is_asked_for (kept_side build) asked kept)) build.kept.rows) else []) ≡ rows_alone_from build marks at
    by true yes_at no_at =
        ap (map (joined_row (kept_side build) [])) (sym (marks-filter marks (is_asked_for (kept_side build) asked) build.keyed.numbers.items build.kept.rows built.keyed.len hit.each))
        ∙ ap (λ (n : ℕ). rows_alone_from build marks n) (sym (yes_at refl))
    by false yes_at no_at =
        let is = no_at refl in
        sym (ap (λ (ns : List ℕ). map (joined_row (kept_side build) []) (unmarked_rows marks ns (drop at build.kept.rows))) (drop_all at build.keyed.numbers.items (omega (arith, is, built.keyed.len))))
