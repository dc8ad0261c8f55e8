-- What rows find on a kept side, by the numbers of their keys.
use Rattle.std.proofs.Common.{◌≡◌, ◌≤◌, ◌++◌, ◌⊎◌, inl, inr, [], ◌∷◌, List, ℕ, ◌+◌, suc, zero, length, drop, get_or, slice_get, arith, refl, ap, ◌∙◌, sym, subst, true, false, map, min}
use Rattle.std.proofs.lemmas.List.{map-append, length-map, length-append, length-drop, get_or-drop}
use Rattle.morsel_meaning.specs.Values.{Row, Table}
use Rattle.morsel_frame.specs.Columns.{no_row}
use Rattle.morsel_frame.specs.Frames.{rows_of}
use Rattle.morsel_frame.specs.Tables.{cells_at}
use Rattle.morsel_join.specs.declared.build_side.Build.{Build}
use Rattle.morsel_join.specs.declared.probe_some.Cursor.{Cursor}
use Rattle.morsel_join.specs.declared.some_rows.SomeRows.{SomeRows}
use Rattle.morsel_join.specs.declared.rules.JoinRules.{JoinRules}
use Rattle.morsel_join.specs.BuildSides.{IsBuild, kept_side}
use Rattle.morsel_join.specs.Chains.{left_mark, right_mark, same_number}
use Rattle.morsel_join.specs.Cuts.{GivesSome, PutsFirst}
use Rattle.morsel_join.specs.Items.{JoinItem, Both, left_items}
use Rattle.morsel_join.specs.Laws.{mirrored}
use Rattle.morsel_join.specs.Probings.{AreFoundFrom, AreItemsIn, AreNumbersOf, FindsItems, rows_with}
use Rattle.morsel_join.specs.Rows.{marked_column}
use Rattle.morsel_join.specs.Sides.{KeptSide, asked_keys, kept_keys, row_finds, side_row, wants_asked}
use Rattle.morsel_join.proofs.AgreeLemmas.{keyed-agree, left-agree}
use Rattle.morsel_join.proofs.OrderLemmas.{left-mirrored, right-mirrored}
use Rattle.morsel_join.proofs.RowLemmas.{rows-gathered}
use Rattle.morsel_join.proofs.SideJoins.{mirrored-rows, straight-rows}
use Rattle.morsel_join.proofs.SideLemmas.{rows-of-items, rows-of-pairs}
use Rattle.morsel_join.proofs.CutLemmas.{end-left}

-- the rows that are gathered by the marks of items are the items' rows, where the right rows are kept
pub gathered-straight : (rules : JoinRules) (asked kept : Table) (asked_rows kept_rows : List ℕ) (items : List JoinItem) → asked_rows ≡ map left_mark items → kept_rows ≡ map right_mark items → length asked.rows ≤ no_row → length kept.rows ≤ no_row
    → rows_of (length asked_rows) (map (marked_column asked kept asked_rows kept_rows) rules.columns.items) ≡ map (side_row (record { rules = rules; is_left = false; rows = kept.rows }) asked.rows) items
gathered-straight rules asked kept asked_rows kept_rows items left right few fewer =
    ap (λ (ls : List ℕ). rows_of (length ls) (map (marked_column asked kept ls kept_rows) rules.columns.items)) left
    ∙ ap (λ (rs : List ℕ). rows_of (length (map left_mark items)) (map (marked_column asked kept (map left_mark items) rs) rules.columns.items)) right
    ∙ ap (λ (n : ℕ). rows_of n (map (marked_column asked kept (map left_mark items) (map right_mark items)) rules.columns.items)) (length-map items left_mark)
    ∙ rows-gathered asked kept items rules.columns.items few fewer
    ∙ straight-rows rules kept.rows asked.rows items

-- and where the left rows are kept
pub gathered-exchanged : (rules : JoinRules) (asked kept : Table) (asked_rows kept_rows : List ℕ) (items : List JoinItem) → asked_rows ≡ map left_mark items → kept_rows ≡ map right_mark items → length asked.rows ≤ no_row → length kept.rows ≤ no_row
    → rows_of (length kept_rows) (map (marked_column kept asked kept_rows asked_rows) rules.columns.items) ≡ map (side_row (record { rules = rules; is_left = true; rows = kept.rows }) asked.rows) items
gathered-exchanged rules asked kept asked_rows kept_rows items left right few fewer =
    let turned : List JoinItem = map mirrored items in
    ap (λ (ls : List ℕ). rows_of (length ls) (map (marked_column kept asked ls asked_rows) rules.columns.items)) (right ∙ sym (left-mirrored items))
    ∙ ap (λ (rs : List ℕ). rows_of (length (map left_mark turned)) (map (marked_column kept asked (map left_mark turned) rs) rules.columns.items)) (left ∙ sym (right-mirrored items))
    ∙ ap (λ (n : ℕ). rows_of n (map (marked_column kept asked (map left_mark turned) (map right_mark turned)) rules.columns.items)) (length-map turned left_mark)
    ∙ rows-gathered kept asked turned rules.columns.items fewer few
    ∙ mirrored-rows rules kept.rows asked.rows items

slice-drop : {X : Type 0} (at i : ℕ) (xs : List X) → slice_get (drop at xs) i ≡ slice_get xs (at + i)
slice-drop zero i xs = let same : i ≡ 0 + i = omega arith in ap (slice_get xs) same
slice-drop (suc at) i [] = refl
slice-drop (suc at) i (x ∷ xs) = let same : suc (at + i) ≡ suc at + i = omega arith in slice-drop at i xs ∙ ap (slice_get (x ∷ xs)) same

-- the items of rows from a place on are those of the numbers of their keys
pub items-agree : (build : Build) (asked : List Row) (numbers : List ℕ) (at : ℕ) → IsBuild build → AreNumbersOf build asked numbers
    → left_items (row_finds (kept_side build)) (wants_asked (kept_side build)) at (drop at asked) build.kept.rows ≡ left_items (same_number (length build.keyed.keys.keys)) (wants_asked (kept_side build)) at (drop at numbers) build.keyed.numbers.items
items-agree build asked numbers at built looked =
    let side : KeptSide = kept_side build in
    let len : length numbers ≡ length asked = looked.len ∙ length-map asked (cells_at (asked_keys side)) in
    left-agree (row_finds side) (same_number (length build.keyed.keys.keys)) (wants_asked side) at (drop at asked) build.kept.rows (drop at numbers) build.keyed.numbers.items
    (omega (arith, length-drop at numbers, length-drop at asked, len)) built.keyed.len
    (λ i j x y a b.
    keyed-agree build.rules.join_nulls asked build.kept.rows (asked_keys side) (kept_keys side) numbers build.keyed.numbers.items build.keyed.keys.keys built.keyed.once built.keyed.few looked built.keyed.each (at + i) j x y
    (sym (slice-drop at i asked) ∙ a) b
    ∙ ap (λ (n : ℕ). same_number (length build.keyed.keys.keys) n (get_or build.keyed.numbers.items j 0)) (sym (get_or-drop at numbers i 0)))

-- what rows find from a cursor on is what the items from there on are
pub items-from-rows : (build : Build) (asked : List Row) (numbers : List ℕ) (cursor : Cursor) (rest : List Row) → IsBuild build → AreNumbersOf build asked numbers → AreFoundFrom build asked cursor rest
    → (items : List JoinItem) × AreItemsIn build numbers cursor items × (rest ≡ map (side_row (kept_side build) asked) items)
items-from-rows build asked numbers cursor rest built looked found =
    let side : KeptSide = kept_side build in
    let front : List JoinItem = map (Both cursor.row) found.chain in
    let back : List JoinItem = left_items (row_finds side) (wants_asked side) cursor.at (drop cursor.at asked) build.kept.rows in (
      front ++ back,
      record { chain = found.chain; linked = found.linked; all = ap (λ (xs : List JoinItem). front ++ xs) (items-agree build asked numbers cursor.at built looked) },
      found.all ∙ sym (map-append (side_row side asked) front back ∙ ap (λ (rs : List Row). rs ++ map (side_row side asked) back) (rows-of-pairs side asked cursor.row found.chain)
          ∙ ap (λ (rs : List Row). rows_with build (get_or asked cursor.row []) found.chain ++ rs) (rows-of-items side asked cursor.at (drop cursor.at asked) refl)),
    )

pub rows-from-items : (build : Build) (asked : List Row) (numbers : List ℕ) (cursor : Cursor) (items : List JoinItem) → IsBuild build → AreNumbersOf build asked numbers → AreItemsIn build numbers cursor items → AreFoundFrom build asked cursor (map (side_row (kept_side build) asked) items)
rows-from-items build asked numbers cursor items built looked left =
    let side : KeptSide = kept_side build in
    let front : List JoinItem = map (Both cursor.row) left.chain in
    let back : List JoinItem = left_items (row_finds side) (wants_asked side) cursor.at (drop cursor.at asked) build.kept.rows in
    record {
      chain = left.chain;
      linked = left.linked;
      all = ap (map (side_row side asked)) (left.all ∙ ap (λ (xs : List JoinItem). front ++ xs) (sym (items-agree build asked numbers cursor.at built looked)))
          ∙ map-append (side_row side asked) front back ∙ ap (λ (rs : List Row). rs ++ map (side_row side asked) back) (rows-of-pairs side asked cursor.row left.chain)
          ∙ ap (λ (rs : List Row). rows_with build (get_or asked cursor.row []) left.chain ++ rs) (rows-of-items side asked cursor.at (drop cursor.at asked) refl);
    }

no-rows : {X Y : Type 0} (f : X → Y) (xs : List X) → map f xs ≡ [] → xs ≡ []
no-rows f [] e = refl
no-rows f (x ∷ xs) e = absurd (cc)

-- so many were given, or all
given-many : (limit many left all : ℕ) → all ≡ many + left → many ≤ limit → (left ≡ 0) ⊎ (many ≡ limit) → many ≡ min limit all
given-many limit many left all sum room (inl none) = omega (arith, sum, room, none)
given-many limit many left all sum room (inr full) = omega (arith, sum, full)

-- rows of the first items were given, and the others are left
pub gives-first : (Left : List Row → Type 0) (f : JoinItem → Row) (limit : ℕ) (items rest : List JoinItem) (lefts rights : List ℕ) (some : SomeRows)
    → PutsFirst items rest [] [] lefts rights → length lefts ≤ limit → (rest ≡ []) ⊎ (length lefts ≡ limit) → Left (map f rest) → ((done : List JoinItem) → lefts ≡ map left_mark done → rights ≡ map right_mark done → some.frame.rows ≡ map f done)
    → (some.last ≡ true → rest ≡ []) → (rest ≡ [] → some.last ≡ true) → GivesSome Left limit (map f items) some
gives-first Left f limit items rest lefts rights some put room full left rows ended open_end =
    let given : some.frame.rows ≡ map f put.done = rows put.done put.put.left_side put.put.right_side in
    let many : length some.frame.rows ≡ length put.done = ap (λ (rs : List Row). length rs) given ∙ length-map put.done f in
    let marks : length lefts ≡ length put.done = ap (λ (ns : List ℕ). length ns) put.put.left_side ∙ length-map put.done left_mark in
    let sum : length items ≡ length put.done + length rest = ap (λ (xs : List JoinItem). length xs) put.same ∙ length-append put.done rest in
    let bound : (length rest ≡ 0) ⊎ (length put.done ≡ limit) = by full (length put.done) marks in
    let all : length (map f items) ≡ length items = length-map items f in
    record {
      later = map f rest;
      all = ap (map f) put.same ∙ map-append f put.done rest ∙ ap (λ (rs : List Row). rs ++ map f rest) (sym given);
      left = left;
      many = many ∙ given-many limit (length put.done) (length rest) (length (map f items)) (all ∙ sum) (omega (arith, room, marks)) bound;
      last = λ is. ap (map f) (ended is);
      none = λ is. open_end (no-rows f rest is);
    }
  where
    by : (rest ≡ []) ⊎ (length lefts ≡ limit) → (n : ℕ) → length lefts ≡ n → (length rest ≡ 0) ⊎ (n ≡ limit)
    by (inl none) n same = inl (ap (λ (xs : List JoinItem). length xs) none)
    by (inr is) n same = inr (sym same ∙ is)

-- the next of the rows that are found were given
pub gives-found : (build : Build) (asked : List Row) (numbers : List ℕ) (from cursor : Cursor) (limit : ℕ) (rest : List Row) (lefts rights : List ℕ) (some : SomeRows) → IsBuild build → AreNumbersOf build asked numbers
    → ((items : List JoinItem) → AreItemsIn build numbers from items → FindsItems build numbers items [] [] lefts rights cursor)
    → length lefts ≤ limit → ((cursor.link ≡ 0) × (length numbers ≤ cursor.at)) ⊎ (length lefts ≡ limit)
    → ((items : List JoinItem) → AreItemsIn build numbers cursor items → items ≡ [] → (cursor.link ≡ 0) × (length numbers ≤ cursor.at))
    → ((done : List JoinItem) → lefts ≡ map left_mark done → rights ≡ map right_mark done → some.frame.rows ≡ map (side_row (kept_side build) asked) done)
    → (some.last ≡ true → (cursor.link ≡ 0) × (length numbers ≤ cursor.at)) → (cursor.link ≡ 0 → length numbers ≤ cursor.at → some.last ≡ true)
    → AreFoundFrom build asked from rest → GivesSome (AreFoundFrom build asked cursor) limit rest some
gives-found build asked numbers from cursor limit rest lefts rights some built looked finds room full settled rows ended open_end found =
    let h = items-from-rows build asked numbers from rest built looked found in
    let p = finds h.0 h.1 in
    let f : JoinItem → Row = side_row (kept_side build) asked in
    let at_end : (cursor.link ≡ 0) × (length numbers ≤ cursor.at) → p.rest ≡ [] =
    λ e. end-left build.keyed.numbers.items (length build.keyed.keys.keys) build.keyed.next.items numbers (wants_asked (kept_side build)) cursor p.rest e.0 e.1 p.left in
    subst (λ (rs : List Row). GivesSome (AreFoundFrom build asked cursor) limit rs some) (sym h.2)
    (gives-first (AreFoundFrom build asked cursor) f limit h.0 p.rest lefts rights some p.put room (by full p.rest at_end) (rows-from-items build asked numbers cursor p.rest built looked p.left) rows (λ is. at_end (ended is))
    (λ none. let e = settled p.rest p.left none in open_end e.0 e.1))
  where
    by : ((cursor.link ≡ 0) × (length numbers ≤ cursor.at)) ⊎ (length lefts ≡ limit) → (items : List JoinItem) → ((cursor.link ≡ 0) × (length numbers ≤ cursor.at) → items ≡ []) → (items ≡ []) ⊎ (length lefts ≡ limit)
    by (inl e) items at_end = inl (at_end e)
    by (inr is) items at_end = inr is
