-- Keys that arrive with the rows of a frame, and the rows that have them first.
use Rattle.std.proofs.Common.{◌≡◌, ◌<◌, ◌≤◌, ◌++◌, [], ◌∷◌, List, ℕ, zero, suc, ◌+◌, length, take, drop, slice_get, get_or, map, replicate, Some, refl, arith, ap, ◌∙◌, sym, Bool, true, false, if◌then◌else◌, ◌||◌, nat_lt, subst, inl, inr, append_assoc}
use Rattle.std.specs.Prelude.{◌==◌, Err}
use Rattle.std.specs.List.{All}
use Rattle.std.proofs.lemmas.List.{length-map, append-nil, length-append, map_more}
use Rattle.std.proofs.lemmas.Option.{slice_get_within}
use Rattle.morsel_meaning.specs.declared.fault.Fault.{Fault}
use Rattle.morsel_meaning.specs.declared.fault.Fault.TheVariants as faults
use Rattle.morsel_meaning.specs.declared.value.ColType.{ColType}
use Rattle.morsel_meaning.specs.declared.value.ColType.TheVariants as types
use Rattle.morsel_meaning.specs.declared.value.Value.{Value}
use Rattle.morsel_meaning.specs.declared.value.Field.{Field}
use Rattle.morsel_meaning.specs.Values.{Row, Table, kinds_of}
use Rattle.morsel_frame.specs.Columns.{Values, value_at}
use Rattle.morsel_frame.specs.Frames.{Fit, rows_of, with_column}
use Rattle.morsel_frame.specs.Tables.{cell_at, cells_at, fields_at, rows_at}
use Rattle.morsel_frame.proofs.SelectLemmas.{field-at}
use Rattle.morsel_keys.specs.Slots.{NumbersAll, IsNewKey, StopsNumbering, RefusesKey, no_number}
use Rattle.morsel_group.specs.Asked.{kind_in, kind_of_fields}
use Rattle.morsel_group.specs.Fresh.{fresh_from, picked_from}
use Rattle.morsel_group.specs.Grouping.{arrived}
use Rattle.morsel_group.specs.declared.table.GroupKeys.{GroupKeys}
use Rattle.morsel_group.specs.declared.table.GroupKeys.TheVariants as group_keys
use Rattle.morsel_group.specs.Arrivals.{keyed_in, RefusesKeys}
use Rattle.morsel_group.proofs.CountLemmas.{split_at}
use Rattle.morsel_group.proofs.PlanLemmas.{kind_of_kinds}
use Rattle.morsel_group.proofs.TakeLemmas.{AreNumbered, numbered}
use Rattle.morsel_group.proofs.KeyLemmas.{numbers_arrived, arrived-append, arrived-longer, gives_with_key}

head_of : {X : Type 0} (xs : List X) (i : ℕ) (x d : X) (rest : List X) → drop i xs ≡ x ∷ rest → get_or xs i d ≡ x
head_of [] zero x d rest e = cc
head_of [] (suc i) x d rest e = cc
head_of (y ∷ ys) zero x d rest e = cc
head_of (y ∷ ys) (suc i) x d rest e = head_of ys i x d rest e

tail_of : {X : Type 0} (xs : List X) (i : ℕ) (x : X) (rest : List X) → drop i xs ≡ x ∷ rest → drop (suc i) xs ≡ rest
tail_of [] zero x rest e = cc
tail_of [] (suc i) x rest e = cc
tail_of (y ∷ ys) zero x rest e = cc
tail_of (y ∷ ys) (suc i) x rest e = tail_of ys i x rest e

next_place : (i : ℕ) → i + 1 ≡ suc i
next_place i = omega arith

fresh_step : (number next row : ℕ) (numbers : List ℕ) (t : Bool) → (number == next) ≡ t → fresh_from next row (number ∷ numbers) ≡ (if t then row ∷ fresh_from (next + 1) (row + 1) numbers else fresh_from next (row + 1) numbers)
fresh_step number next row numbers t q = ap (λ (s : Bool). if s then row ∷ fresh_from (next + 1) (row + 1) numbers else fresh_from next (row + 1) numbers) q

-- the rows that have new keys first have those that come last
pub fresh_keys : (f : Row → Row) (all old rows : List Row) (i : ℕ) (ats : List ℕ) (new : List Row) → drop i all ≡ rows → NumbersAll old (map f rows) ats new → new ≡ old ++ map f (rows_at all (fresh_from (length old) i ats))
fresh_keys f all old [] i [] new here numbers = numbers ∙ sym (append-nil old)
fresh_keys f all old [] i (at ∷ ats) new here numbers = absurd numbers
fresh_keys f all old (row ∷ rows) i [] new here numbers = absurd numbers
fresh_keys f all old (row ∷ rows) i (at ∷ ats) new here (mid, inl (held, same), later) =
    let within = slice_get_within old at (f row) held in
    fresh_keys f all mid rows (i + 1) ats new (ap (λ n. drop n all) (next_place i) ∙ tail_of all i row rows here) later
    ∙ ap (λ (ks : List Row). ks ++ map f (rows_at all (fresh_from (length ks) (i + 1) ats))) same
    ∙ sym (ap (λ rs. old ++ map f (rows_at all rs)) (fresh_step at (length old) i ats false (grind (arith, within))))
fresh_keys f all old (row ∷ rows) i (at ∷ ats) new here (mid, inr (absent, next, last), later) =
    let len : length mid ≡ length old + 1 = ap length last ∙ length-append old (f row ∷ []) in
    let mine : f (get_or all i []) ≡ f row = ap f (head_of all i row [] rows here) in
    fresh_keys f all mid rows (i + 1) ats new (ap (λ n. drop n all) (next_place i) ∙ tail_of all i row rows here) later
    ∙ ap (λ n. mid ++ map f (rows_at all (fresh_from n (i + 1) ats))) len
    ∙ ap (λ ks. ks ++ map f (rows_at all (fresh_from (length old + 1) (i + 1) ats))) last
    ∙ append_assoc old (f row ∷ []) (map f (rows_at all (fresh_from (length old + 1) (i + 1) ats)))
    ∙ ap (λ k. old ++ k ∷ map f (rows_at all (fresh_from (length old + 1) (i + 1) ats))) (sym mine)
    ∙ sym (ap (λ rs. old ++ map f (rows_at all rs)) (fresh_step at (length old) i ats true (grind (arith, next))))

-- where no number is new, no row is
pub none_fresh : (next row : ℕ) (numbers : List ℕ) → ((k : ℕ) → k < length numbers → get_or numbers k 0 < next) → fresh_from next row numbers ≡ []
none_fresh next row [] below = refl
none_fresh next row (number ∷ numbers) below =
    let here = below zero (omega arith) in
    fresh_step number next row numbers false (grind (arith, here)) ∙ none_fresh next (row + 1) numbers (λ k within. below (suc k) (omega (arith, within)))

-- there are no more of them than rows
pub few_fresh : (next row : ℕ) (numbers : List ℕ) → length (fresh_from next row numbers) ≤ length numbers
few_fresh next row [] = omega arith
few_fresh next row (number ∷ numbers) = by (number == next) refl (few_fresh (next + 1) (row + 1) numbers) (few_fresh next (row + 1) numbers)
  where
    by : (t : Bool) → (number == next) ≡ t → length (fresh_from (next + 1) (row + 1) numbers) ≤ length numbers → length (fresh_from next (row + 1) numbers) ≤ length numbers → length (fresh_from next row (number ∷ numbers)) ≤ length (number ∷ numbers)
    by true q taken passed = let n = ap length (fresh_step number next row numbers true q) in omega (arith, n, taken)
    by false q taken passed = let n = ap length (fresh_step number next row numbers false q) in omega (arith, n, passed)

-- columns that are picked fit the fields at their places
pub fit_picked : (table : Table) (places rows : List ℕ) → All (λ at. at < length table.schema) places → Fit (fields_at table.schema places) (length rows) (picked_from table places rows)
fit_picked table [] rows within = tt
fit_picked table (at ∷ places) rows within =
    let blank : Field = record { name = []; kind = types.Int } in
    let here : at < length table.schema = within zero 0 (omega arith) in
    let field = field-at table.schema at blank here in
    let kind : kind_of_fields (drop at table.schema) ≡ (get_or table.schema at blank).kind = kind_at table.schema at blank here in
    subst (λ (fs : List Field). Fit (fs ++ fields_at table.schema places) (length rows) (picked_from table (at ∷ places) rows)) (sym field)
    (kind, length-map rows (value_at (map (cell_at at) table.rows)), fit_picked table places rows (λ k d inside. within (suc k) d (omega (arith, inside))))
  where
    kind_at : (fields : List Field) (at : ℕ) (d : Field) → at < length fields → kind_of_fields (drop at fields) ≡ (get_or fields at d).kind
    kind_at [] at d inside = absurd (omega (arith, inside))
    kind_at (field ∷ fields) zero d inside = refl
    kind_at (field ∷ fields) (suc at) d inside = kind_at fields at d (omega (arith, inside))

value_of_row : (at : ℕ) (all : List Row) (k : ℕ) → value_at (map (cell_at at) all) k ≡ cell_at at (get_or all k [])
value_of_row at [] k = refl
value_of_row at (row ∷ all) zero = refl
value_of_row at (row ∷ all) (suc k) = value_of_row at all k

with_picked : (at : ℕ) (places : List ℕ) (all : List Row) (rows : List ℕ) → with_column (map (value_at (map (cell_at at) all)) rows) (map (cells_at places) (rows_at all rows)) ≡ map (cells_at (at ∷ places)) (rows_at all rows)
with_picked at places all [] = refl
with_picked at places all (k ∷ rows) = ap (λ v. (v ∷ cells_at places (get_or all k [])) ∷ with_column (map (value_at (map (cell_at at) all)) rows) (map (cells_at places) (rows_at all rows))) (value_of_row at all k)
    ∙ ap (λ rs. cells_at (at ∷ places) (get_or all k []) ∷ rs) (with_picked at places all rows)

-- and are the rows' cells at these places
pub rows_picked : (table : Table) (places rows : List ℕ) → rows_of (length rows) (picked_from table places rows) ≡ map (cells_at places) (rows_at table.rows rows)
rows_picked table [] rows = none rows
  where
    none : (rows : List ℕ) → replicate (length rows) [] ≡ map (cells_at []) (rows_at table.rows rows)
    none [] = refl
    none (k ∷ rows) = ap (λ (rs : List Row). [] ∷ rs) (none rows)
rows_picked table (at ∷ places) rows = ap (with_column (map (value_at (map (cell_at at) table.rows)) rows)) (rows_picked table places rows) ∙ with_picked at places table.rows rows

-- a key that is refused is one too many
pub stops_many : (old vs : List Row) (fault : Fault) (new : List Row) → StopsNumbering old vs fault new → RefusesKeys old vs fault
stops_many old vs fault new stops = by fault stops.refused
  where
    past : IsNewKey stops.key new → length new ≡ no_number → no_number < length (arrived old vs)
    past absent full =
        let before : new ≡ arrived old (take stops.at vs) = numbers_arrived old (take stops.at vs) stops.numbers new stops.before in
        let split : arrived old vs ≡ arrived (arrived new (stops.key ∷ [])) (drop (suc stops.at) vs) =
        ap (arrived old) (split_at vs stops.at stops.key stops.stopped)
        ∙ arrived-append old (take stops.at vs) (stops.key ∷ drop (suc stops.at) vs)
        ∙ ap (λ ks. arrived ks (stops.key ∷ drop (suc stops.at) vs)) (sym before) in
        let one : new ++ stops.key ∷ [] ≡ arrived new (stops.key ∷ []) = gives_with_key new stops.key (length new) (new ++ stops.key ∷ []) (inr (absent, refl, refl)) in
        let n = length-append new (stops.key ∷ []) in
        let m = ap length one in
        let longer = arrived-longer (arrived new (stops.key ∷ [])) (drop (suc stops.at) vs) in
        let k = ap length split in
        omega (arith, full, n, m, longer, k)

    by : (fault : Fault) → RefusesKey new stops.key (Err fault) → RefusesKeys old vs fault
    by faults.OutOfMemory refused = inl refl
    by (faults.ReadFault file) (is, absent, full) = inr (is, past absent full)
    by faults.WriteFault (is, absent, full) = inr (is, past absent full)
    by (faults.InvalidQuery why) (is, absent, full) = inr (is, past absent full)
    by (faults.Malformed file at) (is, absent, full) = inr (is, past absent full)
    by (faults.Unsupported file code) (is, absent, full) = inr (is, past absent full)
    by (faults.ColumnNotFound name) (is, absent, full) = inr (is, past absent full)
    by (faults.SchemaMismatch name) (is, absent, full) = inr (is, past absent full)
    by (faults.Duplicate name) (is, absent, full) = inr (is, past absent full)
    by (faults.ComputeError kind file at) (is, absent, full) = inr (is, past absent full)
    by faults.QueryText (is, absent, full) = inr (is, past absent full)
    by faults.Usage (is, absent, full) = inr (is, past absent full)

-- all rows have the one key of no columns
pub alone_numbers : (there : Bool) (rows : List Row) → NumbersAll (if there then [] ∷ [] else []) (map (cells_at []) rows) (replicate (length rows) 0) (if (there || nat_lt 0 (length rows)) then [] ∷ [] else [])
alone_numbers true [] = refl
alone_numbers false [] = refl
alone_numbers true (row ∷ rows) = ([] ∷ [], inl (refl, refl), alone_numbers true rows)
alone_numbers false (row ∷ rows) =
    let some : nat_lt 0 (length (row ∷ rows)) ≡ true = grind arith in
    subst (λ (t : Bool). NumbersAll [] (map (cells_at []) (row ∷ rows)) (replicate (length (row ∷ rows)) 0) (if t then [] ∷ [] else [])) (sym some) ([] ∷ [], inr ((λ k e. cc), refl, refl), alone_numbers true rows)

-- one column more
pub picked_more : (table : Table) (places rows : List ℕ) (i : ℕ) (columns more : List Values) (from : Values) (column : Values) → i < length places → columns ≡ picked_from table (take i places) rows
    → slice_get (kinds_of table.schema) (get_or places i 0) ≡ Some from.kind → from.values ≡ map (cell_at (get_or places i 0)) table.rows → column ≡ record { kind = from.kind; values = map (value_at from.values) rows }
    → more ≡ columns ++ column ∷ [] → more ≡ picked_from table (take (i + 1) places) rows
picked_more table places rows i columns more from column within before kind values is pushed =
    let kind_is : kind_of_fields (drop (get_or places i 0) table.schema) ≡ from.kind = kind_of_kinds table.schema (get_or places i 0) from.kind kind in
    let whole : column ≡ record { kind = kind_of_fields (drop (get_or places i 0) table.schema); values = map (value_at (map (cell_at (get_or places i 0)) table.rows)) rows } =
    is ∙ ap (λ (vs : List Value). record { kind = from.kind; values = map (value_at vs) rows }) values ∙ ap (λ (k : ColType). record { kind = k; values = map (value_at (map (cell_at (get_or places i 0)) table.rows)) rows }) (sym kind_is) in
    pushed ∙ ap (λ cs. cs ++ column ∷ []) before ∙ ap (λ c. picked_from table (take i places) rows ++ c ∷ []) whole
    ∙ sym (map_more (λ at. record { kind = kind_in table.schema (Some at); values = map (value_at (map (cell_at at) table.rows)) rows }) places i 0 within)

-- the columns of the rows that are new are a table of them
pub fresh_table : (table : Table) (fields : List Field) (places fresh : List ℕ) (columns : List Values) (len : ℕ) → All (λ at. at < length table.schema) places → fields ≡ fields_at table.schema places → columns ≡ picked_from table places fresh → len ≡ length fresh
    → Fit fields len columns
fresh_table table fields places fresh columns len within are picked is =
    subst (λ (n : ℕ). Fit fields n columns) (sym is) (subst (λ (fs : List Field). Fit fs (length fresh) columns) (sym are) (subst (λ (cs : List Values). Fit (fields_at table.schema places) (length fresh) cs) (sym picked) (fit_picked table places fresh within)))

pub fresh_rows : (table : Table) (places fresh : List ℕ) (columns : List Values) (len : ℕ) → columns ≡ picked_from table places fresh → len ≡ length fresh → rows_of len columns ≡ map (cells_at places) (rows_at table.rows fresh)
fresh_rows table places fresh columns len picked is = ap (λ n. rows_of n columns) is ∙ ap (rows_of (length fresh)) picked ∙ rows_picked table places fresh

pub fresh_len : (table : Table) (places fresh : List ℕ) → length (map (cells_at places) (rows_at table.rows fresh)) ≡ length fresh
fresh_len table places fresh = length-map (rows_at table.rows fresh) (cells_at places) ∙ length-map fresh (λ row. get_or table.rows row [])

-- each number is below the count of the keys that have numbers
pub numbers_below : (old vs : List Row) (ats : List ℕ) (new : List Row) → NumbersAll old vs ats new → (k : ℕ) (d : ℕ) → k < length ats → get_or ats k d < length new
numbers_below old vs ats new numbers = below new vs ats (numbered old vs ats new numbers)
  where
    below : (keys vs : List Row) (ats : List ℕ) → AreNumbered keys vs ats → (k : ℕ) (d : ℕ) → k < length ats → get_or ats k d < length keys
    below keys [] [] all k d within = absurd (omega (arith, within))
    below keys [] (at ∷ ats) all k d within = absurd all
    below keys (v ∷ vs) [] all k d within = absurd all
    below keys (v ∷ vs) (at ∷ ats) (first, later) zero d within = slice_get_within keys at v first
    below keys (v ∷ vs) (at ∷ ats) (first, later) (suc k) d within = below keys vs ats later k d (omega (arith, within))

-- there are no fewer keys than before
pub numbers_longer : (old vs : List Row) (ats : List ℕ) (new : List Row) → NumbersAll old vs ats new → length old ≤ length new
numbers_longer old vs ats new numbers = let is = ap length (numbers_arrived old vs ats new numbers) in let n = arrived-longer old vs in omega (arith, is, n)

no_fields : (fields : List Field) (columns : List ℕ) → All (λ at. at < length fields) columns → kinds_of (fields_at fields columns) ≡ [] → columns ≡ []
no_fields fields [] within none = refl
no_fields fields (at ∷ columns) within none =
    let blank : Field = record { name = []; kind = types.Int } in
    let here : at < length fields = within zero 0 (omega arith) in
    let some : kinds_of ((get_or fields at blank ∷ []) ++ fields_at fields columns) ≡ [] = sym (ap (λ (fs : List Field). kinds_of (fs ++ fields_at fields columns)) (field-at fields at blank here)) ∙ none in
    cc

-- the one key of no columns, where it is new or was there before
pub alone_rows : (table : GroupKeys) (there : Bool) (fields : List Field) (columns : List ℕ) (rows : List Row) (count : ℕ) (out : List ℕ) (then_there : Bool) → table ≡ group_keys.Alone there → All (λ at. at < length fields) columns
    → kinds_of (fields_at fields columns) ≡ (keyed_in table).kinds → count ≡ length rows → out ≡ replicate count 0 → then_there ≡ (there || nat_lt 0 count)
    → NumbersAll (keyed_in table).keys (map (cells_at columns) rows) out (if then_there then [] ∷ [] else [])
alone_rows table there fields columns rows count out then_there is within kinds len all now =
    let none : kinds_of (fields_at fields columns) ≡ [] = kinds ∙ ap (λ (t : GroupKeys). (keyed_in t).kinds) is in
    let empty = no_fields fields columns within none in
    subst (λ (t : GroupKeys). NumbersAll (keyed_in t).keys (map (cells_at columns) rows) out (if then_there then [] ∷ [] else [])) (sym is)
    (subst (λ (cs : List ℕ). NumbersAll (if there then [] ∷ [] else []) (map (cells_at cs) rows) out (if then_there then [] ∷ [] else [])) (sym empty)
    (subst (λ (ns : List ℕ). NumbersAll (if there then [] ∷ [] else []) (map (cells_at []) rows) ns (if then_there then [] ∷ [] else [])) (sym (all ∙ ap (λ n. replicate n 0) len))
    (subst (λ (t : Bool). NumbersAll (if there then [] ∷ [] else []) (map (cells_at []) rows) (replicate (length rows) 0) (if t then [] ∷ [] else [])) (sym (now ∙ ap (λ n. there || nat_lt 0 n) len)) (alone_numbers there rows))))
