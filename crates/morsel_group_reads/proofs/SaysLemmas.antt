-- What a group-by says of rows that have only the columns that it reads is what it says of the whole rows.
use Rattle.std.proofs.Common.{◌≡◌, ◌<◌, ◌++◌, [], ◌∷◌, List, ℕ, zero, suc, length, map, slice_get, None, Some, refl, ap, ◌∙◌, sym, subst, Bool, true, false, if◌then◌else◌}
use Rattle.std.specs.Prelude.{Option, option_map}
use Rattle.std.proofs.lemmas.List.{length-map, map-id}
use Rattle.morsel_meaning.specs.declared.fault.Fault.{Fault}
use Rattle.morsel_meaning.specs.declared.fault.Fault.TheVariants as faults
use Rattle.morsel_meaning.specs.declared.fault.ComputeKind.TheVariants as kinds
use Rattle.morsel_meaning.specs.declared.value.Field.{Field}
use Rattle.morsel_meaning.specs.declared.value.Value.{Value}
use Rattle.morsel_meaning.specs.Values.{Row}
use Rattle.morsel_frame.specs.Tables.{cell_at, cells_at}
use Rattle.morsel_expr.specs.Flaws.{absence}
use Rattle.morsel_keys.specs.declared.reduction.Reduction.{Reduction}
use Rattle.morsel_keys.specs.Groups.{passing}
use Rattle.morsel_keys.specs.Reductions.{len_limit, reduction_of, sum_fault, total_of}
use Rattle.morsel_group.specs.declared.spec.Agg.{Agg}
use Rattle.morsel_group.specs.Asked.{GroupAsked, GroupShape, Reducer, column_place, reducer_of, shape_of}
use Rattle.morsel_group.specs.Grouping.{Grouped, IsKeyOf, group_row, reduced_rows, rows_of_key, same_key, value_in}
use Rattle.morsel_group.specs.GroupCauses.{FitsGroups, GroupCause, HasLargeTotal, HasLongRows, HasManyGroups}
use Rattle.morsel_group.specs.GroupFlaws.{absence_of_agg, agg_absence, group_flaw, key_absence}
use Rattle.morsel_group_reads.specs.Reads.{kept_by}
use Rattle.morsel_group_reads.proofs.LookupLemmas.{fields_kept}
use Rattle.morsel_group_reads.proofs.FlawLemmas.{AreRead, ReadAll, agg_read, aggs_read, first_none, first_read, found_of, keys_read, later_aggs_read, later_read, meets, place_in}

-- what a group-by of rows says, another one says of others
pub record SaysOf (one two : GroupShape) (rows others : List Row) : Type 0 where
  pub grouped : (list : List Row) → Grouped one rows list → Grouped two others list
  pub cause : (fault : Fault) → GroupCause one rows fault → GroupCause two others fault
  pub fits : FitsGroups one rows → FitsGroups two others

-- each says so of itself
pub says_itself : (shape : GroupShape) (rows : List Row) → SaysOf shape shape rows rows
says_itself shape rows = record { grouped = λ list is. is; cause = λ fault has. has; fits = λ fit. fit }

map_same : {X Y : Type 0} (one two : X → Y) → ((x : X) → one x ≡ two x) → (xs : List X) → map one xs ≡ map two xs
map_same one two same [] = refl
map_same {X} {Y} one two same (x ∷ xs) = ap (λ (first : Y). first ∷ map one xs) (same x) ∙ ap (λ (more : List Y). two x ∷ more) (map_same one two same xs)

map_twice : {X Y Z : Type 0} (one : X → Y) (two : Y → Z) (xs : List X) → map two (map one xs) ≡ map (λ x. two (one x)) xs
map_twice one two [] = refl
map_twice {Z} one two (x ∷ xs) = ap (λ (more : List Z). two (one x) ∷ more) (map_twice one two xs)

pass_same : {X : Type 0} (one two : X → Bool) → ((x : X) → one x ≡ two x) → (xs : List X) → passing one xs ≡ passing two xs
pass_same one two same [] = refl
pass_same {X} one two same (x ∷ xs) = ap (λ (t : Bool). if t then x ∷ passing one xs else passing one xs) (same x) ∙ ap (λ (more : List X). if two x then x ∷ more else more) (pass_same one two same xs)

pass_map : {X Y : Type 0} (test : Y → Bool) (call : X → Y) (xs : List X) → passing test (map call xs) ≡ map call (passing (λ x. test (call x)) xs)
pass_map test call [] = refl
pass_map {X} {Y} test call (x ∷ xs) = by (test (call x)) (pass_map test call xs)
  where
    by : (t : Bool) → passing test (map call xs) ≡ map call (passing (λ z. test (call z)) xs)
        → (if t then call x ∷ passing test (map call xs) else passing test (map call xs)) ≡ map call (if t then x ∷ passing (λ z. test (call z)) xs else passing (λ z. test (call z)) xs)
    by true later = ap (λ (more : List Y). call x ∷ more) later
    by false later = later

no_value : {X : Type 0} {x : X} → None ≡ Some x → ⊥
no_value e = cc

some_same : {X : Type 0} {x y : X} → Some x ≡ Some y → x ≡ y
some_same e = cc

-- what is at a place of what a call makes is made of what is there
got_map : {X Y : Type 0} (call : X → Y) (xs : List X) (at : ℕ) (y : Y) → slice_get (map call xs) at ≡ Some y → (x : X) × (slice_get xs at ≡ Some x) × (call x ≡ y)
got_map call [] zero y got = absurd (no_value got)
got_map call [] (suc at) y got = absurd (no_value got)
got_map call (x ∷ xs) zero y got = (x, refl, some_same got)
got_map call (x ∷ xs) (suc at) y got = got_map call xs at y got

map_got : {X Y : Type 0} (call : X → Y) (xs : List X) (at : ℕ) (x : X) → slice_get xs at ≡ Some x → slice_get (map call xs) at ≡ Some (call x)
map_got call [] zero x got = absurd (no_value got)
map_got call [] (suc at) x got = absurd (no_value got)
map_got call (z ∷ xs) zero x got = ap (λ w. Some (call w)) (some_same got)
map_got call (z ∷ xs) (suc at) x got = map_got call xs at x got

-- reductions that are the same, and that read the same values of things
abbrev pub SameReducers : {X : Type 0} → (X → Row) → (X → Row) → List Reducer → List Reducer → Type 0
SameReducers one two [] [] = Unit {0}
SameReducers one two [] (b ∷ bs) = ⊥
SameReducers one two (a ∷ as_) [] = ⊥
SameReducers {X} one two (a ∷ as_) (b ∷ bs) = (a.op ≡ b.op) × ((x : X) → value_in a.column (one x) ≡ value_in b.column (two x)) × SameReducers one two as_ bs

-- two group-bys read the same of each thing, of which there are two rows
pub record ReadSame {X : Type 0} (one two : X → Row) (first second : GroupShape) : Type 0 where
  pub keys : (x : X) → cells_at first.keys (one x) ≡ cells_at second.keys (two x)
  pub aggs : SameReducers one two first.aggs second.aggs

reducers_back : {X : Type 0} (one two : X → Row) (as_ bs : List Reducer) → SameReducers one two as_ bs → SameReducers two one bs as_
reducers_back one two [] [] same = tt
reducers_back one two [] (b ∷ bs) same = absurd same
reducers_back one two (a ∷ as_) [] same = absurd same
reducers_back one two (a ∷ as_) (b ∷ bs) (op, values, later) = (sym op, (λ x. sym (values x)), reducers_back one two as_ bs later)

same_back : {X : Type 0} (one two : X → Row) (first second : GroupShape) → ReadSame one two first second → ReadSame two one second first
same_back one two first second same = record { keys = λ x. sym (same.keys x); aggs = reducers_back one two first.aggs second.aggs same.aggs }

-- the other's reduction at a place
reducer_got : {X : Type 0} (one two : X → Row) (as_ bs : List Reducer) → SameReducers one two as_ bs → (at : ℕ) (a : Reducer) → slice_get as_ at ≡ Some a
    → (b : Reducer) × (slice_get bs at ≡ Some b) × (a.op ≡ b.op) × ((x : X) → value_in a.column (one x) ≡ value_in b.column (two x))
reducer_got one two [] [] same zero a got = absurd (no_value got)
reducer_got one two [] [] same (suc at) a got = absurd (no_value got)
reducer_got one two [] (b ∷ bs) same at a got = absurd same
reducer_got one two (c ∷ as_) [] same at a got = absurd same
reducer_got {X} one two (c ∷ as_) (b ∷ bs) (op, values, later) zero a got =
    (b, refl, ap (λ (r : Reducer). r.op) (sym (some_same got)) ∙ op, λ (x : X). ap (λ (r : Reducer). value_in r.column (one x)) (sym (some_same got)) ∙ values x)
reducer_got one two (c ∷ as_) (b ∷ bs) (op, values, later) (suc at) a got = reducer_got one two as_ bs later at a got

module _ {X : Type 0} (one two : X → Row) (first second : GroupShape) (same : ReadSame one two first second) (xs : List X) where
  -- the things of a key
  abbrev of_key : Row → List X
  of_key key = passing (λ x. same_key key (cells_at first.keys (one x))) xs

  first_rows : (key : Row) → rows_of_key first key (map one xs) ≡ map one (of_key key)
  first_rows key = pass_map (λ (row : Row). same_key key (cells_at first.keys row)) one xs

  second_rows : (key : Row) → rows_of_key second key (map two xs) ≡ map two (of_key key)
  second_rows key = pass_map (λ (row : Row). same_key key (cells_at second.keys row)) two xs
      ∙ ap (map two) (pass_same (λ x. same_key key (cells_at second.keys (two x))) (λ x. same_key key (cells_at first.keys (one x))) (λ x. ap (same_key key) (sym (same.keys x))) xs)

  -- they read the same values
  values_same : (a b : Reducer) → ((x : X) → value_in a.column (one x) ≡ value_in b.column (two x)) → (ys : List X) → map (value_in a.column) (map one ys) ≡ map (value_in b.column) (map two ys)
  values_same a b values ys = map_twice one (value_in a.column) ys ∙ map_same (λ x. value_in a.column (one x)) (λ x. value_in b.column (two x)) values ys ∙ sym (map_twice two (value_in b.column) ys)

  reduced_same : (as_ bs : List Reducer) → SameReducers one two as_ bs → (ys : List X) → map (reduced_rows (map one ys)) as_ ≡ map (reduced_rows (map two ys)) bs
  reduced_same [] [] reducers ys = refl
  reduced_same [] (b ∷ bs) reducers ys = absurd reducers
  reduced_same (a ∷ as_) [] reducers ys = absurd reducers
  reduced_same (a ∷ as_) (b ∷ bs) (op, values, later) ys =
      ap (λ (o : Reduction). reduction_of o (map (value_in a.column) (map one ys)) ∷ map (reduced_rows (map one ys)) as_) op
      ∙ ap (λ (vs : List Value). reduction_of b.op vs ∷ map (reduced_rows (map one ys)) as_) (values_same a b values ys)
      ∙ ap (λ (more : List Value). reduction_of b.op (map (value_in b.column) (map two ys)) ∷ more) (reduced_same as_ bs later ys)

  -- the row of a key is the same
  group_row_same : (key : Row) → group_row first (map one xs) key ≡ group_row second (map two xs) key
  group_row_same key = ap (λ (values : Row). key ++ values)
      (ap (λ (rows : List Row). map (reduced_rows rows) first.aggs) (first_rows key) ∙ reduced_same first.aggs second.aggs same.aggs (of_key key)
      ∙ ap (λ (rows : List Row). map (reduced_rows rows) second.aggs) (sym (second_rows key)))

  -- a key of the one is a key of the other
  key_same : (key : Row) → IsKeyOf first (map one xs) key → IsKeyOf second (map two xs) key
  key_same key (at, row, got, is) = let found = got_map one xs at row got in
      (at, two found.0, map_got two xs at found.0 found.1, sym (same.keys found.0) ∙ ap (cells_at first.keys) found.2 ∙ is)

  many_same : HasManyGroups first (map one xs) → HasManyGroups second (map two xs)
  many_same many = record { keys = many.keys; once = many.once; each = λ k d within. key_same _ (many.each k d within); many = many.many }

  long_same : HasLongRows first (map one xs) → HasLongRows second (map two xs)
  long_same (key, long) = (key, subst (λ (n : ℕ). len_limit < n) (ap (λ (rows : List Row). length rows) (first_rows key) ∙ length-map (of_key key) one ∙ sym (length-map (of_key key) two) ∙ ap (λ (rows : List Row). length rows) (sym (second_rows key))) long)

  large_same : HasLargeTotal first (map one xs) → HasLargeTotal second (map two xs)
  large_same large =
      let other = reducer_got one two first.aggs second.aggs same.aggs large.place large.agg large.asked in record {
        place = large.place;
        agg = other.0;
        asked = other.1;
        is_sum = sym other.2 ∙ large.is_sum;
        key = large.key;
        large = ap (λ (values : List Value). sum_fault (total_of values))
            (ap (map (value_in other.0.column)) (second_rows large.key) ∙ sym (values_same large.agg other.0 other.3 (of_key large.key)) ∙ ap (map (value_in large.agg.column)) (sym (first_rows large.key)))
            ∙ large.large;
      }

  cause_same : (fault : Fault) → GroupCause first (map one xs) fault → GroupCause second (map two xs) fault
  cause_same (faults.ComputeError kinds.TooManyGroups file at) (is_file, is_at, has) = (is_file, is_at, many_same has)
  cause_same (faults.ComputeError kinds.LenTooLarge file at) (is_file, is_at, has) = (is_file, is_at, long_same has)
  cause_same (faults.ComputeError kinds.SumTooLarge file at) (is_file, is_at, has) = (is_file, is_at, large_same has)
  cause_same (faults.ComputeError kinds.NegativeSlice file at) has = absurd has
  cause_same (faults.ComputeError kinds.NotUtf8 file at) has = absurd has
  cause_same (faults.ComputeError kinds.IllTyped file at) has = absurd has
  cause_same (faults.ComputeError kinds.TooManyRows file at) has = absurd has
  cause_same (faults.ComputeError kinds.IndexTooLarge file at) has = absurd has
  cause_same (faults.ComputeError kinds.FooterTooLarge file at) has = absurd has
  cause_same faults.OutOfMemory has = absurd has
  cause_same (faults.ReadFault file) has = absurd has
  cause_same faults.WriteFault has = absurd has
  cause_same (faults.InvalidQuery why) has = absurd has
  cause_same (faults.Malformed file at) has = absurd has
  cause_same (faults.Unsupported file code) has = absurd has
  cause_same (faults.ColumnNotFound column) has = absurd has
  cause_same (faults.SchemaMismatch column) has = absurd has
  cause_same (faults.Duplicate column) has = absurd has
  cause_same faults.QueryText has = absurd has
  cause_same faults.Usage has = absurd has

module _ {X : Type 0} (one two : X → Row) (first second : GroupShape) (same : ReadSame one two first second) (xs : List X) where
  back : ReadSame two one second first
  back = same_back one two first second same

  -- what is read the same is grouped the same
  says_same : SaysOf first second (map one xs) (map two xs)
  says_same = record {
    grouped = λ list is. record {
      keys = is.keys;
      once = is.once;
      each = λ key. ((λ there. key_same one two first second same xs key ((is.each key).0 there)), λ has. (is.each key).1 (key_same two one second first back xs key has));
      rows_are = is.rows_are ∙ map_same (group_row first (map one xs)) (group_row second (map two xs)) (group_row_same one two first second same xs) is.keys;
    };
    cause = cause_same one two first second same xs;
    fits = λ fit. record {
      few = λ many. fit.few (many_same two one second first back xs many);
      short = λ long. fit.short (long_same two one second first back xs long);
      small = λ large. fit.small (large_same two one second first back xs large);
    };
  }

-- the values of the keys
key_cells : (asked : GroupAsked) (fields : List Field) (names : List (List ℕ)) → AreRead asked names → key_absence fields names ≡ None → (row : Row)
    → cells_at (map (column_place (fields_kept asked fields)) names) (kept_by asked fields row) ≡ cells_at (map (column_place fields) names) row
key_cells asked fields [] read none row = refl
key_cells asked fields (name ∷ names) read none row =
    let both = first_none (absence fields name) (key_absence fields names) none in
    let f = found_of asked name fields (first_read asked name names read) both.0 in
    ap (λ (value : Value). value ∷ cells_at (map (column_place (fields_kept asked fields)) names) (kept_by asked fields row))
    (ap (λ (at : ℕ). cell_at at (kept_by asked fields row)) (place_in (fields_kept asked fields) name f.read f.in_read) ∙ f.cell row ∙ ap (λ (at : ℕ). cell_at at row) (sym (place_in fields name f.whole f.in_whole)))
    ∙ ap (λ (more : Row). cell_at (column_place fields name) row ∷ more) (key_cells asked fields names (later_read asked name names read) both.1 row)

-- the values that are reduced
reducers_read : (asked : GroupAsked) (fields : List Field) (aggs : List Agg) → ReadAll asked aggs → agg_absence fields aggs ≡ None
    → SameReducers (λ (row : Row). kept_by asked fields row) (λ (row : Row). row) (map (reducer_of (fields_kept asked fields)) aggs) (map (reducer_of fields) aggs)
reducers_read asked fields [] read none = tt
reducers_read asked fields (agg ∷ aggs) read none =
    let both = first_none (absence_of_agg fields agg.column) (agg_absence fields aggs) none in
    (refl, by agg.column refl both.0, reducers_read asked fields aggs (later_aggs_read asked agg aggs read) both.1)
  where
    by : (column : Option (List ℕ)) → agg.column ≡ column → absence_of_agg fields column ≡ None
        → (row : Row) → value_in (option_map (column_place (fields_kept asked fields)) column) (kept_by asked fields row) ≡ value_in (option_map (column_place fields) column) row
    by None is there row = refl
    by (Some name) is there row =
        let f = found_of asked name fields (agg_read asked agg aggs name read is) there in
        ap (λ (at : ℕ). cell_at at (kept_by asked fields row)) (place_in (fields_kept asked fields) name f.read f.in_read) ∙ f.cell row ∙ ap (λ (at : ℕ). cell_at at row) (sym (place_in fields name f.whole f.in_whole))

-- a group-by of rows with only the columns that it reads says what one of the whole rows says
pub says_read : (asked : GroupAsked) (fields : List Field) → group_flaw fields asked ≡ None → (whole : List Row)
    → SaysOf (shape_of (fields_kept asked fields) asked) (shape_of fields asked) (map (λ (row : Row). kept_by asked fields row) whole) whole
says_read asked fields none whole =
    let m = meets fields asked none in
    let same : ReadSame (λ (row : Row). kept_by asked fields row) (λ (row : Row). row) (shape_of (fields_kept asked fields) asked) (shape_of fields asked)
    = record { keys = key_cells asked fields asked.keys (keys_read asked) m.keys; aggs = reducers_read asked fields asked.aggs (aggs_read asked) m.aggs } in
    subst (SaysOf (shape_of (fields_kept asked fields) asked) (shape_of fields asked) (map (λ (row : Row). kept_by asked fields row) whole)) (map-id whole)
    (says_same (λ (row : Row). kept_by asked fields row) (λ (row : Row). row) (shape_of (fields_kept asked fields) asked) (shape_of fields asked) same whole)
