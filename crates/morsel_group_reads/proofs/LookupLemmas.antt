-- Where a column that is read is among all columns, and among those that are read.
use Rattle.std.proofs.Common.{◌≡◌, ◌+◌, ◌++◌, [], ◌∷◌, List, ℕ, zero, suc, drop, take, slice_get, map, None, Some, refl, ap, ◌∙◌, sym, subst, Bool, true, false, if◌then◌else◌, is_some, arith}
use Rattle.std.specs.Prelude.{Option}
use Rattle.std.specs.List.{position_from}
use Rattle.std.specs.Str.{bytes_eq}
use Rattle.std.proofs.lemmas.Iterator.Adapters.{position_from-zero}
use Rattle.std.proofs.lemmas.Slice.Eq.{bytes_eq-Decides}
use Rattle.morsel_meaning.specs.declared.value.Field.{Field}
use Rattle.morsel_meaning.specs.declared.value.Value.{Value}
use Rattle.morsel_meaning.specs.declared.value.Value.TheVariants as values
use Rattle.morsel_meaning.specs.Values.{Row, kinds_of}
use Rattle.morsel_frame.specs.Tables.{cell_at}
use Rattle.morsel_expr.specs.Predicates.{place_of}
use Rattle.morsel_group.specs.Asked.{GroupAsked}
use Rattle.morsel_group_reads.specs.Reads.{is_read, kept_by}

-- the columns that are read
abbrev pub fields_kept : GroupAsked → List Field → List Field
fields_kept asked fields = kept_by asked fields fields

-- a column has a place among all, and one among those that are read, where places are counted from these numbers on: it is the same column, and each row has the same value there
pub record FoundFrom (asked : GroupAsked) (name : List ℕ) (fields : List Field) (i j : ℕ) : Type 0 where
  pub whole : ℕ
  pub read : ℕ
  pub in_whole : position_from (λ (field : Field). bytes_eq field.name name) i fields ≡ Some (i + whole)
  pub in_read : position_from (λ (field : Field). bytes_eq field.name name) j (fields_kept asked fields) ≡ Some (j + read)
  pub field : take 1 (drop read (fields_kept asked fields)) ≡ take 1 (drop whole fields)
  pub kind : slice_get (kinds_of (fields_kept asked fields)) read ≡ slice_get (kinds_of fields) whole
  pub cell : (row : Row) → cell_at read (kept_by asked fields row) ≡ cell_at whole row

no_cell : (at : ℕ) → cell_at at [] ≡ values.Null
no_cell zero = refl
no_cell (suc at) = refl

-- a column that is not the first is found behind it
found_later : (asked : GroupAsked) (name : List ℕ) (field : Field) (fields : List Field) (i j : ℕ) (t : Bool) → is_read asked field.name ≡ t → bytes_eq field.name name ≡ false
    → FoundFrom asked name fields (i + 1) (if t then j + 1 else j) → FoundFrom asked name (field ∷ fields) i j
found_later asked name field fields i j true read differs found = record {
  whole = suc found.whole;
  read = suc found.read;
  in_whole = rw differs (found.in_whole ∙ ap (λ (n : ℕ). Some n) (omega arith));
  in_read = rw (read, differs) (found.in_read ∙ ap (λ (n : ℕ). Some n) (omega arith));
  field = rw read found.field;
  kind = rw read found.kind;
  cell = cell;
}
  where
    cell : (row : Row) → cell_at (suc found.read) (kept_by asked (field ∷ fields) row) ≡ cell_at (suc found.whole) row
    cell [] = refl
    cell (value ∷ row) = rw read (found.cell row)
found_later asked name field fields i j false read differs found = record {
  whole = suc found.whole;
  read = found.read;
  in_whole = rw differs (found.in_whole ∙ ap (λ (n : ℕ). Some n) (omega arith));
  in_read = rw read found.in_read;
  field = rw read found.field;
  kind = rw read found.kind;
  cell = cell;
}
  where
    cell : (row : Row) → cell_at found.read (kept_by asked (field ∷ fields) row) ≡ cell_at (suc found.whole) row
    cell [] = no_cell found.read
    cell (value ∷ row) = rw read (found.cell row)

-- the first column is found
found_here : (asked : GroupAsked) (name : List ℕ) (field : Field) (fields : List Field) (i j : ℕ) → is_read asked field.name ≡ true → bytes_eq field.name name ≡ true → FoundFrom asked name (field ∷ fields) i j
found_here asked name field fields i j read same = record {
  whole = 0;
  read = 0;
  in_whole = rw same (ap (λ (n : ℕ). Some n) (omega arith));
  in_read = rw (read, same) (ap (λ (n : ℕ). Some n) (omega arith));
  field = rw read refl;
  kind = rw read refl;
  cell = cell;
}
  where
    cell : (row : Row) → cell_at 0 (kept_by asked (field ∷ fields) row) ≡ cell_at 0 row
    cell [] = refl
    cell (value ∷ row) = rw read refl

-- a column that is read, and that there is, is found
found_from : (asked : GroupAsked) (name : List ℕ) → is_read asked name ≡ true → (fields : List Field) (i j : ℕ) → is_some (position_from (λ (field : Field). bytes_eq field.name name) i fields) ≡ true → FoundFrom asked name fields i j
found_from asked name read [] i j there = absurd (no_more there)
  where
    no_more : false ≡ true → ⊥
    no_more e = cc
found_from asked name read (field ∷ fields) i j there = by (bytes_eq field.name name) refl (found_from asked name read fields)
  where
    by : (t : Bool) → bytes_eq field.name name ≡ t → ((i j : ℕ) → is_some (position_from (λ (field : Field). bytes_eq field.name name) i fields) ≡ true → FoundFrom asked name fields i j) → FoundFrom asked name (field ∷ fields) i j
    by true same later = found_here asked name field fields i j (ap (is_read asked) ((bytes_eq-Decides field.name name).0 same) ∙ read) same
    by false differs later = found_later asked name field fields i j (is_read asked field.name) refl differs (later (i + 1) (if is_read asked field.name then j + 1 else j) (subst (λ (t : Bool). is_some (if t then Some i else position_from (λ (f : Field). bytes_eq f.name name) (i + 1) fields) ≡ true) differs there))

-- the same, by the places of names
pub record Found (asked : GroupAsked) (name : List ℕ) (fields : List Field) : Type 0 where
  pub whole : ℕ
  pub read : ℕ
  pub in_whole : place_of fields name ≡ Some whole
  pub in_read : place_of (fields_kept asked fields) name ≡ Some read
  pub field : take 1 (drop read (fields_kept asked fields)) ≡ take 1 (drop whole fields)
  pub kind : slice_get (kinds_of (fields_kept asked fields)) read ≡ slice_get (kinds_of fields) whole
  pub cell : (row : Row) → cell_at read (kept_by asked fields row) ≡ cell_at whole row

pub found : (asked : GroupAsked) (name : List ℕ) (fields : List Field) → is_read asked name ≡ true → is_some (place_of fields name) ≡ true → Found asked name fields
found asked name fields read there =
    let test : Field → Bool = λ (field : Field). bytes_eq field.name name in
    let whole_is : place_of fields name ≡ position_from test 0 fields = position_from-zero test fields in
    let read_is : place_of (fields_kept asked fields) name ≡ position_from test 0 (fields_kept asked fields) = position_from-zero test (fields_kept asked fields) in
    let f : FoundFrom asked name fields 0 0 = found_from asked name read fields 0 0 (ap (λ (at : Option ℕ). is_some at) (sym whole_is) ∙ there) in record {
      whole = f.whole;
      read = f.read;
      in_whole = whole_is ∙ f.in_whole ∙ ap (λ (n : ℕ). Some n) (omega arith);
      in_read = read_is ∙ f.in_read ∙ ap (λ (n : ℕ). Some n) (omega arith);
      field = f.field;
      kind = f.kind;
      cell = f.cell;
    }
