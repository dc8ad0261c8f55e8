-- The steps by which a batch is split, made and appended.
use Rattle.std.proofs.Common.{◌≡◌, ℕ, zero, suc, ◌+◌, ◌-◌, ◌<◌, ◌≤◌, ◌∙◌, sym, ap, refl, arith, subst, Bool, true, false, List, [], ◌∷◌, ◌++◌, length, take, drop, set, get_or, map, append_assoc, length-append}
use Rattle.std.proofs.lemmas.List.{append-nil, drop_more, take_all, take_more, take_more_set, drop-set-lt, map-append, nil_from_length}
use Rattle.std.specs.Prelude.{Option, Some}
use Rattle.std.specs.List.{slice_range}
use Rattle.morsel_meaning.specs.declared.value.ColType.{ColType}
use Rattle.morsel_meaning.specs.declared.value.Value.{Value}
use Rattle.morsel_frame.specs.Columns.{Values}
use Rattle.morsel_grammar.specs.Dialect.{Dialect}
use Rattle.morsel_grammar.specs.Grammar.{Fields}
use Rattle.morsel_grammar.specs.Cells.{CsvCell, Good, Bad, cell_of}
use Rattle.morsel_grammar.specs.Rows.{is_empty}
use Rattle.morsel_grammar.specs.Split.{record_at}
use Rattle.morsel_text.specs.RawFields.{shown}
use Rattle.morsel_text.specs.Pushes.{AreTexts, column_kinds, with_cell}
use Rattle.morsel_text.specs.Batches.{spread, spread_all, SplitsBatch, AreTextColumns, IsColumnOf, AreMade, appended}
use Rattle.morsel_text.specs.Steps.{AreHigh}
use Rattle.morsel_text.specs.declared.raw_field.RawField.{RawField}
use Rattle.morsel_text.proofs.BatchLemmas.{splits_more, spread_more, length-spread}

-- a record more is split off
pub batch_more : (o : Dialect) (text rest behind : List ℕ) (old columns new : List (List RawField)) (rows : ℕ) (fields : List RawField) → SplitsBatch o text old (rest, rows) columns
    → record_at o rest ≡ Some (Fields (map shown fields), behind) → length behind < length rest → length fields ≡ length old → is_empty (map shown fields) ≡ false
    → new ≡ spread columns fields → SplitsBatch o text old (behind, rows + 1) new
batch_more o text rest behind old columns new rows fields is found shorter wide filled spreads = (
  is.0 ++ fields ∷ [],
  length-append is.0 (fields ∷ []) ∙ ap (λ n. n + 1) is.1,
  splits_more o (length old) text rest behind is.0 fields is.2 found shorter wide filled,
  spreads ∙ ap (λ cs. spread cs fields) is.3 ∙ sym (spread_more old is.0 fields),
)

-- a column with a value more
column_held : (o : Dialect) (kind : ColType) (before : List RawField) (f : RawField) (column new : Values) (v : Value) → IsColumnOf o kind before column → cell_of o kind (shown f) ≡ Good v
    → (let found : Option Values = Some (record column { values = column.values ++ v ∷ [] }) in found ≡ Some new) → IsColumnOf o kind (before ++ f ∷ []) new
column_held o kind before f column new v is cell put =
    let P : Values → Type 0 = λ c. IsColumnOf o kind (before ++ f ∷ []) c in
    let same : (let filled : Values = record column { values = column.values ++ v ∷ [] } in filled ≡ new) = cc in
    subst P same (
      is.0,
      map-append Good column.values (v ∷ []) ∙ ap (λ (cs : List CsvCell). cs ++ Good v ∷ []) is.1
          ∙ ap (λ (c : CsvCell). map (λ g. cell_of o kind (shown g)) before ++ c ∷ []) (sym cell) ∙ sym (map-append (λ g. cell_of o kind (shown g)) before (f ∷ [])),
    )

column_put : (o : Dialect) (kind : ColType) (before : List RawField) (f : RawField) (column new : Values) (cell : CsvCell) → IsColumnOf o kind before column → cell_of o kind (shown f) ≡ cell
    → with_cell cell column ≡ Some new → IsColumnOf o kind (before ++ f ∷ []) new
column_put o kind before f column new (Good v) is cell put = column_held o kind before f column new v is cell put
column_put o kind before f column new Bad is cell put = absurd (cc)

pub column_more : (o : Dialect) (kind : ColType) (fields : List RawField) (i : ℕ) (d : RawField) (column new : Values) → IsColumnOf o kind (take i fields) column → i < length fields
    → with_cell (cell_of o column.kind (shown (get_or fields i d))) column ≡ Some new → IsColumnOf o kind (take (i + 1) fields) new
column_more o kind fields i d column new is within put =
    subst (λ (fs : List RawField). IsColumnOf o kind fs new) (sym (take_more fields i d within))
    (column_put o kind (take i fields) (get_or fields i d) column new (cell_of o kind (shown (get_or fields i d))) is refl
    (ap (λ (k : ColType). with_cell (cell_of o k (shown (get_or fields i d))) column) (sym is.0) ∙ put))

-- a column more is made
made_used : (o : Dialect) (used : List Bool) (kinds : List ColType) (batch : List (List RawField)) (made : List Values) (kind : ColType) (fields : List RawField) (new : Values)
    → AreMade o used kinds batch made → IsColumnOf o kind fields new → AreMade o (used ++ true ∷ []) (kinds ++ kind ∷ []) (batch ++ fields ∷ []) (made ++ new ∷ [])
made_used o [] [] [] [] kind fields new are is = (is, tt)
made_used o (true ∷ used) (k ∷ kinds) (fs ∷ batch) (m ∷ made) kind fields new are is = (are.0, made_used o used kinds batch made kind fields new are.1 is)
made_used o (false ∷ used) (k ∷ kinds) (fs ∷ batch) (m ∷ made) kind fields new are is = (are.0, are.1, made_used o used kinds batch made kind fields new are.2 is)
made_used o [] [] [] (m ∷ made) kind fields new are is = absurd are
made_used o [] [] (fs ∷ batch) made kind fields new are is = absurd are
made_used o [] (k ∷ kinds) batch made kind fields new are is = absurd are
made_used o (true ∷ used) [] batch made kind fields new are is = absurd are
made_used o (true ∷ used) (k ∷ kinds) [] made kind fields new are is = absurd are
made_used o (true ∷ used) (k ∷ kinds) (fs ∷ batch) [] kind fields new are is = absurd are
made_used o (false ∷ used) [] batch made kind fields new are is = absurd are
made_used o (false ∷ used) (k ∷ kinds) [] made kind fields new are is = absurd are
made_used o (false ∷ used) (k ∷ kinds) (fs ∷ batch) [] kind fields new are is = absurd are

made_unused : (o : Dialect) (used : List Bool) (kinds : List ColType) (batch : List (List RawField)) (made : List Values) (kind : ColType) (fields : List RawField) (new : Values)
    → AreMade o used kinds batch made → new.kind ≡ kind → new.values ≡ [] → AreMade o (used ++ false ∷ []) (kinds ++ kind ∷ []) (batch ++ fields ∷ []) (made ++ new ∷ [])
made_unused o [] [] [] [] kind fields new are is none = (is, none, tt)
made_unused o (true ∷ used) (k ∷ kinds) (fs ∷ batch) (m ∷ made) kind fields new are is none = (are.0, made_unused o used kinds batch made kind fields new are.1 is none)
made_unused o (false ∷ used) (k ∷ kinds) (fs ∷ batch) (m ∷ made) kind fields new are is none = (are.0, are.1, made_unused o used kinds batch made kind fields new are.2 is none)
made_unused o [] [] [] (m ∷ made) kind fields new are is none = absurd are
made_unused o [] [] (fs ∷ batch) made kind fields new are is none = absurd are
made_unused o [] (k ∷ kinds) batch made kind fields new are is none = absurd are
made_unused o (true ∷ used) [] batch made kind fields new are is none = absurd are
made_unused o (true ∷ used) (k ∷ kinds) [] made kind fields new are is none = absurd are
made_unused o (true ∷ used) (k ∷ kinds) (fs ∷ batch) [] kind fields new are is none = absurd are
made_unused o (false ∷ used) [] batch made kind fields new are is none = absurd are
made_unused o (false ∷ used) (k ∷ kinds) [] made kind fields new are is none = absurd are
made_unused o (false ∷ used) (k ∷ kinds) (fs ∷ batch) [] kind fields new are is none = absurd are

pub length-kinds : (columns : List Values) → length (column_kinds columns) ≡ length columns
length-kinds [] = refl
length-kinds (column ∷ columns) = ap suc (length-kinds columns)

pub kind_at : (columns : List Values) (i : ℕ) (c : Values) (d : ColType) → i < length columns → get_or columns i c ≡ c → get_or (column_kinds columns) i d ≡ c.kind
kind_at [] i c d within is = absurd (omega arith)
kind_at (column ∷ columns) zero c d within is = ap (λ (x : Values). x.kind) is
kind_at (column ∷ columns) (suc i) c d within is = kind_at columns i c d (omega arith) is

-- the entry at a place of the next front
front_more : {A : Type 0} (xs : List A) (i : ℕ) (d x : A) → i < length xs → get_or xs i d ≡ x → take (i + 1) xs ≡ take i xs ++ x ∷ []
front_more xs i d x within is = take_more xs i d within ∙ ap (λ y. take i xs ++ y ∷ []) is

pub used_more : (o : Dialect) (used : List Bool) (columns : List Values) (batch : List (List RawField)) (made : List Values) (i : ℕ) (c new : Values) (fields d : List RawField)
    → i < length used → i < length columns → i < length batch → get_or used i false ≡ true → get_or columns i c ≡ c → get_or batch i d ≡ fields
    → AreMade o (take i used) (take i (column_kinds columns)) (take i batch) made → IsColumnOf o c.kind fields new
    → AreMade o (take (i + 1) used) (take (i + 1) (column_kinds columns)) (take (i + 1) batch) (made ++ new ∷ [])
used_more o used columns batch made i c new fields d in_used in_columns in_batch is_u is_c is_f are is =
    let all : List ColType = column_kinds columns in
    let u = front_more used i false true in_used is_u in
    let k = front_more all i c.kind c.kind (omega (arith, length-kinds columns)) (kind_at columns i c c.kind in_columns is_c) in
    let f = front_more batch i d fields in_batch is_f in
    subst (λ (us : List Bool). AreMade o us (take (i + 1) all) (take (i + 1) batch) (made ++ new ∷ [])) (sym u)
    (subst (λ (ks : List ColType). AreMade o (take i used ++ true ∷ []) ks (take (i + 1) batch) (made ++ new ∷ [])) (sym k)
    (subst (λ (fs : List (List RawField)). AreMade o (take i used ++ true ∷ []) (take i all ++ c.kind ∷ []) fs (made ++ new ∷ [])) (sym f)
    (made_used o (take i used) (take i all) (take i batch) made c.kind fields new are is)))

pub unused_more : (o : Dialect) (used : List Bool) (columns : List Values) (batch : List (List RawField)) (made : List Values) (i : ℕ) (c new : Values) (d : List RawField)
    → i < length used → i < length columns → i < length batch → get_or used i false ≡ false → get_or columns i c ≡ c
    → AreMade o (take i used) (take i (column_kinds columns)) (take i batch) made → new.kind ≡ c.kind → new.values ≡ []
    → AreMade o (take (i + 1) used) (take (i + 1) (column_kinds columns)) (take (i + 1) batch) (made ++ new ∷ [])
unused_more o used columns batch made i c new d in_used in_columns in_batch is_u is_c are is none =
    let all : List ColType = column_kinds columns in
    let u = front_more used i false false in_used is_u in
    let k = front_more all i c.kind c.kind (omega (arith, length-kinds columns)) (kind_at columns i c c.kind in_columns is_c) in
    let f = front_more batch i d (get_or batch i d) in_batch refl in
    subst (λ (us : List Bool). AreMade o us (take (i + 1) all) (take (i + 1) batch) (made ++ new ∷ [])) (sym u)
    (subst (λ (ks : List ColType). AreMade o (take i used ++ false ∷ []) ks (take (i + 1) batch) (made ++ new ∷ [])) (sym k)
    (subst (λ (fs : List (List RawField)). AreMade o (take i used ++ false ∷ []) (take i all ++ c.kind ∷ []) fs (made ++ new ∷ [])) (sym f)
    (made_unused o (take i used) (take i all) (take i batch) made c.kind (get_or batch i d) new are is none)))

pub all_made : (o : Dialect) (used : List Bool) (columns : List Values) (batch : List (List RawField)) (made : List Values) (i : ℕ)
    → length used ≤ i → length columns ≤ i → length batch ≤ i
    → AreMade o (take i used) (take i (column_kinds columns)) (take i batch) made → AreMade o used (column_kinds columns) batch made
all_made o used columns batch made i in_used in_columns in_batch are =
    subst (λ (us : List Bool). AreMade o us (column_kinds columns) batch made) (take_all i used in_used)
    (subst (λ (ks : List ColType). AreMade o (take i used) ks batch made) (take_all i (column_kinds columns) (omega (arith, length-kinds columns)))
    (subst (λ (fs : List (List RawField)). AreMade o (take i used) (take i (column_kinds columns)) fs made) (take_all i batch in_batch) are))

pub texts_at : (batch : List (List RawField)) (i : ℕ) (fields d : List RawField) → AreTextColumns batch → i < length batch → get_or batch i d ≡ fields → AreTexts (map shown fields)
texts_at [] i fields d texts within is = absurd (omega arith)
texts_at (fs ∷ batch) zero fields d texts within is = subst (λ (x : List RawField). AreTexts (map shown x)) is texts.0
texts_at (fs ∷ batch) (suc i) fields d texts within is = texts_at batch i fields d texts.1 (omega arith) is

pub made_kinds : (o : Dialect) (used : List Bool) (kinds : List ColType) (batch : List (List RawField)) (made : List Values) → AreMade o used kinds batch made → column_kinds made ≡ kinds
made_kinds o [] [] [] [] are = refl
made_kinds o (true ∷ used) (k ∷ kinds) (fs ∷ batch) (m ∷ made) are = ap (λ x. x ∷ column_kinds made) are.0.0 ∙ ap (λ (x : List ColType). k ∷ x) (made_kinds o used kinds batch made are.1)
made_kinds o (false ∷ used) (k ∷ kinds) (fs ∷ batch) (m ∷ made) are = ap (λ x. x ∷ column_kinds made) are.0 ∙ ap (λ (x : List ColType). k ∷ x) (made_kinds o used kinds batch made are.2)
made_kinds o [] [] [] (m ∷ made) are = absurd are
made_kinds o [] [] (fs ∷ batch) made are = absurd are
made_kinds o [] (k ∷ kinds) batch made are = absurd are
made_kinds o (true ∷ used) [] batch made are = absurd are
made_kinds o (true ∷ used) (k ∷ kinds) [] made are = absurd are
made_kinds o (true ∷ used) (k ∷ kinds) (fs ∷ batch) [] are = absurd are
made_kinds o (false ∷ used) [] batch made are = absurd are
made_kinds o (false ∷ used) (k ∷ kinds) [] made are = absurd are
made_kinds o (false ∷ used) (k ∷ kinds) (fs ∷ batch) [] are = absurd are

pub made_length : (o : Dialect) (used : List Bool) (columns : List Values) (batch : List (List RawField)) (made : List Values) → AreMade o used (column_kinds columns) batch made
    → length made ≡ length columns
made_length o used columns batch made are = sym (length-kinds made) ∙ ap length (made_kinds o used (column_kinds columns) batch made are) ∙ length-kinds columns

pub length-spread_all : {A : Type 0} (columns rows : List (List A)) → length (spread_all columns rows) ≡ length columns
length-spread_all columns [] = refl
length-spread_all columns (row ∷ rows) = length-spread_all (spread columns row) rows ∙ length-spread columns row

range_all : (vs : List Value) (to : ℕ) → to ≡ length vs → slice_range vs 0 to ≡ vs
range_all vs to all = take_all (to - 0) vs (omega (arith, all))

-- a column more is appended to
pub appended_more : (columns made : List Values) (i to : ℕ) (c new later d : Values) → i < length columns → i < length made → get_or columns i c ≡ c → get_or made i d ≡ new
    → later ≡ record c { values = c.values ++ slice_range new.values 0 to } → to ≡ length new.values
    → take (i + 1) (set columns i later) ++ appended (drop (i + 1) (set columns i later)) (drop (i + 1) made) ≡ take i columns ++ appended (drop i columns) (drop i made)
appended_more columns made i to c new later d in_columns in_made is_c is_new is all_of =
    let whole : later ≡ record c { values = c.values ++ new.values } = is ∙ ap (λ (vs : List Value). let all : Values = record c { values = c.values ++ vs } in all) (range_all new.values to all_of) in
    let rest : List Values = appended (drop (i + 1) columns) (drop (i + 1) made) in
    ap (λ (front : List Values). front ++ appended (drop (i + 1) (set columns i later)) (drop (i + 1) made)) (take_more_set columns i later in_columns)
    ∙ ap (λ (cs : List Values). (take i columns ++ later ∷ []) ++ appended cs (drop (i + 1) made)) (drop-set-lt (i + 1) columns i later (omega arith))
    ∙ append_assoc (take i columns) (later ∷ []) rest
    ∙ ap (λ (x : Values). take i columns ++ x ∷ rest) whole
    ∙ sym (ap (λ (cs : List Values). take i columns ++ appended cs (drop i made)) (drop_more columns i c in_columns ∙ ap (λ (x : Values). x ∷ drop (i + 1) columns) is_c)
    ∙ ap (λ (ms : List Values). take i columns ++ appended (c ∷ drop (i + 1) columns) ms) (drop_more made i d in_made ∙ ap (λ (x : Values). x ∷ drop (i + 1) made) is_new))

pub kinds_set : (columns : List Values) (i : ℕ) (c later : Values) → get_or columns i c ≡ c → later.kind ≡ c.kind → column_kinds (set columns i later) ≡ column_kinds columns
kinds_set [] i c later is_c same = refl
kinds_set (column ∷ columns) zero c later is_c same = ap (λ (k : ColType). k ∷ column_kinds columns) (same ∙ sym (ap (λ (x : Values). x.kind) is_c))
kinds_set (column ∷ columns) (suc i) c later is_c same = ap (λ (ks : List ColType). column.kind ∷ ks) (kinds_set columns i c later is_c same)

pub all_appended : (columns made old : List Values) (i : ℕ) (answer : List Values) → length columns ≤ i → take i columns ++ appended (drop i columns) (drop i made) ≡ answer
    → columns ≡ answer
all_appended columns made old i answer all is =
    sym (append-nil columns) ∙ ap (λ (front : List Values). front ++ []) (sym (take_all i columns all))
    ∙ ap (λ (cs : List Values). take i columns ++ appended cs (drop i made)) (sym (drop_none columns i all)) ∙ is
  where
    drop_none : (xs : List Values) (n : ℕ) → length xs ≤ n → drop n xs ≡ []
    drop_none [] zero short = refl
    drop_none [] (suc n) short = refl
    drop_none (x ∷ xs) zero short = absurd (omega arith)
    drop_none (x ∷ xs) (suc n) short = drop_none xs n (omega arith)

-- columns without values: those that follow, and one in front of them
pub empty_more : (columns : List Values) (i : ℕ) (column : Values) → i < length columns → get_or columns i column ≡ column → length column.values ≡ 0
    → (AreHigh 0 (drop i columns) → AreHigh 0 columns) → AreHigh 0 (drop (i + 1) columns) → AreHigh 0 columns
empty_more columns i column within is none so_far later =
    so_far (subst (AreHigh 0) (sym (drop_more columns i column within ∙ ap (λ (c : Values). c ∷ drop (i + 1) columns) is)) (none, later))

-- what is put below columns without values is there alone
pub appended-empty : (columns made : List Values) → AreHigh 0 columns → column_kinds made ≡ column_kinds columns → appended columns made ≡ made
appended-empty [] [] high kinds = refl
appended-empty [] (new ∷ made) high kinds = absurd (cc)
appended-empty (column ∷ columns) [] high kinds = absurd (cc)
appended-empty (column ∷ columns) (new ∷ made) high kinds =
    let kind : column.kind ≡ new.kind = cc in
    let later : column_kinds made ≡ column_kinds columns = cc in
    ap (λ (vs : List Value). record column { values = vs ++ new.values } ∷ appended columns made) (nil_from_length column.values high.0)
    ∙ ap (λ (k : ColType). let c : Values = record { kind = k; values = new.values } in c ∷ appended columns made) kind
    ∙ ap (λ (cs : List Values). new ∷ cs) (appended-empty columns made high.1 later)
