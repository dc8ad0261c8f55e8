-- Rows under several columns: what is found and given of the first column, and then of those that follow.
use Rattle.std.proofs.Common.{◌≡◌, ◌<◌, ◌≤◌, [], ◌∷◌, List, ℕ, zero, suc, ◌-◌, length, map, slice_get, get_or, Some, refl, arith, ap, ◌∙◌, sym, subst}
use Rattle.std.specs.Prelude.{Result, Ok, Err, IfOk, IfErr, OnErr}
use Rattle.std.proofs.lemmas.Option.{slice_get_within, slice_get-get_or, get_or_from_slice_get}
use Rattle.std.proofs.lemmas.List.{length-map}
use Rattle.morsel_meaning.specs.declared.fault.Fault.{Fault}
use Rattle.morsel_meaning.specs.declared.fault.Fault.TheVariants as faults
use Rattle.morsel_meaning.specs.declared.value.ColType.{ColType}
use Rattle.morsel_meaning.specs.declared.value.Value.{Value}
use Rattle.morsel_meaning.specs.declared.value.Value.TheVariants as values
use Rattle.morsel_meaning.specs.Values.{Row}
use Rattle.morsel_frame.specs.Columns.{Values}
use Rattle.morsel_frame.specs.Tables.{cell_at, cells_at}
use Rattle.morsel_keys.specs.Slots.{IsFound, AreLookedUp, GivesNumber, HasKeysEachOnce, RefusesKey, NumbersAll, StopsNumbering, no_number}
use Rattle.morsel_keys.specs.Keyed.{Keyed}
use Rattle.morsel_keys.proofs.HeldLemmas.{shown_at, shown}
use Rattle.morsel_row_keys.specs.Pairs.{PairList}
use Rattle.morsel_row_keys.specs.Chains.{row_of_pair, single_row, chain_rows, IsChain, AreRowTables, LooksUpChain, NumbersChain, StopsChain, blank_pairs, refusal_of, whole_of}
use Rattle.morsel_row_keys.proofs.ShownLemmas.{ShowsOnly, new_shown_only, found_shown_only, gives_shown, gives_once, gives_short}
use Rattle.morsel_row_keys.proofs.ChainLemmas.{chain_once, found_chain, gives_chain, stops_chain, new_chain}
use Rattle.morsel_row_keys.proofs.RefusedLemmas.{refused_new, refused_by}

single_only : (vs : List Value) (v : Value) → ShowsOnly single_row vs v (single_row v)
single_only vs v k z e same = ap (λ (r : Row). get_or r 0 values.Null) same

singles_once : (vs : List Value) → HasKeysEachOnce vs → HasKeysEachOnce (map single_row vs)
singles_once vs once i j row a b =
    shown_at single_row vs i row (i ≡ j) a (λ v held same.
    shown_at single_row vs j row (i ≡ j) b (λ w also again.
    once i j v held (also ∙ ap Some (ap (λ (r : Row). get_or r 0 values.Null) (again ∙ sym same)))))

gives_single : (vs next : List Value) (v : Value) (at : ℕ) → GivesNumber vs v at next → GivesNumber (map single_row vs) (single_row v) at (map single_row next)
gives_single vs next v at gives = gives_shown single_row single_row vs v (single_row v) at next (λ k z e. refl) (single_only vs v) refl gives

-- the chain of the rows of the first column
rows_chain : (first : Values) (more : List PairList) → IsChain (length first.values) more → IsChain (length (map single_row first.values)) more
rows_chain first more chain = subst (λ n. IsChain n more) (sym (length-map first.values single_row)) chain

-- how many keys there are
pub len_chain : (rows : List Row) (tables : List PairList) (k : ℕ) (d : PairList) → length tables ≡ suc k → length (chain_rows rows tables) ≡ length (get_or tables k d).pairs
len_chain rows [] k d e = absurd (omega (arith, e))
len_chain rows (t ∷ []) zero d e = length-map t.pairs (row_of_pair rows)
len_chain rows (t ∷ []) (suc k) d e = absurd (omega (arith, e))
len_chain rows (t ∷ u ∷ tables) zero d e = absurd (omega (arith, e))
len_chain rows (t ∷ u ∷ tables) (suc k) d e = len_chain (map (row_of_pair rows) t.pairs) (u ∷ tables) k d (omega (arith, e))

-- keys are each once
pub row_keys_once : (first : Values) (more : List PairList) → AreRowTables first more → HasKeysEachOnce (chain_rows (map single_row first.values) more)
row_keys_once first more are = chain_once (map single_row first.values) more (singles_once first.values are.once) (rows_chain first more are.chain)

-- what a row has in some columns
cells_are : (rows : List Row) (columns : List ℕ) (i : ℕ) (row : Row) → slice_get rows i ≡ Some row → map (λ (vs : List Value). get_or vs i values.Null) (map (λ at. map (cell_at at) rows) columns) ≡ cells_at columns row
cells_are rows [] i row e = refl
cells_are rows (at ∷ columns) i row e =
    let here : get_or (map (cell_at at) rows) i values.Null ≡ cell_at at row = get_or_from_slice_get (map (cell_at at) rows) i (cell_at at row) values.Null (shown (cell_at at) rows i row (cell_at at row) e refl) in
    ap (λ (v : Value). v ∷ map (λ (vs : List Value). get_or vs i values.Null) (map (λ a. map (cell_at a) rows) columns)) here
    ∙ ap (λ (r : Row). cell_at at row ∷ r) (cells_are rows columns i row e)

columns_long : (rows : List Row) (columns : List ℕ) (j : ℕ) (vs : List Value) → slice_get (map (λ at. map (cell_at at) rows) columns) j ≡ Some vs → length vs ≡ length rows
columns_long rows columns j vs e = shown_at (λ at. map (cell_at at) rows) columns j vs (length vs ≡ length rows) e (λ at held same. ap (λ (x : List Value). length x) (sym same) ∙ length-map rows (cell_at at))

-- rows that are looked up
pub rows_found : (first : Values) (more : List PairList) (rows : List Row) (c : ℕ) (columns ns ats : List ℕ) → AreRowTables first more → AreLookedUp first.values (map (cell_at c) rows) ns → LooksUpChain more ns (map (λ at. map (cell_at at) rows) columns) ats → length ats ≡ length ns
    → AreLookedUp (chain_rows (map single_row first.values) more) (map (cells_at (c ∷ columns)) rows) ats
rows_found first more rows c columns ns ats are found all same = record {
  len = same ∙ found.len ∙ length-map rows (cell_at c) ∙ sym (length-map rows (cells_at (c ∷ columns)));
  each = λ i key e. shown_at (cells_at (c ∷ columns)) rows i key (IsFound (chain_rows (map single_row first.values) more) key (get_or ats i 0)) e (λ row held is.
      let within = slice_get_within rows i row held in
      let one = found_shown_only single_row first.values (cell_at c row) (single_row (cell_at c row)) (get_or ns i 0) (single_only first.values (cell_at c row)) refl (found.each i (cell_at c row) (shown (cell_at c) rows i row (cell_at c row) held refl)) in
      let size = length-map first.values single_row in
      let short = are.within in
      let count = found.len in
      let wide = length-map rows (cell_at c) in
      subst (λ (k : Row). IsFound (chain_rows (map single_row first.values) more) k (get_or ats i 0)) (ap (λ (r : Row). cell_at c row ∷ r) (cells_are rows columns i row held) ∙ is)
      (found_chain (map single_row first.values) more ns ats (map (λ at. map (cell_at at) rows) columns) i (single_row (cell_at c row)) (omega (arith, size, short)) (singles_once first.values are.once) (rows_chain first more are.chain)
      (λ vs j at_j. let l = columns_long rows columns j vs at_j in omega (arith, l, within)) all (omega (arith, within, count, wide)) one));
}

-- keys with one that was numbered
pub record RowsGive (first next : Values) (more tables : List PairList) (key : Row) (at : ℕ) : Type 0 where
  pub gives : GivesNumber (chain_rows (map single_row first.values) more) key at (chain_rows (map single_row next.values) tables)
  pub are : AreRowTables next tables
  pub kinds : map (λ (t : PairList). t.kind) tables ≡ map (λ (t : PairList). t.kind) more

pub rows_give : (first next : Values) (more tables : List PairList) (v : Value) (n : ℕ) (vs : List Value) (at : ℕ) → AreRowTables first more → GivesNumber first.values v n next.values → length next.values ≤ no_number → NumbersChain more n vs at tables → at < no_number → RowsGive first next more tables (v ∷ vs) at
rows_give first next more tables v n vs at are gives within all low =
    let done = gives_chain (map single_row first.values) (map single_row next.values) more tables (single_row v) n at vs (singles_once first.values are.once) (rows_chain first more are.chain) (gives_single first.values next.values v n gives) low all in
    record {
      gives = done.gives;
      are = record { within = within; once = gives_once first.values v n next.values gives are.once; chain = subst (λ m. IsChain m tables) (length-map next.values single_row) done.chain };
      kinds = done.kinds;
    }

-- keys where one was refused by a table
pub record RowsStop (first next : Values) (more tables : List PairList) (key : Row) (fault : Fault) (count : ℕ) : Type 0 where
  pub same : chain_rows (map single_row next.values) tables ≡ chain_rows (map single_row first.values) more
  pub are : AreRowTables next tables
  pub kinds : map (λ (t : PairList). t.kind) tables ≡ map (λ (t : PairList). t.kind) more
  pub refused : RefusesKey (chain_rows (map single_row first.values) more) key (Err (refusal_of fault count))

pub rows_stop : (first next : Values) (more tables : List PairList) (v : Value) (n : ℕ) (vs : List Value) (fault : Fault) (count : ℕ) → AreRowTables first more → GivesNumber first.values v n next.values → length next.values ≤ no_number → length vs ≡ length more → StopsChain more n vs fault tables
    → count ≡ length (chain_rows (map single_row first.values) more) → count ≤ no_number → RowsStop first next more tables (v ∷ vs) fault count
rows_stop first next more tables v n vs fault count are gives within len stops is short =
    let done = stops_chain (map single_row first.values) (map single_row next.values) more tables (single_row v) n vs fault (singles_once first.values are.once) (rows_chain first more are.chain) (gives_single first.values next.values v n gives) len stops in
    record {
      same = done.same;
      are = record { within = within; once = gives_once first.values v n next.values gives are.once; chain = subst (λ m. IsChain m tables) (length-map next.values single_row) done.chain };
      kinds = done.kinds;
      refused = refused_by (chain_rows (map single_row first.values) more) (v ∷ vs) fault count is short done.refused;
    }

-- a key is refused whose first value is
pub first_refused : (first : Values) (more : List PairList) (v : Value) (vs : List Value) (fault : Fault) (count : ℕ) → AreRowTables first more → RefusesKey first.values v (Err fault) → length vs ≡ length more
    → count ≡ length (chain_rows (map single_row first.values) more) → count ≤ no_number → RefusesKey (chain_rows (map single_row first.values) more) (v ∷ vs) (Err (refusal_of fault count))
first_refused first more v vs fault count are refused len is short =
    refused_by (chain_rows (map single_row first.values) more) (v ∷ vs) fault count is short (λ other.
    let known = refused_new first.values v fault refused other in
    (known.0, new_chain (map single_row first.values) more (single_row v) vs (rows_chain first more are.chain) len (new_shown_only single_row first.values v (single_row v) (single_only first.values v) known.1)))

-- no keys
pub chain_blank : (kinds : List ColType) → chain_rows [] (map blank_pairs kinds) ≡ []
chain_blank [] = refl
chain_blank (kind ∷ kinds) = chain_blank kinds

pub blank_is_chain : (count : ℕ) (kinds : List ColType) → IsChain count (map blank_pairs kinds)
blank_is_chain count [] = tt
blank_is_chain count (kind ∷ kinds) = ((λ k pair e. cc), (λ i j pair a b. cc), omega arith, blank_is_chain 0 kinds)

pub blank_kinds : (kinds : List ColType) → map (λ (t : PairList). t.kind) (map blank_pairs kinds) ≡ kinds
blank_kinds [] = refl
blank_kinds (kind ∷ kinds) = ap (λ (ks : List ColType). kind ∷ ks) (blank_kinds kinds)

pub blank_chained : (first : Values) (more : List PairList) (kind : ColType) (kinds : List ColType) → first ≡ record { kind = kind; values = [] } → more ≡ map blank_pairs kinds → AreRowTables first more
blank_chained first more kind kinds is more_is =
    subst (λ (f : Values). AreRowTables f more) (sym is) (subst (λ (ts : List PairList). AreRowTables (record { kind = kind; values = [] }) ts) (sym more_is)
    (record { within = omega arith; once = λ i j key a b. cc; chain = blank_is_chain 0 kinds }))

pub blank_keyed : (first : Values) (more : List PairList) (kind : ColType) (kinds all : List ColType) → first ≡ record { kind = kind; values = [] } → more ≡ map blank_pairs kinds → all ≡ kind ∷ kinds
    → ◌≡◌ {A = Keyed} (record { kinds = first.kind ∷ map (λ t. t.kind) more; keys = chain_rows (map single_row first.values) more }) (record { kinds = all; keys = [] })
blank_keyed first more kind kinds all is more_is all_is =
    ap (λ (f : Values). record { kinds = f.kind ∷ map (λ (t : PairList). t.kind) more; keys = chain_rows (map single_row f.values) more }) is
    ∙ ap (λ (ts : List PairList). record { kinds = kind ∷ map (λ (t : PairList). t.kind) ts; keys = chain_rows [] ts }) more_is
    ∙ ap (λ (ks : List ColType). record { kinds = kind ∷ ks; keys = chain_rows [] (map blank_pairs kinds) }) (blank_kinds kinds)
    ∙ ap (λ (rows : List Row). record { kinds = kind ∷ kinds; keys = rows }) (chain_blank kinds)
    ∙ ap (λ (ks : List ColType). record { kinds = ks; keys = [] }) (sym all_is)

-- rows that are looked up, under columns as the code takes them
pub columns_found : (first : Values) (more : List PairList) (rows : List Row) (columns later ns ats : List ℕ) (c : ℕ) (vs : List Value) → columns ≡ c ∷ later → vs ≡ map (cell_at c) rows → AreRowTables first more → AreLookedUp first.values vs ns → LooksUpChain more ns (map (λ at. map (cell_at at) rows) later) ats → length ats ≡ length ns
    → AreLookedUp (chain_rows (map single_row first.values) more) (map (cells_at columns) rows) ats
columns_found first more rows columns later ns ats c vs split vs_is are found all same =
    subst (λ cs. AreLookedUp (chain_rows (map single_row first.values) more) (map (cells_at cs) rows) ats) (sym split)
    (rows_found first more rows c later ns ats are (subst (λ (us : List Value). AreLookedUp first.values us ns) vs_is found) all same)

pub len_none : (vs : List Value) (tables : List PairList) → length tables ≡ 0 → length (chain_rows (map single_row vs) tables) ≡ length vs
len_none vs [] none = length-map vs single_row
len_none vs (t ∷ tables) none = absurd (omega (arith, none))

pub len_some : (vs : List Value) (tables : List PairList) (t : PairList) → 0 < length tables → t ≡ get_or tables (length tables - 1) t → length (chain_rows (map single_row vs) tables) ≡ length t.pairs
len_some vs tables t some is = len_chain (map single_row vs) tables (length tables - 1) t (omega (arith, some)) ∙ ap (λ (u : PairList). length u.pairs) (sym is)

-- no rows, and rows that are not looked up
pub none_numbered : (keys rows : List Row) (columns out : List ℕ) → length out ≡ 0 → length out ≡ length rows → NumbersAll keys (map (cells_at columns) rows) out keys
none_numbered keys [] columns [] none same = refl
none_numbered keys [] columns (at ∷ out) none same = absurd (omega (arith, none))
none_numbered keys (row ∷ rows) columns out none same = absurd (omega (arith, none, same))

pub stops_first : (keys rows : List Row) (columns : List ℕ) (fault : Fault) → 0 < length rows → fault ≡ faults.OutOfMemory → StopsNumbering keys (map (cells_at columns) rows) fault keys
stops_first keys [] columns fault some is = absurd (omega (arith, some))
stops_first keys (row ∷ rows) columns fault some is = record {
  at = 0;
  key = cells_at columns row;
  numbers = [];
  stopped = refl;
  before = refl;
  refused = subst (λ (f : Fault). RefusesKey keys (cells_at columns row) (Err f)) (sym is) tt;
}

pub row_at : (rows : List Row) (columns : List ℕ) (i : ℕ) → i < length rows → slice_get (map (cells_at columns) rows) i ≡ Some (cells_at columns (get_or rows i []))
row_at rows columns i l = shown (cells_at columns) rows i (get_or rows i []) (cells_at columns (get_or rows i [])) (slice_get-get_or rows i [] l) refl

-- what a row has under columns as the code takes them
pub cells_split : (columns later : List ℕ) (c : ℕ) (v : Value) (row : Row) → columns ≡ c ∷ later → v ≡ cell_at c row → v ∷ cells_at later row ≡ cells_at columns row
cells_split columns later c v row split is = ap (λ (w : Value). w ∷ cells_at later row) is ∙ ap (λ cs. cells_at cs row) (sym split)

-- what contracts see of the keys of a first column and of tables
abbrev pub keyed_of : Values → List PairList → Keyed
keyed_of first more = record { kinds = first.kind ∷ map (λ t. t.kind) more; keys = chain_rows (map single_row first.values) more }

-- keys after one was numbered or refused
pub record RowsAfter (first next : Values) (more tables : List PairList) (key : Row) (r : Result ℕ Fault) : Type 0 where
  pub are : AreRowTables next tables
  pub kinds : (keyed_of next tables).kinds ≡ (keyed_of first more).kinds
  pub gives : IfOk r (λ at. GivesNumber (keyed_of first more).keys key at (keyed_of next tables).keys)
  pub refused : RefusesKey (keyed_of first more).keys key r
  pub same : OnErr r (keyed_of next tables ≡ keyed_of first more)

same_kinds : (first next : Values) (more tables : List PairList) → next.kind ≡ first.kind → map (λ (t : PairList). t.kind) tables ≡ map (λ (t : PairList). t.kind) more → (keyed_of next tables).kinds ≡ (keyed_of first more).kinds
same_kinds first next more tables kind kinds = ap (λ (k : ColType). k ∷ map (λ (t : PairList). t.kind) tables) kind ∙ ap (λ (ks : List ColType). first.kind ∷ ks) kinds

rows_after_by : (first next : Values) (more tables : List PairList) (v : Value) (n : ℕ) (vs : List Value) (count : ℕ) (r : Result ℕ Fault) → AreRowTables first more → GivesNumber first.values v n next.values → n < no_number → next.kind ≡ first.kind
    → IfOk r (λ at. NumbersChain more n vs at tables) → IfOk r (λ at. at < no_number) → IfErr r (λ fault. StopsChain more n vs fault tables) → length vs ≡ length more → count ≡ length (keyed_of first more).keys → count ≤ no_number → RowsAfter first next more tables (v ∷ vs) (whole_of r count)
rows_after_by first next more tables v n vs count (Ok at) are gives small kind all low stops len is short =
    let done = rows_give first next more tables v n vs at are gives (gives_short first.values v n next.values are.within small gives) all low in
    record { are = done.are; kinds = same_kinds first next more tables kind done.kinds; gives = done.gives; refused = low; same = tt }
rows_after_by first next more tables v n vs count (Err fault) are gives small kind all low stops len is short =
    let done = rows_stop first next more tables v n vs fault count are gives (gives_short first.values v n next.values are.within small gives) len stops is short in
    record {
      are = done.are;
      kinds = same_kinds first next more tables kind done.kinds;
      gives = tt;
      refused = done.refused;
      same = ap (λ (ks : List ColType). record { kinds = ks; keys = (keyed_of next tables).keys }) (same_kinds first next more tables kind done.kinds) ∙ ap (λ (rows : List Row). record { kinds = (keyed_of first more).kinds; keys = rows }) done.same;
    }

pub rows_after : (first next : Values) (more lent tables : List PairList) (v : Value) (n : ℕ) (vs : List Value) (count : ℕ) (r whole : Result ℕ Fault) (key : Row) → lent ≡ more → whole ≡ whole_of r count → key ≡ v ∷ vs → AreRowTables first more → GivesNumber first.values v n next.values → n < no_number → next.kind ≡ first.kind
    → IfOk r (λ at. NumbersChain lent n vs at tables) → IfOk r (λ at. at < no_number) → IfErr r (λ fault. StopsChain lent n vs fault tables) → length vs ≡ length more → count ≡ length (keyed_of first more).keys → count ≤ no_number → RowsAfter first next more tables key whole
rows_after first next more lent tables v n vs count r whole key lent_is whole_is key_is are gives small kind all low stops len is short =
    subst (λ (k : Row). RowsAfter first next more tables k whole) (sym key_is) (subst (λ w. RowsAfter first next more tables (v ∷ vs) w) (sym whole_is)
    (rows_after_by first next more tables v n vs count r are gives small kind
    (subst (λ (ts : List PairList). IfOk r (λ at. NumbersChain ts n vs at tables)) lent_is all) low (subst (λ (ts : List PairList). IfErr r (λ fault. StopsChain ts n vs fault tables)) lent_is stops) len is short))
