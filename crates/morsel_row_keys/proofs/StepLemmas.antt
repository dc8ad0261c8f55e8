-- One table more of a chain.
use Rattle.std.proofs.Common.{◌≡◌, ◌<◌, ◌++◌, [], ◌∷◌, List, ℕ, zero, suc, ◌+◌, ◌-◌, length, map, take, drop, slice_get, get_or, set, Some, refl, arith, ap, ◌∙◌, sym, subst, inl, inr, Bool, true, false, ◌==◌}
use Rattle.std.specs.Prelude.{Err}
use Rattle.std.specs.List.{All}
use Rattle.std.proofs.Math.Seq.{take-length, take-append_seam}
use Rattle.std.proofs.lemmas.Grind.{drop_more_same}
use Rattle.std.proofs.lemmas.List.{take_more, take_more_set, map-append, get_or-drop, set-get_or}
use Rattle.std.proofs.lemmas.Option.{slice_get-get_or, get_or_from_slice_get, same_Some}
use Rattle.morsel_meaning.specs.declared.fault.Fault.{Fault}
use Rattle.morsel_meaning.specs.declared.value.ColType.{ColType}
use Rattle.morsel_meaning.specs.declared.value.Value.{Value}
use Rattle.morsel_meaning.specs.declared.value.Field.{Field}
use Rattle.morsel_meaning.specs.declared.value.Value.TheVariants.{Null}
use Rattle.morsel_meaning.specs.Values.{Row, kinds_of}
use Rattle.morsel_frame.specs.Columns.{value_at}
use Rattle.morsel_keys.proofs.HeldLemmas.{shown}
use Rattle.morsel_frame.specs.Tables.{cell_at, cells_at, fields_at}
use Rattle.morsel_keys.specs.Slots.{AreLookedUp, GivesNumber, RefusesKey, no_number}
use Rattle.morsel_row_keys.specs.Pairs.{PairList, pair_with, pairs_of}
use Rattle.morsel_row_keys.specs.Chains.{LooksUpChain, NumbersChain, StopsChain}

pub looks_more : (tables : List PairList) (ns : List ℕ) (columns : List (List Value)) (mid : List ℕ) (table : PairList) (vs : List Value) (ats : List ℕ) → LooksUpChain tables ns columns mid → AreLookedUp table.pairs (pairs_of mid vs) ats → LooksUpChain (tables ++ table ∷ []) ns (columns ++ vs ∷ []) ats
looks_more [] ns [] mid table vs ats all more = (ats, subst (λ (ms : List ℕ). AreLookedUp table.pairs (pairs_of ms vs) ats) all more, refl)
looks_more [] ns (us ∷ columns) mid table vs ats all more = absurd all
looks_more (t ∷ tables) ns [] mid table vs ats all more = absurd all
looks_more (t ∷ tables) ns (us ∷ columns) mid table vs ats (next, here, all) more = (next, here, looks_more tables next columns mid table vs ats all more)

pub numbers_more : (tables : List PairList) (first : ℕ) (vs : List Value) (mid : ℕ) (nexts : List PairList) (table : PairList) (v : Value) (at : ℕ) (next : PairList) → NumbersChain tables first vs mid nexts → GivesNumber table.pairs (pair_with mid v) at next.pairs → at < no_number → next.kind ≡ table.kind
    → NumbersChain (tables ++ table ∷ []) first (vs ++ v ∷ []) at (nexts ++ next ∷ [])
numbers_more [] first [] mid [] table v at next all more low kind = (at, subst (λ n. GivesNumber table.pairs (pair_with n v) at next.pairs) all more, low, kind, refl)
numbers_more [] first [] mid (u ∷ nexts) table v at next all more low kind = absurd all
numbers_more [] first (w ∷ vs) mid nexts table v at next all more low kind = absurd all
numbers_more (t ∷ tables) first [] mid nexts table v at next all more low kind = absurd all
numbers_more (t ∷ tables) first (w ∷ vs) mid [] table v at next all more low kind = absurd all
numbers_more (t ∷ tables) first (w ∷ vs) mid (u ∷ nexts) table v at next (n, given, under, same, all) more low kind = (n, given, under, same, numbers_more tables n vs mid nexts table v at next all more low kind)

pub numbers_stop : (tables : List PairList) (first : ℕ) (vs : List Value) (mid : ℕ) (nexts : List PairList) (table : PairList) (v : Value) (fault : Fault) (rest : List PairList) (others : List Value) → NumbersChain tables first vs mid nexts → RefusesKey table.pairs (pair_with mid v) (Err fault)
    → StopsChain (tables ++ table ∷ rest) first (vs ++ v ∷ others) fault (nexts ++ table ∷ rest)
numbers_stop [] first [] mid [] table v fault rest others all refused = inl (subst (λ n. RefusesKey table.pairs (pair_with n v) (Err fault)) all refused, refl, refl)
numbers_stop [] first [] mid (u ∷ nexts) table v fault rest others all refused = absurd all
numbers_stop [] first (w ∷ vs) mid nexts table v fault rest others all refused = absurd all
numbers_stop (t ∷ tables) first [] mid nexts table v fault rest others all refused = absurd all
numbers_stop (t ∷ tables) first (w ∷ vs) mid [] table v fault rest others all refused = absurd all
numbers_stop (t ∷ tables) first (w ∷ vs) mid (u ∷ nexts) table v fault rest others (n, given, under, same, all) refused = inr (n, given, under, same, numbers_stop tables n vs mid nexts table v fault rest others all refused)

-- a list that has a first element, as the code takes the others
pub split_list : {X : Type 0} (xs : List X) (d : X) → 0 < length xs → xs ≡ get_or xs 0 d ∷ take (length xs - 1) (drop 1 xs)
split_list [] d l = absurd (omega (arith, l))
split_list (x ∷ xs) d l = let n : length xs ≡ length (x ∷ xs) - 1 = omega arith in ap (λ ys. x ∷ ys) (sym (take-length xs) ∙ ap (λ k. take k xs) n)

-- a list about a place
about : {X : Type 0} (xs : List X) (i : ℕ) (d : X) → i < length xs → xs ≡ take i xs ++ get_or xs i d ∷ drop (suc i) xs
about [] i d l = absurd (omega (arith, l))
about (x ∷ xs) zero d l = refl
about (x ∷ xs) (suc i) d l = ap (λ ys. x ∷ ys) (about xs i d (omega (arith, l)))

-- one table more is looked up
pub looks_step : (tables : List PairList) (ns : List ℕ) (rows : List Row) (columns mid ats : List ℕ) (i : ℕ) (table : PairList) (vs : List Value) → i < length tables → length columns ≡ length tables → table ≡ get_or tables i table → vs ≡ map (cell_at (get_or columns i 0)) rows
    → LooksUpChain (take i tables) ns (map (λ at. map (cell_at at) rows) (take i columns)) mid → AreLookedUp table.pairs (pairs_of mid vs) ats → LooksUpChain (take (i + 1) tables) ns (map (λ at. map (cell_at at) rows) (take (i + 1) columns)) ats
looks_step tables ns rows columns mid ats i table vs l len is vs_is all more =
    let t : take (i + 1) tables ≡ take i tables ++ table ∷ [] = take_more tables i table l ∙ ap (λ (x : PairList). take i tables ++ x ∷ []) (sym is) in
    let c : map (λ at. map (cell_at at) rows) (take (i + 1) columns) ≡ map (λ at. map (cell_at at) rows) (take i columns) ++ vs ∷ [] =
    ap (map (λ at. map (cell_at at) rows)) (take_more columns i 0 (omega (arith, l, len))) ∙ map-append (λ at. map (cell_at at) rows) (take i columns) (get_or columns i 0 ∷ []) ∙ ap (λ (v : List Value). map (λ at. map (cell_at at) rows) (take i columns) ++ v ∷ []) (sym vs_is) in
    subst (λ (ts : List PairList). LooksUpChain ts ns (map (λ at. map (cell_at at) rows) (take (i + 1) columns)) ats) (sym t)
    (subst (λ (vss : List (List Value)). LooksUpChain (take i tables ++ table ∷ []) ns vss ats) (sym c) (looks_more (take i tables) ns (map (λ at. map (cell_at at) rows) (take i columns)) mid table vs ats all more))

pub looks_all : (tables : List PairList) (ns : List ℕ) (rows : List Row) (columns ats : List ℕ) (i : ℕ) → i ≡ length tables → length columns ≡ length tables → LooksUpChain (take i tables) ns (map (λ at. map (cell_at at) rows) (take i columns)) ats → LooksUpChain tables ns (map (λ at. map (cell_at at) rows) columns) ats
looks_all tables ns rows columns ats i end len all =
    subst (λ (ts : List PairList). LooksUpChain ts ns (map (λ at. map (cell_at at) rows) columns) ats) (ap (λ n. take n tables) end ∙ take-length tables)
    (subst (λ (cs : List ℕ). LooksUpChain (take i tables) ns (map (λ at. map (cell_at at) rows) cs) ats) (ap (λ n. take n columns) (end ∙ sym len) ∙ take-length columns) all)

-- the table at a place is as it was
same_table : (old now : List PairList) (i : ℕ) (d : PairList) → drop i now ≡ drop i old → get_or now i d ≡ get_or old i d
same_table old now i d rest =
    let e : i + 0 ≡ i = omega arith in
    sym (get_or-drop i now 0 d ∙ ap (λ k. get_or now k d) e) ∙ ap (λ (xs : List PairList). get_or xs 0 d) rest ∙ get_or-drop i old 0 d ∙ ap (λ k. get_or old k d) e

-- one table more gives a number
pub numbers_step : (old now : List PairList) (first : ℕ) (row : Row) (columns : List ℕ) (i mid at : ℕ) (d next : PairList) (v : Value) → i < length old → length now ≡ length old → length columns ≡ length old → drop i now ≡ drop i old → v ≡ cell_at (get_or columns i 0) row
    → NumbersChain (take i old) first (cells_at (take i columns) row) mid (take i now) → GivesNumber (get_or now i d).pairs (pair_with mid v) at next.pairs → at < no_number → next.kind ≡ (get_or now i d).kind
    → NumbersChain (take (i + 1) old) first (cells_at (take (i + 1) columns) row) at (take (i + 1) (set now i next))
numbers_step old now first row columns i mid at d next v l long len rest v_is all given low kind =
    let same = same_table old now i d rest in
    let o : take (i + 1) old ≡ take i old ++ get_or now i d ∷ [] = take_more old i d l ∙ ap (λ (x : PairList). take i old ++ x ∷ []) (sym same) in
    let n : take (i + 1) (set now i next) ≡ take i now ++ next ∷ [] = take_more_set now i next (omega (arith, l, long)) in
    let c : cells_at (take (i + 1) columns) row ≡ cells_at (take i columns) row ++ v ∷ [] =
    ap (λ cs. cells_at cs row) (take_more columns i 0 (omega (arith, l, len))) ∙ map-append (λ a. cell_at a row) (take i columns) (get_or columns i 0 ∷ []) ∙ ap (λ (w : Value). cells_at (take i columns) row ++ w ∷ []) (sym v_is) in
    subst (λ (ts : List PairList). NumbersChain ts first (cells_at (take (i + 1) columns) row) at (take (i + 1) (set now i next))) (sym o)
    (subst (λ (ts : List PairList). NumbersChain (take i old ++ get_or now i d ∷ []) first (cells_at (take (i + 1) columns) row) at ts) (sym n)
    (subst (λ (vs : List Value). NumbersChain (take i old ++ get_or now i d ∷ []) first vs at (take i now ++ next ∷ [])) (sym c)
    (numbers_more (take i old) first (cells_at (take i columns) row) mid (take i now) (get_or now i d) v at next all given low kind)))

pub numbers_all : (old now : List PairList) (first : ℕ) (row : Row) (columns : List ℕ) (i at : ℕ) → i ≡ length old → length now ≡ length old → length columns ≡ length old → NumbersChain (take i old) first (cells_at (take i columns) row) at (take i now) → NumbersChain old first (cells_at columns row) at now
numbers_all old now first row columns i at end long len all =
    subst (λ (ts : List PairList). NumbersChain ts first (cells_at columns row) at now) (ap (λ n. take n old) end ∙ take-length old)
    (subst (λ (ts : List PairList). NumbersChain (take i old) first (cells_at columns row) at ts) (ap (λ n. take n now) (end ∙ sym long) ∙ take-length now)
    (subst (λ (cs : List ℕ). NumbersChain (take i old) first (cells_at cs row) at (take i now)) (ap (λ n. take n columns) (end ∙ sym len) ∙ take-length columns) all))

-- a table that refuses
pub stop_step : (old now : List PairList) (first : ℕ) (row : Row) (columns : List ℕ) (i mid : ℕ) (d next : PairList) (v : Value) (fault : Fault) → i < length old → length now ≡ length old → length columns ≡ length old → drop i now ≡ drop i old → v ≡ cell_at (get_or columns i 0) row
    → NumbersChain (take i old) first (cells_at (take i columns) row) mid (take i now) → RefusesKey (get_or now i d).pairs (pair_with mid v) (Err fault) → next ≡ get_or now i d → StopsChain old first (cells_at columns row) fault (set now i next)
stop_step old now first row columns i mid d next v fault l long len rest v_is all refused is =
    let same = same_table old now i d rest in
    let more : drop (suc i) now ≡ drop (suc i) old = let n : suc i ≡ i + 1 = omega arith in ap (λ k. drop k now) n ∙ drop_more_same now old i rest ∙ sym (ap (λ k. drop k old) n) in
    let o : old ≡ take i old ++ get_or now i d ∷ drop (suc i) old = about old i d l ∙ ap (λ (x : PairList). take i old ++ x ∷ drop (suc i) old) (sym same) in
    let n : set now i next ≡ take i now ++ get_or now i d ∷ drop (suc i) old = ap (set now i) is ∙ set-get_or now i d ∙ about now i d (omega (arith, l, long)) ∙ ap (λ (xs : List PairList). take i now ++ get_or now i d ∷ xs) more in
    let c : cells_at columns row ≡ cells_at (take i columns) row ++ v ∷ cells_at (drop (suc i) columns) row =
    ap (λ cs. cells_at cs row) (about columns i 0 (omega (arith, l, len))) ∙ map-append (λ a. cell_at a row) (take i columns) (get_or columns i 0 ∷ drop (suc i) columns) ∙ ap (λ (w : Value). cells_at (take i columns) row ++ w ∷ cells_at (drop (suc i) columns) row) (sym v_is) in
    subst (λ (ts : List PairList). StopsChain ts first (cells_at columns row) fault (set now i next)) (sym o)
    (subst (λ (ts : List PairList). StopsChain (take i old ++ get_or now i d ∷ drop (suc i) old) first (cells_at columns row) fault ts) (sym n)
    (subst (λ (vs : List Value). StopsChain (take i old ++ get_or now i d ∷ drop (suc i) old) first vs fault (take i now ++ get_or now i d ∷ drop (suc i) old)) (sym c)
    (numbers_stop (take i old) first (cells_at (take i columns) row) mid (take i now) (get_or now i d) v fault (drop (suc i) old) (cells_at (drop (suc i) columns) row) all refused)))

-- what a row has under a column
pub cell_is : (values : List Value) (rows : List Row) (at row : ℕ) → values ≡ map (cell_at at) rows → row < length rows → value_at values row ≡ cell_at at (get_or rows row [])
cell_is values rows at row is l =
    ap (λ (vs : List Value). value_at vs row) is
    ∙ get_or_from_slice_get (map (cell_at at) rows) row (cell_at at (get_or rows row [])) Null (shown (cell_at at) rows row (get_or rows row []) (cell_at at (get_or rows row [])) (slice_get-get_or rows row [] l) refl)

one_field : (fields : List Field) (p : ℕ) → p < length fields → (f : Field) × (take 1 (drop p fields) ≡ f ∷ []) × (slice_get (kinds_of fields) p ≡ Some f.kind)
one_field [] p l = absurd (omega (arith, l))
one_field (f ∷ fields) zero l = (f, refl, refl)
one_field (f ∷ fields) (suc p) l = one_field fields p (omega (arith, l))

-- the type of the field at one of some places
pub kind_at : (fields : List Field) (places : List ℕ) (kinds : List ColType) (i at : ℕ) (kind : ColType) → All (λ p. p < length fields) places → kinds_of (fields_at fields places) ≡ kinds → slice_get places i ≡ Some at → slice_get (kinds_of fields) at ≡ Some kind → slice_get kinds i ≡ Some kind
kind_at fields [] kinds i at kind within is e here = cc
kind_at fields (p ∷ places) kinds zero at kind within is e here =
    let f = one_field fields p (within 0 0 (omega arith)) in
    let cons : f.0.kind ∷ kinds_of (fields_at fields places) ≡ kinds = ap (λ (fs : List Field). kinds_of (fs ++ fields_at fields places)) (sym f.1) ∙ is in
    ap (λ (ks : List ColType). slice_get ks 0) (sym cons) ∙ sym f.2 ∙ ap (slice_get (kinds_of fields)) (same_Some p at e) ∙ here
kind_at fields (p ∷ places) kinds (suc i) at kind within is e here =
    let f = one_field fields p (within 0 0 (omega arith)) in
    let cons : f.0.kind ∷ kinds_of (fields_at fields places) ≡ kinds = ap (λ (fs : List Field). kinds_of (fs ++ fields_at fields places)) (sym f.1) ∙ is in
    ap (λ (ks : List ColType). slice_get ks (suc i)) (sym cons) ∙ kind_at fields places (kinds_of (fields_at fields places)) i at kind (λ k d l. within (suc k) d (omega (arith, l))) refl e here

pub kind_is : (fields : List Field) (places : List ℕ) (tables : List PairList) (i : ℕ) (kind : ColType) (table : PairList) → All (λ p. p < length fields) places → kinds_of (fields_at fields places) ≡ map (λ t. t.kind) tables → i < length places → slice_get (kinds_of fields) (get_or places i 0) ≡ Some kind → slice_get tables i ≡ Some table → kind ≡ table.kind
kind_is fields places tables i kind table within is l here table_is =
    let a = kind_at fields places (map (λ (t : PairList). t.kind) tables) i (get_or places i 0) kind within is (slice_get-get_or places i 0 l) here in
    same_Some kind table.kind (sym a ∙ shown (λ (t : PairList). t.kind) tables i table table.kind table_is refl)

pub kind_then : (fields : List Field) (places : List ℕ) (old now : List PairList) (i : ℕ) (kind : ColType) (d : PairList) → All (λ p. p < length fields) places → kinds_of (fields_at fields places) ≡ map (λ t. t.kind) old → i < length old → length places ≡ length old → drop i now ≡ drop i old → slice_get (kinds_of fields) (get_or places i 0) ≡ Some kind → kind ≡ (get_or now i d).kind
kind_then fields places old now i kind d within is l len rest here =
    kind_is fields places old i kind (get_or old i d) within is (omega (arith, l, len)) here (slice_get-get_or old i d l) ∙ ap (λ (t : PairList). t.kind) (sym (same_table old now i d rest))

-- some columns, where there are types for them
pub some_columns : (fields : List Field) (places : List ℕ) (kind : ColType) (kinds : List ColType) → kinds_of (fields_at fields places) ≡ kind ∷ kinds → 0 < length places
some_columns fields [] kind kinds is = absurd (let l = ap (λ (ks : List ColType). length ks) is in omega (arith, l))
some_columns fields (p ∷ places) kind kinds is = omega arith

count_kinds : (fields : List Field) (places : List ℕ) → All (λ p. p < length fields) places → length (kinds_of (fields_at fields places)) ≡ length places
count_kinds fields [] within = refl
count_kinds fields (p ∷ places) within =
    let f = one_field fields p (within 0 0 (omega arith)) in
    ap (λ (fs : List Field). length (kinds_of (fs ++ fields_at fields places))) f.1 ∙ ap suc (count_kinds fields places (λ k d l. within (suc k) d (omega (arith, l))))

-- the columns after the first
pub record LaterColumns (fields : List Field) (places : List ℕ) (kind : ColType) (types : List ColType) : Type 0 where
  pub some : 0 < length places
  pub split : places ≡ get_or places 0 0 ∷ take (length places - 1) (drop 1 places)
  pub within : All (λ p. p < length fields) (take (length places - 1) (drop 1 places))
  pub kinds : kinds_of (fields_at fields (take (length places - 1) (drop 1 places))) ≡ types
  pub count : length (take (length places - 1) (drop 1 places)) ≡ length types

pub later_columns : (fields : List Field) (places : List ℕ) (kind : ColType) (kinds : List ColType) → All (λ p. p < length fields) places → kinds_of (fields_at fields places) ≡ kind ∷ kinds → LaterColumns fields places kind kinds
later_columns fields places kind kinds within is =
    let some = some_columns fields places kind kinds is in
    let split = split_list places 0 some in
    let later : List ℕ = take (length places - 1) (drop 1 places) in
    let all : All (λ p. p < length fields) (get_or places 0 0 ∷ later) = subst (All (λ p. p < length fields)) split within in
    let rest : All (λ p. p < length fields) later = λ k d l. all (suc k) d (omega (arith, l)) in
    let f = one_field fields (get_or places 0 0) (all 0 0 (omega arith)) in
    let cons : f.0.kind ∷ kinds_of (fields_at fields later) ≡ kind ∷ kinds = ap (λ (fs : List Field). kinds_of (fs ++ fields_at fields later)) (sym f.1) ∙ ap (λ ps. kinds_of (fields_at fields ps)) (sym split) ∙ is in
    let same : kinds_of (fields_at fields later) ≡ kinds = ap (λ (ks : List ColType). drop 1 ks) cons in
    record { some = some; split = split; within = rest; kinds = same; count = sym (count_kinds fields later rest) ∙ ap (λ (ks : List ColType). length ks) same }

pub first_kind : (fields : List Field) (places : List ℕ) (kind other : ColType) (kinds : List ColType) → All (λ p. p < length fields) places → kinds_of (fields_at fields places) ≡ kind ∷ kinds → slice_get (kinds_of fields) (get_or places 0 0) ≡ Some other → other ≡ kind
first_kind fields places kind other kinds within is here =
    sym (same_Some kind other (kind_at fields places (kind ∷ kinds) 0 (get_or places 0 0) other within is (slice_get-get_or places 0 0 (some_columns fields places kind kinds is)) here))

-- a vector whose items were all written
pub all_put : {X : Type 0} (count : ℕ) (xs ys : List X) → count ≡ length xs → take count (xs ++ drop (length xs) ys) ≡ xs
all_put count xs ys same = ap (λ n. take n (xs ++ drop (length xs) ys)) same ∙ take-append_seam xs (drop (length xs) ys)

pub not_empty : (n : ℕ) (t : Bool) → t ≡ (n == 0) → t ≡ false → 0 < n
not_empty zero t is none = let bad : true ≡ false = sym is ∙ none in cc
not_empty (suc n) t is none = omega arith
