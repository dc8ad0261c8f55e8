-- Chains of tables of pairs: what they give, find and refuse of rows.
use Rattle.std.proofs.Common.{◌≡◌, ◌≢◌, ◌<◌, ◌≤◌, ◌++◌, [], ◌∷◌, List, ℕ, suc, length, map, slice_get, get_or, Some, refl, arith, ap, ◌∙◌, sym, subst, inl, inr, append_assoc, drop}
use Rattle.std.proofs.lemmas.Option.{slice_get_within, slice_get-get_or, get_or_from_slice_get}
use Rattle.std.proofs.lemmas.List.{length-map, length-append, append-nil}
use Rattle.morsel_meaning.specs.declared.fault.Fault.{Fault}
use Rattle.morsel_meaning.specs.declared.fault.Fault.TheVariants as faults
use Rattle.morsel_meaning.specs.declared.fault.ComputeKind.TheVariants as causes
use Rattle.morsel_meaning.specs.declared.value.ColType.{ColType}
use Rattle.morsel_meaning.specs.declared.value.Value.{Value}
use Rattle.morsel_meaning.specs.declared.value.Value.TheVariants as values
use Rattle.morsel_meaning.specs.Values.{Row}
use Rattle.morsel_keys.specs.Slots.{IsFound, IsNewKey, GivesNumber, HasKeysEachOnce, no_number}
use Rattle.morsel_keys.proofs.HeldLemmas.{shown_at}
use Rattle.morsel_keys.proofs.NumberLemmas.{numbers_keep}
use Rattle.morsel_row_keys.specs.Pairs.{Pair, PairList, pair_with, pairs_of}
use Rattle.morsel_row_keys.specs.Chains.{row_of_pair, chain_rows, ArePairsOf, IsChain, LooksUpChain, NumbersChain, StopsChain}
use Rattle.morsel_row_keys.proofs.ShownLemmas.{ShowsOnly, ShowAlike, new_shown_only, found_shown_only, shown_alike, gives_shown, gives_longer, gives_once, gives_held, gives_each, gives_short}
use Rattle.morsel_row_keys.proofs.RefusedLemmas.{refused_new}
use Rattle.morsel_row_keys.proofs.PairLemmas.{pairs_get}

-- rows with one value more are the same only where both are
same_row : (row other : Row) (v w : Value) → row ++ v ∷ [] ≡ other ++ w ∷ [] → row ≡ other
same_row [] [] v w e = refl
same_row [] (y ∷ other) v w e = absurd (let l = ap (λ (r : Row). length r) e in let m = length-append other (w ∷ []) in omega (arith, l, m))
same_row (x ∷ row) [] v w e = absurd (let l = ap (λ (r : Row). length r) e in let m = length-append row (v ∷ []) in omega (arith, l, m))
same_row (x ∷ row) (y ∷ other) v w e = ap (λ (z : Value). z ∷ row) (ap (λ (r : Row). get_or r 0 values.Null) e) ∙ ap (λ (r : Row). y ∷ r) (same_row row other v w (ap (λ (r : Row). drop 1 r) e))

same_last : (row other : Row) (v w : Value) → row ++ v ∷ [] ≡ other ++ w ∷ [] → v ≡ w
same_last [] [] v w e = ap (λ (r : Row). get_or r 0 values.Null) e
same_last [] (y ∷ other) v w e = absurd (let l = ap (λ (r : Row). length r) e in let m = length-append other (w ∷ []) in omega (arith, l, m))
same_last (x ∷ row) [] v w e = absurd (let l = ap (λ (r : Row). length r) e in let m = length-append row (v ∷ []) in omega (arith, l, m))
same_last (x ∷ row) (y ∷ other) v w e = same_last row other v w (ap (λ (r : Row). drop 1 r) e)

-- only the pair of a row's number and a value has the row with this value
pair_only : (rows : List Row) (pairs : List Pair) (row : Row) (n : ℕ) (v : Value) → HasKeysEachOnce rows → ArePairsOf (length rows) pairs → slice_get rows n ≡ Some row → ShowsOnly (row_of_pair rows) pairs (pair_with n v) (row ++ v ∷ [])
pair_only rows pairs row n v once of_rows here k pair held same =
    let there = slice_get-get_or rows pair.first [] (of_rows k pair held) in
    let number : pair.first ≡ n = once pair.first n row (there ∙ ap Some (same_row (get_or rows pair.first []) row pair.second v same)) here in
    ap (λ m. pair_with m pair.second) number ∙ ap (pair_with n) (same_last (get_or rows pair.first []) row pair.second v same)

-- the row of a pair
row_is : (rows : List Row) (row : Row) (n : ℕ) (v : Value) → slice_get rows n ≡ Some row → row_of_pair rows (pair_with n v) ≡ row ++ v ∷ []
row_is rows row n v here = ap (λ (r : Row). r ++ v ∷ []) (get_or_from_slice_get rows n row [] here)

-- a new row is new with whatever follows
pub new_longer : (rows : List Row) (pairs : List Pair) (row : Row) (v : Value) → ArePairsOf (length rows) pairs → IsNewKey row rows → IsNewKey (row ++ v ∷ []) (map (row_of_pair rows) pairs)
new_longer rows pairs row v of_rows new k e = shown_at (row_of_pair rows) pairs k (row ++ v ∷ []) ⊥ e (λ pair held same.
    new pair.first (slice_get-get_or rows pair.first [] (of_rows k pair held) ∙ ap Some (same_row (get_or rows pair.first []) row pair.second v same)))

new_pair_row : (rows : List Row) (pairs : List Pair) (row : Row) (n : ℕ) (v : Value) → HasKeysEachOnce rows → ArePairsOf (length rows) pairs → slice_get rows n ≡ Some row → IsNewKey (pair_with n v) pairs → IsNewKey (row ++ v ∷ []) (map (row_of_pair rows) pairs)
new_pair_row rows pairs row n v once of_rows here new = new_shown_only (row_of_pair rows) pairs (pair_with n v) (row ++ v ∷ []) (pair_only rows pairs row n v once of_rows here) new

-- rows of pairs are each once
pub rows_once : (rows : List Row) (pairs : List Pair) → HasKeysEachOnce rows → HasKeysEachOnce pairs → ArePairsOf (length rows) pairs → HasKeysEachOnce (map (row_of_pair rows) pairs)
rows_once rows pairs once pairs_once of_rows i j key a b =
    shown_at (row_of_pair rows) pairs i key (i ≡ j) a (λ pair held same.
    shown_at (row_of_pair rows) pairs j key (i ≡ j) b (λ other also again.
    pairs_once i j pair held (also ∙ ap Some (pair_only rows pairs (get_or rows pair.first []) pair.first pair.second once of_rows (slice_get-get_or rows pair.first [] (of_rows i pair held)) j other also (again ∙ sym same)))))

-- what is found of the pair says what is found of the row
found_row : (rows : List Row) (pairs : List Pair) (row : Row) (n : ℕ) (v : Value) (at : ℕ) → length rows ≤ no_number → HasKeysEachOnce rows → ArePairsOf (length rows) pairs → IsFound rows row n → IsFound pairs (pair_with n v) at → IsFound (map (row_of_pair rows) pairs) (row ++ v ∷ []) at
found_row rows pairs row n v at short once of_rows (inl (none, new)) (inl (nothing, absent)) = inl (nothing, new_longer rows pairs row v of_rows new)
found_row rows pairs row n v at short once of_rows (inl (none, new)) (inr held) = absurd (let l = of_rows at (pair_with n v) held in omega (arith, none, l, short))
found_row rows pairs row n v at short once of_rows (inr here) found = found_shown_only (row_of_pair rows) pairs (pair_with n v) (row ++ v ∷ []) at (pair_only rows pairs row n v once of_rows here) (row_is rows row n v here) found

-- rows that are there stay
pub rows_alike : (rows next : List Row) (pairs : List Pair) (row : Row) (n : ℕ) → ArePairsOf (length rows) pairs → GivesNumber rows row n next → ShowAlike (row_of_pair rows) (row_of_pair next) pairs
rows_alike rows next pairs row n of_rows gives k pair held =
    let here = slice_get-get_or rows pair.first [] (of_rows k pair held) in
    ap (λ (r : Row). r ++ pair.second ∷ []) (get_or_from_slice_get next pair.first (get_or rows pair.first []) [] (numbers_keep rows row n next pair.first (get_or rows pair.first []) gives here))

-- the pair gives the row a number
gives_row : (rows next : List Row) (pairs more : List Pair) (row : Row) (n : ℕ) (v : Value) (at : ℕ) → HasKeysEachOnce rows → ArePairsOf (length rows) pairs → GivesNumber rows row n next → GivesNumber pairs (pair_with n v) at more → GivesNumber (map (row_of_pair rows) pairs) (row ++ v ∷ []) at (map (row_of_pair next) more)
gives_row rows next pairs more row n v at once of_rows gives given =
    let here = gives_held rows row n next gives in
    gives_shown (row_of_pair rows) (row_of_pair next) pairs (pair_with n v) (row ++ v ∷ []) at more (rows_alike rows next pairs row n of_rows gives)
    (pair_only next pairs row n v (gives_once rows row n next gives once) (λ k pair held. let l = of_rows k pair held in let m = gives_longer rows row n next gives in omega (arith, l, m)) here) (row_is next row n v here) given

-- a row with one value more, and then those that follow
then_more : (row : Row) (v : Value) (vs : List Value) → (row ++ v ∷ []) ++ vs ≡ row ++ v ∷ vs
then_more row v vs = append_assoc row (v ∷ []) vs

-- the rows of a chain are each once, and are so many
pub chain_once : (rows : List Row) (tables : List PairList) → HasKeysEachOnce rows → IsChain (length rows) tables → HasKeysEachOnce (chain_rows rows tables)
chain_once rows [] once chain = once
chain_once rows (table ∷ tables) once (of_rows, pairs_once, short, chain) =
    chain_once (map (row_of_pair rows) table.pairs) tables (rows_once rows table.pairs once pairs_once of_rows) (subst (λ n. IsChain n tables) (sym (length-map table.pairs (row_of_pair rows))) chain)

-- what is found in one table after the other
pub found_chain : (rows : List Row) (tables : List PairList) (ns ats : List ℕ) (columns : List (List Value)) (i : ℕ) (row : Row) → length rows ≤ no_number → HasKeysEachOnce rows → IsChain (length rows) tables
    → ((vs : List Value) (j : ℕ) → slice_get columns j ≡ Some vs → i < length vs) → LooksUpChain tables ns columns ats → i < length ns → IsFound rows row (get_or ns i 0) → IsFound (chain_rows rows tables) (row ++ map (λ vs. get_or vs i values.Null) columns) (get_or ats i 0)
found_chain rows [] ns ats [] i row short once chain long all l found = subst (λ (k : Row). IsFound rows k (get_or ats i 0)) (sym (append-nil row)) (subst (λ (ms : List ℕ). IsFound rows row (get_or ms i 0)) (sym all) found)
found_chain rows [] ns ats (vs ∷ columns) i row short once chain long all l found = absurd all
found_chain rows (table ∷ tables) ns ats [] i row short once chain long all l found = absurd all
found_chain rows (table ∷ tables) ns ats (vs ∷ columns) i row short once (of_rows, pairs_once, fits, chain) long (mid, looked, all) l found =
    let v : Value = get_or vs i values.Null in
    let here = slice_get-get_or vs i values.Null (long vs 0 refl) in
    let pair_here = pairs_get ns vs i (get_or ns i 0) v (slice_get-get_or ns i 0 l) here in
    let found_here = found_row rows table.pairs row (get_or ns i 0) v (get_or mid i 0) short once of_rows found (looked.each i (pair_with (get_or ns i 0) v) pair_here) in
    let size = length-map table.pairs (row_of_pair rows) in
    subst (λ (k : Row). IsFound (chain_rows (map (row_of_pair rows) table.pairs) tables) k (get_or ats i 0)) (then_more row v (map (λ us. get_or us i values.Null) columns))
    (found_chain (map (row_of_pair rows) table.pairs) tables mid ats columns i (row ++ v ∷ []) (omega (arith, size, fits)) (rows_once rows table.pairs once pairs_once of_rows) (subst (λ n. IsChain n tables) (sym size) chain)
    (λ us j e. long us (suc j) e) all (let in_pairs = slice_get_within (pairs_of ns vs) i (pair_with (get_or ns i 0) v) pair_here in let same = looked.len in omega (arith, in_pairs, same)) found_here)

-- pairs of rows with one more
pairs_of_more : (rows next : List Row) (table more : List Pair) (row : Row) (n at : ℕ) (v : Value) → ArePairsOf (length rows) table → GivesNumber rows row n next → GivesNumber table (pair_with n v) at more → ArePairsOf (length next) more
pairs_of_more rows next table more row n at v of_rows gives given =
    gives_each table (pair_with n v) at more given (λ (p : Pair). p.first < length next)
    (λ k pair held. let l = of_rows k pair held in let m = gives_longer rows row n next gives in omega (arith, l, m)) (slice_get_within next n row (gives_held rows row n next gives))

-- what tables give to pairs, one after the other, they give to the row; and they are a chain then
pub record ChainGives (rows next : List Row) (tables more : List PairList) (key : Row) (at : ℕ) : Type 0 where
  pub gives : GivesNumber (chain_rows rows tables) key at (chain_rows next more)
  pub chain : IsChain (length next) more
  pub kinds : map (λ (t : PairList). t.kind) more ≡ map (λ (t : PairList). t.kind) tables

pub gives_chain : (rows next : List Row) (tables more : List PairList) (row : Row) (n at : ℕ) (vs : List Value) → HasKeysEachOnce rows → IsChain (length rows) tables → GivesNumber rows row n next → at < no_number → NumbersChain tables n vs at more
    → ChainGives rows next tables more (row ++ vs) at
gives_chain rows next [] [] row n at [] once chain gives small all = record {
  gives = subst (λ (k : Row). GivesNumber rows k at next) (sym (append-nil row)) (subst (λ m. GivesNumber rows row m next) (sym all) gives);
  chain = tt;
  kinds = refl;
}
gives_chain rows next [] [] row n at (v ∷ vs) once chain gives small all = absurd all
gives_chain rows next [] (t ∷ more) row n at [] once chain gives small all = absurd all
gives_chain rows next [] (t ∷ more) row n at (v ∷ vs) once chain gives small all = absurd all
gives_chain rows next (t ∷ tables) [] row n at [] once chain gives small all = absurd all
gives_chain rows next (t ∷ tables) [] row n at (v ∷ vs) once chain gives small all = absurd all
gives_chain rows next (t ∷ tables) (u ∷ more) row n at [] once chain gives small all = absurd all
gives_chain rows next (t ∷ tables) (u ∷ more) row n at (v ∷ vs) once (of_rows, pairs_once, short, chain) gives small (mid, given, low, kind, all) =
    let size = length-map t.pairs (row_of_pair rows) in
    let more_size = length-map u.pairs (row_of_pair next) in
    let later = gives_chain (map (row_of_pair rows) t.pairs) (map (row_of_pair next) u.pairs) tables more (row ++ v ∷ []) mid at vs (rows_once rows t.pairs once pairs_once of_rows) (subst (λ m. IsChain m tables) (sym size) chain)
    (gives_row rows next t.pairs u.pairs row n v mid once of_rows gives given) small all in
    record {
      gives = subst (λ (k : Row). GivesNumber (chain_rows (map (row_of_pair rows) t.pairs) tables) k at (chain_rows (map (row_of_pair next) u.pairs) more)) (then_more row v vs) later.gives;
      chain = (pairs_of_more rows next t.pairs u.pairs row n mid v of_rows gives given, gives_once t.pairs (pair_with n v) mid u.pairs given pairs_once, gives_short t.pairs (pair_with n v) mid u.pairs short low given, subst (λ m. IsChain m more) more_size later.chain);
      kinds = ap (λ (k : ColType). k ∷ map (λ (w : PairList). w.kind) more) kind ∙ ap (λ (ks : List ColType). t.kind ∷ ks) later.kinds;
    }

-- a row that is new at first is new with what follows
pub new_chain : (rows : List Row) (tables : List PairList) (row : Row) (vs : List Value) → IsChain (length rows) tables → length vs ≡ length tables → IsNewKey row rows → IsNewKey (row ++ vs) (chain_rows rows tables)
new_chain rows [] row [] chain same new = subst (λ (k : Row). IsNewKey k rows) (sym (append-nil row)) new
new_chain rows [] row (v ∷ vs) chain same new = absurd (omega (arith, same))
new_chain rows (t ∷ tables) row [] chain same new = absurd (omega (arith, same))
new_chain rows (t ∷ tables) row (v ∷ vs) (of_rows, pairs_once, short, chain) same new =
    subst (λ (k : Row). IsNewKey k (chain_rows (map (row_of_pair rows) t.pairs) tables)) (then_more row v vs)
    (new_chain (map (row_of_pair rows) t.pairs) tables (row ++ v ∷ []) vs (subst (λ m. IsChain m tables) (sym (length-map t.pairs (row_of_pair rows))) chain) (omega (arith, same)) (new_longer rows t.pairs row v of_rows new))

-- where a table refuses its pair, no row is new, and the row is refused
pub record ChainStops (rows next : List Row) (tables more : List PairList) (key : Row) (fault : Fault) : Type 0 where
  pub same : chain_rows next more ≡ chain_rows rows tables
  pub chain : IsChain (length next) more
  pub kinds : map (λ (t : PairList). t.kind) more ≡ map (λ (t : PairList). t.kind) tables
  pub refused : fault ≢ faults.OutOfMemory → (fault ≡ faults.ComputeError causes.TooManyGroups 4294967295 0) × IsNewKey key (chain_rows rows tables)

pub stops_chain : (rows next : List Row) (tables more : List PairList) (row : Row) (n : ℕ) (vs : List Value) (fault : Fault) → HasKeysEachOnce rows → IsChain (length rows) tables → GivesNumber rows row n next → length vs ≡ length tables → StopsChain tables n vs fault more
    → ChainStops rows next tables more (row ++ vs) fault
stops_chain rows next [] more row n vs fault once chain gives same stops = absurd stops
stops_chain rows next (t ∷ tables) [] row n [] fault once chain gives same stops = absurd stops
stops_chain rows next (t ∷ tables) [] row n (v ∷ vs) fault once chain gives same stops = absurd stops
stops_chain rows next (t ∷ tables) (u ∷ more) row n [] fault once chain gives same stops = absurd stops
stops_chain rows next (t ∷ tables) (u ∷ more) row n (v ∷ vs) fault once (of_rows, pairs_once, short, chain) gives same (inl (refused, here, rest)) =
    let kept : map (row_of_pair next) t.pairs ≡ map (row_of_pair rows) t.pairs = shown_alike (row_of_pair rows) (row_of_pair next) t.pairs (rows_alike rows next t.pairs row n of_rows gives) in
    let size = length-map t.pairs (row_of_pair rows) in
    let longer = gives_longer rows row n next gives in
    record {
      same = ap (λ (w : PairList). chain_rows (map (row_of_pair next) w.pairs) more) here ∙ ap (chain_rows (map (row_of_pair next) t.pairs)) rest ∙ ap (λ (rs : List Row). chain_rows rs tables) kept;
      chain = subst (λ (w : PairList). IsChain (length next) (w ∷ more)) (sym here) (subst (λ (ws : List PairList). IsChain (length next) (t ∷ ws)) (sym rest) ((λ k pair held. let l = of_rows k pair held in omega (arith, l, longer)), pairs_once, short, chain));
      kinds = ap (λ (w : PairList). w.kind ∷ map (λ (x : PairList). x.kind) more) here ∙ ap (λ (ws : List PairList). t.kind ∷ map (λ (x : PairList). x.kind) ws) rest;
      refused = λ other.
          let known = refused_new t.pairs (pair_with n v) fault refused other in (
            known.0,
            subst (λ (k : Row). IsNewKey k (chain_rows (map (row_of_pair rows) t.pairs) tables)) (then_more row v vs)
                (new_chain (map (row_of_pair rows) t.pairs) tables (row ++ v ∷ []) vs (subst (λ m. IsChain m tables) (sym size) chain) (omega (arith, same))
                (new_row known.1)),
          );
    }
  where
    new_row : IsNewKey (pair_with n v) t.pairs → IsNewKey (row ++ v ∷ []) (map (row_of_pair rows) t.pairs)
    new_row new = subst (λ (rs : List Row). IsNewKey (row ++ v ∷ []) rs) (shown_alike (row_of_pair rows) (row_of_pair next) t.pairs (rows_alike rows next t.pairs row n of_rows gives))
        (new_pair_row next t.pairs row n v (gives_once rows row n next gives once) (λ k pair held. let l = of_rows k pair held in let m = gives_longer rows row n next gives in omega (arith, l, m)) (gives_held rows row n next gives) new)
stops_chain rows next (t ∷ tables) (u ∷ more) row n (v ∷ vs) fault once (of_rows, pairs_once, short, chain) gives same (inr (mid, given, low, kind, stops)) =
    let size = length-map t.pairs (row_of_pair rows) in
    let more_size = length-map u.pairs (row_of_pair next) in
    let later = stops_chain (map (row_of_pair rows) t.pairs) (map (row_of_pair next) u.pairs) tables more (row ++ v ∷ []) mid vs fault (rows_once rows t.pairs once pairs_once of_rows) (subst (λ m. IsChain m tables) (sym size) chain)
    (gives_row rows next t.pairs u.pairs row n v mid once of_rows gives given) (omega (arith, same)) stops in
    record {
      same = later.same;
      chain = (pairs_of_more rows next t.pairs u.pairs row n mid v of_rows gives given, gives_once t.pairs (pair_with n v) mid u.pairs given pairs_once, gives_short t.pairs (pair_with n v) mid u.pairs short low given, subst (λ m. IsChain m more) more_size later.chain);
      kinds = ap (λ (k : ColType). k ∷ map (λ (w : PairList). w.kind) more) kind ∙ ap (λ (ks : List ColType). t.kind ∷ ks) later.kinds;
      refused = λ other. let known = later.refused other in (known.0, subst (λ (k : Row). IsNewKey k (chain_rows (map (row_of_pair rows) t.pairs) tables)) (then_more row v vs) known.1);
    }
