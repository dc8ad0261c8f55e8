-- Pairs that are kept as words, and what look-ups of words say of pairs.
use Rattle.std.proofs.Common.{◌≡◌, ◌<◌, ◌≤◌, ◌++◌, [], ◌∷◌, List, ℕ, zero, suc, ◌+◌, ◌*◌, ◌/◌, ◌%◌, ◌^◌, length, map, take, slice_get, get_or, Some, refl, arith, ap, ◌∙◌, sym, subst, inl, inr}
use Rattle.std.specs.Int.{w64, cast_unsigned}
use Rattle.std.proofs.lemmas.Int.{of_z-to_z}
use Rattle.std.specs.Prelude.{Result, Ok, Err, IfOk, OnErr, ℤ}
use Rattle.std.proofs.lemmas.List.{length-map}
use Rattle.morsel_meaning.specs.declared.value.ColType.{ColType}
use Rattle.morsel_meaning.specs.declared.value.ColType.TheVariants as types
use Rattle.morsel_meaning.specs.declared.fault.Fault.{Fault}
use Rattle.std.proofs.lemmas.Option.{slice_get_within, slice_get-get_or, get_or_from_slice_get, same_Some}
use Rattle.morsel_meaning.specs.declared.value.Value.{Value}
use Rattle.morsel_meaning.specs.declared.value.Value.TheVariants as values
use Rattle.morsel_frame.specs.Columns.{Values, value_at}
use Rattle.morsel_keys.specs.Slots.{IsFound, AreLookedUp, IsNewKey, GivesNumber, HasKeysEachOnce, RefusesKey, no_number}
use Rattle.morsel_keys.proofs.HeldLemmas.{shown_at}
use Rattle.morsel_keys.proofs.NumberLemmas.{numbers_keep}
use Rattle.morsel_row_keys.specs.Pairs.{Pair, PairList, pair_with, pairs_of, pair_word, pair_words, held_pair, IsPairWord, ArePairs}
use Rattle.morsel_row_keys.proofs.ShownLemmas.{ShowsOnly, ShowAlike, new_shown_only, found_shown_only, shown_alike, gives_shown, gives_longer, gives_once, gives_held, gives_each, gives_short}
use Rattle.morsel_row_keys.specs.Chains.{refusal_of}
use Rattle.morsel_row_keys.proofs.RefusedLemmas.{refused_new, refused_by, refuses_shown}

-- the word of two numbers of 32 bits has both
word_back : (first second : ℕ) → first < 2 ^ 32 → second < 2 ^ 32 → cast_unsigned w64 (pair_word first second) ≡ first * 2 ^ 32 + second
word_back first second a b = of_z-to_z w64 (first * 2 ^ 32 + second) (omega (arith, a, b))

high : (first second : ℕ) → second < 2 ^ 32 → (first * 2 ^ 32 + second) / 2 ^ 32 ≡ first
high first second b = omega (arith, b)

low : (first second : ℕ) → second < 2 ^ 32 → (first * 2 ^ 32 + second) % 2 ^ 32 ≡ second
low first second b = omega (arith, b)

held_word : (seconds : List Value) (first second : ℕ) → first < 2 ^ 32 → second < 2 ^ 32 → held_pair seconds (values.Int (pair_word first second)) ≡ pair_with first (value_at seconds second)
held_word seconds first second a b =
    let back = word_back first second a b in
    ap (λ n. pair_with (n / 2 ^ 32) (value_at seconds (n % 2 ^ 32))) back
    ∙ ap (λ n. pair_with n (value_at seconds ((first * 2 ^ 32 + second) % 2 ^ 32))) (high first second b)
    ∙ ap (λ n. pair_with first (value_at seconds n)) (low first second b)

-- a word shows a pair of a value that is numbered
word_shows : (seconds : List Value) (first second : ℕ) (v : Value) → first < no_number → length seconds ≤ no_number → slice_get seconds second ≡ Some v → held_pair seconds (values.Int (pair_word first second)) ≡ pair_with first v
word_shows seconds first second v a short here =
    let l = slice_get_within seconds second v here in
    held_word seconds first second (omega (arith, a)) (omega (arith, l, short)) ∙ ap (pair_with first) (get_or_from_slice_get seconds second v values.Null here)

-- what a word that is kept shows is the pair of this number and of a value that is numbered
shows_what : (seconds : List Value) (word : Value) (first : ℕ) (v : Value) (P : Type 0) → length seconds ≤ no_number → IsPairWord (length seconds) word → held_pair seconds word ≡ pair_with first v
    → ((second : ℕ) → slice_get seconds second ≡ Some v → word ≡ values.Int (pair_word first second) → P) → P
shows_what seconds word first v P short is shows go =
    let there = slice_get-get_or seconds is.1 values.Null is.3 in
    let shown : pair_with is.0 (value_at seconds is.1) ≡ pair_with first v = sym (ap (held_pair seconds) is.4 ∙ word_shows seconds is.0 is.1 (value_at seconds is.1) is.2 short there) ∙ shows in
    go is.1 (there ∙ ap (λ (p : Pair). Some p.second) shown) (is.4 ∙ ap (λ (p : Pair). values.Int (pair_word p.first is.1)) shown)

-- only the word of a pair shows it
pub shows_only : (seconds words : Values) (first second : ℕ) (v : Value) → ArePairs seconds words → slice_get seconds.values second ≡ Some v → ShowsOnly (held_pair seconds.values) words.values (values.Int (pair_word first second)) (pair_with first v)
shows_only seconds words first second v are here k word held same =
    shows_what seconds.values word first v (word ≡ values.Int (pair_word first second)) are.within (are.each k word held) same
    (λ at there is. is ∙ ap (λ n. values.Int (pair_word first n)) (are.once at second v there here))

-- a pair of a new value is new
pub new_second : (seconds words : Values) (first : ℕ) (v : Value) → ArePairs seconds words → IsNewKey v seconds.values → IsNewKey (pair_with first v) (map (held_pair seconds.values) words.values)
new_second seconds words first v are new =
    new_shown_only (held_pair seconds.values) words.values values.Null (pair_with first v)
    (λ k word held same. shows_what seconds.values word first v (word ≡ values.Null) are.within (are.each k word held) same (λ at there is. absurd (new at there)))
    (λ k e. no_word (length seconds.values) (are.each k values.Null e))
  where
    no_word : (count : ℕ) → IsPairWord count values.Null → ⊥
    no_word count is = let bad = is.4 in cc

abbrev unsigned_of : Value → ℕ
unsigned_of (values.Int n) = cast_unsigned w64 n
unsigned_of values.Null = 0
unsigned_of (values.Bool b) = 0
unsigned_of (values.Text t) = 0

-- the parts of a word are those that it was made of
same_second : (a b c d : ℕ) → a < 2 ^ 32 → b < 2 ^ 32 → c < 2 ^ 32 → d < 2 ^ 32 → values.Int (pair_word a b) ≡ values.Int (pair_word c d) → b ≡ d
same_second a b c d la lb lc ld same =
    let n : a * 2 ^ 32 + b ≡ c * 2 ^ 32 + d = sym (word_back a b la lb) ∙ ap unsigned_of same ∙ word_back c d lc ld in
    omega (arith, n, lb, ld)

-- what is found of a word says what is found of the pair
found_pair : (seconds words : Values) (first second at : ℕ) (v : Value) → ArePairs seconds words → first < 2 ^ 32 → second < 2 ^ 32 → IsFound seconds.values v second → IsFound words.values (values.Int (pair_word first second)) at
    → IsFound (map (held_pair seconds.values) words.values) (pair_with first v) at
found_pair seconds words first second at v are a b (inl (none, new)) (inl (nothing, absent)) = inl (nothing, new_second seconds words first v are new)
found_pair seconds words first second at v are a b (inl (none, new)) (inr held) =
    let is = are.each at (values.Int (pair_word first second)) held in
    let short = are.within in
    let lp = is.2 in
    let lq = is.3 in
    let same = same_second first second is.0 is.1 a b (omega (arith, lp)) (omega (arith, lq, short)) is.4 in
    absurd (omega (arith, none, same, lq, short))
found_pair seconds words first second at v are a b (inr here) found =
    let l = slice_get_within seconds.values second v here in
    found_shown_only (held_pair seconds.values) words.values (values.Int (pair_word first second)) (pair_with first v) at (shows_only seconds words first second v are here)
    (held_word seconds.values first second a b ∙ ap (pair_with first) (get_or_from_slice_get seconds.values second v values.Null here)) found

-- pairs and words at a place
pub pairs_at : (firsts : List ℕ) (vs : List Value) (i : ℕ) (pair : Pair) → slice_get (pairs_of firsts vs) i ≡ Some pair → (slice_get firsts i ≡ Some pair.first) × (slice_get vs i ≡ Some pair.second)
pairs_at [] vs i pair e = cc
pairs_at (first ∷ firsts) [] i pair e = cc
pairs_at (first ∷ firsts) (v ∷ vs) zero pair e = let same = same_Some (pair_with first v) pair e in (ap (λ (p : Pair). Some p.first) same, ap (λ (p : Pair). Some p.second) same)
pairs_at (first ∷ firsts) (v ∷ vs) (suc i) pair e = pairs_at firsts vs i pair e

pub pairs_get : (firsts : List ℕ) (vs : List Value) (i first : ℕ) (v : Value) → slice_get firsts i ≡ Some first → slice_get vs i ≡ Some v → slice_get (pairs_of firsts vs) i ≡ Some (pair_with first v)
pairs_get [] vs i first v a b = cc
pairs_get (f ∷ firsts) [] i first v a b = cc
pairs_get (f ∷ firsts) (w ∷ vs) zero first v a b = let x = same_Some f first a in let y = same_Some w v b in ap (λ n. Some (pair_with n w)) x ∙ ap (λ u. Some (pair_with first u)) y
pairs_get (f ∷ firsts) (w ∷ vs) (suc i) first v a b = pairs_get firsts vs i first v a b

words_at : (firsts seconds : List ℕ) (i first second : ℕ) → slice_get firsts i ≡ Some first → slice_get seconds i ≡ Some second → slice_get (pair_words firsts seconds) i ≡ Some (values.Int (pair_word first second))
words_at [] seconds i first second a b = cc
words_at (f ∷ firsts) [] i first second a b = cc
words_at (f ∷ firsts) (s ∷ seconds) zero first second a b = let x = same_Some f first a in let y = same_Some s second b in ap (λ n. Some (values.Int (pair_word n s))) x ∙ ap (λ n. Some (values.Int (pair_word first n))) y
words_at (f ∷ firsts) (s ∷ seconds) (suc i) first second a b = words_at firsts seconds i first second a b

pub length-pair_words : (firsts seconds : List ℕ) → length seconds ≡ length firsts → length (pair_words firsts seconds) ≡ length firsts
length-pair_words [] seconds same = refl
length-pair_words (f ∷ firsts) [] same = absurd (omega (arith, same))
length-pair_words (f ∷ firsts) (s ∷ seconds) same = ap suc (length-pair_words firsts seconds (omega (arith, same)))

pub length-pairs_of : (firsts : List ℕ) (vs : List Value) → length vs ≡ length firsts → length (pairs_of firsts vs) ≡ length firsts
length-pairs_of [] vs same = refl
length-pairs_of (f ∷ firsts) [] same = absurd (omega (arith, same))
length-pairs_of (f ∷ firsts) (v ∷ vs) same = ap suc (length-pairs_of firsts vs (omega (arith, same)))

words_then : (firsts seconds : List ℕ) (i : ℕ) → i < length firsts → length seconds ≡ length firsts → pair_words (take (suc i) firsts) (take (suc i) seconds) ≡ pair_words (take i firsts) (take i seconds) ++ values.Int (pair_word (get_or firsts i 0) (get_or seconds i 0)) ∷ []
words_then [] seconds i l same = absurd (omega (arith, l))
words_then (f ∷ firsts) [] i l same = absurd (omega (arith, same))
words_then (f ∷ firsts) (s ∷ seconds) zero l same = refl
words_then (f ∷ firsts) (s ∷ seconds) (suc i) l same = ap (λ (ws : List Value). values.Int (pair_word f s) ∷ ws) (words_then firsts seconds i (omega (arith, l)) (omega (arith, same)))

pub words_step : (firsts seconds : List ℕ) (i : ℕ) → i < length firsts → length seconds ≡ length firsts → pair_words (take (i + 1) firsts) (take (i + 1) seconds) ≡ pair_words (take i firsts) (take i seconds) ++ values.Int (pair_word (get_or firsts i 0) (get_or seconds i 0)) ∷ []
words_step firsts seconds i l same = let n : i + 1 ≡ suc i = omega arith in ap (λ k. pair_words (take k firsts) (take k seconds)) n ∙ words_then firsts seconds i l same

pub words_put : (column next : Values) (firsts seconds : List ℕ) (i : ℕ) (n : ℤ) → next ≡ record { kind = column.kind; values = column.values ++ values.Int n ∷ [] } → column ≡ record { kind = types.Int; values = pair_words (take i firsts) (take i seconds) }
    → n ≡ pair_word (get_or firsts i 0) (get_or seconds i 0) → i < length firsts → length seconds ≡ length firsts → next ≡ record { kind = types.Int; values = pair_words (take (i + 1) firsts) (take (i + 1) seconds) }
words_put column next firsts seconds i n put done is l same =
    put
    ∙ ap (λ (c : Values). record { kind = c.kind; values = c.values ++ values.Int n ∷ [] }) done
    ∙ ap (λ (m : ℤ). record { kind = types.Int; values = pair_words (take i firsts) (take i seconds) ++ values.Int m ∷ [] }) is
    ∙ ap (λ (vs : List Value). record { kind = types.Int; values = vs }) (sym (words_step firsts seconds i l same))

-- what is found of all words says what is found of all pairs
pub found_pairs : (seconds words : Values) (firsts numbers ats : List ℕ) (vs : List Value) → ArePairs seconds words → ((i : ℕ) → get_or firsts i 0 < 2 ^ 32) → ((i : ℕ) → get_or numbers i 0 < 2 ^ 32) → length firsts ≡ length vs
    → AreLookedUp seconds.values vs numbers → AreLookedUp words.values (pair_words firsts numbers) ats → AreLookedUp (map (held_pair seconds.values) words.values) (pairs_of firsts vs) ats
found_pairs seconds words firsts numbers ats vs are fit fit_numbers len found found_words =
    let same : length numbers ≡ length firsts = found.len ∙ sym len in
    record {
      len = found_words.len ∙ length-pair_words firsts numbers same ∙ sym (length-pairs_of firsts vs (sym len));
      each = λ i pair e.
          let parts = pairs_at firsts vs i pair e in
          let first_is = parts.0 in
          let within = slice_get_within firsts i pair.first first_is in
          let number_is = slice_get-get_or numbers i 0 (omega (arith, within, same)) in
          let word_is = words_at firsts numbers i pair.first (get_or numbers i 0) first_is number_is in
          let small = subst (λ n. n < 2 ^ 32) (get_or_from_slice_get firsts i pair.first 0 first_is) (fit i) in
          found_pair seconds words pair.first (get_or numbers i 0) (get_or ats i 0) pair.second are small (fit_numbers i) (found.each i pair.second parts.1) (found_words.each i (values.Int (pair_word pair.first (get_or numbers i 0))) word_is);
    }

-- words after a value was numbered are words still
pub pairs_kept : (seconds next words : Values) (v : Value) (at : ℕ) → ArePairs seconds words → GivesNumber seconds.values v at next.values → length next.values ≤ no_number → ArePairs next words
pairs_kept seconds next words v at are gives within = record {
  kind = are.kind;
  within = within;
  once = gives_once seconds.values v at next.values gives are.once;
  words_once = are.words_once;
  each = λ k w e.
      let is = are.each k w e in
      let more = gives_longer seconds.values v at next.values gives in
      let l = is.3 in
      (is.0, is.1, is.2, omega (arith, l, more), is.4);
}

-- and they show the same pairs
alike : (seconds next words : Values) (v : Value) (at : ℕ) → ArePairs seconds words → GivesNumber seconds.values v at next.values → length next.values ≤ no_number → ShowAlike (held_pair seconds.values) (held_pair next.values) words.values
alike seconds next words v at are gives within k w e =
    let is = are.each k w e in
    let here = slice_get-get_or seconds.values is.1 values.Null is.3 in
    ap (held_pair next.values) is.4 ∙ word_shows next.values is.0 is.1 (value_at seconds.values is.1) is.2 within (numbers_keep seconds.values v at next.values is.1 (value_at seconds.values is.1) gives here)
    ∙ sym (ap (held_pair seconds.values) is.4 ∙ word_shows seconds.values is.0 is.1 (value_at seconds.values is.1) is.2 are.within here)

pub pairs_same : (seconds next words : Values) (v : Value) (at : ℕ) → ArePairs seconds words → GivesNumber seconds.values v at next.values → length next.values ≤ no_number → map (held_pair next.values) words.values ≡ map (held_pair seconds.values) words.values
pairs_same seconds next words v at are gives within = shown_alike (held_pair seconds.values) (held_pair next.values) words.values (alike seconds next words v at are gives within)

-- a pair gets the number of its word
pub gives_pair : (seconds next words more : Values) (first second at : ℕ) (v : Value) → ArePairs seconds words → first < no_number → GivesNumber seconds.values v second next.values → length next.values ≤ no_number
    → GivesNumber words.values (values.Int (pair_word first second)) at more.values → GivesNumber (map (held_pair seconds.values) words.values) (pair_with first v) at (map (held_pair next.values) more.values)
gives_pair seconds next words more first second at v are small gives within given =
    let here = gives_held seconds.values v second next.values gives in
    gives_shown (held_pair seconds.values) (held_pair next.values) words.values (values.Int (pair_word first second)) (pair_with first v) at more.values (alike seconds next words v second are gives within)
    (shows_only next words first second v (pairs_kept seconds next words v second are gives within) here) (word_shows next.values first second v small within here) given

-- the words are words of pairs with one more
pub words_kept : (seconds next words more : Values) (first second at : ℕ) (v : Value) → ArePairs seconds words → first < no_number → GivesNumber seconds.values v second next.values → length next.values ≤ no_number → more.kind ≡ words.kind
    → GivesNumber words.values (values.Int (pair_word first second)) at more.values → ArePairs next more
words_kept seconds next words more first second at v are small gives within kind given =
    let kept = pairs_kept seconds next words v second are gives within in
    let here = gives_held seconds.values v second next.values gives in
    let l = slice_get_within next.values second v here in
    record {
      kind = kind ∙ are.kind;
      within = within;
      once = kept.once;
      words_once = gives_once words.values (values.Int (pair_word first second)) at more.values given are.words_once;
      each = gives_each words.values (values.Int (pair_word first second)) at more.values given (λ u. IsPairWord (length next.values) u) kept.each (first, second, small, l, refl);
    }

-- a pair is refused where its word is
pub new_word : (seconds words : Values) (first second : ℕ) (v : Value) → ArePairs seconds words → slice_get seconds.values second ≡ Some v → IsNewKey (values.Int (pair_word first second)) words.values → IsNewKey (pair_with first v) (map (held_pair seconds.values) words.values)
new_word seconds words first second v are here new = new_shown_only (held_pair seconds.values) words.values (values.Int (pair_word first second)) (pair_with first v) (shows_only seconds words first second v are here) new

-- pairs are each once
pub pairs_once : (seconds words : Values) → ArePairs seconds words → HasKeysEachOnce (map (held_pair seconds.values) words.values)
pairs_once seconds words are i j pair a b =
    shown_at (held_pair seconds.values) words.values i pair (i ≡ j) a (λ word held same.
    shows_what seconds.values word pair.first pair.second (i ≡ j) are.within (are.each i word held) same (λ second there is.
    shown_at (held_pair seconds.values) words.values j pair (i ≡ j) b (λ other also again.
    are.words_once i j word held (also ∙ ap Some (shows_only seconds words pair.first second pair.second are there j other also again ∙ sym is)))))

-- a word that gets a number or is refused
pub words_after : (seconds next words more : Values) (first second : ℕ) (v : Value) (n : ℤ) (r : Result ℕ Fault) → ArePairs seconds words → first < no_number → GivesNumber seconds.values v second next.values → second < no_number → n ≡ pair_word first second → more.kind ≡ words.kind
    → IfOk r (λ at. GivesNumber words.values (values.Int n) at more.values) → OnErr r (more ≡ words) → ArePairs next more
words_after seconds next words more first second v n (Ok at) are small gives low is kind given same =
    words_kept seconds next words more first second at v are small gives (gives_short seconds.values v second next.values are.within low gives) kind (subst (λ m. GivesNumber words.values (values.Int m) at more.values) is given)
words_after seconds next words more first second v n (Err fault) are small gives low is kind given same =
    subst (ArePairs next) (sym same) (pairs_kept seconds next words v second are gives (gives_short seconds.values v second next.values are.within low gives))

pub gives_after : (seconds next words more : Values) (first second : ℕ) (v : Value) (n : ℤ) (r : Result ℕ Fault) → ArePairs seconds words → first < no_number → GivesNumber seconds.values v second next.values → second < no_number → n ≡ pair_word first second
    → IfOk r (λ at. GivesNumber words.values (values.Int n) at more.values) → IfOk r (λ at. GivesNumber (map (held_pair seconds.values) words.values) (pair_with first v) at (map (held_pair next.values) more.values))
gives_after seconds next words more first second v n (Ok at) are small gives low is given =
    gives_pair seconds next words more first second at v are small gives (gives_short seconds.values v second next.values are.within low gives) (subst (λ m. GivesNumber words.values (values.Int m) at more.values) is given)
gives_after seconds next words more first second v n (Err fault) are small gives low is given = tt

pub same_after : (seconds next words more : Values) (second : ℕ) (v : Value) (r : Result ℕ Fault) → ArePairs seconds words → GivesNumber seconds.values v second next.values → second < no_number → next.kind ≡ seconds.kind → OnErr r (more ≡ words)
    → OnErr r (◌≡◌ {A = PairList} (record { kind = next.kind; pairs = map (held_pair next.values) more.values }) (record { kind = seconds.kind; pairs = map (held_pair seconds.values) words.values }))
same_after seconds next words more second v (Ok at) are gives low kind same = tt
same_after seconds next words more second v (Err fault) are gives low kind same =
    ap (λ (k : ColType). record { kind = k; pairs = map (held_pair next.values) more.values }) kind
    ∙ ap (λ (ps : List Pair). record { kind = seconds.kind; pairs = ps }) (ap (λ (ws : Values). map (held_pair next.values) ws.values) same ∙ pairs_same seconds next words v second are gives (gives_short seconds.values v second next.values are.within low gives))

-- a new word is that of a new pair
pub refused_after : (seconds next words : Values) (first second : ℕ) (v : Value) (n : ℤ) (r : Result ℕ Fault) → ArePairs seconds words → GivesNumber seconds.values v second next.values → second < no_number → n ≡ pair_word first second
    → RefusesKey words.values (values.Int n) r → RefusesKey (map (held_pair seconds.values) words.values) (pair_with first v) r
refused_after seconds next words first second v n r are gives low is refused =
    let within = gives_short seconds.values v second next.values are.within low gives in
    let kept = pairs_kept seconds next words v second are gives within in
    refuses_shown words.values (values.Int n) (map (held_pair seconds.values) words.values) (pair_with first v) r
    (λ new. subst (λ (ps : List Pair). IsNewKey (pair_with first v) ps) (pairs_same seconds next words v second are gives within)
    (new_word next words first second v kept (gives_held seconds.values v second next.values gives) (subst (λ m. IsNewKey (values.Int m) words.values) is new)))
    (length-map words.values (held_pair seconds.values)) refused

-- a pair is refused whose value is
pub value_refused : (seconds words : Values) (first : ℕ) (v : Value) (fault : Fault) (count : ℕ) → ArePairs seconds words → RefusesKey seconds.values v (Err fault) → count ≡ length words.values → count ≤ no_number
    → RefusesKey (map (held_pair seconds.values) words.values) (pair_with first v) (Err (refusal_of fault count))
value_refused seconds words first v fault count are refused is short =
    refused_by (map (held_pair seconds.values) words.values) (pair_with first v) fault count (is ∙ sym (length-map words.values (held_pair seconds.values))) short (λ other.
    let known = refused_new seconds.values v fault refused other in
    (known.0, new_second seconds words first v are known.1))
