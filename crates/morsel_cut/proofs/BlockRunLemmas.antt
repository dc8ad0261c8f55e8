-- 64 bytes after others: where the last record ends, and how many do.
use Rattle.std.proofs.Common.{◌≡◌, ◌⊎◌, inl, inr, ℕ, zero, suc, ◌+◌, ◌-◌, ◌<◌, ◌≤◌, ◌∙◌, sym, ap, refl, arith, subst, Bool, true, false, ◌&&◌, ◌||◌, ◌==◌, List, [], ◌∷◌, ◌++◌, length, take, drop}
use Rattle.std.proofs.lemmas.List.{length-take-le, take_rest, take-append-drop, take-take}
use Rattle.std.proofs.Math.Seq.{take-add}
use Rattle.std.specs.Prelude.{if◌then◌else◌}
use Rattle.std.specs.Int.RustNames.{count_ones}
use Rattle.morsel_grammar.specs.Dialect.{Dialect}
use Rattle.morsel_grammar.specs.Split.{is_quote}
use Rattle.morsel_grammar.specs.Machine.{CutPlace, AtOpening, InMarkOne, InMarkTwo, AfterMark, AfterEol, AfterSeparator, InPlain, InQuotes, AfterQuote, AfterReturn, InComment, BrokenQuote, state_after, last_place, place_or_later, joined_place, place_step, first_step, plain_step, closed_step, is_after_eol, begins_record}
use Rattle.morsel_grammar.proofs.StateLemmas.{state_after-append, last_place-append, last_place-within, last_place-holds, last_place-none_later}
use Rattle.morsel_cut.specs.Places.{cut_place}
use Rattle.morsel_cut.specs.Runs.{RunsTo}
use Rattle.morsel_cut.specs.Blocks.{IsAmongFields, DoesBlock, count_after, has_blank, AreCountedLines}
use Rattle.morsel_cut.specs.declared.step.ByteAt.{ByteAt}
use Rattle.morsel_cut.specs.declared.pass.PlaceRun.{PlaceRun}
use Rattle.morsel_cut.specs.declared.blocks.Block.{Block}
use Rattle.morsel_cut.proofs.BitLemmas.{HasBits, same_bits}
use Rattle.morsel_cut.proofs.MarkLemmas.{last_tests, ones_tests}
use Rattle.morsel_cut.proofs.RunLemmas.{run_on}

-- the byte order mark is passed
abbrev IsPastMark : CutPlace → Type 0
IsPastMark AtOpening = ⊥
IsPastMark InMarkOne = ⊥
IsPastMark InMarkTwo = ⊥
IsPastMark place = Unit {0}

-- a place after which a record begins only where another ended
abbrev IsLater : CutPlace → Type 0
IsLater place = IsPastMark place × (begins_record place ≡ is_after_eol place)

later_either : (t : Bool) (a b : CutPlace) → IsLater a → IsLater b → IsLater (if t then a else b)
later_either true a b first other = first
later_either false a b first other = other

plain_later : (o : Dialect) (b : ℕ) → IsLater (plain_step o b)
plain_later o b = later_either (b == o.separator) AfterSeparator _ (tt, refl) (later_either (b == o.eol) AfterEol InPlain (tt, refl) (tt, refl))

first_later : (o : Dialect) (b : ℕ) → IsLater (first_step o b)
first_later o b = later_either (is_quote o.quote b) InQuotes (plain_step o b) (tt, refl) (plain_later o b)

closed_later : (o : Dialect) (b : ℕ) → IsLater (closed_step o b)
closed_later o b =
    later_either (b == o.separator) AfterSeparator _ (tt, refl) (later_either (b == o.eol) AfterEol _ (tt, refl)
    (later_either (b == 13 && o.eol == 10) AfterReturn BrokenQuote (tt, refl) (tt, refl)))

step_later : (o : Dialect) (p : CutPlace) (b : ℕ) → IsPastMark p → IsLater (place_step o p b)
step_later o AtOpening b past = absurd past
step_later o InMarkOne b past = absurd past
step_later o InMarkTwo b past = absurd past
step_later o AfterMark b past = first_later o b
step_later o AfterEol b past = first_later o b
step_later o AfterSeparator b past = first_later o b
step_later o InPlain b past = plain_later o b
step_later o InQuotes b past = later_either (is_quote o.quote b) AfterQuote InQuotes (tt, refl) (tt, refl)
step_later o AfterQuote b past = later_either (is_quote o.quote b) InQuotes (closed_step o b) (tt, refl) (closed_later o b)
step_later o AfterReturn b past = later_either (b == o.eol) AfterEol BrokenQuote (tt, refl) (tt, refl)
step_later o InComment b past = later_either (b == o.eol) AfterEol InComment (tt, refl) (tt, refl)
step_later o BrokenQuote b past = (tt, refl)

begins_at_ends : (o : Dialect) (p : CutPlace) (bytes : List ℕ) → IsPastMark p → last_place (place_step o) begins_record p bytes ≡ last_place (place_step o) is_after_eol p bytes
begins_at_ends o p [] past = refl
begins_at_ends o p (b ∷ bs) past =
    let next = step_later o p b past in
    ap (place_or_later (begins_record (place_step o p b))) (begins_at_ends o (place_step o p b) bs next.0)
    ∙ ap (λ (t : Bool). place_or_later t (last_place (place_step o) is_after_eol (place_step o p b) bs)) next.1

among_past : (p : CutPlace) → IsAmongFields p → IsPastMark p
among_past AtOpening among = among
among_past InMarkOne among = among
among_past InMarkTwo among = among
among_past AfterMark among = tt
among_past AfterEol among = tt
among_past AfterSeparator among = tt
among_past InPlain among = tt
among_past InQuotes among = tt
among_past AfterQuote among = tt
among_past AfterReturn among = tt
among_past InComment among = tt
among_past BrokenQuote among = tt

abbrev pub run_to : ByteAt → ℕ → PlaceRun
run_to place end = record { place = place; end = end; begin = end }

-- up to the highest bit there are as many bits as bytes up to the last end
last_of_block : (o : Dialect) (p : CutPlace) (bytes : List ℕ) (block : Block) (highest : ℕ) → DoesBlock o p bytes block → HasBits block.ends highest
    → highest ≡ last_place (place_step o) is_after_eol p bytes
last_of_block o p bytes block highest does bits =
    same_bits block.ends highest (last_place (place_step o) is_after_eol p bytes) bits
    (subst (λ (m : ℕ). HasBits m (last_place (place_step o) is_after_eol p bytes)) (sym does.ends_are) (last_tests (place_step o) is_after_eol p bytes))

pub block_runs : (o : Dialect) (p : CutPlace) (bytes : List ℕ) (block : Block) (highest : ℕ) → DoesBlock o p bytes block → HasBits block.ends highest
    → RunsTo o p bytes (run_to block.place highest)
block_runs o p bytes block highest does bits =
    let end = last_of_block o p bytes block highest does bits in
    record {
      place_is = does.place_is;
      end_is = end;
      begin_is = end ∙ sym (begins_at_ends o p bytes (among_past p does.begins));
    }

pub blocks_on : (o : Dialect) (p : CutPlace) (text : List ℕ) (at : ℕ) (place : ByteAt) (end highest next_end : ℕ) (block : Block) → at ≤ length text
    → RunsTo o p (take at text) (run_to place end) → DoesBlock o (cut_place place) (take 64 (take (length text - at) (drop at text))) block → HasBits block.ends highest
    → next_end ≡ joined_place end at highest → RunsTo o p (take (at + 64) text) (run_to block.place next_end)
blocks_on o p text at place end highest next_end block within run does bits next_is =
    run_on o p text at 64 (run_to place end) (run_to block.place highest) (run_to block.place next_end) within run
    (block_runs o (cut_place place) _ block highest does bits) refl next_is next_is

-- ---- counting

pub count_after-append : {S : Type 0} (step : S → ℕ → S) (test : S → Bool) (s : S) (front back : List ℕ)
    → count_after step test s (front ++ back) ≡ count_after step test s front + count_after step test (state_after step s front) back
count_after-append step test s [] back = omega arith
count_after-append step test s (b ∷ front) back = omega (arith, count_after-append step test (step s b) front back)

pub count_none : {S : Type 0} (step : S → ℕ → S) (test : S → Bool) (s : S) (bytes : List ℕ) → last_place step test s bytes ≡ 0 → count_after step test s bytes ≡ 0
count_none step test s [] none = refl
count_none step test s (b ∷ bs) none = by (test (step s b)) (last_place step test (step s b) bs) none (count_none step test (step s b) bs)
  where
    by : (t : Bool) (later : ℕ) → place_or_later t later ≡ 0 → (later ≡ 0 → count_after step test (step s b) bs ≡ 0) → (if t then 1 else 0) + count_after step test (step s b) bs ≡ 0
    by true zero none more = absurd (omega arith)
    by false zero none more = omega (arith, more refl)
    by t (suc later) none more = absurd (omega arith)

count_few : {S : Type 0} (step : S → ℕ → S) (test : S → Bool) (s : S) (bytes : List ℕ) → count_after step test s bytes ≤ last_place step test s bytes
count_few step test s [] = omega arith
count_few step test s (b ∷ bs) = by (test (step s b)) (last_place step test (step s b) bs) (count_few step test (step s b) bs)
  where
    by : (t : Bool) (later : ℕ) → count_after step test (step s b) bs ≤ later → (if t then 1 else 0) + count_after step test (step s b) bs ≤ place_or_later t later
    by true zero few = omega arith
    by false zero few = omega arith
    by true (suc later) few = omega arith
    by false (suc later) few = omega arith

-- where the test does not hold before the end, it does not hold at it
pub none_at_end : {S : Type 0} (step : S → ℕ → S) (test : S → Bool) (s : S) (b : ℕ) (bs : List ℕ) → last_place step test s (b ∷ bs) ≡ 0 → test (state_after step s (b ∷ bs)) ≡ false
none_at_end step test s b [] none = by (test (step s b)) none
  where
    by : (t : Bool) → place_or_later t 0 ≡ 0 → t ≡ false
    by true none = absurd (omega arith)
    by false none = refl
none_at_end step test s b (c ∷ cs) none = none_at_end step test (step s b) c cs (by (test (step s b)) (last_place step test (step s b) (c ∷ cs)) none)
  where
    by : (t : Bool) (later : ℕ) → place_or_later t later ≡ 0 → later ≡ 0
    by t zero none = refl
    by t (suc later) none = absurd (omega arith)

either_of : (s t u : Bool) → ((s || t) || u) ≡ (s || (t || u))
either_of true t u = refl
either_of false t u = refl

pub has_blank-append : (o : Dialect) (p : CutPlace) (front back : List ℕ) → has_blank o p (front ++ back) ≡ (has_blank o p front || has_blank o (state_after (place_step o) p front) back)
has_blank-append o p [] back = refl
has_blank-append o p (b ∷ front) back =
    ap (λ (t : Bool). (is_after_eol p && (b == o.eol || b == 13)) || t) (has_blank-append o (place_step o p b) front back)
    ∙ sym (either_of (is_after_eol p && (b == o.eol || b == 13)) (has_blank o (place_step o p b) front) (has_blank o (state_after (place_step o) p (b ∷ front)) back))

pub neither_of : (s t : Bool) → (s || t) ≡ false → (s ≡ false) × (t ≡ false)
neither_of true t none = cc
neither_of false t none = (refl, none)

-- there is one column alone, or no record is blank
abbrev pub MayCount : Dialect → ℕ → CutPlace → List ℕ → Type 0
MayCount o columns p bytes = (columns ≡ 1) ⊎ (has_blank o p bytes ≡ false)

may_both : (o : Dialect) (columns : ℕ) (p : CutPlace) (front back : List ℕ) → MayCount o columns p front → MayCount o columns (state_after (place_step o) p front) back
    → MayCount o columns p (front ++ back)
may_both o columns p front back (inl one) later = inl one
may_both o columns p front back (inr none) (inl one) = inl one
may_both o columns p front back (inr none) (inr more) =
    inr (has_blank-append o p front back ∙ ap (λ (t : Bool). t || has_blank o (state_after (place_step o) p front) back) none ∙ more)

pub may_parts : (o : Dialect) (columns : ℕ) (p : CutPlace) (front back : List ℕ) → MayCount o columns p (front ++ back)
    → MayCount o columns p front × MayCount o columns (state_after (place_step o) p front) back
may_parts o columns p front back (inl one) = (inl one, inl one)
may_parts o columns p front back (inr none) =
    let parts = neither_of (has_blank o p front) (has_blank o (state_after (place_step o) p front) back) (sym (has_blank-append o p front back) ∙ none) in
    (inr parts.0, inr parts.1)

-- the records that end in the front of a text
pub record CountsTo (o : Dialect) (columns : ℕ) (bytes : List ℕ) (place : ByteAt) (end count : ℕ) : Type 0 where
  pub place_is : cut_place place ≡ state_after (place_step o) AfterEol bytes
  pub end_is : end ≡ last_place (place_step o) is_after_eol AfterEol bytes
  pub count_is : count ≡ count_after (place_step o) is_after_eol AfterEol bytes
  pub may : MayCount o columns AfterEol bytes

pub counts_few : (o : Dialect) (columns : ℕ) (bytes : List ℕ) (place : ByteAt) (end count : ℕ) → CountsTo o columns bytes place end count → count ≤ end
counts_few o columns bytes place end count counts = omega (arith, counts.end_is, counts.count_is, count_few (place_step o) is_after_eol AfterEol bytes)

pub counts_within : (o : Dialect) (columns : ℕ) (bytes : List ℕ) (place : ByteAt) (end count : ℕ) → CountsTo o columns bytes place end count → end ≤ length bytes
counts_within o columns bytes place end count counts = omega (arith, counts.end_is, last_place-within (place_step o) is_after_eol AfterEol bytes)

pub counts_on : (o : Dialect) (columns : ℕ) (text : List ℕ) (at : ℕ) (place : ByteAt) (end count highest next_end next_count : ℕ) (block : Block) → at ≤ length text
    → CountsTo o columns (take at text) place end count → DoesBlock o (cut_place place) (take 64 (take (length text - at) (drop at text))) block → HasBits block.ends highest
    → next_end ≡ joined_place end at highest → next_count ≡ count + count_ones block.ends
    → MayCount o columns (cut_place place) (take 64 (take (length text - at) (drop at text)))
    → CountsTo o columns (take (at + 64) text) block.place next_end next_count
counts_on o columns text at place end count highest next_end next_count block within counts does bits end_is count_is may =
    let front = take at text in
    let back = take 64 (drop at text) in
    let step = place_step o in
    let rest : take (length text - at) (drop at text) ≡ drop at text = take_rest text at in
    let here : DoesBlock o (cut_place place) back block = subst (λ (x : List ℕ). DoesBlock o (cut_place place) (take 64 x) block) rest does in
    let may_here : MayCount o columns (cut_place place) back = subst (λ (x : List ℕ). MayCount o columns (cut_place place) (take 64 x)) rest may in
    let after = state_after step AfterEol front in
    let size : length front ≡ at = length-take-le at text within in
    let last : highest ≡ last_place step is_after_eol after back =
    last_of_block o (cut_place place) back block highest here bits ∙ ap (λ (p : CutPlace). last_place step is_after_eol p back) counts.place_is in
    let ones : count_ones block.ends ≡ count_after step is_after_eol after back =
    ap count_ones here.ends_are ∙ ones_tests step is_after_eol (cut_place place) back ∙ ap (λ (p : CutPlace). count_after step is_after_eol p back) counts.place_is in
    subst (λ (x : List ℕ). CountsTo o columns x block.place next_end next_count) (sym (take-add at 64 text)) (record {
      place_is = here.place_is ∙ ap (λ (p : CutPlace). state_after step p back) counts.place_is ∙ sym (state_after-append step AfterEol front back);
      end_is = end_is
          ∙ ap (λ (n : ℕ). joined_place n at highest) counts.end_is
          ∙ ap (joined_place (last_place step is_after_eol AfterEol front) at) last
          ∙ ap (λ (n : ℕ). joined_place (last_place step is_after_eol AfterEol front) n (last_place step is_after_eol after back)) (sym size)
          ∙ sym (last_place-append step is_after_eol AfterEol front back);
      count_is = omega (arith, count_is, ones, counts.count_is, count_after-append step is_after_eol AfterEol front back);
      may = may_both o columns AfterEol front back counts.may (subst (λ (p : CutPlace). MayCount o columns p back) counts.place_is may_here);
    })

only_after_eol : (p : CutPlace) → is_after_eol p ≡ true → p ≡ AfterEol
only_after_eol AfterEol is = refl
only_after_eol AtOpening is = cc
only_after_eol InMarkOne is = cc
only_after_eol InMarkTwo is = cc
only_after_eol AfterMark is = cc
only_after_eol AfterSeparator is = cc
only_after_eol InPlain is = cc
only_after_eol InQuotes is = cc
only_after_eol AfterQuote is = cc
only_after_eol AfterReturn is = cc
only_after_eol InComment is = cc
only_after_eol BrokenQuote is = cc

-- those up to the last end
pub counted_to : (o : Dialect) (columns : ℕ) (text : List ℕ) (at : ℕ) (place : ByteAt) (end count : ℕ) → at ≤ length text → CountsTo o columns (take at text) place end count
    → 0 < end → AreCountedLines o columns (take end text) count
counted_to o columns text at place end count within counts some =
    let bytes = take at text in
    let step = place_step o in
    let small = counts_within o columns bytes place end count counts in
    let size : length bytes ≡ at = length-take-le at text within in
    let low : end ≤ at = omega (arith, small, size) in
    let last = last_place step is_after_eol AfterEol bytes in
    let same : take end bytes ≡ take end text = take-take end at text low in
    let whole : take end bytes ++ drop end bytes ≡ bytes = take-append-drop end bytes in
    let holds : is_after_eol (state_after step AfterEol (take end bytes)) ≡ true =
    ap (λ (n : ℕ). is_after_eol (state_after step AfterEol (take n bytes))) counts.end_is
    ∙ last_place-holds step is_after_eol AfterEol bytes (λ none. absurd (omega (arith, counts.end_is, none))) in
    let none : count_after step is_after_eol (state_after step AfterEol (take end bytes)) (drop end bytes) ≡ 0 =
    count_none step is_after_eol (state_after step AfterEol (take end bytes)) (drop end bytes)
    (ap (λ (n : ℕ). last_place step is_after_eol (state_after step AfterEol (take n bytes)) (drop n bytes)) counts.end_is
    ∙ last_place-none_later step is_after_eol AfterEol bytes) in
    let parts : count_after step is_after_eol AfterEol bytes
    ≡ count_after step is_after_eol AfterEol (take end bytes) + count_after step is_after_eol (state_after step AfterEol (take end bytes)) (drop end bytes) =
    ap (count_after step is_after_eol AfterEol) (sym whole) ∙ count_after-append step is_after_eol AfterEol (take end bytes) (drop end bytes) in
    subst (λ (x : List ℕ). AreCountedLines o columns x count) same (record {
      ends = only_after_eol (state_after step AfterEol (take end bytes)) holds;
      count_is = omega (arith, counts.count_is, parts, none);
      blanks = (may_parts o columns AfterEol (take end bytes) (drop end bytes) (subst (MayCount o columns AfterEol) (sym whole) counts.may)).0;
    })

pub counts_nothing : (o : Dialect) (columns : ℕ) (place : ByteAt) → cut_place place ≡ AfterEol → CountsTo o columns [] place 0 0
counts_nothing o columns place is = record { place_is = is; end_is = refl; count_is = refl; may = inr refl }
