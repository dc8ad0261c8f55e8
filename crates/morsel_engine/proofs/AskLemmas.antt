-- What reads of the next chunks of the sources ask.
use Rattle.std.proofs.Common.{◌≡◌, ◌⊎◌, ℕ, zero, suc, ◌+◌, ◌-◌, ◌<◌, ◌≤◌, ap, sym, subst, refl, ◌∙◌, inl, inr, arith, zero-add}
use Rattle.std.proofs.lemmas.Bool.{cases_order, cases_lt}
use Rattle.std.proofs.lemmas.Bool.Decides.{nat_tests}
use Rattle.std.proofs.lemmas.List.Sums.{sum_by-cons, sum_by-append, fold-append}
use Rattle.std.specs.Prelude.{Bool, true, false, ◌&&◌, ◌||◌, nat_le, nat_lt, if◌then◌else◌, Option, Some, None, List, [], ◌∷◌, ◌++◌, length, take, drop, get_or, slice_get}
use Rattle.std.specs.List.{fold, flat_map, filter, sum_by, list_any}
use Rattle.morsel_outside.specs.declared.events.IoEvent.{IoEvent}
use Rattle.morsel_outside.specs.declared.events.IoEvent.TheVariants.{ReadAt, Wrote}
use Rattle.morsel_outside.specs.declared.io.FileNo.{FileNo}
use Rattle.morsel_outside.specs.Actions.{Action, ReadingRange, FailedReadingRange, Writing, FailedWriting, event_of, read_failures, failed_after}
use Rattle.morsel_outside.specs.Asks.{asks, times_asked}
use Rattle.morsel_outside.proofs.TransferLemmas.{AreTransfers}
use Rattle.morsel_scan.specs.Ahead.{Axis, is_source, asked_up_to}
use Rattle.morsel_read.specs.PieceReads.{IsNextChunk}
use Rattle.morsel_drive.specs.Lines.{Each}
use Rattle.morsel_drive.specs.Driving.{is_reading}
use Rattle.morsel_line.specs.ScanSources.{opened_as, AskNextChunks}
use Rattle.morsel_line.proofs.SourceLemmas.{number_at, any_at}
use Rattle.morsel_query.specs.Queries.{FileScan, JoinPart}
use Rattle.morsel_engine.specs.Courses.{file_numbers, is_before, AsksUpTo, AsksSides, IsShort}

-- the reads among events ask the next chunks
abbrev pub AskNext : List FileNo → List ℕ → ℕ → ℕ → List IoEvent → ℕ → Type 0
AskNext files sizes chunk from [] to = from ≡ to
AskNext files sizes chunk from (ReadAt file at len ∷ events) to = IsNextChunk files sizes chunk from file at len × AskNext files sizes chunk (from + len) events to
AskNext files sizes chunk from (Wrote len ∷ events) to = AskNext files sizes chunk from events to

pub ask_next : (files : List FileNo) (sizes : List ℕ) (chunk from to : ℕ) (actions : List Action) → AreTransfers actions → AskNextChunks files sizes chunk from (filter is_reading actions) to
    → AskNext files sizes chunk from (flat_map event_of actions) to
ask_next files sizes chunk from to [] each are = are
ask_next files sizes chunk from to (ReadingRange file at len ∷ actions) each are = (are.0, ask_next files sizes chunk (from + len) to actions each are.1)
ask_next files sizes chunk from to (FailedReadingRange file at len ∷ actions) each are = (are.0, ask_next files sizes chunk (from + len) to actions each are.1)
ask_next files sizes chunk from to (Writing piece ∷ actions) each are = ask_next files sizes chunk from to actions each are
ask_next files sizes chunk from to (FailedWriting piece ∷ actions) each are = ask_next files sizes chunk from to actions each are
ask_next files sizes chunk from to (action ∷ actions) each are = absurd each

-- each read is short
pub are_short : (files : List FileNo) (sizes : List ℕ) (chunk from to : ℕ) (events : List IoEvent) → AskNext files sizes chunk from events to → Each (IsShort chunk) events
are_short files sizes chunk from to [] are = tt
are_short files sizes chunk from to (ReadAt file at len ∷ events) are = (are.0.within.few, are_short files sizes chunk (from + len) to events are.1)
are_short files sizes chunk from to (Wrote len ∷ events) are = (tt, are_short files sizes chunk from to events are)

-- a number that stands among those from one on
pub number_of : (number n k file : ℕ) → slice_get (file_numbers number n) k ≡ Some (record { 0 = file }) → (file ≡ number + k) × (k < n)
number_of number zero k file is = absurd (let e : None ≡ Some (record { 0 = file }) = is in cc)
number_of number (suc n) zero file is = let e : Some (record { 0 = number }) ≡ Some (record { 0 = file }) = is in
    let same : record { 0 = number } ≡ record { 0 = file } = cc in let f : number ≡ file = ap (λ (x : FileNo). x.0) same in (omega (arith, f), omega arith)
number_of number (suc n) (suc k) file is = let h = number_of (number + 1) n k file is in let a = h.0 in let b = h.1 in (omega (arith, a), omega (arith, b))

-- what was asked of all bytes
pub asked_to_end : (axis : Axis) (files : List FileNo) (sizes : List ℕ) (chunk from to : ℕ) (events : List IoEvent) → axis.files ≡ opened_as files → AskNext files sizes chunk from events to
    → asked_up_to axis from events ≡ to
asked_to_end axis files sizes chunk from to [] same are = are
asked_to_end axis files sizes chunk from to (ReadAt file at len ∷ events) same are =
    let of : is_source axis file ≡ true = ap (λ (x : List ℕ). list_any (λ (y : ℕ). Rattle.std.specs.Prelude.nat_eq file y) x) same ∙ any_at (opened_as files) are.0.source file (number_at files are.0.source file are.0.is) in
    ap (λ b. asked_up_to axis (if b then from + len else from) events) of ∙ asked_to_end axis files sizes chunk (from + len) to events same are.1
asked_to_end axis files sizes chunk from to (Wrote len ∷ events) same are = asked_to_end axis files sizes chunk from to events same are

-- files that come before another have no more bytes than all before it
sum_take : (sizes : List ℕ) (j k : ℕ) → j < k → sum_by (λ n. n) (take j sizes) + get_or sizes j 0 ≤ sum_by (λ n. n) (take k sizes)
sum_take [] zero k less = omega arith
sum_take [] (suc j) k less = omega arith
sum_take (size ∷ sizes) j zero less = absurd (omega (arith, less))
sum_take (size ∷ sizes) zero (suc k) less = let a = sum_by-cons (λ (n : ℕ). n) size (take k sizes) in omega (arith, a)
sum_take (size ∷ sizes) (suc j) (suc k) less = let a = sum_by-cons (λ (n : ℕ). n) size (take k sizes) in let b = sum_by-cons (λ (n : ℕ). n) size (take j sizes) in
    let c = sum_take sizes j k (omega (arith, less)) in omega (arith, a, b, c)

-- one for true
abbrev pub count_of : Bool → ℕ
count_of b = if b then 1 else 0

-- a read asks the bytes of one file from a place on; those before are asked already, those after it not yet
step_at : (same : Bool) (byte at len here first from : ℕ) → from ≡ first + at → at + len ≤ here
    → count_of (same && (nat_le at byte && nat_lt byte (at + len))) + count_of (same && (nat_lt byte here && nat_lt (first + byte) from))
    ≡ count_of (same && (nat_lt byte here && nat_lt (first + byte) (from + len)))
step_at false byte at len here first from is within = refl
step_at true byte at len here first from is within = grind (arith, nat_tests, is, within)

step : (number n : ℕ) (sizes : List ℕ) (chunk from source at len file byte : ℕ) → IsNextChunk (file_numbers number n) sizes chunk from source at len
    → count_of (asks file byte (ReadAt source at len)) + count_of (is_before number sizes from file byte) ≡ count_of (is_before number sizes (from + len) file byte)
step number n sizes chunk from source at len file byte next = by (cases_lt file number)
  where
    k : ℕ
    k = next.source

    source_is : source ≡ number + k
    source_is = (number_of number n k source next.is).0

    in_order : (j : ℕ) → file ≡ number + j → (j ≡ k) ⊎ ((j < k) ⊎ (k < j))
        → count_of (asks file byte (ReadAt source at len)) + count_of (is_before number sizes from file byte) ≡ count_of (is_before number sizes (from + len) file byte)
    in_order j is (inl same) =
        let within : at + len ≤ get_or sizes (file - number) 0 = let w = next.within.within in subst (λ n. at + len ≤ get_or sizes n 0) (omega (arith, is, same)) w in
        let first : from ≡ sum_by (λ n. n) (take (file - number) sizes) + at = subst (λ n. from ≡ sum_by (λ (m : ℕ). m) (take n sizes) + at) (omega (arith, is, same)) next.next in
        let equal : source ≡ file = let s = source_is in omega (arith, is, same, s) in
        let low : number ≤ file = omega (arith, is) in
        grind (arith, nat_tests, within, first, equal, low)
    in_order j is (inr (inl before)) =
        let sum : sum_by (λ n. n) (take (file - number) sizes) + get_or sizes (file - number) 0 ≤ sum_by (λ n. n) (take k sizes) = sum_take sizes (file - number) k (omega (arith, is, before)) in
        let first = next.next in
        let other : source ≡ file → ⊥ = λ e. let s = source_is in omega (arith, is, before, s, e) in
        let low : number ≤ file = omega (arith, is) in
        grind (arith, nat_tests, sum, first, other, low)
    in_order j is (inr (inr after)) =
        let sum : sum_by (λ n. n) (take k sizes) + get_or sizes k 0 ≤ sum_by (λ n. n) (take (file - number) sizes) = sum_take sizes k (file - number) (omega (arith, is, after)) in
        let first = next.next in
        let within = next.within.within in
        let other : source ≡ file → ⊥ = λ e. let s = source_is in omega (arith, is, after, s, e) in
        let low : number ≤ file = omega (arith, is) in
        grind (arith, nat_tests, sum, first, within, other, low)

    by : (file < number) ⊎ (number ≤ file)
        → count_of (asks file byte (ReadAt source at len)) + count_of (is_before number sizes from file byte) ≡ count_of (is_before number sizes (from + len) file byte)
    by (inl less) = let other : source ≡ file → ⊥ = λ e. let s = source_is in omega (arith, less, s, e) in grind (arith, nat_tests, less, other)
    by (inr low) = in_order (file - number) (omega (arith, low)) (cases_order (file - number) k)

-- each byte is asked once
times : (number n : ℕ) (sizes : List ℕ) (chunk from to : ℕ) (events : List IoEvent) (file byte : ℕ) → AskNext (file_numbers number n) sizes chunk from events to
    → times_asked file byte events + count_of (is_before number sizes from file byte) ≡ count_of (is_before number sizes to file byte)
times number n sizes chunk from to [] file byte are = zero-add (count_of (is_before number sizes from file byte)) ∙ ap (λ n. count_of (is_before number sizes n file byte)) are
times number n sizes chunk from to (ReadAt source at len ∷ events) file byte are =
    let here = step number n sizes chunk from source at len file byte are.0 in
    let later = times number n sizes chunk (from + len) to events file byte are.1 in omega (arith, here, later)
times number n sizes chunk from to (Wrote len ∷ events) file byte are = let later = times number n sizes chunk from to events file byte are in omega (arith, later)

before-none : (number : ℕ) (sizes : List ℕ) (file byte : ℕ) → count_of (is_before number sizes 0 file byte) ≡ 0
before-none number sizes file byte = grind (arith, nat_tests)

pub asks_up_to : (number n : ℕ) (sizes : List ℕ) (chunk to : ℕ) (events : List IoEvent) → AskNext (file_numbers number n) sizes chunk 0 events to → AsksUpTo number sizes to events
asks_up_to number n sizes chunk to events are file byte =
    let all = times number n sizes chunk 0 to events file byte are in let none = before-none number sizes file byte in omega (arith, all, none)

pub asks_nothing : (number : ℕ) (sizes : List ℕ) → AsksUpTo number sizes 0 []
asks_nothing number sizes file byte = sym (before-none number sizes file byte)

-- no byte of any side was asked
pub asks_no_side : (left : FileScan) (join : Option JoinPart) (number : ℕ) (sizes : List ℕ) → AsksSides left join number sizes (record { left = 0; right = 0 }) []
asks_no_side left None number sizes = asks_nothing number sizes
asks_no_side left (Some join) number sizes = λ file byte.
    sym (neither (is_before number (take (length left.sources) sizes) 0 file byte) (is_before (number + length left.sources) (drop (length left.sources) sizes) 0 file byte)
    (before-none number (take (length left.sources) sizes) file byte) (before-none (number + length left.sources) (drop (length left.sources) sizes) file byte))
  where
    neither : (a b : Bool) → count_of a ≡ 0 → count_of b ≡ 0 → count_of (a || b) ≡ 0
    neither true b first second = absurd (cc)
    neither false b first second = second

-- the bytes of one scan were asked
pub asks_scan : (left : FileScan) (join : Option JoinPart) (number : ℕ) (sizes : List ℕ) (to : ℕ) (events : List IoEvent) → join ≡ None → AsksUpTo number sizes to events
    → AsksSides left join number sizes (record { left = to; right = 0 }) events
asks_scan left None number sizes to events none asks = asks
asks_scan left (Some join) number sizes to events none asks = absurd (cc)

-- the reads that failed, among all
pub failures_read : (actions : List Action) → AreTransfers actions
    → (sum_by read_failures actions ≡ sum_by read_failures (filter is_reading actions)) × ((failed : ℕ) → fold failed_after failed actions ≡ fold failed_after failed (filter is_reading actions))
failures_read [] each = (refl, λ failed. refl)
failures_read (ReadingRange file at len ∷ actions) each = let h = failures_read actions each in (cons (ReadingRange file at len) actions h.0, h.1)
  where
    cons : (action : Action) (actions : List Action) → sum_by read_failures actions ≡ sum_by read_failures (filter is_reading actions)
        → sum_by read_failures (action ∷ actions) ≡ sum_by read_failures (action ∷ filter is_reading actions)
    cons action actions h = let a = sum_by-cons read_failures action actions in let b = sum_by-cons read_failures action (filter is_reading actions) in omega (arith, a, b, h)
failures_read (FailedReadingRange file at len ∷ actions) each = let h = failures_read actions each in (cons (FailedReadingRange file at len) actions h.0, λ failed. h.1 file)
  where
    cons : (action : Action) (actions : List Action) → sum_by read_failures actions ≡ sum_by read_failures (filter is_reading actions)
        → sum_by read_failures (action ∷ actions) ≡ sum_by read_failures (action ∷ filter is_reading actions)
    cons action actions h = let a = sum_by-cons read_failures action actions in let b = sum_by-cons read_failures action (filter is_reading actions) in omega (arith, a, b, h)
failures_read (Writing piece ∷ actions) each = let h = failures_read actions each in (h.0, h.1)
failures_read (FailedWriting piece ∷ actions) each = let h = failures_read actions each in (h.0, h.1)
failures_read (action ∷ actions) each = absurd each

-- no read failed; or the last that did is of a source
abbrev pub FailsAt : ℕ → ℕ → ℕ → List Action → Type 0
FailsAt number n failed actions = ((sum_by read_failures actions ≡ 0) × (fold failed_after failed actions ≡ failed))
    ⊎ ((source : ℕ) × (source < n) × (0 < sum_by read_failures actions) × (fold failed_after failed actions ≡ number + source))

pub fails_at : (number n : ℕ) (sizes : List ℕ) (chunk from to failed : ℕ) (actions : List Action) → AskNextChunks (file_numbers number n) sizes chunk from actions to → FailsAt number n failed actions
fails_at number n sizes chunk from to failed [] are = inl (refl, refl)
fails_at number n sizes chunk from to failed (ReadingRange file at len ∷ actions) are = by (fails_at number n sizes chunk (from + len) to failed actions are.1)
  where
    by : FailsAt number n failed actions → FailsAt number n failed (ReadingRange file at len ∷ actions)
    by (inl none) = inl none
    by (inr some) = inr some
fails_at number n sizes chunk from to failed (FailedReadingRange file at len ∷ actions) are = by (fails_at number n sizes chunk (from + len) to file actions are.1)
  where
    of : (file ≡ number + are.0.source) × (are.0.source < n)
    of = number_of number n are.0.source file are.0.is

    more : 0 < sum_by read_failures (FailedReadingRange file at len ∷ actions)
    more = let a = sum_by-cons read_failures (FailedReadingRange file at len) actions in omega (arith, a)

    by : FailsAt number n file actions → FailsAt number n failed (FailedReadingRange file at len ∷ actions)
    by (inl none) = inr (are.0.source, of.1, more, none.1 ∙ of.0)
    by (inr some) = inr (some.0, some.1, more, some.3)
fails_at number n sizes chunk from to failed (action ∷ actions) are = absurd are

-- the same of reads among writes
pub fails_on : (number n : ℕ) (sizes : List ℕ) (chunk from to failed : ℕ) (actions : List Action) → AreTransfers actions
    → AskNextChunks (file_numbers number n) sizes chunk from (filter is_reading actions) to → FailsAt number n failed actions
fails_on number n sizes chunk from to failed actions each asks = by (fails_at number n sizes chunk from to failed (filter is_reading actions) asks)
  where
    same : (sum_by read_failures actions ≡ sum_by read_failures (filter is_reading actions)) × ((failed : ℕ) → fold failed_after failed actions ≡ fold failed_after failed (filter is_reading actions))
    same = failures_read actions each

    by : FailsAt number n failed (filter is_reading actions) → FailsAt number n failed actions
    by (inl none) = inl (same.0 ∙ none.0, same.1 failed ∙ none.1)
    by (inr some) = inr (some.0, some.1, (let more = some.2 in let sum = same.0 in omega (arith, more, sum)), same.1 failed ∙ some.3)

-- the last read failed, of a source
pub ends_in_failure : (number n failed file at len : ℕ) (before actions : List Action) → actions ≡ before ++ FailedReadingRange file at len ∷ [] → fold failed_after failed actions ≡ file
ends_in_failure number n failed file at len before actions split = ap (fold failed_after failed) split ∙ fold-append failed_after failed before (FailedReadingRange file at len ∷ [])

pub fails_last : (file at len : ℕ) (before actions : List Action) → actions ≡ before ++ FailedReadingRange file at len ∷ [] → 0 < sum_by read_failures actions
fails_last file at len before actions split =
    let a = ap (sum_by read_failures) split in let b = sum_by-append read_failures before (FailedReadingRange file at len ∷ []) in omega (arith, a, b)
