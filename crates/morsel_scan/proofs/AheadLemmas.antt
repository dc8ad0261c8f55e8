-- Reads in time.
use Rattle.std.specs.Prelude.{◌≡◌, ℕ, ◌+◌, ◌-◌, ◌≤◌, ◌<◌, ◌⊎◌, Bool, true, false, if◌then◌else◌, List, [], ◌∷◌, ◌++◌, refl, take, drop, length, slice_range}
use Rattle.std.proofs.Common.{ap, sym, subst, ◌∙◌, arith, inl, inr}
use Rattle.std.specs.List.{sum_by}
use Rattle.std.proofs.lemmas.Bool.{cases_lt}
use Rattle.std.proofs.lemmas.List.{length-take, drop-drop}
use Rattle.std.proofs.lemmas.List.Sums.{sum_by-append, sum_by-cons}
use Rattle.std.proofs.Math.Seq.{take-add}
use Rattle.morsel_outside.specs.declared.events.IoEvent.{IoEvent}
use Rattle.morsel_outside.specs.declared.events.IoEvent.TheVariants.{ReadAt, Wrote}
use Rattle.morsel_scan.specs.Ahead.{Axis, one_if, row_bytes, text_size, is_source, asked_after, EndsEachRow, IsWrittenTo, IsNextRead, IsInTime, MayRead, ReadsAhead, asked_up_to, written_up_to, Seeks}
use Rattle.morsel_scan.specs.AheadLaws.{ReadsOn, CountsOn, ReadsWithin, SeeksInTime, SeeksOnly}

-- a stretch is its two halves
slice-append : {A : Type 0} (xs : List A) (p q r : ℕ) → p ≤ q → q ≤ r → slice_range xs p r ≡ slice_range xs p q ++ slice_range xs q r
slice-append xs p q r lo hi =
    let e : r - p ≡ (q - p) + (r - q) = omega arith in
    let f : p + (q - p) ≡ q = omega arith in
    ap (λ k. take k (drop p xs)) e ∙ take-add (q - p) (r - q) (drop p xs)
    ∙ ap (λ ys. take (q - p) (drop p xs) ++ take (r - q) ys) (drop-drop (q - p) p xs ∙ ap (λ k. drop k xs) f)

sum_by-rises : {X : Type 0} (f : X → ℕ) (xs : List X) (m n : ℕ) → m ≤ n → sum_by f (take m xs) ≤ sum_by f (take n xs)
sum_by-rises f xs m n le =
    let e : n ≡ m + (n - m) = omega arith in
    let k = ap (λ k. sum_by f (take k xs)) e ∙ ap (sum_by f) (take-add m (n - m) xs) ∙ sum_by-append f (take m xs) (take (n - m) (drop m xs)) in omega arith

ones : (xs : List Bool) → sum_by one_if xs ≤ length xs
ones [] = omega arith
ones (true ∷ xs) = let h = ones xs in let e = sum_by-cons one_if true xs in omega arith
ones (false ∷ xs) = let h = ones xs in let e = sum_by-cons one_if false xs in omega arith

-- no more bytes of rows than bytes
row_bytes-few : (axis : Axis) (p r : ℕ) → row_bytes axis p r ≤ r - p
row_bytes-few axis p r = let h = ones (slice_range axis.of_rows p r) in let e = length-take (r - p) (drop p axis.of_rows) in omega arith

-- the bytes of rows of two stretches
row_bytes-split : (axis : Axis) (p q r : ℕ) → p ≤ q → q ≤ r → row_bytes axis p r ≡ row_bytes axis p q + row_bytes axis q r
row_bytes-split axis p q r lo hi = ap (sum_by one_if) (slice-append axis.of_rows p q r lo hi) ∙ sum_by-append one_if (slice_range axis.of_rows p q) (slice_range axis.of_rows q r)

-- fewer from a later place on
row_bytes-later : (axis : Axis) (p q r : ℕ) → p ≤ q → row_bytes axis q r ≤ row_bytes axis p r
row_bytes-later axis p q r le = by (cases_lt r q)
  where
    by : (r < q) ⊎ (q ≤ r) → row_bytes axis q r ≤ row_bytes axis p r
    by (inl lt) = let h = row_bytes-few axis q r in omega arith
    by (inr le2) = let h = row_bytes-split axis p q r le le2 in omega arith

-- those from one place on, by those from another
row_bytes-from : (axis : Axis) (p q r : ℕ) → row_bytes axis p r ≤ (q - p) + row_bytes axis q r
row_bytes-from axis p q r = by (cases_lt q p) (cases_lt r q)
  where
    by : (q < p) ⊎ (p ≤ q) → (r < q) ⊎ (q ≤ r) → row_bytes axis p r ≤ (q - p) + row_bytes axis q r
    by (inl lt) other = let le : q ≤ p = omega arith in let h = row_bytes-later axis q p r le in omega arith
    by (inr le) (inl lt) = let h = row_bytes-few axis p r in omega arith
    by (inr le) (inr le2) = let h = row_bytes-split axis p q r le le2 in let k = row_bytes-few axis p q in omega arith

-- a place after which many bytes of rows were asked is written
is_written : (axis : Axis) (bound given next asked place : ℕ) → given - next < bound → row_bytes axis given asked ≤ axis.longest → bound + axis.longest ≤ row_bytes axis place asked → place ≤ next
is_written axis bound given next asked place few begun behind = by (cases_lt next place)
  where
    by : (next < place) ⊎ (place ≤ next) → place ≤ next
    by (inl lt) = let le : next ≤ place = omega arith in absurd (let h = row_bytes-later axis next place asked le in let k = row_bytes-from axis next given asked in omega arith)
    by (inr le) = le

-- what comes before a written place is written
written_before : (axis : Axis) (place next written : ℕ) → place ≤ next → IsWrittenTo axis next written → IsWrittenTo axis place written
written_before axis place next written le (inl none) = inl (let h = sum_by-rises (text_size axis.text_of) axis.gives place next le in omega arith)
written_before axis place next written le (inr some) = inr (let h = sum_by-rises (text_size axis.text_of) axis.gives place next le in omega arith)

in_time : (axis : Axis) (bound given next asked written : ℕ) → given - next < bound → IsWrittenTo axis next written → row_bytes axis given asked ≤ axis.longest → IsInTime axis (bound + axis.longest) asked written
in_time axis bound given next asked written few there begun = λ place behind.
    written_before axis place next written (is_written axis bound given next asked place few begun behind) there

may_read : (axis : Axis) (w chunk asked written file at len : ℕ) (t : Bool) → IsNextRead axis asked file at len → len ≤ chunk → IsInTime axis w asked written → MayRead axis w chunk asked written file at len t
may_read axis w chunk asked written file at len true next short soon = (next, short, soon)
may_read axis w chunk asked written file at len false next short soon = tt

-- reads that are made while few places are given and not written are in time
seeks-ahead : (axis : Axis) (bound chunk given next asked written : ℕ) (reads : List IoEvent) → EndsEachRow axis → given - next < bound → IsWrittenTo axis next written → Seeks axis chunk given asked reads
    → ReadsAhead axis (bound + axis.longest) chunk asked written reads
seeks-ahead axis bound chunk given next asked written [] each few there seeks = tt
seeks-ahead axis bound chunk given next asked written (ReadAt file at len ∷ reads) each few there (is_next, short, none, source, later) = (
  may_read axis (bound + axis.longest) chunk asked written file at len (is_source axis file) is_next short (in_time axis bound given next asked written few there (each given asked none)),
  subst (λ t. ReadsAhead axis (bound + axis.longest) chunk (if t then asked + len else asked) written reads) (sym source) (seeks-ahead axis bound chunk given next (asked + len) written reads each few there later),
)
seeks-ahead axis bound chunk given next asked written (Wrote len ∷ reads) each few there seeks = absurd seeks

pub seeks_in_time : SeeksInTime
seeks_in_time = λ axis bound chunk given next asked written reads each few there seeks. seeks-ahead axis bound chunk given next asked written reads each few there seeks

ahead-append : (axis : Axis) (w chunk asked written : ℕ) (first later : List IoEvent) → ReadsAhead axis w chunk asked written first
    → ReadsAhead axis w chunk (asked_up_to axis asked first) (written_up_to written first) later → ReadsAhead axis w chunk asked written (first ++ later)
ahead-append axis w chunk asked written [] later is then_ = then_
ahead-append axis w chunk asked written (ReadAt file at len ∷ first) later is then_ = (is.0, ahead-append axis w chunk (asked_after axis asked file len) written first later is.1 then_)
ahead-append axis w chunk asked written (Wrote len ∷ first) later is then_ = ahead-append axis w chunk asked (written + len) first later is then_

pub reads_on : ReadsOn
reads_on = λ axis w chunk asked written first later is then_. ahead-append axis w chunk asked written first later is then_

asked-append : (axis : Axis) (asked : ℕ) (first later : List IoEvent) → asked_up_to axis asked (first ++ later) ≡ asked_up_to axis (asked_up_to axis asked first) later
asked-append axis asked [] later = refl
asked-append axis asked (ReadAt file at len ∷ first) later = asked-append axis (asked_after axis asked file len) first later
asked-append axis asked (Wrote len ∷ first) later = asked-append axis asked first later

written-append : (written : ℕ) (first later : List IoEvent) → written_up_to written (first ++ later) ≡ written_up_to (written_up_to written first) later
written-append written [] later = refl
written-append written (ReadAt file at len ∷ first) later = written-append written first later
written-append written (Wrote len ∷ first) later = written-append (written + len) first later

pub counts_on : CountsOn
counts_on = λ axis asked written first later. (asked-append axis asked first later, written-append written first later)

may-weaker : (axis : Axis) (w more chunk asked written file at len : ℕ) (t : Bool) → w ≤ more → MayRead axis w chunk asked written file at len t → MayRead axis more chunk asked written file at len t
may-weaker axis w more chunk asked written file at len true le (next, short, soon) = (next, short, λ place behind. soon place (omega arith))
may-weaker axis w more chunk asked written file at len false le may = tt

ahead-weaker : (axis : Axis) (w more chunk asked written : ℕ) (events : List IoEvent) → w ≤ more → ReadsAhead axis w chunk asked written events → ReadsAhead axis more chunk asked written events
ahead-weaker axis w more chunk asked written [] le is = tt
ahead-weaker axis w more chunk asked written (ReadAt file at len ∷ events) le is = (
  may-weaker axis w more chunk asked written file at len (is_source axis file) le is.0,
  ahead-weaker axis w more chunk (asked_after axis asked file len) written events le is.1,
)
ahead-weaker axis w more chunk asked written (Wrote len ∷ events) le is = ahead-weaker axis w more chunk asked (written + len) events le is

pub reads_within : ReadsWithin
reads_within = λ axis w more chunk asked written events le is. ahead-weaker axis w more chunk asked written events le is

seeks-written : (axis : Axis) (chunk given asked written : ℕ) (reads : List IoEvent) → Seeks axis chunk given asked reads → written_up_to written reads ≡ written
seeks-written axis chunk given asked written [] seeks = refl
seeks-written axis chunk given asked written (ReadAt file at len ∷ reads) (is_next, short, begun, source, later) = seeks-written axis chunk given (asked + len) written reads later
seeks-written axis chunk given asked written (Wrote len ∷ reads) seeks = absurd seeks

pub seeks_only : SeeksOnly
seeks_only = λ axis chunk given asked written reads seeks. seeks-written axis chunk given asked written reads seeks
