-- How the text goes on.
use Rattle.std.specs.Prelude.{◌≡◌, ℕ, ◌+◌, ◌-◌, ◌≤◌, Bool, true, false, if◌then◌else◌, IsTrue, Result, Ok, Err, List, [], ◌∷◌, ◌++◌, length, take, drop, refl}
use Rattle.std.proofs.Common.{ap, sym, subst, ◌∙◌, append-nil, append_assoc, arith, inr, length-append}
use Rattle.std.specs.List.{flat_map, sum_by, slice_range}
use Rattle.std.proofs.lemmas.List.{take-append-drop}
use Rattle.std.proofs.lemmas.List.Concat.{flat_map-append}
use Rattle.std.proofs.lemmas.List.Sums.{sum_by-cons}
use Rattle.std.proofs.Math.Seq.{take-append_seam, take-append-add}
use Rattle.morsel_meaning.specs.declared.fault.Fault.{Fault}
use Rattle.morsel_meaning.specs.Values.{Row}
use Rattle.morsel_outside.specs.Actions.{Action, Writing, FailedWriting, event_of, text_by}
use Rattle.morsel_pipe.specs.Pieces.{Piece, Part}
use Rattle.morsel_scan.specs.StretchRows.{Gives, collected, before_fault}
use Rattle.morsel_scan.specs.Ahead.{Axis, IsWrittenTo, ReadsAhead, asked_up_to, written_up_to, text_to, text_size}
use Rattle.morsel_scan.proofs.AheadLemmas.{reads_on}
use Rattle.morsel_scan.proofs.StretchLemmas.{gives_on, gives_front, gives_midst, followed_by-ok}
use Rattle.morsel_drive.specs.Lines.{Each, SuitsPart, IsSoundAxis, IsReading}
use Rattle.morsel_drive.specs.Driving.{IsWriting, KeepsText, Stops, IsAfter, FitsInput, EndsWith, WritesRows}
use Rattle.morsel_drive.specs.declared.written.Written.{Written}
use Rattle.morsel_drive.specs.declared.caller.Input.{Input}
use Rattle.morsel_drive.specs.declared.caller.Input.TheVariants.{Reading, Holding, Ended}
use Rattle.morsel_drive.proofs.TransferLemmas.{written_is, readings_write_nothing, writings_in_time}

-- the text of more actions
more_text : (actions more : List Action) (text : List ℕ) → flat_map text_by actions ≡ text → flat_map text_by (actions ++ more) ≡ text ++ flat_map text_by more
more_text actions more text is = flat_map-append text_by actions more ∙ ap (λ t. t ++ flat_map text_by more) is

-- reads in time, and then others
pub ahead_on : (axis : Axis) (w chunk : ℕ) (actions more : List Action) → ReadsAhead axis w chunk 0 axis.head (flat_map event_of actions)
    → ReadsAhead axis w chunk (asked_up_to axis 0 (flat_map event_of actions)) (written_up_to axis.head (flat_map event_of actions)) (flat_map event_of more)
    → ReadsAhead axis w chunk 0 axis.head (flat_map event_of (actions ++ more))
ahead_on axis w chunk actions more first later =
    subst (λ events. ReadsAhead axis w chunk 0 axis.head events) (sym (flat_map-append event_of actions more))
    (reads_on axis w chunk 0 axis.head (flat_map event_of actions) (flat_map event_of more) first later)

-- writes are in time wherever they are made
pub ahead_written : (axis : Axis) (w chunk : ℕ) (actions writes : List Action) → Each IsWriting writes → ReadsAhead axis w chunk 0 axis.head (flat_map event_of actions)
    → ReadsAhead axis w chunk 0 axis.head (flat_map event_of (actions ++ writes))
ahead_written axis w chunk actions writes are first = ahead_on axis w chunk actions writes first
    (writings_in_time axis w chunk (asked_up_to axis 0 (flat_map event_of actions)) (written_up_to axis.head (flat_map event_of actions)) writes are)

-- a part goes on where the text ends
pub record GoesOn (axis : Axis) (was : Written) (part : Part) : Type 0 where
  pub within : was.rows + part.rows ≤ length (before_fault axis.gives)
  pub text : axis.text_of (take (was.rows + part.rows) (before_fault axis.gives)) ≡ axis.text_of (take was.rows (before_fault axis.gives)) ++ part.bytes

pub goes_on : (axis : Axis) (w chunk : ℕ) (actions : List Action) (was : Written) (part : Part) → IsSoundAxis axis → KeepsText axis w chunk actions was → SuitsPart axis part
    → part.from ≡ was.next → was.begun + part.skip ≡ was.rows → GoesOn axis was part
goes_on axis w chunk actions was part sound k s begins behind =
    let gives : Gives axis.gives was.next part.to s.all = subst (λ from. Gives axis.gives from part.to s.all) begins s.gives in
    let midst = gives_midst axis.gives was.next part.to part.skip part.rows k.done s.all k.gives gives s.within in
    let at : length k.done + part.skip ≡ was.rows = ap (λ n. n + part.skip) (sym k.begun) ∙ behind in
    record {
      within = let e = midst.0 in omega (arith, at, e);
      text = ap (λ n. axis.text_of (take (n + part.rows) (before_fault axis.gives))) (sym at) ∙ ap axis.text_of midst.1
          ∙ sound.adds (take (length k.done + part.skip) (before_fault axis.gives)) (take part.rows (drop part.skip s.all))
          ∙ ap (λ t. axis.text_of (take (length k.done + part.skip) (before_fault axis.gives)) ++ t) (sym s.text)
          ∙ ap (λ n. axis.text_of (take n (before_fault axis.gives)) ++ part.bytes) at;
    }

-- where the text is after a part
stands_at : (axis : Axis) (part : Part) (was now : Written) (done all : List Row) (b : Bool) → Gives axis.gives 0 was.next done → Gives axis.gives was.next part.to all
    → was.begun ≡ length done → was.begun + part.skip ≡ was.rows → (IsTrue b → part.skip + part.rows ≡ length all)
    → now.next ≡ (if b then part.to else was.next) → now.begun ≡ (if b then was.rows + part.rows else was.begun)
    → (later : List Row) × Gives axis.gives 0 now.next later × (now.begun ≡ length later)
stands_at axis part was now done all true first later begun behind ends next begins =
    let whole : part.skip + part.rows ≡ length all = ends refl in
    let size = length-append done all in (
      done ++ all,
      subst (λ to. Gives axis.gives 0 to (done ++ all)) (sym next) (gives_on axis.gives 0 was.next part.to done all first later),
      omega (arith, whole, size, begun, behind, begins),
    )
stands_at axis part was now done all false first later begun behind ends next begins =
    (done, subst (λ to. Gives axis.gives 0 to done) (sym next) first, begins ∙ begun)

-- a part more was written
pub keeps-part : (axis : Axis) (w chunk : ℕ) (actions : List Action) (was : Written) (part : Part) (now : Written) → IsSoundAxis axis → KeepsText axis w chunk actions was → SuitsPart axis part
    → part.from ≡ was.next → was.begun + part.skip ≡ was.rows → IsAfter part was now → KeepsText axis w chunk (actions ++ (Writing part.bytes ∷ [])) now
keeps-part axis w chunk actions was part now sound k s begins behind (rows, next, begun) =
    let gives : Gives axis.gives was.next part.to s.all = subst (λ from. Gives axis.gives from part.to s.all) begins s.gives in
    let at = stands_at axis part was now k.done s.all part.last k.gives gives k.begun behind s.ends next begun in
    let on = goes_on axis w chunk actions was part sound k s begins behind in
    record {
      done = at.0;
      gives = at.1;
      begun = at.2;
      within = let e = on.within in omega (arith, rows, e);
      text = more_text actions (Writing part.bytes ∷ []) (axis.text_of (take was.rows (before_fault axis.gives))) k.text
          ∙ ap (λ t. axis.text_of (take was.rows (before_fault axis.gives)) ++ t) (append-nil part.bytes)
          ∙ sym on.text ∙ ap (λ n. axis.text_of (take n (before_fault axis.gives))) (sym rows);
      ahead = ahead_written axis w chunk actions (Writing part.bytes ∷ []) (tt, tt) k.ahead;
    }

-- some rows' text, and that of the others
fronts : (axis : Axis) (rows : List Row) (n : ℕ) → IsSoundAxis axis → axis.text_of (take n rows) ++ axis.text_of (drop n rows) ≡ axis.text_of rows
fronts axis rows n sound = sym (sound.adds (take n rows) (drop n rows)) ∙ ap axis.text_of (take-append-drop n rows)

pub keeps-stops : (axis : Axis) (w chunk : ℕ) (actions : List Action) (written : Written) → IsSoundAxis axis → KeepsText axis w chunk actions written → Stops axis w chunk actions
keeps-stops axis w chunk actions written sound k = record {
  rest = axis.text_of (drop written.rows (before_fault axis.gives));
  front = ap (λ t. t ++ axis.text_of (drop written.rows (before_fault axis.gives))) k.text ∙ fronts axis (before_fault axis.gives) written.rows sound;
  ahead = k.ahead;
}

-- a part was not wholly written
pub stops-part : (axis : Axis) (w chunk : ℕ) (actions : List Action) (was : Written) (part : Part) (taken : ℕ) → IsSoundAxis axis → KeepsText axis w chunk actions was → SuitsPart axis part
    → part.from ≡ was.next → was.begun + part.skip ≡ was.rows → Stops axis w chunk (actions ++ (FailedWriting (take taken part.bytes) ∷ []))
stops-part axis w chunk actions was part taken sound k s begins behind =
    let on = goes_on axis w chunk actions was part sound k s begins behind in
    let before = axis.text_of (take was.rows (before_fault axis.gives)) in
    let others = axis.text_of (drop (was.rows + part.rows) (before_fault axis.gives)) in
    record {
      rest = drop taken part.bytes ++ others;
      front = ap (λ t. t ++ (drop taken part.bytes ++ others)) (more_text actions (FailedWriting (take taken part.bytes) ∷ []) before k.text
          ∙ ap (λ t. before ++ t) (append-nil (take taken part.bytes)))
          ∙ cut before part.bytes others taken ∙ ap (λ t. t ++ others) (sym on.text) ∙ fronts axis (before_fault axis.gives) (was.rows + part.rows) sound;
      ahead = ahead_written axis w chunk actions (FailedWriting (take taken part.bytes) ∷ []) (tt, tt) k.ahead;
    }
  where
    cut : (a b c : List ℕ) (n : ℕ) → (a ++ take n b) ++ (drop n b ++ c) ≡ (a ++ b) ++ c
    cut a b c n = append_assoc a (take n b) (drop n b ++ c) ∙ ap (λ t. a ++ t) (sym (append_assoc (take n b) (drop n b) c) ∙ ap (λ t. t ++ c) (take-append-drop n b))
        ∙ sym (append_assoc a b c)

-- nothing was written yet
pub keeps-nothing : (axis : Axis) (w chunk : ℕ) (written : Written) → IsSoundAxis axis → written.next ≡ 0 → written.begun ≡ 0 → written.rows ≡ 0 → KeepsText axis w chunk [] written
keeps-nothing axis w chunk written sound next begun rows = record {
  done = [];
  gives = subst (λ to. Gives axis.gives 0 to []) (sym next) (record { order = omega arith; within = omega arith; all = refl });
  begun = begun;
  within = omega (arith, rows);
  text = sym sound.none ∙ ap (λ n. axis.text_of (take n (before_fault axis.gives))) (sym rows);
  ahead = tt;
}

-- more was read
pub keeps-read : (axis : Axis) (w chunk : ℕ) (actions reads : List Action) (written : Written) → KeepsText axis w chunk actions written → Each IsReading reads
    → ReadsAhead axis w chunk (asked_up_to axis 0 (flat_map event_of actions)) (written_up_to axis.head (flat_map event_of actions)) (flat_map event_of reads)
    → KeepsText axis w chunk (actions ++ reads) written
keeps-read axis w chunk actions reads written k are ahead = record {
  done = k.done;
  gives = k.gives;
  begun = k.begun;
  within = k.within;
  text = more_text actions reads (axis.text_of (take written.rows (before_fault axis.gives))) k.text
      ∙ ap (λ t. axis.text_of (take written.rows (before_fault axis.gives)) ++ t) (readings_write_nothing reads are)
      ∙ append-nil (axis.text_of (take written.rows (before_fault axis.gives)));
  ahead = ahead_on axis w chunk actions reads k.ahead ahead;
}

-- the text of what places give is as long as what they add
size_of : (axis : Axis) → IsSoundAxis axis → (gives : List (Result (List Row) Fault)) (rows : List Row) → collected gives ≡ Ok rows
    → sum_by (text_size axis.text_of) gives ≡ length (axis.text_of rows)
size_of axis sound [] rows is = let e : [] ≡ rows = cc in ap length (sym sound.none) ∙ ap (λ r. length (axis.text_of r)) e
size_of axis sound (Err fault ∷ gives) rows is = cc
size_of axis sound (Ok first ∷ gives) rows is =
    let both = followed_by-ok (Ok first) (collected gives) rows is in
    let same : first ≡ both.0 = let e = both.2 in cc in
    sum_by-cons (text_size axis.text_of) (Ok first) gives ∙ ap (λ n. length (axis.text_of first) + n) (size_of axis sound gives both.1 both.3)
    ∙ sym (length-append (axis.text_of first) (axis.text_of both.1))
    ∙ ap length (sym (sound.adds first both.1) ∙ ap (λ r. axis.text_of (r ++ both.1)) same ∙ ap axis.text_of (sym both.4))

-- all that the places before `next` add is written
pub written_to : (axis : Axis) (w chunk : ℕ) (actions : List Action) (written : Written) → IsSoundAxis axis → KeepsText axis w chunk actions written
    → IsWrittenTo axis written.next (written_up_to axis.head (flat_map event_of actions))
written_to axis w chunk actions written sound k =
    let first = gives_front axis.gives written.next k.done k.gives in
    let more = written.rows - length k.done in
    let e : written.rows ≡ length k.done + more = let h = written.in_order in let b = k.begun in omega (arith, h, b) in
    let rows : take written.rows (before_fault axis.gives) ≡ k.done ++ take more first.0 =
    ap (take written.rows) first.1 ∙ ap (λ n. take n (k.done ++ first.0)) e ∙ take-append-add k.done first.0 more in
    let size : length (axis.text_of (take written.rows (before_fault axis.gives))) ≡ length (axis.text_of k.done) + length (axis.text_of (take more first.0)) =
    ap (λ r. length (axis.text_of r)) rows ∙ ap length (sound.adds k.done (take more first.0)) ∙ length-append (axis.text_of k.done) (axis.text_of (take more first.0)) in
    let gives : text_to axis written.next ≡ length (axis.text_of k.done) = size_of axis sound (take written.next axis.gives) k.done (ap collected (sym (front axis.gives written.next)) ∙ k.gives.all) in
    let all = written_is axis.head actions in let text = ap length k.text in
    inr (omega (arith, size, gives, all, text))
  where
    front : (xs : List (Result (List Row) Fault)) (m : ℕ) → slice_range xs 0 m ≡ take m xs
    front xs m = let e : m - 0 ≡ m = omega arith in ap (λ k. take k xs) e

-- where all that was given is written, and no more, the text is that of the rows which it gives
pub writes_all : (axis : Axis) (is_piece : Piece → Type 0) (is_end : ℕ → ℕ → Type 0) (w chunk : ℕ) (actions : List Action) (given asked : ℕ) (input : Input) (written : Written) (result : Result ℕ Fault)
    → KeepsText axis w chunk actions written → asked_up_to axis 0 (flat_map event_of actions) ≡ asked → FitsInput is_piece is_end given asked input → EndsWith given input written result
    → WritesRows axis is_end given actions result
writes_all axis is_piece is_end w chunk actions given asked Ended written (Ok n) k asked_is rest (count, all, begun, ended) =
    let front = gives_front axis.gives written.next k.done k.gives in
    let number : written.rows ≡ length k.done = sym begun ∙ k.begun in
    let rows : take written.rows (before_fault axis.gives) ≡ k.done = ap (take written.rows) front.1 ∙ ap (λ m. take m (k.done ++ front.0)) number ∙ take-append_seam k.done front.0 in (
      k.done,
      subst (λ (to : ℕ). Gives axis.gives 0 to k.done) all k.gives,
      subst (is_end given) (sym asked_is) rest,
      k.text ∙ ap axis.text_of rows,
      count ∙ number,
    )
writes_all axis is_piece is_end w chunk actions given asked Reading written (Ok n) k asked_is rest (count, all, begun, ended) = absurd ended
writes_all axis is_piece is_end w chunk actions given asked (Holding piece) written (Ok n) k asked_is rest (count, all, begun, ended) = absurd ended
writes_all axis is_piece is_end w chunk actions given asked input written (Err fault) k asked_is rest ends = tt
