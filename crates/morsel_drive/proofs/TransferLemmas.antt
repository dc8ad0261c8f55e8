-- What reads and writes add, and what they leave as it was.
use Rattle.std.specs.Prelude.{◌≡◌, ◌⊎◌, ℕ, ◌+◌, ◌<◌, List, [], ◌∷◌, ◌++◌, map, length, refl}
use Rattle.std.proofs.Common.{ap, sym, subst, ◌∙◌, append-nil, arith, inl, inr}
use Rattle.std.specs.List.{flat_map, filter, sum_by}
use Rattle.std.proofs.lemmas.List.Elements.{filter-append}
use Rattle.std.proofs.lemmas.List.Sums.{sum_by-append, sum_by-cons}
use Rattle.morsel_outside.specs.declared.events.IoEvent.{IoEvent}
use Rattle.morsel_outside.specs.declared.events.IoEvent.TheVariants.{ReadAt, Wrote}
use Rattle.morsel_outside.specs.Outside.{Outside, with_more}
use Rattle.morsel_outside.specs.Actions.{Action, Opening, FailedOpening, ReadingRange, FailedReadingRange, Making, FailedMaking, Writing, FailedWriting, Printing, FailedPrinting, Does, event_of, text_by, write_failures, bytes_told}
use Rattle.morsel_outside.proofs.ActionLemmas.{does-append, events_tell, with_more-nil}
use Rattle.morsel_outside.proofs.DoesLemmas.{does-nothing}
use Rattle.morsel_outside.proofs.TransferLemmas.{AreTransfers, only_transfers}
use Rattle.morsel_scan.specs.Ahead.{Axis, ReadsAhead, asked_up_to, written_up_to}
use Rattle.morsel_drive.specs.Lines.{Each, IsReading}
use Rattle.morsel_drive.specs.Driving.{is_reading, IsWriting, Transfers}

pub each-append : {X : Type 0} (P : X → Type 0) (xs ys : List X) → Each P xs → Each P ys → Each P (xs ++ ys)
each-append P [] ys first later = later
each-append P (x ∷ xs) ys (here, first) later = (here, each-append P xs ys first later)

abbrev pub IsEither : Action → Type 0
IsEither action = IsReading action ⊎ IsWriting action

pub are_transfers : (actions : List Action) → Each IsEither actions → AreTransfers actions
are_transfers [] h = tt
are_transfers (ReadingRange file at len ∷ actions) (here, later) = are_transfers actions later
are_transfers (FailedReadingRange file at len ∷ actions) (here, later) = are_transfers actions later
are_transfers (Writing piece ∷ actions) (here, later) = are_transfers actions later
are_transfers (FailedWriting piece ∷ actions) (here, later) = are_transfers actions later
are_transfers (Opening name bytes ∷ actions) (inl here, later) = absurd here
are_transfers (Opening name bytes ∷ actions) (inr here, later) = absurd here
are_transfers (FailedOpening number name ∷ actions) (inl here, later) = absurd here
are_transfers (FailedOpening number name ∷ actions) (inr here, later) = absurd here
are_transfers (Making name ∷ actions) (inl here, later) = absurd here
are_transfers (Making name ∷ actions) (inr here, later) = absurd here
are_transfers (FailedMaking name ∷ actions) (inl here, later) = absurd here
are_transfers (FailedMaking name ∷ actions) (inr here, later) = absurd here
are_transfers (Printing line ∷ actions) (inl here, later) = absurd here
are_transfers (Printing line ∷ actions) (inr here, later) = absurd here
are_transfers (FailedPrinting ∷ actions) (inl here, later) = absurd here
are_transfers (FailedPrinting ∷ actions) (inr here, later) = absurd here

pub either_reading : (actions : List Action) → Each IsReading actions → Each IsEither actions
either_reading [] h = tt
either_reading (action ∷ actions) (here, later) = (inl here, either_reading actions later)

pub either_writing : (actions : List Action) → Each IsWriting actions → Each IsEither actions
either_writing [] h = tt
either_writing (action ∷ actions) (here, later) = (inr here, either_writing actions later)

-- files and sinks stay
pub record Stays (old new : Outside) : Type 0 where
  pub sizes : new.sizes ≡ old.sizes
  pub held : new.held ≡ old.held
  pub sinks : new.sinks ≡ old.sinks

pub stays : (old new : Outside) (actions : List Action) → Each IsEither actions → Does old actions new → Stays old new
stays old new actions each does =
    let only = only_transfers actions (are_transfers actions each) in record {
      sizes = does.sizes ∙ ap (λ files. old.sizes ++ map length files) only.opened ∙ append-nil old.sizes;
      held = does.held ∙ ap (with_more old.held) only.opened ∙ with_more-nil old.held;
      sinks = let a = does.sinks in let b = only.sinks in omega (arith, a, b);
    }

pub filter_readings : (actions : List Action) → Each IsReading actions → filter is_reading actions ≡ actions
filter_readings [] h = refl
filter_readings (ReadingRange file at len ∷ actions) (here, later) = ap (λ xs. ReadingRange file at len ∷ xs) (filter_readings actions later)
filter_readings (FailedReadingRange file at len ∷ actions) (here, later) = ap (λ xs. FailedReadingRange file at len ∷ xs) (filter_readings actions later)
filter_readings (Writing piece ∷ actions) (here, later) = absurd here
filter_readings (FailedWriting piece ∷ actions) (here, later) = absurd here
filter_readings (Opening name bytes ∷ actions) (here, later) = absurd here
filter_readings (FailedOpening number name ∷ actions) (here, later) = absurd here
filter_readings (Making name ∷ actions) (here, later) = absurd here
filter_readings (FailedMaking name ∷ actions) (here, later) = absurd here
filter_readings (Printing line ∷ actions) (here, later) = absurd here
filter_readings (FailedPrinting ∷ actions) (here, later) = absurd here

-- a property of each write holds of writes
by_writes : (P : List Action → Type 0) → P [] → ((piece : List ℕ) (actions : List Action) → Each IsWriting actions → P actions → P (Writing piece ∷ actions))
    → ((piece : List ℕ) (actions : List Action) → Each IsWriting actions → P actions → P (FailedWriting piece ∷ actions))
    → (actions : List Action) → Each IsWriting actions → P actions
by_writes P none wrote failed [] h = none
by_writes P none wrote failed (Writing piece ∷ actions) (here, later) = wrote piece actions later (by_writes P none wrote failed actions later)
by_writes P none wrote failed (FailedWriting piece ∷ actions) (here, later) = failed piece actions later (by_writes P none wrote failed actions later)
by_writes P none wrote failed (ReadingRange file at len ∷ actions) (here, later) = absurd here
by_writes P none wrote failed (FailedReadingRange file at len ∷ actions) (here, later) = absurd here
by_writes P none wrote failed (Opening name bytes ∷ actions) (here, later) = absurd here
by_writes P none wrote failed (FailedOpening number name ∷ actions) (here, later) = absurd here
by_writes P none wrote failed (Making name ∷ actions) (here, later) = absurd here
by_writes P none wrote failed (FailedMaking name ∷ actions) (here, later) = absurd here
by_writes P none wrote failed (Printing line ∷ actions) (here, later) = absurd here
by_writes P none wrote failed (FailedPrinting ∷ actions) (here, later) = absurd here

pub filter_writings : (actions : List Action) → Each IsWriting actions → filter is_reading actions ≡ []
filter_writings actions each = by_writes (λ xs. filter is_reading xs ≡ []) refl (λ piece xs later h. h) (λ piece xs later h. h) actions each

pub writings_ask_nothing : (axis : Axis) (asked : ℕ) (actions : List Action) → Each IsWriting actions → asked_up_to axis asked (flat_map event_of actions) ≡ asked
writings_ask_nothing axis asked actions each =
    by_writes (λ xs. asked_up_to axis asked (flat_map event_of xs) ≡ asked) refl (λ piece xs later h. h) (λ piece xs later h. h) actions each

pub writings_in_time : (axis : Axis) (w chunk asked written : ℕ) (actions : List Action) → Each IsWriting actions
    → ReadsAhead axis w chunk asked written (flat_map event_of actions)
writings_in_time axis w chunk asked written actions each =
    by_writes (λ xs. (written : ℕ) → ReadsAhead axis w chunk asked written (flat_map event_of xs)) (λ n. tt)
    (λ piece xs later h n. h (n + length piece)) (λ piece xs later h n. h (n + length piece)) actions each written

pub readings_write_nothing : (actions : List Action) → Each IsReading actions → flat_map text_by actions ≡ []
readings_write_nothing [] h = refl
readings_write_nothing (ReadingRange file at len ∷ actions) (here, later) = readings_write_nothing actions later
readings_write_nothing (FailedReadingRange file at len ∷ actions) (here, later) = readings_write_nothing actions later
readings_write_nothing (Writing piece ∷ actions) (here, later) = absurd here
readings_write_nothing (FailedWriting piece ∷ actions) (here, later) = absurd here
readings_write_nothing (Opening name bytes ∷ actions) (here, later) = absurd here
readings_write_nothing (FailedOpening number name ∷ actions) (here, later) = absurd here
readings_write_nothing (Making name ∷ actions) (here, later) = absurd here
readings_write_nothing (FailedMaking name ∷ actions) (here, later) = absurd here
readings_write_nothing (Printing line ∷ actions) (here, later) = absurd here
readings_write_nothing (FailedPrinting ∷ actions) (here, later) = absurd here

written_by : (written : ℕ) (events : List IoEvent) → written_up_to written events ≡ written + sum_by bytes_told events
written_by written [] = omega arith
written_by written (ReadAt file at len ∷ events) = let e = sum_by-cons bytes_told (ReadAt file at len) events in let h = written_by written events in omega (arith, e, h)
written_by written (Wrote len ∷ events) = let e = sum_by-cons bytes_told (Wrote len) events in let h = written_by (written + len) events in omega (arith, e, h)

-- what the events of actions tell of the text is its length
pub written_is : (written : ℕ) (actions : List Action) → written_up_to written (flat_map event_of actions) ≡ written + length (flat_map text_by actions)
written_is written actions = written_by written (flat_map event_of actions) ∙ ap (λ n. written + n) (events_tell actions)

-- nothing was done
pub transfers-nothing : (did : List Action → Type 0) (before : Outside) → did [] → Transfers did before [] before
transfers-nothing did before h = record { does = does-nothing before; each = tt; reads = h }

-- more reads were made
pub transfers-read : (did more : List Action → Type 0) (before old new : Outside) (actions reads : List Action) → Transfers did before actions old
    → Does old reads new → Each IsReading reads → ((xs : List Action) → did xs → more (xs ++ reads)) → Transfers more before (actions ++ reads) new
transfers-read did more before old new actions reads was does are on = record {
  does = does-append before old new actions reads was.does does;
  each = each-append IsEither actions reads was.each (either_reading reads are);
  reads = subst more (sym (filter-append is_reading actions reads ∙ ap (λ xs. filter is_reading actions ++ xs) (filter_readings reads are))) (on (filter is_reading actions) was.reads);
}

-- more writes were made
pub transfers-written : (did : List Action → Type 0) (before old new : Outside) (actions writes : List Action) → Transfers did before actions old
    → Does old writes new → Each IsWriting writes → Transfers did before (actions ++ writes) new
transfers-written did before old new actions writes was does are = record {
  does = does-append before old new actions writes was.does does;
  each = each-append IsEither actions writes was.each (either_writing writes are);
  reads = subst did (sym (filter-append is_reading actions writes ∙ ap (λ xs. filter is_reading actions ++ xs) (filter_writings writes are) ∙ append-nil (filter is_reading actions))) was.reads;
}

-- a write that failed among some is one among more
pub failures_among : (actions writes : List Action) → 0 < sum_by write_failures writes → 0 < sum_by write_failures (actions ++ writes)
failures_among actions writes some = let e = sum_by-append write_failures actions writes in omega (arith, e, some)
