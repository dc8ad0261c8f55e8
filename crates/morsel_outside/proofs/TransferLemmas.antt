-- What reads and writes leave as it was, and what they add.
use Rattle.std.specs.Prelude.{◌≡◌, ℕ, Option, Result, Ok, Err, List, [], ◌∷◌, ◌++◌, refl}
use Rattle.std.specs.List.{fold, flat_map, sum_by}
use Rattle.std.proofs.Common.{ap, sym, ◌∙◌, append-nil, arith}
use Rattle.std.proofs.lemmas.List.Sums.{sum_by-append}
use Rattle.morsel_outside.specs.declared.io.IoErr.{IoErr}
use Rattle.morsel_outside.specs.declared.io.IoErr.TheVariants.{OutOfMemory, Failed}
use Rattle.morsel_outside.specs.Calls.{Reads}
use Rattle.morsel_outside.specs.Outside.{Outside, Sink, with_piece}
use Rattle.morsel_outside.specs.Actions.{Action, ReadingRange, FailedReadingRange, Writing, FailedWriting, opened_by, made_after, sinks_by, printed_by, asked_by, print_faults_after, text_by}
use Rattle.morsel_outside.proofs.SinkLemmas.{with_piece-nil, with_piece-with_piece}

-- each action is a read or a write
abbrev pub AreTransfers : List Action → Type 0
AreTransfers [] = Unit {0}
AreTransfers (ReadingRange file at len ∷ actions) = AreTransfers actions
AreTransfers (FailedReadingRange file at len ∷ actions) = AreTransfers actions
AreTransfers (Writing piece ∷ actions) = AreTransfers actions
AreTransfers (FailedWriting piece ∷ actions) = AreTransfers actions
AreTransfers (action ∷ actions) = ⊥

-- no file is opened, no sink made, no line printed, no name asked for; the last sink gains the text
pub record OnlyTransfers (actions : List Action) : Type 0 where
  pub opened : flat_map opened_by actions ≡ []
  pub sinks : sum_by sinks_by actions ≡ 0
  pub made : (made : Option (List Sink)) → fold made_after made actions ≡ with_piece made (flat_map text_by actions)
  pub printed : flat_map printed_by actions ≡ []
  pub print_faults : (count : ℕ) → fold print_faults_after count actions ≡ count
  pub asked : flat_map asked_by actions ≡ []

-- one action more, which opens nothing, makes no sink, prints nothing and asks for nothing
only_more : (action : Action) (actions : List Action) → opened_by action ≡ [] → sinks_by action ≡ 0 → printed_by action ≡ [] → asked_by action ≡ []
    → ((made : Option (List Sink)) → made_after made action ≡ with_piece made (text_by action)) → ((count : ℕ) → print_faults_after count action ≡ count)
    → OnlyTransfers actions → OnlyTransfers (action ∷ actions)
only_more action actions opened sinks printed asked made counts r = record {
  opened = ap (λ files. files ++ flat_map opened_by actions) opened ∙ r.opened;
  sinks = let sum = sum_by-append sinks_by (action ∷ []) actions in let n = r.sinks in omega arith;
  made = λ before. r.made (made_after before action) ∙ ap (λ sinks. with_piece sinks (flat_map text_by actions)) (made before)
      ∙ with_piece-with_piece before (text_by action) (flat_map text_by actions);
  printed = ap (λ lines. lines ++ flat_map printed_by actions) printed ∙ r.printed;
  print_faults = λ count. r.print_faults (print_faults_after count action) ∙ counts count;
  asked = ap (λ names. names ++ flat_map asked_by actions) asked ∙ r.asked;
}

pub only_transfers : (actions : List Action) → AreTransfers actions → OnlyTransfers actions
only_transfers [] h = record {
  opened = refl;
  sinks = refl;
  made = λ made. sym (with_piece-nil made);
  printed = refl;
  print_faults = λ count. refl;
  asked = refl;
}
only_transfers (ReadingRange file at len ∷ actions) h =
    only_more (ReadingRange file at len) actions refl refl refl refl (λ made. sym (with_piece-nil made)) (λ count. refl) (only_transfers actions h)
only_transfers (FailedReadingRange file at len ∷ actions) h =
    only_more (FailedReadingRange file at len) actions refl refl refl refl (λ made. sym (with_piece-nil made)) (λ count. refl) (only_transfers actions h)
only_transfers (Writing piece ∷ actions) h = only_more (Writing piece) actions refl refl refl refl (λ made. refl) (λ count. refl) (only_transfers actions h)
only_transfers (FailedWriting piece ∷ actions) h =
    only_more (FailedWriting piece) actions refl refl refl refl (λ made. refl) (λ count. refl) (only_transfers actions h)
only_transfers (action ∷ actions) h = absurd h

-- a read opens no file
pub reads_open_nothing : (old new : Outside) (file at : ℕ) (bytes : List ℕ) (result : Result (Unit {0}) IoErr) → Reads old file at bytes result new → new.sizes ≡ old.sizes
reads_open_nothing old new file at bytes (Ok done) h = h.1.sizes ∙ append-nil old.sizes
reads_open_nothing old new file at bytes (Err OutOfMemory) h = ap (λ (o : Outside). o.sizes) h
reads_open_nothing old new file at bytes (Err Failed) h = h.sizes ∙ append-nil old.sizes
