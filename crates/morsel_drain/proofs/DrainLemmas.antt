-- What reads leave as it was, and what the loop keeps, turn by turn. `J` are the jobs that a line may be for, and what is told of a run is told for each job.
use Rattle.std.specs.Prelude.{◌≡◌, ◌⊎◌, ℕ, ◌+◌, ◌-◌, ◌*◌, ◌≤◌, OnOk, IfErr, IfOk, Result, Ok, Err, List, [], ◌∷◌, ◌++◌}
use Rattle.std.proofs.Common.{refl, ap, sym, subst, ◌∙◌, append-nil, inl, inr, arith}
use Rattle.std.proofs.Math.Nat.{mul-add}
use Rattle.std.specs.List.{flat_map, sum_by}
use Rattle.std.proofs.lemmas.List.Concat.{flat_map-append}
use Rattle.morsel_meaning.specs.declared.fault.Fault.{Fault}
use Rattle.morsel_meaning.specs.declared.fault.Fault.TheVariants as faults
use Rattle.morsel_outside.specs.declared.events.IoEvent.{IoEvent}
use Rattle.morsel_outside.specs.Outside.{Outside, with_more, with_piece}
use Rattle.morsel_outside.specs.Actions.{Action, ReadingRange, FailedReadingRange, Does, RisesBy, event_of, write_failures}
use Rattle.morsel_outside.proofs.ActionLemmas.{does-append, with_more-nil}
use Rattle.morsel_outside.proofs.DoesLemmas.{does-nothing}
use Rattle.morsel_outside.proofs.SinkLemmas.{with_piece-nil}
use Rattle.morsel_outside.proofs.TransferLemmas.{only_transfers}
use Rattle.morsel_pipe.specs.Pieces.{Piece}
use Rattle.morsel_scan.specs.Ahead.{Axis, asked_up_to}
use Rattle.morsel_scan.proofs.AheadLemmas.{counts_on}
use Rattle.morsel_drive.specs.Lines.{Each, IsReading, IsDue, ReadsFor}
use Rattle.morsel_drive.specs.Driving.{FitsInput, GivesInput, HasEnded}
use Rattle.morsel_drive.specs.declared.caller.Input.{Input}
use Rattle.morsel_drive.specs.declared.caller.Input.TheVariants.{Reading, Holding, Ended}
use Rattle.morsel_drive.proofs.TransferLemmas.{each-append, either_reading, are_transfers, stays, readings_write_nothing}
use Rattle.morsel_drain.specs.Finding.{HoldsRowsTo, IsRowsEnd}
use Rattle.morsel_drain.specs.Draining.{EndsInput, LeavesAllElse, StopsReadsFor, DrainsAxis, Drains}

-- reads fail no write
no_failures : (reads : List Action) → Each IsReading reads → sum_by write_failures reads ≡ 0
no_failures [] are = refl
no_failures (ReadingRange file at len ∷ reads) are = no_failures reads are.1
no_failures (FailedReadingRange file at len ∷ reads) are = no_failures reads are.1
no_failures (action ∷ reads) are = absurd are.0

-- what reads alone did leaves all else as it was
pub leaves_all_else : (reads : List Action) (old new : Outside) → Each IsReading reads → Does old reads new → LeavesAllElse old new
leaves_all_else reads old new are does =
    let each = either_reading reads are in
    let stay = stays old new reads each does in
    let only = only_transfers reads (are_transfers reads each) in record {
      sizes = stay.sizes;
      held = stay.held;
      sinks = stay.sinks;
      made = does.made ∙ only.made old.made ∙ ap (λ text. with_piece old.made text) (readings_write_nothing reads are) ∙ with_piece-nil old.made;
      printed = does.printed ∙ ap (λ lines. with_more old.printed lines) only.printed ∙ with_more-nil old.printed;
      write_faults = subst (λ n. RisesBy n old.write_faults new.write_faults) (no_failures reads are) does.write_faults;
      print_faults = does.print_faults ∙ only.print_faults old.print_faults;
      asked = does.asked ∙ ap (λ names. old.asked ++ names) only.asked ∙ append-nil old.asked;
    }

-- reads, and then others
pub reads_more : (did call more : List Action → Type 0) (told sought later : List IoEvent → Type 0) (before old new : Outside) → ReadsFor did told before old → ReadsFor call sought old new
    → ((xs ys : List Action) → did xs → call ys → more (xs ++ ys)) → ((xs ys : List IoEvent) → told xs → sought ys → later (xs ++ ys)) → ReadsFor more later before new
reads_more did call more told sought later before old new s r join tell = record {
  reads = s.reads ++ r.reads;
  does = does-append before old new s.reads r.reads s.does r.does;
  are = each-append IsReading s.reads r.reads s.are r.are;
  did_them = join s.reads r.reads s.did_them r.did_them;
  sought_them = subst later (sym (flat_map-append event_of s.reads r.reads)) (tell (flat_map event_of s.reads) (flat_map event_of r.reads) s.sought_them r.sought_them);
}

-- the same reads, of which more is told
pub told_more : (did : List Action → Type 0) (told later : List IoEvent → Type 0) (before now : Outside) → ReadsFor did told before now → ((events : List IoEvent) → told events → later events)
    → ReadsFor did later before now
told_more did told later before now s tell = record {
  reads = s.reads;
  does = s.does;
  are = s.are;
  did_them = s.did_them;
  sought_them = tell (flat_map event_of s.reads) s.sought_them;
}

-- in the midst of a run so many bytes were asked, what is held is of the input, and the reader and the line go on
pub record InMidst (axis : Axis) (is_piece : Piece → Type 0) (is_end : ℕ → ℕ → Type 0) (reads serves : Type 0) (given asked : ℕ) (input : Input) (events : List IoEvent) : Type 0 where
  pub asked_is : asked_up_to axis 0 events ≡ asked
  pub fits : FitsInput is_piece is_end given asked input
  pub reading : reads
  pub serving : serves

-- so it is for each job that the reader read and the line served at first
abbrev pub ToldMidst : {J : Type 0} → (J → Axis) → (J → Piece → Type 0) → (J → ℕ → ℕ → Type 0) → (J → Type 0) → (J → Type 0) → (J → Type 0) → (J → Type 0) → ℕ → ℕ → Input → List IoEvent → Type 0
ToldMidst {J} axis is_piece is_end begun_reading begun_serving reads serves given asked input events = (job : J) → begun_reading job → begun_serving job
    → InMidst (axis job) (is_piece job) (is_end job) (reads job) (serves job) given asked input events

-- what is told of a whole run
abbrev pub ToldRun : {J : Type 0} → (J → Axis) → (J → Fault → Type 0) → (J → ℕ → ℕ → Type 0) → (J → Type 0) → (J → Type 0) → (J → Type 0) → (J → Type 0) → Result ℕ Fault → List IoEvent → Type 0
ToldRun {J} axis is_due is_end begun_reading begun_serving reads serves result events = (job : J) → begun_reading job → begun_serving job
    → DrainsAxis (axis job) (is_due job) (is_end job) (reads job) (serves job) events result

pub midst_begun : {J : Type 0} (axis : J → Axis) (is_piece : J → Piece → Type 0) (is_end : J → ℕ → ℕ → Type 0) (reads serves : J → Type 0) (given asked : ℕ) (did : List Action → Type 0) (before : Outside)
    → did [] → asked ≡ 0 → ReadsFor did (ToldMidst axis is_piece is_end reads serves reads serves given asked Reading) before before
midst_begun axis is_piece is_end reads serves given asked did before nothing none = record {
  reads = [];
  does = does-nothing before;
  are = tt;
  did_them = nothing;
  sought_them = λ job reading serving. record { asked_is = sym none; fits = tt; reading = reading; serving = serving };
}

asked_more : (axis : Axis) (events more : List IoEvent) (asked now : ℕ) → asked_up_to axis 0 events ≡ asked → asked_up_to axis asked more ≡ now → asked_up_to axis 0 (events ++ more) ≡ now
asked_more axis events more asked now was is = (counts_on axis 0 0 events more).0 ∙ ap (λ n. asked_up_to axis n more) was ∙ is

-- a piece was read, or the end, or none was to be read
pub midst_read : {J : Type 0} (axis : J → Axis) (is_piece : J → Piece → Type 0) (is_end : J → ℕ → ℕ → Type 0) (is_due : J → Fault → Type 0) (begun_reading begun_serving reads serves on : J → Type 0) (given now asked later : ℕ)
    (input held : Input) (did call more : List Action → Type 0) (before old new : Outside)
    → ReadsFor did (ToldMidst axis is_piece is_end begun_reading begun_serving reads serves given asked input) before old
    → ReadsFor call (λ events. (job : J) → reads job → asked_up_to (axis job) asked events ≡ later) old new
    → ((xs ys : List Action) → did xs → call ys → more (xs ++ ys))
    → ((job : J) → reads job → FitsInput (is_piece job) (is_end job) given asked input → GivesInput (is_piece job) (is_due job) (is_end job) (on job) now later (Ok held))
    → ReadsFor more (ToldMidst axis is_piece is_end begun_reading begun_serving on serves now later held) before new
midst_read {J} axis is_piece is_end is_due begun_reading begun_serving reads serves on given now asked later input held did call more before old new s r join gives =
    reads_more did call more (ToldMidst axis is_piece is_end begun_reading begun_serving reads serves given asked input) (λ events. (job : J) → reads job → asked_up_to (axis job) asked events ≡ later)
    (ToldMidst axis is_piece is_end begun_reading begun_serving on serves now later held) before old new s r join (λ xs ys told sought job reading serving.
    let m = told job reading serving in
    let g = gives job m.reading m.fits in record {
      asked_is = asked_more (axis job) xs ys asked later m.asked_is (sought job m.reading);
      fits = g.0;
      reading = g.1;
      serving = m.serving;
    })

pub read_failed : {J : Type 0} (axis : J → Axis) (is_piece : J → Piece → Type 0) (is_end : J → ℕ → ℕ → Type 0) (is_due : J → Fault → Type 0) (begun_reading begun_serving reads serves on later : J → Type 0) (given now asked asked_now : ℕ)
    (input : Input) (fault : Fault) (did call more : List Action → Type 0) (sought : List IoEvent → Type 0) (failed broke : Fault → Type 0) (ended : Type 0) (before old new : Outside)
    → ReadsFor did (ToldMidst axis is_piece is_end begun_reading begun_serving reads serves given asked input) before old
    → ReadsFor call sought old new
    → ((xs ys : List Action) → did xs → call ys → more (xs ++ ys))
    → ((job : J) → reads job → FitsInput (is_piece job) (is_end job) given asked input → GivesInput (is_piece job) (is_due job) (is_end job) (on job) now asked_now (Err fault))
    → failed fault → Drains more failed broke ended (ToldRun axis is_due is_end begun_reading begun_serving on later (Err fault)) before (Err fault) new
read_failed axis is_piece is_end is_due begun_reading begun_serving reads serves on later given now asked asked_now input fault did call more sought failed broke ended before old new s r join gives is =
    let all = reads_more did call more (ToldMidst axis is_piece is_end begun_reading begun_serving reads serves given asked input) sought (ToldRun axis is_due is_end begun_reading begun_serving on later (Err fault))
    before old new s r join (λ xs ys told then_ job reading serving. let m = told job reading serving in record {
      ends = tt;
      reads_on = tt;
      serves_on = tt;
      due = gives job m.reading m.fits;
    }) in record {
      reads = all;
      leaves = leaves_all_else all.reads before new all.are all.does;
      stops = inr (inl is);
      ends = tt;
    }

-- a piece was fed, or the line was let go on
pub midst_served : {J : Type 0} (axis : J → Axis) (is_piece : J → Piece → Type 0) (is_end : J → ℕ → ℕ → Type 0) (begun_reading begun_serving reads serves later : J → Type 0) (given asked : ℕ) (input held : Input)
    (did : List Action → Type 0) (before now : Outside) → ReadsFor did (ToldMidst axis is_piece is_end begun_reading begun_serving reads serves given asked input) before now
    → ((job : J) → serves job → FitsInput (is_piece job) (is_end job) given asked input → later job × FitsInput (is_piece job) (is_end job) given asked held)
    → ReadsFor did (ToldMidst axis is_piece is_end begun_reading begun_serving reads later given asked held) before now
midst_served axis is_piece is_end begun_reading begun_serving reads serves later given asked input held did before now s on =
    told_more did (ToldMidst axis is_piece is_end begun_reading begun_serving reads serves given asked input) (ToldMidst axis is_piece is_end begun_reading begun_serving reads later given asked held) before now s
    (λ events told job reading serving. let m = told job reading serving in let g = on job m.serving m.fits in record {
      asked_is = m.asked_is;
      fits = g.1;
      reading = m.reading;
      serving = g.0;
    })

pub step_failed : {J : Type 0} (axis : J → Axis) (is_piece : J → Piece → Type 0) (is_end : J → ℕ → ℕ → Type 0) (is_due : J → Fault → Type 0) (begun_reading begun_serving reads serves on later : J → Type 0) (given asked : ℕ)
    (input : Input) (fault : Fault) (did : List Action → Type 0) (failed broke : Fault → Type 0) (ended : Type 0) (before now : Outside)
    → ReadsFor did (ToldMidst axis is_piece is_end begun_reading begun_serving reads serves given asked input) before now → ((job : J) → serves job → IsDue (is_due job) fault) → broke fault
    → Drains did failed broke ended (ToldRun axis is_due is_end begun_reading begun_serving on later (Err fault)) before (Err fault) now
step_failed axis is_piece is_end is_due begun_reading begun_serving reads serves on later given asked input fault did failed broke ended before now s due is = record {
  reads = told_more did (ToldMidst axis is_piece is_end begun_reading begun_serving reads serves given asked input) (ToldRun axis is_due is_end begun_reading begun_serving on later (Err fault)) before now s
      (λ events told job reading serving. let m = told job reading serving in record { ends = tt; reads_on = tt; serves_on = tt; due = due job m.serving });
  leaves = leaves_all_else s.reads before now s.are s.does;
  stops = inr (inr is);
  ends = tt;
}

ended_stop : (given : ℕ) (input : Input) (result : Result ℕ Fault) (failed broke : Fault → Type 0) → EndsInput given input result → IfErr result (StopsReadsFor failed broke)
ended_stop given input (Ok n) failed broke ends = tt
ended_stop given input (Err faults.OutOfMemory) failed broke ends = inl refl
ended_stop given input (Err fault) failed broke ends = absurd ends

ended_due : (due : Fault → Type 0) (given : ℕ) (input : Input) (result : Result ℕ Fault) → EndsInput given input result → IfErr result (IsDue due)
ended_due due given input (Ok n) ends = tt
ended_due due given input (Err faults.OutOfMemory) ends = tt
ended_due due given input (Err fault) ends = absurd ends

ended_at : (axis : Axis) (is_piece : Piece → Type 0) (is_end : ℕ → ℕ → Type 0) (given asked : ℕ) (input : Input) (events : List IoEvent) (result : Result ℕ Fault) → asked_up_to axis 0 events ≡ asked
    → FitsInput is_piece is_end given asked input → EndsInput given input result → IfOk result (λ n. is_end n (asked_up_to axis 0 events))
ended_at axis is_piece is_end given asked Reading events (Ok n) is fits ends = absurd ends.1
ended_at axis is_piece is_end given asked (Holding piece) events (Ok n) is fits ends = absurd ends.1
ended_at axis is_piece is_end given asked Ended events (Ok n) is fits ends = subst (λ (at : ℕ). is_end at (asked_up_to axis 0 events)) (sym ends.0) (subst (λ (m : ℕ). is_end given m) (sym is) fits)
ended_at axis is_piece is_end given asked input events (Err fault) is fits ends = tt

-- the run has ended
pub run_ended : {J : Type 0} (axis : J → Axis) (is_piece : J → Piece → Type 0) (is_end : J → ℕ → ℕ → Type 0) (is_due : J → Fault → Type 0) (begun_reading begun_serving reads serves : J → Type 0) (given asked : ℕ)
    (input : Input) (result : Result ℕ Fault) (did : List Action → Type 0) (failed broke : Fault → Type 0) (ended : Type 0) (before now : Outside)
    → ReadsFor did (ToldMidst axis is_piece is_end begun_reading begun_serving reads serves given asked input) before now → EndsInput given input result → (HasEnded input → ended)
    → Drains did failed broke ended (ToldRun axis is_due is_end begun_reading begun_serving reads serves result) before result now
run_ended axis is_piece is_end is_due begun_reading begun_serving reads serves given asked input result did failed broke ended before now s ends at_end = record {
  reads = told_more did (ToldMidst axis is_piece is_end begun_reading begun_serving reads serves given asked input) (ToldRun axis is_due is_end begun_reading begun_serving reads serves result) before now s
      (λ events told job reading serving. let m = told job reading serving in record {
        ends = ended_at (axis job) (is_piece job) (is_end job) given asked input events result m.asked_is m.fits ends;
        reads_on = when_ok result (reads job) m.reading;
        serves_on = when_ok result (serves job) m.serving;
        due = ended_due (is_due job) given input result ends;
      });
  leaves = leaves_all_else s.reads before now s.are s.does;
  stops = ended_stop given input result failed broke ends;
  ends = ended_well given input result ended ends at_end;
}
  where
    ended_well : (given : ℕ) (input : Input) (result : Result ℕ Fault) (ended : Type 0) → EndsInput given input result → (HasEnded input → ended) → OnOk result ended
    ended_well given input (Ok n) ended ends at_end = at_end ends.1
    ended_well given input (Err fault) ended ends at_end = tt

    when_ok : (result : Result ℕ Fault) (P : Type 0) → P → OnOk result P
    when_ok (Ok n) P holds = holds
    when_ok (Err fault) P holds = tt

-- the rows that were seen are those of a piece of the input, if what is held now is one
pub rows_seen : (is_piece : Piece → Type 0) (is_end : ℕ → ℕ → Type 0) (given asked : ℕ) (input : Input) (before held after : ℕ) → IsRowsEnd is_piece before → (held ≡ 0) ⊎ HoldsRowsTo input held → (after ≡ before) ⊎ (after ≡ held)
    → FitsInput is_piece is_end given asked input → IsRowsEnd is_piece after
rows_seen is_piece is_end given asked input before held after was holds (inl same) fits = subst (IsRowsEnd is_piece) (sym same) was
rows_seen is_piece is_end given asked input before held after was (inl none) (inr same) fits = inl (same ∙ none)
rows_seen is_piece is_end given asked Reading before held after was (inr holds) (inr same) fits = absurd holds
rows_seen is_piece is_end given asked (Holding piece) before held after was (inr holds) (inr same) fits = inr (piece, fits, same ∙ holds)
rows_seen is_piece is_end given asked Ended before held after was (inr holds) (inr same) fits = absurd holds

-- so many for each of some rows, and of those up to more
pub rows_times : (per_row before after : ℕ) → before ≤ after → per_row * after ≡ per_row * before + per_row * (after - before)
rows_times per_row before after within = ap (λ n. per_row * n) (let same : after ≡ before + (after - before) = omega (arith, within) in same) ∙ mul-add per_row before (after - before)
