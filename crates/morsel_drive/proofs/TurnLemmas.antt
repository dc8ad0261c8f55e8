-- What the caller's loop keeps, turn by turn. `J` are the jobs that a line may be for, and what is told of a run is told for each job.
use Rattle.std.specs.Prelude.{◌≡◌, ℕ, ◌+◌, ◌-◌, ◌<◌, OnOk, IfErr, Result, Ok, Err, List, [], ◌∷◌, ◌++◌, take}
use Rattle.std.proofs.Common.{refl, ap, sym, subst, ◌∙◌, append-nil, append_assoc, arith, inl, inr}
use Rattle.std.specs.List.{flat_map, sum_by}
use Rattle.std.proofs.lemmas.List.Concat.{flat_map-append}
use Rattle.std.proofs.lemmas.List.Sums.{sum_by-append}
use Rattle.morsel_meaning.specs.declared.fault.Fault.{Fault}
use Rattle.morsel_meaning.specs.declared.fault.Fault.TheVariants as faults
use Rattle.morsel_outside.specs.declared.events.IoEvent.{IoEvent}
use Rattle.morsel_outside.specs.Outside.{Outside}
use Rattle.morsel_outside.specs.Actions.{Action, ReadingRange, FailedReadingRange, Writing, FailedWriting, Does, event_of, write_failures}
use Rattle.morsel_outside.proofs.ActionLemmas.{does-append}
use Rattle.morsel_outside.proofs.DoesLemmas.{does-nothing}
use Rattle.morsel_pipe.specs.Pieces.{Piece, Part}
use Rattle.morsel_scan.specs.Ahead.{Axis, EndsEachRow, IsWrittenTo, Seeks, ReadsAhead, asked_up_to, written_up_to}
use Rattle.morsel_scan.proofs.AheadLemmas.{seeks_in_time, counts_on}
use Rattle.morsel_drive.specs.Lines.{Each, IsReading, IsSoundAxis, SuitsPart, IsDue, ReadsFor}
use Rattle.morsel_drive.specs.Driving.{IsWriting, Transfers, KeepsText, Stops, KeepsOrStops, WritesPart, WritesOn, IsWriteStop, FitsInput, GivesInput, ReadsInTime, HasEnded, EndsWith, StopsFor, DrivesAxis, Drives}
use Rattle.morsel_drive.specs.declared.written.Written.{Written}
use Rattle.morsel_drive.specs.declared.caller.Input.{Input}
use Rattle.morsel_drive.specs.declared.caller.Input.TheVariants.{Reading}
use Rattle.morsel_drive.proofs.TransferLemmas.{each-append, writings_ask_nothing, transfers-nothing, transfers-read, transfers-written, failures_among}
use Rattle.morsel_drive.proofs.KeepLemmas.{keeps-part, keeps-stops, stops-part, keeps-nothing, keeps-read, written_to, writes_all}

-- reads that are made in need are in time
pub in_need : (axis : Axis) (bound chunk given next asked : ℕ) (events : List IoEvent) → EndsEachRow axis → given - next < bound → Seeks axis chunk given asked events
    → (written : ℕ) → IsWrittenTo axis next written → ReadsAhead axis (bound + axis.longest) chunk asked written events
in_need axis bound chunk given next asked events ends few seeks written is = seeks_in_time axis bound chunk given next asked written events ends few is seeks

-- what is told of writes: the line serves on, and the text is kept
abbrev pub ToldWrites : {J : Type 0} → (J → Axis) → (J → Type 0) → (J → Type 0) → Written → Written → List Action → Type 0
ToldWrites {J} axis first serves was now writes = (job : J) → first job → IsSoundAxis (axis job)
    → serves job × ((w chunk : ℕ) (before : List Action) → KeepsText (axis job) w chunk before was → KeepsText (axis job) w chunk (before ++ writes) now)

-- the same of writes that may have stopped
abbrev pub ToldStop : {J T : Type 0} → (J → Axis) → (J → Type 0) → (J → Type 0) → Written → Result T Fault → Written → List Action → Type 0
ToldStop {J} axis first serves was result now writes = (job : J) → first job → IsSoundAxis (axis job)
    → OnOk result (serves job) × ((w chunk : ℕ) (before : List Action) → KeepsText (axis job) w chunk before was → KeepsOrStops (axis job) w chunk (before ++ writes) result now)

pub wrote_nothing : {J : Type 0} (axis : J → Axis) (serves : J → Type 0) (written : Written) (old : Outside)
    → WritesOn {T = Unit {0}} (ToldWrites axis serves serves written written) old (Ok tt) old
wrote_nothing axis serves written old = record {
  writes = [];
  does = does-nothing old;
  are = tt;
  stops = tt;
  fine = refl;
  told_them = λ job serving sound. (serving, λ w chunk before k. subst (λ actions. KeepsText (axis job) w chunk actions written) (sym (append-nil before)) k);
}

pub wrote_more : {J : Type 0} (axis : J → Axis) (first serves later : J → Type 0) (fn was now : Written) (old mid new : Outside) (part : Part)
    → WritesOn {T = Unit {0}} (ToldWrites axis first serves fn was) old (Ok tt) mid → ((job : J) → serves job → later job) → ((job : J) → serves job → SuitsPart (axis job) part)
    → WritesPart mid part was (Ok (tt {0})) new now → WritesOn {T = Unit {0}} (ToldWrites axis first later fn now) old (Ok tt) new
wrote_more axis first serves later fn was now old mid new part s on suits (begins, behind, after, does) = record {
  writes = s.writes ++ (Writing part.bytes ∷ []);
  does = does-append old mid new s.writes (Writing part.bytes ∷ []) s.does does;
  are = each-append IsWriting s.writes (Writing part.bytes ∷ []) s.are (tt, tt);
  stops = tt;
  fine = sum_by-append write_failures s.writes (Writing part.bytes ∷ []) ∙ ap (λ n. n + 0) s.fine;
  told_them = λ job serving sound. let h = s.told_them job serving sound in (
    on job h.0,
    λ w chunk before k. subst (λ actions. KeepsText (axis job) w chunk actions now) (append_assoc before s.writes (Writing part.bytes ∷ []))
        (keeps-part (axis job) w chunk (before ++ s.writes) was part now sound (h.1 w chunk before k) (suits job h.0) begins behind after),
  );
}

pub wrote_all : {J T : Type 0} (axis : J → Axis) (first serves later : J → Type 0) (fn was : Written) (old mid : Outside) (done : T)
    → WritesOn {T = Unit {0}} (ToldWrites axis first serves fn was) old (Ok tt) mid → ((job : J) → serves job → later job)
    → WritesOn (ToldStop axis first later fn (Ok done) was) old (Ok done) mid
wrote_all axis first serves later fn was old mid done s on = record {
  writes = s.writes;
  does = s.does;
  are = s.are;
  stops = tt;
  fine = s.fine;
  told_them = λ job serving sound. let h = s.told_them job serving sound in (on job h.0, λ w chunk before k. h.1 w chunk before k);
}

pub write_stopped : {J T : Type 0} (axis : J → Axis) (first serves later : J → Type 0) (fn was now : Written) (old mid new : Outside) (part : Part) (fault : Fault)
    → WritesOn {T = Unit {0}} (ToldWrites axis first serves fn was) old (Ok tt) mid → ((job : J) → serves job → SuitsPart (axis job) part)
    → WritesPart mid part was (Err fault) new now → WritesOn {T = T} (ToldStop {T = T} axis first later fn (Err fault) now) old (Err fault) new
write_stopped axis first serves later fn was now old mid new part faults.OutOfMemory s suits same = record {
  writes = s.writes;
  does = subst (λ o. Does old s.writes o) (sym same) s.does;
  are = s.are;
  stops = tt;
  fine = tt;
  told_them = λ job serving sound. let h = s.told_them job serving sound in
      (tt, λ w chunk before k. keeps-stops (axis job) w chunk (before ++ s.writes) was sound (h.1 w chunk before k));
}
write_stopped axis first serves later fn was now old mid new part faults.WriteFault s suits (begins, behind, taken, within, does) = record {
  writes = s.writes ++ (FailedWriting (take taken part.bytes) ∷ []);
  does = does-append old mid new s.writes (FailedWriting (take taken part.bytes) ∷ []) s.does does;
  are = each-append IsWriting s.writes (FailedWriting (take taken part.bytes) ∷ []) s.are (tt, tt);
  stops = failures_among s.writes (FailedWriting (take taken part.bytes) ∷ []) (omega arith);
  fine = tt;
  told_them = λ job serving sound. let h = s.told_them job serving sound in (
    tt,
    λ w chunk before k. subst (λ actions. Stops (axis job) w chunk actions) (append_assoc before s.writes (FailedWriting (take taken part.bytes) ∷ []))
        (stops-part (axis job) w chunk (before ++ s.writes) was part taken sound (h.1 w chunk before k) (suits job h.0) begins behind),
  );
}
write_stopped axis first serves later fn was now old mid new part fault s suits h = absurd h

-- what was done so far, that no write failed, and what is told of it
pub record Stands (did : List Action → Type 0) (told : List Action → Type 0) (before now : Outside) : Type 0 where
  pub actions : List Action
  pub transfers : Transfers did before actions now
  pub fine : sum_by write_failures actions ≡ 0
  pub told_them : told actions

-- in the midst of a run the text is kept, so many bytes were asked, and what is held is of the input
pub record InMidst (axis : Axis) (is_piece : Piece → Type 0) (is_end : ℕ → ℕ → Type 0) (reads serves : Type 0) (w chunk given asked : ℕ) (input : Input) (written : Written) (actions : List Action) : Type 0 where
  pub keeps : KeepsText axis w chunk actions written
  pub asked_is : asked_up_to axis 0 (flat_map event_of actions) ≡ asked
  pub fits : FitsInput is_piece is_end given asked input
  pub reading : reads
  pub serving : serves

-- so it is for each job that the reader reads and the line serves
abbrev pub ToldMidst : {J : Type 0} → (J → Axis) → (J → Piece → Type 0) → (J → ℕ → ℕ → Type 0) → (J → Type 0) → (J → Type 0) → (J → Type 0) → (J → Type 0) → ℕ → ℕ → ℕ → ℕ → Input → Written
    → List Action → Type 0
ToldMidst {J} axis is_piece is_end begun_reading begun_serving reads serves bound chunk given asked input written actions = (job : J)
    → begun_reading job → begun_serving job → IsSoundAxis (axis job)
    → InMidst (axis job) (is_piece job) (is_end job) (reads job) (serves job) (bound + (axis job).longest) chunk given asked input written actions

-- what is told of a whole run
abbrev pub ToldRun : {J : Type 0} → (J → Axis) → (J → Fault → Type 0) → (J → ℕ → ℕ → Type 0) → ℕ → (J → Type 0) → (J → Type 0) → (J → Type 0) → ℕ → ℕ → Result ℕ Fault → List Action → Type 0
ToldRun {J} axis is_due is_end given on begun_reading begun_serving bound chunk result actions = (job : J)
    → begun_reading job → begun_serving job → IsSoundAxis (axis job)
    → DrivesAxis (axis job) (is_due job) (is_end job) given (on job) (bound + (axis job).longest) chunk actions result

pub stands_begun : {J : Type 0} (axis : J → Axis) (is_piece : J → Piece → Type 0) (is_end : J → ℕ → ℕ → Type 0) (reads serves : J → Type 0) (bound chunk given asked : ℕ) (written : Written) (did : List Action → Type 0) (before : Outside)
    → did [] → asked ≡ 0 → written.next ≡ 0 → written.begun ≡ 0 → written.rows ≡ 0
    → Stands did (ToldMidst axis is_piece is_end reads serves reads serves bound chunk given asked Reading written) before before
stands_begun axis is_piece is_end reads serves bound chunk given asked written did before nothing none next begun rows = record {
  actions = [];
  transfers = transfers-nothing did before nothing;
  fine = refl;
  told_them = λ job reading serving sound. record {
    keeps = keeps-nothing (axis job) (bound + (axis job).longest) chunk written sound next begun rows;
    asked_is = sym none;
    fits = tt;
    reading = reading;
    serving = serving;
  };
}

asked_more : (axis : Axis) (actions more : List Action) (asked now : ℕ) → asked_up_to axis 0 (flat_map event_of actions) ≡ asked
    → asked_up_to axis asked (flat_map event_of more) ≡ now → asked_up_to axis 0 (flat_map event_of (actions ++ more)) ≡ now
asked_more axis actions more asked now was is =
    ap (asked_up_to axis 0) (flat_map-append event_of actions more) ∙ (counts_on axis 0 0 (flat_map event_of actions) (flat_map event_of more)).0
    ∙ ap (λ n. asked_up_to axis n (flat_map event_of more)) was ∙ is

-- the text after reads, whether they went well or not
kept_read : (axis : Axis) (is_piece : Piece → Type 0) (is_end : ℕ → ℕ → Type 0) (reads serves : Type 0) (bound chunk given asked : ℕ) (input : Input) (written : Written) (actions more : List Action) → IsSoundAxis axis
    → InMidst axis is_piece is_end reads serves (bound + axis.longest) chunk given asked input written actions → Each IsReading more
    → ((there : ℕ) → IsWrittenTo axis written.next there → ReadsAhead axis (bound + axis.longest) chunk asked there (flat_map event_of more))
    → KeepsText axis (bound + axis.longest) chunk (actions ++ more) written
kept_read axis is_piece is_end reads serves bound chunk given asked input written actions more sound m are in_time =
    keeps-read axis (bound + axis.longest) chunk actions more written m.keeps are
    (subst (λ n. ReadsAhead axis (bound + axis.longest) chunk n (written_up_to axis.head (flat_map event_of actions)) (flat_map event_of more)) (sym m.asked_is)
    (in_time (written_up_to axis.head (flat_map event_of actions)) (written_to axis (bound + axis.longest) chunk actions written sound m.keeps)))

-- reads fail no write
no_failures : (reads : List Action) → Each IsReading reads → sum_by write_failures reads ≡ 0
no_failures [] are = refl
no_failures (ReadingRange file at len ∷ reads) are = no_failures reads are.1
no_failures (FailedReadingRange file at len ∷ reads) are = no_failures reads are.1
no_failures (Writing piece ∷ reads) are = absurd are.0
no_failures (FailedWriting piece ∷ reads) are = absurd are.0
no_failures (action ∷ reads) are = absurd are.0

pub stands_read : {J : Type 0} (axis : J → Axis) (is_piece : J → Piece → Type 0) (is_end : J → ℕ → ℕ → Type 0) (is_due : J → Fault → Type 0) (begun_reading begun_serving reads serves on : J → Type 0) (bound chunk here given now asked later : ℕ)
    (input held : Input) (written : Written) (did call more : List Action → Type 0) (before old new : Outside) → here ≡ chunk
    → Stands did (ToldMidst axis is_piece is_end begun_reading begun_serving reads serves bound chunk given asked input written) before old
    → ReadsFor call (λ events. (job : J) → reads job → EndsEachRow (axis job) → ReadsInTime (axis job) (bound + (axis job).longest) here asked written.next (Ok held) later events) old new
    → ((xs ys : List Action) → did xs → call ys → more (xs ++ ys))
    → ((job : J) → reads job → FitsInput (is_piece job) (is_end job) given asked input → GivesInput (is_piece job) (is_due job) (is_end job) (on job) now later (Ok held))
    → Stands more (ToldMidst axis is_piece is_end begun_reading begun_serving on serves bound chunk now later held written) before new
stands_read axis is_piece is_end is_due begun_reading begun_serving reads serves on bound chunk here given now asked later input held written did call more before old new same s r join gives = record {
  actions = s.actions ++ r.reads;
  transfers = transfers-read did more before old new s.actions r.reads s.transfers r.does r.are (λ xs h. join xs r.reads h r.did_them);
  fine = (let all = sum_by-append write_failures s.actions r.reads in let first = s.fine in let later = no_failures r.reads r.are in omega (arith, all, first, later));
  told_them = λ job reading serving sound.
      let m = s.told_them job reading serving sound in
      let t = r.sought_them job m.reading sound.ends in
      let g = gives job m.reading m.fits in record {
        keeps = kept_read (axis job) (is_piece job) (is_end job) (reads job) (serves job) bound chunk given asked input written s.actions r.reads sound m r.are
            (λ there is. subst (λ n. ReadsAhead (axis job) (bound + (axis job).longest) n asked there (flat_map event_of r.reads)) same (t.0 there is));
        asked_is = asked_more (axis job) s.actions r.reads asked later m.asked_is t.1;
        fits = g.0;
        reading = g.1;
        serving = m.serving;
      };
}

pub read_failed : {J : Type 0} (axis : J → Axis) (is_piece : J → Piece → Type 0) (is_end : J → ℕ → ℕ → Type 0) (is_due : J → Fault → Type 0) (begun_reading begun_serving reads serves on : J → Type 0) (bound chunk here given now asked later : ℕ)
    (input : Input) (fault : Fault) (written : Written) (did call more : List Action → Type 0) (failed broke : Fault → Type 0) (ended : Type 0) (before old new : Outside) → here ≡ chunk
    → Stands did (ToldMidst axis is_piece is_end begun_reading begun_serving reads serves bound chunk given asked input written) before old
    → ReadsFor call (λ events. (job : J) → reads job → EndsEachRow (axis job) → ReadsInTime (axis job) (bound + (axis job).longest) here asked written.next (Err fault) later events) old new
    → ((xs ys : List Action) → did xs → call ys → more (xs ++ ys))
    → ((job : J) → reads job → FitsInput (is_piece job) (is_end job) given asked input → GivesInput (is_piece job) (is_due job) (is_end job) (on job) now later (Err fault))
    → failed fault → Drives more failed broke ended (ToldRun axis is_due is_end now on begun_reading begun_serving bound chunk (Err fault)) before (Err fault) new
read_failed axis is_piece is_end is_due begun_reading begun_serving reads serves on bound chunk here given now asked later input fault written did call more failed broke ended before old new same s r join gives is = record {
  actions = s.actions ++ r.reads;
  transfers = transfers-read did more before old new s.actions r.reads s.transfers r.does r.are (λ xs h. join xs r.reads h r.did_them);
  stops = inr (inl is);
  ends = tt;
  fine = tt;
  told_them = λ job reading serving sound.
      let m = s.told_them job reading serving sound in
      let t = r.sought_them job m.reading sound.ends in record {
        writes = tt;
        reads_on = tt;
        due = gives job m.reading m.fits;
        front = keeps-stops (axis job) (bound + (axis job).longest) chunk (s.actions ++ r.reads) written sound
            (kept_read (axis job) (is_piece job) (is_end job) (reads job) (serves job) bound chunk given asked input written s.actions r.reads sound m r.are
            (λ there is. subst (λ n. ReadsAhead (axis job) (bound + (axis job).longest) n asked there (flat_map event_of r.reads)) same (t.0 there is)));
      };
}

-- a piece was fed, or the line was let go on
pub stands_served : {J : Type 0} (axis : J → Axis) (is_piece : J → Piece → Type 0) (is_end : J → ℕ → ℕ → Type 0) (begun_reading begun_serving reads serves later : J → Type 0) (bound chunk given asked : ℕ) (input held : Input) (written : Written)
    (did : List Action → Type 0) (before now : Outside) → Stands did (ToldMidst axis is_piece is_end begun_reading begun_serving reads serves bound chunk given asked input written) before now
    → ((job : J) → serves job → FitsInput (is_piece job) (is_end job) given asked input → later job × FitsInput (is_piece job) (is_end job) given asked held)
    → Stands did (ToldMidst axis is_piece is_end begun_reading begun_serving reads later bound chunk given asked held written) before now
stands_served axis is_piece is_end begun_reading begun_serving reads serves later bound chunk given asked input held written did before now s on = record {
  actions = s.actions;
  transfers = s.transfers;
  fine = s.fine;
  told_them = λ job reading serving sound. let m = s.told_them job reading serving sound in let g = on job m.serving m.fits in record {
    keeps = m.keeps;
    asked_is = m.asked_is;
    fits = g.1;
    reading = m.reading;
    serving = g.0;
  };
}

pub step_failed : {J : Type 0} (axis : J → Axis) (is_piece : J → Piece → Type 0) (is_end : J → ℕ → ℕ → Type 0) (is_due : J → Fault → Type 0) (begun_reading begun_serving reads serves on : J → Type 0) (bound chunk given asked : ℕ) (input : Input)
    (fault : Fault) (written : Written) (did : List Action → Type 0) (failed broke : Fault → Type 0) (ended : Type 0) (before now : Outside)
    → Stands did (ToldMidst axis is_piece is_end begun_reading begun_serving reads serves bound chunk given asked input written) before now
    → ((job : J) → serves job → IsDue (is_due job) fault) → broke fault
    → Drives did failed broke ended (ToldRun axis is_due is_end given on begun_reading begun_serving bound chunk (Err fault)) before (Err fault) now
step_failed axis is_piece is_end is_due begun_reading begun_serving reads serves on bound chunk given asked input fault written did failed broke ended before now s due is = record {
  actions = s.actions;
  transfers = s.transfers;
  stops = inr (inr is);
  ends = tt;
  fine = tt;
  told_them = λ job reading serving sound. let m = s.told_them job reading serving sound in record {
    writes = tt;
    reads_on = tt;
    due = due job m.serving;
    front = keeps-stops (axis job) (bound + (axis job).longest) chunk s.actions written sound m.keeps;
  };
}

-- what wrote on, or stopped, adds to what was done
pub stands_written : {J T : Type 0} (axis : J → Axis) (is_piece : J → Piece → Type 0) (is_end : J → ℕ → ℕ → Type 0) (begun_reading begun_serving reads on serves later : J → Type 0) (bound chunk given asked : ℕ) (input : Input) (was now : Written)
    (did : List Action → Type 0) (before old new : Outside) (done : T)
    → Stands did (ToldMidst axis is_piece is_end begun_reading begun_serving reads serves bound chunk given asked input was) before old
    → WritesOn (ToldStop axis serves later was (Ok done) now) old (Ok done) new → ((job : J) → reads job → on job)
    → Stands did (ToldMidst axis is_piece is_end begun_reading begun_serving on later bound chunk given asked input now) before new
stands_written axis is_piece is_end begun_reading begun_serving reads on serves later bound chunk given asked input was now did before old new done s w go = record {
  actions = s.actions ++ w.writes;
  transfers = transfers-written did before old new s.actions w.writes s.transfers w.does w.are;
  fine = (let all = sum_by-append write_failures s.actions w.writes in let first = s.fine in let later : sum_by write_failures w.writes ≡ 0 = w.fine in omega (arith, all, first, later));
  told_them = λ job reading serving sound.
      let m = s.told_them job reading serving sound in let h = w.told_them job m.serving sound in record {
        keeps = h.1 (bound + (axis job).longest) chunk s.actions m.keeps;
        asked_is = asked_more (axis job) s.actions w.writes asked asked m.asked_is (writings_ask_nothing (axis job) asked w.writes w.are);
        fits = m.fits;
        reading = go job m.reading;
        serving = h.0;
      };
}

write_due : (due : Fault → Type 0) (writes : List Action) (fault : Fault) → IsWriteStop writes fault → IsDue due fault
write_due due writes faults.OutOfMemory h = tt
write_due due writes faults.WriteFault h = tt
write_due due writes fault h = absurd h

stop_among : (actions writes : List Action) (fault : Fault) → IsWriteStop writes fault → IsWriteStop (actions ++ writes) fault
stop_among actions writes faults.OutOfMemory h = tt
stop_among actions writes faults.WriteFault h = failures_among actions writes h
stop_among actions writes fault h = absurd h

pub write_failed : {J T : Type 0} (axis : J → Axis) (is_piece : J → Piece → Type 0) (is_end : J → ℕ → ℕ → Type 0) (is_due : J → Fault → Type 0) (begun_reading begun_serving reads serves later on : J → Type 0) (bound chunk given asked : ℕ)
    (input : Input) (fault : Fault) (was now : Written) (did : List Action → Type 0) (failed broke : Fault → Type 0) (ended : Type 0) (before old new : Outside)
    → Stands did (ToldMidst axis is_piece is_end begun_reading begun_serving reads serves bound chunk given asked input was) before old
    → WritesOn {T = T} (ToldStop {T = T} axis serves later was (Err fault) now) old (Err fault) new
    → Drives did failed broke ended (ToldRun axis is_due is_end given on begun_reading begun_serving bound chunk (Err fault)) before (Err fault) new
write_failed axis is_piece is_end is_due begun_reading begun_serving reads serves later on bound chunk given asked input fault was now did failed broke ended before old new s w = record {
  actions = s.actions ++ w.writes;
  transfers = transfers-written did before old new s.actions w.writes s.transfers w.does w.are;
  stops = inl (stop_among s.actions w.writes fault w.stops);
  ends = tt;
  fine = tt;
  told_them = λ job reading serving sound.
      let m = s.told_them job reading serving sound in let h = w.told_them job m.serving sound in record {
        writes = tt;
        reads_on = tt;
        due = write_due (is_due job) w.writes fault w.stops;
        front = h.1 (bound + (axis job).longest) chunk s.actions m.keeps;
      };
}

ended_stop : (given : ℕ) (input : Input) (written : Written) (result : Result ℕ Fault) (failed broke : Fault → Type 0) (actions : List Action) → EndsWith given input written result
    → IfErr result (StopsFor failed broke actions)
ended_stop given input written (Ok n) failed broke actions ends = tt
ended_stop given input written (Err faults.OutOfMemory) failed broke actions ends = inl tt
ended_stop given input written (Err fault) failed broke actions ends = absurd ends

ended_due : (due : Fault → Type 0) (given : ℕ) (input : Input) (written : Written) (result : Result ℕ Fault) → EndsWith given input written result → IfErr result (IsDue due)
ended_due due given input written (Ok n) ends = tt
ended_due due given input written (Err faults.OutOfMemory) ends = tt
ended_due due given input written (Err fault) ends = absurd ends

-- the run has ended
pub run_ended : {J : Type 0} (axis : J → Axis) (is_piece : J → Piece → Type 0) (is_end : J → ℕ → ℕ → Type 0) (is_due : J → Fault → Type 0) (begun_reading begun_serving reads serves : J → Type 0) (bound chunk given asked : ℕ)
    (input : Input) (written : Written) (result : Result ℕ Fault) (did : List Action → Type 0) (failed broke : Fault → Type 0) (ended : Type 0) (before now : Outside)
    → Stands did (ToldMidst axis is_piece is_end begun_reading begun_serving reads serves bound chunk given asked input written) before now → EndsWith given input written result → (HasEnded input → ended)
    → Drives did failed broke ended (ToldRun axis is_due is_end given reads begun_reading begun_serving bound chunk result) before result now
run_ended axis is_piece is_end is_due begun_reading begun_serving reads serves bound chunk given asked input written result did failed broke ended before now s ends at_end = record {
  actions = s.actions;
  transfers = s.transfers;
  stops = ended_stop given input written result failed broke s.actions ends;
  ends = ended_well given input written result ended ends at_end;
  fine = when_ok result (sum_by write_failures s.actions ≡ 0) s.fine;
  told_them = λ job reading serving sound. let m = s.told_them job reading serving sound in record {
    writes = writes_all (axis job) (is_piece job) (is_end job) (bound + (axis job).longest) chunk s.actions given asked input written result m.keeps m.asked_is m.fits ends;
    reads_on = when_ok result (reads job) m.reading;
    due = ended_due (is_due job) given input written result ends;
    front = keeps-stops (axis job) (bound + (axis job).longest) chunk s.actions written sound m.keeps;
  };
}
  where
    ended_well : (given : ℕ) (input : Input) (written : Written) (result : Result ℕ Fault) (ended : Type 0) → EndsWith given input written result → (HasEnded input → ended) → OnOk result ended
    ended_well given input written (Ok n) ended ends at_end = at_end ends.3
    ended_well given input written (Err fault) ended ends at_end = tt

    when_ok : (result : Result ℕ Fault) (P : Type 0) → P → OnOk result P
    when_ok (Ok n) P holds = holds
    when_ok (Err fault) P holds = tt
