-- What the loop keeps of a line that is fed nothing, turn by turn. `J` are the jobs that a line may be for, and what is told of a run is told for each job.
use Rattle.std.specs.Prelude.{◌≡◌, ℕ, OnOk, IfErr, Result, Ok, Err, List, [], ◌++◌}
use Rattle.std.proofs.Common.{refl, arith, inl, inr}
use Rattle.std.specs.List.{sum_by}
use Rattle.std.proofs.lemmas.List.Sums.{sum_by-append}
use Rattle.morsel_meaning.specs.declared.fault.Fault.{Fault}
use Rattle.morsel_meaning.specs.declared.fault.Fault.TheVariants as faults
use Rattle.morsel_outside.specs.Outside.{Outside}
use Rattle.morsel_outside.specs.Actions.{Action, write_failures}
use Rattle.morsel_outside.proofs.ActionLemmas.{does-append}
use Rattle.morsel_outside.proofs.DoesLemmas.{does-nothing}
use Rattle.morsel_scan.specs.Ahead.{Axis}
use Rattle.morsel_drive.specs.Lines.{IsSoundAxis, IsDue}
use Rattle.morsel_drive.specs.Driving.{IsWriting, KeepsText, WritesOn, IsWriteStop, EndsWith}
use Rattle.morsel_drive.specs.declared.written.Written.{Written}
use Rattle.morsel_drive.specs.declared.caller.Input.TheVariants.{Ended}
use Rattle.morsel_drive.proofs.TransferLemmas.{each-append, writings_ask_nothing, failures_among}
use Rattle.morsel_drive.proofs.KeepLemmas.{keeps-nothing, keeps-stops, writes_all}
use Rattle.morsel_drive.proofs.TurnLemmas.{ToldStop}
use Rattle.morsel_drain.specs.Pouring.{IsOnePlace, StopsWritesFor, PoursAxis, Pours}

-- what is told of the writes so far: the line serves on, and the text is kept
abbrev pub ToldText : {J : Type 0} → (J → Axis) → (J → Type 0) → (J → Type 0) → Written → List Action → Type 0
ToldText {J} axis begun serves written writes = (job : J) → begun job → IsSoundAxis (axis job) → serves job × ((w chunk : ℕ) → KeepsText (axis job) w chunk writes written)

-- what is told of a whole run
abbrev pub ToldRun : {J : Type 0} → (J → Axis) → (J → Fault → Type 0) → (J → Type 0) → Result ℕ Fault → List Action → Type 0
ToldRun {J} axis is_due begun result actions = (job : J) → begun job → IsSoundAxis (axis job) → PoursAxis (axis job) (is_due job) actions result

pub text_begun : {J : Type 0} (axis : J → Axis) (begun serves : J → Type 0) (written : Written) (before : Outside) → ((job : J) → begun job → serves job)
    → written.next ≡ 0 → written.begun ≡ 0 → written.rows ≡ 0 → WritesOn {T = Unit {0}} (ToldText axis begun serves written) before (Ok tt) before
text_begun axis begun serves written before on next first rows = record {
  writes = [];
  does = does-nothing before;
  are = tt;
  stops = tt;
  fine = refl;
  told_them = λ job serving sound. (on job serving, λ w chunk. keeps-nothing (axis job) w chunk written sound next first rows);
}

-- the line was let go on
pub text_served : {J : Type 0} (axis : J → Axis) (begun serves later : J → Type 0) (written : Written) (before now : Outside)
    → WritesOn {T = Unit {0}} (ToldText axis begun serves written) before (Ok tt) now → ((job : J) → serves job → later job)
    → WritesOn {T = Unit {0}} (ToldText axis begun later written) before (Ok tt) now
text_served axis begun serves later written before now s on = record {
  writes = s.writes;
  does = s.does;
  are = s.are;
  stops = tt;
  fine = s.fine;
  told_them = λ job serving sound. let m = s.told_them job serving sound in (on job m.0, m.1);
}

-- what came out was written
pub text_written : {J T : Type 0} (axis : J → Axis) (begun serves later : J → Type 0) (was now : Written) (before old new : Outside) (done : T)
    → WritesOn {T = Unit {0}} (ToldText axis begun serves was) before (Ok tt) old → WritesOn (ToldStop axis serves later was (Ok done) now) old (Ok done) new
    → WritesOn {T = Unit {0}} (ToldText axis begun later now) before (Ok tt) new
text_written axis begun serves later was now before old new done s w = record {
  writes = s.writes ++ w.writes;
  does = does-append before old new s.writes w.writes s.does w.does;
  are = each-append IsWriting s.writes w.writes s.are w.are;
  stops = tt;
  fine = (let all = sum_by-append write_failures s.writes w.writes in let first = s.fine in let more : sum_by write_failures w.writes ≡ 0 = w.fine in omega (arith, all, first, more));
  told_them = λ job serving sound.
      let m = s.told_them job serving sound in let h = w.told_them job m.0 sound in (h.0, λ w chunk. h.1 w chunk s.writes (m.1 w chunk));
}

-- no sweep follows a fault of the line
pub step_failed : {J : Type 0} (axis : J → Axis) (is_due : J → Fault → Type 0) (begun serves : J → Type 0) (fault : Fault) (written : Written) (broke : Fault → Type 0) (before now : Outside)
    → WritesOn {T = Unit {0}} (ToldText axis begun serves written) before (Ok tt) now → ((job : J) → serves job → IsDue (is_due job) fault) → broke fault
    → Pours broke (ToldRun axis is_due begun (Err fault)) before (Err fault) now
step_failed axis is_due begun serves fault written broke before now s due is = record {
  actions = s.writes;
  does = s.does;
  are = s.are;
  stops = inr is;
  fine = tt;
  told_them = λ job serving sound w chunk. let m = s.told_them job serving sound in record {
    writes = tt;
    reads_on = tt;
    due = due job m.0;
    front = keeps-stops (axis job) w chunk s.writes written sound (m.1 w chunk);
  };
}

write_due : (due : Fault → Type 0) (writes : List Action) (fault : Fault) → IsWriteStop writes fault → IsDue due fault
write_due due writes faults.OutOfMemory h = tt
write_due due writes faults.WriteFault h = tt
write_due due writes fault h = absurd h

stop_among : (first writes : List Action) (fault : Fault) → IsWriteStop writes fault → IsWriteStop (first ++ writes) fault
stop_among first writes faults.OutOfMemory h = tt
stop_among first writes faults.WriteFault h = failures_among first writes h
stop_among first writes fault h = absurd h

-- a part was not wholly written
pub write_failed : {J T : Type 0} (axis : J → Axis) (is_due : J → Fault → Type 0) (begun serves later : J → Type 0) (fault : Fault) (was now : Written) (broke : Fault → Type 0) (before old new : Outside)
    → WritesOn {T = Unit {0}} (ToldText axis begun serves was) before (Ok tt) old → WritesOn {T = T} (ToldStop {T = T} axis serves later was (Err fault) now) old (Err fault) new
    → Pours broke (ToldRun axis is_due begun (Err fault)) before (Err fault) new
write_failed axis is_due begun serves later fault was now broke before old new s w = record {
  actions = s.writes ++ w.writes;
  does = does-append before old new s.writes w.writes s.does w.does;
  are = each-append IsWriting s.writes w.writes s.are w.are;
  stops = inl (stop_among s.writes w.writes fault w.stops);
  fine = tt;
  told_them = λ job serving sound bound chunk.
      let m = s.told_them job serving sound in let h = w.told_them job m.0 sound in record {
        writes = tt;
        reads_on = tt;
        due = write_due (is_due job) w.writes fault w.stops;
        front = h.1 bound chunk s.writes (m.1 bound chunk);
      };
}

ended_stop : (written : Written) (result : Result ℕ Fault) (broke : Fault → Type 0) (actions : List Action) → EndsWith 1 Ended written result → IfErr result (StopsWritesFor broke actions)
ended_stop written (Ok n) broke actions ends = tt
ended_stop written (Err faults.OutOfMemory) broke actions ends = inl tt
ended_stop written (Err fault) broke actions ends = absurd ends

ended_due : (due : Fault → Type 0) (written : Written) (result : Result ℕ Fault) → EndsWith 1 Ended written result → IfErr result (IsDue due)
ended_due due written (Ok n) ends = tt
ended_due due written (Err faults.OutOfMemory) ends = tt
ended_due due written (Err fault) ends = absurd ends

when_ok : (result : Result ℕ Fault) (P : Type 0) → P → OnOk result P
when_ok (Ok n) P holds = holds
when_ok (Err fault) P holds = tt

-- the run has ended
pub run_ended : {J : Type 0} (axis : J → Axis) (is_due : J → Fault → Type 0) (begun serves : J → Type 0) (written : Written) (result : Result ℕ Fault) (broke : Fault → Type 0) (before now : Outside)
    → WritesOn {T = Unit {0}} (ToldText axis begun serves written) before (Ok tt) now → EndsWith 1 Ended written result
    → Pours broke (ToldRun axis is_due begun result) before result now
run_ended axis is_due begun serves written result broke before now s ends = record {
  actions = s.writes;
  does = s.does;
  are = s.are;
  stops = ended_stop written result broke s.writes ends;
  fine = when_ok result (sum_by write_failures s.writes ≡ 0) s.fine;
  told_them = λ job serving sound w chunk. let m = s.told_them job serving sound in record {
    writes = writes_all (axis job) (λ piece. ⊥) IsOnePlace w chunk s.writes 1 0 Ended written result (m.1 w chunk) (writings_ask_nothing (axis job) 0 s.writes s.are) refl ends;
    reads_on = when_ok result (Unit {0}) tt;
    due = ended_due (is_due job) written result ends;
    front = keeps-stops (axis job) w chunk s.writes written sound (m.1 w chunk);
  };
}
