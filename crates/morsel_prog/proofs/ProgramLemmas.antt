-- What a run and its report say together.
use Rattle.std.specs.Prelude.{◌≡◌, ℕ, ◌≤◌, Option, Some, None, Result, Ok, Err, List, decimal, refl}
use Rattle.std.proofs.Common.{sym, ap, subst, ◌∙◌, arith, inl, inr}
use Rattle.morsel_meaning.specs.declared.fault.Fault.{Fault}
use Rattle.morsel_meaning.specs.declared.fault.Fault.TheVariants as faults
use Rattle.morsel_outside.specs.Outside.{Outside, with_last}
use Rattle.morsel_outside.proofs.ActionLemmas.{with_more-nil, rises_since}
use Rattle.morsel_group.specs.Asked.{GroupAsked}
use Rattle.morsel_query.specs.Queries.{QueryParts}
use Rattle.morsel_engine.specs.Courses.{SidesAsked}
use Rattle.morsel_engine.specs.Runs.{HasText, Answers, HasCauseInFiles, HasCauseInRun, HasCause, LeavesNoRow, LeavesNoRowBy}
use Rattle.morsel_prog.specs.Words.{Command}
use Rattle.morsel_prog.specs.CommandQueries.{LacksQuery}
use Rattle.morsel_prog.specs.CommandRuns.{RunsQuery, RunsWords, HasAnswer, OnlyPrints, HasCauseOf, FailsInRun}
use Rattle.morsel_prog.specs.Program.{ReportsFault, Reports, AnswersWords, CausesWords, LeavesAfterFault, AsksNames, ReadsOnce, ReadsNotFarAhead, KeepsRest}
use Rattle.morsel_prog.proofs.ReportLemmas.{printed_on, reported, not_zero, tells_fault, rises_reported}
use Rattle.morsel_prog.proofs.RunLemmas.{run_of, run-kept, begun-kept, lack-kept, queries-lack, asks-lack, asks-run, ahead-run, leaves-run, keeps-lack, keeps-run}

-- ---- status 0

text-kept : (between : Outside) (query : QueryParts) (files : List (List ℕ)) (asked : SidesAsked) (count : ℕ) (ran new : Outside) → HasText between query files asked count ran
    → HasText between query files asked count (printed_on ran new)
text-kept between query files asked count ran new t = record { rows = t.rows; counted = t.counted; means = t.means; made = t.made }

-- a report leaves an answer as it is
answers-kept : (between : Outside) (query : QueryParts) (files : List (List ℕ)) (asked : SidesAsked) (count : ℕ) (ran new : Outside) → new.write_faults ≡ ran.write_faults
    → Answers between query files asked ran count → Answers between query files asked (printed_on ran new) count
answers-kept between query files asked count ran new well a = record {
  begun = begun-kept between query files ran new a.begun;
  read_well = a.read_well;
  write_well = well ∙ a.write_well;
  whole = a.whole;
  text = λ told. text-kept between query files asked count ran new (a.text told);
}

has_answer : (old : Outside) (command : Command) (count : ℕ) (ran new : Outside) → new.write_faults ≡ ran.write_faults → RunsQuery old command (Ok count) ran
    → HasAnswer old command count (printed_on ran new)
has_answer old command count ran new well r = record {
  run = run-kept old command ran new (run_of old command (Ok count) ran r);
  answers = answers-kept r.between r.had.query r.runs.files r.runs.asked count ran new well r.runs.answers;
}

-- nothing was printed before the report
printed_before : (old : Outside) (command : Command) (result : Result ℕ Fault) (ran : Outside) (r : RunsQuery old command result ran) → ran.printed ≡ old.printed
printed_before old command result ran r = r.runs.printed ∙ r.had.same.printed

no_lower_before : (old : Outside) (command : Command) (result : Result ℕ Fault) (ran : Outside) (r : RunsQuery old command result ran) → old.write_faults ≤ ran.write_faults
no_lower_before old command result ran r = let a = r.runs.no_lower in let b = r.had.same.write_faults in omega (arith, a, b)

pub answers_words : (old new : Outside) (command : Option Command) (status : ℕ) → (ran : Outside) (answer : Result ℕ Fault) → RunsWords old command answer ran → Reports ran answer status new → status ≡ 0 → AnswersWords old command new
answers_words old new command status ran (Err fault) runs reports z = absurd (not_zero ran new fault status reports z)
answers_words old new None status ran (Ok count) runs reports z = absurd runs
answers_words old new (Some command) status ran (Ok count) (inl lacks) reports z = absurd lacks
answers_words old new (Some command) status ran (Ok count) (inr r) (inl h) z =
    let is = reported ran new (Ok count) status (inl h) in (
      count,
      subst (HasAnswer old command count) (sym is.after) (has_answer old command count ran new h.1.write_faults r),
      h.1.printed ∙ ap (λ p. with_last p (decimal count)) (printed_before old command (Ok count) ran r),
    )
answers_words old new (Some command) status ran (Ok count) (inr r) (inr (inl h)) z = absurd (not_zero _ new faults.WriteFault status h.2 z)
answers_words old new (Some command) status ran (Ok count) (inr r) (inr (inr h)) z = absurd (not_zero ran new faults.OutOfMemory status h z)

-- ---- whatever the status

-- what holds after each run holds after its report
after_report : (P : Outside → Type 0) (ran new : Outside) (answer : Result ℕ Fault) (status : ℕ) → Reports ran answer status new → P (printed_on ran new) → P new
after_report P ran new answer status reports h = subst P (sym (reported ran new answer status reports).after) h

-- words that are no command leave everything as it was
same_at : {A : Type 0} (part : Outside → A) (old ran new : Outside) (answer : Result ℕ Fault) (status : ℕ) → Reports ran answer status new → part (printed_on ran new) ≡ part ran → ran ≡ old → part new ≡ part old
same_at part old ran new answer status reports same is = ap part (reported ran new answer status reports).after ∙ same ∙ ap part is

pub asks_names : (old new : Outside) (command : Option Command) (status : ℕ) → (ran : Outside) (answer : Result ℕ Fault) → RunsWords old command answer ran → Reports ran answer status new → AsksNames old command new
asks_names old new (Some command) status ran (Ok count) (inl lacks) reports = absurd lacks
asks_names old new (Some command) status ran (Err fault) (inl lacks) reports =
    after_report (AsksNames old (Some command)) ran new (Err fault) status reports (asks-lack old command ran new fault lacks.0)
asks_names old new (Some command) status ran answer (inr r) reports = after_report (AsksNames old (Some command)) ran new answer status reports (asks-run old command ran new answer r)
asks_names old new None status ran (Ok count) runs reports = absurd runs
asks_names old new None status ran (Err fault) runs reports = same_at (λ (o : Outside). o.asked) old ran new (Err fault) status reports refl runs.0

pub reads_once : (old new : Outside) (command : Option Command) (status : ℕ) → (ran : Outside) (answer : Result ℕ Fault) → RunsWords old command answer ran → Reports ran answer status new → ReadsOnce old command new
reads_once old new (Some command) status ran (Ok count) (inl lacks) reports = absurd lacks
reads_once old new (Some command) status ran (Err fault) (inl lacks) reports =
    after_report (ReadsOnce old (Some command)) ran new (Err fault) status reports (inl (queries-lack old command ran new fault lacks.0))
reads_once old new (Some command) status ran answer (inr r) reports = after_report (ReadsOnce old (Some command)) ran new answer status reports (inr (run-kept old command ran new (run_of old command answer ran r)))
reads_once old new None status ran (Ok count) runs reports = absurd runs
reads_once old new None status ran (Err fault) runs reports = same_at (λ (o : Outside). o.events) old ran new (Err fault) status reports refl runs.0

pub reads_ahead : (old new : Outside) (command : Option Command) (status : ℕ) → (ran : Outside) (answer : Result ℕ Fault) → RunsWords old command answer ran → Reports ran answer status new → ReadsNotFarAhead old command new
reads_ahead old new (Some command) status ran (Ok count) (inl lacks) reports = absurd lacks
reads_ahead old new (Some command) status ran (Err fault) (inl lacks) reports =
    after_report (ReadsNotFarAhead old (Some command)) ran new (Err fault) status reports (inl (queries-lack old command ran new fault lacks.0))
reads_ahead old new (Some command) status ran answer (inr r) reports =
    after_report (ReadsNotFarAhead old (Some command)) ran new answer status reports (inr (ahead-run old command ran new answer r))
reads_ahead old new None status ran (Ok count) runs reports = absurd runs
reads_ahead old new None status ran (Err fault) runs reports = same_at (λ (o : Outside). o.events) old ran new (Err fault) status reports refl runs.0

pub leaves_after_fault : (old new : Outside) (command : Option Command) (status : ℕ) → (ran : Outside) (answer : Result ℕ Fault) → RunsWords old command answer ran → Reports ran answer status new → LeavesAfterFault old command new
leaves_after_fault old new (Some command) status ran (Ok count) (inl lacks) reports = absurd lacks
leaves_after_fault old new (Some command) status ran (Err fault) (inl lacks) reports =
    after_report (LeavesAfterFault old (Some command)) ran new (Err fault) status reports (inl (queries-lack old command ran new fault lacks.0))
leaves_after_fault old new (Some command) status ran answer (inr r) reports =
    after_report (LeavesAfterFault old (Some command)) ran new answer status reports (inr (leaves-run old command ran new answer r))
leaves_after_fault old new None status ran (Ok count) runs reports = absurd runs
leaves_after_fault old new None status ran (Err fault) runs reports = same_at (λ (o : Outside). o.made) old ran new (Err fault) status reports refl runs.0

pub keeps_rest : (old new : Outside) (command : Option Command) (status : ℕ) → (ran : Outside) (answer : Result ℕ Fault) → RunsWords old command answer ran → Reports ran answer status new → KeepsRest old command new
keeps_rest old new (Some command) status ran (Ok count) (inl lacks) reports = absurd lacks
keeps_rest old new (Some command) status ran (Err fault) (inl lacks) reports =
    after_report (KeepsRest old (Some command)) ran new (Err fault) status reports (keeps-lack old command ran new fault lacks.0)
keeps_rest old new (Some command) status ran answer (inr r) reports = after_report (KeepsRest old (Some command)) ran new answer status reports (keeps-run old command ran new answer r)
keeps_rest old new None status ran (Ok count) runs reports = absurd runs
keeps_rest old new None status ran (Err fault) runs reports = (
  same_at (λ (o : Outside). o.sizes) old ran new (Err fault) status reports refl runs.0,
  same_at (λ (o : Outside). o.held) old ran new (Err fault) status reports refl runs.0,
  same_at (λ (o : Outside). o.sinks) old ran new (Err fault) status reports refl runs.0,
  record {
    count = same_at (λ (o : Outside). o.read_faults) old ran new (Err fault) status reports refl runs.0;
    failed = same_at (λ (o : Outside). o.failed) old ran new (Err fault) status reports refl runs.0;
  },
)

-- ---- causes

files_cause-kept : (between : Outside) (query : QueryParts) (files : List (List ℕ)) (asked : SidesAsked) (ran new : Outside) (fault : Fault) → HasCauseInFiles between query files asked ran fault
    → HasCauseInFiles between query files asked (printed_on ran new) fault
files_cause-kept between query files asked ran new fault h = record { kind = h.kind; begun = begun-kept between query files ran new h.begun; cause = h.cause }

-- a cause that held after the run holds after its report
run_cause : (between : Outside) (query : QueryParts) (files : List (List ℕ)) (asked : SidesAsked) (ran new : Outside) (fault told : Fault) (status : ℕ) → HasCauseInRun between query files asked ran fault
    → ReportsFault ran told status new → HasCauseInRun between query files asked (printed_on ran new) fault
run_cause between query files asked ran new faults.OutOfMemory told status h reports = tt
run_cause between query files asked ran new (faults.ReadFault file) told status h reports = h
run_cause between query files asked ran new faults.WriteFault told status (all, rises) reports = (all, rises_reported between ran new told status rises reports)
run_cause between query files asked ran new fault told status h reports = files_cause-kept between query files asked ran new fault h

cause_reported : (between : Outside) (query : QueryParts) (files : List (List ℕ)) (asked : SidesAsked) (ran new : Outside) (fault : Fault) (status : ℕ) → HasCause between query files asked ran fault
    → ReportsFault ran fault status new → HasCauseOf between query files asked (printed_on ran new) fault
cause_reported between query files asked ran new fault status (inl (is, same)) reports =
    let r = reported ran new (Err fault) status reports in
    inl (is, subst (λ (o : Outside). OnlyPrints o (printed_on ran new)) same (subst (OnlyPrints ran) r.after r))
cause_reported between query files asked ran new fault status (inr h) reports = inr (run_cause between query files asked ran new fault fault status h reports)

-- where no row was left after the run, none is after its report
no_row-kept : (between : Outside) (query : QueryParts) (ran new : Outside) (fault : Fault) → LeavesNoRow between query ran fault → LeavesNoRow between query (printed_on ran new) fault
no_row-kept between query ran new faults.WriteFault h = tt
no_row-kept between query ran new faults.OutOfMemory h = tt
no_row-kept between query ran new (faults.ReadFault file) h = h
no_row-kept between query ran new (faults.InvalidQuery why) h = h
no_row-kept between query ran new (faults.Malformed file at) h = h
no_row-kept between query ran new (faults.Unsupported file code) h = h
no_row-kept between query ran new (faults.ColumnNotFound name) h = h
no_row-kept between query ran new (faults.SchemaMismatch name) h = h
no_row-kept between query ran new (faults.Duplicate name) h = h
no_row-kept between query ran new (faults.ComputeError kind file at) h = h
no_row-kept between query ran new faults.QueryText h = h
no_row-kept between query ran new faults.Usage h = h

head-kept : (group : Option GroupAsked) (between : Outside) (query : QueryParts) (ran new : Outside) (fault : Fault) → LeavesNoRowBy group between query (Err fault) ran
    → LeavesNoRowBy group between query (Err fault) (printed_on ran new)
head-kept None between query ran new fault h = tt
head-kept (Some group) between query ran new fault h = no_row-kept between query ran new fault h

-- a write that failed may leave rows
head-written : (group : Option GroupAsked) (between : Outside) (query : QueryParts) (new : Outside) → LeavesNoRowBy group between query (Err faults.WriteFault) new
head-written None between query new = tt
head-written (Some group) between query new = tt

-- another status: a fault that has its cause, and was told
pub causes_words : (old new : Outside) (command : Option Command) (status : ℕ) → (ran : Outside) (answer : Result ℕ Fault) → RunsWords old command answer ran → Reports ran answer status new → (status ≡ 0 → ⊥) → CausesWords old command status new
causes_words old new None status ran (Ok count) runs reports z = absurd runs
causes_words old new None status ran (Err fault) runs reports z =
    (fault, runs.1, tells_fault old ran new fault status (ap (λ (o : Outside). o.printed) runs.0) (let e = ap (λ (o : Outside). o.write_faults) runs.0 in omega arith) reports)
causes_words old new (Some command) status ran (Ok count) (inl lacks) reports z = absurd lacks
causes_words old new (Some command) status ran (Err fault) (inl (lack, same)) reports z = (
  fault,
  inr (inl (after_report (λ (o : Outside). LacksQuery old command o fault) ran new (Err fault) status reports (lack-kept old command ran new fault lack))),
  tells_fault old ran new fault status same.printed (let e = same.write_faults in omega (arith, e)) reports,
)
causes_words old new (Some command) status ran (Err fault) (inr r) reports z = (
  fault,
  inr (inr (after_report (λ (o : Outside). FailsInRun old command o fault) ran new (Err fault) status reports (record {
    run = run-kept old command ran new (run_of old command (Err fault) ran r);
    cause = cause_reported r.between r.had.query r.runs.files r.runs.asked ran new fault status r.runs.caused reports;
    head_alone = head-kept r.had.query.group r.between r.had.query ran new fault r.runs.head_alone;
  }))),
  tells_fault old ran new fault status (printed_before old command (Err fault) ran r) (no_lower_before old command (Err fault) ran r) reports,
)
causes_words old new (Some command) status ran (Ok count) (inr r) (inl h) z = absurd (z h.0)
causes_words old new (Some command) status ran (Ok count) (inr r) (inr (inl (unprinted, failing, later))) z =
    let since = rises_since _ _ _ r.runs.no_lower failing.write_faults in
    let all = rises_since _ _ _ (no_lower_before old command (Ok count) ran r) failing.write_faults in (
      faults.WriteFault,
      inr (inr (after_report (λ (o : Outside). FailsInRun old command o faults.WriteFault) ran new (Ok count) status (inr (inl (unprinted, failing, later))) (record {
        run = run-kept old command ran new (run_of old command (Ok count) ran r);
        cause = inr (r.runs.answers.begun.all, rises_reported r.between unprinted new faults.WriteFault status since later);
        head_alone = head-written r.had.query.group r.between r.had.query (printed_on ran new);
      }))),
      tells_fault old unprinted new faults.WriteFault status (failing.printed ∙ with_more-nil ran.printed ∙ printed_before old command (Ok count) ran r) all.no_lower later,
    )
causes_words old new (Some command) status ran (Ok count) (inr r) (inr (inr h)) z =
    (faults.OutOfMemory, inl refl, tells_fault old ran new faults.OutOfMemory status (printed_before old command (Ok count) ran r) (no_lower_before old command (Ok count) ran r) h)
