-- The course of a group-by, put together of what its phases did.
use Rattle.std.proofs.Common.{◌≡◌, ◌⊎◌, inl, inr, ◌∷◌, [], ◌++◌, ℕ, ◌+◌, ◌*◌, ◌≤◌, List, Option, Some, None, Result, Ok, Err, IfErr, IsErrAnd, length, refl, sym, ap, subst, ◌∙◌, arith}
use Rattle.atomic_table.specs.Seated.{TableId}
use Rattle.morsel_meaning.specs.declared.fault.Fault.{Fault}
use Rattle.morsel_meaning.specs.declared.fault.Fault.TheVariants as faults
use Rattle.morsel_meaning.specs.Values.{Row}
use Rattle.morsel_outside.specs.Outside.{Outside}
use Rattle.morsel_read.specs.ScanReads.{HasGivenRows}
use Rattle.morsel_line.specs.ScanRuns.{JobGives, job_of}
use Rattle.morsel_scan_units.specs.LaneJobs.{LaneFor}
use Rattle.morsel_group_units.specs.GroupAsks.{GroupRulesSeen}
use Rattle.morsel_group_phases.specs.declared.places.GroupAt.TheVariants as at
use Rattle.morsel_group_phases.specs.declared.phase.GroupPhase.{GroupPhase}
use Rattle.morsel_group_phases.specs.declared.phase.GroupPhase.TheVariants as phases
use Rattle.morsel_group_phases.specs.GroupPhases.{StaysGroup, ends_of_group, group_at, group_job, group_rules, past_ends}
use Rattle.morsel_keep_run.specs.KeepRuns.{KeepsScan}
use Rattle.morsel_join_plan.specs.JoinLanes.{StopsKept, rows_lane}
use Rattle.morsel_join_plan.specs.JoinRuns.{JoinScan, scan_size}
use Rattle.morsel_join_plan.proofs.PhaseFacts.{some_same}
use Rattle.morsel_group_plan.specs.GroupRuns.{EndsGroups, GroupsRows, GroupsScan, SweepsGroups}
use Rattle.morsel_group_plan.specs.GroupLanes.{AreRowsTo, GivesGroups, HasTakenScan, SweepsGiving, TakesTo}
use Rattle.morsel_group_plan.proofs.YieldFacts.{took_scan}

-- a group-by that takes rows is asked for something, and has lanes
pub taking_there : {K J : Type 0} {a b : _} (phase : GroupPhase K J a b) → group_at phase ≡ at.Sink → (rules : GroupRulesSeen) × (job : J) × (group_rules phase ≡ Some rules) × (group_job phase ≡ Some job)
taking_there (phases.Sink sink) is = (sink.taken.rules, sink.job.value, refl, refl)
taking_there (phases.Source source) is = absurd cc
taking_there (phases.Giving frame) is = absurd cc
taking_there (phases.Given frame) is = absurd cc
taking_there phases.Done is = absurd cc

-- where it still takes rows after its units have worked, and no lane had ended before, it is asked for the same, and has the same lanes
pub takes_one : {K : Type 0} {a b : _} (begun now : GroupPhase K LaneFor a b) (rules : GroupRulesSeen) (lane : LaneFor) (to : ℕ) → group_rules begun ≡ Some rules → group_job begun ≡ Some lane → past_ends begun ≡ [] → StaysGroup begun now → group_at now ≡ at.Sink
    → ((job : LaneFor) → group_job now ≡ Some job → ends_of_group now ≡ Some (past_ends now ++ (job, to) ∷ [])) → TakesTo now rules ((lane, to) ∷ [])
takes_one begun now rules lane to of_rules for_lane none stays takes ends =
    let there = taking_there now takes in
    let same_rules : there.0 ≡ rules = some_same _ _ (sym (stays.rules there.0 there.2) ∙ of_rules) in
    let before = stays.job there.1 there.3 in
    let same_lane : there.1 ≡ lane = some_same _ _ (sym before.0 ∙ for_lane) in record {
      takes = takes;
      rules_are = there.2 ∙ ap Some same_rules;
      ends_are = ends there.1 there.3 ∙ ap (λ (past : List (LaneFor × ℕ)). Some (past ++ (there.1, to) ∷ [])) (sym before.1 ∙ none) ∙ ap (λ (job : LaneFor). Some ((job, to) ∷ [])) same_lane;
    }

-- the rows of a scan could not be taken
pub stopped : (scan : JoinScan) (group : GroupRulesSeen) (before after : Outside) (fault : Fault) → StopsKept scan before fault after → GroupsScan scan group before (Err fault) after
stopped scan group before after fault (inl left) = record { course = inl left }
stopped scan group before after fault (inr (inl keeps)) = record { course = inr (inl (fault, keeps, refl)) }
stopped scan group before after fault (inr (inr (given, keeps, is))) = record { course = inr (inr (given, after, keeps, inl (ap Err is, refl))) }

-- they were, and the rows of the group-by followed
pub gave : (scan : JoinScan) (group : GroupRulesSeen) (opened between : Outside) (tokens : TableId) (given : ℕ) (result : Result ℕ Fault) (after : Outside) → GivesGroups scan group ((rows_lane scan.scan scan.reader opened tokens, given) ∷ []) opened between result after
    → EndsGroups (λ files rows. JobGives (job_of scan.scan scan.reader files) given rows) scan group opened between result after
gave scan group opened between tokens given result after (inl left) = inl left
gave scan group opened between tokens given result after (inr (inl (fault, is, same, cause))) =
    inr (inl (fault, is, same, record { rows = cause.rows; are = took_scan scan.scan scan.reader opened tokens given cause.rows cause.are; cause = cause.cause }))
gave scan group opened between tokens given result after (inr (inr (rows, groups, are, grouped, fits, few, writes, last))) =
    inr (inr (record { rows = rows; are = took_scan scan.scan scan.reader opened tokens given rows are; groups = groups; grouped = grouped; fits = fits; few = few; writes = writes; last = last }))

pub grouped_scan : {K : Type 0} {a b : _} (phase : GroupPhase K LaneFor a b) (scan : JoinScan) (group : GroupRulesSeen) (opened between : Outside) (result : Result ℕ Fault) (after : Outside) → (has : HasTakenScan phase scan group opened between)
    → GivesGroups scan group ((rows_lane scan.scan scan.reader opened has.tokens, has.given) ∷ []) opened between result after → GroupsScan scan group opened result after
grouped_scan phase scan group opened between result after has gives = record { course = inr (inr (has.given, between, has.keeps, gave scan group opened between has.tokens has.given result after gives)) }

-- rows were taken, and no more was done
pub swept_taken : (scan : JoinScan) (opened : Outside) (before after : ℕ) → after ≤ before + 512 * (scan_size scan opened + 1) → SweepsGroups scan opened before after
swept_taken scan opened before after few = record { groups = 0; few = omega (arith, few); small = omega arith; within = λ files had. inl refl }

-- and then the rows of the group-by were given
pub swept_given : (scan : JoinScan) (opened : Outside) (tokens : TableId) (given before between after : ℕ) → between ≤ before + 512 * (scan_size scan opened + 1) → SweepsGiving scan ((rows_lane scan.scan scan.reader opened tokens, given) ∷ []) opened between after
    → SweepsGroups scan opened before after
swept_given scan opened tokens given before between after first giving = record {
  groups = giving.groups;
  few = (let later : after ≤ between + 2048 + 512 * giving.groups = giving.few in omega (arith, first, later));
  small = giving.small;
  within = λ files had. within files had (giving.within files had);
}
  where
    within : (files : List (List ℕ)) → HasGivenRows scan.scan files opened scan.reader → (giving.groups ≡ 0) ⊎ ((rows : List Row) × AreRowsTo ((rows_lane scan.scan scan.reader opened tokens, given) ∷ []) rows × (giving.groups ≤ length rows))
        → (giving.groups ≡ 0) ⊎ ((to : ℕ) × (rows : List Row) × JobGives (job_of scan.scan scan.reader files) to rows × (giving.groups ≤ length rows))
    within files had (inl none) = inl none
    within files had (inr (rows, are, few)) = inr (given, rows, took_scan scan.scan scan.reader opened tokens given rows are files had, few)

-- what holds of the fault that is due holds of the one that is answered
pub of_due : {X : Type 0} (P : Fault → Type 0) (due : Fault) (result : Result X Fault) → IsErrAnd result (λ fault. fault ≡ due) → P due → IfErr result P
of_due P due (Ok x) is holds = tt
of_due P due (Err fault) is holds = subst P (sym is) holds
