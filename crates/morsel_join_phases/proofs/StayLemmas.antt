-- What a join still has, from what stays of it.
use Rattle.std.proofs.Common.{◌≡◌, ◌≢◌, ◌⊎◌, inl, inr, ⊎_elim, ℕ, Option, Some, List, refl, sym, ◌∙◌, subst}
use Rattle.std.specs.Arc.{arc_value}
use Rattle.morsel_meaning.specs.declared.value.Field.{Field}
use Rattle.morsel_meaning.specs.Values.{Row}
use Rattle.morsel_join.specs.declared.build_side.Build.{Build}
use Rattle.morsel_join.specs.declared.rules.JoinRules.{JoinRules}
use Rattle.morsel_join.specs.BuildSides.{kept_side}
use Rattle.morsel_join.specs.Sides.{KeptSide}
use Rattle.morsel_join_phases.specs.declared.phase.JoinPhase.{JoinPhase}
use Rattle.morsel_join_phases.specs.declared.phase.JoinPhase.TheVariants as phases
use Rattle.morsel_join_phases.specs.declared.places.JoinAt.TheVariants as at
use Rattle.morsel_join_phases.specs.JoinPhases.{FitsJoin, Had, HadRules, StaysJoin, asked_job_of, asked_of, asked_to_of, at_of, build_of, kept_job_of, rules_of}
use Rattle.morsel_join_phases.proofs.PhaseLemmas.{kept_done, rules_done, rules_more, rules_same}

-- nothing changes
pub stays_same : {K J : Type 0} {a b : _} (phase : JoinPhase K J a b) → StaysJoin phase phase
stays_same phase = record { at = inl refl; rules = rules_same phase; build = λ x is. is }

-- it has nothing any more
pub stays_done : {K J : Type 0} {a b : _} (phase : JoinPhase K J a b) → StaysJoin phase phases.Done
stays_done phase = record { at = inr refl; rules = rules_done phase; build = (kept_done phase).build }

-- one change after the other
pub stays_more : {K J : Type 0} {a b : _} (before mid now : JoinPhase K J a b) → StaysJoin before mid → StaysJoin mid now → StaysJoin before now
stays_more before mid now first then = record {
  at = ⊎_elim (λ same. ⊎_elim (λ is. inl (same ∙ is)) (λ done. inr (same ∙ done)) first.at) (λ done. inr done) then.at;
  rules = rules_more before mid now first.rules then.rules;
  build = λ x is. first.build x (then.build x is);
}

-- what it had and still has is the same
pub had_same : {X : Type 0} (before now : Option X) (x y : X) → Had before now → before ≡ Some x → now ≡ Some y → now ≡ Some x
had_same before now x y had before_is now_is = now_is ∙ sym (had y now_is) ∙ before_is

-- what it has in each phase but the last one
pub has_rules : {K J : Type 0} {a b : _} (phase : JoinPhase K J a b) → at_of phase ≢ at.Done → (rules : JoinRules) × (rules_of phase ≡ Some rules)
has_rules (phases.Build build) there = (build.rules, refl)
has_rules (phases.Probe probe) there = ((arc_value probe.build).rules, refl)
has_rules (phases.Emit emit) there = ((arc_value emit.build).rules, refl)
has_rules (phases.Giving build) there = ((arc_value build).rules, refl)
has_rules (phases.Given build) there = ((arc_value build).rules, refl)
has_rules phases.Done there = absurd (there refl)

pub has_asked : {K J : Type 0} {a b : _} (phase : JoinPhase K J a b) → at_of phase ≢ at.Done → (asked : List Field) × (asked_of phase ≡ Some asked)
has_asked (phases.Build build) there = (build.asked, refl)
has_asked (phases.Probe probe) there = ((arc_value probe.build).asked, refl)
has_asked (phases.Emit emit) there = ((arc_value emit.build).asked, refl)
has_asked (phases.Giving build) there = ((arc_value build).asked, refl)
has_asked (phases.Given build) there = ((arc_value build).asked, refl)
has_asked phases.Done there = absurd (there refl)

-- while rows are kept or looked up: what its lanes are for
pub has_jobs : {K J : Type 0} {a b : _} (phase : JoinPhase K J a b) → (at_of phase ≡ at.Build) ⊎ (at_of phase ≡ at.Probe) → (kept : J) × (asked : J) × (kept_job_of phase ≡ Some kept) × (asked_job_of phase ≡ Some asked)
has_jobs (phases.Build build) there = (build.job.value, build.asked_job.value, refl, refl)
has_jobs (phases.Probe probe) there = (probe.job.value, probe.asked_job.value, refl, refl)
has_jobs (phases.Emit emit) there = absurd (⊎_elim (λ is. cc) (λ is. cc) there)
has_jobs (phases.Giving build) there = absurd (⊎_elim (λ is. cc) (λ is. cc) there)
has_jobs (phases.Given build) there = absurd (⊎_elim (λ is. cc) (λ is. cc) there)
has_jobs phases.Done there = absurd (⊎_elim (λ is. cc) (λ is. cc) there)

-- and while rows are looked up, or the others given, the kept rows by their keys
pub has_build : {K J : Type 0} {a b : _} (phase : JoinPhase K J a b) → (at_of phase ≡ at.Probe) ⊎ (at_of phase ≡ at.Emit) → (build : Build) × (build_of phase ≡ Some build)
has_build (phases.Build build) there = absurd (⊎_elim (λ is. cc) (λ is. cc) there)
has_build (phases.Probe probe) there = (arc_value probe.build, refl)
has_build (phases.Emit emit) there = (arc_value emit.build, refl)
has_build (phases.Giving build) there = (arc_value build, refl)
has_build (phases.Given build) there = (arc_value build, refl)
has_build phases.Done there = absurd (⊎_elim (λ is. cc) (λ is. cc) there)

-- its rules are what they were
pub same_rules : {K J : Type 0} {a b : _} (before now : JoinPhase K J a b) (rules : JoinRules) → HadRules before now → at_of now ≢ at.Done → rules_of before ≡ Some rules → rules_of now ≡ Some rules
same_rules before now rules had there is = let has = has_rules now there in had_same (rules_of before) (rules_of now) rules has.0 had.rules is has.1

pub same_asked : {K J : Type 0} {a b : _} (before now : JoinPhase K J a b) (asked : List Field) → HadRules before now → at_of now ≢ at.Done → asked_of before ≡ Some asked → asked_of now ≡ Some asked
same_asked before now asked had there is = let has = has_asked now there in had_same (asked_of before) (asked_of now) asked has.0 had.asked is has.1

pub same_kept_job : {K J : Type 0} {a b : _} (before now : JoinPhase K J a b) (job : J) → HadRules before now → (at_of now ≡ at.Build) ⊎ (at_of now ≡ at.Probe) → kept_job_of before ≡ Some job → kept_job_of now ≡ Some job
same_kept_job before now job had there is = let has = has_jobs now there in had_same (kept_job_of before) (kept_job_of now) job has.0 had.job is has.2

pub same_asked_job : {K J : Type 0} {a b : _} (before now : JoinPhase K J a b) (job : J) → HadRules before now → (at_of now ≡ at.Build) ⊎ (at_of now ≡ at.Probe) → asked_job_of before ≡ Some job → asked_job_of now ≡ Some job
same_asked_job before now job had there is = let has = has_jobs now there in had_same (asked_job_of before) (asked_job_of now) job has.1 had.asked_job is has.3

pub same_build : {K J : Type 0} {a b : _} (before now : JoinPhase K J a b) (build : Build) → Had (build_of before) (build_of now) → (at_of now ≡ at.Probe) ⊎ (at_of now ≡ at.Emit) → build_of before ≡ Some build → build_of now ≡ Some build
same_build before now build had there is = let has = has_build now there in had_same (build_of before) (build_of now) build has.0 had is has.1

-- which lanes fit, by what it has
module _ {J : Type 0} (gives_rows : J → List Field → Type 0) (gives : J → ℕ → ℕ → List Row → Type 0) (is_all : J → List Row → Type 0) (finds is_alone : KeptSide → J → J → Type 0) where
  -- while rows are looked up: those of their job, and of what they find
  pub fits_asked : {K : Type 0} {a b : _} (phase : JoinPhase K J a b) (kept asked sent : J) (columns : List Field) (build : Build) → at_of phase ≡ at.Probe → asked_job_of phase ≡ Some asked → asked_of phase ≡ Some columns → gives_rows asked columns
      → build_of phase ≡ Some build → finds (kept_side build) asked sent → FitsJoin gives_rows gives is_all finds is_alone phase kept asked sent
  fits_asked (phases.Build side) kept asked sent columns build there job_is columns_is rows build_is found = absurd (cc)
  fits_asked (phases.Probe probe) kept asked sent columns build there job_is columns_is rows build_is found =
      let job : probe.asked_job.value ≡ asked = cc in let same : (arc_value probe.build).asked ≡ columns = cc in let built : arc_value probe.build ≡ build = cc in
      (sym job, subst (λ (cs : List Field). gives_rows asked cs) (sym same) rows, subst (λ (b : Build). finds (kept_side b) asked sent) (sym built) found)
  fits_asked (phases.Emit emit) kept asked sent columns build there job_is columns_is rows build_is found = absurd (cc)
  fits_asked (phases.Giving side) kept asked sent columns build there job_is columns_is rows build_is found = tt
  fits_asked (phases.Given side) kept asked sent columns build there job_is columns_is rows build_is found = tt
  fits_asked phases.Done kept asked sent columns build there job_is columns_is rows build_is found = tt

  -- once all were: that of the kept rows that none of them finds, for which the places that were looked up are all
  pub fits_given : {K : Type 0} {a b : _} (phase : JoinPhase K J a b) (kept looked_up asked sent : J) (build : Build) (to : ℕ) → at_of phase ≡ at.Emit → ((job : J) → asked_job_of phase ≡ Some job → job ≡ looked_up) → asked_to_of phase ≡ Some to
      → ((rows : List Row) → ∥ gives looked_up 0 to rows ∥₁ → is_all asked rows) → build_of phase ≡ Some build → is_alone (kept_side build) asked sent → FitsJoin gives_rows gives is_all finds is_alone phase kept asked sent
  fits_given (phases.Build side) kept looked_up asked sent build to there job_is to_is all build_is alone = absurd (cc)
  fits_given (phases.Probe probe) kept looked_up asked sent build to there job_is to_is all build_is alone = absurd (cc)
  fits_given (phases.Emit emit) kept looked_up asked sent build to there job_is to_is all build_is alone =
      let same : emit.asked_to ≡ to = cc in let built : arc_value emit.build ≡ build = cc in
      let job : emit.asked_job.value ≡ looked_up = job_is emit.asked_job.value refl in (
        λ rows given. all rows (subst (λ (n : ℕ). ∥ gives looked_up 0 n rows ∥₁) same (subst (λ (j : J). ∥ gives j 0 emit.asked_to rows ∥₁) job given)),
        subst (λ (b : Build). is_alone (kept_side b) asked sent) (sym built) alone,
      )
  fits_given (phases.Giving side) kept looked_up asked sent build to there job_is to_is all build_is alone = tt
  fits_given (phases.Given side) kept looked_up asked sent build to there job_is to_is all build_is alone = tt
  fits_given phases.Done kept looked_up asked sent build to there job_is to_is all build_is alone = tt
