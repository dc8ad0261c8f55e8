-- What a join has in its phases, and which lanes may be its own.
use Rattle.std.proofs.Common.{◌≡◌, ◌≢◌, ◌⊎◌, inl, inr, ℕ, List, Option, Some, None, refl, sym, ap, subst, ◌∙◌}
use Rattle.std.specs.Arc.{arc_value}
use Rattle.morsel_meaning.specs.declared.value.Field.{Field}
use Rattle.morsel_meaning.specs.Values.{Row}
use Rattle.morsel_join.specs.declared.build_side.Build.{Build}
use Rattle.morsel_join.specs.declared.rules.JoinRules.{JoinRules}
use Rattle.morsel_join.specs.BuildSides.{kept_side}
use Rattle.morsel_join.specs.Sides.{KeptSide}
use Rattle.morsel_join_phases.specs.declared.places.JoinAt.{JoinAt}
use Rattle.morsel_join_phases.specs.declared.places.JoinAt.TheVariants as at
use Rattle.morsel_join_phases.specs.declared.phase.JoinPhase.{JoinPhase}
use Rattle.morsel_join_phases.specs.declared.phase.JoinPhase.TheVariants as phases
use Rattle.morsel_join_phases.specs.JoinPhases.{FitsJoin, asked_job_of, asked_of, asked_to_of, at_of, build_of, kept_job_of, kept_to_of, rules_of}

-- what is there is one thing
pub some_same : {X : Type 0} (x y : X) → Some x ≡ Some y → x ≡ y
some_same x y is = cc

abbrev rules_in : Option Build → Option JoinRules
rules_in None = None
rules_in (Some build) = Some build.rules

-- the rules are those of the kept rows
pub rules_there : {K J : Type 0} {a b : _} (phase : JoinPhase K J a b) (build : Build) → build_of phase ≡ Some build → rules_of phase ≡ Some build.rules
rules_there (phases.Build keeping) build is = absurd cc
rules_there (phases.Probe probe) build is = ap rules_in is
rules_there (phases.Emit emit) build is = ap rules_in is
rules_there (phases.Giving giving) build is = ap rules_in is
rules_there (phases.Given given) build is = ap rules_in is
rules_there phases.Done build is = absurd cc

-- where it is known up to which place rows were kept, they are there, and so is what their lanes are for
pub kept_there : {K J : Type 0} {a b : _} (phase : JoinPhase K J a b) (to : ℕ) → kept_to_of phase ≡ Some to → (build : Build) × (job : J) × (build_of phase ≡ Some build) × (kept_job_of phase ≡ Some job)
kept_there (phases.Build keeping) to is = absurd cc
kept_there (phases.Probe probe) to is = (arc_value probe.build, probe.job.value, refl, refl)
kept_there (phases.Emit emit) to is = (arc_value emit.build, emit.job.value, refl, refl)
kept_there (phases.Giving giving) to is = absurd cc
kept_there (phases.Given given) to is = absurd cc
kept_there phases.Done to is = absurd cc

-- where it is known up to which place rows were looked up, it is about to give kept rows that none found
pub asked_there : {K J : Type 0} {a b : _} (phase : JoinPhase K J a b) (to : ℕ) → asked_to_of phase ≡ Some to → (build : Build) × (job : J) × (build_of phase ≡ Some build) × (asked_job_of phase ≡ Some job) × (at_of phase ≡ at.Emit)
asked_there (phases.Build keeping) to is = absurd cc
asked_there (phases.Probe probe) to is = absurd cc
asked_there (phases.Emit emit) to is = (arc_value emit.build, emit.asked_job.value, refl, refl, refl)
asked_there (phases.Giving giving) to is = absurd cc
asked_there (phases.Given given) to is = absurd cc
asked_there phases.Done to is = absurd cc

-- where rows are looked up, or nothing is left to do, no rows are kept
pub keeps_no_more : (place : JoinAt) → (place ≡ at.Probe) ⊎ (place ≡ at.Done) → place ≢ at.Build
keeps_no_more place (inl is) keeps = absurd (let both : at.Probe ≡ at.Build = sym is ∙ keeps in cc)
keeps_no_more place (inr is) keeps = absurd (let both : at.Done ≡ at.Build = sym is ∙ keeps in cc)

module _ {K J : Type 0} {a b : _} (gives_rows : J → List Field → Type 0) (gives : J → ℕ → ℕ → List Row → Type 0) (is_all : J → List Row → Type 0) (finds is_alone : KeptSide → J → J → Type 0) where
  -- while rows are looked up
  pub fits_finding : (phase : JoinPhase K J a b) (build : Build) (kept asked sent : J) → at_of phase ≡ at.Probe → build_of phase ≡ Some build → asked_job_of phase ≡ Some asked
      → ((columns : List Field) → asked_of phase ≡ Some columns → gives_rows asked columns) → finds (kept_side build) asked sent → FitsJoin gives_rows gives is_all finds is_alone phase kept asked sent
  fits_finding (phases.Probe probe) build kept asked sent place of_build for_job rows found =
      (sym (some_same _ _ for_job), rows (arc_value probe.build).asked refl, subst (λ (b : Build). finds (kept_side b) asked sent) (sym (some_same _ _ of_build)) found)
  fits_finding (phases.Build keeping) build kept asked sent place of_build for_job rows found = absurd cc
  fits_finding (phases.Emit emit) build kept asked sent place of_build for_job rows found = absurd cc
  fits_finding (phases.Giving giving) build kept asked sent place of_build for_job rows found = absurd cc
  fits_finding (phases.Given given) build kept asked sent place of_build for_job rows found = absurd cc
  fits_finding phases.Done build kept asked sent place of_build for_job rows found = absurd cc

  -- while the kept rows are given that none found
  pub fits_giving : (phase : JoinPhase K J a b) (build : Build) (job : J) (to : ℕ) (kept asked sent : J) → asked_to_of phase ≡ Some to → build_of phase ≡ Some build → asked_job_of phase ≡ Some job
      → ((rows : List Row) → ∥ gives job 0 to rows ∥₁ → is_all asked rows) → is_alone (kept_side build) asked sent → FitsJoin gives_rows gives is_all finds is_alone phase kept asked sent
  fits_giving (phases.Emit emit) build job to kept asked sent to_is of_build for_job all alone = (
    λ rows known. all rows (subst (λ (j : J). ∥ gives j 0 to rows ∥₁) (some_same _ _ for_job) (subst (λ (n : ℕ). ∥ gives emit.asked_job.value 0 n rows ∥₁) (some_same _ _ to_is) known)),
    subst (λ (b : Build). is_alone (kept_side b) asked sent) (sym (some_same _ _ of_build)) alone,
  )
  fits_giving (phases.Build keeping) build job to kept asked sent to_is of_build for_job all alone = absurd cc
  fits_giving (phases.Probe probe) build job to kept asked sent to_is of_build for_job all alone = absurd cc
  fits_giving (phases.Giving giving) build job to kept asked sent to_is of_build for_job all alone = absurd cc
  fits_giving (phases.Given given) build job to kept asked sent to_is of_build for_job all alone = absurd cc
  fits_giving phases.Done build job to kept asked sent to_is of_build for_job all alone = absurd cc
