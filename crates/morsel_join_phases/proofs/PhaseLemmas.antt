-- What stays of a join from one phase to the next.
use Rattle.std.proofs.Common.{◌≡◌, [], Option, None, Some, refl, sym, ◌∙◌, ap, subst}
use Rattle.std.specs.Arc.{arc_value}
use Rattle.morsel_join.specs.declared.build_side.Build.{Build}
use Rattle.morsel_join.specs.Hits.{HaveHit}
use Rattle.morsel_join_phases.specs.declared.build_phase.BuildPhase.{BuildPhase}
use Rattle.morsel_join_phases.specs.declared.probe_phase.ProbePhase.{ProbePhase}
use Rattle.morsel_join_phases.specs.declared.phase.JoinPhase.{JoinPhase}
use Rattle.morsel_join_phases.specs.declared.phase.JoinPhase.TheVariants as phases
use Rattle.morsel_join_phases.specs.declared.places.JoinAt.TheVariants as at
use Rattle.morsel_join_phases.specs.JoinPhases.{Had, HadKept, HadRules, KeepsJoin, at_of, build_of}

-- nothing changes
pub rules_same : {K J : Type 0} {a b : _} (phase : JoinPhase K J a b) → HadRules phase phase
rules_same phase = record { rules = λ x is. is; asked = λ x is. is; job = λ x is. is; asked_job = λ x is. is }

pub kept_same : {K J : Type 0} {a b : _} (phase : JoinPhase K J a b) → HadKept phase phase
kept_same phase = record { build = λ x is. is; marks = λ x is. is; kept_to = λ x is. is }

-- while rows are kept they are not put by their keys
no_build : {K J : Type 0} {a b : _} (phase : JoinPhase K J a b) (build : Build) → at_of phase ≡ at.Build → build_of phase ≡ Some build → ⊥
no_build (phases.Build side) build is none = cc
no_build (phases.Probe side) build is none = cc
no_build (phases.Emit side) build is none = cc
no_build (phases.Giving side) build is none = cc
no_build (phases.Given side) build is none = cc
no_build phases.Done build is none = cc

pub keeps_same : {K J : Type 0} {a b : _} (phase : JoinPhase K J a b) → KeepsJoin phase phase
keeps_same phase = record { rules = rules_same phase; kept = λ not. kept_same phase; none = λ is build marks built marked. absurd (no_build phase build is built) }

-- it has nothing any more
none_had : {X : Type 0} (before : Option X) → Had before None
none_had before x is = absurd (let none : None ≡ Some x = is in cc)

pub rules_done : {K J : Type 0} {a b : _} (phase : JoinPhase K J a b) → HadRules phase phases.Done
rules_done phase = record { rules = none_had _; asked = none_had _; job = none_had _; asked_job = none_had _ }

pub kept_done : {K J : Type 0} {a b : _} (phase : JoinPhase K J a b) → HadKept phase phases.Done
kept_done phase = record { build = none_had _; marks = none_had _; kept_to = none_had _ }

pub keeps_done : {K J : Type 0} {a b : _} (phase : JoinPhase K J a b) → KeepsJoin phase phases.Done
keeps_done phase = record { rules = rules_done phase; kept = λ not. kept_done phase; none = λ is build marks built marked. absurd (let none : None ≡ Some build = built in cc) }

-- one move after the other
pub rules_more : {K J : Type 0} {a b : _} (before mid now : JoinPhase K J a b) → HadRules before mid → HadRules mid now → HadRules before now
rules_more before mid now first then = record { rules = λ x is. first.rules x (then.rules x is); asked = λ x is. first.asked x (then.asked x is); job = λ x is. first.job x (then.job x is); asked_job = λ x is. first.asked_job x (then.asked_job x is) }

pub kept_more : {K J : Type 0} {a b : _} (before mid now : JoinPhase K J a b) → HadKept before mid → HadKept mid now → HadKept before now
kept_more before mid now first then = record { build = λ x is. first.build x (then.build x is); marks = λ x is. first.marks x (then.marks x is); kept_to = λ x is. first.kept_to x (then.kept_to x is) }

pub keeps_more : {K J : Type 0} {a b : _} (before mid now : JoinPhase K J a b) → KeepsJoin before mid → HadRules mid now → HadKept mid now → KeepsJoin before now
keeps_more before mid now first rules kept = record {
  rules = rules_more before mid now first.rules rules;
  kept = λ not. kept_more before mid now (first.kept not) kept;
  none = λ is build marks built marked. first.none is build marks (kept.build build built) (kept.marks marks marked);
}

-- the kept rows are put by their keys
pub keeps_keyed : {K J : Type 0} {a b : _} (build : BuildPhase K J a b) (probe : ProbePhase K J a b) → (arc_value probe.build).rules ≡ build.rules → (arc_value probe.build).asked ≡ build.asked → probe.job.value ≡ build.job.value → probe.asked_job.value ≡ build.asked_job.value
    → HaveHit (arc_value probe.build) probe.hits.seen.items [] → KeepsJoin {K = K} {J = J} {a = a} {b = b} (phases.Build build) (phases.Probe probe)
keeps_keyed build probe rules asked job asked_job none = record {
  rules = record { rules = λ x is. sym (ap Some rules) ∙ is; asked = λ x is. sym (ap Some asked) ∙ is; job = λ x is. sym (ap Some job) ∙ is; asked_job = λ x is. sym (ap Some asked_job) ∙ is };
  kept = λ not. absurd (not refl);
  none = λ is other marks built marked.
      let same_build : arc_value probe.build ≡ other = cc in let same_marks : probe.hits.seen.items ≡ marks = cc in
      subst (λ o. HaveHit o marks []) same_build (subst (λ ms. HaveHit (arc_value probe.build) ms []) same_marks none);
}
