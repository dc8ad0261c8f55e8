-- What stays of a group-by from one phase to the next.
use Rattle.std.proofs.Common.{◌≡◌, ◌≤◌, ◌++◌, ◌∷◌, [], ℕ, List, None, Some, length, map, refl, sym, ◌∙◌, ap, subst}
use Rattle.morsel_meaning.specs.Values.{Row, Table}
use Rattle.morsel_group.specs.Grouping.{Grouped}
use Rattle.morsel_group.specs.GroupCauses.{FitsGroups}
use Rattle.morsel_group_units.specs.GroupAsks.{GroupRulesSeen, rules_output, rules_shape}
use Rattle.morsel_group_units.specs.GroupKeepers.{AreGroupedRows}
use Rattle.morsel_group_units.specs.TakenLoads.{greatest_place, rows_taken}
use Rattle.morsel_group_phases.specs.declared.sink_phase.SinkPhase.{SinkPhase}
use Rattle.morsel_group_phases.specs.declared.source_phase.SourcePhase.{SourcePhase}
use Rattle.morsel_group_phases.specs.declared.phase.GroupPhase.{GroupPhase}
use Rattle.morsel_group_phases.specs.declared.phase.GroupPhase.TheVariants as phases
use Rattle.morsel_group_phases.specs.LaneEnds.{TookFrom, lane_ended}
use Rattle.morsel_group_phases.specs.SinkPhases.{sink_ends}
use Rattle.morsel_group_phases.specs.GroupPhases.{GivesGroupsOf, HadGroup, KeepsGroup, ends_of_group, group_job, group_rules, past_ends}

none_some : {X : Type 0} (P : Type 0) (x : X) → None ≡ Some x → P
none_some P x is = absurd (cc)

-- nothing changes
pub had_same : {K J : Type 0} {a b : _} (phase : GroupPhase K J a b) → HadGroup phase phase
had_same phase = record { rules = λ x is. is; ends = λ x is. is; frame = λ x is. is }

pub keeps_same : {K J : Type 0} {a b : _} (phase : GroupPhase K J a b) → KeepsGroup phase phase
keeps_same phase = record { rules = λ x is. is; ends = λ x is. is; frame = λ not x is. is }

-- it has nothing any more
pub had_done : {K J : Type 0} {a b : _} (phase : GroupPhase K J a b) → HadGroup phase phases.Done
had_done phase = record { rules = λ x is. none_some _ x is; ends = λ x is. none_some _ x is; frame = λ x is. none_some _ x is }

pub keeps_done : {K J : Type 0} {a b : _} (phase : GroupPhase K J a b) → KeepsGroup phase phases.Done
keeps_done phase = record { rules = λ x is. none_some _ x is; ends = λ x is. none_some _ x is; frame = λ not x is. none_some _ x is }

-- one move after the other
pub keeps_more : {K J : Type 0} {a b : _} (before mid now : GroupPhase K J a b) → KeepsGroup before mid → HadGroup mid now → KeepsGroup before now
keeps_more before mid now first then = record {
  rules = λ x is. first.rules x (then.rules x is);
  ends = λ x is. first.ends x (then.ends x is);
  frame = λ not x is. first.frame not x (then.frame x is);
}

-- the rows that were taken are grouped
pub keeps_grouped : {K J : Type 0} {a b : _} (sink : SinkPhase K J a b) (source : SourcePhase K J a b) → source.grouped.rules ≡ sink.taken.rules → map lane_ended source.ends.items ≡ sink_ends sink
    → KeepsGroup {K = K} {J = J} {a = a} {b = b} (phases.Sink sink) (phases.Source source)
keeps_grouped sink source rules ends = record {
  rules = λ x is. sym (ap Some rules) ∙ is;
  ends = λ x is. sym (ap Some ends) ∙ is;
  frame = λ not. absurd (not refl);
}

-- up to where the present lanes go that rows were taken from
pub taken_ends : {K J : Type 0} {a b : _} (phase : GroupPhase K J a b) (sink : SinkPhase K J a b) (to : ℕ) → phase ≡ phases.Sink sink → to ≡ greatest_place sink.taken.taken → (job : J) → group_job phase ≡ Some job → ends_of_group phase ≡ Some (past_ends phase ++ (job, to) ∷ [])
taken_ends {K} {J} phase sink to there is job job_is =
    let both : Some sink.job.value ≡ Some job = sym (ap group_job there) ∙ job_is in
    let same : sink.job.value ≡ job = cc in
    let at_end : (sink.job.value, greatest_place sink.taken.taken) ≡ (job, to) = ap (λ (j : J). (j, greatest_place sink.taken.taken)) same ∙ ap (λ (n : ℕ). (job, n)) (sym is) in
    ap ends_of_group there ∙ ap (λ (end : J × ℕ). Some (map lane_ended sink.ends.items ++ end ∷ [])) at_end ∙ ap (λ p. Some (past_ends p ++ (job, to) ∷ [])) (sym there)

-- its rows are those of the group-by of all rows of its lanes
pub gives_groups : {K J : Type 0} {a b : _} (yields : J → ℕ → List Row → Type 0) (phase : GroupPhase K J a b) (source : SourcePhase K J a b) (frame : Table) → phase ≡ phases.Source source → frame ≡ source.grouped.frame → AreGroupedRows source.grouped
    → ∥ TookFrom yields (map lane_ended source.ends.items) (rows_taken source.grouped.taken) ∥₁ → (rules : GroupRulesSeen) → group_rules phase ≡ Some rules → GivesGroupsOf yields phase rules frame
gives_groups {K} {J} yields phase source frame there frame_is are took rules rules_are =
    let both : Some source.grouped.rules ≡ Some rules = sym (ap group_rules there) ∙ rules_are in
    let same : source.grouped.rules ≡ rules = cc in
    let grouped = subst (λ (r : GroupRulesSeen). Grouped (rules_shape r) (rows_taken source.grouped.taken) source.grouped.frame.rows) same are.grouped in
    record {
      rows = rows_taken source.grouped.taken;
      took = λ ends is.
          let all : Some (map lane_ended source.ends.items) ≡ Some ends = sym (ap ends_of_group there) ∙ is in
          let ends_are : map lane_ended source.ends.items ≡ ends = cc in
          subst (λ (es : List (J × ℕ)). ∥ TookFrom yields es (rows_taken source.grouped.taken) ∥₁) ends_are took;
      columns = ap (λ (t : Table). t.schema) frame_is ∙ are.columns ∙ ap rules_output same;
      grouped = subst (λ (t : Table). Grouped (rules_shape rules) (rows_taken source.grouped.taken) t.rows) (sym frame_is) grouped;
      fits = subst (λ (r : GroupRulesSeen). FitsGroups (rules_shape r) (rows_taken source.grouped.taken)) same are.fits;
      few = subst (λ (t : Table). length t.rows ≤ length (rows_taken source.grouped.taken)) (sym frame_is) are.few;
    }
