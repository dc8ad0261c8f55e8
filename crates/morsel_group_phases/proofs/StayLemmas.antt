-- What a group-by still has, from what stays of it.
use Rattle.std.proofs.Common.{◌≡◌, ◌⊎◌, inl, inr, ⊎_elim, ℕ, List, None, Some, map, refl, sym, ◌∙◌, ap}
use Rattle.std.specs.Prelude.{Vec}
use Rattle.std.specs.declared.alloc.Global.{Global}
use Rattle.std.specs.declared.snapshot.Snapshot.{Snapshot}
use Rattle.morsel_meaning.specs.Values.{Table}
use Rattle.morsel_group_phases.specs.declared.lane_end.LaneEnd.{LaneEnd}
use Rattle.morsel_group_phases.specs.declared.sink_phase.SinkPhase.{SinkPhase}
use Rattle.morsel_group_phases.specs.declared.source_phase.SourcePhase.{SourcePhase}
use Rattle.morsel_group_phases.specs.declared.phase.GroupPhase.{GroupPhase}
use Rattle.morsel_group_phases.specs.declared.phase.GroupPhase.TheVariants as phases
use Rattle.morsel_group_phases.specs.LaneEnds.{lane_ended}
use Rattle.morsel_group_phases.specs.GroupPhases.{StaysGroup}

none_some : {X : Type 0} (P : Type 0) (x : X) → None ≡ Some x → P
none_some P x is = absurd (cc)

-- nothing changes
pub stays_same : {K J : Type 0} {a b : _} (phase : GroupPhase K J a b) → StaysGroup phase phase
stays_same phase = record { at = inl refl; rules = λ x is. is; job = λ x is. (is, refl); frame = λ x is. is }

-- it has nothing any more
pub stays_done : {K J : Type 0} {a b : _} (phase : GroupPhase K J a b) → StaysGroup phase phases.Done
stays_done phase = record { at = inr refl; rules = λ x is. none_some _ x is; job = λ x is. none_some _ x is; frame = λ x is. none_some _ x is }

-- one change after the other
pub stays_more : {K J : Type 0} {a b : _} (before mid now : GroupPhase K J a b) → StaysGroup before mid → StaysGroup mid now → StaysGroup before now
stays_more before mid now first then = record {
  at = ⊎_elim (λ same. ⊎_elim (λ is. inl (same ∙ is)) (λ done. inr (same ∙ done)) first.at) (λ done. inr done) then.at;
  rules = λ x is. first.rules x (then.rules x is);
  job = λ x is. let later = then.job x is in let here = first.job x later.0 in (here.0, here.1 ∙ later.1);
  frame = λ x is. first.frame x (then.frame x is);
}

-- more was taken
pub stays_taken : {K J : Type 0} {a b : _} (before now : SinkPhase K J a b) → now.job ≡ before.job → now.ends ≡ before.ends → now.taken.rules ≡ before.taken.rules → StaysGroup {K = K} {J = J} {a = a} {b = b} (phases.Sink before) (phases.Sink now)
stays_taken {K} {J} before now job ends rules = record {
  at = inl refl;
  rules = λ x is. sym (ap Some rules) ∙ is;
  job = λ x is. (sym (ap (λ (j : Snapshot J). Some j.value) job) ∙ is, ap (λ (es : Vec (LaneEnd J) Global). map lane_ended es.items) (sym ends));
  frame = λ x is. none_some _ x is;
}

-- a unit has its rows
pub stays_giving : {K J : Type 0} {a b : _} (source : SourcePhase K J a b) (frame : Snapshot Table) → frame.value ≡ source.grouped.frame → StaysGroup {K = K} {J = J} {a = a} {b = b} (phases.Source source) (phases.Giving frame)
stays_giving source frame same = record { at = inl refl; rules = λ x is. none_some _ x is; job = λ x is. none_some _ x is; frame = λ x is. sym (ap Some same) ∙ is }

-- all of them were given
pub stays_given : {K J : Type 0} {a b : _} (frame : Snapshot Table) → StaysGroup {K = K} {J = J} {a = a} {b = b} (phases.Giving frame) (phases.Given frame)
stays_given frame = record { at = inl refl; rules = λ x is. is; job = λ x is. none_some _ x is; frame = λ x is. is }
