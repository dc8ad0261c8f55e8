-- The kept rows of a join that none finds, taken into a group-by.
use Rattle.std.proofs.Common.{◌≡◌, ◌∷◌, [], ◌++◌, ℕ, Bool, true, false, if◌then◌else◌, List, Option, Some, None, IsSome, IfSome, All, map, refl, sym, ap, subst, ◌∙◌}
use Rattle.std.proofs.lemmas.List.Elements.{All-nil}
use Rattle.morsel_meaning.specs.declared.value.Field.{Field}
use Rattle.morsel_load.specs.Loads.{LoadSeen}
use Rattle.morsel_load.specs.declared.load.LoadKind.TheVariants.{Morsels}
use Rattle.morsel_join.specs.Sides.{KeptSide, wants_kept}
use Rattle.morsel_rows_job.specs.RowsJobs.{IsCutFor}
use Rattle.morsel_scan_units.specs.LaneJobs.{LaneFor, lane_fields}
use Rattle.morsel_scan_units.specs.LaneRows.{CarriesCuts}
use Rattle.morsel_group_units.specs.GroupAsks.{GroupRulesSeen}
use Rattle.morsel_group_units.specs.GroupKeepers.{GroupKeeperSeen, KeepsCutsOf}
use Rattle.morsel_group_units.specs.TakenLoads.{taken_cut}
use Rattle.morsel_group_units.specs.declared.taken_load.TakenLoad.{TakenLoad}
use Rattle.morsel_group_phases.specs.declared.places.GroupAt.TheVariants as at
use Rattle.morsel_group_phases.specs.declared.phase.GroupPhase.{GroupPhase}
use Rattle.morsel_group_phases.specs.GroupPhases.{StaysGroup, ends_of_group, frame_of_group, group_at, group_job, group_rules, past_ends}
use Rattle.morsel_join_plan.proofs.PhaseFacts.{some_same}
use Rattle.morsel_group_plan.specs.GroupLanes.{TakesTo}
use Rattle.morsel_group_plan.specs.JoinedLanes.{HasTakenNone, alone_lane, found_lane, joined_ends}
use Rattle.morsel_group_plan.proofs.CourseFacts.{takes_one}

-- lanes behind a join carry rows of its columns
pub found_cuts : (side : KeptSide) (rows found : LaneFor) (columns : List Field) → rows.kind ≡ Morsels → found ≡ found_lane side rows → columns ≡ side.rules.output → CarriesCuts found columns
found_cuts side rows found columns of_rows is have = record { kind = ap (λ (lane : LaneFor). lane.kind) is ∙ of_rows; have = ap lane_fields is ∙ sym have }

pub alone_cuts : (side : KeptSide) (rows alone : LaneFor) (columns : List Field) → rows.kind ≡ Morsels → alone ≡ alone_lane side rows → columns ≡ side.rules.output → CarriesCuts alone columns
alone_cuts side rows alone columns of_rows is have = record { kind = ap (λ (lane : LaneFor). lane.kind) is ∙ of_rows; have = ap lane_fields is ∙ sym have }

-- what has taken nothing keeps loads of any job of rows of its columns
pub keeps_none : {J : Type 0} (suits : J → LoadSeen → Type 0) (gives_cuts : J → List Field → Type 0) (keeper : GroupKeeperSeen) (job : J) → keeper.taken ≡ [] → gives_cuts job keeper.rules.columns → KeepsCutsOf suits gives_cuts keeper job
keeps_none suits gives_cuts keeper job none cuts = record { cuts = cuts; all = subst (λ (taken : List TakenLoad). All (IsCutFor suits job) (map taken_cut taken)) (sym none) (All-nil (IsCutFor suits job)) }

-- what was kept of the job that it has
pub kept_for : {J : Type 0} (suits : J → LoadSeen → Type 0) (gives_cuts : J → List Field → Type 0) (keeper : GroupKeeperSeen) (there : Option J) (job other : J) → there ≡ Some job → KeepsCutsOf suits gives_cuts keeper job → there ≡ Some other
    → All (IsCutFor suits other) (map taken_cut keeper.taken)
kept_for suits gives_cuts keeper there job other is keeps also = subst (λ (j : _). All (IsCutFor suits j) (map taken_cut keeper.taken)) (some_same job other (sym is ∙ also)) keeps.all

-- where the lanes before had ended, and rows were taken of others up to a place, that is where all end
pub took_last : {K : Type 0} {a b : _} (before begun now : GroupPhase K LaneFor a b) (lane : LaneFor) (to end : ℕ) → (group_at begun ≡ at.Sink) × (group_job begun ≡ Some lane) → group_rules begun ≡ group_rules before → ends_of_group before ≡ Some (past_ends begun)
    → (group_at now ≡ group_at begun) × (group_rules now ≡ group_rules begun) × (group_job now ≡ group_job begun) × (frame_of_group now ≡ frame_of_group begun) → StaysGroup begun now
    → ((job : LaneFor) → group_job now ≡ Some job → ends_of_group now ≡ Some (past_ends now ++ (job, to) ∷ [])) → to ≡ end
    → (group : GroupRulesSeen) (ends : List (LaneFor × ℕ)) → TakesTo before group ends → TakesTo now group (ends ++ (lane, end) ∷ [])
took_last before begun now lane to end begins same_rules ended same stays up_to is group ends takes =
    let there = same.2 ∙ begins.1 in
    let past : past_ends now ≡ ends = sym (stays.job lane there).1 ∙ some_same _ _ (sym ended ∙ takes.ends_are) in record {
      takes = same.0 ∙ begins.0;
      rules_are = same.1 ∙ same_rules ∙ takes.rules_are;
      ends_are = up_to lane there ∙ ap (λ (first : List (LaneFor × ℕ)). Some (first ++ (lane, to) ∷ [])) past ∙ ap (λ (n : ℕ). Some (ends ++ (lane, n) ∷ [])) is;
    }

-- where the kept rows that none finds are wanted, their lanes end behind the others, and else there are none
pub takes_with_alone : {K : Type 0} {a b : _} (phase : GroupPhase K LaneFor a b) (group : GroupRulesSeen) (side : KeptSide) (rows alone : LaneFor) (given : ℕ) → wants_kept side ≡ true → alone ≡ alone_lane side rows
    → TakesTo phase group ((found_lane side rows, given) ∷ (alone, 1) ∷ []) → TakesTo phase group (joined_ends side rows given)
takes_with_alone phase group side rows alone given wants is takes =
    subst (λ (wanted : Bool). TakesTo phase group ((found_lane side rows, given) ∷ (if wanted then (alone_lane side rows, 1) ∷ [] else []))) (sym wants)
    (subst (λ (lane : LaneFor). TakesTo phase group ((found_lane side rows, given) ∷ (lane, 1) ∷ [])) is takes)

pub takes_found : {K : Type 0} {a b : _} (phase : GroupPhase K LaneFor a b) (group : GroupRulesSeen) (side : KeptSide) (rows : LaneFor) (given : ℕ) → wants_kept side ≡ false → TakesTo phase group ((found_lane side rows, given) ∷ [])
    → TakesTo phase group (joined_ends side rows given)
takes_found phase group side rows given wants takes = subst (λ (wanted : Bool). TakesTo phase group ((found_lane side rows, given) ∷ (if wanted then (alone_lane side rows, 1) ∷ [] else []))) (sym wants) takes

-- the columns that are grouped are those of what it is asked for
pub columns_kept : {K : Type 0} {a b : _} (phase : GroupPhase K LaneFor a b) (rules : GroupRulesSeen) (ends : List (LaneFor × ℕ)) (columns : List Field) → TakesTo phase rules ends → rules.columns ≡ columns
    → (group : GroupRulesSeen) → group_rules phase ≡ Some group → group.columns ≡ columns
columns_kept phase rules ends columns takes have group is = ap (λ (r : GroupRulesSeen). r.columns) (some_same group rules (sym is ∙ takes.rules_are)) ∙ have

not_there : false ≡ true → ⊥
not_there e = cc

-- what follows of two facts of one that is there
pub some_gives : {X : Type 0} (P Q : X → Type 0) (R : Type 0) (there : Option X) → IsSome there → IfSome there P → IfSome there Q → ((x : X) → P x → Q x → R) → R
some_gives P Q R None is p q follows = absurd (not_there is)
some_gives P Q R (Some x) is p q follows = follows x p q

-- where nothing was taken before, all lanes are those that it took rows of
pub takes_first : {K : Type 0} {a b : _} (begun now : GroupPhase K LaneFor a b) (rules : GroupRulesSeen) (lane : LaneFor) (to : ℕ) → HasTakenNone begun rules lane → StaysGroup begun now → group_at now ≡ at.Sink
    → ((job : LaneFor) → group_job now ≡ Some job → ends_of_group now ≡ Some (past_ends now ++ (job, to) ∷ [])) → TakesTo now rules ((lane, to) ∷ [])
takes_first begun now rules lane to none stays takes ends = takes_one begun now rules lane to none.rules_are none.lane_is none.none stays takes ends
