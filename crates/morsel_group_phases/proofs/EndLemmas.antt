-- The rows of lanes that ended.
use Rattle.std.proofs.Common.{◌≡◌, ◌⊎◌, ◌++◌, [], ◌∷◌, All, List, ℕ, map, refl, sym, ap, subst, ◌∙◌, append_assoc, inl, inr}
use Rattle.std.specs.List.{flat_map}
use Rattle.std.specs.Prelude.{IsPermutation}
use Rattle.std.proofs.Math.Logic.{∥∥₁_elim, ∥∥₁_map, ∥∥₁_prop}
use Rattle.std.proofs.lemmas.List.{append-nil, map-append}
use Rattle.std.proofs.lemmas.List.Concat.{flat_map-append}
use Rattle.std.proofs.lemmas.List.Elements.{All-append, All-cons, All-head, All-map, All-nil, All-tail}
use Rattle.std.proofs.lemmas.List.Sorted.{All-permutation}
use Rattle.morsel_meaning.specs.declared.fault.Fault.{Fault}
use Rattle.morsel_meaning.specs.declared.fault.Fault.TheVariants as faults
use Rattle.morsel_meaning.specs.declared.value.Field.{Field}
use Rattle.morsel_meaning.specs.Values.{Row}
use Rattle.morsel_load.specs.Loads.{LoadSeen}
use Rattle.morsel_group.specs.GroupCauses.{GroupCause}
use Rattle.morsel_group_units.specs.GroupAsks.{GroupRulesSeen, rules_shape}
use Rattle.morsel_rows_job.specs.RowsJobs.{FollowCuts, IsCutFor, RowsCut, rows_of_cuts}
use Rattle.morsel_group_units.specs.TakenLoads.{HasOrdered, rows_taken, taken_cut}
use Rattle.morsel_group_units.specs.declared.taken_load.TakenLoad.{TakenLoad}
use Rattle.morsel_group_phases.specs.LaneEnds.{TookFrom}

-- what lanes give behind the others
took_push : {J : Type 0} (yields : J → ℕ → List Row → Type 0) (ends : List (J × ℕ)) (end : J × ℕ) (rows own : List Row) → TookFrom yields ends rows → yields end.0 end.1 own → TookFrom yields (ends ++ end ∷ []) (rows ++ own)
took_push yields [] end rows own took gives = (own, [], gives, refl, ap (λ (rs : List Row). rs ++ own) took ∙ sym (append-nil own))
took_push yields (first ∷ ends) end rows own took gives =
    let more = took_push yields ends end took.1 own took.3 gives in
    (took.0, took.1 ++ own, took.2, more, ap (λ (rs : List Row). rs ++ own) took.4 ∙ append_assoc took.0 took.1 own)

rows_append : (loads more : List TakenLoad) → rows_taken (loads ++ more) ≡ rows_taken loads ++ rows_taken more
rows_append loads more = ap rows_of_cuts (map-append taken_cut loads more) ∙ flat_map-append (λ (cut : RowsCut). cut.frame.rows) (map taken_cut loads) (map taken_cut more)

-- what is so of the cuts of loads is so of those of the same loads in another order
all_along : (P : RowsCut → Type 0) (loads ordered : List TakenLoad) → IsPermutation loads ordered → All P (map taken_cut loads) → All P (map taken_cut ordered)
all_along P loads ordered same all = All-map P taken_cut ordered (All-permutation (λ (load : TakenLoad). P (taken_cut load)) loads ordered same (each loads all))
  where
    each : (ls : List TakenLoad) → All P (map taken_cut ls) → All (λ (load : TakenLoad). P (taken_cut load)) ls
    each [] all = All-nil (λ (load : TakenLoad). P (taken_cut load))
    each (l ∷ ls) all = All-cons (λ (load : TakenLoad). P (taken_cut load)) l ls (All-head P (taken_cut l) (map taken_cut ls) all) (each ls (All-tail P (taken_cut l) (map taken_cut ls) all))

-- where the present lanes end, what was taken is the rows of all of them
pub took_closed : {J : Type 0} (suits : J → LoadSeen → Type 0) (gives_cuts : J → List Field → Type 0) (yields : J → ℕ → List Row → Type 0) (job : J) (columns : List Field)
    → ((cuts : List RowsCut) (to : ℕ) → gives_cuts job columns → All (IsCutFor suits job) cuts → FollowCuts cuts to → yields job to (rows_of_cuts cuts))
    → (ends now : List (J × ℕ)) (to : ℕ) (before loads ordered : List TakenLoad) → now ≡ ends ++ (job, to) ∷ [] → HasOrdered before loads ordered to → ∥ gives_cuts job columns ∥₁ → ∥ All (IsCutFor suits job) (map taken_cut loads) ∥₁ → ∥ TookFrom yields ends (rows_taken before) ∥₁
    → ∥ TookFrom yields now (rows_taken ordered) ∥₁
took_closed suits gives_cuts yields job columns law ends now to before loads ordered is has cuts all took =
    ∥∥₁_elim cuts ∥∥₁_prop (λ gives. ∥∥₁_elim all ∥∥₁_prop (λ suited. ∥∥₁_map took (λ past.
    let own = law (map taken_cut has.ordered) to gives (all_along (IsCutFor suits job) loads has.ordered has.same suited) has.follow in
    let more = took_push yields ends (job, to) (rows_taken before) (rows_taken has.ordered) past own in
    let rows : rows_taken ordered ≡ rows_taken before ++ rows_taken has.ordered = ap rows_taken has.now_is ∙ rows_append before has.ordered in
    subst (λ es. TookFrom yields es (rows_taken ordered)) (sym is) (subst (λ (rs : List Row). TookFrom yields (ends ++ (job, to) ∷ []) rs) (sym rows) more))))

-- with what a unit took, or without it
pub suits_more : (P : RowsCut → Type 0) (loads more now : List TakenLoad) → (now ≡ loads ++ more) ⊎ (now ≡ loads) → ∥ All P (map taken_cut loads) ∥₁ → All P (map taken_cut more) → ∥ All P (map taken_cut now) ∥₁
suits_more P loads more now (inl is) all own =
    ∥∥₁_map all (λ a. subst (λ (ls : List TakenLoad). All P (map taken_cut ls)) (sym is) (subst (All P) (sym (map-append taken_cut loads more)) (All-append P (map taken_cut loads) (map taken_cut more) a own)))
suits_more P loads more now (inr is) all own = subst (λ (ls : List TakenLoad). ∥ All P (map taken_cut ls) ∥₁) (sym is) all

-- nothing was taken
pub suits_none : (P : RowsCut → Type 0) (loads : List TakenLoad) → loads ≡ [] → All P (map taken_cut loads)
suits_none P loads none = subst (λ (ls : List TakenLoad). All P (map taken_cut ls)) (sym none) (All-nil P)

pub took_none : {J : Type 0} (yields : J → ℕ → List Row → Type 0) (ends : List (J × ℕ)) (loads : List TakenLoad) → ends ≡ [] → loads ≡ [] → TookFrom yields ends (rows_taken loads)
took_none yields ends loads none no_loads = subst (λ es. TookFrom yields es (rows_taken loads)) (sym none) (ap rows_taken no_loads)

-- of the rows of all lanes the group-by has no answer
pub cause_taken : {J : Type 0} (yields : J → ℕ → List Row → Type 0) (ends now : List (J × ℕ)) (rules before : GroupRulesSeen) (loads : List TakenLoad) (fault : Fault) → now ≡ ends → rules ≡ before → ∥ TookFrom yields now (rows_taken loads) ∥₁
    → (fault ≡ faults.OutOfMemory) ⊎ GroupCause (rules_shape rules) (rows_taken loads) fault → (fault ≡ faults.OutOfMemory) ⊎ ((rows : List Row) × ∥ TookFrom yields ends rows ∥₁ × GroupCause (rules_shape before) rows fault)
cause_taken yields ends now rules before loads fault is same took (inl memory) = inl memory
cause_taken yields ends now rules before loads fault is same took (inr cause) =
    inr (rows_taken loads, subst (λ es. ∥ TookFrom yields es (rows_taken loads) ∥₁) is took, subst (λ (r : GroupRulesSeen). GroupCause (rules_shape r) (rows_taken loads) fault) same cause)
