-- Loads on the lanes of a site.
use Rattle.std.proofs.Common.{◌≡◌, Option, None, Some, IfSome, Result, Ok, Err, IfOk, subst}
use Rattle.atomic_table.specs.Seated.{TableId}
use Rattle.morsel_load.specs.Loads.{LoadSeen, held_token, load_seen}
use Rattle.morsel_load.specs.declared.load.Load.{Load}
use Rattle.morsel_lane_pipe.specs.Tasks.{HoldsTokensOf}

-- of what is there, this is true too
if_some_map : {X : Type 0} {P Q : X → Type 0} (o : Option X) → ((x : X) → P x → Q x) → IfSome o P → IfSome o Q
if_some_map None f is = tt
if_some_map (Some x) f is = f x is

-- a load that an end for this job gave has a token of this table
pub taken_token : {K J E : Type 0} (suits : J → LoadSeen → Type 0) (holds : J → K → Type 0) (home : K → TableId) (table : TableId) (job end_job : J) (result : Result (Load K J) E) → end_job ≡ job → HoldsTokensOf holds home job table → IfOk result (λ load. suits end_job (load_seen load) × IfSome (held_token load) (holds end_job)) → IfOk result (λ load. IfSome (held_token load) (λ token. home token ≡ table))
taken_token suits holds home table job end_job (Ok load) same tokens suited = if_some_map (held_token load) (λ k is. (tokens k).0 (subst (λ j. holds j k) same is)) suited.1
taken_token suits holds home table job end_job (Err refusal) same tokens suited = tt
