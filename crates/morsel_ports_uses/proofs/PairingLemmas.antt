-- What the pairings of ends make of a pipe.
use Rattle.std.proofs.Common.{◌≡◌, ◌+◌, ℕ, Bool, true, false, if◌then◌else◌, List, [], length, refl, ap, ◌∙◌}
use Rattle.morsel_ports.specs.Pipes.{Direct, PipeStage, is_direct, is_made}
use Rattle.morsel_ports_uses.specs.Pairings.{made_stage}

-- both nodes have their ends
pub made_stage-made : (sends_one takes_one : Bool) (stage : PipeStage) → stage ≡ made_stage sends_one takes_one → is_made stage ≡ true
made_stage-made true true stage is = ap is_made is
made_stage-made true false stage is = ap is_made is
made_stage-made false true stage is = ap is_made is
made_stage-made false false stage is = ap is_made is

-- and how many tasks the pipe has
pub made_stage-tasks : {T : Type 0} (sends_one takes_one : Bool) (stage : PipeStage) (of pipelines : ℕ) (tasks : List T) → stage ≡ made_stage sends_one takes_one → (is_direct (made_stage sends_one takes_one) ≡ false → of ≡ pipelines)
    → (stage ≡ Direct → tasks ≡ []) → (is_direct stage ≡ false → length tasks ≡ of + 1) → length tasks ≡ (if sends_one then (if takes_one then 0 else pipelines + 1) else (if takes_one then pipelines + 1 else 0))
made_stage-tasks true true stage of pipelines tasks is same none some = ap length (none is)
made_stage-tasks true false stage of pipelines tasks is same none some = some (ap is_direct is) ∙ ap (λ n. n + 1) (same refl)
made_stage-tasks false true stage of pipelines tasks is same none some = some (ap is_direct is) ∙ ap (λ n. n + 1) (same refl)
made_stage-tasks false false stage of pipelines tasks is same none some = ap length (none is)
