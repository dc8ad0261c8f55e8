-- What pairings of ends make of a pipe.
use Rattle.std.specs.Prelude.{ℕ, ◌+◌, Bool, if◌then◌else◌}
use Rattle.morsel_ports.specs.Pipes.{PipeStage, Direct, HalfParallel, HalfSerial, ToMerge, ToSpread}
use Rattle.morsel_ports_uses.specs.declared.pairings.Pairing.{Pairing}

-- the next node has one receiving end, or several
abbrev pub half_stage : Bool → PipeStage
half_stage takes_one = if takes_one then HalfSerial else HalfParallel

-- both nodes have their ends: one sending end, or several, and one receiving end, or several
abbrev pub made_stage : Bool → Bool → PipeStage
made_stage sends_one takes_one = if sends_one then (if takes_one then Direct else ToSpread) else (if takes_one then ToMerge else Direct)

-- how many tasks stand between the ends
abbrev pub tasks_between : Pairing → ℕ → ℕ
tasks_between pairing pipelines = if pairing.sends_one then (if pairing.takes_one then 0 else pipelines + 1) else (if pairing.takes_one then pipelines + 1 else 0)
