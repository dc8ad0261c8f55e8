-- What a run answers beside what comes back.
use Rattle.std.specs.Prelude.{ℕ, Result, Ok, Err}
use Rattle.morsel_meaning.specs.declared.fault.Fault.{Fault}

-- the number that is answered beside whatever comes back, or the fault
abbrev pub answer_beside : {N : Type 0} → Result (N × ℕ) Fault → Result ℕ Fault
answer_beside (Ok (node, number)) = Ok number
answer_beside (Err fault) = Err fault
