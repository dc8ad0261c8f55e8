-- What is so of what comes back from a run.
use Rattle.std.specs.Prelude.{◌≡◌, ℕ, IfOk, OnOk, Result, Ok, Err}
use Rattle.std.proofs.Common.{subst, sym}
use Rattle.morsel_meaning.specs.declared.fault.Fault.{Fault}
use Rattle.morsel_probe_run.specs.declared.probe_end.ProbeEnd.{ProbeEnd}
use Rattle.morsel_probe_run.specs.ProbeRuns.{rows_written}

-- what is so of a stage is so of what comes back, where that is the stage
pub node_back : {M : Type 0} (result : Result (ProbeEnd M) Fault) (node : M) (P : M → Type 0) → IfOk result (λ end. end.node ≡ node) → P node → IfOk result (λ end. P end.node)
node_back (Ok end) node P is so = subst P (sym is) so
node_back (Err fault) node P is so = tt

never : (rows : ℕ) (fault : Fault) → ◌≡◌ {A = Result ℕ Fault} (Ok rows) (Err fault) → ⊥
never rows fault e = cc

-- what is so of a place where rows are answered is so of the place that comes back, where that is it
pub given_back : {M : Type 0} (result : Result (ProbeEnd M) Fault) (answer : Result ℕ Fault) (given : ℕ) (P : ℕ → Type 0) → rows_written result ≡ answer → IfOk result (λ end. end.given ≡ given)
    → OnOk answer (P given) → IfOk result (λ end. P end.given)
given_back (Ok end) (Ok rows) given P same is so = subst P (sym is) so
given_back (Ok end) (Err fault) given P same is so = absurd (never end.rows fault same)
given_back (Err fault) answer given P same is so = tt
