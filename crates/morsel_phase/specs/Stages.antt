-- Whose the tasks of a phase are.
use Rattle.std.specs.Prelude.{◌≡◌, ℕ, List, All, length}
use Rattle.morsel_meaning.specs.declared.fault.Fault.{Fault}
use Rattle.morsel_lane_pipe.specs.declared.receipts.PipeOut.{PipeOut}
use Rattle.morsel_lane_pipe.specs.declared.receipts.PipeOut.TheVariants.{Failed}

-- the units that a node has given out and not taken back: as many as are out, each its own, and each may end by these faults alone
pub record HasOut {U : Type 0} (out : ℕ) (is_unit : U → Type 0) (unit_fails : U → Fault → Type 0) (may_fail : Fault → Type 0) (units : List U) : Type 0 where
  pub count : out ≡ length units
  pub own : All is_unit units
  pub fails : All (λ unit. (fault : Fault) → unit_fails unit fault → may_fail fault) units

-- the task does not end by a fault
abbrev pub HasNoFault : {T R : Type 0} → (T → PipeOut R → Type 0) → T → Type 0
HasNoFault gives task = (fault : Fault) → gives task (Failed fault) → ⊥
