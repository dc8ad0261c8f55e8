-- The faults by which tasks of a line may end.
use Rattle.std.proofs.Common.{◌≡◌, ◌⊎◌, inl, inr, sym, subst}
use Rattle.morsel_meaning.specs.declared.fault.Fault.{Fault}
use Rattle.morsel_meaning.specs.declared.fault.Fault.TheVariants.{OutOfMemory}
use Rattle.morsel_scan_units.specs.LaneJobs.{LaneFor, IsUnitFault}

pub memory_fault : (lane : LaneFor) (fault : Fault) → fault ≡ OutOfMemory → IsUnitFault lane fault
memory_fault lane fault is = subst (IsUnitFault lane) (sym is) (tt, λ job tells. tt)

-- what follows from each of two follows from either
pub from_either : (First Second May : Type 0) → (First → May) → (Second → May) → First ⊎ Second → May
from_either First Second May one other (inl first) = one first
from_either First Second May one other (inr second) = other second
