-- The faults by which tasks of a line may end.
use Rattle.std.proofs.Common.{◌≡◌, ◌⊎◌, inl, inr, sym, subst}
use Rattle.morsel_meaning.specs.declared.fault.Fault.{Fault}
use Rattle.morsel_meaning.specs.declared.fault.Fault.TheVariants.{OutOfMemory}
use Rattle.morsel_scan_units.specs.LaneJobs.{LaneFor, IsUnitFault}

out_of_memory : (lane : LaneFor) → IsUnitFault lane OutOfMemory
out_of_memory lane = (tt, λ job tells. tt)

-- memory is out, or one of two nodes has a fault that units may end by
pub either_fault : (lane : LaneFor) (fault : Fault) (First Last : Type 0) → (fault ≡ OutOfMemory) ⊎ First ⊎ Last → (First → IsUnitFault lane fault) → (Last → IsUnitFault lane fault) → IsUnitFault lane fault
either_fault lane fault First Last (inl out) first last = subst (IsUnitFault lane) (sym out) (out_of_memory lane)
either_fault lane fault First Last (inr (inl one)) first last = first one
either_fault lane fault First Last (inr (inr other)) first last = last other
