-- What is told of a task that has ended: how its lanes ended, or its fault.
use Rattle.std.specs.Prelude.{◌≡◌, Result, Ok, Err, IsOk}
use Rattle.morsel_meaning.specs.declared.fault.Fault.{Fault}
use Rattle.morsel_meaning.specs.declared.fault.Fault.TheVariants as faults
use Rattle.morsel_prims.specs.declared.lane.Ended.{Ended}
use Rattle.morsel_prims.specs.declared.lane.Ended.TheVariants as ended
use Rattle.morsel_lane_pipe.specs.declared.receipts.PipeOut.{PipeOut}
use Rattle.morsel_lane_pipe.specs.declared.receipts.PipeOut.TheVariants.{Whole, Cut, OutOfMemory, Failed}
use Rattle.morsel_ports.specs.Nodes.{EndedBy, EndedCut, EndedWhole, UnitEnd}

-- of a unit: a cut as a cut, and a fault as that fault
abbrev pub TellsUnit : {R S : Type 0} → UnitEnd R S → Result Ended Fault → Type 0
TellsUnit (EndedWhole taken sent) told = IsOk told
TellsUnit EndedCut told = told ≡ Ok ended.Cut
TellsUnit (EndedBy fault) told = told ≡ Err fault

-- of a task of a pipe
abbrev pub TellsPipe : {R : Type 0} → PipeOut R → Result Ended Fault → Type 0
TellsPipe (Whole receipts) told = told ≡ Ok ended.Whole
TellsPipe Cut told = told ≡ Ok ended.Cut
TellsPipe OutOfMemory told = told ≡ Err faults.OutOfMemory
TellsPipe (Failed fault) told = told ≡ Err fault
