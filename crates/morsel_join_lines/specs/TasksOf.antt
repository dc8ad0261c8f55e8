-- The tasks of a stage.
use Rattle.std.specs.Prelude.{List, All}
use Rattle.morsel_meaning.specs.declared.fault.Fault.{Fault}

-- the tasks are those of this stage, each may be polled, and the stage ends by these faults alone
pub record AreTasksOf {S T : Type 0} (owes : S → List T → Type 0) (fails : S → Fault → Type 0) (can_poll : T → Type 0) (may_fail : Fault → Type 0) (stage : S) (tasks : List T) : Type 0 where
  pub owed : owes stage tasks
  pub polled : All can_poll tasks
  pub faults : (fault : Fault) → fails stage fault → may_fail fault
