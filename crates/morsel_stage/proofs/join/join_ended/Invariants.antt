use Rattle.std.proofs.Common.{◌≡◌, ◌<◌, false, ℕ, Ok}
use Rattle.morsel_meaning.specs.declared.fault.Fault.{Fault}
use Rattle.morsel_prims.specs.declared.lane.Ended.TheVariants.{Whole}
use Rattle.morsel_local.specs.Sweeps.{output_at}
use Rattle.morsel_stage.specs.Joined.{AreJoined}
use Rattle.morsel_stage.specs.Unjoined.{unjoined}
use Rattle.morsel_stage.proofs.join.join_ended.Given as goal

-- the outputs that were not taken are owed, and the same faults may come
abbrev pub invariant-tasks : goal.invariant-tasks
invariant-tasks g l = record {
  owed : g.S.Stage.owes l.stage (unjoined l.local.tasks);
  stays : (begun : g.row.S.Denot) → g.S.Stage.stays begun l.fn.stage → g.S.Stage.stays begun l.stage;
  same_faults : (fault : Fault) → g.S.Stage.fails l.stage fault → g.S.Stage.fails l.fn.stage fault;
  same_cx : l.local.cx ≡ l.fn.local.cx;
  same_home : l.local.home ≡ l.fn.local.home;
  same_capacity : l.local.capacity ≡ l.fn.local.capacity;
  joined : l.stopped ≡ false → AreJoined (λ out. g.S.Stage.tells out (Ok Whole)) l.number l.fn.local.tasks l.local.tasks;
  others : (n : ℕ) → l.number < n → output_at l.local.tasks n ≡ output_at l.fn.local.tasks n;
}
