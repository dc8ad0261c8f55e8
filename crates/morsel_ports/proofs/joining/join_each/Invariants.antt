use Rattle.std.proofs.Common.{◌≡◌, ◌++◌, All, Some, map}
use Rattle.std.specs.Vec.Iter.{into_iter_items}
use Rattle.morsel_prims.specs.Waiting.{SameWaiting}
use Rattle.morsel_ports.specs.Between.{tasks_by_pairs}
use Rattle.morsel_ports.specs.Joining.{MayJoin}
use Rattle.morsel_ports.proofs.joining.join_each.Given as goal

abbrev pub invariant-pairs : goal.invariant-pairs
invariant-pairs g l = record {
  left : MayJoin (g.C.JoinsEnds.may_join (g.B.Board.id l.fn.board)) (into_iter_items l.from-iterator) (into_iter_items l.others);
  can_step : All (g.C.JoinsEnds.can_step (g.B.Board.id l.fn.board)) l.tasks.items;
  lanes : map (λ task. Some (g.C.JoinsEnds.lanes task)) l.tasks.items ++ tasks_by_pairs g.C.JoinsEnds.kind (g.B.Board.id l.fn.board).lane_table (map g.C.JoinsEnds.lane_from (into_iter_items l.from-iterator)) (map g.C.JoinsEnds.lane_to (into_iter_items l.others))
      ≡ tasks_by_pairs g.C.JoinsEnds.kind (g.B.Board.id l.fn.board).lane_table (map g.C.JoinsEnds.lane_from l.fn.froms.items) (map g.C.JoinsEnds.lane_to l.fn.tos.items);
  waiting : SameWaiting (g.B.Board.waits_at l.fn.board) (g.B.Board.waits_at l.board);
  board : g.B.Board.id l.board ≡ g.B.Board.id l.fn.board;
}
