use Rattle.std.proofs.Common.{◌≡◌, take, map, length}
use Rattle.morsel_frame.specs.Tables.{cell_at}
use Rattle.morsel_row_keys.specs.Chains.{LooksUpChain}
use Rattle.morsel_row_keys.proofs.chain.look_up_chain.Given as goal

abbrev pub invariant-loop-i : goal.invariant-loop-i
invariant-loop-i l = record {
  len : length l.numbers ≡ length l.initial.numbers;
  done : LooksUpChain (take l.i l.tables) l.initial.numbers (map (λ at. map (cell_at at) l.frame.rows) (take l.i l.columns)) l.numbers;
}
