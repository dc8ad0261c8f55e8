use Rattle.std.proofs.Common.{◌≡◌, ◌<◌, take, drop, length, get_or, []}
use Rattle.morsel_frame.specs.Tables.{cells_at}
use Rattle.morsel_keys.specs.Slots.{no_number}
use Rattle.morsel_row_keys.specs.Chains.{NumbersChain}
use Rattle.morsel_row_keys.proofs.chain.insert_chain.Given as goal

abbrev pub invariant-loop-i : goal.invariant-loop-i
invariant-loop-i l = record {
  len : length l.tables ≡ length l.initial.tables;
  low : l.number < no_number;
  rest : drop l.i l.tables ≡ drop l.i l.initial.tables;
  done : NumbersChain (take l.i l.initial.tables) l.first (cells_at (take l.i l.columns) (get_or l.frame.rows l.row [])) l.number (take l.i l.tables);
}
