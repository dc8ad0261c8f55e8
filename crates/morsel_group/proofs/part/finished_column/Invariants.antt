use Rattle.std.proofs.Common.{◌≡◌, ◌≤◌, ◌<◌, ℕ, map, take, length, get_or, None}
use Rattle.morsel_keys.specs.Reductions.{finished, total_fault}
use Rattle.morsel_group.proofs.part.finished_column.Given as goal

abbrev pub invariant-loop-group : goal.invariant-loop-group
invariant-loop-group l = record {
  kind : l.column.kind ≡ l.fn.part.kind;
  values : l.column.values ≡ map (finished l.fn.part.states.op) (take l.group l.fn.part.states.entries);
  op : l.states.op ≡ l.fn.part.states.op;
  states_kind : l.states.kind ≡ l.fn.part.states.kind;
  len : length l.states.entries ≡ length l.fn.part.states.entries;
  rest : (k : ℕ) → l.group ≤ k → get_or l.states.entries k None ≡ get_or l.fn.part.states.entries k None;
  none : (k : ℕ) → k < l.group → total_fault l.fn.part.states.op (get_or l.fn.part.states.entries k None) ≡ None;
}
