use Rattle.std.proofs.Common.{◌≡◌, ◌||◌, ℕ, false, length, take, get_or}
use Rattle.std.specs.List.{list_any}
use Rattle.morsel_join.specs.Chains.{same_number}
use Rattle.morsel_join.proofs.probe.mark_seen.Given as goal

abbrev pub invariant-loop-number : goal.invariant-loop-number
invariant-loop-number l = record {
  len : length l.seen ≡ length l.initial.seen;
  marked : (m : ℕ) → get_or l.seen m false ≡ (get_or l.initial.seen m false || list_any (λ n. same_number (length l.initial.seen) n m) (take l.number-index l.numbers));
}
