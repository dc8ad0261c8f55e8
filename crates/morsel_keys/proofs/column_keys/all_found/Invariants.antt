use Rattle.std.proofs.Common.{◌≡◌, ◌≢◌, ◌<◌, ℕ, true, get_or}
use Rattle.morsel_keys.specs.Slots.{no_number}
use Rattle.morsel_keys.proofs.column_keys.all_found.Given as goal

abbrev pub invariant-loop-i : goal.invariant-loop-i
invariant-loop-i l = l.all ≡ true → (k : ℕ) → k < l.i → get_or l.ats k 0 ≢ no_number
