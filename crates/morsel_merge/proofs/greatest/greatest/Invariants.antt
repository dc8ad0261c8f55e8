use Rattle.std.proofs.Common.{◌≡◌, ℕ, ◌<◌, false, None, Some, slice_index_or, length}
use Rattle.std.specs.Ordering.{is_gt}
use Rattle.morsel_merge.proofs.greatest.greatest.Given as goal

abbrev pub invariant-loop-lane : goal.invariant-loop-lane
invariant-loop-lane g l = Rattle.std.specs.Option.MatchOption l.best
    ((j : ℕ) → j < l.lane → slice_index_or l.held j None ≡ None)
    (λ best. (best.0 < length l.held) × (slice_index_or l.held best.0 None ≡ Some best.1.now) × ((j : ℕ) (other : _) → j < l.lane → slice_index_or l.held j None ≡ Some other → is_gt (g.T.Ord.cmp other best.1.now) ≡ false))
