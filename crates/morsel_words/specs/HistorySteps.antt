-- What a look makes of what the seats of both ends know, once they are together.
use Rattle.std.specs.Prelude.{◌≡◌, ℕ, Option}
use Rattle.atomic_table.specs.Table.{Step}
use Rattle.morsel_prims.specs.Polled.{LaneHistory}
use Rattle.morsel_words.specs.declared.view.LaneView.{LaneView}
use Rattle.morsel_words.specs.Steps.{AtLane}
use Rattle.morsel_words.specs.CloseSteps.{spent_view}

-- the seat of both ends finds that what was taken is the beginning of what was sent
abbrev pub FindsHistory : {T J : Type 0} → Step (Option T) → AtLane T J → ℕ → AtLane T J → Type 0
FindsHistory st m n m' = (m' ≡ m) × LaneHistory m.0.sending.sent m.0.taking.taken 1

-- a seat that knows nothing is parted from one that keeps what it knows
abbrev pub kept_view : {T J : Type 0} → LaneView T J → LaneView T J
kept_view v = v

abbrev pub spare_view : {T J : Type 0} → LaneView T J → LaneView T J
spare_view v = spent_view
