-- The rule of the flag of a source, what each step of a token makes of what it knows, and what is seen of a token.
use Rattle.std.specs.Prelude.{◌≡◌, ◌⊎◌, ℕ, ◌+◌, ◌<◌, ◌≤◌, List, [], ◌∷◌, length, slice_index}
use mathlib.Core.Option.{some}
use lib.ListN.{get_elem?}
use Rattle.atomic_table.specs.Table.{State, Me, Step}
use Rattle.atomic_table.specs.Seated.{TableId}
use Rattle.atomic_table.specs.declared.shared.Seat.{Seat}
use Rattle.morsel_load.specs.declared.source_flag.SourceView.{SourceView}

-- how often all tokens of the source have asked it to stop
abbrev pub all_stops : List SourceView → ℕ
all_stops [] = 0
all_stops (v ∷ vs) = v.asked + all_stops vs

-- the rule: the flag is set where a token has asked, and no token knows of more stops than there were
pub record IsSource (z : State (Unit {0}) SourceView) : Type 0 where
  pub wide : length z.words ≡ 1
  pub flag : ((slice_index z.words 0 ≡ 0) × (all_stops z.views ≡ 0)) ⊎ ((slice_index z.words 0 ≡ 1) × (1 ≤ all_stops z.views))
  pub known : (id : ℕ) (v : SourceView) → get_elem? z.views id ≡ some v → v.stops ≤ all_stops z.views

-- a token that has not asked, and knows of no stop
abbrev pub unasked_view : SourceView
unasked_view = record { asked = 0; stops = 0 }

-- what is seen of a seat
abbrev pub AtSource : Type 0
AtSource = Me (Unit {0}) SourceView

-- it asks, and knows of one stop more than there were
abbrev pub AsksToStop : Step (Unit {0}) → AtSource → ℕ → AtSource → Type 0
AsksToStop st m n m' = (stops : ℕ) × (m.0.stops < stops) × (m' ≡ (record { asked = m.0.asked + 1; stops = stops }, m.1))

-- it looks: there was no stop, or the flag is set and there were some
abbrev pub LooksForStop : Step (Unit {0}) → AtSource → ℕ → AtSource → Type 0
LooksForStop st m n m' = (stops : ℕ) × (m.0.stops ≤ stops) × (m' ≡ (record { asked = m.0.asked; stops = stops }, m.1)) × (((n ≡ 0) × (stops ≡ 0)) ⊎ ((n ≡ 1) × (1 ≤ stops)))

-- another token is parted from it, and knows of the same stops
abbrev pub same_view : SourceView → SourceView
same_view v = v

abbrev pub shared_view : SourceView → SourceView
shared_view v = record { asked = 0; stops = v.stops }

-- a token: which source it is of, and of how many stops of that source it knows
pub record SourceSeen : Type 0 where
  pub source : TableId
  pub stops : ℕ

abbrev pub source_seen : Seat (Unit {0}) SourceView → SourceSeen
source_seen seat = record { source = seat.table_id; stops = seat.me.0.stops }

-- the seat is that of a token of this source
pub record IsSourceSeat (source : TableId) (seat : Seat (Unit {0}) SourceView) : Type 0 where
  pub words : source.words ≡ 1
  pub seated : seat.table_id ≡ source
