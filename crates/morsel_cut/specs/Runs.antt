-- What a run of bytes does to the place of the machine.
use Rattle.std.specs.Prelude.{◌≡◌, ℕ, List, [], ◌∷◌, ◌==◌}
use Rattle.morsel_grammar.specs.Dialect.{Dialect}
use Rattle.morsel_grammar.specs.Machine.{CutPlace, CutState, place_step, state_after, last_place, place_or_later, is_after_eol, begins_record, cut_after, last_end, last_begin}
use Rattle.morsel_cut.specs.Places.{cut_place, cut_state}
use Rattle.morsel_cut.specs.declared.pass.PlaceRun.{PlaceRun}
use Rattle.morsel_cut.specs.declared.prefix.StateRun.{StateRun}

-- how many bytes there are up to the last one that is this byte; 0 where there is none
abbrev pub up_to_last : ℕ → List ℕ → ℕ
up_to_last byte [] = 0
up_to_last byte (b ∷ bs) = place_or_later (b == byte) (up_to_last byte bs)

-- what these bytes do from this place, without a comment prefix
pub record RunsTo (o : Dialect) (place : CutPlace) (bytes : List ℕ) (run : PlaceRun) : Type 0 where
  pub place_is : cut_place run.place ≡ state_after (place_step o) place bytes
  pub end_is : run.end ≡ last_place (place_step o) is_after_eol place bytes
  pub begin_is : run.begin ≡ last_place (place_step o) begins_record place bytes

-- what these bytes do from this state
pub record Passes (o : Dialect) (state : CutState) (bytes : List ℕ) (passed : StateRun) : Type 0 where
  pub state_is : cut_state passed.state ≡ cut_after o state bytes
  pub end_is : passed.end ≡ last_end o state bytes
  pub begin_is : passed.begin ≡ last_begin o state bytes
