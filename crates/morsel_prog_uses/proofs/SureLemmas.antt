-- An outside in memory that never fails has no count of faults that rises.
use Rattle.std.specs.Prelude.{◌≡◌, ◌⊎◌, ◌^◌, ◌-◌, ◌<◌}
use Rattle.std.proofs.Common.{arith, inl, inr}
use Rattle.morsel_outside.specs.Actions.{Rises}
use Rattle.morsel_outside.specs.Memory.{Contents, sure}
use Rattle.morsel_prog.specs.Program.{NoneRises}

no_rise : Rises 0 0 → ⊥
no_rise rises = never rises.rose
  where
    never : (0 < 0) ⊎ (0 ≡ 2 ^ 64 - 1) → ⊥
    never (inl less) = omega arith
    never (inr end) = omega arith

pub none_rises : (old new : Contents) → NoneRises (sure old) (sure new)
none_rises old new = record { reads = no_rise; writes = no_rise }
