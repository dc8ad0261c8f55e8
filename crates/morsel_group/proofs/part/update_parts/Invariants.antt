use Rattle.std.proofs.Common.{◌≡◌, ◌++◌, map, take, drop}
use Rattle.morsel_keys.specs.Reductions.{input_place}
use Rattle.morsel_group.specs.Parts.{updated_part}
use Rattle.morsel_group.proofs.part.update_parts.Given as goal

abbrev pub invariant-loop-i : goal.invariant-loop-i
invariant-loop-i l = l.parts ≡ map (updated_part l.count (input_place l.place.0 l.place.1) l.numbers l.frame.rows) (take l.i l.initial.parts) ++ drop l.i l.initial.parts
