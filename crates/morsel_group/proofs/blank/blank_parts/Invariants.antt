use Rattle.std.proofs.Common.{◌≡◌, map, take}
use Rattle.std.specs.List.{All}
use Rattle.morsel_meaning.specs.Values.{kinds_of}
use Rattle.morsel_group.specs.Asked.{agg_field, reducer_of}
use Rattle.morsel_group.specs.Parts.{IsPart}
use Rattle.morsel_group.specs.Locals.{reducer_in}
use Rattle.morsel_group.proofs.blank.blank_parts.Given as goal

abbrev pub invariant-loop-i : goal.invariant-loop-i
invariant-loop-i l = record {
  each : All (IsPart l.input 0) l.parts.items;
  reducers : map reducer_in l.parts.items ≡ map (reducer_of l.input) (take l.i l.aggs);
  kinds : map (λ part. part.kind) l.parts.items ≡ kinds_of (map (agg_field l.input) (take l.i l.aggs));
}
