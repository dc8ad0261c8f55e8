use Rattle.std.proofs.Common.{◌≡◌}
use Rattle.morsel_meaning.specs.declared.value.ColType.TheVariants as types
use Rattle.morsel_bench_keys.proofs.groups.reduce_pieces.Given as goal

abbrev pub invariant-loop-piece : goal.invariant-loop-piece
invariant-loop-piece l = record {
  lens : l.lens.kind ≡ types.Int;
  sums : l.sums.kind ≡ types.Int;
}
