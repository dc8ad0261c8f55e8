use Rattle.std.proofs.Common.{◌≡◌, All}
use Rattle.morsel_meaning.specs.Values.{Table}
use Rattle.morsel_bench_joins.proofs.tables.pieces_of.Given as goal

abbrev pub invariant-each : goal.invariant-each
invariant-each l = All (λ (piece : Table). piece.schema ≡ l.fn.whole.schema) l.pieces.items
