use Rattle.std.proofs.Common.{◌≡◌, ℕ, ◌+◌}
use Rattle.std.specs.Prelude.{List}
use Rattle.morsel_engine.proofs.OpenLemmas.{Opened}
use Rattle.morsel_engine.proofs.outside.open_sources.Given as goal

-- the files of the names before this one are open
abbrev pub invariant-names : goal.invariant-names
invariant-names g l = record {
  number : l.number ≡ l.first + l.name-index;
  files : List (List ℕ);
  opened : Opened (g.H.Io.seen l.fn.io) l.names files l.files.items l.name-index (g.H.Io.seen l.io);
}
