use Rattle.std.specs.Prelude.{List, ◌++◌}
use Rattle.morsel_load.specs.Loads.{LoadSeen}
use Rattle.morsel_end_units.proofs.keeping.keep_given.Given as goal

-- what was given so far was kept
abbrev pub invariant-loads : goal.invariant-loads
invariant-loads g l = record {
  gives_for : (job : g.row.J.Denot) → g.G.LoadsGiver.gives_for l.fn.giver job → g.G.LoadsGiver.gives_for l.giver job;
  keeps : (job : g.row.J.Denot) → g.G.LoadsGiver.gives_for l.fn.giver job → g.P.LoadKeeper.keeps l.fn.keeper job → g.P.LoadKeeper.keeps l.keeper job;
  took : (given taken : List LoadSeen) → g.G.LoadsGiver.did l.fn.giver given → g.P.LoadKeeper.took l.fn.keeper taken → (more : List LoadSeen) × g.G.LoadsGiver.did l.giver (given ++ more) × g.P.LoadKeeper.took l.keeper (taken ++ more);
  given_later : g.G.LoadsGiver.is_later l.fn.giver l.giver;
  kept_later : g.P.LoadKeeper.is_later l.fn.keeper l.keeper;
}
