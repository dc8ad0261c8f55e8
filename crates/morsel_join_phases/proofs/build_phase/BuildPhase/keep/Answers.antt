use Rattle.std.specs.Prelude.{is_ok}
use Rattle.morsel_join_units.specs.RowKeepers.{AreKeptOf}
use Rattle.morsel_join_phases.proofs.BuildFacts.{kept_behind}
use Rattle.morsel_join_phases.proofs.build_phase.BuildPhase.keep.Goals as goal

pub invariant_of-self-clause-kept_of : goal.invariant_of-self-clause-kept_of
invariant_of-self-clause-kept_of g c = kept_behind (AreKeptOf g.J.LoadJob.suits c.args.self.now.job.value) (is_ok c.append.result) c.args.self.now.kept.items c.args.keeper.kept.items c.append.new.self.items c.append.ensures.items c.args.self.now.kept_of c.requires.kept_of

pub invariant_of-self-else-is_err-clause-kept_of : goal.invariant_of-self-else-is_err-clause-kept_of
invariant_of-self-else-is_err-clause-kept_of g c = kept_behind (AreKeptOf g.J.LoadJob.suits c.args.self.now.job.value) (is_ok c.append.result) c.args.self.now.kept.items c.args.keeper.kept.items c.append.new.self.items c.append.ensures.items c.args.self.now.kept_of c.requires.kept_of
