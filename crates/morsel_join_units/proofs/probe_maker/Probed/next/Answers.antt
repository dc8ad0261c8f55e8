use Rattle.std.proofs.Common.{ap}
use Rattle.morsel_meaning.specs.Values.{Table}
use Rattle.morsel_load.specs.declared.morsels.Stretch.{Stretch}
use Rattle.morsel_join.specs.Probings.{LooksUp}
use Rattle.morsel_join_units.proofs.CutLemmas.{cut-next, given-next, rest-next}
use Rattle.morsel_join_units.proofs.probe_maker.Probed.next.Goals as goal

pub returns-clause-cut : goal.returns-clause-cut
returns-clause-cut g c =
    λ all given.
    cut-next (LooksUp c.args.self.now.probing) _ c.args.rows all c.in_ok-some.some c.args.self.now.cutter _ _ (λ rest left. c.in_ok-some.ensures.rows rest left) (ap (λ (t : Table). t.rows) c.in_ok-morsel.ensures.frame) c.in_ok-morsel.ensures.stretch given

pub returns-clause-given : goal.returns-clause-given
returns-clause-given g c = λ all given. given-next (LooksUp c.args.self.now.probing) _ c.args.rows c.args.self.now.cutter.given _ all c.in_ok-some.some (λ rest left. c.in_ok-some.ensures.rows rest left) c.in_ok-morsel.ensures.given given

pub returns-clause-rows : goal.returns-clause-rows
returns-clause-rows g c =
    λ rest left. rest-next _ c.args.rows rest c.in_ok-some.some _ _ (ap (λ (t : Table). t.rows) c.in_ok-morsel.ensures.frame) (ap (λ (s : Stretch). s.last) c.in_ok-morsel.ensures.stretch) (c.in_ok-some.ensures.rows rest left)
