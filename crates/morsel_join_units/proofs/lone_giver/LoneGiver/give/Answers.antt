use Rattle.std.proofs.Common.{◌∙◌, ap, subst}
use Rattle.morsel_meaning.specs.Values.{Table}
use Rattle.morsel_load.specs.declared.morsels.Stretch.{Stretch}
use Rattle.morsel_join.specs.LoneRows.{LeavesAlone}
use Rattle.morsel_rows_job.specs.RowsJobs.{IsCutOf}
use Rattle.morsel_join_units.proofs.CutLemmas.{cut-next, given-next, rest-next}
use Rattle.morsel_join_units.proofs.lone_giver.LoneGiver.give.Goals as goal

pub returns-clause-cut : goal.returns-clause-cut
returns-clause-cut g c =
    λ all left.
    subst (λ (stretch : Stretch). IsCutOf all stretch c.in_ok-morsel.morsel.frame.rows c.in_ok-morsel.morsel.stretch) c.requires.giver.place
    (cut-next (LeavesAlone c.args.self.now.lone) _ c.args.self.now.rows all c.in_ok-some.some c.args.self.now.cutter _ _ (λ rest is. c.in_ok-some.ensures.rows rest is) (ap (λ (t : Table). t.rows) c.in_ok-morsel.ensures.frame) c.in_ok-morsel.ensures.stretch left)

pub returns-clause-left : goal.returns-clause-left
returns-clause-left g c = λ all left. given-next (LeavesAlone c.args.self.now.lone) _ c.args.self.now.rows c.args.self.now.cutter.given _ all c.in_ok-some.some (λ rest is. c.in_ok-some.ensures.rows rest is) c.in_ok-morsel.ensures.given left

pub returns-clause-rows : goal.returns-clause-rows
returns-clause-rows g c =
    λ rest left. rest-next _ c.args.self.now.rows rest c.in_ok-some.some _ _ (ap (λ (t : Table). t.rows) c.in_ok-morsel.ensures.frame) (ap (λ (s : Stretch). s.last) c.in_ok-morsel.ensures.stretch) (c.in_ok-some.ensures.rows rest left)

pub returns-clause-place : goal.returns-clause-place
returns-clause-place g c = (ap (λ (s : Stretch). s.from) c.in_ok-morsel.ensures.stretch ∙ ap (λ (s : Stretch). s.from) c.requires.giver.place, ap (λ (s : Stretch). s.to) c.in_ok-morsel.ensures.stretch ∙ ap (λ (s : Stretch). s.to) c.requires.giver.place)
