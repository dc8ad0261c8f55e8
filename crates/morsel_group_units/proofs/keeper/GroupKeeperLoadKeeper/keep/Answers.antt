use Rattle.std.proofs.Common.{rules, ◌≡◌, ◌++◌, ◌∷◌, [], List, map, ap, sym, subst, ◌∙◌}
use Rattle.std.specs.List.{All, flat_map}
use Rattle.std.proofs.lemmas.List.{flat_map_more}
use Rattle.std.proofs.lemmas.List.Elements.{All-push}
use Rattle.morsel_load.specs.Loads.{SeenMorsel, load_seen}
use Rattle.morsel_rows_job.specs.RowsJobs.{IsCutFor, RowsCut}
use Rattle.morsel_group_units.specs.GroupAsks.{GroupRulesSeen}
use Rattle.morsel_group_units.specs.TakenLoads.{cuts_of_load, taken_cut}
use Rattle.morsel_group_units.proofs.keeper.GroupKeeperLoadKeeper.keep.Goals as goal

pub returns-clause-keeps : goal.returns-clause-keeps
returns-clause-keeps g c =
    let m = c.in-Morsel.morsel in
    let cut : RowsCut = record { seq = m.seq; stretch = m.stretch; frame = m.frame } in
    let more : map taken_cut c.take.new.self.taken ≡ map taken_cut c.args.self.now.taken ++ cut ∷ [] = search rules in
    λ from keeps suits.
    record {
      cuts = subst (λ (rules : GroupRulesSeen). g.J.RowsJob.gives_cuts from rules.columns) (sym c.take.ensures.rules) keeps.cuts;
      all = subst (All (IsCutFor g.J.LoadJob.suits from)) (sym more) (All-push (IsCutFor g.J.LoadJob.suits from) (map taken_cut c.args.self.now.taken) cut keeps.all (m.source_token, subst (λ load. g.J.LoadJob.suits from (load_seen load)) c.in-Morsel.is suits));
    }

pub returns-clause-took : goal.returns-clause-took
returns-clause-took g c =
    let m = c.in-Morsel.morsel in
    let cut : RowsCut = record { seq = m.seq; stretch = m.stretch; frame = m.frame } in
    let more : map taken_cut c.take.new.self.taken ≡ map taken_cut c.args.self.now.taken ++ cut ∷ [] = search rules in
    λ before took.
    more ∙ ap (λ (cuts : List RowsCut). cuts ++ cut ∷ []) took ∙ flat_map_more cuts_of_load [] before (SeenMorsel m.frame m.seq m.source_token m.stretch) ∙ ap (λ load. flat_map cuts_of_load (before ++ load_seen load ∷ [])) (sym c.in-Morsel.is)
