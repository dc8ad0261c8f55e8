use Rattle.std.proofs.Common.{rules, ◌≡◌, [], ◌++◌, ◌∷◌, List, sym, subst}
use Rattle.std.specs.List.{All}
use Rattle.std.proofs.lemmas.List.Elements.{All-push}
use Rattle.morsel_load.specs.Loads.{load_seen}
use Rattle.morsel_join_units.specs.RowKeepers.{AreKeptOf}
use Rattle.morsel_join_units.specs.declared.row_keeper.KeptRows.{KeptRows}
use Rattle.morsel_join_units.proofs.row_keeper.RowKeeperLoadKeeper.keep.Goals as goal

pub returns-clause-keeps : goal.returns-clause-keeps
returns-clause-keeps g c =
    let rows : KeptRows = record { seq = c.in-Morsel.morsel.seq; stretch = c.in-Morsel.morsel.stretch; frame = c.in-Morsel.morsel.frame } in
    let more : c.push.new.self.items ≡ c.args.self.now.kept.items ++ rows ∷ [] = search rules in
    λ from keeps suits.
    record {
      columns = keeps.columns;
      rows = keeps.rows;
      all = subst (λ (xs : List KeptRows). All (AreKeptOf g.J.LoadJob.suits from) xs) (sym more)
          (All-push (AreKeptOf g.J.LoadJob.suits from) c.args.self.now.kept.items rows keeps.all (c.in-Morsel.morsel.source_token, subst (λ load. g.J.LoadJob.suits from (load_seen load)) c.in-Morsel.is suits));
    }
