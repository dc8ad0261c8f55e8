use Rattle.std.proofs.Common.{◌≡◌, ◌+◌, ◌++◌, ◌∷◌, [], None, map, set, sym, ap, subst, ◌∙◌}
use Rattle.std.specs.Vec.{with_items}
use Rattle.std.proofs.lemmas.List.{with_items_is}
use Rattle.morsel_merge.specs.Merging.{IsGreatest, IsMerging}
use Rattle.morsel_merge.proofs.MergeLemmas.{merging-give}
use Rattle.morsel_merge.proofs.linearizer.Linearizer.give.Goals as goal

pub returns-clause-merging : goal.returns-clause-merging
returns-clause-merging g c given merging =
    let taken = map g.M.Receiver.LaneReceiver.taken c.args.self.now.receivers.items in
    let value = c.deref_mut.ensures.value in
    let items : (with_items c.args.self.now.held c.take_greatest.new.held).items ≡ set c.args.self.now.held.items c.in-Some.lane None =
    with_items_is c.args.self.now.held c.take_greatest.new.held (c.take_greatest.auto.held ∙ c.deref_mut.ensures.len) ∙ c.in-Some.ensures.taken ∙ ap (λ hs. set hs c.in-Some.lane None) value in
    subst (λ hs. IsMerging g.T.Ord.cmp (g.T.Message.suits c.args.self.now.job.value) taken hs c.in-Some.lane (c.in-Some.lane + 1) (given ++ c.in-Some.value ∷ [])) (sym items)
    (merging-give g.T.Ord.cmp (g.T.Message.suits c.args.self.now.job.value) g.met.T.Ord.total taken c.args.self.now.held.items c.args.self.now.from c.args.self.now.to c.in-Some.lane given c.in-Some.value (subst (λ hs. IsGreatest g.T.Ord.cmp hs c.in-Some.lane c.in-Some.value) value c.in-Some.ensures.greatest) merging)
