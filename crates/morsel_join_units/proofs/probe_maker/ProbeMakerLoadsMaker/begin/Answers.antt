use Rattle.std.proofs.Common.{rules, ◌≡◌, ◌∙◌, None, refl, sym, ap, subst}
use Rattle.std.specs.Arc.{arc_value}
use Rattle.std.specs.List.{All}
use Rattle.morsel_load.specs.Loads.{load_seen}
use Rattle.morsel_load.specs.Sources.{SourceSeen}
use Rattle.morsel_join_units.specs.LookedUps.{AreLookedUpOf}
use Rattle.morsel_join_units.proofs.LookedLemmas.{all-looked, looked-suits}
use Rattle.morsel_join_units.proofs.ProbeLemmas.{did-begun, ends-begun, finds-begun, joins-later, nothing-left}
use Rattle.morsel_join_units.proofs.probe_maker.ProbeMakerLoadsMaker.begin.Goals as goal

pub returns-clause-joins : goal.returns-clause-joins
returns-clause-joins g c =
    let m = c.in-Morsel.morsel in
    let given : c.into_inner-frame.result.0 ≡ m.frame = search rules in
    let number : c.into_inner-frame.result.1 ≡ m.seq = search rules in
    let place : c.stretch-stretch.result ≡ m.stretch = search rules in
    let looked = c.in_ok-probing.ensures.maker in
    λ from to joins suits.
    joins-later g.J.LoadJob.suits g.J.RowsJob.gives_rows g.J.RowsJob.finds c.args.self.now _ from to (ap arc_value c.in_ok-probing.ensures.same.0) (record { built = looked.built; some = looked.some; hits = looked.hits })
    (λ all. all-looked g.J.LoadJob.suits from c.args.self.now.looked.items _ _ m.source_token c.in_ok-probing.ensures.looked all
    (looked-suits g.J.LoadJob.suits from m.frame _ m.seq _ m.source_token m.stretch _ (c.of.ensures ∙ given) number place (subst (λ load. g.J.LoadJob.suits from (load_seen load)) c.in-Morsel.is suits)))
    joins

pub returns-clause-makes_for : goal.returns-clause-makes_for
returns-clause-makes_for g c =
    let m = c.in-Morsel.morsel in
    let given : c.into_inner-frame.result.0 ≡ m.frame = search rules in
    let number : c.into_inner-frame.result.1 ≡ m.seq = search rules in
    let source : c.into_inner-frame.result.2 ≡ m.source_token = search rules in
    let begins : c.stretch-stretch.result.from ≡ m.stretch.from = search rules in
    let ends : c.stretch-stretch.result.to ≡ m.stretch.to = search rules in
    λ from to joins suits.
    finds-begun g.J.LoadJob.suits g.J.RowsJob.finds (arc_value c.args.self.now.build) _ from to m.frame c.into_inner-frame.result.0 m.seq m.source_token m.stretch _ (ap arc_value c.in_ok-probing.ensures.same.0) given joins.2
    (subst (λ load. g.J.LoadJob.suits from (load_seen load)) c.in-Morsel.is suits) number (ap (λ (s : SourceSeen). s.source) source) begins ends refl c.in_ok-probing.ensures.found

pub returns-clause-left : goal.returns-clause-left
returns-clause-left g c =
    let m = c.in-Morsel.morsel in
    let begins : c.stretch-stretch.result.from ≡ m.stretch.from = search rules in
    let ends : c.stretch-stretch.result.to ≡ m.stretch.to = search rules in
    ends-begun (arc_value c.args.self.now.build).asked (load_seen c.args.load) m.frame m.seq m.source_token m.stretch _ _ (ap load_seen c.in-Morsel.is) c.requires.takes.1 begins ends

pub returns-clause-did : goal.returns-clause-did
returns-clause-did g c =
    let m = c.in-Morsel.morsel in
    let given : c.into_inner-frame.result.0 ≡ m.frame = search rules in
    let none : c.args.self.now.probed ≡ None = nothing-left c.args.self.now.probed c.requires.none_left in
    λ taken made did.
    did-begun c.args.self.now _ _ taken made (load_seen c.args.load) m.frame c.into_inner-frame.result.0 m.seq m.source_token m.stretch (ap load_seen c.in-Morsel.is) given none refl (ap arc_value c.in_ok-probing.ensures.same.0) c.in_ok-probing.ensures.found
    (λ asked hit. c.in_ok-probing.ensures.hits asked hit) did

pub returns-in_err-probing-clause-joins : goal.returns-in_err-probing-clause-joins
returns-in_err-probing-clause-joins g c =
    λ from to joins suits.
    joins-later g.J.LoadJob.suits g.J.RowsJob.gives_rows g.J.RowsJob.finds c.args.self.now c.look_up.new.self from to (ap arc_value c.in_err-probing.ensures.same.0) c.in_err-probing.ensures.maker
    (λ all. subst (All (AreLookedUpOf g.J.LoadJob.suits from)) (sym c.in_err-probing.ensures.err.0) all) joins
