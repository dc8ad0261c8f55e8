use Rattle.std.proofs.Common.{rules, ◌≡◌, ◌∙◌, ℕ, Option, Some, None, if◌then◌else◌, refl, sym, ap, subst}
use Rattle.std.specs.Arc.{arc_value}
use Rattle.morsel_load.specs.Loads.{SeenMorsel}
use Rattle.morsel_join.specs.BuildSides.{kept_side}
use Rattle.morsel_join.specs.Sides.{KeptSide}
use Rattle.morsel_join_units.specs.RowCutters.{stretch_of}
use Rattle.morsel_join_units.specs.ProbeMakers.{FindsFor, FindsOf}
use Rattle.morsel_join_units.specs.declared.probe_maker.Probed.{Probed}
use Rattle.morsel_join_units.proofs.CutLemmas.{cut-along}
use Rattle.morsel_join_units.proofs.ProbeLemmas.{did-more, ends-left, finds-more}
use Rattle.morsel_join_units.proofs.probe_maker.ProbeMakerLoadsMaker.next.Goals as goal

pub returns-clause-suits : goal.returns-clause-suits
returns-clause-suits g c =
    let old : c.args.self.now.probed ≡ Some c.in-Some.probed = search rules in
    let m = c.in_ok-morsel.morsel in
    let side : KeptSide = kept_side (arc_value c.args.self.now.build) in
    λ to makes.
    let f : FindsOf g.J.LoadJob.suits g.J.RowsJob.finds side to c.in-Some.probed = subst (λ (p : Option Probed). FindsFor g.J.LoadJob.suits g.J.RowsJob.finds side to p) old makes in
    subst (λ (n : ℕ). g.J.LoadJob.suits to (SeenMorsel m.frame n m.source_token m.stretch)) (sym (c.in_ok-morsel.ensures.number ∙ f.seq_is))
    (g.met.J.RowsJob.found_suit side f.from to f.frame m.frame f.seq f.source m.source_token f.stretch m.stretch f.found f.suited (c.in_ok-morsel.ensures.columns ∙ ap (λ (s : KeptSide). s.rules.output) f.side_is)
    (cut-along _ m.frame.rows (stretch_of c.in-Some.probed.cutter) f.stretch m.stretch f.from_is f.to_is (c.in_ok-morsel.ensures.cut _ f.given)) (c.in_ok-morsel.ensures.source ∙ f.source_is))

pub returns-clause-makes_for : goal.returns-clause-makes_for
returns-clause-makes_for g c =
    let old : c.args.self.now.probed ≡ Some c.in-Some.probed = search rules in
    let side : KeptSide = kept_side (arc_value c.args.self.now.build) in
    let same = c.in_ok-morsel.ensures.same in
    λ to makes.
    let f : FindsOf g.J.LoadJob.suits g.J.RowsJob.finds side to c.in-Some.probed = subst (λ (p : Option Probed). FindsFor g.J.LoadJob.suits g.J.RowsJob.finds side to p) old makes in
    finds-more g.J.LoadJob.suits g.J.RowsJob.finds side to c.in-Some.probed _ _ _ c.unless_last.ensures same.0 same.1 same.2 same.3 c.in_ok-morsel.ensures.probing (λ all given. c.in_ok-morsel.ensures.given all given) f

pub returns-clause-left : goal.returns-clause-left
returns-clause-left g c =
    let old : c.args.self.now.probed ≡ Some c.in-Some.probed = search rules in
    let m = c.in_ok-morsel.morsel in
    let left : c.unless_last.result ≡ (if m.stretch.last then None else Some c.next.new.self) = search rules in
    let place = c.in_ok-morsel.ensures.place in
    ends-left c.in-Some.probed _ c.args.self.now.probed _ m.stretch old left place.0 place.1 c.in_ok-morsel.ensures.same.2

pub returns-clause-did : goal.returns-clause-did
returns-clause-did g c =
    let old : c.args.self.now.probed ≡ Some c.in-Some.probed = search rules in
    let m = c.in_ok-morsel.morsel in
    let left : c.unless_last.result ≡ (if m.stretch.last then None else Some c.next.new.self) = search rules in
    λ taken before did.
    did-more c.args.self.now _ c.in-Some.probed _ taken before m.frame m.seq m.source_token m.stretch old left refl refl c.in_ok-morsel.ensures.same.3 c.in_ok-morsel.ensures.probing (λ rest looks. c.in_ok-morsel.ensures.rows rest looks) did
