use Rattle.std.proofs.Common.{◌≡◌, ◌++◌, true, false, sym, ◌∙◌}
use Rattle.std.specs.Arc.{arc_value}
use Rattle.morsel_join_units.specs.LookedUps.{AreLookedUpOf, rows_looked_up}
use Rattle.morsel_join_phases.proofs.BuildFacts.{have_hit, kept_behind, marks_more, marks_same}
use Rattle.morsel_join_phases.proofs.probe_phase.ProbePhase.mark.Goals as goal

pub join-requires : goal.join-requires
join-requires g c = record { len = c.requires.hit.len ∙ sym (have_hit (arc_value c.args.self.now.build) c.args.self.now.hits.seen.items (rows_looked_up c.args.self.now.looked.items) c.args.self.now.marked).len }

pub invariant_of-self-clause-looked_of : goal.invariant_of-self-clause-looked_of
invariant_of-self-clause-looked_of g c =
    let old = c.args.self.now in
    let all : c.append.new.self.items ≡ old.looked.items ++ c.args.maker.looked.items = rw c.in-Ok.is at c.append.ensures.items in
    kept_behind (AreLookedUpOf g.J.LoadJob.suits old.asked_job.value) true old.looked.items c.args.maker.looked.items c.append.new.self.items all old.looked_of c.requires.looked_of

pub invariant_of-self-clause-marked : goal.invariant_of-self-clause-marked
invariant_of-self-clause-marked g c =
    let old = c.args.self.now in
    let all : c.append.new.self.items ≡ old.looked.items ++ c.args.maker.looked.items = rw c.in-Ok.is at c.append.ensures.items in
    marks_more (arc_value old.build) old.hits.seen.items _ old.looked.items c.args.maker.looked.items c.append.new.self.items all
    (λ hit. c.join.ensures.hit (arc_value old.build) (rows_looked_up old.looked.items) (rows_looked_up c.args.maker.looked.items) hit c.requires.hit) old.marked

pub invariant_of-self-in-Err-clause-looked_of : goal.invariant_of-self-in-Err-clause-looked_of
invariant_of-self-in-Err-clause-looked_of g c =
    let old = c.args.self.now in
    let all : c.append.new.self.items ≡ old.looked.items = rw c.in-Err.is at c.append.ensures.items in
    kept_behind (AreLookedUpOf g.J.LoadJob.suits old.asked_job.value) false old.looked.items c.args.maker.looked.items c.append.new.self.items all old.looked_of c.requires.looked_of

pub invariant_of-self-in-Err-clause-marked : goal.invariant_of-self-in-Err-clause-marked
invariant_of-self-in-Err-clause-marked g c =
    let old = c.args.self.now in
    let all : c.append.new.self.items ≡ old.looked.items = rw c.in-Err.is at c.append.ensures.items in
    marks_same (arc_value old.build) old.hits.seen.items old.looked.items c.append.new.self.items all old.marked
