use Rattle.std.proofs.Common.{append-nil, append_assoc, inl, inr, sym, subst}
use Rattle.std.proofs.lemmas.Option.{IfSome_then}
use Rattle.std.specs.Prelude.{[], ◌++◌}
use Rattle.morsel_flat_units.specs.FlatUnits.{made_loads}
use Rattle.morsel_end_units.proofs.keeping.keep_given.Goals as goal

pub loads-init : goal.loads-init
loads-init g c = record {
  gives_for = λ job gives. gives;
  keeps = λ job gives keeps. keeps;
  took = λ given taken did took. (
    [],
    subst (g.G.LoadsGiver.did c.args.giver.now) (sym (append-nil given)) did,
    subst (g.P.LoadKeeper.took c.args.keeper.now) (sym (append-nil taken)) took,
  );
  given_later = g.met.G.LoadsGiver.later_same c.args.giver.now;
  kept_later = g.met.P.LoadKeeper.later_same c.args.keeper.now;
}

pub next-requires : goal.next-requires
next-requires g c = let was = c.requires.for_job in record { for_job = (was.0, c.loads.invariant.gives_for was.0 was.1) }

pub keep_some-requires : goal.keep_some-requires
keep_some-requires g c =
    let was = c.requires.for_job in
    let gives = c.loads.invariant.gives_for was.0 was.1 in
    let keeps = c.loads.invariant.keeps was.0 was.1 was.2 in record {
      takes = IfSome_then c.in-Ok.given c.in-Ok.ensures.suits (λ load suits. g.met.P.LoadKeeper.takes_suiting c.loads.keeper was.0 _ keeps (suits was.0 gives));
      free = c.in-Ok.ensures.free;
    }

pub loads-preserved : goal.loads-preserved
loads-preserved g c = record {
  gives_for = λ job gives. c.in-Ok.ensures.gives_for job (c.loads.invariant.gives_for job gives);
  keeps = λ job gives keeps.
      let there = c.loads.invariant.gives_for job gives in
      c.in-Ok-keep_some.ensures.keeps job (c.loads.invariant.keeps job gives keeps) (IfSome_then c.in-Ok.given c.in-Ok.ensures.suits (λ load suits. suits job there));
  took = λ given taken did took.
      let before = c.loads.invariant.took given taken did took in (
        before.0 ++ made_loads c.in-Ok.given,
        subst (g.G.LoadsGiver.did c.next.new.self) (append_assoc given before.0 (made_loads c.in-Ok.given)) (c.in-Ok.ensures.did (given ++ before.0) before.1),
        subst (g.P.LoadKeeper.took c.keep_some.new.keeper) (append_assoc taken before.0 (made_loads c.in-Ok.given)) (c.in-Ok-keep_some.ensures.took (taken ++ before.0) before.2),
      );
  given_later = g.met.G.LoadsGiver.later_next c.args.giver.now c.loads.giver c.next.new.self c.loads.invariant.given_later c.in-Ok.ensures.later;
  kept_later = g.met.P.LoadKeeper.later_next c.args.keeper.now c.loads.keeper c.keep_some.new.keeper c.loads.invariant.kept_later c.in-Ok-keep_some.ensures.later;
}

pub returns-in-Err-clause-failed : goal.returns-in-Err-clause-failed
returns-in-Err-clause-failed g c job gives keeps = inr (inl (c.in-Err.ensures.failed job (c.loads.invariant.gives_for job gives)))

pub returns-in-Err-keep_some-clause-failed : goal.returns-in-Err-keep_some-clause-failed
returns-in-Err-keep_some-clause-failed g c job gives keeps =
    inr (inr (c.in-Err-keep_some.ensures.failed job (c.loads.invariant.keeps job gives keeps) (IfSome_then c.in-Ok.given c.in-Ok.ensures.suits (λ load suits. suits job (c.loads.invariant.gives_for job gives)))))

pub returns-then-ended-clause-keeps : goal.returns-then-ended-clause-keeps
returns-then-ended-clause-keeps g c job gives keeps =
    c.in-Ok-keep_some.ensures.keeps job (c.loads.invariant.keeps job gives keeps) (IfSome_then c.in-Ok.given c.in-Ok.ensures.suits (λ load suits. suits job (c.loads.invariant.gives_for job gives)))

pub returns-then-ended-clause-took : goal.returns-then-ended-clause-took
returns-then-ended-clause-took g c given taken did took =
    let before = c.loads.invariant.took given taken did took in (
      before.0 ++ made_loads c.in-Ok.given,
      subst (g.G.LoadsGiver.did c.next.new.self) (append_assoc given before.0 (made_loads c.in-Ok.given)) (c.in-Ok.ensures.did (given ++ before.0) before.1),
      subst (g.P.LoadKeeper.took c.keep_some.new.keeper) (append_assoc taken before.0 (made_loads c.in-Ok.given)) (c.in-Ok-keep_some.ensures.took (taken ++ before.0) before.2),
    )

pub returns-then-ended-clause-ended : goal.returns-then-ended-clause-ended
returns-then-ended-clause-ended g c = c.in-Ok.ensures.none_left (c.in-Ok-keep_some.ensures.ended c.if-ended.true)

-- both are later states
pub returns-in-Err-clause-later : goal.returns-in-Err-clause-later
returns-in-Err-clause-later g c = (
  g.met.G.LoadsGiver.later_next c.args.giver.now c.loads.giver c.next.new.self c.loads.invariant.given_later c.in-Err.ensures.later,
  c.loads.invariant.kept_later,
)

pub returns-in-Err-keep_some-clause-later : goal.returns-in-Err-keep_some-clause-later
returns-in-Err-keep_some-clause-later g c = (
  g.met.G.LoadsGiver.later_next c.args.giver.now c.loads.giver c.next.new.self c.loads.invariant.given_later c.in-Ok.ensures.later,
  g.met.P.LoadKeeper.later_next c.args.keeper.now c.loads.keeper c.keep_some.new.keeper c.loads.invariant.kept_later c.in-Err-keep_some.ensures.later,
)

pub returns-then-ended-clause-later : goal.returns-then-ended-clause-later
returns-then-ended-clause-later g c = (
  g.met.G.LoadsGiver.later_next c.args.giver.now c.loads.giver c.next.new.self c.loads.invariant.given_later c.in-Ok.ensures.later,
  g.met.P.LoadKeeper.later_next c.args.keeper.now c.loads.keeper c.keep_some.new.keeper c.loads.invariant.kept_later c.in-Ok-keep_some.ensures.later,
)

pub returns-clause-later : goal.returns-clause-later
returns-clause-later g c = (c.loads.invariant.given_later, c.loads.invariant.kept_later)
