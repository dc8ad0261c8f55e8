use Rattle.std.proofs.Common.{arith, ap, [], ◌∷◌, ◌++◌, ◌-◌, ◌∙◌, ◌≡◌, None, length, map, refl, replicate, subst, sym}
use Rattle.std.proofs.lemmas.List.Elements.{All-append, All-replicate}
use Rattle.morsel_keys.specs.Reductions.{Reducing}
use Rattle.morsel_states.specs.States.{AreAccs}
use Rattle.morsel_states.proofs.RowLemmas.{one_more, enough, entries_more}
use Rattle.morsel_states.proofs.accs.grow_accs.Goals as goal

pub loop-at-preserved : goal.loop-at-preserved
loop-at-preserved c =
    let blank : Reducing = record { op = c.args.op; kind = c.args.kind; entry = None } in
    record {
      after = omega (arith, c.loop-at.invariant.after);
      within = omega arith;
      done = c.in_default.ensures.ok ∙ ap (λ xs. xs ++ blank ∷ []) c.loop-at.invariant.done ∙ one_more c.args.accs.now.items blank c.loop-at.at c.loop-at.invariant.after;
    }

pub returns-clause-ok : goal.returns-clause-ok
returns-clause-ok c =
    let blank : Reducing = record { op = c.args.op; kind = c.args.kind; entry = None } in
    ap (λ accs. map (λ acc. acc.entry) accs) (c.loop-at.invariant.done ∙ enough c.args.accs.now.items blank c.args.groups c.loop-at.at (omega arith) c.loop-at.invariant.within)
    ∙ entries_more c.args.accs.now.items blank c.args.groups refl

pub returns-clause-accs : goal.returns-clause-accs
returns-clause-accs c =
    let blank : Reducing = record { op = c.args.op; kind = c.args.kind; entry = None } in
    let count = c.loop-at.at - length c.args.accs.now.items in
    let is_acc = λ (acc : Reducing). (acc.op ≡ c.args.op) × (acc.kind ≡ c.args.kind) in
    subst (AreAccs c.args.op c.args.kind) (sym c.loop-at.invariant.done) (All-append is_acc c.args.accs.now.items (replicate count blank) c.requires.accs (All-replicate is_acc count blank (refl, refl)))
