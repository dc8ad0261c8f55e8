use Rattle.std.proofs.Common.{◌≡◌, ◌++◌, ◌∷◌, [], All, Ok, length, ap, sym, subst, ◌∙◌, arith, rules, append_assoc}
use Rattle.std.proofs.lemmas.Grind.{common_steps}
use Rattle.std.proofs.lemmas.List.Elements.{All-head, All-push, All-tail}
use Rattle.std.specs.Vec.Iter.{into_iter_items}
use Rattle.morsel_meaning.specs.declared.fault.Fault.{Fault}
use Rattle.morsel_ports.specs.Nodes.{EndedBy, IsGivenBack}
use Rattle.morsel_ports_uses.proofs.nodes.give_all_back.Goals as goal

pub give_back-requires-clause-units : goal.give_back-requires-clause-units
give_back-requires-clause-units g c = omega (arith, c.outs.invariant.units, ap length c.in-Some.ensures.steps.0)

pub give_back-requires-clause-unit : goal.give_back-requires-clause-unit
give_back-requires-clause-unit g c =
    All-head (λ out. (unit : g.row.N-Unit.Denot) × g.N.ComputeNode.is_unit c.outs.node unit × g.N.Unit.Task.gives unit out) c.in-Some.out (into_iter_items c.next.new.self)
    (subst (All (λ out. (unit : g.row.N-Unit.Denot) × g.N.ComputeNode.is_unit c.outs.node unit × g.N.Unit.Task.gives unit out)) c.in-Some.ensures.steps.0 c.outs.invariant.outs)

pub outs-preserved : goal.outs-preserved
outs-preserved g c =
    let left = into_iter_items c.next.new.self in
    let ends : All (λ out. (unit : g.row.N-Unit.Denot) × g.N.ComputeNode.is_unit c.outs.node unit × g.N.Unit.Task.gives unit out) left = All-tail (λ out. (unit : g.row.N-Unit.Denot) × g.N.ComputeNode.is_unit c.outs.node unit × g.N.Unit.Task.gives unit out) c.in-Some.out left
    (subst (All (λ out. (unit : g.row.N-Unit.Denot) × g.N.ComputeNode.is_unit c.outs.node unit × g.N.Unit.Task.gives unit out)) c.in-Some.ensures.steps.0 c.outs.invariant.outs) in
    record {
      each = append_assoc c.outs.yielded (c.in-Some.out ∷ []) left ∙ ap (λ xs. c.outs.yielded ++ xs) (sym c.in-Some.ensures.steps.0) ∙ c.outs.invariant.each;
      len = grind (arith, common_steps);
      units = omega (arith, ap (λ s. s.units) c.give_back.ensures.out, c.outs.invariant.units, ap length c.in-Some.ensures.steps.0);
      outs = λ k d within. let one = ends k d within in (one.0, c.give_back.ensures.others one.0 one.1, one.2);
      no_fault = All-push (λ out. (fault : Fault) → g.N.ComputeNode.end_of out ≡ EndedBy fault → ⊥) c.outs.yielded c.in-Some.out c.outs.invariant.no_fault
          (λ fault ended. let lost = subst (λ end. IsGivenBack end (Ok c.in_ok-give_back.field-0)) ended c.in_ok-give_back.ensures.end in cc);
    }

pub outs-init : goal.outs-init
outs-init g c =
    let same : into_iter_items c.into_iter-out-iterator.result ≡ c.args.outs.items = search rules in
    record {
      each = same;
      len = search rules;
      units = c.requires.units ∙ ap length (sym same);
      outs = subst (All (λ out. (unit : g.row.N-Unit.Denot) × g.N.ComputeNode.is_unit c.args.node.now unit × g.N.Unit.Task.gives unit out)) (sym same) c.requires.outs;
      no_fault = λ k d within. absurd (omega (arith, within));
    }
