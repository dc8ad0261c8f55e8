use Rattle.std.proofs.Common.{rules, refl, ap}
use Rattle.morsel_meaning.specs.Values.{Table}
use Rattle.morsel_group_units.specs.GroupAsks.{rules_shape}
use Rattle.morsel_group_units.specs.TakenLoads.{placed_loads}
use Rattle.morsel_group_units.proofs.TakingLemmas.{holds_behind, holds_ok, holds_refused, memory_fault}
use Rattle.morsel_group_units.proofs.keeper.GroupKeeper.take.Goals as goal

pub invariant_of-self-then-is_some : goal.invariant_of-self-then-is_some
invariant_of-self-then-is_some c =
    let inside = c.self.inside in
    holds_behind inside.rules.value inside.groups inside.groups inside.rows c.in-Some.rows inside.loads.items c.push.new.self.items _ inside.fault (search rules) c.self.invariant c.in_ok-push.ensures.items

pub invariant_of-self-in-Ok : goal.invariant_of-self-in-Ok
invariant_of-self-in-Ok c =
    let inside = c.self.inside in
    holds_ok inside.rules.value inside.groups c.insert.new.self inside.rows c.in-Some.rows inside.loads.items c.push.new.self.items _ c.args.frame.now.rows inside.fault (search rules) c.self.invariant refl (ap (λ (t : Table). t.rows) c.of.ensures) c.in_ok-push.ensures.items (search rules)
    c.in-Ok.ensures.same (λ all taken. c.in-Ok.ensures.rows all taken)

pub invariant_of-self-in-Err-OutOfMemory : goal.invariant_of-self-in-Err-OutOfMemory
invariant_of-self-in-Err-OutOfMemory c = memory_fault (rules_shape c.self.inside.rules.value) (placed_loads c.push.new.self.items)

pub invariant_of-self-in-Err : goal.invariant_of-self-in-Err
invariant_of-self-in-Err c =
    let inside = c.self.inside in
    holds_refused inside.rules.value inside.groups inside.rows inside.loads.items c.push.new.self.items _ c.args.frame.now.rows inside.fault c.in-Err.fault (search rules) c.self.invariant refl (ap (λ (t : Table). t.rows) c.of.ensures) c.in_ok-push.ensures.items
    (λ all shape taken has. c.in-Err.ensures.refused all shape taken has)
