use Rattle.std.proofs.Common.{[], length, sym, ap}
use Rattle.morsel_group_phases.specs.GroupTables.{group_recv_kinds, group_send_kinds}
use Rattle.morsel_group_phases.specs.declared.places.GroupAt.{GroupAt}
use Rattle.morsel_group_plan.proofs.GivingFacts.{has_cause, moves_on}
use Rattle.morsel_group_plan.proofs.NodeFacts.{follows_fault, if_err, move_fault, on_ok}
use Rattle.morsel_group_plan.proofs.giving.end_taking.Goals as goal

pub update_state-requires-clause-recv : goal.update_state-requires-clause-recv
update_state-requires-clause-recv g c = sym (ap (λ (place : GroupAt). length (group_recv_kinds place)) c.requires.at)

pub update_state-requires-clause-send : goal.update_state-requires-clause-send
update_state-requires-clause-send g c = sym (ap (λ (place : GroupAt). length (group_send_kinds place)) c.requires.at)

pub update_state-requires-clause-apart : goal.update_state-requires-clause-apart
update_state-requires-clause-apart g c asks = absurd cc

pub returns-clause-at : goal.returns-clause-at
returns-clause-at g c = on_ok _ _ c.update_state.result (λ moved. moves_on _ _ _ _ c.requires.at moved) c.update_state.ensures.moved

pub returns-clause-keeps : goal.returns-clause-keeps
returns-clause-keeps g c = on_ok _ _ c.update_state.result (λ moved. moved.keeps) c.update_state.ensures.moved

pub returns-clause-pipelines : goal.returns-clause-pipelines
returns-clause-pipelines g c = c.update_state.ensures.same.same_pipelines

pub returns-clause-units : goal.returns-clause-units
returns-clause-units g c = c.update_state.ensures.same.same_units

pub returns-clause-refused : goal.returns-clause-refused
returns-clause-refused g c = if_err _ _ c.update_state.result (λ fault may. follows_fault fault _ _ (λ is group ends takes. has_cause _ fault is group ends takes) (move_fault [] fault _ may)) c.update_state.ensures.fault
