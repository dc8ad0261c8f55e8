use Rattle.morsel_words.specs.declared.view.Found.TheVariants as found
use Rattle.morsel_word_lanes.proofs.EndLemmas.{found_after, waiting_after, when_empty, registered_as}
use Rattle.morsel_word_lanes.proofs.receiver.ReceiverLaneReceiverUnit.poll_recv.Goals as goal

pub returns-in-Ok-wait_for_value-clause-woken : goal.returns-in-Ok-wait_for_value-clause-woken
returns-in-Ok-wait_for_value-clause-woken g c = waiting_after _ _ _ found.Empty (when_empty _ _ _ _ c.in-Err-Empty.field-0-is c.in-Err-Empty.ensures.refused) found.Took _ c.in-Ok-wait_for_value.ensures.woken

pub returns-in-Err-Empty-wait_for_value-clause-empty : goal.returns-in-Err-Empty-wait_for_value-clause-empty
returns-in-Err-Empty-wait_for_value-clause-empty g c = found_after _ _ _ found.Empty (when_empty _ _ _ _ c.in-Err-Empty.field-0-is c.in-Err-Empty.ensures.refused) _ (when_empty _ _ _ _ c.in-Err-Empty-wait_for_value.field-0-is c.in-Err-Empty-wait_for_value.ensures.refused).1

pub returns-in-Err-Empty-wait_for_value-clause-registered : goal.returns-in-Err-Empty-wait_for_value-clause-registered
returns-in-Err-Empty-wait_for_value-clause-registered g c = registered_as _ _ _ _ c.try_recv.ensures.same_task
    (found_after _ _ _ found.Empty (when_empty _ _ _ _ c.in-Err-Empty.field-0-is c.in-Err-Empty.ensures.refused) _ (when_empty _ _ _ _ c.in-Err-Empty-wait_for_value.field-0-is c.in-Err-Empty-wait_for_value.ensures.registered))
