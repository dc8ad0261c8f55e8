use Rattle.morsel_words.specs.declared.view.Found.TheVariants as found
use Rattle.morsel_word_lanes.proofs.EndLemmas.{found_after, waiting_after, when_closed, when_full, registered_as}
use Rattle.morsel_word_lanes.proofs.sender.SenderLaneSenderUnit.poll_send.Goals as goal

pub returns-in-Ok-wait_for_room-clause-room : goal.returns-in-Ok-wait_for_room-clause-room
returns-in-Ok-wait_for_room-clause-room g c = found_after _ _ _ found.Full (when_full _ _ c.in-Err-Full.field-0-is c.in-Err-Full.ensures.full) _ c.in-Ok-wait_for_room.ensures.room

pub returns-in-Ok-wait_for_room-clause-woken : goal.returns-in-Ok-wait_for_room-clause-woken
returns-in-Ok-wait_for_room-clause-woken g c = waiting_after _ _ _ found.Full (when_full _ _ c.in-Err-Full.field-0-is c.in-Err-Full.ensures.full) found.Sent _ c.in-Ok-wait_for_room.ensures.woken

pub returns-in-Err-Closed-wait_for_room-clause-closed : goal.returns-in-Err-Closed-wait_for_room-clause-closed
returns-in-Err-Closed-wait_for_room-clause-closed g c = found_after _ _ _ found.Full (when_full _ _ c.in-Err-Full.field-0-is c.in-Err-Full.ensures.full) _ (when_closed _ _ c.in-Err-Closed-wait_for_room.field-0-is c.in-Err-Closed-wait_for_room.ensures.closed)

pub returns-in-Err-Full-wait_for_room-clause-full : goal.returns-in-Err-Full-wait_for_room-clause-full
returns-in-Err-Full-wait_for_room-clause-full g c = found_after _ _ _ found.Full (when_full _ _ c.in-Err-Full.field-0-is c.in-Err-Full.ensures.full) _ (when_full _ _ c.in-Err-Full-wait_for_room.field-0-is c.in-Err-Full-wait_for_room.ensures.full)

pub returns-in-Err-Full-wait_for_room-clause-registered : goal.returns-in-Err-Full-wait_for_room-clause-registered
returns-in-Err-Full-wait_for_room-clause-registered g c = registered_as _ _ _ _ c.try_send.ensures.same_task
    (found_after _ _ _ found.Full (when_full _ _ c.in-Err-Full.field-0-is c.in-Err-Full.ensures.full) _ (when_full _ _ c.in-Err-Full-wait_for_room.field-0-is c.in-Err-Full-wait_for_room.ensures.registered))
