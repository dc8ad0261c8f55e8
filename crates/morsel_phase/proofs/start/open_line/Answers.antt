use Rattle.std.proofs.Common.{sym}
use Rattle.morsel_phase.proofs.start.open_line.Goals as goal

-- all of it is on one board
pub open_node-requires-2-clause-tokens : goal.open_node-requires-2-clause-tokens
open_node-requires-2-clause-tokens g c = rw (sym c.fed_ends.ensures.same_board, sym c.middle_ends.ensures.same_board, sym c.given_ends.ensures.same_board, sym c.open_node.ensures.same_board) at c.requires.between_tokens

pub returns-clause-firsts : goal.returns-clause-firsts
returns-clause-firsts g c = rw (c.given_ends.ensures.same_board, c.middle_ends.ensures.same_board, c.fed_ends.ensures.same_board) at c.in_ok-first.ensures.can_poll

pub returns-clause-lasts : goal.returns-clause-lasts
returns-clause-lasts g c = rw (c.open_node.ensures.same_board, c.given_ends.ensures.same_board, c.middle_ends.ensures.same_board, c.fed_ends.ensures.same_board) at c.in_ok-last.ensures.can_poll

pub returns-clause-given_senders : goal.returns-clause-given_senders
returns-clause-given_senders g c = rw (c.middle_ends.ensures.same_board, c.fed_ends.ensures.same_board) at c.in_ok-given.ensures.senders

pub returns-clause-given_receivers : goal.returns-clause-given_receivers
returns-clause-given_receivers g c = rw (c.middle_ends.ensures.same_board, c.fed_ends.ensures.same_board) at c.in_ok-given.ensures.receivers
