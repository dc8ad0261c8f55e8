use Rattle.std.proofs.Common.{sym}
use Rattle.morsel_join_lines.proofs.emit.open_emit.Goals as goal

-- all of it is on one board
pub open_through-requires-clause-tokens : goal.open_through-requires-clause-tokens
open_through-requires-clause-tokens g c = rw (sym c.spread_ends.ensures.same_board, sym c.merged_ends.ensures.same_board, sym c.open_giving.ensures.same_board) at c.requires.last_tokens

pub returns-clause-first : goal.returns-clause-first
returns-clause-first g c = rw (c.merged_ends.ensures.same_board, c.spread_ends.ensures.same_board) at c.in_ok-first.ensures.tasks

pub returns-clause-last : goal.returns-clause-last
returns-clause-last g c = rw (c.open_giving.ensures.same_board, c.merged_ends.ensures.same_board, c.spread_ends.ensures.same_board) at c.in_ok-last.ensures.tasks

pub returns-clause-given_senders : goal.returns-clause-given_senders
returns-clause-given_senders g c = rw (c.spread_ends.ensures.same_board) at c.in_ok-given.ensures.senders

pub returns-clause-given_receivers : goal.returns-clause-given_receivers
returns-clause-given_receivers g c = rw (c.spread_ends.ensures.same_board) at c.in_ok-given.ensures.receivers
