use Rattle.std.proofs.Common.{sym}
use Rattle.morsel_join_lines.proofs.keep.open_keep.Goals as goal

-- all of it is on one board
pub open_keeping-requires-clause-tokens : goal.open_keeping-requires-clause-tokens
open_keeping-requires-clause-tokens g c = rw (sym c.spread_ends.ensures.same_board, sym c.shared_ends.ensures.same_board, sym c.open_through.ensures.same_board) at c.requires.last_tokens

pub returns-clause-first : goal.returns-clause-first
returns-clause-first g c = rw (c.shared_ends.ensures.same_board, c.spread_ends.ensures.same_board) at c.in_ok-first.ensures.tasks

pub returns-clause-last : goal.returns-clause-last
returns-clause-last g c = rw (c.open_through.ensures.same_board, c.shared_ends.ensures.same_board, c.spread_ends.ensures.same_board) at c.in_ok-last.ensures.tasks
