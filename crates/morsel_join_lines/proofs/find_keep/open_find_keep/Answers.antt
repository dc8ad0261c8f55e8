use Rattle.std.proofs.Common.{sym}
use Rattle.morsel_join_lines.proofs.find_keep.open_find_keep.Goals as goal

-- the ends were made on the board as it was, which keeps its tables
pub open_through-requires-clause-from : goal.open_through-requires-clause-from
open_through-requires-clause-from g c =
    rw (sym c.spread_ends.ensures.same_board, sym c.shared_ends.ensures.same_board, sym c.shared_ends-2.ensures.same_board) at c.in_ok-fed.ensures.from

pub open_through-requires-clause-tokens : goal.open_through-requires-clause-tokens
open_through-requires-clause-tokens g c =
    rw (sym c.spread_ends.ensures.same_board, sym c.shared_ends.ensures.same_board, sym c.shared_ends-2.ensures.same_board) at c.requires.first_tokens

pub open_finding-requires-clause-from : goal.open_finding-requires-clause-from
open_finding-requires-clause-from g c =
    rw (sym c.shared_ends.ensures.same_board, sym c.shared_ends-2.ensures.same_board, sym c.open_through.ensures.same_board) at c.in_ok-asked.ensures.from

pub open_finding-requires-clause-to : goal.open_finding-requires-clause-to
open_finding-requires-clause-to g c k d less =
    let to = rw (sym c.shared_ends-2.ensures.same_board, sym c.open_through.ensures.same_board) at c.in_ok-found.ensures.to in (_, to k d less)

pub open_keeping-requires-clause-from : goal.open_keeping-requires-clause-from
open_keeping-requires-clause-from g c =
    rw (sym c.shared_ends-2.ensures.same_board, sym c.open_through.ensures.same_board, sym c.open_finding.ensures.same_board) at c.in_ok-found.ensures.from

-- all of it is on one board
pub open_finding-requires-clause-tokens : goal.open_finding-requires-clause-tokens
open_finding-requires-clause-tokens g c =
    rw (sym c.spread_ends.ensures.same_board, sym c.shared_ends.ensures.same_board, sym c.shared_ends-2.ensures.same_board, sym c.open_through.ensures.same_board) at c.requires.middle_tokens

pub open_keeping-requires-clause-tokens : goal.open_keeping-requires-clause-tokens
open_keeping-requires-clause-tokens g c =
    rw (sym c.spread_ends.ensures.same_board, sym c.shared_ends.ensures.same_board, sym c.shared_ends-2.ensures.same_board, sym c.open_through.ensures.same_board, sym c.open_finding.ensures.same_board)
    at c.requires.last_tokens

pub returns-clause-first : goal.returns-clause-first
returns-clause-first g c =
    rw (c.shared_ends-2.ensures.same_board, c.shared_ends.ensures.same_board, c.spread_ends.ensures.same_board) at c.in_ok-first.ensures.tasks

pub returns-clause-middle : goal.returns-clause-middle
returns-clause-middle g c =
    rw (c.open_through.ensures.same_board, c.shared_ends-2.ensures.same_board, c.shared_ends.ensures.same_board, c.spread_ends.ensures.same_board) at c.in_ok-middle.ensures.tasks

pub returns-clause-last : goal.returns-clause-last
returns-clause-last g c =
    rw (c.open_finding.ensures.same_board, c.open_through.ensures.same_board, c.shared_ends-2.ensures.same_board, c.shared_ends.ensures.same_board, c.spread_ends.ensures.same_board)
    at c.in_ok-last.ensures.tasks
