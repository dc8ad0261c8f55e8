use Rattle.std.proofs.Common.{sym}
use Rattle.morsel_emit_run.proofs.run.open_units.Goals as goal

-- the faults of a node are those of its scan
pub returns-clause-first : goal.returns-clause-first
returns-clause-first g c =
    let tasks = rw (sym c.open_emit.ensures.same_board) at c.in_ok-first.ensures.first in
    let may = rw (sym c.in-Some.ensures.value) at c.requires.first_fails in record {
      owed = tasks.owed;
      polled = tasks.polled;
      faults = λ fault fails. may fault (tasks.faults fault fails);
    }

pub returns-clause-last : goal.returns-clause-last
returns-clause-last g c =
    let tasks = rw (sym c.open_emit.ensures.same_board) at c.in_ok-first.ensures.last in
    let may = rw (sym c.in-Some.ensures.value) at c.requires.last_fails in record {
      owed = tasks.owed;
      polled = tasks.polled;
      faults = λ fault fails. may fault (tasks.faults fault fails);
    }
