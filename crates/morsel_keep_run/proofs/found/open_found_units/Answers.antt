use Rattle.std.proofs.Common.{◌≤◌, ℕ, refl, sym, ap, subst}
use Rattle.morsel_ports.specs.Pipes.{is_direct, is_made}
use Rattle.morsel_keep_run.proofs.found.open_found_units.Goals as goal

-- the faults of a node are those of its scan
pub pair_units-requires-clause-first : goal.pair_units-requires-clause-first
pair_units-requires-clause-first g c =
    let tasks = rw (sym c.open_find_keep.ensures.same_board) at c.in_ok-first.ensures.middle in
    let may = rw (sym c.in-Some.ensures.value) at c.requires.middle_fails in record {
      owed = tasks.owed;
      polled = tasks.polled;
      faults = λ fault fails. may fault (tasks.faults fault fails);
    }

pub pair_units-requires-clause-second : goal.pair_units-requires-clause-second
pair_units-requires-clause-second g c =
    let tasks = rw (sym c.open_find_keep.ensures.same_board) at c.in_ok-first.ensures.last in
    let may = rw (sym c.in-Some.ensures.value) at c.requires.last_fails in record {
      owed = tasks.owed;
      polled = tasks.polled;
      faults = λ fault fails. may fault (tasks.faults fault fails);
    }

pub returns-clause-first : goal.returns-clause-first
returns-clause-first g c =
    let tasks = rw (sym c.open_find_keep.ensures.same_board) at c.in_ok-first.ensures.first in
    let may = rw (sym c.in-Some.ensures.value) at c.requires.first_fails in record {
      owed = tasks.owed;
      polled = tasks.polled;
      faults = λ fault fails. may fault (tasks.faults fault fails);
    }

-- what stays of a node as it was taken stays of it in its stage
pub returns-clause-finding_stays : goal.returns-clause-finding_stays
returns-clause-finding_stays g c begun was = rw (c.in_ok-both.ensures.stages.0) (c.in_ok-first.ensures.middle_stays begun (rw (sym c.in-Some.ensures.value) at was))

pub returns-clause-keeping_stays : goal.returns-clause-keeping_stays
returns-clause-keeping_stays g c begun was = rw (c.in_ok-both.ensures.stages.1) (c.in_ok-first.ensures.last_stays begun (rw (sym c.in-Some.ensures.value) at was))

-- the pipe before the first node is ready
pub returns-clause-ready : goal.returns-clause-ready
returns-clause-ready g c =
    let first = c.in_ok-first.ensures in
    let same = sym c.open_find_keep.ensures.same_board in (
      refl,
      c.requires.spread_room,
      c.requires.merge_room,
      rw same at c.requires.fed_tokens,
      (
        ap is_made first.fed_stage,
        ap is_direct first.fed_stage,
        subst (λ (n : ℕ). (1 ≤ n) × (n ≤ 32768)) (sym first.fed_pipelines) c.requires.pipelines,
        rw same at first.fed_senders,
        rw same at first.fed_receivers,
      ),
    )
