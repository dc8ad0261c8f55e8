use Rattle.std.proofs.Common.{refl, arith}
use Rattle.morsel_drive.proofs.TransferLemmas.{either_writing, stays}
use Rattle.morsel_drain.proofs.PourLemmas.{text_begun, text_served, text_written, step_failed, write_failed, run_ended}
use Rattle.morsel_drain.proofs.pouring.pour.Goals as goal

pub turns-init : goal.turns-init
turns-init g c = record {
  made = c.requires.made;
  stays = λ begun was. c.close.ensures.stays begun was;
  rows = c.requires.none_written;
  joined = c.close.ensures.joined c.requires.joined;
  few = omega arith;
  idle = omega arith;
  far = omega arith;
  small = omega arith;
  stands = text_begun _ _ _ _ _ (λ job serving. c.close.ensures.serves job serving) refl refl refl;
}

pub returns-in-Err-clause-pours : goal.returns-in-Err-clause-pours
returns-in-Err-clause-pours g c =
    step_failed _ g.L.Job.LineJob.is_due _ _ c.in-Err.fault _ _ _ _ c.turns.invariant.stands (λ job serving. c.in-Err.ensures.due job serving) c.in-Err.ensures.broke

pub returns-in-Err-write_on-clause-pours : goal.returns-in-Err-write_on-clause-pours
returns-in-Err-write_on-clause-pours g c =
    let stepped = text_served _ _ _ (g.L.Line.serves c.step.new.self) _ _ _ c.turns.invariant.stands (λ job serving. c.in_default.ensures.serves job serving) in
    write_failed _ g.L.Job.LineJob.is_due _ _ (g.L.Line.serves c.write_on.new.line) c.in-Err-write_on.fault _ c.write_on.new.written _ _ _ _ stepped c.in-Err-write_on.ensures.writes

pub returns-then-whole-clause-pours : goal.returns-then-whole-clause-pours
returns-then-whole-clause-pours g c =
    let stepped = text_served _ _ _ (g.L.Line.serves c.step.new.self) _ _ _ c.turns.invariant.stands (λ job serving. c.in_default.ensures.serves job serving) in
    let written = text_written _ _ _ _ _ _ _ _ _ c.in-Ok.whole stepped c.in-Ok.ensures.writes in
    rw c.end.ensures.same (run_ended _ g.L.Job.LineJob.is_due _ _ _ _ _ _ _ written c.end.ensures.answer)

pub turns-preserved : goal.turns-preserved
turns-preserved g c =
    let stepped = text_served _ _ _ (g.L.Line.serves c.step.new.self) _ _ _ c.turns.invariant.stands (λ job serving. c.in_default.ensures.serves job serving) in
    let writes = c.in-Ok.ensures.writes in
    let same = stays _ _ writes.writes (either_writing writes.writes writes.are) writes.does in record {
      made = let some = c.turns.invariant.made in let sinks = same.sinks in omega (arith, some, sinks);
      stays = λ begun was. c.in-Ok.ensures.stays begun (c.in_default.ensures.stays begun (c.turns.invariant.stays begun was));
      rows = c.in-Ok.ensures.rows;
      joined = c.in-Ok.ensures.joined (c.in_default.ensures.joined);
      few = let few = c.turns.invariant.few in let one = c.in_default.ensures.counted in let more = c.after_sweep-reached.ensures.counted in omega (arith, few, one, more);
      idle = c.after_sweep-reached.ensures.idle;
      far = c.after_sweep-reached.ensures.within c.write_on.new.written.rows (omega arith) (let more = c.in-Ok.ensures.more in let far = c.turns.invariant.far in omega (arith, more, far));
      small = c.in-Ok.ensures.small c.turns.invariant.small;
      stands = text_written _ _ _ _ _ _ _ _ _ c.in-Ok.whole stepped writes;
    }

pub returns-clause-pours : goal.returns-clause-pours
returns-clause-pours g c = run_ended _ _ _ _ _ _ _ _ _ c.turns.invariant.stands tt

pub returns-then-reached-ge-IDLE_SWEEPS-clause-pours : goal.returns-then-reached-ge-IDLE_SWEEPS-clause-pours
returns-then-reached-ge-IDLE_SWEEPS-clause-pours g c = run_ended _ _ _ _ _ _ _ _ _ c.turns.invariant.stands tt

pub returns-in-Err-clause-sweeps : goal.returns-in-Err-clause-sweeps
returns-in-Err-clause-sweeps g c = record { rows = c.turns.written.rows; few = (let few = c.turns.invariant.few in let idle = c.turns.invariant.idle in let far = c.turns.invariant.far in let one = c.step.ensures.counted in omega (arith, few, idle, far, one)); small = c.turns.invariant.small; within = λ job serving sound. ((c.turns.invariant.stands.told_them job serving sound).1 0 0).within }

pub returns-in-Err-write_on-clause-sweeps : goal.returns-in-Err-write_on-clause-sweeps
returns-in-Err-write_on-clause-sweeps g c = record { rows = c.turns.written.rows; few = (let few = c.turns.invariant.few in let idle = c.turns.invariant.idle in let far = c.turns.invariant.far in let one = c.in_default.ensures.counted in omega (arith, few, idle, far, one)); small = c.turns.invariant.small; within = λ job serving sound. ((c.turns.invariant.stands.told_them job serving sound).1 0 0).within }

pub returns-then-whole-clause-sweeps : goal.returns-then-whole-clause-sweeps
returns-then-whole-clause-sweeps g c = record { rows = c.turns.written.rows; few = (let few = c.turns.invariant.few in let idle = c.turns.invariant.idle in let far = c.turns.invariant.far in let one = c.in_default.ensures.counted in omega (arith, few, idle, far, one)); small = c.turns.invariant.small; within = λ job serving sound. ((c.turns.invariant.stands.told_them job serving sound).1 0 0).within }

pub returns-clause-sweeps : goal.returns-clause-sweeps
returns-clause-sweeps g c = record { rows = c.turns.written.rows; few = (let few = c.turns.invariant.few in let idle = c.turns.invariant.idle in let far = c.turns.invariant.far in omega (arith, few, idle, far)); small = c.turns.invariant.small; within = λ job serving sound. ((c.turns.invariant.stands.told_them job serving sound).1 0 0).within }

pub returns-then-reached-ge-IDLE_SWEEPS-clause-sweeps : goal.returns-then-reached-ge-IDLE_SWEEPS-clause-sweeps
returns-then-reached-ge-IDLE_SWEEPS-clause-sweeps g c = record { rows = c.turns.written.rows; few = (let few = c.turns.invariant.few in let idle = c.turns.invariant.idle in let far = c.turns.invariant.far in omega (arith, few, idle, far)); small = c.turns.invariant.small; within = λ job serving sound. ((c.turns.invariant.stands.told_them job serving sound).1 0 0).within }
