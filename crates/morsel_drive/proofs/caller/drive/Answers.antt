use Rattle.std.proofs.Common.{ℕ, ◌+◌, ◌*◌, ◌≤◌, ◌∙◌, refl, subst, arith}
use Rattle.std.specs.Prelude.{List}
use Rattle.morsel_drive.proofs.TransferLemmas.{either_reading, either_writing, stays}
use Rattle.morsel_drive.specs.Sweeping.{counted_rows}
use Rattle.morsel_drive.proofs.SweepLemmas.{far_more}
use Rattle.morsel_drive.proofs.TurnLemmas.{stands_begun, stands_read, read_failed, stands_served, step_failed, stands_written, write_failed, run_ended}
use Rattle.morsel_drive.proofs.caller.drive.Goals as goal

pub turns-init : goal.turns-init
turns-init g c = record {
  suits = c.requires.suits;
  made = c.requires.made;
  stays = λ begun was. was;
  told = λ job is. is;
  rows = c.requires.none_written;
  joined = c.requires.joined;
  size = refl;
  within = let none = c.requires.given in omega (arith, none);
  next = omega arith;
  few = omega arith;
  idle = omega arith;
  far = omega arith;
  small = omega arith;
  chunk = refl;
  same = refl;
  fits = tt;
  ended = λ none. absurd none;
  stands = stands_begun _ _ _ _ _ _ _ _ _ _ _ _ (g.met.S.PieceSource.did_nothing _ _) c.requires.asked refl refl refl;
}

pub returns-in-Err-clause-drives : goal.returns-in-Err-clause-drives
returns-in-Err-clause-drives g c =
    read_failed _ _ _ _ _ _ _ _ (λ job. g.S.PieceSource.reads c.read_on.new.reader job (g.H.Io.seen c.read_on.new.io)) _ _ _ _ (g.S.PieceSource.given c.read_on.new.reader) _
    (g.S.PieceSource.asked c.read_on.new.reader) _ c.in-Err.fault _ _ _ _ _ _ _ _ _ _ c.turns.invariant.chunk c.turns.invariant.stands c.in-Err.ensures.reads
    (λ xs ys first later. g.met.S.PieceSource.did_on _ _ _ _ xs ys first (subst (λ (x : List ℕ). g.S.PieceSource.did c.turns.reader c.read_on.new.reader x ys) c.turns.invariant.same later)) (λ job reads fits. c.in-Err.ensures.input job reads fits) c.in-Err.ensures.failed

pub returns-in-Err-step-clause-drives : goal.returns-in-Err-step-clause-drives
returns-in-Err-step-clause-drives g c =
    let read = stands_read _ _ _ g.L.Job.LineJob.is_due _ _ _ _ _ _ _ _ _ _ _ _ _ c.in-Ok.input _ _ _ _ _ _ _ c.turns.invariant.chunk c.turns.invariant.stands c.in-Ok.ensures.reads
    (λ xs ys first later. g.met.S.PieceSource.did_on _ _ _ _ xs ys first (subst (λ (x : List ℕ). g.S.PieceSource.did c.turns.reader c.read_on.new.reader x ys) c.turns.invariant.same later)) (λ job reads fits. c.in-Ok.ensures.input job reads fits) in
    let fed = stands_served _ _ _ _ _ _ _ (g.L.Line.serves c.feed_on-input.new.line) _ _ _ _ _ c.feed_on-input.result _ _ _ _ read
    (λ job serving fits. c.feed_on-input.ensures.input job serving _ _ fits) in
    step_failed _ _ _ g.L.Job.LineJob.is_due _ _ _ _ (λ job. g.S.PieceSource.reads c.read_on.new.reader job (g.H.Io.seen c.read_on.new.io)) _ _ _ _ _ c.in-Err-step.fault _ _ _ _ _ _ _ fed (λ job serving. c.in-Err-step.ensures.due job serving) c.in-Err-step.ensures.broke

pub returns-in-Err-write_on-clause-drives : goal.returns-in-Err-write_on-clause-drives
returns-in-Err-write_on-clause-drives g c =
    let read = stands_read _ _ _ g.L.Job.LineJob.is_due _ _ _ _ _ _ _ _ _ _ _ _ _ c.in-Ok.input _ _ _ _ _ _ _ c.turns.invariant.chunk c.turns.invariant.stands c.in-Ok.ensures.reads
    (λ xs ys first later. g.met.S.PieceSource.did_on _ _ _ _ xs ys first (subst (λ (x : List ℕ). g.S.PieceSource.did c.turns.reader c.read_on.new.reader x ys) c.turns.invariant.same later)) (λ job reads fits. c.in-Ok.ensures.input job reads fits) in
    let fed = stands_served _ _ _ _ _ _ _ (g.L.Line.serves c.feed_on-input.new.line) _ _ _ _ _ c.feed_on-input.result _ _ _ _ read
    (λ job serving fits. c.feed_on-input.ensures.input job serving _ _ fits) in
    let stepped = stands_served _ _ _ _ _ _ _ (g.L.Line.serves c.step.new.self) _ _ _ _ _ _ _ _ _ _ fed
    (λ job serving fits. (c.in_default.ensures.serves job serving, fits)) in
    write_failed _ _ _ g.L.Job.LineJob.is_due _ _ _ _ (g.L.Line.serves c.write_on.new.line) (λ job. g.S.PieceSource.reads c.read_on.new.reader job (g.H.Io.seen c.write_on.new.io)) _ _ _ _ _ c.in-Err-write_on.fault _ c.write_on.new.written _ _ _ _ _ _ _ stepped c.in-Err-write_on.ensures.writes

pub returns-then-whole-clause-drives : goal.returns-then-whole-clause-drives
returns-then-whole-clause-drives g c =
    let read = stands_read _ _ _ g.L.Job.LineJob.is_due _ _ _ _ _ _ _ _ _ _ _ _ _ c.in-Ok.input _ _ _ _ _ _ _ c.turns.invariant.chunk c.turns.invariant.stands c.in-Ok.ensures.reads
    (λ xs ys first later. g.met.S.PieceSource.did_on _ _ _ _ xs ys first (subst (λ (x : List ℕ). g.S.PieceSource.did c.turns.reader c.read_on.new.reader x ys) c.turns.invariant.same later)) (λ job reads fits. c.in-Ok.ensures.input job reads fits) in
    let fed = stands_served _ _ _ _ _ _ _ (g.L.Line.serves c.feed_on-input.new.line) _ _ _ _ _ c.feed_on-input.result _ _ _ _ read
    (λ job serving fits. c.feed_on-input.ensures.input job serving _ _ fits) in
    let stepped = stands_served _ _ _ _ _ _ _ (g.L.Line.serves c.step.new.self) _ _ _ _ _ _ _ _ _ _ fed
    (λ job serving fits. (c.in_default.ensures.serves job serving, fits)) in
    let writes = c.in-Ok-write_on.ensures.writes in
    let same = stays _ _ writes.writes (either_writing writes.writes writes.are) writes.does in
    let written = stands_written _ _ _ _ _ _ (λ job. g.S.PieceSource.reads c.read_on.new.reader job (g.H.Io.seen c.write_on.new.io)) _ _ _ _ _ _ _ _ _ _ _ _ _ c.in-Ok-write_on.whole stepped writes
    (λ job reads. g.met.S.PieceSource.reads_on _ job _ _ same.sizes same.held reads) in
    rw c.end.ensures.same (run_ended _ _ _ g.L.Job.LineJob.is_due _ _ _ _ _ _ _ _ _ _ _ _ _ _ _ _ _ written (rw c.given-given.ensures at c.end.ensures.answer)
    (λ end. (c.in-Ok.ensures.ended (c.feed_on-input.ensures.ended end), g.met.S.PieceSource.suits_on _ _ _ same.sizes c.in-Ok.ensures.suits)))

pub turns-preserved : goal.turns-preserved
turns-preserved g c =
    let read = stands_read _ _ _ g.L.Job.LineJob.is_due _ _ _ _ _ _ _ _ _ _ _ _ _ c.in-Ok.input _ _ _ _ _ _ _ c.turns.invariant.chunk c.turns.invariant.stands c.in-Ok.ensures.reads
    (λ xs ys first later. g.met.S.PieceSource.did_on _ _ _ _ xs ys first (subst (λ (x : List ℕ). g.S.PieceSource.did c.turns.reader c.read_on.new.reader x ys) c.turns.invariant.same later)) (λ job reads fits. c.in-Ok.ensures.input job reads fits) in
    let fed = stands_served _ _ _ _ _ _ _ (g.L.Line.serves c.feed_on-input.new.line) _ _ _ _ _ c.feed_on-input.result _ _ _ _ read
    (λ job serving fits. c.feed_on-input.ensures.input job serving _ _ fits) in
    let stepped = stands_served _ _ _ _ _ _ _ (g.L.Line.serves c.step.new.self) _ _ _ _ _ _ _ _ _ _ fed
    (λ job serving fits. (c.in_default.ensures.serves job serving, fits)) in
    let writes = c.in-Ok-write_on.ensures.writes in
    let same = stays _ _ writes.writes (either_writing writes.writes writes.are) writes.does in
    let written = stands_written _ _ _ _ _ _ (λ job. g.S.PieceSource.reads c.read_on.new.reader job (g.H.Io.seen c.write_on.new.io)) _ _ _ _ _ _ _ _ _ _ _ _ _ c.in-Ok-write_on.whole stepped writes
    (λ job reads. g.met.S.PieceSource.reads_on _ job _ _ same.sizes same.held reads) in
    let size = c.turns.invariant.size in
    let within = subst (λ (x : List ℕ). g.S.PieceSource.given c.read_on.new.reader ≤ g.S.PieceSource.size c.turns.reader x) c.turns.invariant.same c.in-Ok.ensures.within in
    let given = c.given-given.ensures in
    let next = c.in-Ok-write_on.ensures.within (g.S.PieceSource.size c.args.reader.now (g.H.Io.seen c.args.io.now).sizes) (omega (arith, size, within, given)) c.turns.invariant.next in
    record {
      suits = g.met.S.PieceSource.suits_on _ _ _ same.sizes c.in-Ok.ensures.suits;
      made = let some = c.turns.invariant.made in let one = (stays _ _ c.in-Ok.ensures.reads.reads (either_reading c.in-Ok.ensures.reads.reads c.in-Ok.ensures.reads.are) c.in-Ok.ensures.reads.does).sinks in
          let two = same.sinks in omega (arith, some, one, two);
      stays = λ begun was. c.in-Ok-write_on.ensures.stays begun (c.in_default.ensures.stays begun (c.feed_on-input.ensures.stays begun (c.turns.invariant.stays begun was)));
      told = λ job is. c.turns.invariant.told job (c.feed_on-input.ensures.told job (c.in_default.ensures.told job (c.in-Ok-write_on.ensures.told job is)));
      rows = c.in-Ok-write_on.ensures.rows;
      joined = c.in-Ok-write_on.ensures.joined (c.in_default.ensures.joined);
      size = c.in-Ok.ensures.same_size (g.H.Io.seen c.args.io.now).sizes ∙ c.turns.invariant.size;
      within = omega (arith, size, within);
      next = next;
      few = let few = c.turns.invariant.few in let one = c.in_default.ensures.counted in let more = c.after_sweep-reached.ensures.counted in omega (arith, few, one, more);
      idle = c.after_sweep-reached.ensures.idle;
      far = c.after_sweep-reached.ensures.within (2 * g.S.PieceSource.size c.args.reader.now (g.H.Io.seen c.args.io.now).sizes + counted_rows c.args.progress c.write_on.new.written.rows)
          (let place = c.place_reached.ensures.at_most in omega (arith, size, within, given, next, place)) (far_more c.args.progress _ _ _ _ c.in-Ok-write_on.ensures.more c.turns.invariant.far);
      small = c.in-Ok-write_on.ensures.small c.turns.invariant.small;
      chunk = c.in-Ok.ensures.chunk ∙ c.turns.invariant.chunk;
      same = same.sizes ∙ (stays _ _ c.in-Ok.ensures.reads.reads (either_reading c.in-Ok.ensures.reads.reads c.in-Ok.ensures.reads.are) c.in-Ok.ensures.reads.does).sizes ∙ c.turns.invariant.same;
      ended = λ end. c.in-Ok.ensures.ended (c.feed_on-input.ensures.ended end);
      fits = c.feed_on-input.ensures.fits;
      stands = written;
    }

pub returns-clause-drives : goal.returns-clause-drives
returns-clause-drives g c = run_ended _ _ _ _ _ _ _ _ _ _ _ _ _ _ _ _ _ _ _ _ _ c.turns.invariant.stands tt (λ end. (c.turns.invariant.ended end, c.turns.invariant.suits))

pub returns-then-reached-ge-IDLE_SWEEPS-clause-drives : goal.returns-then-reached-ge-IDLE_SWEEPS-clause-drives
returns-then-reached-ge-IDLE_SWEEPS-clause-drives g c = run_ended _ _ _ _ _ _ _ _ _ _ _ _ _ _ _ _ _ _ _ _ _ c.turns.invariant.stands tt (λ end. (c.turns.invariant.ended end, c.turns.invariant.suits))

pub returns-in-Err-clause-sweeps : goal.returns-in-Err-clause-sweeps
returns-in-Err-clause-sweeps g c = record { rows = c.turns.written.rows; few = (let few = c.turns.invariant.few in let idle = c.turns.invariant.idle in let far = c.turns.invariant.far in omega (arith, few, idle, far)); small = c.turns.invariant.small; within = λ job reading serving sound. (c.turns.invariant.stands.told_them job reading serving sound).keeps.within }

pub returns-in-Err-step-clause-sweeps : goal.returns-in-Err-step-clause-sweeps
returns-in-Err-step-clause-sweeps g c = record { rows = c.turns.written.rows; few = (let few = c.turns.invariant.few in let idle = c.turns.invariant.idle in let far = c.turns.invariant.far in let one = c.step.ensures.counted in omega (arith, few, idle, far, one)); small = c.turns.invariant.small; within = λ job reading serving sound. (c.turns.invariant.stands.told_them job reading serving sound).keeps.within }

pub returns-in-Err-write_on-clause-sweeps : goal.returns-in-Err-write_on-clause-sweeps
returns-in-Err-write_on-clause-sweeps g c = record { rows = c.turns.written.rows; few = (let few = c.turns.invariant.few in let idle = c.turns.invariant.idle in let far = c.turns.invariant.far in let one = c.in_default.ensures.counted in omega (arith, few, idle, far, one)); small = c.turns.invariant.small; within = λ job reading serving sound. (c.turns.invariant.stands.told_them job reading serving sound).keeps.within }

pub returns-then-whole-clause-sweeps : goal.returns-then-whole-clause-sweeps
returns-then-whole-clause-sweeps g c = record { rows = c.turns.written.rows; few = (let few = c.turns.invariant.few in let idle = c.turns.invariant.idle in let far = c.turns.invariant.far in let one = c.in_default.ensures.counted in omega (arith, few, idle, far, one)); small = c.turns.invariant.small; within = λ job reading serving sound. (c.turns.invariant.stands.told_them job reading serving sound).keeps.within }

pub returns-clause-sweeps : goal.returns-clause-sweeps
returns-clause-sweeps g c = record { rows = c.turns.written.rows; few = (let few = c.turns.invariant.few in let idle = c.turns.invariant.idle in let far = c.turns.invariant.far in omega (arith, few, idle, far)); small = c.turns.invariant.small; within = λ job reading serving sound. (c.turns.invariant.stands.told_them job reading serving sound).keeps.within }

pub returns-then-reached-ge-IDLE_SWEEPS-clause-sweeps : goal.returns-then-reached-ge-IDLE_SWEEPS-clause-sweeps
returns-then-reached-ge-IDLE_SWEEPS-clause-sweeps g c = record { rows = c.turns.written.rows; few = (let few = c.turns.invariant.few in let idle = c.turns.invariant.idle in let far = c.turns.invariant.far in omega (arith, few, idle, far)); small = c.turns.invariant.small; within = λ job reading serving sound. (c.turns.invariant.stands.told_them job reading serving sound).keeps.within }
