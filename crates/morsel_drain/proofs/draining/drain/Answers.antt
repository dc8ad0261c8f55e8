use Rattle.std.proofs.Common.{ℕ, ◌≤◌, ◌∙◌, refl, subst, arith, inl}
use Rattle.std.specs.Prelude.{List}
use Rattle.morsel_drain.proofs.DrainLemmas.{rows_seen, leaves_all_else, midst_begun, midst_read, read_failed, midst_served, step_failed, run_ended}
use Rattle.morsel_drain.proofs.draining.drain.Goals as goal

pub turns-init : goal.turns-init
turns-init g c = record {
  suits = c.requires.suits;
  stays = λ begun was. was;
  told = λ job is. is;
  joined = c.requires.joined;
  size = refl;
  within = let none = c.requires.given in omega (arith, none);
  few = omega arith;
  small = omega arith;
  found = λ job reading serving. inl refl;
  idle = omega arith;
  far = omega arith;
  same = refl;
  fits = tt;
  ended = λ none. absurd none;
  reads = midst_begun _ _ _ _ _ _ _ _ _ (g.met.S.PieceSource.did_nothing _ _) c.requires.asked;
}

pub returns-in-Err-clause-drains : goal.returns-in-Err-clause-drains
returns-in-Err-clause-drains g c =
    read_failed _ _ _ g.L.Job.LineJob.is_due _ _ _ _ (λ job. g.S.PieceSource.reads c.read_next.new.reader job (g.H.Io.seen c.read_next.new.io)) (g.L.Line.serves c.turns.line) _ (g.S.PieceSource.given c.read_next.new.reader) _
    (g.S.PieceSource.asked c.read_next.new.reader) _ c.in-Err.fault _ _ _ _ _ _ _ _ _ _ c.turns.invariant.reads c.in-Err.ensures.reads
    (λ xs ys first later. g.met.S.PieceSource.did_on _ _ _ _ xs ys first (subst (λ (x : List ℕ). g.S.PieceSource.did c.turns.reader c.read_next.new.reader x ys) c.turns.invariant.same later)) (λ job reads fits. c.in-Err.ensures.input job reads fits) c.in-Err.ensures.failed

pub returns-in-Err-step-clause-drains : goal.returns-in-Err-step-clause-drains
returns-in-Err-step-clause-drains g c =
    let read = midst_read _ _ _ g.L.Job.LineJob.is_due _ _ _ _ _ _ _ _ _ _ c.in-Ok.input _ _ _ _ _ _ c.turns.invariant.reads c.in-Ok.ensures.reads
    (λ xs ys first later. g.met.S.PieceSource.did_on _ _ _ _ xs ys first (subst (λ (x : List ℕ). g.S.PieceSource.did c.turns.reader c.read_next.new.reader x ys) c.turns.invariant.same later)) (λ job reads fits. c.in-Ok.ensures.input job reads fits) in
    let fed = midst_served _ _ _ _ _ _ _ (g.L.Line.serves c.feed_on-input.new.line) _ _ _ c.feed_on-input.result _ _ _ read
    (λ job serving fits. c.feed_on-input.ensures.input job serving _ _ fits) in
    step_failed _ _ _ g.L.Job.LineJob.is_due _ _ _ _ (λ job. g.S.PieceSource.reads c.read_next.new.reader job (g.H.Io.seen c.read_next.new.io)) (g.L.Line.serves c.step.new.self) _ _ _ c.in-Err-step.fault _ _ _ _ _ _ fed
    (λ job serving. c.in-Err-step.ensures.due job serving) c.in-Err-step.ensures.broke

pub returns-in-Whole-clause-drains : goal.returns-in-Whole-clause-drains
returns-in-Whole-clause-drains g c =
    let read = midst_read _ _ _ g.L.Job.LineJob.is_due _ _ _ _ _ _ _ _ _ _ c.in-Ok.input _ _ _ _ _ _ c.turns.invariant.reads c.in-Ok.ensures.reads
    (λ xs ys first later. g.met.S.PieceSource.did_on _ _ _ _ xs ys first (subst (λ (x : List ℕ). g.S.PieceSource.did c.turns.reader c.read_next.new.reader x ys) c.turns.invariant.same later)) (λ job reads fits. c.in-Ok.ensures.input job reads fits) in
    let fed = midst_served _ _ _ _ _ _ _ (g.L.Line.serves c.feed_on-input.new.line) _ _ _ c.feed_on-input.result _ _ _ read
    (λ job serving fits. c.feed_on-input.ensures.input job serving _ _ fits) in
    let stepped = midst_served _ _ _ _ _ _ _ (g.L.Line.serves c.step.new.self) _ _ _ _ _ _ _ fed
    (λ job serving fits. (c.in_default.ensures.serves job serving, fits)) in
    let taken = midst_served _ _ _ _ _ _ _ (g.L.Line.serves c.take.new.self) _ _ _ _ _ _ _ stepped
    (λ job serving fits. (c.in-Whole.ensures.serves job serving, fits)) in
    run_ended _ _ _ g.L.Job.LineJob.is_due _ _ _ _ _ _ _ _ _ _ _ _ _ _ taken (rw c.given-given.ensures at c.end.ensures)
    (λ end. (c.in-Ok.ensures.ended (c.feed_on-input.ensures.ended end), c.in-Ok.ensures.suits))

pub returns-in-Part-clause-drains : goal.returns-in-Part-clause-drains
returns-in-Part-clause-drains g c =
    let read = midst_read _ _ _ g.L.Job.LineJob.is_due _ _ _ _ _ _ _ _ _ _ c.in-Ok.input _ _ _ _ _ _ c.turns.invariant.reads c.in-Ok.ensures.reads
    (λ xs ys first later. g.met.S.PieceSource.did_on _ _ _ _ xs ys first (subst (λ (x : List ℕ). g.S.PieceSource.did c.turns.reader c.read_next.new.reader x ys) c.turns.invariant.same later)) (λ job reads fits. c.in-Ok.ensures.input job reads fits) in
    let fed = midst_served _ _ _ _ _ _ _ (g.L.Line.serves c.feed_on-input.new.line) _ _ _ c.feed_on-input.result _ _ _ read
    (λ job serving fits. c.feed_on-input.ensures.input job serving _ _ fits) in
    let stepped = midst_served _ _ _ _ _ _ _ (g.L.Line.serves c.step.new.self) _ _ _ _ _ _ _ fed
    (λ job serving fits. (c.in_default.ensures.serves job serving, fits)) in
    let taken = midst_served _ _ _ _ _ _ _ (g.L.Line.serves c.take.new.self) _ _ _ _ _ _ _ stepped
    (λ job serving fits. (c.in-Part.ensures.serves job serving, fits)) in
    run_ended _ _ _ g.L.Job.LineJob.is_due _ _ _ _ _ _ _ _ _ _ _ _ _ _ taken tt (λ end. (c.in-Ok.ensures.ended (c.feed_on-input.ensures.ended end), c.in-Ok.ensures.suits))

pub turns-preserved : goal.turns-preserved
turns-preserved g c =
    let read = midst_read _ _ _ g.L.Job.LineJob.is_due _ _ _ _ _ _ _ _ _ _ c.in-Ok.input _ _ _ _ _ _ c.turns.invariant.reads c.in-Ok.ensures.reads
    (λ xs ys first later. g.met.S.PieceSource.did_on _ _ _ _ xs ys first (subst (λ (x : List ℕ). g.S.PieceSource.did c.turns.reader c.read_next.new.reader x ys) c.turns.invariant.same later)) (λ job reads fits. c.in-Ok.ensures.input job reads fits) in
    let fed = midst_served _ _ _ _ _ _ _ (g.L.Line.serves c.feed_on-input.new.line) _ _ _ c.feed_on-input.result _ _ _ read
    (λ job serving fits. c.feed_on-input.ensures.input job serving _ _ fits) in
    let stepped = midst_served _ _ _ _ _ _ _ (g.L.Line.serves c.step.new.self) _ _ _ _ _ _ _ fed
    (λ job serving fits. (c.in_default.ensures.serves job serving, fits)) in
    let taken = midst_served _ _ _ _ _ _ _ (g.L.Line.serves c.take.new.self) _ _ _ _ _ _ _ stepped
    (λ job serving fits. (c.in-Empty.ensures.serves job serving, fits)) in
    let did = c.in-Ok.ensures.reads in
    let size = c.turns.invariant.size in
    let within = subst (λ (x : List ℕ). g.S.PieceSource.given c.read_next.new.reader ≤ g.S.PieceSource.size c.turns.reader x) c.turns.invariant.same c.in-Ok.ensures.within in
    let given = c.given-given.ensures in
    record {
      suits = c.in-Ok.ensures.suits;
      stays = λ begun was. c.in-Empty.ensures.stays begun (c.in_default.ensures.stays begun (c.feed_on-input.ensures.stays begun (c.turns.invariant.stays begun was)));
      told = λ job is. c.turns.invariant.told job (c.feed_on-input.ensures.told job (c.in_default.ensures.told job (c.in-Empty.ensures.told job is)));
      joined = c.in-Empty.ensures.joined c.in_default.ensures.joined;
      size = c.in-Ok.ensures.same_size (g.H.Io.seen c.args.io.now).sizes ∙ c.turns.invariant.size;
      within = omega (arith, size, within);
      few = let few = c.turns.invariant.few in let one = c.in_default.ensures.counted in let found = c.see_rows-finding.ensures.spare in let more = c.after_finding-after.ensures.counted in
          let same = c.after_finding-after.ensures.rows in rw same (omega (arith, few, one, found, more));
      small = rw c.after_finding-after.ensures.rows (c.see_rows-finding.ensures.small c.rows_held-held.ensures.small c.turns.invariant.small);
      found = λ job reading serving. rw c.after_finding-after.ensures.rows
          (rows_seen (g.L.Job.LineJob.is_piece job) (g.L.Job.LineJob.is_end job) (g.S.PieceSource.given c.read_next.new.reader) (g.S.PieceSource.asked c.read_next.new.reader) c.in-Ok.input c.turns.finding.rows c.rows_held-held.result c.see_rows-finding.result.rows
          (c.turns.invariant.found job reading serving) c.rows_held-held.ensures.rows c.see_rows-finding.ensures.rows (read.sought_them job reading serving).fits);
      idle = c.after_finding-after.ensures.idle;
      far = c.after_finding-after.ensures.within (g.S.PieceSource.size c.args.reader.now (g.H.Io.seen c.args.io.now).sizes) (omega (arith, size, within, given)) c.turns.invariant.far;
      same = (leaves_all_else did.reads _ _ did.are did.does).sizes ∙ c.turns.invariant.same;
      fits = c.feed_on-input.ensures.fits;
      ended = λ end. c.in-Ok.ensures.ended (c.feed_on-input.ensures.ended end);
      reads = taken;
    }

pub returns-clause-drains : goal.returns-clause-drains
returns-clause-drains g c = run_ended _ _ _ _ _ _ _ _ _ _ _ _ _ _ _ _ _ _ c.turns.invariant.reads tt (λ end. (c.turns.invariant.ended end, c.turns.invariant.suits))

pub returns-then-reached-ge-IDLE_SWEEPS-clause-drains : goal.returns-then-reached-ge-IDLE_SWEEPS-clause-drains
returns-then-reached-ge-IDLE_SWEEPS-clause-drains g c = run_ended _ _ _ _ _ _ _ _ _ _ _ _ _ _ _ _ _ _ c.turns.invariant.reads tt (λ end. (c.turns.invariant.ended end, c.turns.invariant.suits))

-- the rows of the pieces that were read before this turn, which is within the sweeps of its test
pub returns-in-Err-clause-sweeps : goal.returns-in-Err-clause-sweeps
returns-in-Err-clause-sweeps g c = record {
  rows = c.turns.finding.rows;
  few = let few = c.turns.invariant.few in let idle = c.turns.invariant.idle in let far = c.turns.invariant.far in omega (arith, few, idle, far);
  small = c.turns.invariant.small;
  within = c.turns.invariant.found;
}

pub returns-in-Err-step-clause-sweeps : goal.returns-in-Err-step-clause-sweeps
returns-in-Err-step-clause-sweeps g c = record {
  rows = c.turns.finding.rows;
  few = let few = c.turns.invariant.few in let idle = c.if-reached-ge-IDLE_SWEEPS.false in let far = c.turns.invariant.far in let one = c.step.ensures.counted in omega (arith, few, idle, far, one);
  small = c.turns.invariant.small;
  within = c.turns.invariant.found;
}

pub returns-in-Whole-clause-sweeps : goal.returns-in-Whole-clause-sweeps
returns-in-Whole-clause-sweeps g c = record {
  rows = c.turns.finding.rows;
  few = let few = c.turns.invariant.few in let idle = c.if-reached-ge-IDLE_SWEEPS.false in let far = c.turns.invariant.far in let one = c.in_default.ensures.counted in omega (arith, few, idle, far, one);
  small = c.turns.invariant.small;
  within = c.turns.invariant.found;
}

pub returns-in-Part-clause-sweeps : goal.returns-in-Part-clause-sweeps
returns-in-Part-clause-sweeps g c = record {
  rows = c.turns.finding.rows;
  few = let few = c.turns.invariant.few in let idle = c.if-reached-ge-IDLE_SWEEPS.false in let far = c.turns.invariant.far in let one = c.in_default.ensures.counted in omega (arith, few, idle, far, one);
  small = c.turns.invariant.small;
  within = c.turns.invariant.found;
}

pub returns-clause-sweeps : goal.returns-clause-sweeps
returns-clause-sweeps g c = record {
  rows = c.turns.finding.rows;
  few = let few = c.turns.invariant.few in let idle = c.turns.invariant.idle in let far = c.turns.invariant.far in omega (arith, few, idle, far);
  small = c.turns.invariant.small;
  within = c.turns.invariant.found;
}

pub returns-then-reached-ge-IDLE_SWEEPS-clause-sweeps : goal.returns-then-reached-ge-IDLE_SWEEPS-clause-sweeps
returns-then-reached-ge-IDLE_SWEEPS-clause-sweeps g c = record {
  rows = c.turns.finding.rows;
  few = let few = c.turns.invariant.few in let idle = c.turns.invariant.idle in let far = c.turns.invariant.far in omega (arith, few, idle, far);
  small = c.turns.invariant.small;
  within = c.turns.invariant.found;
}
