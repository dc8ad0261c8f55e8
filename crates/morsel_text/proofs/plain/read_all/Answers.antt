use Rattle.std.proofs.Common.{◌≡◌, ◌+◌, ◌-◌, ◌∙◌, ℕ, sym, subst, refl, arith, length}
use Rattle.std.proofs.lemmas.Bool.Decides.{Decides-eqb}
use Rattle.std.proofs.lemmas.Result.{err_from_is_err_and}
use Rattle.morsel_meaning.specs.Values.{kinds_of}
use Rattle.morsel_text.specs.Pushes.{column_kinds}
use Rattle.morsel_text.specs.Steps.{left}
use Rattle.morsel_text.proofs.PlainLemmas.{PlainSo, plain_start, plain_step, plain_refused, plain_end, left_nil, left_zero, gains_one}
use Rattle.morsel_text.proofs.plain.read_all.Goals as goal

pub loop-init : goal.loop-init
loop-init c =
    let columns = c.args.columns.now.items in
    let kinds = kinds_of c.args.reader.now.schema.now in
    let n = length c.args.bytes.now in
    let total = left n c.args.reader.now.options.now kinds c.args.reader.now.used.now c.args.head c.args.at c.args.bytes.now in
    record {
      so_far = subst (λ (k : ℕ). PlainSo total (length columns) (column_kinds columns) 0 columns (left k c.args.reader.now.options.now kinds c.args.reader.now.used.now c.args.head c.args.at c.args.bytes.now))
          (let same : n ≡ n - 0 = omega arith in same) (plain_start total columns c.requires.empty);
      places = refl;
      height = omega arith;
    }

pub returns-then-is_empty : goal.returns-then-is_empty
returns-then-is_empty c =
    plain_end _ _ _ c.args.reader.now.used.now c.loop.height c.loop.columns.items c.loop.awaits_header _ c.loop.invariant.so_far
    (left_nil _ c.args.reader.now.options.now (kinds_of c.args.reader.now.schema.now) c.args.reader.now.used.now c.loop.awaits_header c.loop.place c.loop.rest.now
    ((Decides-eqb (length c.loop.rest.now) 0).0 (sym c.is_empty.ensures ∙ c.if-is_empty.true)))

pub returns-in_err-step : goal.returns-in_err-step
returns-in_err-step c =
    let n = length c.args.bytes.now in
    let p = err_from_is_err_and c.from_residual.result c.from_residual.ensures.1 in
    rw (p.1, p.2) (plain_refused c.args.reader.now.file _ _ _ (kinds_of c.args.reader.now.schema.now) c.args.reader.now.options.now c.args.reader.now.used.now (n - (c.loop.counter + 1)) (n - c.loop.counter)
    c.loop.height c.loop.place c.loop.awaits_header c.loop.rest.now c.loop.columns.items _ (omega arith) c.loop.invariant.so_far c.in_err-step.ensures.steps)

pub loop-preserved : goal.loop-preserved
loop-preserved c =
    let n = length c.args.bytes.now in
    let step = c.in_ok-step.ensures.steps in
    record {
      so_far = plain_step _ _ _ (kinds_of c.args.reader.now.schema.now) c.args.reader.now.options.now c.args.reader.now.used.now (n - (c.loop.counter + 1)) (n - c.loop.counter)
          c.loop.height c.in_ok-step.step.rows c.loop.place (c.loop.place + (length c.loop.rest.now - length c.in_ok-step.step.rest.now)) c.loop.awaits_header c.in_ok-step.step.head
          c.loop.rest.now c.in_ok-step.step.rest.now c.loop.columns.items c.read_record.new.columns.items step.0 (omega arith) c.loop.invariant.so_far step.1 step.2;
      places = omega (arith, c.in_ok-step.ensures.within);
      height = omega (arith, gains_one c.loop.columns.items c.read_record.new.columns.items step.0 c.in_ok-step.step.rows step.1);
    }

pub returns : goal.returns
returns c =
    plain_end _ _ _ c.args.reader.now.used.now c.loop.height c.loop.columns.items c.loop.awaits_header _ c.loop.invariant.so_far
    (left_zero _ c.args.reader.now.options.now (kinds_of c.args.reader.now.schema.now) c.args.reader.now.used.now c.loop.awaits_header c.loop.place c.loop.rest.now (omega arith))
