use Rattle.std.proofs.Common.{◌≡◌, ◌+◌, ◌-◌, ◌∙◌, sym, ap, refl, arith, rules, length}
use Rattle.std.proofs.lemmas.Bool.Decides.{Decides-eqb}
use Rattle.std.proofs.lemmas.List.{nil_from_length}
use Rattle.std.proofs.lemmas.Str.{IsUtf8-from_is_utf8}
use Rattle.std.proofs.lemmas.Result.{err_from_is_err_and}
use Rattle.morsel_text.specs.Pushes.{column_kinds}
use Rattle.morsel_text.specs.Steps.{left}
use Rattle.morsel_text.proofs.StepLemmas.{read_start, step_refused}
use Rattle.morsel_text.proofs.BatchStepLemmas.{length-kinds}
use Rattle.morsel_text.proofs.EmptyLemmas.{after_empty, read_ended}
use Rattle.morsel_text.proofs.TurnLemmas.{after_turn}
use Rattle.morsel_text.proofs.read.read_all.Goals as goal

pub loop-init : goal.loop-init
loop-init c =
    let ks = column_kinds c.args.columns.now.items in
    let total = left (length c.args.bytes.now) c.args.reader.now.options.now ks c.args.reader.now.used.now c.args.head c.args.at c.args.bytes.now in
    record {
      so_far = read_start total c.args.reader.now.used.now c.args.columns.now.items c.requires.empty c.requires.used;
      places = refl;
      height = omega arith;
      short = omega arith;
      utf8 = λ known. IsUtf8-from_is_utf8 c.args.bytes.now (sym c.is_text-is_utf8.ensures ∙ known);
    }

pub returns-in_err-step : goal.returns-in_err-step
returns-in_err-step c =
    let ks = column_kinds c.args.columns.now.items in
    let text = c.behind_empty-behind.result.now in
    let n = length text in
    let kinds : length (column_kinds c.loop.columns.items) ≡ length ks = ap length c.loop.invariant.so_far.kinds in
    let wide : c.len.result ≡ length ks = omega (arith, length-kinds c.loop.columns.items, c.len.ensures, kinds) in
    let so_far = after_empty _ c.args.reader.now.used.now ks c.args.reader.now.options.now c.loop.height c.loop.place c.len.result c.loop.awaits_header c.loop.rest.now text
    c.loop.columns.items c.requires.fit wide c.behind_empty-behind.ensures.skips c.loop.invariant.so_far in
    let p = err_from_is_err_and c.from_residual.result c.from_residual.ensures.1 in
    rw (p.1, p.2) (step_refused c.args.reader.now.file _ c.args.reader.now.used.now ks c.args.reader.now.options.now (n - 1) n c.loop.height (c.loop.place + (length c.loop.rest.now - n))
    c.loop.awaits_header text c.loop.columns.items _ (search rules) so_far c.in_err-step.ensures.turns)

pub read_more-requires-clause-utf8 : goal.read_more-requires-clause-utf8
read_more-requires-clause-utf8 c = λ known. c.behind_empty-behind.ensures.utf8 (c.loop.invariant.utf8 known)

pub returns-then-is_empty : goal.returns-then-is_empty
returns-then-is_empty c =
    let ks = column_kinds c.args.columns.now.items in
    let text = c.behind_empty-behind.result.now in
    let kinds : length (column_kinds c.loop.columns.items) ≡ length ks = ap length c.loop.invariant.so_far.kinds in
    let wide : c.len.result ≡ length ks = omega (arith, length-kinds c.loop.columns.items, c.len.ensures, kinds) in
    let empty : length text ≡ 0 = (Decides-eqb (length text) 0).0 (sym c.is_empty.ensures ∙ c.if-is_empty.true) in
    read_ended c.args.reader.now.file _ c.args.reader.now.used.now c.args.reader.now.options.now c.loop.height (c.loop.place + (length c.loop.rest.now - length text)) c.loop.awaits_header text
    c.loop.columns.items c.args.columns.now.items (nil_from_length text empty)
    (after_empty _ c.args.reader.now.used.now ks c.args.reader.now.options.now c.loop.height c.loop.place c.len.result c.loop.awaits_header c.loop.rest.now text
    c.loop.columns.items c.requires.fit wide c.behind_empty-behind.ensures.skips c.loop.invariant.so_far)

pub loop-preserved : goal.loop-preserved
loop-preserved c =
    let ks = column_kinds c.args.columns.now.items in
    let text = c.behind_empty-behind.result.now in
    let kinds : length (column_kinds c.loop.columns.items) ≡ length ks = ap length c.loop.invariant.so_far.kinds in
    let wide : c.len.result ≡ length ks = omega (arith, length-kinds c.loop.columns.items, c.len.ensures, kinds) in
    let so_far = after_empty _ c.args.reader.now.used.now ks c.args.reader.now.options.now c.loop.height c.loop.place c.len.result c.loop.awaits_header c.loop.rest.now text
    c.loop.columns.items c.requires.fit wide c.behind_empty-behind.ensures.skips c.loop.invariant.so_far in
    record {
      so_far = after_turn _ c.args.reader.now.used.now ks c.args.reader.now.options.now c.args.reader.now.file c.loop.height (c.loop.place + (length c.loop.rest.now - length text)) c.loop.awaits_header text
          c.loop.columns.items c.read_more.new.columns.items c.in_ok-step.step c.requires.fit c.in_ok-step.ensures.shorter so_far c.in_ok-step.ensures.turns;
      places = omega (arith, c.in_ok-step.ensures.shorter, c.behind_empty-behind.ensures.within);
      height = omega (arith, c.in_ok-step.ensures.room, c.behind_empty-behind.ensures.within);
      short = omega (arith, c.in_ok-step.ensures.shorter, c.behind_empty-behind.ensures.within);
      utf8 = λ known. c.in_ok-step.ensures.utf8 (c.behind_empty-behind.ensures.utf8 (c.loop.invariant.utf8 known));
    }
