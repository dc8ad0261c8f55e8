use Rattle.std.proofs.Common.{arith, ◌∙◌, ap, sym, Some, if◌then◌else◌, drop, ◌+◌}
use Rattle.morsel_meaning.specs.Values.{names_of}
use Rattle.morsel_frame.specs.Refusals.{fault_of_repeat}
use Rattle.morsel_join.specs.Payloads.{first_clash, suffixed}
use Rattle.morsel_join.proofs.payload.check_suffixes.Goals as goal
use Rattle.morsel_join.proofs.PayloadLemmas.{clash-step}

pub returns-then-is_clash : goal.returns-then-is_clash
returns-then-is_clash c =
    let is = sym c.is_clash.ensures ∙ c.if-is_clash.true in
    ap fault_of_repeat (c.loop-field.invariant
    ∙ clash-step c.args.args.now c.args.keys.now (names_of c.args.lefts.now) c.args.fields.now c.loop-field.field-index c.field-item.result (omega arith) c.field-item.is
    ∙ ap (λ b. if b then Some (suffixed c.args.args.now.suffix (names_of c.args.lefts.now) c.field-item.result.name) else first_clash c.args.args.now c.args.keys.now (names_of c.args.lefts.now) (drop (c.loop-field.field-index + 1) c.args.fields.now)) is
    ∙ ap Some (sym c.in_ok-name.ensures.ok))

pub loop-field-preserved : goal.loop-field-preserved
loop-field-preserved c =
    let is = sym c.is_clash.ensures ∙ c.if-is_clash.false in
    c.loop-field.invariant
    ∙ clash-step c.args.args.now c.args.keys.now (names_of c.args.lefts.now) c.args.fields.now c.loop-field.field-index c.field-item.result (omega arith) c.field-item.is
    ∙ ap (λ b. if b then Some (suffixed c.args.args.now.suffix (names_of c.args.lefts.now) c.field-item.result.name) else first_clash c.args.args.now c.args.keys.now (names_of c.args.lefts.now) (drop (c.loop-field.field-index + 1) c.args.fields.now)) is
