use Rattle.std.proofs.Common.{rules, ◌∙◌, sym, ◌∷◌}
use Rattle.morsel_frame.proofs.SeenNames.{seen-more, was_absent, known-step}
use Rattle.morsel_frame.proofs.schema.repeated.Goals as goal

pub loop-field-preserved : goal.loop-field-preserved
loop-field-preserved c =
    let before = c.loop-field.invariant.0 in
    let holds = c.loop-field.invariant.1 in
    let absent = sym (holds c.as_str.result) ∙ was_absent _ c.in_ok-insert.field-0 c.in_ok-insert.ensures.added c.if-not-branch.false in (
      c.as_str.result.now ∷ before,
      seen-more c.loop-field.seen c.insert.new.self c.as_str.result before holds c.in_ok-insert.ensures.updates,
      c.loop-field.invariant.2
          ∙ known-step before c.args.fields.now c.loop-field.field-index c.field-item.result c.as_str.result.now c.as_str.ensures (search rules) c.field-item.is absent,
    )
