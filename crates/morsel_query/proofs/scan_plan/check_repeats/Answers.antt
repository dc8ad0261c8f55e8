use Rattle.std.proofs.Common.{rules, ◌∙◌, sym, ◌∷◌}
use Rattle.morsel_frame.proofs.SeenNames.{seen-more, was_absent}
use Rattle.morsel_query.proofs.NameLemmas.{known-later}
use Rattle.morsel_query.proofs.scan_plan.check_repeats.Goals as goal

pub loop-name-preserved : goal.loop-name-preserved
loop-name-preserved c =
    let before = c.loop-name.invariant.0 in
    let holds = c.loop-name.invariant.1 in
    let absent = sym (holds c.as_str-text.result) ∙ was_absent _ c.in_ok-insert.field-0 c.in_ok-insert.ensures.added c.if-not-branch.false in (
      c.as_str-text.result.now ∷ before,
      seen-more c.loop-name.seen c.insert.new.self c.as_str-text.result before holds c.in_ok-insert.ensures.updates,
      c.loop-name.invariant.2
          ∙ known-later before c.args.names.now c.loop-name.name-index c.name-item.result c.as_str-text.result.now c.as_str-text.ensures (search rules) c.name-item.is absent,
    )
