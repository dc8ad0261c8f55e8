use Rattle.std.proofs.Common.{◌+◌, refl, arith}
use Rattle.std.proofs.lemmas.List.{take_rest}
use Rattle.morsel_scan.proofs.FrontLemmas.{front_refused, rest_refused, front_found}
use Rattle.morsel_scan.proofs.reader.front.front_of.Goals as goal
use Rattle.morsel_scan.proofs.reader.front.front_of.Goals.{then-rows-eq0+in-Ok-test_text, else-rows-eq0}

pub returns-in-Err-clause-front : goal.returns-in-Err-clause-front
returns-in-Err-clause-front c = λ records are.
    front_refused c.args.options.now c.args.source c.args.at c.mark_at-mark.result c.args.awaits_header c.args.block.now _ _ records c.header_part-head.result c.in-Err.fault
    c.comment-comment.ensures.fit c.mark_at-mark.ensures.value (take_rest c.args.block.now c.mark_at-mark.result) refl
    c.header_part-head.ensures.within c.header_part-head.ensures.part are c.in-Err.ensures.err

pub returns-in-Err-test_text-clause-front : goal.returns-in-Err-test_text-clause-front
returns-in-Err-test_text-clause-front c = λ records are.
    rest_refused c.args.options.now c.args.source c.args.at c.mark_at-mark.result _ c.args.awaits_header c.args.block.now _ _ records c.header_part-head.result c.in-Err-test_text.fault
    c.comment-comment.ensures.fit c.mark_at-mark.ensures.value (take_rest c.args.block.now c.mark_at-mark.result)
    (take_rest c.args.block.now (c.mark_at-mark.result + c.header_part-head.result.len))
    c.header_part-head.ensures.within (omega arith) c.header_part-head.ensures.part are c.in-Err-test_text.ensures.err

pub returns-clause-front : goal.returns-clause-front
returns-clause-front c = λ records are.
    let len = c.mark_at-mark.result + c.header_part-head.result.len in
    front_found c.args.options.now c.args.columns c.args.awaits_header c.args.at c.mark_at-mark.result c.args.block.now _ _ _ records c.header_part-head.result c.rows_of-rows.result
    c.mark_at-mark.ensures.value (take_rest c.args.block.now c.mark_at-mark.result) refl (take_rest c.args.block.now len)
    c.header_part-head.ensures.within c.mark_at-mark.ensures.within c.header_part-head.ensures.part are c.in-Ok.ensures.ok c.rows_of-rows.ensures.rows
    (λ none. elim c.if-rows-eq0.branch [
      | then-rows-eq0+in-Ok-test_text w ↦ w.in-Ok-test_text.ensures.ok
      | else-rows-eq0 w ↦ absurd (omega (arith, w.if-rows-eq0.false))
    ])
