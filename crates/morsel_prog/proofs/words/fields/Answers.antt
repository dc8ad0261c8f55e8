use Rattle.morsel_prog.proofs.FieldLemmas.{finds-err, no_fields, one_more, last_one}
use Rattle.morsel_prog.proofs.words.fields.Goals as goal

pub returns-in-Err : goal.returns-in-Err
returns-in-Err c = finds-err _ _ c.in-Err.fault c.in-Err.ensures
    (λ none. no_fields c.args.text.now c.parts.rest.now _ c.parts.fields.items _ c.parts.invariant.1 c.cut.ensures.cut none)

pub parts-preserved : goal.parts-preserved
parts-preserved c =
    let cut = rw c.in-Some.is at c.cut.ensures.cut in (
      rw c.in-Some.is at c.cut.ensures.rest,
      rw c.in_ok-push-in-Ok.ensures.items (one_more c.args.text.now c.parts.rest.now _ c.in-Some.more.now c.parts.fields.items c.in-Ok.field c.parts.invariant.1 cut c.in-Ok.ensures),
    )

pub returns-in-None : goal.returns-in-None
returns-in-None c =
    let cut = rw c.in-None.is at c.cut.ensures.cut in
    rw c.in_ok-push-in-Ok.ensures.items (last_one c.args.text.now c.parts.rest.now _ c.parts.fields.items c.in-Ok.field c.parts.invariant.1 cut c.in-Ok.ensures)
