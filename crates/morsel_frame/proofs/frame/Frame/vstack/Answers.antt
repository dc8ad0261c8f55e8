use Rattle.std.proofs.Common.{arith, ◌∙◌, ap, sym, subst, length, List}
use Rattle.morsel_meaning.specs.Values.{Table}
use Rattle.morsel_meaning.specs.declared.value.Field.{Field}
use Rattle.morsel_frame.specs.Frames.{IsFramed}
use Rattle.morsel_frame.specs.Tables.{difference}
use Rattle.morsel_frame.proofs.SameFields.{same-fields}
use Rattle.morsel_frame.proofs.FrameLemmas.{length-framed}
use Rattle.morsel_frame.proofs.frame.Frame.vstack.Goals as goal

pub put_below-requires-clause-others_framed : goal.put_below-requires-clause-others_framed
put_below-requires-clause-others_framed c =
    let none = ap (λ fields. difference fields c.other.inside.schema) (sym c.fields.ensures)
    ∙ ap (difference c.fields.result.now) (sym c.fields-2.ensures) ∙ sym c.in_ok-name.ensures.value ∙ c.in_default.is in
    let P : List Field → Type 0 = λ fields. IsFramed fields c.other.inside.height c.other.inside.columns.items in
    rw c.as_slice.ensures.value (subst P (sym (same-fields c.self.inside.schema c.other.inside.schema none)) c.other.invariant.0)

pub overflow_add-self : goal.overflow_add-self
overflow_add-self c =
    let lens = length-framed c.self.inside.schema c.self.inside.height c.self.inside.columns.items c.self.invariant.0 in
    let others = length-framed c.other.inside.schema c.other.inside.height c.other.inside.columns.items c.other.invariant.0 in
    let seen = ap (λ (table : Table). length table.rows) c.self.view_is in
    let seen_others = ap (λ (table : Table). length table.rows) c.other.view_is in
    omega (arith, lens, others, seen, seen_others)
