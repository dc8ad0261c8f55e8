use Rattle.std.proofs.Common.{not, ◌∙◌}
use Rattle.std.proofs.lemmas.Result.{IfOk-weaker}
use Rattle.std.proofs.lemmas.Simd.{map-map}
use Rattle.morsel_expr.specs.Truths.{least, greatest, mirror, certain}
use Rattle.morsel_expr.specs.Predicates.{is_null, asserted, value_under, truth}
use Rattle.morsel_expr.proofs.TruthLemmas.{map-zip}
use Rattle.morsel_expr.proofs.eval.+eval_node.Goals as goal

pub returns-in_ok-second-in-And-clause-ok : goal.returns-in_ok-second-in-And-clause-ok
returns-in_ok-second-in-And-clause-ok t c =
    rw c.in-And.is
    (IfOk-weaker c.both.result _ _
    (λ truths is. is ∙ rw (c.deref-in-And-2.ensures.value, c.deref-in-And-3.ensures.value, c.in_ok-first-in-And.ensures.ok, c.in_ok-second-in-And.ensures.ok, c.deref.ensures, c.deref-in-And.ensures)
    (map-zip least (truth c.args.frame.now.schema c.in-And.a.value) (truth c.args.frame.now.schema c.in-And.b.value) c.args.frame.now.rows))
    c.both.ensures.ok)

pub returns-in_ok-second-in-Or-clause-ok : goal.returns-in_ok-second-in-Or-clause-ok
returns-in_ok-second-in-Or-clause-ok t c =
    rw c.in-Or.is
    (IfOk-weaker c.either.result _ _
    (λ truths is. is ∙ rw (c.deref-in-Or-3.ensures.value, c.deref-in-Or-4.ensures.value, c.in_ok-first-in-Or.ensures.ok, c.in_ok-second-in-Or.ensures.ok, c.deref-in-Or.ensures, c.deref-in-Or-2.ensures)
    (map-zip greatest (truth c.args.frame.now.schema c.in-Or.a.value) (truth c.args.frame.now.schema c.in-Or.b.value) c.args.frame.now.rows))
    c.either.ensures.ok)

pub returns-in_ok-truths-in-Not-clause-ok : goal.returns-in_ok-truths-in-Not-clause-ok
returns-in_ok-truths-in-Not-clause-ok t c =
    rw c.in-Not.is
    (IfOk-weaker c.mirrored.result _ _
    (λ truths is. is ∙ rw (c.deref-in-Not-2.ensures.value, c.in_ok-truths-in-Not.ensures.ok, c.deref-in-Not.ensures)
    (map-map mirror (truth c.args.frame.now.schema c.in-Not.a.value) c.args.frame.now.rows))
    c.mirrored.ensures.ok)

pub returns-in-IsNull-clause-ok : goal.returns-in-IsNull-clause-ok
returns-in-IsNull-clause-ok t c =
    rw c.in-IsNull.is
    (IfOk-weaker c.nulls.result _ _
    (λ truths is. is ∙ rw c.column_of.ensures.values (map-map (λ v. certain (is_null v)) (value_under c.args.frame.now.schema c.in-IsNull.name) c.args.frame.now.rows))
    c.nulls.ensures.ok)

pub returns-in-NotNull-clause-ok : goal.returns-in-NotNull-clause-ok
returns-in-NotNull-clause-ok t c =
    rw c.in-NotNull.is
    (IfOk-weaker c.values.result _ _
    (λ truths is. is ∙ rw c.column_of-in-NotNull.ensures.values (map-map (λ v. certain (not (is_null v))) (value_under c.args.frame.now.schema c.in-NotNull.name) c.args.frame.now.rows))
    c.values.ensures.ok)

pub returns-in-Is-clause-ok : goal.returns-in-Is-clause-ok
returns-in-Is-clause-ok t c =
    rw c.in-Is.is
    (IfOk-weaker c.asserted_flags.result _ _
    (λ truths is. is ∙ rw c.column_of-in-Is.ensures.values (map-map asserted (value_under c.args.frame.now.schema c.in-Is.name) c.args.frame.now.rows))
    c.asserted_flags.ensures.ok)
