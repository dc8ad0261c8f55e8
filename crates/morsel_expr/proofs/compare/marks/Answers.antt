use Rattle.std.proofs.Common.{refl, sym, ◌∙◌}
use Rattle.morsel_meaning.specs.declared.value.Value.TheVariants as values
use Rattle.morsel_expr.proofs.CompareLemmas.{marks-masked}
use Rattle.morsel_expr.proofs.compare.marks.Goals as goal

pub returns-in-Some : goal.returns-in-Some
returns-in-Some c =
    rw c.in-Some.ensures.values (marks-masked values.Int (λ n. refl) _ _ (c.in-Some.ensures.len ∙ sym c.in-Some.ensures.valid_len))

pub returns-in-Some-bools : goal.returns-in-Some-bools
returns-in-Some-bools c =
    rw c.in-Some-bools.ensures.values (marks-masked values.Bool (λ b. refl) _ _ (c.in-Some-bools.ensures.len ∙ sym c.in-Some-bools.ensures.valid_len))

pub returns : goal.returns
returns c =
    rw c.in-Some-texts.ensures.values (marks-masked values.Text (λ t. refl) _ _ (c.in-Some-texts.ensures.len ∙ sym c.in-Some-texts.ensures.valid_len))
