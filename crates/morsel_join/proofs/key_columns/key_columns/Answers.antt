use Rattle.std.proofs.Common.{◌≡◌, ◌∙◌, List, None, ap, sym, subst, length}
use Rattle.std.specs.Prelude.{ℕ}
use Rattle.morsel_meaning.specs.declared.value.ColType.{ColType}
use Rattle.morsel_meaning.specs.Values.{kinds_of}
use Rattle.morsel_frame.specs.Tables.{fields_at}
use Rattle.morsel_join.specs.Payloads.{type_fault}
use Rattle.morsel_join.proofs.key_columns.key_columns.Goals as goal
use Rattle.morsel_join.proofs.KeyLemmas.{same-types}

pub returns-clause-fit : goal.returns-clause-fit
returns-clause-fit c =
    let keys = c.args.left_keys.now in
    let ks = c.in_ok-kinds.kinds.items in
    let ls = c.in_ok-others.others.items in
    let none : type_fault keys ks ls ≡ None = subst (λ (xs : List ColType). type_fault keys xs ls ≡ None) c.deref-3.ensures.value (subst (λ (xs : List ColType). type_fault keys c.deref-3.result.now xs ≡ None) c.deref-4.ensures.value c.in_ok-check_types.ensures) in
    let same = same-types keys ks ls (c.in_ok-kinds.ensures.len ∙ ap (λ (xs : List ℕ). length xs) c.deref.ensures.value ∙ c.in_ok-lefts.ensures.len)
    (c.in_ok-others.ensures.len ∙ ap (λ (xs : List ℕ). length xs) c.deref-2.ensures.value ∙ c.in_ok-rights.ensures.len ∙ sym c.requires) none in
    record {
      left_within = c.in_ok-lefts.ensures.within;
      right_within = c.in_ok-rights.ensures.within;
      left_types = sym (c.in_ok-kinds.ensures.ok ∙ ap (λ (xs : List ℕ). kinds_of (fields_at c.args.left.now xs)) c.deref.ensures.value);
      right_types = sym (c.in_ok-others.ensures.ok ∙ ap (λ (xs : List ℕ). kinds_of (fields_at c.args.right.now xs)) c.deref-2.ensures.value) ∙ sym same;
    }
