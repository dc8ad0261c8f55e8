use Rattle.std.proofs.Common.{◌∙◌, ◌≤◌, List, ap, subst}
use Rattle.std.specs.Prelude.{ℕ}
use Rattle.morsel_keys.specs.Keyed.{Keyed}
use Rattle.morsel_keys.specs.Slots.{no_number}
use Rattle.morsel_join.specs.Chains.{AreLinked}
use Rattle.morsel_join.proofs.build.keyed_rows.Goals as goal

pub returns-clause-ok : goal.returns-clause-ok
returns-clause-ok c = record {
  kinds = c.in_ok-numbers.ensures.kinds ∙ ap (λ (t : Keyed). t.kinds) c.in_ok-keys.ensures.ok;
  once = c.len.ensures.once;
  few = subst (λ (n : ℕ). n ≤ no_number) c.len.ensures.len c.len.ensures.within;
  len = c.in_ok-numbers.ensures.len;
  each = c.in_ok-numbers.ensures.ok;
  linked = subst (λ (n : ℕ). AreLinked c.in_ok-numbers.numbers.items c.in_ok-first.first.items c.in_ok-first.next.items 0 n) c.len.ensures.len
      (subst (λ (xs : List ℕ). AreLinked xs c.in_ok-first.first.items c.in_ok-first.next.items 0 c.len.result) c.deref.ensures.value c.in_ok-first.ensures.ok);
}
