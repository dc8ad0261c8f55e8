use Rattle.std.proofs.Common.{subst, List, refl, map, slice_get, Some, ◌≡◌}
use Rattle.morsel_meaning.specs.declared.value.Value.{Value}
use Rattle.morsel_meaning.specs.declared.value.Value.TheVariants as values
use Rattle.morsel_keys.proofs.FoundLemmas.{masked_valid, some_shown}
use Rattle.morsel_keys.proofs.store.valid.Goals as goal

pub returns-in-Some-clause-values : goal.returns-in-Some-clause-values
returns-in-Some-clause-values c = λ i v e. masked_valid c.in-Some.valid.now (map values.Int c.in-Some._values.now) (some_shown values.Int (λ x. refl) c.in-Some._values.now) i v (subst (λ (us : List Value). slice_get us i ≡ Some v) c.in-Some.ensures.values e)

pub returns-in-Some-bools-clause-values : goal.returns-in-Some-bools-clause-values
returns-in-Some-bools-clause-values c = λ i v e. masked_valid c.in-Some-bools.valid.now (map values.Bool c.in-Some-bools._values.now) (some_shown values.Bool (λ x. refl) c.in-Some-bools._values.now) i v (subst (λ (us : List Value). slice_get us i ≡ Some v) c.in-Some-bools.ensures.values e)

pub returns-in-Some-texts-clause-values : goal.returns-in-Some-texts-clause-values
returns-in-Some-texts-clause-values c = λ i v e. masked_valid c.in-Some-texts.valid.now (map values.Text c.in-Some-texts._values.now) (some_shown values.Text (λ x. refl) c.in-Some-texts._values.now) i v (subst (λ (us : List Value). slice_get us i ≡ Some v) c.in-Some-texts.ensures.values e)
