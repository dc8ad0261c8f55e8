use Rattle.std.specs.Prelude.{refl}
use Rattle.std.specs.Cmp.Lexicographic.{texts_ties}
use Rattle.morsel_meaning.specs.declared.value.Value.TheVariants.{Null, Int, Bool, Text}
use Rattle.morsel_meaning.proofs.OrderLemmas.{value_eq-itself, value_eq-same, bool_eq-ties}
use Rattle.morsel_meaning.proofs.laws.equal_values_are_the_same.Goals as goal

pub returns-clause-itself : goal.returns-clause-itself
returns-clause-itself c = value_eq-itself

pub returns-clause-only_the_same : goal.returns-clause-only_the_same
returns-clause-only_the_same c = value_eq-same

-- what the derive computes, at each pair of variants
pub returns-clause-of_values : goal.returns-clause-of_values
returns-clause-of_values c = elim [
  | Null ↦ elim [ Null ↦ refl | Int n ↦ refl | Bool b ↦ refl | Text t ↦ refl ]
  | Int m ↦ elim [ Null ↦ refl | Int n ↦ refl | Bool b ↦ refl | Text t ↦ refl ]
  | Bool a ↦ elim [ Null ↦ refl | Int n ↦ refl | Bool b ↦ bool_eq-ties a b | Text t ↦ refl ]
  | Text s ↦ elim [ Null ↦ refl | Int n ↦ refl | Bool b ↦ refl | Text t ↦ texts_ties s t ]
]
