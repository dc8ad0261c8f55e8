use Rattle.std.proofs.Common.{arith, [], ◌∷◌, ◌+◌}
use Rattle.morsel_word_groups.specs.declared.view.GroupFound.TheVariants as found
use Rattle.morsel_word_groups.proofs.calls.wait_for_last.Goals as goal

pub returns-then-not-has_tokens-clause-looked : goal.returns-then-not-has_tokens-clause-looked
returns-then-not-has_tokens-clause-looked c = (found.NoneLeft ∷ [], grind arith, (tt, tt))

pub returns-then-not-has_tokens-clause-none : goal.returns-then-not-has_tokens-clause-none
returns-then-not-has_tokens-clause-none c = λ e. ([], [], grind arith)

pub returns-then-has_tokens-clause-looked : goal.returns-then-has_tokens-clause-looked
returns-then-has_tokens-clause-looked c = (found.SomeLeft ∷ found.Waits (c.args.me.0 + 1) ∷ found.SomeLeft ∷ [], grind arith, (tt, (tt, (tt, tt))))

pub returns-then-has_tokens-clause-tokens : goal.returns-then-has_tokens-clause-tokens
returns-then-has_tokens-clause-tokens c = λ e. ([], found.Waits (c.args.me.0 + 1) ∷ found.SomeLeft ∷ [], grind arith)

pub returns-then-has_tokens-clause-registered : goal.returns-then-has_tokens-clause-registered
returns-then-has_tokens-clause-registered c = λ e. (found.SomeLeft ∷ [], found.SomeLeft ∷ [], grind arith)

pub returns-clause-looked : goal.returns-clause-looked
returns-clause-looked c = (found.NoneLeft ∷ found.Waits (c.args.me.0 + 1) ∷ found.SomeLeft ∷ [], grind arith, (tt, (tt, (tt, tt))))

pub returns-clause-none : goal.returns-clause-none
returns-clause-none c = λ e. ([], found.Waits (c.args.me.0 + 1) ∷ found.SomeLeft ∷ [], grind arith)
