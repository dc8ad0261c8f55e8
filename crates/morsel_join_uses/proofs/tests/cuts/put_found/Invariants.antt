use Rattle.morsel_join.specs.Probings.{IsProbing}
use Rattle.morsel_join_uses.proofs.tests.cuts.put_found.Given as goal

abbrev pub invariant-calls : goal.invariant-calls
invariant-calls l = IsProbing l.probing
