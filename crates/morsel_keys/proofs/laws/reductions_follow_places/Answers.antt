use Rattle.morsel_keys.proofs.ReductionLemmas.{plus_entries-assoc, keeps_parts, reduces_by_place}
use Rattle.morsel_keys.proofs.laws.reductions_follow_places.Goals as goal

pub returns-clause-associative : goal.returns-clause-associative
returns-clause-associative c = plus_entries-assoc

pub returns-clause-parts : goal.returns-clause-parts
returns-clause-parts c = keeps_parts

pub returns-clause-by_place : goal.returns-clause-by_place
returns-clause-by_place c = reduces_by_place
