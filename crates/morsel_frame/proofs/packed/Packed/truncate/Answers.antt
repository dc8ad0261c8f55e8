use Rattle.std.proofs.Common.{rules}
use Rattle.std.proofs.lemmas.List.{take-map}
use Rattle.morsel_frame.proofs.packed.Packed.truncate.Goals as goal

pub returns-in-Int-clause-items : goal.returns-in-Int-clause-items
returns-in-Int-clause-items c = rw (c.truncate.ensures.items, c.in-Int.is, take-map) (search rules)

pub returns-in-Bool-clause-items : goal.returns-in-Bool-clause-items
returns-in-Bool-clause-items c = rw (c.truncate-in-Bool.ensures.items, c.in-Bool.is, take-map) (search rules)

pub returns-in-Text-clause-items : goal.returns-in-Text-clause-items
returns-in-Text-clause-items c = rw (c.truncate-in-Text.ensures, c.in-Text.is, take-map) (search rules)
