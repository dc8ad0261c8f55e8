use Rattle.std.proofs.Common.{sym}
use Rattle.morsel_cut.proofs.MarkLemmas.{mask_none}
use Rattle.morsel_cut.proofs.masks.quote_mask.Goals as goal

pub returns-in-Some : goal.returns-in-Some
returns-in-Some c = rw c.in-Some.is c.byte_mask.ensures

pub returns-in-None : goal.returns-in-None
returns-in-None c = rw c.in-None.is (sym (mask_none _))
