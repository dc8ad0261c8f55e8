use Rattle.morsel_cut.proofs.BitLemmas.{has_bits}
use Rattle.morsel_cut.proofs.masks.bits_up_to_highest.Goals as goal

pub returns-clause-below : goal.returns-clause-below
returns-clause-below c = (has_bits c.args.bits c.ranges.bits.fits).0

pub returns-clause-above : goal.returns-clause-above
returns-clause-above c = (has_bits c.args.bits c.ranges.bits.fits).1
