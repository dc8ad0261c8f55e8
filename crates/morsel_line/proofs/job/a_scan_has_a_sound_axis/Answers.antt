use Rattle.morsel_line.proofs.LineLemmas.{sound}
use Rattle.morsel_line.proofs.job.a_scan_has_a_sound_axis.Goals as goal

pub returns : goal.returns
returns c = sound
