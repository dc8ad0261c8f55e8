use Rattle.std.proofs.Common.{◌≡◌}
use Rattle.morsel_keys.specs.TextHomes.{mix_eights}
use Rattle.morsel_keys.proofs.text_mix.eights.Given as goal

abbrev pub invariant-loop-i : goal.invariant-loop-i
invariant-loop-i l = l.mixed ≡ mix_eights l.state l.bytes l.i
