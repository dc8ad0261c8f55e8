use Rattle.std.proofs.Common.{◌≡◌, take}
use Rattle.morsel_meaning.specs.declared.value.ColType.TheVariants as types
use Rattle.morsel_row_keys.specs.Pairs.{pair_words}
use Rattle.morsel_row_keys.proofs.pair_keys.words_of.Given as goal

abbrev pub invariant-loop-i : goal.invariant-loop-i
invariant-loop-i l = l.column ≡ record { kind = types.Int; values = pair_words (take l.i l.firsts) (take l.i l.seconds) }
