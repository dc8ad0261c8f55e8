use Rattle.std.proofs.Common.{rules, arith, ◌∙◌}
use Rattle.std.specs.Int.{w64}
use Rattle.std.proofs.lemmas.Int.{to_z-of_z}
use Rattle.morsel_row_keys.proofs.PairLemmas.{words_put}
use Rattle.morsel_row_keys.proofs.pair_keys.words_of.Goals as goal

pub loop-i-preserved : goal.loop-i-preserved
loop-i-preserved c =
    words_put c.loop-i.column c.push_int.new.self c.args.firsts.now c.args.seconds.now c.loop-i.i _ c.in_ok-push_int.ensures.ok c.loop-i.invariant
    (to_z-of_z w64 c.pair_word.result (search rules) ∙ c.pair_word.ensures) (omega arith) c.requires
