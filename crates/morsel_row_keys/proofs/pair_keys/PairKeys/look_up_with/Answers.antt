use Rattle.std.proofs.Common.{subst, sym, ap, ◌∙◌, length}
use Rattle.morsel_frame.specs.Columns.{Values}
use Rattle.morsel_keys.specs.Slots.{AreLookedUp}
use Rattle.morsel_row_keys.specs.Pairs.{PairList, pairs_of}
use Rattle.morsel_row_keys.proofs.PairLemmas.{found_pairs, length-pair_words}
use Rattle.morsel_row_keys.proofs.pair_keys.PairKeys.look_up_with.Goals as goal

pub look_up-requires-2-clause-len : goal.look_up-requires-2-clause-len
look_up-requires-2-clause-len c = sym (ap (λ (w : Values). length w.values) c.in_ok-words.ensures.ok ∙ length-pair_words c.args.numbers.now c.look_up.new.out (c.look_up.ensures.len ∙ sym c.requires.len))

pub returns-clause-ok : goal.returns-clause-ok
returns-clause-ok c =
    subst (λ (keys : PairList). AreLookedUp keys.pairs (pairs_of c.args.numbers.now c.args.column.now.values) c.look_up-2.new.out) c.self.view_is
    (found_pairs c.self.inside.seconds c.self.inside.words c.args.numbers.now c.look_up.new.out c.look_up-2.new.out c.args.column.now.values c.self.invariant c.words_of.ensures.firsts c.words_of.ensures.seconds c.requires.len c.look_up.ensures
    (subst (λ (column : Values). AreLookedUp c.self.inside.words.values column.values c.look_up-2.new.out) c.in_ok-words.ensures.ok c.look_up-2.ensures))
