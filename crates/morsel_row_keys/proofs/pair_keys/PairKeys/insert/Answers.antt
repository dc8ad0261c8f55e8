use Rattle.std.proofs.Common.{rules, subst, sym, ◌∙◌, map}
use Rattle.std.specs.Prelude.{Err}
use Rattle.std.specs.Int.{w64}
use Rattle.std.proofs.lemmas.Int.{to_z-of_z}
use Rattle.morsel_meaning.specs.declared.fault.Fault.{Fault}
use Rattle.morsel_frame.specs.Cells.{value_of}
use Rattle.morsel_keys.specs.Slots.{RefusesKey}
use Rattle.morsel_row_keys.specs.Pairs.{PairList, pair_with, held_pair}
use Rattle.morsel_row_keys.proofs.PairLemmas.{words_after, gives_after, same_after, refused_after, value_refused}
use Rattle.morsel_row_keys.proofs.pair_keys.PairKeys.insert.Goals as goal

pub invariant_of-self : goal.invariant_of-self
invariant_of-self c = words_after c.self.inside.seconds c.insert.new.self c.self.inside.words c.insert-in-Ok.new.self c.args.first c.in-Ok.second (value_of c.args.cell) _ c.insert-in-Ok.result
    c.self.invariant c.requires.first c.in-Ok.ensures.ok c.in-Ok.ensures.refused (to_z-of_z w64 c.pair_word.result (search rules) ∙ c.pair_word.ensures) c.insert-in-Ok.ensures.kind c.insert-in-Ok.ensures.ok c.insert-in-Ok.ensures.err

pub returns-in-Ok-clause-ok : goal.returns-in-Ok-clause-ok
returns-in-Ok-clause-ok c =
    rw (← c.self.view_is) (gives_after c.self.inside.seconds c.insert.new.self c.self.inside.words c.insert-in-Ok.new.self c.args.first c.in-Ok.second (value_of c.args.cell) _ c.insert-in-Ok.result
    c.self.invariant c.requires.first c.in-Ok.ensures.ok c.in-Ok.ensures.refused (to_z-of_z w64 c.pair_word.result (search rules) ∙ c.pair_word.ensures) c.insert-in-Ok.ensures.ok)

pub returns-in-Ok-clause-refused : goal.returns-in-Ok-clause-refused
returns-in-Ok-clause-refused c =
    rw (← c.self.view_is) (refused_after c.self.inside.seconds c.insert.new.self c.self.inside.words c.args.first c.in-Ok.second (value_of c.args.cell) _ c.insert-in-Ok.result
    c.self.invariant c.in-Ok.ensures.ok c.in-Ok.ensures.refused (to_z-of_z w64 c.pair_word.result (search rules) ∙ c.pair_word.ensures) c.insert-in-Ok.ensures.refused)

pub returns-in-Ok-clause-err : goal.returns-in-Ok-clause-err
returns-in-Ok-clause-err c =
    rw (← c.self.view_is) (same_after c.self.inside.seconds c.insert.new.self c.self.inside.words c.insert-in-Ok.new.self c.in-Ok.second (value_of c.args.cell) c.insert-in-Ok.result
    c.self.invariant c.in-Ok.ensures.ok c.in-Ok.ensures.refused c.in-Ok.ensures.kind c.insert-in-Ok.ensures.err)

pub returns-in-Err-clause-refused : goal.returns-in-Err-clause-refused
returns-in-Err-clause-refused c =
    subst (λ (keys : PairList). RefusesKey keys.pairs (pair_with c.args.first (value_of c.args.cell)) (Err c.refusal.result)) c.self.view_is
    (subst (λ (fault : Fault). RefusesKey (map (held_pair c.self.inside.seconds.values) c.self.inside.words.values) (pair_with c.args.first (value_of c.args.cell)) (Err fault)) (sym c.refusal.ensures)
    (value_refused c.self.inside.seconds c.self.inside.words c.args.first (value_of c.args.cell) c.in-Err.fault c.len-count.result
    c.self.invariant c.in-Err.ensures.refused c.len-count.ensures.len c.len-count.ensures.within))
