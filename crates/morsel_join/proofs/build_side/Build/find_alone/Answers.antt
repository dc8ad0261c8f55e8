use Rattle.std.proofs.Common.{◌≡◌, ◌≤◌, ◌<◌, ◌^◌, ◌⊎◌, ◌∙◌, ℕ, List, length, ap, sym, subst}
use Rattle.morsel_join.specs.Cuts.{PutsFirst, unmarked_items}
use Rattle.morsel_join.proofs.build_side.Build.find_alone.Goals as goal

pub find_lone-requires-clause-short : goal.find_lone-requires-clause-short
find_lone-requires-clause-short c =
    subst (λ (n : ℕ). n < 2 ^ 32) (sym (ap (λ (xs : List ℕ). length xs) c.deref.ensures.value ∙ c.requires.built.keyed.len)) c.requires.built.short

pub returns-clause-ok : goal.returns-clause-ok
returns-clause-ok c =
    subst (λ (xs : List ℕ). PutsFirst (unmarked_items c.args.seen.now xs c.args.from) (unmarked_items c.args.seen.now xs c.in_ok-at.at) c.args.lefts.now.items c.args.rights.now.items c.find_lone.new.lefts.items c.find_lone.new.rights.items)
    c.deref.ensures.value c.in_ok-at.ensures.ok

pub returns-clause-full : goal.returns-clause-full
returns-clause-full c =
    subst (λ (n : ℕ). (n ≤ c.in_ok-at.at) ⊎ (length c.find_lone.new.lefts.items ≡ c.args.limit)) (ap (λ (xs : List ℕ). length xs) c.deref.ensures.value ∙ c.requires.built.keyed.len) c.in_ok-at.ensures.full

pub returns-clause-settled : goal.returns-clause-settled
returns-clause-settled c = λ none.
    subst (λ (n : ℕ). n ≤ c.in_ok-at.at) (ap (λ (xs : List ℕ). length xs) c.deref.ensures.value ∙ c.requires.built.keyed.len)
    (c.in_ok-at.ensures.settled (ap (λ (xs : List ℕ). unmarked_items c.args.seen.now xs c.in_ok-at.at) c.deref.ensures.value ∙ none))
