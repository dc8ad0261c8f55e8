use Rattle.std.proofs.Common.{◌≡◌, ◌∙◌, ◌++◌, ◌||◌, ℕ, List, Bool, ap, sym, subst, false, get_or, length, rules}
use Rattle.std.specs.Arc.{arc_value}
use Rattle.std.specs.List.{list_any}
use Rattle.morsel_join.specs.Chains.{same_number}
use Rattle.morsel_join.specs.Hits.{HaveHit}
use Rattle.morsel_join.proofs.AgreeLemmas.{written_back}
use Rattle.morsel_join.proofs.AloneLemmas.{marks-set}
use Rattle.morsel_join.proofs.probing.Probing.mark.Goals as goal

pub returns-clause-hit : goal.returns-clause-hit
returns-clause-hit c = λ asked hit.
    let build = arc_value c.args.self.now.build in
    let old = c.args.hits.now.seen in
    let new = c.mark_seen.new.seen in
    let len : old.len ≡ length old.items = search rules in
    let same : length new ≡ length old.items = search rules in
    let probing = c.requires.probing in
    subst (λ (xs : List Bool). HaveHit build xs (asked ++ c.args.self.now.frame.rows)) (sym (written_back old.len new old.items len same))
    (marks-set build asked c.args.self.now.frame.rows c.args.self.now.numbers.items old.items new probing.built probing.numbers same
    (λ m.
    c.mark_seen.ensures.marked m
    ∙ ap (λ (xs : List Bool). get_or xs m false || list_any (λ n. same_number (length xs) n m) c.deref.result.now) c.deref_mut.ensures.value
    ∙ ap (λ (ns : List ℕ). get_or old.items m false || list_any (λ n. same_number (length old.items) n m) ns) c.deref.ensures.value)
    hit)
