use Rattle.std.proofs.Common.{◌≡◌, ◌∙◌, ◌++◌, ◌||◌, ℕ, List, Bool, ap, sym, subst, false, get_or, length, rules}
use Rattle.morsel_join.specs.Hits.{HaveHit}
use Rattle.morsel_join.proofs.AgreeLemmas.{written_back}
use Rattle.morsel_join.proofs.AloneLemmas.{marks-joined}
use Rattle.morsel_join.proofs.hits.Hits.join.Goals as goal

pub returns-clause-marked : goal.returns-clause-marked
returns-clause-marked c =
    let old = c.args.self.now.seen in
    let new = c.join_marks.new.marks in
    let len : old.len ≡ length old.items = search rules in
    let same : length new ≡ length old.items = search rules in
    subst (λ (xs : List Bool). (m : ℕ) → get_or xs m false ≡ (get_or old.items m false || get_or c.args.other.now.seen.items m false)) (sym (written_back old.len new old.items len same))
    (λ m. c.join_marks.ensures.marked m ∙ ap (λ (xs : List Bool). get_or xs m false || get_or c.deref.result.now m false) c.deref_mut.ensures.value ∙ ap (λ (xs : List Bool). get_or old.items m false || get_or xs m false) c.deref.ensures.value)

pub returns-clause-hit : goal.returns-clause-hit
returns-clause-hit c = λ build asked more a b.
    let old = c.args.self.now.seen in
    let other = c.args.other.now.seen.items in
    let new = c.join_marks.new.marks in
    let len : old.len ≡ length old.items = search rules in
    let same : length new ≡ length old.items = search rules in
    subst (λ (xs : List Bool). HaveHit build xs (asked ++ more)) (sym (written_back old.len new old.items len same))
    (marks-joined build asked more old.items other new a b same
    (λ m. c.join_marks.ensures.marked m ∙ ap (λ (xs : List Bool). get_or xs m false || get_or c.deref.result.now m false) c.deref_mut.ensures.value ∙ ap (λ (xs : List Bool). get_or old.items m false || get_or xs m false) c.deref.ensures.value))
