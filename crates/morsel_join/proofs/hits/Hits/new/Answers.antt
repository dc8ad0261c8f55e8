use Rattle.std.proofs.Common.{◌≡◌, ◌∙◌, List, Bool, ap, false, get_or, length, replicate, rules}
use Rattle.std.proofs.lemmas.List.{length-replicate}
use Rattle.morsel_join.proofs.AgreeLemmas.{none-marked}
use Rattle.morsel_join.proofs.hits.Hits.new.Goals as goal

pub returns-clause-hit : goal.returns-clause-hit
returns-clause-hit c =
    let blank : c.in_ok-seen.seen.items ≡ replicate c.keys.result false = search rules in
    let numbers = c.args.build.now.keyed.numbers.items in
    record {
      len = ap (λ (xs : List Bool). length xs) blank ∙ length-replicate c.keys.result false ∙ c.keys.ensures;
      each = λ j kept is. ap (λ (xs : List Bool). get_or xs (get_or numbers j 0) false) blank ∙ none-marked c.keys.result (get_or numbers j 0);
    }
