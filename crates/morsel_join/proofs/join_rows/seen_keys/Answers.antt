use Rattle.std.proofs.Common.{◌∙◌, ◌≡◌, List, length, replicate, false, get_or, subst, sym, rules}
use Rattle.std.specs.Prelude.{ℕ, Bool}
use Rattle.std.specs.List.{list_any}
use Rattle.morsel_join.specs.Chains.{same_number}
use Rattle.morsel_join.proofs.join_rows.seen_keys.Goals as goal
use Rattle.morsel_join.proofs.AgreeLemmas.{seen-by, written_back}

pub returns-clause-ok : goal.returns-clause-ok
returns-clause-ok c =
    let count : length c.deref_mut.result.now ≡ c.args.keys = search rules in
    let blank : c.in_ok-seen.seen.items ≡ replicate c.args.keys false = search rules in
    let len : c.in_ok-seen.seen.len ≡ length c.in_ok-seen.seen.items = search rules in
    let same : length c.mark_seen.new.seen ≡ length c.in_ok-seen.seen.items = search rules in
    subst (λ (xs : List Bool). (m : ℕ) → get_or xs m false ≡ list_any (λ n. same_number c.args.keys n m) c.args.numbers.now) (sym (written_back c.in_ok-seen.seen.len c.mark_seen.new.seen c.in_ok-seen.seen.items len same))
    (seen-by c.args.keys (length c.deref_mut.result.now) c.mark_seen.new.seen c.deref_mut.result.now c.args.numbers.now count (c.deref_mut.ensures.value ∙ blank) c.mark_seen.ensures.marked)
