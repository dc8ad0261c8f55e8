use Rattle.std.proofs.Common.{rules, of_calls, subst}
use Rattle.std.proofs.lemmas.Fn.{always_returns_same}
use Rattle.std.proofs.lemmas.List.Sorted.{IsNonDecreasingBy-from_sort}
use Rattle.std.specs.List.{flat_map}
use Rattle.std.specs.List.Sorted.{IsPermutation, IsStableByKey}
use Rattle.std.specs.Ordering.{nat_cmp}
use Rattle.morsel_load.specs.Linearized.{AreLinearized}
use Rattle.morsel_load.proofs.LinearizedLemmas.{if_ok}
use Rattle.morsel_load.proofs.linearized.linearize.Goals as goal

pub returns-clause-linearized : goal.returns-clause-linearized
returns-clause-linearized g c =
    let sorted = c.sort_by_key.new.self.items in
    let calls = always_returns_same _ _ _ (λ a r f k. search (rules, of_calls)) in
    let up = IsNonDecreasingBy-from_sort (λ morsel. morsel.seq) sorted (c.in_ok-sort_by_key.ensures.sorted (λ morsel. morsel.seq) calls) in
    let stable = c.in_ok-sort_by_key.ensures.stable (λ morsel. morsel.seq) calls in
    let all = c.in_ok-morsels.ensures.all in
    if_ok _ (λ frames. AreLinearized (flat_map (λ pipe. pipe.items) c.args.pipes.items) frames.items) _ (λ frames is. (
      sorted,
      is,
      subst (λ morsels. IsPermutation morsels sorted) all c.sort_by_key.ensures.permutation,
      up,
      subst (λ morsels. IsStableByKey (λ morsel. morsel.seq) nat_cmp morsels sorted) all stable,
    )) c.frames_of.ensures.frames
