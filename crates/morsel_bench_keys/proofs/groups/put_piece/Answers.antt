use Rattle.std.proofs.Common.{arith, subst, sym, All, ◌<◌, length}
use Rattle.std.proofs.lemmas.List.Elements.{All-weaker}
use Rattle.morsel_bench_keys.proofs.groups.put_piece.Goals as goal

pub update-requires-clause-within : goal.update-requires-clause-within
update-requires-clause-within c =
    subst (λ groups. All (λ g. g < length c.args.states.now.entries) groups) (sym c.deref.ensures.value)
    (All-weaker (λ g. g < 5000) (λ g. g < length c.args.states.now.entries) (λ g within. omega (arith, within)) c.args.piece.now.groups.items c.args.piece.now.within)
