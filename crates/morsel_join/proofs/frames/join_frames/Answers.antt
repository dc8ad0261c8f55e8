use Rattle.std.proofs.Common.{List, sym, subst}
use Rattle.std.specs.Prelude.{ℕ}
use Rattle.morsel_join.specs.Rows.{HasItems}
use Rattle.morsel_join.proofs.frames.join_frames.Goals as goal

pub gather_found-requires-clause-items : goal.gather_found-requires-clause-items
gather_found-requires-clause-items c =
    subst (λ (ls : List ℕ). HasItems c.args.rules.now c.args.left.now.rows c.args.right.now.rows ls c.deref-2.result.now) (sym c.deref.ensures.value)
    (subst (λ (rs : List ℕ). HasItems c.args.rules.now c.args.left.now.rows c.args.right.now.rows c.in_ok-lefts.lefts.items rs) (sym c.deref-2.ensures.value) c.in_ok-lefts.ensures.ok)
