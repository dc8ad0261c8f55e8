use Rattle.std.proofs.Common.{rules, ◌∙◌, sym, arith, below_more, get_or, slice_get, Some, ◌≡◌, ◌≤◌, ◌<◌, ◌-◌}
use Rattle.morsel_keys.proofs.TextLemmas.{text_is, text_is_not}
use Rattle.morsel_keys.proofs.texts.seek.Goals as goal

pub returns-then-eq-clause-some : goal.returns-then-eq-clause-some
returns-then-eq-clause-some c = text_is c.args.texts.now (get_or c.args.slots.now c.loop-at.at 0 - 1) c.get.result.now c.args.text.now (search rules) c.get.ensures (sym c.eq.ensures ∙ c.if-eq.true)

pub loop-at-preserved : goal.loop-at-preserved
loop-at-preserved c =
    let other = text_is_not c.args.texts.now (get_or c.args.slots.now c.loop-at.at 0 - 1) c.get.result.now c.args.text.now c.get.ensures (sym c.eq.ensures ∙ c.if-eq.false) in
    λ q a b. below_more (λ q. c.args.from ≤ q → (0 < get_or c.args.slots.now q 0) × (slice_get c.args.texts.now (get_or c.args.slots.now q 0 - 1) ≡ Some c.args.text.now → ⊥)) c.loop-at.at
    (λ q less a. c.loop-at.invariant q a less) (λ a. (omega arith, other)) q b a
