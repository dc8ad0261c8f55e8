use Rattle.std.proofs.Common.{rules, subst, sym, ◌∙◌}
use Rattle.morsel_keys.specs.Slots.{IsNewKey}
use Rattle.morsel_keys.specs.Keyed.{Keyed, row_values}
use Rattle.morsel_keys.proofs.RowKeyLemmas.{rows_more}
use Rattle.morsel_keys.proofs.table.KeyTable.push.Goals as goal

pub invariant_of-self-2 : goal.invariant_of-self-2
invariant_of-self-2 c =
    let same = sym c.in_ok-grow.ensures.same ∙ sym c.self.view_is in
    let new = subst (λ (t : Keyed). IsNewKey (row_values c.args.key) t.keys) same c.requires.new in
    rows_more c.self.inside.seed c.self.inside.mask c.self.inside.kinds.items c.self.inside.slots.items c.add.new.slots.items c.self.inside.keys.items c.add.new.keys.items (row_values c.args.key)
    c.self.invariant c.add.ensures.indexed c.in_ok-add.ensures.ok new (search rules)
