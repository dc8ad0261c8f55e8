use Rattle.morsel_expr.proofs.check.+check_types.Goals as goal

pub returns-in-Cmp : goal.returns-in-Cmp
returns-in-Cmp t c = rw c.in-Cmp.is c.check_sides.ensures
