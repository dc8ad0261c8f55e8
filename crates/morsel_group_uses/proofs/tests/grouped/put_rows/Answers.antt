use Rattle.std.proofs.Common.{sym, subst}
use Rattle.morsel_meaning.specs.Values.{Table}
use Rattle.morsel_group.specs.Locals.{TakesColumns}
use Rattle.morsel_group_uses.proofs.tests.grouped.put_rows.Goals as goal

pub insert-requires : goal.insert-requires
insert-requires c = record { columns = subst (λ (t : Table). TakesColumns t.schema c.args.local.now) (sym c.in_ok-frame.ensures.ok) c.requires.columns }
