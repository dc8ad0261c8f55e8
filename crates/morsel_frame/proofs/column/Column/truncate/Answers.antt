use Rattle.std.proofs.Common.{rules}
use Rattle.morsel_frame.specs.Packing.{stored}
use Rattle.morsel_frame.proofs.ColumnLemmas.{masked-take}
use Rattle.morsel_frame.proofs.column.Column.truncate.Goals as goal

pub returns : goal.returns
returns c =
    rw (← c.self.view_is, c.truncate.ensures.items, c.truncate-2.ensures.items, c.truncate-2.ensures.kind)
    (rw (masked-take c.self.inside.valid.items (stored c.self.inside.packed) c.args.len) (search rules))
