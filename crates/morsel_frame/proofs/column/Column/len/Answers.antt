use Rattle.std.proofs.Common.{arith}
use Rattle.morsel_frame.specs.Packing.{stored, kind_of}
use Rattle.morsel_frame.proofs.ColumnLemmas.{length-masked, stored_of_type, masked_of_type}
use Rattle.morsel_frame.proofs.column.Column.len.Goals as goal

pub returns-clause-len : goal.returns-clause-len
returns-clause-len c =
    let lens = length-masked c.self.inside.valid.items (stored c.self.inside.packed) c.self.invariant in
    rw (← c.self.view_is) (omega (arith, lens))

pub returns-clause-of_type : goal.returns-clause-of_type
returns-clause-of_type c =
    rw (← c.self.view_is)
    (masked_of_type (kind_of c.self.inside.packed) c.self.inside.valid.items (stored c.self.inside.packed) (stored_of_type c.self.inside.packed))
