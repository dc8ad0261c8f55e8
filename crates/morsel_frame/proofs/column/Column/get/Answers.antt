use Rattle.std.proofs.Common.{arith, ◌<◌, length, sym, ◌∙◌}
use Rattle.morsel_frame.specs.Packing.{stored, kind_of}
use Rattle.morsel_frame.proofs.ColumnLemmas.{length-marks, length-kept, value_at-valid, value_at-null, stored_of_type, of_type-at}
use Rattle.morsel_frame.proofs.column.Column.get.Goals as goal

pub index-requires : goal.index-requires
index-requires c =
    omega (arith, length-marks c.self.inside.packed c.self.inside.valid.items c.args.self.now c.self.invariant c.self.view_is)

pub get-requires : goal.get-requires
get-requires c =
    omega (arith, length-kept c.self.inside.packed c.self.inside.valid.items c.args.self.now c.self.invariant c.self.view_is)

pub returns-then-index-clause-value : goal.returns-then-index-clause-value
returns-then-index-clause-value c =
    let lens = length-marks c.self.inside.packed c.self.inside.valid.items c.args.self.now c.self.invariant c.self.view_is in
    let within : c.args.row < length c.self.inside.valid.items = omega (arith, lens) in
    rw (← c.self.view_is)
    (c.get.ensures ∙ sym (value_at-valid c.self.inside.valid.items (stored c.self.inside.packed) c.args.row c.index.result.now within c.self.invariant c.index.ensures c.if-index.true))

pub returns-then-index-clause-of_type : goal.returns-then-index-clause-of_type
returns-then-index-clause-of_type c =
    rw (← c.self.view_is, c.get.ensures)
    (of_type-at (kind_of c.self.inside.packed) (stored c.self.inside.packed) c.args.row (stored_of_type c.self.inside.packed))

pub returns-else-index-clause-value : goal.returns-else-index-clause-value
returns-else-index-clause-value c =
    let lens = length-marks c.self.inside.packed c.self.inside.valid.items c.args.self.now c.self.invariant c.self.view_is in
    let within : c.args.row < length c.self.inside.valid.items = omega (arith, lens) in
    rw (← c.self.view_is)
    (sym (value_at-null c.self.inside.valid.items (stored c.self.inside.packed) c.args.row c.index.result.now within c.self.invariant c.index.ensures c.if-index.false))
