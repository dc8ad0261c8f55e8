use Rattle.std.proofs.Common.{◌∙◌, sym, false}
use Rattle.std.proofs.lemmas.Simd.{splat_is_map}
use Rattle.morsel_scan.proofs.source_columns.marks_of.Goals as goal

pub returns-clause-unused : goal.returns-clause-unused
returns-clause-unused c = c.in_ok-unused.ensures.items_if_clones_equal (λ y is. is) ∙ splat_is_map c.args.schema.now c.len.result false (sym c.len.ensures.len)
