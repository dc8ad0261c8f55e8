use Rattle.std.proofs.Common.{◌∙◌, ap, refl}
use Rattle.morsel_group.specs.Asked.{kind_in}
use Rattle.morsel_group.proofs.BlankLemmas.{blank_is, blank_kind, blank_reducer, sums_numbers}
use Rattle.morsel_group.proofs.blank.blank_part.Goals as goal

pub new-requires : goal.new-requires
new-requires c is =
    c.kind_in-kind.ensures ∙ ap (kind_in c.args.input.now) c.requires.column
    ∙ sums_numbers c.args.input.now c.args.agg.now.op c.args.agg.now.column c.requires.has c.requires.found c.requires.fits is

pub returns-clause-part : goal.returns-clause-part
returns-clause-part c =
    blank_is c.args.input.now c.args.agg.now.op c.kind_in-kind.result c.args.agg.now.column c.args.column (record { column = c.args.column; kind = c.reduced_kind.result; states = c.new.result })
    c.requires.column c.requires.has c.requires.found refl c.new.ensures c.kind_in-kind.ensures c.reduced_kind.ensures

pub returns-clause-reducer : goal.returns-clause-reducer
returns-clause-reducer c =
    blank_reducer c.args.input.now c.args.agg.now.op c.kind_in-kind.result c.args.agg.now.column c.args.column (record { column = c.args.column; kind = c.reduced_kind.result; states = c.new.result }) c.requires.column refl c.new.ensures

pub returns-clause-kind : goal.returns-clause-kind
returns-clause-kind c = blank_kind c.args.input.now c.args.agg.now.op c.kind_in-kind.result c.args.agg.now.column c.args.column c.reduced_kind.result c.requires.column c.kind_in-kind.ensures c.reduced_kind.ensures
