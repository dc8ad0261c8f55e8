use Rattle.std.proofs.Common.{◌∙◌, sym, subst, map}
use Rattle.std.proofs.lemmas.List.{length-map}
use Rattle.morsel_keys.specs.Reductions.{input_place}
use Rattle.morsel_group.specs.Grouping.{value_in}
use Rattle.morsel_group.specs.Parts.{ReadsColumn}
use Rattle.morsel_group.proofs.PlanLemmas.{kind_of_kinds}
use Rattle.morsel_group.proofs.part.put_rows.Goals as goal

pub update-requires-clause-kind : goal.update-requires-clause-kind
update-requires-clause-kind c =
    let reads = subst (ReadsColumn c.args.frame.now.schema c.args.states.now) c.in-Some.is c.requires.reads in
    sym (kind_of_kinds c.args.frame.now.schema c.in-Some.at c.column.result.now.kind c.column.ensures.kind) ∙ reads.1

pub returns-in-None-clause-rows : goal.returns-in-None-clause-rows
returns-in-None-clause-rows c = c.count.ensures.rows (input_place c.args.place.0 c.args.place.1) (map (value_in c.args.column) c.args.frame.now.rows) (length-map c.args.frame.now.rows (value_in c.args.column) ∙ sym c.requires.len)
