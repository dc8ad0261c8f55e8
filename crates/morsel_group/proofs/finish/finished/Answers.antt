use Rattle.std.proofs.Common.{◌≡◌, ◌∙◌, ◌++◌, ap, length, map, sym}
use Rattle.std.proofs.lemmas.List.Elements.{All-weaker}
use Rattle.morsel_meaning.specs.Values.{Table}
use Rattle.morsel_frame.specs.Frames.{rows_of}
use Rattle.morsel_frame.specs.Tables.{beside}
use Rattle.morsel_keys.specs.Reductions.{reduced_kind}
use Rattle.morsel_group.specs.Arrivals.{keyed_in}
use Rattle.morsel_group.specs.Parts.{IsPart, finished_values}
use Rattle.morsel_group.proofs.FinishLemmas.{finished_few, finished_grouped, finished_refused, finished_sums}
use Rattle.morsel_group.proofs.finish.finished.Goals as goal

pub finished_rows-requires-clause-kind : goal.finished_rows-requires-clause-kind
finished_rows-requires-clause-kind c =
    let g = c.args.groups in
    All-weaker (IsPart g.input (length (keyed_in g.table).keys)) (λ part. part.kind ≡ reduced_kind part.states.op part.states.kind) (λ part is. is.kind) g.parts.items c.requires.each_part

pub finished_rows-requires-clause-count : goal.finished_rows-requires-clause-count
finished_rows-requires-clause-count c =
    let g = c.args.groups in
    All-weaker (IsPart g.input (length (keyed_in g.table).keys)) (λ part. length part.states.entries ≡ c.count_keys-count.result) (λ part is. is.groups ∙ sym c.count_keys-count.ensures.len) g.parts.items c.requires.each_part

pub hstack-requires : goal.hstack-requires
hstack-requires c = ap length c.requires.key_values ∙ sym c.count_keys-count.ensures.len ∙ sym c.in-Ok.ensures.len

pub returns-in-Err-clause-refused : goal.returns-in-Err-clause-refused
returns-in-Err-clause-refused c rows has = finished_refused c.args.groups rows c.in-Err.fault has c.in-Err.ensures.refused

pub returns-in-Ok-hstack-clause-schema : goal.returns-in-Ok-hstack-clause-schema
returns-in-Ok-hstack-clause-schema c = sym (ap (λ (t : Table). t.schema) c.in-Ok-hstack.ensures.ok ∙ ap (λ (t : Table). c.args.groups.key_rows.schema ++ t.schema) c.in-Ok.ensures.ok)

pub returns-in-Ok-hstack-clause-rows : goal.returns-in-Ok-hstack-clause-rows
returns-in-Ok-hstack-clause-rows c rows has =
    let g = c.args.groups in
    let made : c.in-Ok-hstack.frame.rows ≡ beside g.key_rows.rows (rows_of c.count_keys-count.result (map finished_values g.parts.items)) =
    ap (λ (t : Table). t.rows) c.in-Ok-hstack.ensures.ok ∙ ap (λ (t : Table). beside g.key_rows.rows t.rows) c.in-Ok.ensures.ok in
    finished_grouped g rows c.count_keys-count.result c.in-Ok-hstack.frame.rows c.requires has c.count_keys-count.ensures.len made

pub returns-in-Ok-hstack-clause-few : goal.returns-in-Ok-hstack-clause-few
returns-in-Ok-hstack-clause-few c rows has =
    let g = c.args.groups in
    let made : c.in-Ok-hstack.frame.rows ≡ beside g.key_rows.rows (rows_of c.count_keys-count.result (map finished_values g.parts.items)) =
    ap (λ (t : Table). t.rows) c.in-Ok-hstack.ensures.ok ∙ ap (λ (t : Table). beside g.key_rows.rows t.rows) c.in-Ok.ensures.ok in
    finished_few g rows c.count_keys-count.result c.in-Ok-hstack.frame.rows c.requires has c.count_keys-count.ensures.len made

pub returns-in-Ok-hstack-clause-fits : goal.returns-in-Ok-hstack-clause-fits
returns-in-Ok-hstack-clause-fits c rows has = finished_sums c.args.groups rows has c.in-Ok.ensures.fits
