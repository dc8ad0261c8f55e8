use Rattle.std.proofs.Common.{◌∙◌, ap, refl, option_map, Option}
use Rattle.std.proofs.lemmas.Result.{err_from_is_err_and}
use Rattle.morsel_scan.specs.declared.spec.ScanSpec.{ScanSpec}
use Rattle.morsel_sink.specs.declared.spec.SinkSpec.{SinkSpec}
use Rattle.morsel_query.specs.declared.join.JoinSpec.{JoinSpec}
use Rattle.morsel_query.specs.RunOptions.{RunOptions}
use Rattle.morsel_query.specs.Queries.{QueryParts, file_scan, join_part, query_parts}
use Rattle.morsel_query_text.specs.TextFlaws.{repeat_of_format, repeat_of_scans, right_scans}
use Rattle.morsel_query_text.specs.Borrowed.{scan_of_parts, join_of_parts, query_of_flawless}
use Rattle.morsel_query_text.proofs.MadeLemmas.{repeat_first, repeat_later, none_twice, none_repeated, made_text, never_refused}
use Rattle.morsel_query_text.proofs.make.make_flawless.Goals as goal

pub returns-in_err-left-clause-refused : goal.returns-in_err-left-clause-refused
returns-in_err-left-clause-refused c =
    let p = err_from_is_err_and c.from_residual.result c.from_residual.ensures.1 in
    rw (p.1, p.2) (repeat_first ScanSpec (QueryParts × RunOptions) (repeat_of_format (scan_of_parts c.args.text.left).format) (repeat_of_scans (right_scans (option_map join_of_parts c.args.text.join)))
    c.in_err-left.field-0.0 c.in_err-left.ensures.refused)

pub returns-in_err-join-clause-refused : goal.returns-in_err-join-clause-refused
returns-in_err-join-clause-refused c =
    let p = err_from_is_err_and c.from_residual-in_err-join.result c.from_residual-in_err-join.ensures.1 in
    rw (p.1, p.2) (repeat_later (Option JoinSpec) (QueryParts × RunOptions) (repeat_of_format (scan_of_parts c.args.text.left).format) (repeat_of_scans (right_scans (option_map join_of_parts c.args.text.join)))
    c.in_err-join.field-0.0 c.in_ok-left.ensures.refused c.in_err-join.ensures.refused)

pub returns-in_err-new-clause-refused : goal.returns-in_err-new-clause-refused
returns-in_err-new-clause-refused c =
    let text = c.args.text in
    let query = query_parts c.in_ok-left.left c.in_ok-join.join text.group c.in_ok-sink.sink in
    let written = made_text query (file_scan c.in_ok-left.left) (option_map join_part c.in_ok-join.join) text.group c.in_ok-sink.sink text.options (scan_of_parts text.left) (option_map join_of_parts text.join) text.sink
    refl c.in_ok-left.ensures.ok c.in_ok-join.ensures.ok (ap (λ (s : SinkSpec). s.format) c.in_ok-sink.ensures.ok) in
    absurd (never_refused query text.options (query_of_flawless text) c.args.out.now c.in_err-new.field-0.0 written (ap (λ (s : SinkSpec). s.name) c.in_ok-sink.ensures.ok) c.requires.flawless c.in_err-new.ensures.refused)

pub returns-clause-ok : goal.returns-clause-ok
returns-clause-ok c =
    let text = c.args.text in
    let query = c.in_ok-new.field-0 in record {
      text = made_text query (file_scan c.in_ok-left.left) (option_map join_part c.in_ok-join.join) text.group c.in_ok-sink.sink text.options (scan_of_parts text.left) (option_map join_of_parts text.join) text.sink
          c.in_ok-new.ensures.value c.in_ok-left.ensures.ok c.in_ok-join.ensures.ok (ap (λ (s : SinkSpec). s.format) c.in_ok-sink.ensures.ok);
      sink = ap (λ (q : QueryParts). q.sink.name) c.in_ok-new.ensures.value ∙ ap (λ (s : SinkSpec). s.name) c.in_ok-sink.ensures.ok;
      distinct = none_repeated (query_of_flawless text) (none_twice (repeat_of_format (scan_of_parts text.left).format) (repeat_of_scans (right_scans (option_map join_of_parts text.join)))
          c.in_ok-left.ensures.refused c.in_ok-join.ensures.refused);
    }

pub returns-clause-refused : goal.returns-clause-refused
returns-clause-refused c =
    none_twice (repeat_of_format (scan_of_parts c.args.text.left).format) (repeat_of_scans (right_scans (option_map join_of_parts c.args.text.join))) c.in_ok-left.ensures.refused c.in_ok-join.ensures.refused
