use Rattle.morsel_scan.proofs.SourceLemmas.{row_cut, row_uncut}
use Rattle.morsel_scan.proofs.source.CsvSourceNode.row_at.Goals as goal

pub overflow_sub-result : goal.overflow_sub-result
overflow_sub-result c =
    (row_cut _ c.args.self.now c.args.at c.args.text.now c.args.row c.in-Some.place c.in_ok-place.field-0 c.self.view_is c.comment-comment.ensures.fit c.in_ok-place.ensures.ok c.in-Some.is).0

pub returns-in-Some-clause-ok : goal.returns-in-Some-clause-ok
returns-in-Some-clause-ok c =
    (row_cut _ c.args.self.now c.args.at c.args.text.now c.args.row c.in-Some.place c.in_ok-place.field-0 c.self.view_is c.comment-comment.ensures.fit c.in_ok-place.ensures.ok c.in-Some.is).1

pub returns-in-None-clause-ok : goal.returns-in-None-clause-ok
returns-in-None-clause-ok c = row_uncut _ c.args.self.now c.args.at c.args.text.now c.args.row c.in_ok-place.field-0 c.self.view_is c.in_ok-place.ensures.ok c.in-None.is
