use Rattle.std.specs.Prelude.{Ok, Err}
use Rattle.morsel_scan.proofs.SourceLemmas.{options_fit, rest_checked}
use Rattle.morsel_scan.proofs.DecodeLemmas.{reads_up_to_ok, reads_up_to_err, reads_up_to_rest_err}
use Rattle.morsel_scan.proofs.source.CsvSourceNode.read_up_to.Goals as goal

pub returns-in-Ok-check_text : goal.returns-in-Ok-check_text
returns-in-Ok-check_text c =
    reads_up_to_ok c.args.self.now c.args.file c.args.at c.args.text.now c.args.len c.in_ok-cut.cut c.in-Ok.frame (options_fit _ c.args.self.now c.self.view_is c.comment-comment.ensures.fit)
    c.in_ok-cut.ensures.ok c.in-Ok.ensures
    (rest_checked c.args.self.now c.args.file c.args.at c.args.text.now c.in_ok-cut.cut (Ok tt) c.in-Ok-check_text.ensures)

pub returns-in-Err-check_text : goal.returns-in-Err-check_text
returns-in-Err-check_text c =
    reads_up_to_rest_err c.args.self.now c.args.file c.args.at c.args.text.now c.args.len c.in_ok-cut.cut c.in-Err-check_text.fault (options_fit _ c.args.self.now c.self.view_is c.comment-comment.ensures.fit)
    c.in_ok-cut.ensures.ok
    (rest_checked c.args.self.now c.args.file c.args.at c.args.text.now c.in_ok-cut.cut (Err c.in-Err-check_text.fault) c.in-Err-check_text.ensures)

pub returns-in-Err : goal.returns-in-Err
returns-in-Err c =
    reads_up_to_err c.args.self.now c.args.file c.args.at c.args.text.now c.args.len c.in_ok-cut.cut c.in-Err.fault (options_fit _ c.args.self.now c.self.view_is c.comment-comment.ensures.fit)
    c.in_ok-cut.ensures.ok c.in-Err.ensures
