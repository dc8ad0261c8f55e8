use Rattle.morsel_scan.proofs.SourceLemmas.{options_fit, kept_read, kept_failed}
use Rattle.morsel_scan.proofs.source.CsvSourceNode.read_kept.Goals as goal

pub returns-in-Ok : goal.returns-in-Ok
returns-in-Ok c =
    kept_read c.args.self.now _ c.args.piece.now c.as_slice-bytes.result.now c.in_ok-cut.cut c.read_first.result c.piece.view_is c.as_slice-bytes.ensures.value
    (options_fit _ c.args.self.now c.self.view_is c.comment-comment.ensures.fit) c.in_ok-cut.ensures.ok c.in-Ok.ensures c.read_first.ensures

pub returns-in-Err : goal.returns-in-Err
returns-in-Err c =
    kept_failed c.args.self.now _ c.args.piece.now c.as_slice-bytes.result.now c.in_ok-cut.cut c.in-Err.fault c.piece.view_is c.as_slice-bytes.ensures.value
    (options_fit _ c.args.self.now c.self.view_is c.comment-comment.ensures.fit) c.in_ok-cut.ensures.ok c.in-Err.ensures
