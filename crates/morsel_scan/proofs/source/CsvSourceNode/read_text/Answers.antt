use Rattle.morsel_scan.proofs.SourceLemmas.{text_read, text_refused}
use Rattle.morsel_scan.proofs.source.CsvSourceNode.read_text.Goals as goal

pub returns-in-Ok : goal.returns-in-Ok
returns-in-Ok c =
    text_read _ c.args.self.now c.as_slice.result.now c.self.inside.used.items c.args.file c.args.at c.args.text.now c.in-Ok.frame c.in-Ok._head c.self.view_is c.as_slice.ensures.value
    c.self.invariant.used_are c.in-Ok.ensures.reading

pub returns-in-Err : goal.returns-in-Err
returns-in-Err c =
    text_refused _ c.args.self.now c.as_slice.result.now c.self.inside.used.items c.args.file c.args.at c.args.text.now c.in-Err.fault c.self.view_is c.as_slice.ensures.value
    c.self.invariant.used_are c.in-Err.ensures.reading
