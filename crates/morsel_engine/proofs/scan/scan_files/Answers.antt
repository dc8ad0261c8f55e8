use Rattle.std.proofs.Common.{subst, sym, ap, ◌∙◌, ℕ, ◌+◌, ◌*◌, ◌≤◌, arith}
use Rattle.std.specs.List.{sum_by}
use Rattle.morsel_grammar.specs.Dialect.{IsDialect}
use Rattle.morsel_scan.specs.Scans.{CsvScan}
use Rattle.morsel_read.specs.ScanReads.{PiecesRead, pieces_at_start, files_asked, sizes_in, SuitsPieces}
use Rattle.morsel_query.specs.Queries.{file_scan}
use Rattle.morsel_query.specs.Meanings.{csv_scan}
use Rattle.morsel_engine.proofs.ToldLemmas.{suits_at_first}
use Rattle.morsel_engine.proofs.PartLemmas.{read_is, scanned}
use Rattle.morsel_engine.proofs.scan.scan_files.Goals as goal

pub write_scan-requires-clause-suits : goal.write_scan-requires-clause-suits
write_scan-requires-clause-suits g c =
    subst (λ (r : PiecesRead). SuitsPieces (g.H.Io.seen c.args.io.now) r) (sym c.in-Ok.ensures.value)
    (suits_at_first _ (g.H.Io.seen c.args.io.now) (record {
      one_each = sym c.requires.one_each;
      numbers = let n = c.requires.one_each in let m = c.requires.few in omega (arith, n, m);
      chunk = let n = c.chunk_bytes.ensures.within.least in omega (arith, n);
    }) c.requires.opened)

pub returns-clause-sweeps : goal.returns-clause-sweeps
returns-clause-sweeps g c =
    subst (λ (r : PiecesRead). c.write_scan.new.steps ≤ c.args.steps.now + 1024 * (sum_by (λ n. n) (sizes_in (g.H.Io.seen c.args.io.now).sizes r.sources.files) + 1)) c.in-Ok.ensures.value c.write_scan.ensures.sweeps

pub returns-clause-scans : goal.returns-clause-scans
returns-clause-scans g c =
    let start = c.in-Ok.ensures.value ∙ ap (λ (s : CsvScan). pieces_at_start (files_asked s c.args.spec.sources.items c.args.files.items 0 c.chunk_bytes.result)) (read_is c.args.spec)
    ∙ ap (λ (n : ℕ). pieces_at_start (files_asked (csv_scan (file_scan c.args.spec)) c.args.spec.sources.items c.args.files.items 0 n)) c.chunk_bytes.ensures.value in
    scanned (g.H.Io.seen c.args.io.now) (g.H.Io.seen c.write_scan.new.io) (csv_scan (file_scan c.args.spec)) c.in-Ok-node_of.node c.args.spec.sources.items c.args.files.items c.args.options.now c.write_scan.result
    c.in-Ok.reader c.scan_run.result.bound (subst (λ (s : CsvScan). IsDialect s.options) (read_is c.args.spec) c.in-Ok.ensures.fit)
    (let some = c.scan_run.ensures.some in let is = c.scan_run.ensures.bound in omega (arith, some, is))
    c.in-Ok-node_of.ensures start c.scan_run.ensures.bound c.write_scan.ensures.writes
