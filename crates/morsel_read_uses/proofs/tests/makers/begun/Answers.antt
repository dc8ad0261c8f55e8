use Rattle.std.proofs.Common.{◌≡◌, ◌∙◌, ap, sym, subst, rules}
use Rattle.morsel_read.specs.ScanReads.{PiecesRead, SuitsPieces, pieces_at_start, files_asked}
use Rattle.morsel_read.specs.ReadScans.{scan_read}
use Rattle.morsel_read_uses.proofs.OpenLemmas.{suits_at_start}
use Rattle.morsel_read_uses.proofs.tests.makers.begun.Goals as goal

-- the reader is at the start of its files
pub returns-clause-suits : goal.returns-clause-suits
returns-clause-suits g c =
    let files = files_asked (scan_read c.args.spec.now) c.args.spec.now.sources.items c.args.files.items 7 c.args.chunk in
    let is : c.expect.result ≡ pieces_at_start files = rw c.expect.ensures at c.new.ensures.value in
    subst (λ (r : PiecesRead). SuitsPieces (g.H.Io.seen c.args.io.now) r) (sym is)
    (suits_at_start (g.H.Io.seen c.args.io.now) files (record { one_each = search rules; numbers = search rules; chunk = search rules }) c.requires.opened)

-- nothing was asked or given
pub returns-clause-start : goal.returns-clause-start
returns-clause-start g c =
    let files = files_asked (scan_read c.args.spec.now) c.args.spec.now.sources.items c.args.files.items 7 c.args.chunk in
    let is : c.expect.result ≡ pieces_at_start files = rw c.expect.ensures at c.new.ensures.value in
    is ∙ ap (λ (r : PiecesRead). pieces_at_start r.sources) (sym is)
