-- File after file is searched for rows.
use Rattle.std.proofs.Common.{◌≡◌, ap, subst, sym, ◌∙◌, arith}
use Rattle.std.specs.Prelude.{Option, Some, Ok, length, slice_get}
use Rattle.morsel_scan.specs.RowBlocks.{RowStretch}
use Rattle.morsel_read.specs.ScanReads.{PiecesRead}
use Rattle.morsel_read.specs.Seeking.{FindsStretch, FindsRows, passed_source}
use Rattle.morsel_read.proofs.StepLemmas.{passes_none, finds_here, fails_here, passes_here, step_ends}
use Rattle.morsel_read.proofs.reader.ScanReader.seek.Goals as goal

pub files-init : goal.files-init
files-init g c = passes_none (g.H.Io.seen c.args.io.now) c.args.self.now c.requires.opened

pub returns-in-Ok-Some : goal.returns-in-Ok-Some
returns-in-Ok-Some g c =
    subst (λ (x : PiecesRead). FindsStretch (g.H.Io.seen c.args.io.now) c.args.self.now c.in-Ok-Some.block (g.H.Io.seen c.next_rows.new.io) (record x { current = Some c.next_rows.new.reader }))
    (sym c.self-in-files.view_is)
    (finds_here (g.H.Io.seen c.args.io.now) (g.H.Io.seen c.files.io) (g.H.Io.seen c.next_rows.new.io) c.args.self.now c.files.self c.take_current.new.self c.in-Ok.reader c.next_rows.new.reader
    c.in-Ok-Some.block c.self-in-files.inside.sources c.files.invariant c.in-Ok.ensures.taken (omega (arith, ap (λ (x : PiecesRead). x.source) c.self.view_is, ap (λ (x : PiecesRead). length x.sources.files) c.self.view_is)) (ap (λ (x : PiecesRead). x.sources) c.self-in-files.view_is) (subst (λ (x : Option RowStretch). FindsRows c.self-in-files.inside.sources (g.H.Io.seen c.files.io) c.in-Ok.reader (Ok x) (g.H.Io.seen c.next_rows.new.io) c.next_rows.new.reader) c.in-Ok-Some.field-0-is c.in-Ok-Some.ensures))

pub returns-in-Err-next_rows : goal.returns-in-Err-next_rows
returns-in-Err-next_rows g c =
    fails_here (g.H.Io.seen c.args.io.now) (g.H.Io.seen c.files.io) (g.H.Io.seen c.next_rows.new.io) c.args.self.now c.files.self c.take_current.new.self c.in-Ok.reader c.next_rows.new.reader
    c.in-Err-next_rows.fault c.self-in-files.inside.sources c.files.invariant c.in-Ok.ensures.taken (omega (arith, ap (λ (x : PiecesRead). x.source) c.self.view_is, ap (λ (x : PiecesRead). length x.sources.files) c.self.view_is)) (ap (λ (x : PiecesRead). x.sources) c.self-in-files.view_is) c.in-Err-next_rows.ensures

pub files-preserved-in-Ok-None : goal.files-preserved-in-Ok-None
files-preserved-in-Ok-None g c =
    passes_here (g.H.Io.seen c.args.io.now) (g.H.Io.seen c.files.io) (g.H.Io.seen c.next_rows.new.io) c.args.self.now c.files.self c.take_current.new.self c.pass_source.new.self c.in-Ok.reader c.next_rows.new.reader
    c.self-in-files.inside.sources c.file.result c.files.invariant c.in-Ok.ensures.taken (omega (arith, ap (λ (x : PiecesRead). x.source) c.self.view_is, ap (λ (x : PiecesRead). length x.sources.files) c.self.view_is)) (ap (λ (x : PiecesRead). x.sources) c.self-in-files.view_is) (subst (λ (x : Option RowStretch). FindsRows c.self-in-files.inside.sources (g.H.Io.seen c.files.io) c.in-Ok.reader (Ok x) (g.H.Io.seen c.next_rows.new.io) c.next_rows.new.reader) c.in-Ok-None.field-0-is c.in-Ok-None.ensures)
    (subst (λ (x : PiecesRead). slice_get x.sources.files x.source ≡ Some c.file.result) c.self-in-files.view_is c.file.ensures) (c.pass_source.ensures ∙ ap (passed_source c.take_current.new.self) c.size-size.ensures)

pub files-preserved : goal.files-preserved
files-preserved g c =
    passes_here (g.H.Io.seen c.args.io.now) (g.H.Io.seen c.files.io) (g.H.Io.seen c.next_rows.new.io) c.args.self.now c.files.self c.take_current.new.self c.pass_source.new.self c.in-Ok.reader c.next_rows.new.reader
    c.self-in-files.inside.sources c.file.result c.files.invariant c.in-Ok.ensures.taken (omega (arith, ap (λ (x : PiecesRead). x.source) c.self.view_is, ap (λ (x : PiecesRead). length x.sources.files) c.self.view_is)) (ap (λ (x : PiecesRead). x.sources) c.self-in-files.view_is) (subst (λ (x : Option RowStretch). FindsRows c.self-in-files.inside.sources (g.H.Io.seen c.files.io) c.in-Ok.reader (Ok x) (g.H.Io.seen c.next_rows.new.io) c.next_rows.new.reader) c.in-Ok-None.field-0-is c.in-Ok-None.ensures)
    (subst (λ (x : PiecesRead). slice_get x.sources.files x.source ≡ Some c.file.result) c.self-in-files.view_is c.file.ensures) (c.pass_source.ensures ∙ ap (passed_source c.take_current.new.self) c.size-size.ensures)

pub returns : goal.returns
returns g c = step_ends (g.H.Io.seen c.args.io.now) (g.H.Io.seen c.files.io) c.args.self.now c.files.self c.files.invariant (omega (arith, ap (λ (x : PiecesRead). x.source) c.self.view_is, ap (λ (x : PiecesRead). length x.sources.files) c.self.view_is))
