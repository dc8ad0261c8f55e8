-- The next piece, from the next records with rows.
use Rattle.std.proofs.Common.{ap, subst, arith}
use Rattle.std.specs.Prelude.{Option, Ok}
use Rattle.morsel_scan.specs.RowBlocks.{RowStretch}
use Rattle.morsel_read.specs.ScanReads.{PiecesRead}
use Rattle.morsel_read.specs.Seeking.{SeeksRows}
use Rattle.morsel_read.proofs.SearchLemmas.{search_past, search_ends, search_found, search_gives_none}
use Rattle.morsel_read.proofs.reader.ScanReader.search.Goals as goal

pub returns-then-self-stop : goal.returns-then-self-stop
returns-then-self-stop g c = search_past (g.H.Io.seen c.args.io.now) c.args.self.now c.requires.opened c.requires.fault (omega (arith, ap (λ (x : PiecesRead). x.rows) c.self.view_is, ap (λ (x : PiecesRead). x.sources.stop) c.self.view_is))

pub returns-in-Ok-None : goal.returns-in-Ok-None
returns-in-Ok-None g c = search_ends (g.H.Io.seen c.args.io.now) (g.H.Io.seen c.seek.new.io) c.args.self.now c.seek.new.self c.requires.fault
    (omega (arith, ap (λ (x : PiecesRead). x.rows) c.self.view_is, ap (λ (x : PiecesRead). x.sources.stop) c.self.view_is)) (subst (λ (x : Option RowStretch). SeeksRows (g.H.Io.seen c.args.io.now) c.args.self.now (Ok x) (g.H.Io.seen c.seek.new.io) c.seek.new.self) c.in-Ok-None.field-0-is c.in-Ok-None.ensures)

pub returns-in-Ok : goal.returns-in-Ok
returns-in-Ok g c = search_found (g.H.Io.seen c.args.io.now) (g.H.Io.seen c.seek.new.io) c.args.self.now c.seek.new.self c.give.new.self c.in-Ok-Some.block c.in-Ok.piece c.requires.fault
    (omega (arith, ap (λ (x : PiecesRead). x.rows) c.self.view_is, ap (λ (x : PiecesRead). x.sources.stop) c.self.view_is)) (subst (λ (x : Option RowStretch). SeeksRows (g.H.Io.seen c.args.io.now) c.args.self.now (Ok x) (g.H.Io.seen c.seek.new.io) c.seek.new.self) c.in-Ok-Some.field-0-is c.in-Ok-Some.ensures) c.in-Ok.ensures

pub returns-in-Err-give : goal.returns-in-Err-give
returns-in-Err-give g c = search_gives_none (g.H.Io.seen c.args.io.now) (g.H.Io.seen c.seek.new.io) c.args.self.now c.seek.new.self c.give.new.self c.in-Ok-Some.block c.in-Err-give.fault c.requires.fault
    (omega (arith, ap (λ (x : PiecesRead). x.rows) c.self.view_is, ap (λ (x : PiecesRead). x.sources.stop) c.self.view_is)) (subst (λ (x : Option RowStretch). SeeksRows (g.H.Io.seen c.args.io.now) c.args.self.now (Ok x) (g.H.Io.seen c.seek.new.io) c.seek.new.self) c.in-Ok-Some.field-0-is c.in-Ok-Some.ensures) c.in-Err-give.ensures
