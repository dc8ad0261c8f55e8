-- A fault is kept, and answered again.
use Rattle.std.proofs.Common.{subst, sym}
use Rattle.morsel_read.specs.ScanReads.{PiecesRead, asked_to}
use Rattle.morsel_read.specs.PieceReads.{IsPiecesFault}
use Rattle.morsel_read.proofs.SearchLemmas.{kind_of_fault}
use Rattle.morsel_read.proofs.reader.ScanReader.next.Goals as goal

pub again-requires : goal.again-requires
again-requires g c = kind_of_fault c.args.self.now.sources c.in-Some.fault (c.requires.suits.listed c.in-Some.fault (cc))

pub returns-in-Err-clause-piece : goal.returns-in-Err-clause-piece
returns-in-Err-clause-piece g c = λ s files had.
    subst (λ (x : PiecesRead). IsPiecesFault s c.args.self.now.sources.first files (asked_to x) c.in-Err.fault) (sym c.self-2.view_is) (c.in-Err.ensures.told s files had)
