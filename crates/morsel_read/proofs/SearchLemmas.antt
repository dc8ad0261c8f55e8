-- A search for the next piece, from what its steps say.
use Rattle.std.proofs.Common.{◌≡◌, ℕ, ◌+◌, ◌*◌, ◌<◌, ◌≤◌, ap, sym, subst, refl, ◌∙◌, inl, inr, arith}
use Rattle.std.specs.Prelude.{Option, Some, None, Result, Ok, Err, List, [], length, slice_get}
use Rattle.morsel_meaning.specs.declared.fault.Fault.{Fault}
use Rattle.morsel_meaning.specs.declared.fault.Fault.TheVariants as faults
use Rattle.morsel_meaning.specs.declared.fault.ComputeKind.TheVariants as kinds
use Rattle.morsel_outside.specs.Outside.{Outside}
use Rattle.morsel_outside.proofs.DoesLemmas.{does-nothing}
use Rattle.morsel_pipe.specs.Pieces.{Piece}
use Rattle.morsel_scan.specs.CsvScans.{FitsScan}
use Rattle.morsel_scan.specs.RowBlocks.{RowStretch}
use Rattle.morsel_read.specs.ScanReads.{FilesAsked, PiecesRead, slice_within, asked_to, AreOpen, SuitsPieces, IsPiecesFaultOf}
use Rattle.morsel_read.specs.PieceReads.{HasGivenAll}
use Rattle.morsel_read.specs.Seeking.{FindsStretch, EndsFiles, FailsToFind, piece_of, after_piece, GivesStretchOf, SearchesPiece, IsReaderKind}
use Rattle.morsel_read.proofs.SliceLemmas.{slice_fits}
use Rattle.morsel_read.proofs.GivenLemmas.{asked_within_size, settled_within_asked, found_too_many, found_piece, found_goes_on, ends_scan, ends_slice}

-- the slice keeps no more rows
pub search_past : (o : Outside) (r : PiecesRead) → AreOpen o r → r.fault ≡ None → r.sources.stop ≤ r.rows → SearchesPiece o r (Ok None) o r
search_past o r opened none past = record {
  same = refl;
  no_fault = none;
  opened = opened;
  listed = tt;
  numbered = (refl, refl, refl, inr past);
  reads = record { reads = []; are = refl; does = does-nothing o; in_need = λ s files had. tt };
  ended = λ end. (refl, refl, refl);
  told = λ s files had. (ends_slice s files o r opened had past, had);
}

-- a reader whose slice keeps more rows, and which has a file left, has not ended
not_ended : (r : PiecesRead) → r.source < length r.sources.files → r.rows < r.sources.stop → HasGivenAll r → ⊥
not_ended r more before (inl end) = omega (arith, more, end)
not_ended r more before (inr past) = omega (arith, before, past)

-- the search for rows failed
pub search_fails : (before after : Outside) (old new : PiecesRead) (fault : Fault) → old.fault ≡ None → old.rows < old.sources.stop → FailsToFind before old fault after new
    → SearchesPiece before old (Err fault) after new
search_fails before after old new fault none low f = record {
  same = ap (λ (x : PiecesRead). x.sources) f.same;
  no_fault = ap (λ (x : PiecesRead). x.fault) f.same ∙ none;
  opened = tt;
  listed = f.listed;
  numbered = tt;
  reads = f.reads;
  ended = λ end. absurd (not_ended old f.more low end);
  told = f.told;
}

-- all files were read to their ends
pub search_ends : (before after : Outside) (old new : PiecesRead) → old.fault ≡ None → old.rows < old.sources.stop → EndsFiles before old after new → SearchesPiece before old (Ok None) after new
search_ends before after old new none low e = record {
  same = ap (λ (x : PiecesRead). x.sources) e.passes.same;
  no_fault = ap (λ (x : PiecesRead). x.fault) e.passes.same ∙ none;
  opened = e.passes.opened;
  listed = tt;
  numbered = (ap (λ (x : PiecesRead). x.given) e.passes.same, ap (λ (x : PiecesRead). x.rows) e.passes.same, ap (λ (x : PiecesRead). x.pieces) e.passes.same, inl e.all);
  reads = e.passes.reads;
  ended = λ end. by end;
  told = λ s files had. ends_scan s files before after old new e had;
}
  where
    nothing : Result (Option Piece) Fault
    nothing = Ok None

    by : HasGivenAll old → (nothing ≡ nothing) × (new ≡ old) × (after ≡ before)
    by (inl end) = let stands = e.passes.still end in (refl, stands.0, stands.1)
    by (inr past) = absurd (omega (arith, low, past))

-- the piece that was found can be decoded
fits_found : (before after : Outside) (old r : PiecesRead) (stretch : RowStretch) (name : List ℕ) → FindsStretch before old stretch after r → r.rows + stretch.rows ≤ 4294967295 → FitsScan (piece_of r name stretch)
fits_found before after old r stretch name f few = record {
  slice = slice_fits r.sources.start r.sources.stop r.rows stretch.rows;
  positions = few;
  places = (let a = f.end in let b = settled_within_asked after r f.opened in let c = asked_within_size after r f.opened in let d = f.opened.fits in omega (arith, a, b, c, d));
}

-- rows were found, and given as a piece
search_gives : (before after : Outside) (old r : PiecesRead) (stretch : RowStretch) (name : List ℕ) → old.fault ≡ None → old.rows < old.sources.stop → FindsStretch before old stretch after r
    → slice_get r.sources.names r.source ≡ Some name → r.rows + stretch.rows ≤ 4294967295
    → SearchesPiece before old (Ok (Some (piece_of r name stretch))) after (after_piece r stretch)
search_gives before after old r stretch name none low f named few =
    let rows : r.rows ≡ old.rows = ap (λ (x : PiecesRead). x.rows) f.same in
    let given : r.given ≡ old.given = ap (λ (x : PiecesRead). x.given) f.same in
    let pieces : r.pieces ≡ old.pieces = ap (λ (x : PiecesRead). x.pieces) f.same in
    let fits = fits_found before after old r stretch name f few in
    record {
      same = ap (λ (x : PiecesRead). x.sources) f.same;
      no_fault = ap (λ (x : PiecesRead). x.fault) f.same ∙ none;
      opened = record {
        numbered = f.opened.numbered;
        within = f.opened.within;
        opened = f.opened.opened;
        current = f.opened.current;
        earlier = f.opened.earlier;
        fits = f.opened.fits;
        order = (let a = f.end in omega (arith, a));
        few = few;
        pieces = (let a = f.opened.pieces in let b = f.some in omega (arith, a, b));
      };
      listed = tt;
      numbered = record {
        seq = ap (λ n. 2 * n) pieces;
        within = f.source;
        file = refl;
        source = named;
        first_row = rows;
        slice = ap (λ n. slice_within r.sources.start r.sources.stop n stretch.rows) rows;
        parts = refl;
        some = f.some;
        bytes = (let a = f.some in let b = f.few in omega (arith, a, b));
        begins = f.order;
        from = given;
        ends = refl;
        to = refl;
        fits = fits;
        rows = ap (λ n. n + stretch.rows) rows;
        pieces = ap (λ n. n + 1) pieces;
      };
      reads = f.reads;
      ended = λ end. absurd (not_ended old f.more low end);
      told = λ s files had.
          let found = f.told s files had in
          (found_piece s files before after old r stretch name f found named few fits, found_goes_on s files before after old r stretch f found);
    }

pub search_found : (before after : Outside) (old r new : PiecesRead) (stretch : RowStretch) (piece : Piece) → old.fault ≡ None → old.rows < old.sources.stop → FindsStretch before old stretch after r
    → GivesStretchOf r stretch (Ok piece) new → SearchesPiece before old (Ok (Some piece)) after new
search_found before after old r new stretch piece none low f (name, named, is, few, left) =
    subst (λ (x : PiecesRead). SearchesPiece before old (Ok (Some piece)) after x) (sym left)
    (subst (λ (x : Piece). SearchesPiece before old (Ok (Some x)) after (after_piece r stretch)) (sym is) (search_gives before after old r stretch name none low f named few))

-- rows were found, and not given
pub search_gives_none : (before after : Outside) (old r new : PiecesRead) (stretch : RowStretch) (fault : Fault) → old.fault ≡ None → old.rows < old.sources.stop → FindsStretch before old stretch after r
    → GivesStretchOf r stretch (Err fault) new → SearchesPiece before old (Err fault) after new
search_gives_none before after old r new stretch faults.OutOfMemory none low f left =
    subst (λ (x : PiecesRead). SearchesPiece before old (Err faults.OutOfMemory) after x) (sym left) (record {
      same = ap (λ (x : PiecesRead). x.sources) f.same;
      no_fault = ap (λ (x : PiecesRead). x.fault) f.same ∙ none;
      opened = tt;
      listed = tt;
      numbered = tt;
      reads = (asked_to r, f.reads);
      ended = λ end. absurd (not_ended old f.more low end);
      told = λ s files had. tt;
    })
search_gives_none before after old r new stretch (faults.ComputeError kinds.TooManyRows number at) none low f (left, number_is, at_is, more) =
    subst (λ (x : PiecesRead). SearchesPiece before old (Err (faults.ComputeError kinds.TooManyRows number at)) after x) (sym left) (record {
      same = ap (λ (x : PiecesRead). x.sources) f.same;
      no_fault = ap (λ (x : PiecesRead). x.fault) f.same ∙ none;
      opened = tt;
      listed = (number_is, at_is);
      numbered = tt;
      reads = (asked_to r, f.reads);
      ended = λ end. absurd (not_ended old f.more low end);
      told = λ s files had. found_too_many s files before after old r stretch f (f.told s files had) more;
    })
search_gives_none before after old r new stretch fault none low f left = absurd left

-- the faults of a reader are of its kinds
pub kind_of_fault : (sources : FilesAsked) (fault : Fault) → IsPiecesFaultOf sources fault → IsReaderKind fault
kind_of_fault sources faults.OutOfMemory is = tt
kind_of_fault sources (faults.ReadFault file) is = tt
kind_of_fault sources (faults.Malformed file at) is = tt
kind_of_fault sources (faults.Unsupported file code) is = tt
kind_of_fault sources (faults.ComputeError kind file at) is = tt
kind_of_fault sources fault (source, less, is) = absurd is

-- a reader that has answered a fault suits any outside
pub suits_failed : (o : Outside) (r : PiecesRead) (fault : Fault) → r.fault ≡ Some fault → IsPiecesFaultOf r.sources fault → SuitsPieces o r
suits_failed o r fault is listed = record {
  opened = λ none. absurd (cc);
  listed = λ other same. subst (λ (x : Fault). IsPiecesFaultOf r.sources x) (cc) listed;
}

-- one that has not suits its outside
pub suits_open : (o : Outside) (r : PiecesRead) → r.fault ≡ None → AreOpen o r → SuitsPieces o r
suits_open o r none opened = record { opened = λ is. opened; listed = λ fault is. absurd (cc) }
