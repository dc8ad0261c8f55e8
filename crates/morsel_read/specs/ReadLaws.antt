-- What a reader knows of its files at first, and over another outside.
use Rattle.std.specs.Prelude.{◌≡◌, ℕ, ◌<◌, Some, List, length, slice_get}
use Rattle.morsel_outside.specs.Outside.{Outside}
use Rattle.morsel_outside.specs.declared.io.FileNo.{FileNo}
use Rattle.morsel_scan.specs.Scans.{CsvScan}
use Rattle.morsel_read.specs.ScanReads.{FilesAsked, PiecesRead, AreNumbered, pieces_at_start, files_asked, CountsFromFirst, AreTold, SuitsPieces, HasGivenRows}

-- a reader that has read nothing suits an outside in which its files are open
abbrev pub SuitsAtFirst : Type 0
SuitsAtFirst = (sources : FilesAsked) (o : Outside) → AreNumbered sources
    → ((source : ℕ) (file : FileNo) → slice_get sources.files source ≡ Some file → file.0 < length o.sizes) → SuitsPieces o (pieces_at_start sources)

-- nothing was given of a scan of files, at least one, at first
abbrev pub HasGivenNothing : CsvScan → Type 0
HasGivenNothing s = (names files : List (List ℕ)) (numbers : List FileNo) (first chunk : ℕ) (o : Outside) → CountsFromFirst s.scan.asked.slice
    → length names ≡ length files → 0 < length files → AreTold o numbers files → HasGivenRows s files o (pieces_at_start (files_asked s names numbers first chunk))

-- a reader of files goes on over an outside where they have the same sizes, and, where they are told, contain the same
abbrev pub GoesOnOver : Type 0
GoesOnOver = (o other : Outside) (r : PiecesRead) → other.sizes ≡ o.sizes → (SuitsPieces o r → SuitsPieces other r)
    × (other.held ≡ o.held → (s : CsvScan) (files : List (List ℕ)) → HasGivenRows s files o r → HasGivenRows s files other r)
