-- Laws of readers over another outside.
use Rattle.std.proofs.Common.{◌≡◌, ℕ, ◌<◌, ap, sym, subst, ◌∙◌}
use Rattle.std.specs.Prelude.{Option, Some, None, List, length, take, slice_index}
use Rattle.std.specs.List.{sum_by}
use Rattle.morsel_outside.specs.Outside.{Outside}
use Rattle.morsel_scan.specs.Scans.{CsvScan}
use Rattle.morsel_scan.specs.Blocks.{BlocksRead, IsOpenFile}
use Rattle.morsel_scan.specs.RowBlocks.{RowsRead}
use Rattle.morsel_read.specs.ScanReads.{FilesAsked, PiecesRead, sizes_in, IsCurrent, AreOpen, HasGivenRows}
use Rattle.morsel_read.specs.ReadLaws.{GoesOnOver}
use Rattle.morsel_read.proofs.SourceLemmas.{told_same}

open_same : (o other : Outside) (b : BlocksRead) → other.sizes ≡ o.sizes → IsOpenFile o b → IsOpenFile other b
open_same o other b same is = record {
  opened = subst (λ (x : List ℕ). b.file < length x) (sym same) is.opened;
  size_is = ap (λ (x : List ℕ). slice_index x b.file) same ∙ is.size_is;
  within = is.within;
  held_within = is.held_within;
  fed = is.fed;
  source_is = is.source_is;
  fits = is.fits;
}

current_same : (o other : Outside) (files : FilesAsked) (source : ℕ) (current : Option RowsRead) → other.sizes ≡ o.sizes → IsCurrent o files source current → IsCurrent other files source current
current_same o other files source None same is = tt
current_same o other files source (Some r) same is = (open_same o other r.blocks same is.0, is.1, is.2)

are_open : (o other : Outside) (r : PiecesRead) → other.sizes ≡ o.sizes → AreOpen o r → AreOpen other r
are_open o other r same is = record {
  numbered = is.numbered;
  within = is.within;
  opened = λ source file there. subst (λ (x : List ℕ). file.0 < length x) (sym same) (is.opened source file there);
  current = current_same o other r.sources r.source r.current same is.current;
  earlier = subst (λ (x : List ℕ). r.earlier ≡ sum_by (λ n. n) (take r.source (sizes_in x r.sources.files))) (sym same) is.earlier;
  fits = is.fits;
  order = is.order;
  few = is.few;
  pieces = is.pieces;
}

given_rows : (o other : Outside) (r : PiecesRead) (files : List (List ℕ)) → other.sizes ≡ o.sizes → other.held ≡ o.held → (s : CsvScan) → HasGivenRows s files o r → HasGivenRows s files other r
given_rows o other r files same held s had = record {
  fit = had.fit;
  is = had.is;
  from_first = had.from_first;
  no_fault = had.no_fault;
  one_each = had.one_each;
  told = told_same o other r.sources.files files same held had.told;
  earlier = had.earlier;
  rows_before = had.rows_before;
  within = had.within;
  rows_within = had.rows_within;
  rows_are = had.rows_are;
  after_pieces = had.after_pieces;
  passed = had.passed;
}

pub goes_on_over : GoesOnOver
goes_on_over = λ o other r same. (
  λ suits. record { opened = λ none. are_open o other r same (suits.opened none); listed = suits.listed },
  λ held s files had. given_rows o other r files same held s had,
)
