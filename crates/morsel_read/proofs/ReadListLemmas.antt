-- Lists of reads of several files, one after the other.
use Rattle.std.proofs.Common.{◌≡◌, ℕ, ◌+◌, ◌<◌, ap, sym, subst, refl, ◌∙◌, arith, append-nil}
use Rattle.std.specs.Prelude.{Some, List, [], ◌∷◌, ◌++◌, map, length, take, get_or, slice_get}
use Rattle.std.specs.List.{flat_map, sum_by}
use Rattle.morsel_outside.specs.Outside.{Outside, with_more}
use Rattle.morsel_outside.specs.declared.io.FileNo.{FileNo}
use Rattle.morsel_outside.specs.Actions.{Action, ReadingRange, Does, opened_by}
use Rattle.morsel_outside.proofs.ActionLemmas.{with_more-nil}
use Rattle.morsel_scan.specs.Scans.{CsvScan}
use Rattle.morsel_scan.specs.FileReads.{IsChunk, AreNextReads}
use Rattle.morsel_scan.specs.RowBlocks.{HoldsNoRow, ReadWithoutRow}
use Rattle.morsel_read.specs.PieceReads.{IsNextChunk, AreNextChunks, EndsNoRowOf, AreInNeed}

pub chunks-append : (files : List FileNo) (sizes : List ℕ) (chunk from mid to : ℕ) (first later : List Action) → AreNextChunks files sizes chunk from first mid
    → AreNextChunks files sizes chunk mid later to → AreNextChunks files sizes chunk from (first ++ later) to
chunks-append files sizes chunk from mid to [] later are next = subst (λ n. AreNextChunks files sizes chunk n later to) (sym are) next
chunks-append files sizes chunk from mid to (ReadingRange file at len ∷ first) later are next = (are.0, chunks-append files sizes chunk (from + len) mid to first later are.1 next)
chunks-append files sizes chunk from mid to (action ∷ first) later are next = absurd are

pub need-append : (s : CsvScan) (number : ℕ) (names bytes : List (List ℕ)) (given : ℕ) (files : List FileNo) (sizes : List ℕ) (chunk from mid : ℕ) (first later : List Action)
    → AreNextChunks files sizes chunk from first mid → AreInNeed s number names bytes given from first → AreInNeed s number names bytes given mid later
    → AreInNeed s number names bytes given from (first ++ later)
need-append s number names bytes given files sizes chunk from mid [] later are all next = subst (λ n. AreInNeed s number names bytes given n later) (sym are) next
need-append s number names bytes given files sizes chunk from mid (ReadingRange file at len ∷ first) later are all next =
    (all.0, need-append s number names bytes given files sizes chunk (from + len) mid first later are.1 all.1 next)
need-append s number names bytes given files sizes chunk from mid (action ∷ first) later are all next = absurd are

chunks_open_none : (files : List FileNo) (sizes : List ℕ) (chunk from to : ℕ) (actions : List Action) → AreNextChunks files sizes chunk from actions to → flat_map opened_by actions ≡ []
chunks_open_none files sizes chunk from to [] are = refl
chunks_open_none files sizes chunk from to (ReadingRange file at len ∷ actions) are = chunks_open_none files sizes chunk (from + len) to actions are.1
chunks_open_none files sizes chunk from to (action ∷ actions) are = absurd are

-- reads open no file
pub same_sizes : (files : List FileNo) (sizes : List ℕ) (chunk from to : ℕ) (actions : List Action) (before after : Outside) → AreNextChunks files sizes chunk from actions to
    → Does before actions after → after.sizes ≡ before.sizes
same_sizes files sizes chunk from to actions before after are does =
    does.sizes ∙ ap (λ (x : List (List ℕ)). before.sizes ++ map length x) (chunks_open_none files sizes chunk from to actions are) ∙ append-nil before.sizes

pub same_held : (files : List FileNo) (sizes : List ℕ) (chunk from to : ℕ) (actions : List Action) (before after : Outside) → AreNextChunks files sizes chunk from actions to
    → Does before actions after → after.held ≡ before.held
same_held files sizes chunk from to actions before after are does =
    does.held ∙ ap (with_more before.held) (chunks_open_none files sizes chunk from to actions are) ∙ with_more-nil before.held

-- a read of a file is one of all files
pub chunk_of_file : (files : List FileNo) (sizes : List ℕ) (chunk source file size earlier at len : ℕ) → slice_get files source ≡ Some (record { 0 = file })
    → earlier ≡ sum_by (λ n. n) (take source sizes) → get_or sizes source 0 ≡ size → IsChunk size chunk at len → IsNextChunk files sizes chunk (earlier + at) file at len
chunk_of_file files sizes chunk source file size earlier at len is before size_is chunk_is = record {
  source = source;
  is = is;
  next = ap (λ n. n + at) before;
  within = subst (λ n. IsChunk n chunk at len) (sym size_is) chunk_is;
}

-- reads of a file are reads of all files
pub chunks_of_file : (files : List FileNo) (sizes : List ℕ) (chunk source file size earlier from to : ℕ) (reads : List Action) → slice_get files source ≡ Some (record { 0 = file })
    → earlier ≡ sum_by (λ n. n) (take source sizes) → get_or sizes source 0 ≡ size → AreNextReads file size chunk from reads to
    → AreNextChunks files sizes chunk (earlier + from) reads (earlier + to)
chunks_of_file files sizes chunk source file size earlier from to [] is before size_is are = ap (λ n. earlier + n) are
chunks_of_file files sizes chunk source file size earlier from to (ReadingRange number at len ∷ reads) is before size_is (number_is, at_is, chunk_is, more) =
    let there : earlier + (from + len) ≡ earlier + from + len = omega arith in
    let one : IsNextChunk files sizes chunk (earlier + from) file from len = chunk_of_file files sizes chunk source file size earlier from len is before size_is chunk_is in (
      subst (λ n. IsNextChunk files sizes chunk (earlier + from) n at len) (sym number_is) (subst (λ n. IsNextChunk files sizes chunk (earlier + from) file n len) (sym at_is) one),
      subst (λ n. AreNextChunks files sizes chunk n reads (earlier + to)) there
          (chunks_of_file files sizes chunk source file size earlier (from + len) to reads is before size_is more),
    )
chunks_of_file files sizes chunk source file size earlier from to (action ∷ reads) is before size_is are = absurd are

-- reads that are made while no whole row of a file is held are made while no row ends
pub need_of_file : (s : CsvScan) (number : ℕ) (names bytes : List (List ℕ)) (given : ℕ) (text : List ℕ) (within file size chunk earlier from to : ℕ) (reads : List Action)
    → ((at : ℕ) → HoldsNoRow s text within at → at < size → EndsNoRowOf s number names bytes given (earlier + at)) → AreNextReads file size chunk from reads to
    → ReadWithoutRow s text within reads → AreInNeed s number names bytes given (earlier + from) reads
need_of_file s number names bytes given text within file size chunk earlier from to [] none are all = tt
need_of_file s number names bytes given text within file size chunk earlier from to (ReadingRange label at len ∷ reads) none (label_is, at_is, chunk_is, more) all =
    let there : earlier + (from + len) ≡ earlier + from + len = omega arith in
    let held : HoldsNoRow s text within from = subst (λ n. HoldsNoRow s text within n) at_is all.0 in (
      none from held (let c = chunk_is in omega (arith, c.some, c.within)),
      subst (λ n. AreInNeed s number names bytes given n reads) there (need_of_file s number names bytes given text within file size chunk earlier (from + len) to reads none more all.1),
    )
need_of_file s number names bytes given text within file size chunk earlier from to (action ∷ reads) none are all = absurd are
