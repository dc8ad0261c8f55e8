-- Laws of the reader of a scan's files as what a line is fed from: over another outside, and over several calls.
use Rattle.std.proofs.Common.{◌≡◌, ℕ, ◌+◌, ap, sym, subst, refl, ◌∙◌, append-nil, append_assoc, arith}
use Rattle.std.proofs.lemmas.List.Sums.{sum_by-append}
use Rattle.std.specs.Prelude.{Option, Some, None, List, [], ◌∷◌, ◌++◌, slice_get}
use Rattle.morsel_meaning.specs.declared.fault.Fault.{Fault}
use Rattle.morsel_meaning.specs.declared.fault.Fault.TheVariants as faults
use Rattle.morsel_outside.specs.Outside.{Outside}
use Rattle.morsel_outside.specs.declared.io.FileNo.{FileNo}
use Rattle.morsel_outside.specs.Actions.{Action, ReadingRange, FailedReadingRange, read_failures}
use Rattle.morsel_read.specs.ScanReads.{FilesAsked, PiecesRead, asked_to, sizes_in, SuitsPieces}
use Rattle.morsel_read.proofs.LawLemmas.{goes_on_over}
use Rattle.morsel_line.specs.Jobs.{Job}
use Rattle.morsel_line.specs.ScanSources.{AskNextChunks, DidRead, ReadsJob}

pub suits_on : (r : PiecesRead) (old new : Outside) → new.sizes ≡ old.sizes → SuitsPieces old r → SuitsPieces new r
suits_on r old new same suits = (goes_on_over old new r same).0 suits

pub reads_on : (r : PiecesRead) (job : Job) (old new : Outside) → new.sizes ≡ old.sizes → new.held ≡ old.held → ReadsJob r job old → ReadsJob r job new
reads_on r job old new same held reads = record {
  given = (goes_on_over old new r same).1 held job.scan job.files reads.given;
  names = reads.names;
  first = reads.first;
  opened = reads.opened;
}

pub did_nothing : (r : PiecesRead) (sizes : List ℕ) → DidRead r r sizes []
did_nothing r sizes = record { same = refl; to = asked_to r; are = refl; there = λ none. refl; fine = λ none. refl; failed = λ none number is. absurd (let both : None ≡ Some (faults.ReadFault number) = sym none ∙ is in cc); after_fault = λ fault is. (refl, refl) }

-- what was asked by calls, one after the other
pub ask-append : (files : List FileNo) (sizes : List ℕ) (chunk from mid to : ℕ) (first later : List Action) → AskNextChunks files sizes chunk from first mid → AskNextChunks files sizes chunk mid later to
    → AskNextChunks files sizes chunk from (first ++ later) to
ask-append files sizes chunk from mid to [] later are next = subst (λ n. AskNextChunks files sizes chunk n later to) (sym are) next
ask-append files sizes chunk from mid to (ReadingRange file at len ∷ first) later are next = (are.0, ask-append files sizes chunk (from + len) mid to first later are.1 next)
ask-append files sizes chunk from mid to (FailedReadingRange file at len ∷ first) later are next = (are.0, ask-append files sizes chunk (from + len) mid to first later are.1 next)
ask-append files sizes chunk from mid to (action ∷ first) later are next = absurd are

pub did_on : (first between last : PiecesRead) (sizes : List ℕ) (old more : List Action) → DidRead first between sizes old → DidRead between last sizes more → DidRead first last sizes (old ++ more)
did_on first between last sizes old more one two = by between.fault refl
  where
    by : (fault : Option Fault) → between.fault ≡ fault → DidRead first last sizes (old ++ more)
    by None none = record {
      same = two.same ∙ one.same;
      to = two.to;
      are = ask-append first.sources.files (sizes_in sizes first.sources.files) first.sources.chunk (asked_to first) one.to two.to old more one.are
          (subst (λ n. AskNextChunks first.sources.files (sizes_in sizes first.sources.files) first.sources.chunk n more two.to) (sym (one.there none))
          (subst (λ (x : FilesAsked). AskNextChunks x.files (sizes_in sizes x.files) x.chunk (asked_to between) more two.to) one.same two.are));
      there = two.there;
      fine = λ still. (let all = sum_by-append read_failures old more in let first = one.fine none in let later = two.fine still in omega (arith, all, first, later));
      failed = λ start number is.
          let end = two.failed none number is in record {
            before = old ++ end.before;
            source = end.source;
            file = end.file;
            at = end.at;
            len = end.len;
            is = subst (λ (x : FilesAsked). slice_get x.files end.source ≡ Some (record { 0 = end.file })) one.same end.is;
            number_is = end.number_is ∙ ap (λ (x : FilesAsked). x.first + end.source) one.same;
            split = ap (λ (x : List Action). old ++ x) end.split ∙ sym (append_assoc old end.before (FailedReadingRange end.file end.at end.len ∷ []));
          };
      after_fault = λ fault is. absurd (let stands = (one.after_fault fault is).1 in let same : between.fault ≡ first.fault = ap (λ (x : PiecesRead). x.fault) stands in
          let both : None ≡ Some fault = sym none ∙ same ∙ is in cc);
    }
    by (Some fault) some =
        let stands = two.after_fault fault some in
        let all : old ++ more ≡ old = ap (λ (x : List Action). old ++ x) stands.0 ∙ append-nil old in
        subst (λ (x : List Action). DidRead first last sizes x) (sym all) (subst (λ (x : PiecesRead). DidRead first x sizes old) (sym stands.1) one)
