-- One step of a search: the file that is read is taken out, and its reader searches for rows.
use Rattle.std.proofs.Common.{◌≡◌, ℕ, ◌+◌, ◌-◌, ◌<◌, ◌^◌, ap, sym, subst, refl, ◌∙◌, inl, inr, arith}
use Rattle.std.specs.Prelude.{false, Option, Some, None, Ok, Err, List, [], ◌∷◌, ◌++◌, length, take, get_or, slice_get, slice_index, slice_range, IsUtf8}
use Rattle.std.specs.List.{sum_by}
use Rattle.morsel_meaning.specs.declared.fault.Fault.{Fault}
use Rattle.morsel_meaning.specs.declared.fault.Fault.TheVariants as faults
use Rattle.morsel_meaning.specs.declared.fault.ComputeKind.TheVariants as kinds
use Rattle.morsel_grammar.specs.Dialect.{Dialect}
use Rattle.morsel_outside.specs.Outside.{Outside}
use Rattle.morsel_outside.specs.declared.io.FileNo.{FileNo}
use Rattle.morsel_outside.proofs.ActionLemmas.{does-append}
use Rattle.morsel_outside.proofs.DoesLemmas.{does-nothing}
use Rattle.morsel_scan.specs.Scans.{CsvScan}
use Rattle.morsel_scan.specs.CsvPieces.{HaveRows, bytes_between}
use Rattle.morsel_scan.specs.FileReads.{IsTold, IsChunk}
use Rattle.morsel_scan.specs.Blocks.{given_to, IsOpenFile, IsLastCut}
use Rattle.morsel_scan.specs.RowBlocks.{RowsRead, RowStretch, rows_at_start, HasRowsGiven, IsRowsFault, IsRowsFaultOf, HoldsNoRow, IsToldFile, ReadsOnForRows, FailsToReadForRows, ReadsForRows}
use Rattle.morsel_read.specs.ScanReads.{FilesAsked, PiecesRead, asked_within, settled_within, asked_to, settled_to, sizes_in, IsCurrent, AreOpen, IsPiecesFaultOf, HasGivenWithin, HasGivenRows}
use Rattle.morsel_read.specs.PieceReads.{AreNextChunks, EndsNoRowOf, AreInNeed, ReadsOnForPieces, FailsToReadForPieces, ReadsUpToFault, IsPiecesFault}
use Rattle.morsel_read.specs.Seeking.{TakesCurrent, AreSameGiven, PassesFiles, FindsStretch, EndsFiles, FailsToFind, FindsRows, passed_source}
use Rattle.morsel_read.proofs.HeldLemmas.{begins_within, ends_none}
use Rattle.morsel_read.proofs.ReadListLemmas.{chunks-append, need-append, same_sizes, same_held, chunks_of_file, need_of_file}
use Rattle.morsel_read.proofs.SourceLemmas.{get_less, size_at, sum_next, sizes_len, told_at, told_same, told_sum, rows_next}
use Rattle.morsel_read.proofs.BetweenLemmas.{between_further}

-- what is known of the file that is taken out
pub record IsTaken (o : Outside) (r : PiecesRead) (taken : RowsRead) : Type 0 where
  pub file : FileNo
  pub is : slice_get r.sources.files r.source ≡ Some file
  pub file_is : taken.blocks.file ≡ file.0
  pub source_is : taken.blocks.source ≡ r.sources.first + r.source
  pub is_open : IsOpenFile o taken.blocks
  pub size_is : taken.blocks.size ≡ slice_index o.sizes file.0
  pub asked_is : taken.blocks.asked ≡ asked_within r.current
  pub given_is : given_to taken.blocks ≡ settled_within r.current
  pub fits : r.earlier + taken.blocks.size < 2 ^ 64
  pub told : (s : CsvScan) (files : List (List ℕ)) (had : HasGivenRows s files o r)
      → (bytes : List ℕ) × (slice_get files r.source ≡ Some bytes) × IsToldFile r.sources.options r.sources.columns s bytes had.within o taken

nothing_given : (s : CsvScan) (bytes : List ℕ) (source file size : ℕ) → size ≡ length bytes → HasRowsGiven s bytes 0 (rows_at_start s.options source file size)
nothing_given s bytes source file size same = record {
  read = record { size_is = same; fed = refl; held_is = refl };
  cut = by bytes;
  before = inl (inl (refl, refl, refl));
}
  where
    by : (bytes : List ℕ) → IsLastCut s.options bytes 0 0
    by [] = inr (refl, refl)
    by (b ∷ bytes) = inl (omega arith, refl)

pub taken : (o : Outside) (r : PiecesRead) (t : RowsRead) (new : PiecesRead) → AreOpen o r → TakesCurrent o r t new → IsTaken o r t
taken o r t new opened takes = by r.current refl
  where
    file : FileNo
    file = takes.file

    by : (current : Option RowsRead) → r.current ≡ current → IsTaken o r t
    by (Some c) is =
        let here : IsCurrent o r.sources r.source (Some c) = subst (λ (x : Option RowsRead). IsCurrent o r.sources r.source x) is opened.current in
        let same : t ≡ c = takes.begun c is in
        let files : takes.file ≡ record { 0 = c.blocks.file } = (let a = takes.is in let b = here.1 in cc) in
        record {
          file = takes.file;
          is = takes.is;
          file_is = ap (λ (x : RowsRead). x.blocks.file) same ∙ sym (ap (λ (x : FileNo). x.0) files);
          source_is = ap (λ (x : RowsRead). x.blocks.source) same ∙ here.2;
          is_open = subst (λ (x : RowsRead). IsOpenFile o x.blocks) (sym same) here.0;
          size_is = ap (λ (x : RowsRead). x.blocks.size) same ∙ sym here.0.size_is ∙ sym (ap (λ (x : FileNo). slice_index o.sizes x.0) files);
          asked_is = ap (λ (x : RowsRead). x.blocks.asked) same ∙ sym (ap asked_within is);
          given_is = ap (λ (x : RowsRead). given_to x.blocks) same ∙ sym (ap settled_within is);
          fits = takes.fits;
          told = λ s contents had.
              let within : HasGivenWithin s contents r.source had.within (Some c) = subst (λ (x : Option RowsRead). HasGivenWithin s contents r.source had.within x) is had.rows_within in
              let one = told_at o r.sources.files contents r.source takes.file had.told takes.is in
              let bytes : one.0 ≡ within.0 = (let a = one.1 in let b = within.1 in cc) in (
                within.0,
                within.1,
                record {
                  options = sym (ap (λ (x : FilesAsked). x.options) had.is);
                  fit = had.fit;
                  columns_are = sym (ap (λ (x : FilesAsked). x.columns) had.is);
                  told = subst (λ (x : List ℕ). IsTold o.held t.blocks.file x) bytes
                      (subst (λ n. IsTold o.held n one.0) (sym (ap (λ (x : RowsRead). x.blocks.file) same ∙ sym (ap (λ (x : FileNo). x.0) files))) one.2);
                  given = subst (λ (x : RowsRead). HasRowsGiven s within.0 had.within x) (sym same) within.2;
                },
              );
        }
    by None is =
        let same : t ≡ rows_at_start r.sources.options (r.sources.first + r.source) takes.file.0 (slice_index o.sizes takes.file.0) = takes.anew is in
        record {
          file = takes.file;
          is = takes.is;
          file_is = ap (λ (x : RowsRead). x.blocks.file) same;
          source_is = ap (λ (x : RowsRead). x.blocks.source) same;
          is_open = subst (λ (x : RowsRead). IsOpenFile o x.blocks) (sym same) (record {
            opened = opened.opened r.source takes.file takes.is;
            size_is = refl;
            within = omega arith;
            held_within = omega arith;
            fed = refl;
            source_is = refl;
            fits = (let a = takes.fits in let b : t.blocks.size ≡ slice_index o.sizes takes.file.0 = ap (λ (x : RowsRead). x.blocks.size) same in omega (arith, a, b));
          });
          size_is = ap (λ (x : RowsRead). x.blocks.size) same;
          asked_is = ap (λ (x : RowsRead). x.blocks.asked) same ∙ sym (ap asked_within is);
          given_is = ap (λ (x : RowsRead). given_to x.blocks) same ∙ sym (ap settled_within is);
          fits = takes.fits;
          told = λ s files had.
              let none : had.within ≡ 0 = subst (λ (x : Option RowsRead). HasGivenWithin s files r.source had.within x) is had.rows_within in
              let one = told_at o r.sources.files files r.source takes.file had.told takes.is in
              let options : r.sources.options ≡ s.options = ap (λ (x : FilesAsked). x.options) had.is in
              let start : t ≡ rows_at_start s.options (r.sources.first + r.source) takes.file.0 (slice_index o.sizes takes.file.0) =
              same ∙ ap (λ (x : Dialect). rows_at_start x (r.sources.first + r.source) takes.file.0 (slice_index o.sizes takes.file.0)) options in (
                one.0,
                one.1,
                record {
                  options = sym options;
                  fit = had.fit;
                  columns_are = sym (ap (λ (x : FilesAsked). x.columns) had.is);
                  told = subst (λ n. IsTold o.held n one.0) (sym (ap (λ (x : RowsRead). x.blocks.file) same)) one.2;
                  given = subst (λ n. HasRowsGiven s one.0 n t) (sym none) (subst (λ (x : RowsRead). HasRowsGiven s one.0 0 x) (sym start)
                      (nothing_given s one.0 (r.sources.first + r.source) takes.file.0 (slice_index o.sizes takes.file.0) one.3));
                },
              );
        }

-- where a file is left, there was one when the search began
some_left : (before mid : Outside) (old r : PiecesRead) → PassesFiles before old mid r → r.source < length r.sources.files → old.source < length old.sources.files
some_left before mid old r p less =
    let size : length r.sources.files ≡ length old.sources.files = ap (λ (x : PiecesRead). length x.sources.files) p.same in
    let order = p.order in
    omega (arith, less, size, order)

-- no row ends where a read of this file is made
none_here : (s : CsvScan) (files : List (List ℕ)) (o : Outside) (r : PiecesRead) (bytes : List ℕ) (at : ℕ) → AreOpen o r → (had : HasGivenRows s files o r) → slice_get files r.source ≡ Some bytes
    → HoldsNoRow s bytes had.within at → at < length bytes → EndsNoRowOf s r.sources.first r.sources.names files r.given (r.earlier + at)
none_here s files o r bytes at opened had is held less =
    let before : sum_by length (take r.source files) ≡ r.earlier = sym (opened.earlier ∙ told_sum o r.sources.files files r.source had.told) in
    subst (λ n. EndsNoRowOf s r.sources.first r.sources.names files r.given (n + at)) before
    (ends_none s r.sources.first r.given r.rows r.source had.earlier had.within at r.sources.names files bytes had.fit had.one_each had.after_pieces is had.rows_before had.rows_are held less)

-- the file that is read, among all
record IsInFiles (before : Outside) (old r : PiecesRead) (t : RowsRead) : Type 0 where
  is : slice_get old.sources.files r.source ≡ Some (record { 0 = t.blocks.file })
  earlier : r.earlier ≡ sum_by (λ n. n) (take r.source (sizes_in before.sizes old.sources.files))
  size : get_or (sizes_in before.sizes old.sources.files) r.source 0 ≡ t.blocks.size

same_files : (before mid : Outside) (old r : PiecesRead) → PassesFiles before old mid r → r.sources ≡ old.sources
same_files before mid old r p = ap (λ (x : PiecesRead). x.sources) p.same

sizes_mid : (before mid : Outside) (old r : PiecesRead) → PassesFiles before old mid r → mid.sizes ≡ before.sizes
sizes_mid before mid old r p =
    same_sizes old.sources.files (sizes_in before.sizes old.sources.files) old.sources.chunk (asked_to old) (asked_to r) p.reads.reads before mid p.reads.are p.reads.does

in_files : (before mid : Outside) (old r : PiecesRead) (t : RowsRead) → PassesFiles before old mid r → IsTaken mid r t → IsInFiles before old r t
in_files before mid old r t p k =
    let one = same_files before mid old r p in
    let same = sizes_mid before mid old r p in
    let is : slice_get old.sources.files r.source ≡ Some (record { 0 = t.blocks.file }) =
    subst (λ (x : FilesAsked). slice_get x.files r.source ≡ Some (record { 0 = t.blocks.file })) one (k.is ∙ ap (λ n. Some (record { 0 = n })) (sym k.file_is)) in
    record {
      is = is;
      earlier = subst (λ (x : List ℕ). r.earlier ≡ sum_by (λ n. n) (take r.source (sizes_in x old.sources.files))) same
          (subst (λ (x : FilesAsked). r.earlier ≡ sum_by (λ n. n) (take r.source (sizes_in mid.sizes x.files))) one p.opened.earlier);
      size = size_at before old.sources.files r.source (record { 0 = t.blocks.file }) is ∙ ap (λ (x : List ℕ). slice_index x t.blocks.file) (sym same)
          ∙ ap (slice_index mid.sizes) k.file_is ∙ sym k.size_is;
    }

-- the reads of a search in one file, after those of the files that were passed
pub reads_further : (before mid after : Outside) (old r : PiecesRead) (t : RowsRead) (to : ℕ) → PassesFiles before old mid r → IsTaken mid r t
    → ReadsOnForRows r.sources.options r.sources.columns mid t r.sources.chunk after to → ReadsOnForPieces before old after (r.earlier + to)
reads_further before mid after old r t to p k f =
    let one = same_files before mid old r p in
    let place = in_files before mid old r t p k in
    let files : List FileNo = old.sources.files in
    let sizes : List ℕ = sizes_in before.sizes files in
    let chunk : ℕ = old.sources.chunk in
    let later : AreNextChunks files sizes chunk (r.earlier + t.blocks.asked) f.reads (r.earlier + to) =
    subst (λ (x : FilesAsked). AreNextChunks files sizes x.chunk (r.earlier + t.blocks.asked) f.reads (r.earlier + to)) one
    (chunks_of_file files sizes r.sources.chunk r.source t.blocks.file t.blocks.size r.earlier t.blocks.asked to f.reads place.is place.earlier place.size f.are) in
    record {
      reads = p.reads.reads ++ f.reads;
      are = chunks-append files sizes chunk (asked_to old) (asked_to r) (r.earlier + to) p.reads.reads f.reads p.reads.are
          (subst (λ n. AreNextChunks files sizes chunk (r.earlier + n) f.reads (r.earlier + to)) k.asked_is later);
      does = does-append before mid after p.reads.reads f.reads p.reads.does f.does;
      in_need = λ s bytes had.
          let now = p.told s bytes had in
          let known = k.told s bytes now in
          let needs : AreInNeed s r.sources.first r.sources.names bytes r.given (r.earlier + t.blocks.asked) f.reads =
          need_of_file s r.sources.first r.sources.names bytes r.given known.0 now.within t.blocks.file t.blocks.size r.sources.chunk r.earlier t.blocks.asked to f.reads
          (λ at held less. none_here s bytes mid r known.0 at p.opened now known.1 held (let z = known.2.given.read.size_is in omega (arith, less, z))) f.are (f.in_need s known.0 now.within known.2) in
          need-append s old.sources.first old.sources.names bytes old.given files sizes chunk (asked_to old) (asked_to r) p.reads.reads f.reads p.reads.are (p.reads.in_need s bytes had)
          (subst (λ n. AreInNeed s old.sources.first old.sources.names bytes n (asked_to r) f.reads) (ap (λ (x : PiecesRead). x.given) p.same)
          (subst (λ (x : FilesAsked). AreInNeed s x.first x.names bytes r.given (asked_to r) f.reads) one
          (subst (λ n. AreInNeed s r.sources.first r.sources.names bytes r.given (r.earlier + n) f.reads) k.asked_is needs)));
    }

-- a read of the file failed
fails_further : (before mid after : Outside) (old r : PiecesRead) (t : RowsRead) (number : ℕ) → PassesFiles before old mid r → IsTaken mid r t → number ≡ t.blocks.source
    → FailsToReadForRows r.sources.options r.sources.columns mid t r.sources.chunk after → FailsToReadForPieces before old after number
fails_further before mid after old r t number p k is f =
    let one = same_files before mid old r p in
    let place = in_files before mid old r t p k in
    record {
      between = f.between;
      to = r.earlier + f.to;
      reads = reads_further before mid f.between old r t f.to p k f.reads;
      file = t.blocks.file;
      at = f.to;
      len = f.len;
      last = record {
        source = r.source;
        is = place.is;
        next = ap (λ n. n + f.to) place.earlier;
        within = subst (λ n. IsChunk n old.sources.chunk f.to f.len) (sym place.size) (subst (λ (x : FilesAsked). IsChunk t.blocks.size x.chunk f.to f.len) one f.last);
      };
      last_in_need = λ s bytes had.
          let now = p.told s bytes had in
          let known = k.told s bytes now in
          let less : f.to < length known.0 = let c = f.last in let z = known.2.given.read.size_is in omega (arith, c.some, c.within, z) in
          subst (λ n. EndsNoRowOf s old.sources.first old.sources.names bytes n (r.earlier + f.to)) (ap (λ (x : PiecesRead). x.given) p.same)
          (subst (λ (x : FilesAsked). EndsNoRowOf s x.first x.names bytes r.given (r.earlier + f.to)) one
          (none_here s bytes mid r known.0 f.to p.opened now known.1 (f.last_in_need s known.0 now.within known.2) less));
      number_is = is ∙ k.source_is ∙ ap (λ (x : FilesAsked). x.first + r.source) one;
      fails = f.fails;
    }

reads_up_to_fault : (before mid after : Outside) (old r : PiecesRead) (t new : RowsRead) (fault : Fault) → PassesFiles before old mid r → IsTaken mid r t
    → ReadsForRows r.sources.options r.sources.columns mid t r.sources.chunk (Err fault) after new → ReadsUpToFault before old fault after
reads_up_to_fault before mid after old r t new (faults.ReadFault number) p k f = fails_further before mid after old r t number p k f.0 f.1
reads_up_to_fault before mid after old r t new fault p k f = (r.earlier + f.0, reads_further before mid after old r t f.0 p k f.1)

-- a fault of one file is one of the reader's
listed_fault : (sources : FilesAsked) (source number : ℕ) (fault : Fault) → source < length sources.files → number ≡ sources.first + source → IsRowsFaultOf number fault → IsPiecesFaultOf sources fault
listed_fault sources source number faults.OutOfMemory less is one = tt
listed_fault sources source number (faults.ComputeError kinds.TooManyRows file at) less is one = absurd one
listed_fault sources source number fault less is one = (source, less, subst (λ n. IsRowsFaultOf n fault) is one)

-- a cause in one file is one in all files
told_fault : (s : CsvScan) (first source number asked rows : ℕ) (files : List (List ℕ)) (bytes : List ℕ) (fault : Fault) → HaveRows s (take source files) rows → slice_get files source ≡ Some bytes
    → number ≡ first + source → IsRowsFault s.options number bytes fault → IsPiecesFault s first files asked fault
told_fault s first source number asked rows files bytes faults.OutOfMemory before is same one = tt
told_fault s first source number asked rows files bytes (faults.ComputeError kinds.TooManyRows file at) before is same one = absurd one
told_fault s first source number asked rows files bytes fault before is same one = (source, rows, before, bytes, is, subst (λ n. IsRowsFault s.options n bytes fault) same one)

-- the search in one file failed
pub step_fails : (before mid after : Outside) (old r new : PiecesRead) (t u : RowsRead) (fault : Fault) → PassesFiles before old mid r → IsTaken mid r t → r.source < length r.sources.files
    → FindsRows r.sources mid t (Err fault) after u → AreSameGiven old new → FailsToFind before old fault after new
step_fails before mid after old r new t u fault p k less f same =
    let one = same_files before mid old r p in
    record {
      more = some_left before mid old r p less;
      same = same;
      listed = listed_fault old.sources r.source t.blocks.source fault (subst (λ (x : FilesAsked). r.source < length x.files) one less)
          (k.source_is ∙ ap (λ (x : FilesAsked). x.first + r.source) one) f.listed;
      reads = reads_up_to_fault before mid after old r t u fault p k f.reads;
      told = λ s files had.
          let now = p.told s files had in
          let known = k.told s files now in
          let options = known.2.options in
          told_fault s old.sources.first r.source t.blocks.source (asked_to new) now.earlier files known.0 fault now.rows_before known.1
          (k.source_is ∙ ap (λ (x : FilesAsked). x.first + r.source) one) (f.rows s known.0 now.within known.2);
    }

-- memory is out before the search in a file
pub step_lacks_memory : (before mid : Outside) (old r new : PiecesRead) → PassesFiles before old mid r → r.source < length r.sources.files → AreSameGiven old new
    → FailsToFind before old faults.OutOfMemory mid new
step_lacks_memory before mid old r new p less same = record {
  more = some_left before mid old r p less;
  same = same;
  listed = tt;
  reads = (asked_to r, p.reads);
  told = λ s files had. tt;
}

-- nothing was passed
pub passes_none : (o : Outside) (r : PiecesRead) → AreOpen o r → PassesFiles o r o r
passes_none o r opened = record {
  opened = opened;
  same = refl;
  order = omega arith;
  reads = record { reads = []; are = refl; does = does-nothing o; in_need = λ s files had. tt };
  still = λ end. (refl, refl);
  told = λ s files had. had;
}

-- the sizes after a search in one file are those before
after_sizes : (before mid after : Outside) (old r : PiecesRead) (t : RowsRead) (to : ℕ) → PassesFiles before old mid r → IsTaken mid r t
    → ReadsOnForRows r.sources.options r.sources.columns mid t r.sources.chunk after to → (after.sizes ≡ mid.sizes) × (after.held ≡ mid.held)
after_sizes before mid after old r t to p k f =
    let all = reads_further before mid after old r t to p k f in
    let files : List FileNo = old.sources.files in
    let sizes : List ℕ = sizes_in before.sizes files in (
      same_sizes files sizes old.sources.chunk (asked_to old) (r.earlier + to) all.reads before after all.are all.does ∙ sym (sizes_mid before mid old r p),
      same_held files sizes old.sources.chunk (asked_to old) (r.earlier + to) all.reads before after all.are all.does
          ∙ sym (same_held files sizes old.sources.chunk (asked_to old) (asked_to r) p.reads.reads before mid p.reads.are p.reads.does),
    )

-- the file had no more rows, and is passed
pub step_passes : (before mid after : Outside) (old r : PiecesRead) (t u : RowsRead) (size : ℕ) → PassesFiles before old mid r → IsTaken mid r t → r.source < length r.sources.files
    → FindsRows r.sources mid t (Ok None) after u → size ≡ t.blocks.size → PassesFiles before old after (passed_source (record r { current = None }) size)
step_passes before mid after old r t u size p k less f size_is =
    let same = after_sizes before mid after old r t u.blocks.asked p k f.reads in
    let all : u.blocks.asked ≡ size = f.end refl ∙ f.same.size ∙ sym size_is in
    let to : r.earlier + u.blocks.asked ≡ r.earlier + size + 0 = omega (arith, all) in
    record {
      opened = record {
        numbered = p.opened.numbered;
        within = omega (arith, less);
        opened = λ source file is. subst (λ (x : List ℕ). file.0 < length x) (sym same.0) (p.opened.opened source file is);
        current = tt;
        earlier = (let sized : get_or (sizes_in mid.sizes r.sources.files) r.source 0 ≡ size = size_at mid r.sources.files r.source k.file k.is ∙ sym k.size_is ∙ sym size_is in
            let next = sum_next (sizes_in mid.sizes r.sources.files) r.source (let n = sizes_len mid r.sources.files in omega (arith, n, less)) in
            let before_it = p.opened.earlier in
            let sum : r.earlier + size ≡ sum_by (λ n. n) (take (r.source + 1) (sizes_in mid.sizes r.sources.files)) = omega (arith, sized, next, before_it) in
            subst (λ (x : List ℕ). r.earlier + size ≡ sum_by (λ n. n) (take (r.source + 1) (sizes_in x r.sources.files))) (sym same.0) sum);
        fits = (let a = k.fits in omega (arith, a, size_is));
        order = (let a = p.opened.order in let b = k.given_is in let c = k.is_open in omega (arith, a, b, c.within, size_is));
        few = p.opened.few;
        pieces = p.opened.pieces;
      };
      order = (let a = p.order in omega (arith, a));
      same = ap (λ (x : PiecesRead). passed_source (record x { current = None; source = r.source; earlier = r.earlier }) size) p.same;
      reads = subst (λ n. ReadsOnForPieces before old after n) to (reads_further before mid after old r t u.blocks.asked p k f.reads);
      still = λ end. absurd (
          let stands = (p.still end).0 in
          let one : r.source ≡ old.source = ap (λ (x : PiecesRead). x.source) stands in
          let two : length r.sources.files ≡ length old.sources.files = ap (λ (x : PiecesRead). length x.sources.files) stands in
          omega (arith, less, one, two, end)
          );
      told = λ s files had.
          let now = p.told s files had in
          let known = k.told s files now in
          let found = f.rows s known.0 now.within known.2 in
          let sized : size ≡ length known.0 = size_is ∙ known.2.given.read.size_is in
          let before_it : r.earlier ≡ sum_by length (take r.source files) = p.opened.earlier ∙ told_sum mid r.sources.files files r.source now.told in
          let order = p.opened.order in
          let given = k.given_is in
          let opened = k.is_open in
          let from : settled_to r - r.earlier ≡ given_to t.blocks = omega (arith, given) in
          let upto : r.earlier + size + 0 - r.earlier ≡ length known.0 = omega (arith, sized) in
          record {
            fit = now.fit;
            is = now.is;
            from_first = now.from_first;
            no_fault = now.no_fault;
            one_each = now.one_each;
            told = told_same mid after r.sources.files files same.0 same.1 now.told;
            earlier = now.earlier + now.within;
            rows_before = rows_next s files r.source known.0 now.earlier now.within known.1 now.rows_before found.0;
            within = 0;
            rows_within = refl;
            rows_are = (let a = now.rows_are in omega (arith, a));
            after_pieces = now.after_pieces;
            passed = between_further files r.source known.0 r.earlier r.given (settled_to r) (r.earlier + size + 0) known.1 before_it order (omega arith)
                (omega (arith, given, opened.within, size_is)) (omega (arith, sized)) now.passed
                (subst (λ n. IsUtf8 (slice_range known.0 n (r.earlier + size + 0 - r.earlier))) (sym from) (subst (λ n. IsUtf8 (slice_range known.0 (given_to t.blocks) n)) (sym upto) found.1));
          };
    }

-- rows were found
pub step_finds : (before mid after : Outside) (old r : PiecesRead) (t u : RowsRead) (stretch : RowStretch) → PassesFiles before old mid r → IsTaken mid r t → r.source < length r.sources.files
    → FindsRows r.sources mid t (Ok (Some stretch)) after u → FindsStretch before old stretch after (record r { current = Some u })
step_finds before mid after old r t u stretch p k less f =
    let same = after_sizes before mid after old r t u.blocks.asked p k f.reads in
    let place = f.place in
    let later = f.same in
    let given = k.given_is in
    let order = p.opened.order in
    let file : u.blocks.file ≡ k.file.0 = later.file ∙ k.file_is in
    record {
      opened = record {
        numbered = p.opened.numbered;
        within = p.opened.within;
        opened = λ source number is. subst (λ (x : List ℕ). number.0 < length x) (sym same.0) (p.opened.opened source number is);
        current = (f.file, k.is ∙ ap (λ n. Some (record { 0 = n })) (sym file), later.source ∙ k.source_is);
        earlier = subst (λ (x : List ℕ). r.earlier ≡ sum_by (λ n. n) (take r.source (sizes_in x r.sources.files))) (sym same.0) p.opened.earlier;
        fits = (let a = k.fits in let b = later.size in omega (arith, a, b));
        order = (let a = later.given in omega (arith, a, given, order));
        few = p.opened.few;
        pieces = p.opened.pieces;
      };
      same = ap (λ (x : PiecesRead). record x { current = Some u; source = r.source; earlier = r.earlier }) p.same;
      order = (let a = place.order in let b : r.given ≡ old.given = ap (λ (x : PiecesRead). x.given) p.same in omega (arith, a, b, given, order));
      end = (let a = place.end in omega (arith, a));
      some = place.some;
      few = place.few;
      more = some_left before mid old r p less;
      source = less;
      reads = reads_further before mid after old r t u.blocks.asked p k f.reads;
      told = λ s files had.
          let now = p.told s files had in
          let known = k.told s files now in
          let found = f.rows s known.0 now.within known.2 in
          let next = found.0 in
          let before_it : r.earlier ≡ sum_by length (take r.source files) = p.opened.earlier ∙ told_sum mid r.sources.files files r.source now.told in
          let from : settled_to r - r.earlier ≡ given_to t.blocks = omega (arith, given) in
          let upto : r.earlier + stretch.at - r.earlier ≡ stretch.at = omega arith in
          let within = begins_within s known.0 stretch.at now.within (inl (false, next.before)) in
          let low = next.order in
          record {
            had = had;
            bytes = known.0;
            is = known.1;
            earlier = now.earlier;
            rows_before = now.rows_before;
            within = now.within;
            rows_are = (let a = now.rows_are in let b : r.rows ≡ old.rows = ap (λ (x : PiecesRead). x.rows) p.same in omega (arith, a, b));
            from = given_to t.blocks;
            next = next;
            passed = (let b : r.given ≡ old.given = ap (λ (x : PiecesRead). x.given) p.same in
                subst (λ n. (number : ℕ) → IsUtf8 (bytes_between files number n (r.earlier + stretch.at))) b
                (between_further files r.source known.0 r.earlier r.given (settled_to r) (r.earlier + stretch.at) known.1 before_it order (omega arith)
                (omega (arith, given, low)) (omega (arith, within)) now.passed
                (subst (λ n. IsUtf8 (slice_range known.0 n (r.earlier + stretch.at - r.earlier))) (sym from) (subst (λ n. IsUtf8 (slice_range known.0 (given_to t.blocks) n)) (sym upto) next.passed))));
            current = u;
            current_is = refl;
            given = found.1;
          };
    }

-- all files were passed
pub step_ends : (before after : Outside) (old r : PiecesRead) → PassesFiles before old after r → (r.source < length r.sources.files → ⊥) → EndsFiles before old after r
step_ends before after old r p over =
    let within = p.opened.within in
    let all : r.source ≡ length r.sources.files = omega (arith, within, over) in
    record { passes = p; all = all; none = by r.current p.opened.current }
  where
    by : (current : Option RowsRead) → IsCurrent after r.sources r.source current → current ≡ None
    by None is = refl
    by (Some c) is = absurd (over (get_less r.sources.files r.source _ is.1))

-- what a step of the loop does, of a reader from which the file was taken out
taken_same : (o : Outside) (r new : PiecesRead) (t : RowsRead) → TakesCurrent o r t new → new.sources ≡ r.sources
taken_same o r new t takes = ap (λ (x : PiecesRead). x.sources) takes.left

pub finds_here : (before mid after : Outside) (old r new : PiecesRead) (t u : RowsRead) (stretch : RowStretch) (sources : FilesAsked) → PassesFiles before old mid r → TakesCurrent mid r t new
    → r.source < length r.sources.files → sources ≡ new.sources → FindsRows sources mid t (Ok (Some stretch)) after u → FindsStretch before old stretch after (record new { current = Some u })
finds_here before mid after old r new t u stretch sources p takes less same f =
    subst (λ (x : PiecesRead). FindsStretch before old stretch after (record x { current = Some u })) (sym takes.left)
    (step_finds before mid after old r t u stretch p (taken mid r t new p.opened takes) less
    (subst (λ (x : FilesAsked). FindsRows x mid t (Ok (Some stretch)) after u) (same ∙ taken_same mid r new t takes) f))

pub fails_here : (before mid after : Outside) (old r new : PiecesRead) (t u : RowsRead) (fault : Fault) (sources : FilesAsked) → PassesFiles before old mid r → TakesCurrent mid r t new
    → r.source < length r.sources.files → sources ≡ new.sources → FindsRows sources mid t (Err fault) after u → FailsToFind before old fault after new
fails_here before mid after old r new t u fault sources p takes less same f =
    step_fails before mid after old r new t u fault p (taken mid r t new p.opened takes) less
    (subst (λ (x : FilesAsked). FindsRows x mid t (Err fault) after u) (same ∙ taken_same mid r new t takes) f)
    (subst (λ (x : PiecesRead). AreSameGiven old x) (sym takes.left) (ap (λ (x : PiecesRead). record x { current = None; source = r.source; earlier = r.earlier }) p.same))

pub passes_here : (before mid after : Outside) (old r new last : PiecesRead) (t u : RowsRead) (sources : FilesAsked) (file : FileNo) → PassesFiles before old mid r → TakesCurrent mid r t new
    → r.source < length r.sources.files → sources ≡ new.sources → FindsRows sources mid t (Ok None) after u → slice_get new.sources.files new.source ≡ Some file
    → last ≡ passed_source new (slice_index after.sizes file.0) → PassesFiles before old after last
passes_here before mid after old r new last t u sources file p takes less same f is last_is =
    let k = taken mid r t new p.opened takes in
    let g : FindsRows r.sources mid t (Ok None) after u = subst (λ (x : FilesAsked). FindsRows x mid t (Ok None) after u) (same ∙ taken_same mid r new t takes) f in
    let sizes = after_sizes before mid after old r t u.blocks.asked p k g.reads in
    let there : slice_get r.sources.files r.source ≡ Some file = subst (λ (x : PiecesRead). slice_get x.sources.files x.source ≡ Some file) takes.left is in
    let file_is : file ≡ k.file = (let a = k.is in cc) in
    let size : slice_index after.sizes file.0 ≡ t.blocks.size = ap (λ (x : List ℕ). slice_index x file.0) sizes.0 ∙ ap (λ (x : FileNo). slice_index mid.sizes x.0) file_is ∙ sym k.size_is in
    subst (λ (x : PiecesRead). PassesFiles before old after x) (sym last_is)
    (subst (λ (x : PiecesRead). PassesFiles before old after (passed_source x (slice_index after.sizes file.0))) (sym takes.left)
    (step_passes before mid after old r t u (slice_index after.sizes file.0) p k less g size))

-- the file that is passed has room for its size
pub passed_fits : (before mid after : Outside) (old r new : PiecesRead) (t u : RowsRead) (sources : FilesAsked) (file : FileNo) → PassesFiles before old mid r → TakesCurrent mid r t new
    → sources ≡ new.sources → FindsRows sources mid t (Ok None) after u → slice_get new.sources.files new.source ≡ Some file
    → (file.0 < length after.sizes) × (new.earlier + slice_index after.sizes file.0 < 2 ^ 64)
passed_fits before mid after old r new t u sources file p takes same f is =
    let k = taken mid r t new p.opened takes in
    let g : FindsRows r.sources mid t (Ok None) after u = subst (λ (x : FilesAsked). FindsRows x mid t (Ok None) after u) (same ∙ taken_same mid r new t takes) f in
    let sizes = after_sizes before mid after old r t u.blocks.asked p k g.reads in
    let there : slice_get r.sources.files r.source ≡ Some file = subst (λ (x : PiecesRead). slice_get x.sources.files x.source ≡ Some file) takes.left is in
    let file_is : file ≡ k.file = (let a = k.is in cc) in
    let size : slice_index after.sizes file.0 ≡ t.blocks.size = ap (λ (x : List ℕ). slice_index x file.0) sizes.0 ∙ ap (λ (x : FileNo). slice_index mid.sizes x.0) file_is ∙ sym k.size_is in
    let earlier : new.earlier ≡ r.earlier = ap (λ (x : PiecesRead). x.earlier) takes.left in
    let fits = k.fits in (
      subst (λ (x : List ℕ). file.0 < length x) (sym sizes.0) (p.opened.opened r.source file there),
      omega (arith, size, earlier, fits),
    )
