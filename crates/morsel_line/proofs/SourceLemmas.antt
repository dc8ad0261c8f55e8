-- The reader of a scan's files as what a line is fed from.
use Rattle.std.proofs.Common.{◌≡◌, ℕ, zero, suc, ◌+◌, ◌≤◌, ap, sym, subst, refl, ◌∙◌, inr, arith}
use Rattle.std.proofs.lemmas.Bool.{eq-eqb}
use Rattle.std.proofs.lemmas.List.Sums.{sum_by-take-le, sum_by_more_le}
use Rattle.morsel_read.proofs.SourceLemmas.{get_less, size_at, sizes_len}
use Rattle.std.specs.Prelude.{Bool, true, false, ◌||◌, nat_eq, Option, Some, None, Result, Ok, Err, OnOk, IfOk, IfErr, if◌then◌else◌, List, [], ◌∷◌, ◌++◌, map, length, take, get_or, slice_get}
use Rattle.std.specs.List.{flat_map, sum_by, list_any}
use Rattle.morsel_meaning.specs.declared.fault.Fault.{Fault}
use Rattle.morsel_meaning.specs.declared.fault.Fault.TheVariants as faults
use Rattle.morsel_outside.specs.declared.events.IoEvent.{IoEvent}
use Rattle.morsel_outside.specs.Outside.{Outside}
use Rattle.morsel_outside.specs.declared.io.FileNo.{FileNo}
use Rattle.morsel_outside.specs.Actions.{Action, ReadingRange, FailedReadingRange, Does, event_of, read_failures}
use Rattle.morsel_outside.proofs.ActionLemmas.{does-append}
use Rattle.morsel_outside.proofs.DoesLemmas.{does-nothing}
use Rattle.morsel_pipe.specs.Pieces.{Piece}
use Rattle.morsel_scan.specs.CsvPieces.{IsPieceOf}
use Rattle.morsel_scan.specs.Ahead.{IsNextRead, EndsNoRow, is_source, Seeks, asked_up_to, asked_after}
use Rattle.morsel_scan.specs.RowBlocks.{RowsRead}
use Rattle.morsel_read.specs.ScanReads.{FilesAsked, PiecesRead, asked_to, settled_within, sizes_in, AreOpen, AreTold, HasGivenRows, IsCurrent, SuitsPieces}
use Rattle.morsel_read.specs.PieceReads.{IsNextChunk, AreNextChunks, EndsNoRowOf, AreInNeed, ReadsOnForPieces, FailsToReadForPieces, ReadsUpToFault, ReadsForPieces, IsPiecesFault, IsScanEnd, GivesNumbered, FindsPiece}
use Rattle.morsel_drive.specs.Lines.{Each, IsReading, IsDue, GivesFitting, GivesNext, SeeksFor, ReadsFor}
use Rattle.morsel_line.specs.Jobs.{Job}
use Rattle.morsel_line.specs.ScanJobs.{job_axis, IsJobPiece, IsJobEnd, IsJobFault}
use Rattle.morsel_line.specs.ScanSources.{opened_as, AskNextChunks, DidRead, ReadsJob}
use Rattle.morsel_line.specs.SourceLaws.{ask-append, did_nothing}

-- what was read is what was asked
chunks_asked : (files : List FileNo) (sizes : List ℕ) (chunk from to : ℕ) (reads : List Action) → AreNextChunks files sizes chunk from reads to → AskNextChunks files sizes chunk from reads to
chunks_asked files sizes chunk from to [] are = are
chunks_asked files sizes chunk from to (ReadingRange file at len ∷ reads) are = (are.0, chunks_asked files sizes chunk (from + len) to reads are.1)
chunks_asked files sizes chunk from to (action ∷ reads) are = absurd are

chunks_read : (files : List FileNo) (sizes : List ℕ) (chunk from to : ℕ) (reads : List Action) → AreNextChunks files sizes chunk from reads to → Each IsReading reads
chunks_read files sizes chunk from to [] are = tt
chunks_read files sizes chunk from to (ReadingRange file at len ∷ reads) are = (tt, chunks_read files sizes chunk (from + len) to reads are.1)
chunks_read files sizes chunk from to (action ∷ reads) are = absurd are

-- none of the next chunks failed
chunks_fine : (files : List FileNo) (sizes : List ℕ) (chunk from to : ℕ) (reads : List Action) → AreNextChunks files sizes chunk from reads to → sum_by read_failures reads ≡ 0
chunks_fine files sizes chunk from to [] are = refl
chunks_fine files sizes chunk from to (ReadingRange file at len ∷ reads) are = chunks_fine files sizes chunk (from + len) to reads are.1
chunks_fine files sizes chunk from to (action ∷ reads) are = absurd are

each-last : (reads : List Action) (file at len : ℕ) → Each IsReading reads → Each IsReading (reads ++ FailedReadingRange file at len ∷ [])
each-last [] file at len are = (tt, tt)
each-last (action ∷ reads) file at len are = (are.0, each-last reads file at len are.1)

ask-last : (files : List FileNo) (sizes : List ℕ) (chunk from to file at len : ℕ) (reads : List Action) → AreNextChunks files sizes chunk from reads to → IsNextChunk files sizes chunk to file at len
    → AskNextChunks files sizes chunk from (reads ++ FailedReadingRange file at len ∷ []) (to + len)
ask-last files sizes chunk from to file at len reads are last =
    ask-append files sizes chunk from to (to + len) reads (FailedReadingRange file at len ∷ []) (chunks_asked files sizes chunk from to reads are) (last, refl)

pub number_at : (files : List FileNo) (n file : ℕ) → slice_get files n ≡ Some (record { 0 = file }) → slice_get (opened_as files) n ≡ Some file
number_at [] n file is = absurd (cc)
number_at (first ∷ files) zero file is = let same : first ≡ record { 0 = file } = cc in ap (λ (x : FileNo). Some x.0) same
number_at (first ∷ files) (suc n) file is = number_at files n file is

pub any_at : (xs : List ℕ) (n file : ℕ) → slice_get xs n ≡ Some file → list_any (nat_eq file) xs ≡ true
any_at [] n file is = absurd (cc)
any_at (x ∷ xs) zero file is = let same : x ≡ file = cc in ap (λ t. t || list_any (nat_eq file) xs) (eq-eqb file x (sym same))
any_at (x ∷ xs) (suc n) file is = ap (λ t. nat_eq file x || t) (any_at xs n file is) ∙ or_true (nat_eq file x)
  where
    or_true : (t : Bool) → (t || true) ≡ true
    or_true true = refl
    or_true false = refl

sizes_told : (o : Outside) (numbers : List FileNo) (files : List (List ℕ)) → AreTold o numbers files → sizes_in o.sizes numbers ≡ map (λ (bytes : List ℕ). length bytes) files
sizes_told o [] [] told = refl
sizes_told o [] (bytes ∷ files) told = absurd told
sizes_told o (file ∷ numbers) [] told = absurd told
sizes_told o (file ∷ numbers) (bytes ∷ files) told = ap (λ n. n ∷ sizes_in o.sizes numbers) told.1 ∙ ap (λ (x : List ℕ). length bytes ∷ x) (sizes_told o numbers files told.2)

-- a read of the next chunk is one of the axis
next_read : (r : PiecesRead) (job : Job) (o : Outside) (asked file at len : ℕ) → ReadsJob r job o → IsNextChunk r.sources.files (sizes_in o.sizes r.sources.files) r.sources.chunk asked file at len
    → IsNextRead (job_axis job) asked file at len × (len ≤ r.sources.chunk) × (is_source (job_axis job) file ≡ true)
next_read r job o asked file at len reads next =
    let there : slice_get job.opened next.source ≡ Some file = subst (λ (x : List ℕ). slice_get x next.source ≡ Some file) reads.opened (number_at r.sources.files next.source file next.is) in
    let sizes : sizes_in o.sizes r.sources.files ≡ map (λ (bytes : List ℕ). length bytes) job.files = sizes_told o r.sources.files job.files reads.given.told in
    let chunk = next.within in (
      record {
        source = next.source;
        is = there;
        next = subst (λ (x : List ℕ). asked ≡ sum_by (λ n. n) (take next.source x) + at) sizes next.next;
        within = subst (λ (x : List ℕ). at + len ≤ get_or x next.source 0) sizes chunk.within;
      },
      chunk.few,
      any_at job.opened next.source file there,
    )

-- no row ends at a place of the axis where none ends in the files
no_row : (r : PiecesRead) (job : Job) (o : Outside) (given asked : ℕ) → ReadsJob r job o → EndsNoRowOf job.scan r.sources.first r.sources.names job.files given asked → EndsNoRow (job_axis job) given asked
no_row r job o given asked reads none =
    subst (λ n. EndsNoRowOf job.scan n job.names job.files given asked) reads.first
    (subst (λ (x : List (List ℕ)). EndsNoRowOf job.scan r.sources.first x job.files given asked) reads.names none)

-- reads in need search for a piece
seeks : (r : PiecesRead) (job : Job) (o : Outside) (given asked to : ℕ) (actions : List Action) → ReadsJob r job o
    → AreNextChunks r.sources.files (sizes_in o.sizes r.sources.files) r.sources.chunk asked actions to → AreInNeed job.scan r.sources.first r.sources.names job.files given asked actions
    → Seeks (job_axis job) r.sources.chunk given asked (flat_map event_of actions) × (asked_up_to (job_axis job) asked (flat_map event_of actions) ≡ to)
seeks r job o given asked to [] reads are need = (tt, are)
seeks r job o given asked to (ReadingRange file at len ∷ actions) reads (next, later) (none, needs) =
    let one = next_read r job o asked file at len reads next in
    let more = seeks r job o given (asked + len) to actions reads later needs in (
      (one.0, one.1, no_row r job o given asked reads none, one.2, more.0),
      (let same : asked_after (job_axis job) asked file len ≡ asked + len = ap (λ t. if t then asked + len else asked) one.2 in
          ap (λ n. asked_up_to (job_axis job) n (flat_map event_of actions)) same ∙ more.1),
    )
seeks r job o given asked to (action ∷ actions) reads are need = absurd are

-- the same, and then a read that fails
seeks-last : (r : PiecesRead) (job : Job) (o : Outside) (given asked to file at len : ℕ) (actions : List Action) → ReadsJob r job o
    → AreNextChunks r.sources.files (sizes_in o.sizes r.sources.files) r.sources.chunk asked actions to → AreInNeed job.scan r.sources.first r.sources.names job.files given asked actions
    → IsNextChunk r.sources.files (sizes_in o.sizes r.sources.files) r.sources.chunk to file at len → EndsNoRowOf job.scan r.sources.first r.sources.names job.files given to
    → Seeks (job_axis job) r.sources.chunk given asked (flat_map event_of (actions ++ FailedReadingRange file at len ∷ []))
seeks-last r job o given asked to file at len [] reads are need next none =
    let one = next_read r job o to file at len reads next in
    subst (λ n. Seeks (job_axis job) r.sources.chunk given n (flat_map event_of (FailedReadingRange file at len ∷ []))) (sym are) (one.0, one.1, no_row r job o given to reads none, one.2, tt)
seeks-last r job o given asked to file at len (ReadingRange number place some ∷ actions) reads (first, later) (before, needs) next none =
    let one = next_read r job o asked number place some reads first in
    (one.0, one.1, no_row r job o given asked reads before, one.2, seeks-last r job o given (asked + some) to file at len actions reads later needs next none)
seeks-last r job o given asked to file at len (action ∷ actions) reads are need next none = absurd are

-- what is told of the reads of a search
abbrev pub SoughtFor : PiecesRead → Result (Option Piece) Fault → PiecesRead → Outside → List IoEvent → Type 0
SoughtFor old result new o events = (job : Job) → ReadsJob old job o → SeeksFor (job_axis job) old.sources.chunk old.given (asked_to old) result (asked_to new) events

reads_well : (before after : Outside) (old new : PiecesRead) (found : Option Piece) → old.fault ≡ None → new.sources ≡ old.sources → new.fault ≡ None → ReadsOnForPieces before old after (asked_to new)
    → ReadsFor (DidRead old new before.sizes) (SoughtFor old (Ok found) new before) before after
reads_well before after old new found none same still r = record {
  reads = r.reads;
  does = r.does;
  are = chunks_read old.sources.files (sizes_in before.sizes old.sources.files) old.sources.chunk (asked_to old) (asked_to new) r.reads r.are;
  did_them = record {
    same = same;
    to = asked_to new;
    are = chunks_asked old.sources.files (sizes_in before.sizes old.sources.files) old.sources.chunk (asked_to old) (asked_to new) r.reads r.are;
    there = λ is. refl;
    fine = λ is. chunks_fine old.sources.files (sizes_in before.sizes old.sources.files) old.sources.chunk (asked_to old) (asked_to new) r.reads r.are;
    failed = λ start number is. absurd (let both : None ≡ Some (faults.ReadFault number) = sym still ∙ is in cc);
    after_fault = λ fault is. absurd (let both : None ≡ Some fault = sym none ∙ is in cc);
  };
  sought_them = λ job reads. seeks old job before old.given (asked_to old) (asked_to new) r.reads reads r.are (r.in_need job.scan job.files reads.given);
}

reads_to : (before after : Outside) (old new : PiecesRead) (fault : Fault) (to : ℕ) → ((number : ℕ) → fault ≡ faults.ReadFault number → ⊥) → old.fault ≡ None → new.sources ≡ old.sources → new.fault ≡ Some fault → ReadsOnForPieces before old after to
    → ReadsFor (DidRead old new before.sizes) (SoughtFor old (Err fault) new before) before after
reads_to before after old new fault to other_kind none same failed r = record {
  reads = r.reads;
  does = r.does;
  are = chunks_read old.sources.files (sizes_in before.sizes old.sources.files) old.sources.chunk (asked_to old) to r.reads r.are;
  did_them = record {
    same = same;
    to = to;
    are = chunks_asked old.sources.files (sizes_in before.sizes old.sources.files) old.sources.chunk (asked_to old) to r.reads r.are;
    there = λ is. absurd (let both : None ≡ Some fault = sym is ∙ failed in cc);
    fine = λ is. absurd (let both : None ≡ Some fault = sym is ∙ failed in cc);
    failed = λ start number is. absurd (other_kind number (let both : Some fault ≡ Some (faults.ReadFault number) = sym failed ∙ is in cc));
    after_fault = λ other is. absurd (let both : None ≡ Some other = sym none ∙ is in cc);
  };
  sought_them = λ job reads. ((seeks old job before old.given (asked_to old) to r.reads reads r.are (r.in_need job.scan job.files reads.given)).0, tt);
}

-- a read fault tells one number
same_number : (one two : ℕ) → faults.ReadFault one ≡ faults.ReadFault two → one ≡ two
same_number one two is = cc

reads_fail : (before after : Outside) (old new : PiecesRead) (fault : Fault) (number : ℕ) → fault ≡ faults.ReadFault number → old.fault ≡ None → new.sources ≡ old.sources → new.fault ≡ Some fault
    → FailsToReadForPieces before old after number → ReadsFor (DidRead old new before.sizes) (SoughtFor old (Err fault) new before) before after
reads_fail before after old new fault number kind none same failed f =
    let r = f.reads in
    let all : List Action = r.reads ++ FailedReadingRange f.file f.at f.len ∷ [] in
    record {
      reads = all;
      does = does-append before f.between after r.reads (FailedReadingRange f.file f.at f.len ∷ []) r.does f.fails;
      are = each-last r.reads f.file f.at f.len (chunks_read old.sources.files (sizes_in before.sizes old.sources.files) old.sources.chunk (asked_to old) f.to r.reads r.are);
      did_them = record {
        same = same;
        to = f.to + f.len;
        are = ask-last old.sources.files (sizes_in before.sizes old.sources.files) old.sources.chunk (asked_to old) f.to f.file f.at f.len r.reads r.are f.last;
        there = λ is. absurd (let both : None ≡ Some fault = sym is ∙ failed in cc);
        fine = λ is. absurd (let both : None ≡ Some fault = sym is ∙ failed in cc);
        failed = λ start other is. record {
          before = r.reads;
          source = f.last.source;
          file = f.file;
          at = f.at;
          len = f.len;
          is = f.last.is;
          number_is = (let both : Some fault ≡ Some (faults.ReadFault other) = sym failed ∙ is in
              let one : fault ≡ faults.ReadFault other = cc in let two : other ≡ number = same_number other number (sym one ∙ kind) in two ∙ f.number_is);
          split = refl;
        };
        after_fault = λ other is. absurd (let both : None ≡ Some other = sym none ∙ is in cc);
      };
      sought_them = λ job reads. (
        seeks-last old job before old.given (asked_to old) f.to f.file f.at f.len r.reads reads r.are (r.in_need job.scan job.files reads.given) f.last
            (f.last_in_need job.scan job.files reads.given),
        tt,
      );
    }

reads_fault : (before after : Outside) (old new : PiecesRead) (fault : Fault) → old.fault ≡ None → new.sources ≡ old.sources → new.fault ≡ Some fault → ReadsUpToFault before old fault after
    → ReadsFor (DidRead old new before.sizes) (SoughtFor old (Err fault) new before) before after
reads_fault before after old new (faults.ReadFault number) none same failed r = reads_fail before after old new (faults.ReadFault number) number refl none same failed r
reads_fault before after old new fault none same failed r = reads_to before after old new fault r.0 (λ number is. cc) none same failed r.1

-- what a call for a piece did
pub reads_for : (before after : Outside) (old new : PiecesRead) (result : Result (Option Piece) Fault) → new.sources ≡ old.sources
    → ((fault : Fault) → old.fault ≡ Some fault → (result ≡ Err fault) × (new ≡ old) × (after ≡ before)) → IfErr result (λ fault. new.fault ≡ Some fault) → OnOk result (new.fault ≡ None)
    → (old.fault ≡ None → ReadsForPieces before old result after new) → ReadsFor (DidRead old new before.sizes) (SoughtFor old result new before) before after
reads_for before after old new result same again latched still r = by old.fault refl
  where
    here : (result : Result (Option Piece) Fault) → IfErr result (λ fault. new.fault ≡ Some fault) → OnOk result (new.fault ≡ None) → old.fault ≡ None → ReadsForPieces before old result after new
        → ReadsFor (DidRead old new before.sizes) (SoughtFor old result new before) before after
    here (Ok found) latched still none r = reads_well before after old new found none same still r
    here (Err fault) latched still none r = reads_fault before after old new fault none same latched r

    by : (fault : Option Fault) → old.fault ≡ fault → ReadsFor (DidRead old new before.sizes) (SoughtFor old result new before) before after
    by None none = here result latched still none (r none)
    by (Some fault) some =
        let stands = again fault some in
        record {
          reads = [];
          does = subst (λ (o : Outside). Does before [] o) (sym stands.2) (does-nothing before);
          are = tt;
          did_them = subst (λ (x : PiecesRead). DidRead old x before.sizes []) (sym stands.1) (did_nothing old before.sizes);
          sought_them = λ job reads. subst (λ (x : Result (Option Piece) Fault). SeeksFor (job_axis job) old.sources.chunk old.given (asked_to old) x (asked_to new) []) (sym stands.0) (tt, tt);
        }

-- the piece can be decoded
pub gives_fitting : (old new : PiecesRead) (result : Result (Option Piece) Fault) → IfOk result (λ found. GivesNumbered old found new) → GivesFitting result
gives_fitting old new (Ok (Some piece)) numbered = numbered.fits
gives_fitting old new (Ok None) numbered = tt
gives_fitting old new (Err fault) numbered = tt

reads_still : (s : PiecesRead) (new : PiecesRead) (job : Job) (before after : Outside) → ReadsJob s job before → new.sources ≡ s.sources → HasGivenRows job.scan job.files after new → ReadsJob new job after
reads_still s new job before after reads same given = record {
  given = given;
  names = ap (λ (x : FilesAsked). x.names) same ∙ reads.names;
  first = ap (λ (x : FilesAsked). x.first) same ∙ reads.first;
  opened = ap (λ (x : FilesAsked). opened_as x.files) same ∙ reads.opened;
}

due_fault : (job : Job) (asked : ℕ) (fault : Fault) → IsPiecesFault job.scan job.first job.files asked fault → IsDue (IsJobFault job) fault
due_fault job asked faults.OutOfMemory is = tt
due_fault job asked (faults.ReadFault number) is = tt
due_fault job asked faults.WriteFault is = tt
due_fault job asked fault is = inr (asked, is)

-- what is told of the piece, of the end, or of the fault
pub gives_next : (before after : Outside) (old new : PiecesRead) (result : Result (Option Piece) Fault) (job : Job) → new.sources ≡ old.sources → IfOk result (λ found. GivesNumbered old found new)
    → ReadsJob old job before → FindsPiece job.scan job.files old result after new
    → GivesNext (IsJobPiece job) (IsJobFault job) (IsJobEnd job) (ReadsJob new job after) old.given result new.given (asked_to new)
gives_next before after old new (Ok (Some piece)) job same numbered reads finds = (
  subst (λ n. IsPieceOf job.scan n job.names job.files piece) reads.first
      (subst (λ (x : List (List ℕ)). IsPieceOf job.scan old.sources.first x job.files piece) reads.names finds.0),
  numbered.from,
  numbered.to,
  reads_still old new job before after reads same finds.1,
)
gives_next before after old new (Ok None) job same numbered reads finds = (
  numbered.0,
  subst (λ n. IsScanEnd job.scan n job.names job.files new.given (asked_to new)) reads.first
      (subst (λ (x : List (List ℕ)). IsScanEnd job.scan old.sources.first x job.files new.given (asked_to new)) reads.names finds.0),
  reads_still old new job before after reads same finds.1,
)
gives_next before after old new (Err fault) job same numbered reads finds =
    due_fault job (asked_to new) fault (subst (λ n. IsPiecesFault job.scan n job.files (asked_to new) fault) reads.first finds)

-- what was given is within the files
within_files : (o : Outside) (r : PiecesRead) → AreOpen o r → r.given ≤ sum_by (λ n. n) (sizes_in o.sizes r.sources.files)
within_files o r opened = by r.current opened.current opened.order
  where
    total : ℕ
    total = sum_by (λ n. n) (sizes_in o.sizes r.sources.files)

    by : (current : Option RowsRead) → IsCurrent o r.sources r.source current → r.given ≤ r.earlier + settled_within current → r.given ≤ total
    by None is order =
        let front = sum_by-take-le (λ n. n) (sizes_in o.sizes r.sources.files) r.source in let earlier = opened.earlier in omega (arith, front, earlier, order)
    by (Some c) is order =
        let less = get_less r.sources.files r.source _ is.1 in
        let len = sizes_len o r.sources.files in
        let size = size_at o r.sources.files r.source _ is.1 in
        let size_is = is.0.size_is in
        let all = sum_by_more_le (λ n. n) (sizes_in o.sizes r.sources.files) r.source 0 (omega (arith, less, len)) in
        let earlier = opened.earlier in
        let asked = is.0.within in
        let file : c.blocks.file ≡ c.blocks.file = refl in
        omega (arith, size, size_is, all, earlier, asked, order, len, less, file)

-- so it is after a search that went well
pub given_within : (before after : Outside) (old new : PiecesRead) (result : Result (Option Piece) Fault) → new.sources ≡ old.sources → after.sizes ≡ before.sizes → SuitsPieces after new
    → OnOk result (new.fault ≡ None) → OnOk result (new.given ≤ sum_by (λ n. n) (sizes_in before.sizes old.sources.files))
given_within before after old new (Ok found) same sized suits none =
    subst (λ (x : List ℕ). new.given ≤ sum_by (λ n. n) (sizes_in x old.sources.files)) sized
    (subst (λ (x : FilesAsked). new.given ≤ sum_by (λ n. n) (sizes_in after.sizes x.files)) same (within_files after new (suits.opened none)))
given_within before after old new (Err fault) same sized suits none = tt
