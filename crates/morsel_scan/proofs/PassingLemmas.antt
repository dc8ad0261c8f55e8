-- A search for rows: block after block is passed while none has rows.
use Rattle.std.proofs.Common.{◌≡◌, ℕ, zero, suc, ◌+◌, ◌-◌, ◌<◌, ◌≤◌, ap, sym, subst, refl, ◌∙◌, inl, inr, arith}
use Rattle.std.proofs.lemmas.List.{drop-drop, drop_all, length-take-le, length-drop}
use Rattle.std.proofs.lemmas.Str.{IsUtf8-append, IsUtf8-nil}
use Rattle.std.specs.Prelude.{◌⊎◌, Bool, Option, Err, List, [], ◌∷◌, ◌++◌, length, take, drop, slice_range, IsUtf8}
use Rattle.std.specs.List.{flat_map}
use Rattle.morsel_meaning.specs.declared.fault.Fault.{Fault}
use Rattle.morsel_meaning.specs.declared.fault.Fault.TheVariants as faults
use Rattle.morsel_grammar.specs.Dialect.{Dialect, IsDialect}
use Rattle.morsel_grammar.specs.Grammar.{CsvRecord, Records}
use Rattle.morsel_grammar.specs.Rows.{behind_header}
use Rattle.morsel_grammar.specs.GrammarRows.{AreWholeRecords, awaits_header_after}
use Rattle.morsel_outside.specs.Outside.{Outside, with_more}
use Rattle.morsel_outside.specs.Actions.{Action, ReadingRange, FailedReadingRange, Does, opened_by}
use Rattle.morsel_outside.proofs.ActionLemmas.{with_more-nil, does-append}
use Rattle.morsel_outside.proofs.DoesLemmas.{does-nothing}
use Rattle.morsel_cut.specs.RowCounts.{row_count}
use Rattle.morsel_scan.specs.declared.reader.front.BlockFront.{BlockFront}
use Rattle.morsel_scan.specs.Scans.{CsvScan}
use Rattle.morsel_scan.specs.CsvPieces.{HaveRows, HasRowsUpTo}
use Rattle.morsel_scan.specs.FileReads.{IsTold, IsChunk, AreNextReads, text_at, HoldsNoRecord, ReadWithoutRecord}
use Rattle.morsel_scan.specs.Blocks.{BlocksRead, given_to, IsOpenFile, IsSameFile, IsReadOf, IsLastCut, IsBlock, IsBlockFault, HasFound, ReadsChunksOn, ReadsForBlock}
use Rattle.morsel_scan.specs.RowBlocks.{RowsRead, passed_to, IsLaterIn, HasRowsBeforePlace, HasRowsGiven, IsTextFaultOf, IsRowsFault, HoldsNoRow, ReadWithoutRow, IsToldFile, ReadsOnForRows, ReadsForRows}
use Rattle.morsel_scan.specs.BlockRows.{IsFrontOf}
use Rattle.morsel_scan.proofs.RowStretchLemmas.{slice-append, rows_further, rows_to_end}

-- lists of reads, one after the other
next_reads-append : (file size chunk from mid to : ℕ) (first later : List Action) → AreNextReads file size chunk from first mid → AreNextReads file size chunk mid later to
    → AreNextReads file size chunk from (first ++ later) to
next_reads-append file size chunk from mid to [] later are next = subst (λ (n : ℕ). AreNextReads file size chunk n later to) (sym are) next
next_reads-append file size chunk from mid to (ReadingRange number place some ∷ first) later are next =
    (are.0, are.1, are.2, next_reads-append file size chunk (from + some) mid to first later are.3 next)
next_reads-append file size chunk from mid to (action ∷ first) later are next = absurd are

without_row-append : (s : CsvScan) (bytes : List ℕ) (rows : ℕ) (first later : List Action) → ReadWithoutRow s bytes rows first → ReadWithoutRow s bytes rows later → ReadWithoutRow s bytes rows (first ++ later)
without_row-append s bytes rows [] later all next = next
without_row-append s bytes rows (ReadingRange number place some ∷ first) later all next = (all.0, without_row-append s bytes rows first later all.1 next)
without_row-append s bytes rows (action ∷ first) later all next = absurd all

-- where no record is held, no row is
without_row : (s : CsvScan) (bytes : List ℕ) (rows given : ℕ) (awaits_header : Bool) (reads : List Action) → HasRowsBeforePlace s bytes given rows awaits_header
    → ReadWithoutRecord s.options bytes given reads → ReadWithoutRow s bytes rows reads
without_row s bytes rows given awaits_header [] before all = tt
without_row s bytes rows given awaits_header (ReadingRange number place some ∷ reads) before all =
    (record { given = given; awaits_header = awaits_header; before = before; none_held = all.0 }, without_row s bytes rows given awaits_header reads before all.1)
without_row s bytes rows given awaits_header (action ∷ reads) before all = absurd all

no_reads_at_end : (s : CsvScan) (bytes : List ℕ) (rows file size chunk from to : ℕ) (reads : List Action) → AreNextReads file size chunk from reads to → size ≤ from → ReadWithoutRow s bytes rows reads
no_reads_at_end s bytes rows file size chunk from to [] are over = tt
no_reads_at_end s bytes rows file size chunk from to (ReadingRange number place some ∷ reads) are over = absurd (let c = are.2 in omega (arith, c.some, c.within))
no_reads_at_end s bytes rows file size chunk from to (action ∷ reads) are over = absurd are

opens_none : (file size chunk from to : ℕ) (reads : List Action) → AreNextReads file size chunk from reads to → flat_map opened_by reads ≡ []
opens_none file size chunk from to [] are = refl
opens_none file size chunk from to (ReadingRange number place some ∷ reads) are = opens_none file size chunk (from + some) to reads are.3
opens_none file size chunk from to (action ∷ reads) are = absurd are

-- the file of which rows are searched, and what was passed so far
pub record IsPassing (o : Dialect) (columns : ℕ) (before : Outside) (old : RowsRead) (chunk : ℕ) (now : Outside) (r : RowsRead) : Type 0 where
  pub is_open : IsOpenFile now r.blocks
  pub same : IsLaterIn old.blocks r.blocks
  pub reads : ReadsOnForRows o columns before old chunk now r.blocks.asked
  pub told : (s : CsvScan) (bytes : List ℕ) (rows : ℕ) → IsToldFile o columns s bytes rows before old
      → HasRowsGiven s bytes rows r × IsUtf8 (slice_range bytes (given_to old.blocks) (given_to r.blocks))

pub passes_from : (o : Dialect) (columns : ℕ) (before : Outside) (old : RowsRead) (chunk : ℕ) → IsOpenFile before old.blocks → IsPassing o columns before old chunk before old
passes_from o columns before old chunk opened = record {
  is_open = opened;
  same = record { file = refl; source = refl; size = refl; given = omega arith };
  reads = record { reads = []; are = refl; does = does-nothing before; in_need = λ s bytes rows told. tt };
  told = λ s bytes rows told.
      let none : given_to old.blocks - given_to old.blocks ≡ 0 = omega arith in
      (told.given, subst (λ (k : ℕ). IsUtf8 (take k (drop (given_to old.blocks) bytes))) (sym none) IsUtf8-nil);
}

-- what is told before is told at this moment
pub told_now : (o : Dialect) (columns : ℕ) (before now : Outside) (old r : RowsRead) (chunk : ℕ) (bytes : List ℕ) → IsPassing o columns before old chunk now r → IsTold before.held old.blocks.file bytes
    → IsTold now.held r.blocks.file bytes
told_now o columns before now old r chunk bytes p told =
    let none : flat_map opened_by p.reads.reads ≡ [] = opens_none old.blocks.file old.blocks.size chunk old.blocks.asked r.blocks.asked p.reads.reads p.reads.are in
    let held : now.held ≡ before.held = p.reads.does.held ∙ ap (with_more before.held) none ∙ with_more-nil before.held in
    subst (λ (n : ℕ). IsTold now.held n bytes) (sym p.same.file) (subst (λ (h : Option (List (List ℕ))). IsTold h old.blocks.file bytes) (sym held) told)

-- the reads of one search for a block more
in_need_now : (s : CsvScan) (bytes : List ℕ) (rows : ℕ) (r : RowsRead) (chunk to : ℕ) (reads : List Action) → HasRowsGiven s bytes rows r → length r.blocks.held ≤ r.blocks.asked
    → AreNextReads r.blocks.file r.blocks.size chunk r.blocks.asked reads to → ReadWithoutRecord s.options bytes (given_to r.blocks) reads → ReadWithoutRow s bytes rows reads
in_need_now s bytes rows r chunk to reads has within are all = by_before has.before
  where
    by_before : HasRowsBeforePlace s bytes (given_to r.blocks) rows r.awaits_header ⊎ ((given_to r.blocks ≡ length bytes) × HaveRows s (bytes ∷ []) rows) → ReadWithoutRow s bytes rows reads
    by_before (inl before) = without_row s bytes rows (given_to r.blocks) r.awaits_header reads before all
    by_before (inr end) = no_reads_at_end s bytes rows r.blocks.file r.blocks.size chunk r.blocks.asked to reads are (let sized = has.read.size_is in let at_end = end.0 in omega arith)

pub reads_on : (o : Dialect) (columns : ℕ) (before mid after : Outside) (old r : RowsRead) (chunk to : ℕ) → IsPassing o columns before old chunk mid r → ReadsChunksOn mid r.blocks chunk after to
    → ReadsOnForRows o columns before old chunk after to
reads_on o columns before mid after old r chunk to p f = record {
  reads = p.reads.reads ++ f.reads;
  are = next_reads-append old.blocks.file old.blocks.size chunk old.blocks.asked r.blocks.asked to p.reads.reads f.reads p.reads.are
      (subst (λ (n : ℕ). AreNextReads n old.blocks.size chunk r.blocks.asked f.reads to) p.same.file
      (subst (λ (n : ℕ). AreNextReads r.blocks.file n chunk r.blocks.asked f.reads to) p.same.size f.are));
  does = does-append before mid after p.reads.reads f.reads p.reads.does f.does;
  in_need = λ s bytes rows told.
      let now = (p.told s bytes rows told).0 in
      without_row-append s bytes rows p.reads.reads f.reads (p.reads.in_need s bytes rows told)
      (in_need_now s bytes rows r chunk to f.reads now p.is_open.held_within f.are
      (f.in_need s.options bytes told.fit now.read now.cut (told_now o columns before mid old r chunk bytes p told.told)));
}

-- a search for a block that failed
pub block_fault_reads : (o : Dialect) (columns : ℕ) (before mid after : Outside) (old r : RowsRead) (chunk : ℕ) (fault : Fault) (b : BlocksRead) (new : RowsRead) → IsPassing o columns before old chunk mid r
    → ReadsForBlock mid r.blocks chunk (Err fault) after b → ReadsForRows o columns before old chunk (Err fault) after new
block_fault_reads o columns before mid after old r chunk (faults.ReadFault number) b new p (is, f) = (
  is ∙ p.same.source,
  record {
    between = f.between;
    to = f.to;
    reads = reads_on o columns before mid f.between old r chunk f.to p f.reads;
    len = f.len;
    last = subst (λ (n : ℕ). IsChunk n chunk f.to f.len) p.same.size f.last;
    last_in_need = λ s bytes rows told.
        let now = (p.told s bytes rows told).0 in
        by_before s bytes rows now (f.last_in_need s.options bytes told.fit now.read now.cut (told_now o columns before mid old r chunk bytes p told.told)) now.before;
    fails = subst (λ (n : ℕ). Does f.between (FailedReadingRange n f.to f.len ∷ []) after) p.same.file f.fails;
  },
)
  where
    by_before : (s : CsvScan) (bytes : List ℕ) (rows : ℕ) → HasRowsGiven s bytes rows r → HoldsNoRecord s.options bytes (given_to r.blocks) f.to
        → HasRowsBeforePlace s bytes (given_to r.blocks) rows r.awaits_header ⊎ ((given_to r.blocks ≡ length bytes) × HaveRows s (bytes ∷ []) rows) → HoldsNoRow s bytes rows f.to
    by_before s bytes rows now none (inl start) = record { given = given_to r.blocks; awaits_header = r.awaits_header; before = start; none_held = none }
    by_before s bytes rows now none (inr end) =
        absurd (let sized = now.read.size_is in let at_end = end.0 in let l = f.last in omega (arith, l.some, l.within, reads_forward r.blocks.file r.blocks.size chunk r.blocks.asked f.to f.reads.reads f.reads.are, p.is_open.held_within))
      where
        reads_forward : (file size chunk from to : ℕ) (reads : List Action) → AreNextReads file size chunk from reads to → from ≤ to
        reads_forward file size chunk from to [] are = omega (arith, are)
        reads_forward file size chunk from to (ReadingRange number place some ∷ reads) are = omega (arith, reads_forward file size chunk (from + some) to reads are.3)
        reads_forward file size chunk from to (action ∷ reads) are = absurd are
block_fault_reads o columns before mid after old r chunk faults.OutOfMemory b new p (to, f) = (to, reads_on o columns before mid after old r chunk to p f)
block_fault_reads o columns before mid after old r chunk faults.WriteFault b new p (to, f) = (to, reads_on o columns before mid after old r chunk to p f)
block_fault_reads o columns before mid after old r chunk (faults.InvalidQuery why) b new p (to, f) = (to, reads_on o columns before mid after old r chunk to p f)
block_fault_reads o columns before mid after old r chunk (faults.Malformed number at) b new p (to, f) = (to, reads_on o columns before mid after old r chunk to p f)
block_fault_reads o columns before mid after old r chunk (faults.Unsupported number code) b new p (to, f) = (to, reads_on o columns before mid after old r chunk to p f)
block_fault_reads o columns before mid after old r chunk (faults.ColumnNotFound name) b new p (to, f) = (to, reads_on o columns before mid after old r chunk to p f)
block_fault_reads o columns before mid after old r chunk (faults.SchemaMismatch name) b new p (to, f) = (to, reads_on o columns before mid after old r chunk to p f)
block_fault_reads o columns before mid after old r chunk (faults.Duplicate name) b new p (to, f) = (to, reads_on o columns before mid after old r chunk to p f)
block_fault_reads o columns before mid after old r chunk (faults.ComputeError kind number at) b new p (to, f) = (to, reads_on o columns before mid after old r chunk to p f)
block_fault_reads o columns before mid after old r chunk faults.QueryText b new p (to, f) = (to, reads_on o columns before mid after old r chunk to p f)
block_fault_reads o columns before mid after old r chunk faults.Usage b new p (to, f) = (to, reads_on o columns before mid after old r chunk to p f)

pub text_fault_reads : (o : Dialect) (columns : ℕ) (before after : Outside) (old : RowsRead) (chunk source to : ℕ) (fault : Fault) (new : RowsRead) → IsTextFaultOf source fault
    → ReadsOnForRows o columns before old chunk after to → ReadsForRows o columns before old chunk (Err fault) after new
text_fault_reads o columns before after old chunk source to faults.OutOfMemory new is f = (to, f)
text_fault_reads o columns before after old chunk source to (faults.ComputeError kind number at) new is f = (to, f)
text_fault_reads o columns before after old chunk source to fault new is f = absurd is

-- the faults of blocks are faults of rows
pub block_fault_of_rows : (o : Dialect) (source number : ℕ) (bytes : List ℕ) (fault : Fault) → source ≡ number → IsBlockFault o source bytes fault → IsRowsFault o number bytes fault
block_fault_of_rows o source number bytes faults.OutOfMemory same is = tt
block_fault_of_rows o source number bytes (faults.ReadFault file) same is = is ∙ same
block_fault_of_rows o source number bytes (faults.Malformed file at) same is = (is.0 ∙ same, is.1)
block_fault_of_rows o source number bytes (faults.Unsupported file code) same is = (is.0 ∙ same, is.1)
block_fault_of_rows o source number bytes fault same is = absurd is

-- the place after a block
abbrev pub block_of : RowsRead → ℕ → List ℕ
block_of r len = take len r.blocks.held

pub given-passed : (r : RowsRead) (len : ℕ) (awaits_header : Bool) → len ≤ length r.blocks.held → length r.blocks.held ≤ r.blocks.asked
    → given_to (passed_to r len awaits_header).blocks ≡ given_to r.blocks + len
given-passed r len awaits_header within held = omega (arith, length-drop len r.blocks.held)

pub read-passed : (o : Dialect) (bytes : List ℕ) (r : RowsRead) (len : ℕ) (awaits_header : Bool) → len ≤ length r.blocks.held → length r.blocks.held ≤ r.blocks.asked → IsReadOf o bytes r.blocks
    → IsReadOf o bytes (passed_to r len awaits_header).blocks
read-passed o bytes r len awaits_header within held read = record {
  size_is = read.size_is;
  fed = read.fed;
  held_is = ap (drop len) read.held_is ∙ drop-drop len (given_to r.blocks) (take r.blocks.asked bytes)
      ∙ ap (λ (k : ℕ). drop k (take r.blocks.asked bytes)) (sym (given-passed r len awaits_header within held));
}

-- what a block that was found tells
pub record IsBlockIn (s : CsvScan) (bytes : List ℕ) (rows : ℕ) (r : RowsRead) (len : ℕ) : Type 0 where
  pub before : HasRowsBeforePlace s bytes (given_to r.blocks) rows r.awaits_header
  pub block : IsBlock s.options bytes (given_to r.blocks) (block_of r len)
  pub size : length (block_of r len) ≡ len

-- the rows up to the end of a block
after_block : (s : CsvScan) (columns : ℕ) (bytes : List ℕ) (rows : ℕ) (r : RowsRead) (len : ℕ) (front : BlockFront) → IsDialect s.options → (b : IsBlockIn s bytes rows r len)
    → length s.scan.fields ≡ columns → IsFrontOf s.options columns r.awaits_header (given_to r.blocks) (block_of r len) b.block.records front
    → HasRowsBeforePlace s bytes (given_to r.blocks + len) (rows + front.rows) front.awaits_header ⊎ ((given_to r.blocks + len ≡ length bytes) × HaveRows s (bytes ∷ []) (rows + front.rows))
after_block s columns bytes rows r len front fit b columns_are f = by_ends b.block.ends
  where
    given : ℕ
    given = given_to r.blocks

    count : rows + row_count (length s.scan.fields) (behind_header r.awaits_header b.block.records) ≡ rows + front.rows
    count = ap (λ (n : ℕ). rows + n) (ap (λ (c : ℕ). row_count c (behind_header r.awaits_header b.block.records)) columns_are ∙ sym f.rows_are)

    by_ends : AreWholeRecords s.options (text_at (given_to r.blocks) (block_of r len)) b.block.records ⊎ (given_to r.blocks + length (block_of r len) ≡ length bytes)
        → HasRowsBeforePlace s bytes (given_to r.blocks + len) (rows + front.rows) front.awaits_header ⊎ ((given_to r.blocks + len ≡ length bytes) × HaveRows s (bytes ∷ []) (rows + front.rows))
    by_ends (inl whole) =
        let place : given_to r.blocks + length (block_of r len) ≡ given_to r.blocks + len = ap (λ (n : ℕ). given_to r.blocks + n) b.size in
        let up_to = rows_further s bytes (block_of r len) (given_to r.blocks) rows r.awaits_header b.block.records fit b.before b.block.held b.block.mark whole in
        inl (inr (subst (λ (h : Bool). HasRowsUpTo s bytes (given_to r.blocks + len) (rows + front.rows) h) (sym f.awaits)
        (subst (λ (n : ℕ). HasRowsUpTo s bytes (given_to r.blocks + len) n (awaits_header_after r.awaits_header b.block.records)) count
        (subst (λ (n : ℕ). HasRowsUpTo s bytes n (rows + row_count (length s.scan.fields) (behind_header r.awaits_header b.block.records)) (awaits_header_after r.awaits_header b.block.records)) place up_to))))
    by_ends (inr end) =
        inr (
          ap (λ (n : ℕ). given_to r.blocks + n) (sym b.size) ∙ end,
          subst (λ (n : ℕ). HaveRows s (bytes ∷ []) n) count
              (rows_to_end s bytes (block_of r len) (given_to r.blocks) rows r.awaits_header b.block.records fit b.before b.block.held end b.block.mark b.block.split),
        )

pub given_after_block : (s : CsvScan) (columns : ℕ) (bytes : List ℕ) (rows : ℕ) (r : RowsRead) (len : ℕ) (front : BlockFront) → IsDialect s.options → (b : IsBlockIn s bytes rows r len)
    → length s.scan.fields ≡ columns → IsFrontOf s.options columns r.awaits_header (given_to r.blocks) (block_of r len) b.block.records front
    → len ≤ length r.blocks.held → length r.blocks.held ≤ r.blocks.asked → IsReadOf s.options bytes r.blocks → IsLastCut s.options bytes r.blocks.asked (given_to r.blocks + len)
    → HasRowsGiven s bytes (rows + front.rows) (passed_to r len front.awaits_header)
given_after_block s columns bytes rows r len front fit b columns_are f within held read cut =
    let place = given-passed r len front.awaits_header within held in
    record {
      read = read-passed s.options bytes r len front.awaits_header within held read;
      cut = subst (λ (n : ℕ). IsLastCut s.options bytes r.blocks.asked n) (sym place) cut;
      before = subst (λ (n : ℕ). HasRowsBeforePlace s bytes n (rows + front.rows) front.awaits_header ⊎ ((n ≡ length bytes) × HaveRows s (bytes ∷ []) (rows + front.rows))) (sym place)
          (after_block s columns bytes rows r len front fit b columns_are f);
    }

-- the block of a search
pub block_in : (s : CsvScan) (bytes : List ℕ) (rows len : ℕ) (r : RowsRead) (b : BlocksRead) → HasRowsGiven s bytes rows r → IsSameFile r.blocks b → len ≤ length b.held → 0 < len
    → HasFound s.options bytes (given_to r.blocks) len b → IsBlockIn s bytes rows (record { blocks = b; awaits_header = r.awaits_header }) len
block_in s bytes rows len r b has same within some found = by_before has.before
  where
    size : length (take len b.held) ≡ len
    size = length-take-le len b.held within

    by_before : HasRowsBeforePlace s bytes (given_to r.blocks) rows r.awaits_header ⊎ ((given_to r.blocks ≡ length bytes) × HaveRows s (bytes ∷ []) rows)
        → IsBlockIn s bytes rows (record { blocks = b; awaits_header = r.awaits_header }) len
    by_before (inl before) = record {
      before = subst (λ (n : ℕ). HasRowsBeforePlace s bytes n rows r.awaits_header) (sym same.given) before;
      block = subst (λ (n : ℕ). IsBlock s.options bytes n (take len b.held)) (sym same.given) (found.block some);
      size = size;
    }
    by_before (inr end) = absurd (past_end bytes (take len b.held) (given_to r.blocks) (found.block some) end.0)
      where
        past_end : (bytes block : List ℕ) (given : ℕ) → IsBlock s.options bytes given block → given ≡ length bytes → ⊥
        past_end bytes block given is end =
            let none : drop given bytes ≡ [] = drop_all given bytes (omega arith) in
            let nothing : length block ≡ 0 = ap length (sym is.held ∙ ap (take (given + length block - given)) none ∙ take_nothing (given + length block - given)) in
            omega (arith, is.some)
          where
            take_nothing : (n : ℕ) → take {A = ℕ} n [] ≡ []
            take_nothing zero = refl
            take_nothing (suc n) = refl

-- a block without rows
pub passes_on : (o : Dialect) (columns : ℕ) (before mid after : Outside) (old r : RowsRead) (chunk len : ℕ) (b : BlocksRead) (front : BlockFront) → IsDialect o → IsPassing o columns before old chunk mid r
    → IsOpenFile after b → IsSameFile r.blocks b → len ≤ length b.held → ReadsChunksOn mid r.blocks chunk after b.asked
    → ((o : Dialect) (bytes : List ℕ) → IsDialect o → IsReadOf o bytes r.blocks → IsLastCut o bytes r.blocks.asked (given_to r.blocks) → IsTold mid.held r.blocks.file bytes → HasFound o bytes (given_to r.blocks) len b)
    → 0 < len → ((records : List CsvRecord) → Records o (text_at (given_to b) (take len b.held)) records → IsFrontOf o columns r.awaits_header (given_to b) (take len b.held) records front)
    → front.rows ≡ 0 → IsPassing o columns before old chunk after (passed_to (record { blocks = b; awaits_header = r.awaits_header }) len front.awaits_header)
passes_on o columns before mid after old r chunk len b front fit p opened same within reads found some is_front none =
    let next : RowsRead = record { blocks = b; awaits_header = r.awaits_header } in
    let place = given-passed next len front.awaits_header within opened.held_within in
    record {
      is_open = record {
        opened = opened.opened;
        size_is = opened.size_is;
        within = opened.within;
        held_within = omega (arith, length-drop len b.held, opened.held_within);
        fed = opened.fed;
        source_is = opened.source_is;
        fits = opened.fits;
      };
      same = record {
        file = same.file ∙ p.same.file;
        source = same.source ∙ p.same.source;
        size = same.size ∙ p.same.size;
        given = let g = p.same.given in let s = same.given in omega (arith, place);
      };
      reads = reads_on o columns before mid after old r chunk b.asked p reads;
      told = λ s bytes rows told. passed s bytes rows told place;
    }
  where
    passed : (s : CsvScan) (bytes : List ℕ) (rows : ℕ) → IsToldFile o columns s bytes rows before old
        → given_to (passed_to (record { blocks = b; awaits_header = r.awaits_header }) len front.awaits_header).blocks ≡ given_to b + len
        → HasRowsGiven s bytes rows (passed_to (record { blocks = b; awaits_header = r.awaits_header }) len front.awaits_header)
        × IsUtf8 (slice_range bytes (given_to old.blocks) (given_to (passed_to (record { blocks = b; awaits_header = r.awaits_header }) len front.awaits_header).blocks))
    passed s bytes rows told place =
        let now = p.told s bytes rows told in
        let next : RowsRead = record { blocks = b; awaits_header = r.awaits_header } in
        let f = found s.options bytes told.fit now.0.read now.0.cut (told_now o columns before mid old r chunk bytes p told.told) in
        let block = block_in s bytes rows len r b now.0 same within some f in
        let split : Records o (text_at (given_to b) (take len b.held)) block.block.records = subst (λ (q : Dialect). Records q (text_at (given_to b) (take len b.held)) block.block.records) told.options block.block.split in
        let fr = is_front block.block.records split in
        let fr_s : IsFrontOf s.options columns r.awaits_header (given_to b) (take len b.held) block.block.records front =
        subst (λ (q : Dialect). IsFrontOf q columns r.awaits_header (given_to b) (take len b.held) block.block.records front) (sym told.options) fr in
        let cut : IsLastCut s.options bytes b.asked (given_to b + len) = subst (λ (n : ℕ). IsLastCut s.options bytes b.asked (n + len)) (sym same.given) f.cut in
        let given = given_after_block s columns bytes rows next len front told.fit block told.columns_are fr_s within opened.held_within f.read cut in
        let rows_same : rows + front.rows ≡ rows = omega arith in
        let to : given_to b + length (take len b.held) ≡ given_to b + len = ap (λ (n : ℕ). given_to b + n) block.size in
        let utf8 : IsUtf8 (slice_range bytes (given_to b) (given_to b + len)) =
        subst (λ (n : ℕ). IsUtf8 (slice_range bytes (given_to b) n)) to (subst IsUtf8 (sym block.block.held) (fr.all_utf8 none)) in
        let first : IsUtf8 (slice_range bytes (given_to old.blocks) (given_to b)) = subst (λ (n : ℕ). IsUtf8 (slice_range bytes (given_to old.blocks) n)) (sym same.given) now.1 in
        let order : given_to old.blocks ≤ given_to b = let g = p.same.given in let s = same.given in omega arith in (
          subst (λ (n : ℕ). HasRowsGiven s bytes n (passed_to next len front.awaits_header)) rows_same given,
          subst (λ (n : ℕ). IsUtf8 (slice_range bytes (given_to old.blocks) n)) (sym place)
              (subst IsUtf8 (slice-append bytes (given_to old.blocks) (given_to b) (given_to b + len) order (omega arith))
              (IsUtf8-append (slice_range bytes (given_to old.blocks) (given_to b)) (slice_range bytes (given_to b) (given_to b + len)) first utf8)),
        )
