-- The end of a search for rows: a stretch of records, or none, or a fault.
use Rattle.std.proofs.Common.{◌≡◌, ℕ, zero, suc, ◌+◌, ◌-◌, ◌<◌, ◌≤◌, ap, sym, subst, refl, ◌∙◌, inl, inr, arith, length-append}
use Rattle.std.proofs.lemmas.List.{take-append-drop, drop-drop, drop-take, drop_all, drop_at, length-take-le, length-drop, take-take, append_cancel_left}
use Rattle.std.proofs.lemmas.Str.{IsUtf8-append}
use Rattle.std.specs.Prelude.{◌⊎◌, Bool, false, List, [], ◌∷◌, ◌++◌, length, take, drop, slice_range, IsUtf8}
use Rattle.morsel_meaning.specs.declared.fault.Fault.{Fault}
use Rattle.morsel_meaning.specs.declared.fault.Fault.TheVariants as faults
use Rattle.morsel_meaning.specs.declared.fault.ComputeKind.TheVariants as kinds
use Rattle.morsel_grammar.specs.Dialect.{Dialect, IsDialect}
use Rattle.morsel_grammar.specs.Grammar.{CsvRecord, Records}
use Rattle.morsel_grammar.specs.Rows.{mark_len, unmarked, behind_header}
use Rattle.morsel_grammar.specs.GrammarRows.{AreWholeRecords, awaits_header_after}
use Rattle.morsel_outside.specs.Outside.{Outside}
use Rattle.morsel_cut.specs.RowCounts.{row_count}
use Rattle.morsel_scan.specs.declared.reader.front.BlockFront.{BlockFront}
use Rattle.morsel_scan.specs.Scans.{CsvScan}
use Rattle.morsel_scan.specs.CsvPieces.{HaveRows, HasRowsUpTo}
use Rattle.morsel_scan.specs.FileReads.{IsTold, text_at}
use Rattle.morsel_scan.specs.Blocks.{BlocksRead, given_to, IsOpenFile, IsSameFile, IsReadOf, IsLastCut, IsBlockFault, HasFound}
use Rattle.morsel_scan.specs.RowBlocks.{RowsRead, RowStretch, passed_to, HasRowsBeforePlace, HasRowsGiven, AreNextRows, HasRecordNotUtf8, IsTextFault, IsRowsFault, IsToldFile}
use Rattle.morsel_scan.specs.BlockRows.{mark_at, header_front, IsFrontOf}
use Rattle.morsel_scan.proofs.HeaderLemmas.{front-behind, front-awaits, front-then-behind, rows_after_header}
use Rattle.morsel_scan.proofs.FrontLemmas.{whole_behind, text-mark, text-taken, mark_at-taken, bad_in_text, bad_behind}
use Rattle.morsel_scan.proofs.RowStretchLemmas.{slice-append, rest_split, unmarked_split, rows_further, rows_at_end}
use Rattle.morsel_scan.proofs.PassingLemmas.{IsPassing, told_now, block_in, given_after_block, block_fault_of_rows}

-- what a search for a block answers
abbrev pub Searched : Outside → BlocksRead → ℕ → BlocksRead → Type 0
Searched mid r len b = (o : Dialect) (bytes : List ℕ) → IsDialect o → IsReadOf o bytes r → IsLastCut o bytes r.asked (given_to r) → IsTold mid.held r.file bytes → HasFound o bytes (given_to r) len b

-- no more rows
pub no_more : (o : Dialect) (columns : ℕ) (before mid : Outside) (old r : RowsRead) (chunk len : ℕ) (b : BlocksRead) → IsPassing o columns before old chunk mid r → Searched mid r.blocks len b → len ≡ 0
    → (s : CsvScan) (bytes : List ℕ) (rows : ℕ) → IsToldFile o columns s bytes rows before old → HaveRows s (bytes ∷ []) rows × IsUtf8 (slice_range bytes (given_to old.blocks) (length bytes))
no_more o columns before mid old r chunk len b p found none s bytes rows told =
    let now = p.told s bytes rows told in
    let f = found s.options bytes told.fit now.0.read now.0.cut (told_now o columns before mid old r chunk bytes p told.told) in
    let end = f.end none in
    (by_before end now.0.before, subst (λ (n : ℕ). IsUtf8 (slice_range bytes (given_to old.blocks) n)) end now.1)
  where
    by_before : given_to r.blocks ≡ length bytes → HasRowsBeforePlace s bytes (given_to r.blocks) rows r.awaits_header ⊎ ((given_to r.blocks ≡ length bytes) × HaveRows s (bytes ∷ []) rows) → HaveRows s (bytes ∷ []) rows
    by_before end (inl start) = rows_at_end s bytes (given_to r.blocks) rows r.awaits_header told.fit start end
    by_before end (inr all) = all.1

-- a fault of a search for a block
pub block_fault_rows : (o : Dialect) (columns : ℕ) (before mid : Outside) (old r : RowsRead) (chunk : ℕ) (fault : Fault) → IsPassing o columns before old chunk mid r
    → ((o : Dialect) (bytes : List ℕ) → IsDialect o → IsReadOf o bytes r.blocks → IsLastCut o bytes r.blocks.asked (given_to r.blocks) → IsTold mid.held r.blocks.file bytes → IsBlockFault o r.blocks.source bytes fault)
    → (s : CsvScan) (bytes : List ℕ) (rows : ℕ) → IsToldFile o columns s bytes rows before old → IsRowsFault s.options old.blocks.source bytes fault
block_fault_rows o columns before mid old r chunk fault p is s bytes rows told =
    let now = p.told s bytes rows told in
    block_fault_of_rows s.options r.blocks.source old.blocks.source bytes fault p.same.source
    (is s.options bytes told.fit now.0.read now.0.cut (told_now o columns before mid old r chunk bytes p told.told))

-- a record that is not UTF-8 in a block is one of the file
more_none : (o : Dialect) (text : List ℕ) (records : List CsvRecord) (block more bytes : List ℕ) (given : ℕ) → bytes ≡ take given bytes ++ (block ++ more)
    → AreWholeRecords o text records ⊎ (given + length block ≡ length bytes) → given ≤ length bytes → AreWholeRecords o text records ⊎ (more ≡ [])
more_none o text records block more bytes given split (inl whole) within = inl whole
more_none o text records block more bytes given split (inr end) within =
    inr (none more (let size : length bytes ≡ length (take given bytes ++ (block ++ more)) = ap length split in
    omega (arith, length-append (take given bytes) (block ++ more), length-append block more, length-take-le given bytes within)))
  where
    none : (x : List ℕ) → length x ≡ 0 → x ≡ []
    none [] size = refl
    none (b ∷ x) size = absurd (omega arith)

bad_in_file : (s : CsvScan) (bytes block : List ℕ) (given rows place : ℕ) (head : Bool) (records : List CsvRecord) → IsDialect s.options → HasRowsBeforePlace s bytes given rows head
    → slice_range bytes given (given + length block) ≡ block → (given ≡ 0 → mark_len block ≡ mark_len bytes) → given ≤ length bytes
    → AreWholeRecords s.options (text_at given block) records ⊎ (given + length block ≡ length bytes)
    → HasRecordNotUtf8 s.options (given + mark_at given block) (text_at given block) place → HasRecordNotUtf8 s.options (mark_len bytes) (unmarked bytes) place
bad_in_file s bytes block zero rows place head records fit before held mark within ends bad =
    let more : List ℕ = drop (0 + length block) bytes in
    let all : bytes ≡ take 0 bytes ++ (block ++ more) = rest_split bytes block 0 held in
    let marks : 0 + mark_len block ≡ mark_len bytes = let m = mark refl in omega arith in
    subst (λ (n : ℕ). HasRecordNotUtf8 s.options n (unmarked bytes) place) marks
    (subst (λ (x : List ℕ). HasRecordNotUtf8 s.options (0 + mark_len block) x place) (sym (unmarked_split bytes block held (mark refl)))
    (bad_in_text s.options (0 + mark_len block) place (unmarked block) more records fit bad (more_none s.options (unmarked block) records block more bytes 0 all ends within)))
bad_in_file s bytes block (suc given) rows place head records fit (inl start) held mark within ends bad = absurd (let z = start.0 in omega arith)
bad_in_file s bytes block (suc given) rows place head records fit (inr h) held mark within ends bad =
    let at : ℕ = suc given in
    let more : List ℕ = drop (at + length block) bytes in
    let split : drop at bytes ≡ block ++ more = rest_split bytes block at held in
    let all : bytes ≡ take at bytes ++ (block ++ more) = sym (take-append-drop at bytes) ∙ ap (λ (x : List ℕ). take at bytes ++ x) split in
    let behind : drop at bytes ≡ h.rest =
    ap (λ (k : ℕ). drop k bytes) h.place ∙ sym (drop-drop (length h.front) (mark_len bytes) bytes) ∙ ap (drop (length h.front)) h.split ∙ drop_at h.front h.rest (length h.front) refl in
    let whole : unmarked bytes ≡ h.front ++ (block ++ more) = h.split ∙ ap (λ (x : List ℕ). h.front ++ x) (sym behind ∙ split) in
    let next : at + 0 ≡ mark_len bytes + length h.front = let p = h.place in omega arith in
    subst (λ (x : List ℕ). HasRecordNotUtf8 s.options (mark_len bytes) x place) (sym whole)
    (bad_behind s.options (mark_len bytes) (at + 0) place h.front (block ++ more) h.records fit
    (bad_in_text s.options (at + 0) place block more records fit bad (more_none s.options block records block more bytes at all ends within)) h.whole next)

text_fault_of_file : (s : CsvScan) (bytes block : List ℕ) (given rows source number : ℕ) (head : Bool) (records : List CsvRecord) (fault : Fault) → source ≡ number → IsDialect s.options
    → HasRowsBeforePlace s bytes given rows head → slice_range bytes given (given + length block) ≡ block → (given ≡ 0 → mark_len block ≡ mark_len bytes) → given ≤ length bytes
    → AreWholeRecords s.options (text_at given block) records ⊎ (given + length block ≡ length bytes)
    → IsTextFault s.options source (given + mark_at given block) (text_at given block) fault → IsRowsFault s.options number bytes fault
text_fault_of_file s bytes block given rows source number head records faults.OutOfMemory same fit before held mark within ends is = tt
text_fault_of_file s bytes block given rows source number head records (faults.ComputeError kinds.NotUtf8 file place) same fit before held mark within ends is =
    (is.0 ∙ same, bad_in_file s bytes block given rows place head records fit before held mark within ends is.1)
text_fault_of_file s bytes block given rows source number head records fault same fit before held mark within ends is = absurd is

pub front_fault_rows : (o : Dialect) (columns : ℕ) (before mid : Outside) (old r : RowsRead) (chunk len : ℕ) (b : BlocksRead) (fault : Fault) → IsPassing o columns before old chunk mid r
    → IsSameFile r.blocks b → len ≤ length b.held → Searched mid r.blocks len b → 0 < len
    → ((records : List CsvRecord) → Records o (text_at (given_to b) (take len b.held)) records
    → IsTextFault o b.source (given_to b + mark_at (given_to b) (take len b.held)) (text_at (given_to b) (take len b.held)) fault)
    → (s : CsvScan) (bytes : List ℕ) (rows : ℕ) → IsToldFile o columns s bytes rows before old → IsRowsFault s.options old.blocks.source bytes fault
front_fault_rows o columns before mid old r chunk len b fault p same within found some is s bytes rows told =
    let now = p.told s bytes rows told in
    let f = found s.options bytes told.fit now.0.read now.0.cut (told_now o columns before mid old r chunk bytes p told.told) in
    let block = block_in s bytes rows len r b now.0 same within some f in
    let part : List ℕ = take len b.held in
    let split : Records o (text_at (given_to b) part) block.block.records = subst (λ (q : Dialect). Records q (text_at (given_to b) part) block.block.records) told.options block.block.split in
    let inside : given_to b ≤ length bytes = let asked = f.read.size_is in let g = f.cut in by_cut (given_to r.blocks) f.cut (sym same.given) in
    text_fault_of_file s bytes part (given_to b) rows b.source old.blocks.source r.awaits_header block.block.records fault (same.source ∙ p.same.source) told.fit block.before block.block.held block.block.mark
    inside block.block.ends
    (subst (λ (q : Dialect). IsTextFault q b.source (given_to b + mark_at (given_to b) part) (text_at (given_to b) part) fault) (sym told.options) (is block.block.records split))
  where
    by_cut : (given : ℕ) → IsLastCut s.options bytes b.asked (given + len) → given ≡ given_to b → given_to b ≤ length bytes
    by_cut given (inl cut) place = omega (arith, cut.0, place, given_below b)
      where
        given_below : (b : BlocksRead) → given_to b ≤ b.asked
        given_below b = omega arith
    by_cut given (inr end) place = omega (arith, end.1, place)

-- a stretch of records with rows
front_taken : (s : CsvScan) (bytes block : List ℕ) (given len : ℕ) → slice_range bytes given (given + length block) ≡ block → len ≤ length block
    → slice_range bytes given (given + length (take len block)) ≡ take len block
front_taken s bytes block given len held within =
    let size : length (take len block) ≡ len = length-take-le len block within in
    let n : given + length (take len block) - given ≡ len = omega (arith, size) in
    let m : given + length block - given ≡ length block = omega arith in
    ap (λ (k : ℕ). take k (drop given bytes)) n
    ∙ sym (take-take len (length block) (drop given bytes) within)
    ∙ ap (take len) (ap (λ (k : ℕ). take k (drop given bytes)) (sym m) ∙ held)

rest_taken : (bytes block : List ℕ) (given len : ℕ) → slice_range bytes given (given + length block) ≡ block → len ≤ length block
    → slice_range bytes (given + len) (given + len + length (drop len block)) ≡ drop len block
rest_taken bytes block given len held within =
    let size : length (drop len block) ≡ length block - len = length-drop len block in
    let n : given + len + length (drop len block) - (given + len) ≡ length block - len = omega (arith, size) in
    let m : given + length block - given ≡ len + (length block - len) = omega arith in
    ap (λ (k : ℕ). take k (drop (given + len) bytes)) n
    ∙ ap (take (length block - len)) (sym (drop-drop len given bytes))
    ∙ sym (drop-take len (length block - len) (drop given bytes))
    ∙ ap (drop len) (ap (λ (k : ℕ). take k (drop given bytes)) (sym m) ∙ held)

-- a front that has the mark, and the text after it
front_mark : (block : List ℕ) (given len : ℕ) → mark_at given block ≤ len → mark_at given (take len block) ≡ mark_at given block
front_mark block given len within =
    let same : mark_at given block + (len - mark_at given block) ≡ len = omega arith in
    subst (λ (k : ℕ). mark_at given (take k block) ≡ mark_at given block) same (mark_at-taken given (len - mark_at given block) block)

text_parts : (block : List ℕ) (given len : ℕ) → mark_at given block ≤ len → text_at given block ≡ text_at given (take len block) ++ drop len block
text_parts block given len within =
    let mark : ℕ = mark_at given block in
    let n : ℕ = len - mark in
    let same : mark + n ≡ len = omega arith in
    sym (take-append-drop n (text_at given block))
    ∙ ap (λ (x : List ℕ). x ++ drop n (text_at given block)) (sym (text-taken given n block) ∙ ap (λ (k : ℕ). text_at given (take k block)) same)
    ∙ ap (λ (x : List ℕ). text_at given (take len block) ++ x) (ap (drop n) (text-mark given block) ∙ drop-drop n mark block ∙ ap (λ (k : ℕ). drop k block) same)

records_none : (o : Dialect) (text : List ℕ) (records : List CsvRecord) → text ≡ [] → Records o text records → records ≡ []
records_none o text [] none are = refl
records_none o text (r ∷ records) none are = absurd (are.0 none)

-- the front of a block with rows is whole records
front_whole : (o : Dialect) (columns : ℕ) (head : Bool) (given : ℕ) (block : List ℕ) (records : List CsvRecord) (front : BlockFront) → IsFrontOf o columns head given block records front → 0 < front.rows
    → AreWholeRecords o (text_at given (take front.len block)) (header_front head records)
front_whole o columns head given block records front f some = by_whole f.whole
  where
    by_whole : AreWholeRecords o (text_at given (take front.len block)) (header_front head records) ⊎ (length block ≤ front.len) → AreWholeRecords o (text_at given (take front.len block)) (header_front head records)
    by_whole (inl whole) = whole
    by_whole (inr over) =
        let none : behind_header head records ≡ [] = records_none o (drop front.len block) (behind_header head records) (drop_all front.len block over) f.back in
        let no_rows : front.rows ≡ 0 = f.rows_are ∙ ap (row_count columns) none in
        absurd (omega arith)

before_stretch : (s : CsvScan) (columns : ℕ) (bytes block : List ℕ) (given rows : ℕ) (head : Bool) (records : List CsvRecord) (front : BlockFront) → IsDialect s.options → length s.scan.fields ≡ columns
    → HasRowsBeforePlace s bytes given rows head → slice_range bytes given (given + length block) ≡ block → (given ≡ 0 → mark_len block ≡ mark_len bytes) → front.len ≤ length block
    → IsFrontOf s.options columns head given block records front → 0 < front.rows → HasRowsUpTo s bytes (given + front.len) rows false
before_stretch s columns bytes block given rows head records front fit columns_are before held mark within f some =
    let part : List ℕ = take front.len block in
    let size : given + length part ≡ given + front.len = ap (λ (n : ℕ). given + n) (length-take-le front.len block within) in
    let up_to = rows_further s bytes part given rows head (header_front head records) fit before (front_taken s bytes block given front.len held within)
    (λ start. marked start) (front_whole s.options columns head given block records front f some) in
    let none : row_count (length s.scan.fields) (behind_header head (header_front head records)) ≡ 0 = ap (row_count (length s.scan.fields)) (front-behind head records) in
    let rows_same : rows + row_count (length s.scan.fields) (behind_header head (header_front head records)) ≡ rows = omega arith in
    let header : awaits_header_after head (header_front head records) ≡ false =
    front-awaits head records ∙ rows_after_header columns head records (subst (λ (n : ℕ). 0 < n) f.rows_are some) in
    subst (λ (h : Bool). HasRowsUpTo s bytes (given + front.len) rows h) header
    (subst (λ (n : ℕ). HasRowsUpTo s bytes (given + front.len) n (awaits_header_after head (header_front head records))) rows_same
    (subst (λ (n : ℕ). HasRowsUpTo s bytes n (rows + row_count (length s.scan.fields) (behind_header head (header_front head records))) (awaits_header_after head (header_front head records))) size up_to))
  where
    marked : given ≡ 0 → mark_len (take front.len block) ≡ mark_len bytes
    marked start =
        let here : mark_len block ≤ front.len = subst (λ (n : ℕ). mark_at n block ≤ front.len) start f.mark_within in
        front_mark block 0 front.len here ∙ mark start

stretch_ends : (o : Dialect) (columns : ℕ) (bytes block : List ℕ) (given : ℕ) (head : Bool) (records : List CsvRecord) (front : BlockFront) → IsDialect o → front.len ≤ length block
    → IsFrontOf o columns head given block records front → 0 < front.rows → AreWholeRecords o (text_at given block) records ⊎ (given + length block ≡ length bytes)
    → AreWholeRecords o (drop front.len block) (behind_header head records) ⊎ (given + front.len + length (drop front.len block) ≡ length bytes)
stretch_ends o columns bytes block given head records front fit within f some (inl whole) =
    let part : List ℕ = text_at given (take front.len block) in
    let left = whole_behind o part (drop front.len block) (header_front head records) records fit (front_whole o columns head given block records front f some)
    (subst (λ (x : List ℕ). AreWholeRecords o x records) (text_parts block given front.len f.mark_within) whole) in
    let same : left.0 ≡ behind_header head records = append_cancel_left (header_front head records) left.0 (behind_header head records) (sym left.1 ∙ sym (front-then-behind head records)) in
    inl (subst (λ (x : List CsvRecord). AreWholeRecords o (drop front.len block) x) same left.2)
stretch_ends o columns bytes block given head records front fit within f some (inr end) = inr (omega (arith, length-drop front.len block))

pub gives_rows : (o : Dialect) (columns : ℕ) (before mid after : Outside) (old r : RowsRead) (chunk len : ℕ) (b : BlocksRead) (front : BlockFront) (stretch : RowStretch) (new : RowsRead)
    → IsPassing o columns before old chunk mid r → IsOpenFile after b → IsSameFile r.blocks b → len ≤ length b.held → Searched mid r.blocks len b → 0 < len
    → ((records : List CsvRecord) → Records o (text_at (given_to b) (take len b.held)) records → IsFrontOf o columns r.awaits_header (given_to b) (take len b.held) records front)
    → front.len ≤ len → 0 < front.rows
    → stretch ≡ record { at = given_to b + front.len; rows = front.rows; bytes = drop front.len (take len b.held) }
    → new ≡ passed_to (record { blocks = b; awaits_header = r.awaits_header }) len front.awaits_header
    → (s : CsvScan) (bytes : List ℕ) (rows : ℕ) → IsToldFile o columns s bytes rows before old
    → AreNextRows s bytes (given_to old.blocks) rows stretch × HasRowsGiven s bytes (rows + stretch.rows) new
gives_rows o columns before mid after old r chunk len b front stretch new p opened same within found more is_front front_within some stretch_is new_is s bytes rows told =
    let now = p.told s bytes rows told in
    let next : RowsRead = record { blocks = b; awaits_header = r.awaits_header } in
    let f = found s.options bytes told.fit now.0.read now.0.cut (told_now o columns before mid old r chunk bytes p told.told) in
    let block = block_in s bytes rows len r b now.0 same within more f in
    let part : List ℕ = take len b.held in
    let split : Records o (text_at (given_to b) part) block.block.records = subst (λ (q : Dialect). Records q (text_at (given_to b) part) block.block.records) told.options block.block.split in
    let fr : IsFrontOf s.options columns r.awaits_header (given_to b) part block.block.records front =
    subst (λ (q : Dialect). IsFrontOf q columns r.awaits_header (given_to b) part block.block.records front) (sym told.options) (is_front block.block.records split) in
    let size : length part ≡ len = block.size in
    let front_in : front.len ≤ length part = omega arith in
    let cut : IsLastCut s.options bytes b.asked (given_to b + len) = subst (λ (n : ℕ). IsLastCut s.options bytes b.asked (n + len)) (sym same.given) f.cut in
    let first : IsUtf8 (slice_range bytes (given_to old.blocks) (given_to b)) = subst (λ (n : ℕ). IsUtf8 (slice_range bytes (given_to old.blocks) n)) (sym same.given) now.1 in
    let order : given_to old.blocks ≤ given_to b = let g = p.same.given in let e = same.given in omega arith in
    let taken : slice_range bytes (given_to b) (given_to b + front.len) ≡ take front.len part =
    ap (λ (n : ℕ). slice_range bytes (given_to b) (given_to b + n)) (sym (length-take-le front.len part front_in)) ∙ front_taken s bytes part (given_to b) front.len block.block.held front_in in
    let utf8 : IsUtf8 (slice_range bytes (given_to b) (given_to b + front.len)) = subst IsUtf8 (sym taken) fr.utf8 in
    let rows_here : AreNextRows s bytes (given_to old.blocks) rows (record { at = given_to b + front.len; rows = front.rows; bytes = drop front.len part }) = record {
      order = omega arith;
      before = before_stretch s columns bytes part (given_to b) rows r.awaits_header block.block.records front told.fit told.columns_are block.before block.block.held block.block.mark front_in fr some;
      passed = subst IsUtf8 (slice-append bytes (given_to old.blocks) (given_to b) (given_to b + front.len) order (omega arith))
          (IsUtf8-append (slice_range bytes (given_to old.blocks) (given_to b)) (slice_range bytes (given_to b) (given_to b + front.len)) first utf8);
      held = rest_taken bytes part (given_to b) front.len block.block.held front_in;
      records = behind_header r.awaits_header block.block.records;
      split = fr.back;
      ends = stretch_ends s.options columns bytes part (given_to b) r.awaits_header block.block.records front told.fit front_in fr some block.block.ends;
      rows_are = fr.rows_are ∙ ap (λ (c : ℕ). row_count c (behind_header r.awaits_header block.block.records)) (sym told.columns_are);
      some = some;
    } in
    let given = given_after_block s columns bytes rows next len front told.fit block told.columns_are fr within opened.held_within f.read cut in (
      subst (λ (x : RowStretch). AreNextRows s bytes (given_to old.blocks) rows x) (sym stretch_is) rows_here,
      subst (λ (n : ℕ). HasRowsGiven s bytes (rows + n) new) (sym (ap (λ (x : RowStretch). x.rows) stretch_is))
          (subst (λ (x : RowsRead). HasRowsGiven s bytes (rows + front.rows) x) (sym new_is) given),
    )
