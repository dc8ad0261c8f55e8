-- Records with rows that were found, given as the next piece.
use Rattle.std.proofs.Common.{◌≡◌, ℕ, zero, suc, ◌+◌, ◌<◌, ◌≤◌, ap, sym, subst, refl, ◌∙◌, inl, inr, arith}
use Rattle.std.proofs.lemmas.List.{take_all}
use Rattle.std.specs.Prelude.{◌⊎◌, ℤ, nat_abs, Bool, Option, Some, None, List, [], ◌∷◌, length, take, slice_get, IsUtf8}
use Rattle.std.specs.List.{sum_by}
use Rattle.morsel_outside.specs.Outside.{Outside}
use Rattle.morsel_scan.specs.Scans.{CsvScan}
use Rattle.morsel_scan.specs.CsvScans.{FitsScan}
use Rattle.morsel_scan.specs.CsvPieces.{HaveRows, IsRowPlace, BeginsStretch, bytes_between, IsPieceOf}
use Rattle.morsel_scan.specs.CsvAxis.{csv_axis}
use Rattle.morsel_scan.specs.CsvAxisLaws.{IsAfterPieces}
use Rattle.morsel_scan.specs.Blocks.{given_to, IsLastCut}
use Rattle.morsel_scan.specs.RowBlocks.{RowsRead, RowStretch, HasRowsBeforePlace}
use Rattle.morsel_scan.proofs.AxisEndLemmas.{gives_nothing_at_end, none_left}
use Rattle.morsel_scan.proofs.AxisRowLemmas.{has_each_byte}
use Rattle.morsel_scan.proofs.RowStretchLemmas.{rows_at_end}
use Rattle.morsel_read.specs.ScanReads.{FilesAsked, PiecesRead, slice_stop, slice_within, files_asked, asked_within, settled_within, size_within, asked_to, settled_to, sizes_in, IsCurrent, AreOpen, AreTold, HasGivenWithin, HasGivenRows}
use Rattle.morsel_read.specs.PieceReads.{HasMoreRows, IsScanEnd}
use Rattle.morsel_read.specs.Seeking.{HasFoundRows, FindsStretch, EndsFiles, piece_of, after_piece}
use Rattle.morsel_read.proofs.HeldLemmas.{sum_take-next, sum_take-within}
use Rattle.morsel_read.proofs.ReadListLemmas.{same_sizes, same_held}
use Rattle.morsel_read.proofs.SourceLemmas.{told_len, told_same, told_sum, rows_next, rows_of_all, rows_up_to_end, none_between}
use Rattle.morsel_read.proofs.SliceLemmas.{keeps_alike, past_stop}
use Rattle.morsel_read.proofs.FaultlessLemmas.{no_fault_asked}

-- no more was asked of the file that is read than it has
pub asked_within_size : (o : Outside) (r : PiecesRead) → AreOpen o r → asked_to r ≤ r.earlier + size_within r.current
asked_within_size o r opened = by r.current opened.current
  where
    by : (current : Option RowsRead) → IsCurrent o r.sources r.source current → r.earlier + asked_within current ≤ r.earlier + size_within current
    by None is = omega arith
    by (Some c) is = let a = is.0.within in omega (arith, a)

-- what is in pieces or passed was asked
pub settled_within_asked : (o : Outside) (r : PiecesRead) → AreOpen o r → settled_to r ≤ asked_to r
settled_within_asked o r opened = by r.current
  where
    by : (current : Option RowsRead) → r.earlier + settled_within current ≤ r.earlier + asked_within current
    by None = omega arith
    by (Some c) = omega arith

-- no more was asked than the files have
asked_within_files : (s : CsvScan) (files : List (List ℕ)) (o : Outside) (r : PiecesRead) → AreOpen o r → HasGivenRows s files o r → asked_to r ≤ sum_by length files
asked_within_files s files o r opened had = by r.current (opened.current, had.rows_within)
  where
    earlier : r.earlier ≡ sum_by length (take r.source files)
    earlier = opened.earlier ∙ told_sum o r.sources.files files r.source had.told

    by : (current : Option RowsRead) → IsCurrent o r.sources r.source current × HasGivenWithin s files r.source had.within current → r.earlier + asked_within current ≤ sum_by length files
    by None is = let most = sum_take-within files r.source in omega (arith, earlier, most)
    by (Some c) (here, (bytes, is, given)) =
        let next = sum_take-next files r.source bytes is in
        let most = sum_take-within files (r.source + 1) in
        let size = given.read.size_is in
        let asked = here.0.within in
        omega (arith, earlier, next, most, size, asked)

same_rows : (before after : Outside) (old r : PiecesRead) (stretch : RowStretch) → FindsStretch before old stretch after r → r.rows ≡ old.rows
same_rows before after old r stretch f = ap (λ (x : PiecesRead). x.rows) f.same

same_given : (before after : Outside) (old r : PiecesRead) (stretch : RowStretch) → FindsStretch before old stretch after r → r.given ≡ old.given
same_given before after old r stretch f = ap (λ (x : PiecesRead). x.given) f.same

-- the files were not changed by the search
found_sizes : (before after : Outside) (old r : PiecesRead) (stretch : RowStretch) → FindsStretch before old stretch after r → (after.sizes ≡ before.sizes) × (after.held ≡ before.held)
found_sizes before after old r stretch f = (
  same_sizes old.sources.files (sizes_in before.sizes old.sources.files) old.sources.chunk (asked_to old) (asked_to r) f.reads.reads before after f.reads.are f.reads.does,
  same_held old.sources.files (sizes_in before.sizes old.sources.files) old.sources.chunk (asked_to old) (asked_to r) f.reads.reads before after f.reads.are f.reads.does,
)

-- the place of the bytes of all files at which the file that is read begins
found_earlier : (s : CsvScan) (files : List (List ℕ)) (before after : Outside) (old r : PiecesRead) (stretch : RowStretch) → (f : FindsStretch before old stretch after r)
    → HasFoundRows s files before old stretch r → r.earlier ≡ sum_by length (take r.source files)
found_earlier s files before after old r stretch f found =
    let same = found_sizes before after old r stretch f in
    let one : r.sources ≡ old.sources = ap (λ (x : PiecesRead). x.sources) f.same in
    let told : AreTold after r.sources.files files = subst (λ (x : FilesAsked). AreTold after x.files files) (sym one) (told_same before after old.sources.files files same.0 same.1 found.had.told) in
    f.opened.earlier ∙ told_sum after r.sources.files files r.source told

-- where they end
found_end : (s : CsvScan) (files : List (List ℕ)) (before after : Outside) (old r : PiecesRead) (stretch : RowStretch) → (f : FindsStretch before old stretch after r)
    → (found : HasFoundRows s files before old stretch r) → r.earlier + stretch.at + length stretch.bytes ≡ r.earlier + given_to found.current.blocks
found_end s files before after old r stretch f found = f.end ∙ ap (λ (x : Option RowsRead). r.earlier + settled_within x) found.current_is

-- after them a stretch may begin, or all files end
after_found : (s : CsvScan) (files : List (List ℕ)) (before after : Outside) (old r : PiecesRead) (stretch : RowStretch) → (f : FindsStretch before old stretch after r)
    → (found : HasFoundRows s files before old stretch r) → IsAfterPieces s files (r.earlier + stretch.at + length stretch.bytes) (old.rows + stretch.rows)
after_found s files before after old r stretch f found = by found.given.before
  where
    place : ℕ
    place = r.earlier + stretch.at + length stretch.bytes

    rows : ℕ
    rows = old.rows + stretch.rows

    end : place ≡ r.earlier + given_to found.current.blocks
    end = found_end s files before after old r stretch f found

    earlier : r.earlier ≡ sum_by length (take r.source files)
    earlier = found_earlier s files before after old r stretch f found

    at_file_end : (next : (r.source + 1 < length files) ⊎ (length files ≤ r.source + 1)) → given_to found.current.blocks ≡ length found.bytes
        → HaveRows s (found.bytes ∷ []) (found.within + stretch.rows) → IsAfterPieces s files place rows
    at_file_end (inl more) is have = inl (inr (record {
      source = r.source + 1;
      is_source = more;
      rows_before = (let all : found.earlier + (found.within + stretch.rows) ≡ rows = (let a = found.rows_are in omega (arith, a)) in
          subst (λ n. HaveRows s (take (r.source + 1) files) n) all (rows_next s files r.source found.bytes found.earlier (found.within + stretch.rows) found.is found.rows_before have));
      place_is = (let next = sum_take-next files r.source found.bytes found.is in omega (arith, end, earlier, is, next));
    }))
    at_file_end (inr over) is have =
        let next = sum_take-next files r.source found.bytes found.is in
        let all : sum_by length (take (r.source + 1) files) ≡ sum_by length files = ap (sum_by length) (take_all (r.source + 1) files over) in
        inr (omega (arith, end, earlier, is, next, all))

    split : (a b : ℕ) → (a < b) ⊎ (b ≤ a)
    split a zero = inr (omega arith)
    split zero (suc b) = inl (omega arith)
    split (suc a) (suc b) = on (split a b)
      where
        on : (a < b) ⊎ (b ≤ a) → (suc a < suc b) ⊎ (suc b ≤ suc a)
        on (inl first) = inl (omega (arith, first))
        on (inr second) = inr (omega (arith, second))

    by : HasRowsBeforePlace s found.bytes (given_to found.current.blocks) (found.within + stretch.rows) found.current.awaits_header
        ⊎ ((given_to found.current.blocks ≡ length found.bytes) × HaveRows s (found.bytes ∷ []) (found.within + stretch.rows)) → IsAfterPieces s files place rows
    by (inl (inl start)) = absurd (let a = start.1 in let b = f.some in omega (arith, a, b))
    by (inl (inr has)) = inl (inl (
      r.source,
      given_to found.current.blocks,
      found.current.awaits_header,
      record {
        bytes = found.bytes;
        is_source = found.is;
        earlier = found.earlier;
        rows_before = found.rows_before;
        within = found.within + stretch.rows;
        rows_within = has;
        rows_are = (let a = found.rows_are in omega (arith, a));
        place_is = end ∙ ap (λ n. n + given_to found.current.blocks) earlier;
      },
    ))
    by (inr (is, have)) = at_file_end (split (r.source + 1) (length files)) is have

-- more rows than are allowed come before the end of what was asked
pub found_too_many : (s : CsvScan) (files : List (List ℕ)) (before after : Outside) (old r : PiecesRead) (stretch : RowStretch) → (f : FindsStretch before old stretch after r)
    → (found : HasFoundRows s files before old stretch r) → 4294967295 < r.rows + stretch.rows → HasMoreRows s files (asked_to r) 4294967295
found_too_many s files before after old r stretch f found more = (
  old.rows + stretch.rows,
  (let a = same_rows before after old r stretch f in omega (arith, more, a)),
  by found.given.before,
)
  where
    end : r.earlier + stretch.at + length stretch.bytes ≡ r.earlier + given_to found.current.blocks
    end = found_end s files before after old r stretch f found

    settled : settled_to r ≤ asked_to r
    settled = settled_within_asked after r f.opened

    earlier : r.earlier ≡ sum_by length (take r.source files)
    earlier = found_earlier s files before after old r stretch f found

    by : HasRowsBeforePlace s found.bytes (given_to found.current.blocks) (found.within + stretch.rows) found.current.awaits_header
        ⊎ ((given_to found.current.blocks ≡ length found.bytes) × HaveRows s (found.bytes ∷ []) (found.within + stretch.rows))
        → ((source : ℕ) × (at : ℕ) × (place : ℕ) × (head : Bool) × IsRowPlace s files source at place (old.rows + stretch.rows) head × (place ≤ asked_to r))
        ⊎ ((source : ℕ) × HaveRows s (take source files) (old.rows + stretch.rows) × (sum_by length (take source files) ≤ asked_to r))
    by (inl (inl start)) = absurd (let a = start.1 in let b = f.some in omega (arith, a, b))
    by (inl (inr has)) = inl (
      r.source,
      given_to found.current.blocks,
      r.earlier + given_to found.current.blocks,
      found.current.awaits_header,
      record {
        bytes = found.bytes;
        is_source = found.is;
        earlier = found.earlier;
        rows_before = found.rows_before;
        within = found.within + stretch.rows;
        rows_within = has;
        rows_are = (let a = found.rows_are in omega (arith, a));
        place_is = ap (λ n. n + given_to found.current.blocks) earlier;
      },
      (let a = f.end in omega (arith, a, end, settled)),
    )
    by (inr (is, have)) = inr (
      r.source + 1,
      (let all : found.earlier + (found.within + stretch.rows) ≡ old.rows + stretch.rows = (let a = found.rows_are in omega (arith, a)) in
          subst (λ n. HaveRows s (take (r.source + 1) files) n) all (rows_next s files r.source found.bytes found.earlier (found.within + stretch.rows) found.is found.rows_before have)),
      (let next = sum_take-next files r.source found.bytes found.is in let a = f.end in omega (arith, end, earlier, is, next, settled, a)),
    )

-- records that were found are a piece of the scan
pub found_piece : (s : CsvScan) (files : List (List ℕ)) (before after : Outside) (old r : PiecesRead) (stretch : RowStretch) (name : List ℕ) → (f : FindsStretch before old stretch after r)
    → (found : HasFoundRows s files before old stretch r) → slice_get r.sources.names r.source ≡ Some name → r.rows + stretch.rows ≤ 4294967295 → FitsScan (piece_of r name stretch)
    → IsPieceOf s old.sources.first old.sources.names files (piece_of r name stretch)
found_piece s files before after old r stretch name f found named few fits =
    let one : r.sources ≡ old.sources = ap (λ (x : PiecesRead). x.sources) f.same in
    let rows = same_rows before after old r stretch f in
    let given = same_given before after old r stretch f in
    let earlier = found_earlier s files before after old r stretch f found in
    let had = found.had in
    let asks : r.sources ≡ files_asked s old.sources.names old.sources.files old.sources.first old.sources.chunk = one ∙ had.is in
    record {
      source = r.source;
      file = ap (λ (x : FilesAsked). x.first + r.source) one;
      name = subst (λ (x : FilesAsked). slice_get x.names r.source ≡ Some name) one named;
      start = r.earlier + stretch.at;
      begins = record {
        bytes = found.bytes;
        is_source = found.is;
        earlier = found.earlier;
        rows_before = found.rows_before;
        within = found.within;
        rows_within = found.next.before;
        rows_are = (let a = found.rows_are in omega (arith, a, rows));
        place_is = ap (λ n. n + stretch.at) earlier;
      };
      held = found.next.held;
      records = found.next.records;
      split = found.next.split;
      ends = found.next.ends;
      rows = found.next.rows_are;
      some = found.next.some;
      fits = fits;
      slice = λ total row less. keeps_alike s.scan.asked.slice (piece_of r name stretch) total row had.from_first
          (ap (λ (x : FilesAsked). slice_within x.start x.stop r.rows stretch.rows) asks) few less;
      no_parts = refl;
      to = refl;
      from = subst (λ n. BeginsStretch s files n r.rows) (sym given) (subst (λ n. BeginsStretch s files old.given n) (sym rows) (begins had.after_pieces));
      in_order = (let a = f.order in omega (arith, a, given));
      passed = subst (λ n. (number : ℕ) → IsUtf8 (bytes_between files number n (r.earlier + stretch.at))) (sym given) found.passed;
    }
  where
    begins : IsAfterPieces s files old.given old.rows → BeginsStretch s files old.given old.rows
    begins (inl is) = is
    begins (inr end) = absurd (
        let earlier = found_earlier s files before after old r stretch f found in
        let next = sum_take-next files r.source found.bytes found.is in
        let most = sum_take-within files (r.source + 1) in
        let order = f.order in
        let some = f.some in
        let size = f.few in
        let last = found_end s files before after old r stretch f found in
        let read = found.given.read in
        let held = found.next.held in
        let within = given_within_file in
        omega (arith, end, earlier, next, most, order, some, size, last, within)
        )
      where
        given_within_file : given_to found.current.blocks ≤ length found.bytes
        given_within_file =
            let size = found.given.read.size_is in
            let here : IsCurrent after r.sources r.source (Some found.current) = subst (λ (x : Option RowsRead). IsCurrent after r.sources r.source x) found.current_is f.opened.current in
            let asked = here.0.within in
            omega (arith, size, asked)

-- after the piece the reader goes on
pub found_goes_on : (s : CsvScan) (files : List (List ℕ)) (before after : Outside) (old r : PiecesRead) (stretch : RowStretch) → (f : FindsStretch before old stretch after r)
    → HasFoundRows s files before old stretch r → HasGivenRows s files after (after_piece r stretch)
found_goes_on s files before after old r stretch f found =
    let same = found_sizes before after old r stretch f in
    let one : r.sources ≡ old.sources = ap (λ (x : PiecesRead). x.sources) f.same in
    let rows = same_rows before after old r stretch f in
    let had = found.had in
    let end : settled_to r ≡ r.earlier + stretch.at + length stretch.bytes = sym f.end in
    record {
      fit = had.fit;
      is = subst (λ (x : FilesAsked). x ≡ files_asked s x.names x.files x.first x.chunk) (sym one) had.is;
      from_first = had.from_first;
      no_fault = ap (λ (x : PiecesRead). x.fault) f.same ∙ had.no_fault;
      one_each = ap (λ (x : FilesAsked). length x.names) one ∙ had.one_each;
      told = subst (λ (x : FilesAsked). AreTold after x.files files) (sym one) (told_same before after old.sources.files files same.0 same.1 had.told);
      earlier = found.earlier;
      rows_before = found.rows_before;
      within = found.within + stretch.rows;
      rows_within = subst (λ (x : Option RowsRead). HasGivenWithin s files r.source (found.within + stretch.rows) x) (sym found.current_is) (found.bytes, found.is, found.given);
      rows_are = (let a = found.rows_are in omega (arith, a, rows));
      after_pieces = subst (λ n. IsAfterPieces s files (r.earlier + stretch.at + length stretch.bytes) n) (ap (λ n. n + stretch.rows) (sym rows)) (after_found s files before after old r stretch f found);
      passed = λ number. subst (λ n. IsUtf8 (bytes_between files number (r.earlier + stretch.at + length stretch.bytes) n)) (sym end)
          (none_between files number (r.earlier + stretch.at + length stretch.bytes));
    }

-- where all files were read to their ends, the scan ends
pub ends_scan : (s : CsvScan) (files : List (List ℕ)) (before after : Outside) (old r : PiecesRead) → EndsFiles before old after r → HasGivenRows s files before old
    → IsScanEnd s old.sources.first old.sources.names files r.given (asked_to r) × HasGivenRows s files after r
ends_scan s files before after old r e had =
    let now = e.passes.told s files had in
    let one : r.sources ≡ old.sources = ap (λ (x : PiecesRead). x.sources) e.passes.same in
    let size : length r.sources.files ≡ length files = told_len after r.sources.files files now.told in
    let all : length files ≤ r.source = (let a = e.all in omega (arith, a, size)) in
    let none = e.none in
    let within : now.within ≡ 0 = subst (λ (x : Option RowsRead). HasGivenWithin s files r.source now.within x) none now.rows_within in
    let have : HaveRows s files r.rows =
    rows_of_all s files r.source r.rows all (subst (λ n. HaveRows s (take r.source files) n) (let a = now.rows_are in omega (arith, a, within)) now.rows_before) in
    let earlier : r.earlier ≡ sum_by length files = e.passes.opened.earlier ∙ told_sum after r.sources.files files r.source now.told ∙ ap (sum_by length) (take_all r.source files all) in
    let asked : asked_to r ≡ sum_by length files = ap (λ (x : Option RowsRead). r.earlier + asked_within x) none ∙ (let a : r.earlier + 0 ≡ r.earlier = omega arith in a) ∙ earlier in
    let settled : settled_to r ≡ sum_by length files = ap (λ (x : Option RowsRead). r.earlier + settled_within x) none ∙ (let a : r.earlier + 0 ≡ r.earlier = omega arith in a) ∙ earlier in
    let utf8 : (number : ℕ) → IsUtf8 (bytes_between files number r.given (sum_by length files)) = λ number. subst (λ n. IsUtf8 (bytes_between files number r.given n)) settled (now.passed number) in
    let nothing = gives_nothing_at_end s now.fit old.sources.first 0 r.given r.rows old.sources.names files [] (λ rows. [])
    (ap (λ (x : FilesAsked). length x.names) (sym one) ∙ now.one_each) now.after_pieces have utf8 in
    (inl (asked, nothing, (r.rows, have, e.passes.opened.few)), now)

-- where all was asked, the rows of all files were given
all_counted : (s : CsvScan) (files : List (List ℕ)) (o : Outside) (r : PiecesRead) → AreOpen o r → HasGivenRows s files o r → asked_to r ≡ sum_by length files → HaveRows s files r.rows
all_counted s files o r opened had all = by r.current all (opened.current, had.rows_within)
  where
    earlier : r.earlier ≡ sum_by length (take r.source files)
    earlier = opened.earlier ∙ told_sum o r.sources.files files r.source had.told

    by : (current : Option RowsRead) → r.earlier + asked_within current ≡ sum_by length files
        → IsCurrent o r.sources r.source current × HasGivenWithin s files r.source had.within current → HaveRows s files r.rows
    by None all (here, none) =
        let rows : had.earlier ≡ r.rows = (let a = had.rows_are in omega (arith, a, none)) in
        rows_up_to_end s files r.source r.rows had.fit (subst (λ n. HaveRows s (take r.source files) n) rows had.rows_before) (omega (arith, all, earlier))
    by (Some c) all (here, (bytes, is, given)) =
        let next = sum_take-next files r.source bytes is in
        let most = sum_take-within files (r.source + 1) in
        let size = given.read.size_is in
        let within = here.0.within in
        let whole : c.blocks.asked ≡ length bytes = omega (arith, all, earlier, next, most, size, within) in
        rows_up_to_end s files (r.source + 1) r.rows had.fit
        (subst (λ n. HaveRows s (take (r.source + 1) files) n) (sym had.rows_are)
        (rows_next s files r.source bytes had.earlier had.within is had.rows_before (rows_here (to_end whole given.cut) given.before)))
        (omega (arith, all, earlier, next, whole))
      where
        to_end : c.blocks.asked ≡ length bytes → IsLastCut s.options bytes c.blocks.asked (given_to c.blocks) → given_to c.blocks ≡ length bytes
        to_end whole (inl (less, cut)) = absurd (omega (arith, whole, less))
        to_end whole (inr (asked, cut)) = cut

        rows_here : given_to c.blocks ≡ length bytes → HasRowsBeforePlace s bytes (given_to c.blocks) had.within c.awaits_header
            ⊎ ((given_to c.blocks ≡ length bytes) × HaveRows s (bytes ∷ []) had.within) → HaveRows s (bytes ∷ []) had.within
        rows_here end (inl before) = rows_at_end s bytes (given_to c.blocks) had.within c.awaits_header had.fit before end
        rows_here end (inr (is, have)) = have

-- where the slice keeps no more rows, the scan ends
pub ends_slice : (s : CsvScan) (files : List (List ℕ)) (o : Outside) (r : PiecesRead) → AreOpen o r → HasGivenRows s files o r → r.sources.stop ≤ r.rows
    → IsScanEnd s r.sources.first r.sources.names files r.given (asked_to r)
ends_slice s files o r opened had past = by had.after_pieces
  where
    cut : (cut : ℤ × ℕ) × (s.scan.asked.slice ≡ Some cut) × (nat_abs cut.0 + cut.1 ≤ r.rows)
    cut = past_stop s.scan.asked.slice r.rows (let a : r.sources.stop ≡ slice_stop s.scan.asked.slice = ap (λ (x : FilesAsked). x.stop) had.is in omega (arith, a, past)) opened.few

    by : IsAfterPieces s files r.given r.rows → IsScanEnd s r.sources.first r.sources.names files r.given (asked_to r)
    by (inl begins) = inr (record {
      slice = cut.0;
      is = cut.1;
      rows = r.rows;
      past = cut.2;
      begins = begins;
      within = (let order = opened.order in let settled = settled_within_asked o r opened in omega (arith, order, settled));
      few = opened.few;
      counted = λ all. (r.rows, all_counted s files o r opened had all, opened.few);
      faultless = λ first names same. no_fault_asked s files o r first names opened had begins same;
    })
    by (inr end) =
        let order = opened.order in
        let settled = settled_within_asked o r opened in
        let most = asked_within_files s files o r opened had in
        let asked : asked_to r ≡ sum_by length files = omega (arith, end, order, settled, most) in
        let sized : r.given ≡ length (csv_axis s r.sources.first r.sources.names files [] 0 (λ rows. [])).gives = end ∙ sym (each_byte_gives s files r had) in
        inl (
          asked,
          none_left (csv_axis s r.sources.first r.sources.names files [] 0 (λ rows. [])).gives r.given sized,
          (r.rows, all_counted s files o r opened had asked, opened.few),
        )
      where
        each_byte_gives : (s : CsvScan) (files : List (List ℕ)) (r : PiecesRead) → HasGivenRows s files o r
            → length (csv_axis s r.sources.first r.sources.names files [] 0 (λ rows. [])).gives ≡ sum_by length files
        each_byte_gives s files r had = (has_each_byte s had.fit r.sources.first 0 r.sources.names files [] (λ rows. []) had.one_each).0
