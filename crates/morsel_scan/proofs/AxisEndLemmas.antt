-- What the places of all files give, by the pieces of a scan; and what they give after the last piece.
use Rattle.std.proofs.Common.{◌≡◌, ℕ, zero, suc, ◌+◌, ◌-◌, ◌≤◌, ap, sym, subst, refl, ◌∙◌, inl, inr, arith, append_assoc, append-nil, length-append}
use Rattle.std.specs.Prelude.{Bool, true, false, ◌&&◌, if◌then◌else◌, nat_le, Option, Some, None, Result, Ok, Err, List, [], ◌∷◌, ◌++◌, length, take, drop, slice_range, IsUtf8}
use Rattle.std.specs.List.{sum_by}
use Rattle.std.specs.Str.{is_utf8}
use Rattle.std.proofs.lemmas.List.{length-drop, take_all}
use Rattle.std.proofs.lemmas.List.Sums.{sum_by-append}
use Rattle.morsel_meaning.specs.declared.fault.ComputeKind.TheVariants as kinds
use Rattle.morsel_meaning.specs.declared.fault.Fault.{Fault}
use Rattle.morsel_meaning.specs.declared.fault.Fault.TheVariants as faults
use Rattle.morsel_meaning.specs.Values.{Row, kinds_of}
use Rattle.morsel_grammar.specs.Dialect.{IsDialect}
use Rattle.morsel_grammar.specs.Grammar.{CsvRecord}
use Rattle.morsel_grammar.specs.Rows.{RowOf, NoRow, IsRow, Misfit, row_of, mark_len, unmarked, behind_header}
use Rattle.morsel_grammar.specs.Reading.{used_values}
use Rattle.morsel_grammar.proofs.WholeRecordLemmas.{records_whole}
use Rattle.morsel_cut.specs.RowCounts.{row_count}
use Rattle.morsel_pipe.specs.Pieces.{Piece}
use Rattle.morsel_scan.specs.Scans.{CsvScan}
use Rattle.morsel_scan.specs.ScanColumns.{used_columns}
use Rattle.morsel_scan.specs.ScanRows.{Placed, followed_by, row_of_values, scanned, total_rows}
use Rattle.morsel_scan.specs.CsvScans.{csv_sources, csv_scan_rows, piece_keeps, piece_rows}
use Rattle.morsel_scan.specs.CsvPieces.{HaveRows, HasRowsUpTo, BeginsStretch, bytes_between, IsPieceOf}
use Rattle.morsel_scan.specs.ScanLaws.{rows_of_pieces}
use Rattle.morsel_scan.specs.StretchRows.{collected, before_fault, Gives, HasFaultWithin}
use Rattle.morsel_scan.specs.CsvAxis.{TextPart, text_parts, PartStart, start_after, scanned_within, rows_made, record_gives, part_gives, AxisPart, text_axis, file_axis, rows_counted, files_axis, last_of, gives_of, csv_keeps}
use Rattle.morsel_scan.specs.CsvAxisLaws.{GivesPieces, AreChained, ScansChained, IsAfterPieces, GivesNothingAtEnd, GivesNothingPastSlice}
use Rattle.morsel_scan.proofs.GatherLemmas.{followed_by-nothing, followed_by-end}
use Rattle.morsel_scan.proofs.StretchLemmas.{Places, collected-append, slice-append, slice_all}
use Rattle.morsel_scan.proofs.PartLemmas.{parts-whole, start_past, start_past-records}
use Rattle.morsel_scan.proofs.AxisLemmas.{Maker, length-last_of, length-gives_of, gives_of-append, text_axis-append, rows_counted-records}
use Rattle.morsel_scan.proofs.AxisFileLemmas.{file_start, bytes_of-file, bytes_of-files, rows_counted-file, MakeAlike, collected-files, made_sources-scanned, gives_scan_rows}
use Rattle.morsel_scan.proofs.MidstLemmas.{IsMidst, midst-order, midst-slice, midst-later, GivesNothing, fault-midst}
use Rattle.morsel_scan.proofs.PassedLemmas.{BeginsHere, size_of, file-cut}
use Rattle.morsel_scan.proofs.FilesPassedLemmas.{StandsIn, begin_stands, nothing_to_end}
use Rattle.morsel_scan.proofs.AxisPieceLemmas.{collected-stretch, scanned_alike, within_piece}
use Rattle.morsel_scan.proofs.AxisFaultLemmas.{piece_fault}

pub gives_pieces : (s : CsvScan) → IsDialect s.options → GivesPieces s
gives_pieces s fit = λ first head names files opened text_of piece is.
    let make : Maker = scanned_within s.scan (csv_keeps s first names files) in
    let alike : MakeAlike make (scanned s.scan (piece_keeps piece)) piece.first_row piece.rows = within_piece s first names files piece (total_rows (csv_sources s first names files)) is in
    let all = collected-stretch s make first names files piece fit is alike in
    (all.0, all.1, all.2, λ fault has. piece_fault s make first names files piece fit is alike fault has)

-- what is made of the pieces of a chain is what the places from its beginning to its end give
record GivesChain (s : CsvScan) (gives : Places) (from : ℕ) (pieces : List Piece) (to : ℕ) : Type 0 where
  order : from ≤ to
  all : collected (slice_range gives from to) ≡ rows_of_pieces s pieces

slice-nothing : (gives : Places) (from : ℕ) → slice_range gives from from ≡ []
slice-nothing gives from = let none : from - from ≡ 0 = omega arith in ap (λ n. take n (drop from gives)) none

chain_given : (s : CsvScan) (make : Maker) (first : ℕ) (names files : List (List ℕ)) (from : ℕ) (pieces : List Piece) (to : ℕ) → IsDialect s.options
    → ((piece : Piece) → IsPieceOf s first names files piece → MakeAlike make (scanned s.scan (piece_keeps piece)) piece.first_row piece.rows)
    → AreChained s first names files from pieces to → GivesChain s (gives_of (files_axis s make first 0 names files)) from pieces to
chain_given s make first names files from [] to fit alike end =
    let gives : Places = gives_of (files_axis s make first 0 names files) in record {
      order = omega (arith, end);
      all = ap (λ n. collected (slice_range gives from n)) (sym end) ∙ ap collected (slice-nothing gives from);
    }
chain_given s make first names files from (piece ∷ pieces) to fit alike (is, begin, chained) =
    let gives : Places = gives_of (files_axis s make first 0 names files) in
    let here = collected-stretch s make first names files piece fit is (alike piece is) in
    let later = chain_given s make first names files piece.to pieces to fit alike chained in
    let low = here.0 in
    let high = later.order in record {
      order = omega (arith, low, high, begin);
      all = ap (λ n. collected (slice_range gives n to)) (sym begin) ∙ ap collected (slice-append gives piece.from piece.to to low high)
          ∙ collected-append (slice_range gives piece.from piece.to) (slice_range gives piece.to to)
          ∙ ap (λ x. followed_by x (collected (slice_range gives piece.to to))) here.2 ∙ ap (followed_by (piece_rows s piece)) later.all;
    }

-- what all places give, by the first of them
whole_given : (gives : Places) (to : ℕ) → to ≤ length gives → collected gives ≡ followed_by (collected (slice_range gives 0 to)) (collected (slice_range gives to (length gives)))
whole_given gives to within =
    ap collected (sym (slice_all gives)) ∙ ap collected (slice-append gives 0 to (length gives) (omega arith) within) ∙ collected-append (slice_range gives 0 to) (slice_range gives to (length gives))

chain_scanned : (s : CsvScan) (first head given : ℕ) (names files : List (List ℕ)) (opened : List ℕ) (text_of : List Row → List ℕ) (pieces : List Piece) → IsDialect s.options
    → (let keeps = csv_keeps s first names files in
    let gives = gives_of (files_axis s (scanned_within s.scan keeps) first 0 names files) in
    let plain = gives_of (files_axis s (scanned s.scan keeps) first 0 names files) in
    AreChained s first names files 0 pieces given → given ≤ length plain → collected gives ≡ rows_of_pieces s pieces
    → (made : Result (List Row) Fault) → rows_of_pieces s pieces ≡ made → made ≡ csv_scan_rows s first names files)
chain_scanned s first head given names files opened text_of pieces fit chained within all (Ok rows) is =
    sym (gives_scan_rows s fit first head names files opened text_of rows (all ∙ is))
chain_scanned s first head given names files opened text_of pieces fit chained within all (Err fault) is =
    let keeps : ℕ → Bool = csv_keeps s first names files in
    let plain : Places = gives_of (files_axis s (scanned s.scan keeps) first 0 names files) in
    let chain = chain_given s (scanned s.scan keeps) first names files 0 pieces given fit (λ piece of. scanned_alike s first names files piece (total_rows (csv_sources s first names files)) of) chained in
    ap (λ x. followed_by x (collected (slice_range plain given (length plain)))) (sym is ∙ sym chain.all) ∙ sym (whole_given plain given within)
    ∙ collected-files s (scanned s.scan keeps) first 0 names files fit ∙ made_sources-scanned s.scan keeps 0 (csv_sources s first names files)

-- how many places there are does not hang on what is made of rows
pub same_size : (s : CsvScan) (make other : Maker) (file position more : ℕ) (names files : List (List ℕ)) → IsDialect s.options
    → length (gives_of (files_axis s make file position names files)) ≡ length (gives_of (files_axis s other file more names files))
same_size s make other file position more [] files fit = refl
same_size s make other file position more (name ∷ names) [] fit = refl
same_size s make other file position more (name ∷ names) (bytes ∷ files) fit =
    let here : List AxisPart = file_axis s make file name position bytes in
    let there : List AxisPart = file_axis s other file name more bytes in
    let rest : List AxisPart = files_axis s make (file + 1) (position + rows_counted here) names files in
    let later : List AxisPart = files_axis s other (file + 1) (more + rows_counted there) names files in
    let one : length (gives_of here) ≡ length (gives_of there) = length-gives_of here ∙ bytes_of-file s make file name position bytes fit ∙ sym (length-gives_of there ∙ bytes_of-file s other file name more bytes fit) in
    ap length (gives_of-append here rest) ∙ length-append (gives_of here) (gives_of rest) ∙ ap (λ n. n + length (gives_of rest)) one
    ∙ ap (λ n. length (gives_of there) + n) (same_size s make other (file + 1) (position + rows_counted here) (more + rows_counted there) names files fit)
    ∙ sym (ap length (gives_of-append there later) ∙ length-append (gives_of there) (gives_of later))

pub scans_chained : (s : CsvScan) → IsDialect s.options → ScansChained s
scans_chained s fit = λ first head given names files opened text_of pieces chained rest.
    let keeps : ℕ → Bool = csv_keeps s first names files in
    let make : Maker = scanned_within s.scan keeps in
    let gives : Places = gives_of (files_axis s make first 0 names files) in
    let chain = chain_given s make first names files 0 pieces given fit (λ piece of. within_piece s first names files piece (total_rows (csv_sources s first names files)) of) chained in
    let size = same_size s make (scanned s.scan keeps) first 0 0 names files fit in
    let order = rest.order in
    let all : collected gives ≡ rows_of_pieces s pieces =
    whole_given gives given rest.order ∙ ap (λ x. followed_by x (collected (slice_range gives given (length gives)))) chain.all
    ∙ ap (followed_by (rows_of_pieces s pieces)) rest.all ∙ followed_by-end (rows_of_pieces s pieces) in
    chain_scanned s first head given names files opened text_of pieces fit chained (omega (arith, size, order)) all (rows_of_pieces s pieces) refl

pub given_nothing : (gives : Places) (from to : ℕ) → to ≡ length gives → GivesNothing gives from to → Gives gives from (length gives) []
given_nothing gives from to end none =
    let order = midst-order none.is in
    let low = order.0 in record {
      order = omega (arith, end, low);
      within = omega arith;
      all = ap (λ n. collected (slice_range gives from n)) (sym end) ∙ ap collected (midst-slice none.is) ∙ none.nothing;
    }

-- after all places there is none
pub none_left : (gives : Places) (from : ℕ) → from ≡ length gives → Gives gives from (length gives) []
none_left gives from end = record {
  order = omega (arith, end);
  within = omega arith;
  all = ap (λ n. collected (slice_range gives n (length gives))) end ∙ ap collected (slice-nothing gives (length gives));
}

at_end : (s : CsvScan) (make : Maker) (first given rows : ℕ) (names files : List (List ℕ)) → IsDialect s.options → length names ≡ length files → IsAfterPieces s files given rows → HaveRows s files rows
    → ((number : ℕ) → IsUtf8 (bytes_between files number given (sum_by length files)))
    → (let gives = gives_of (files_axis s make first 0 names files) in Gives gives given (length gives) [])
at_end s make first given rows names files fit same (inr end) have utf8 =
    let parts : List AxisPart = files_axis s make first 0 names files in
    none_left (gives_of parts) given (end ∙ sym (length-gives_of parts ∙ bytes_of-files s make first 0 names files fit same))
at_end s make first given rows names files fit same (inl begins) have utf8 =
    let parts : List AxisPart = files_axis s make first 0 names files in
    let begin = begin_stands s files given rows begins in
    given_nothing (gives_of parts) given (sum_by length files) (sym (length-gives_of parts ∙ bytes_of-files s make first 0 names files fit same))
    (nothing_to_end s make first 0 names files begin.0 given rows fit same begin.1 have utf8)

pub gives_nothing_at_end : (s : CsvScan) → IsDialect s.options → GivesNothingAtEnd s
gives_nothing_at_end s fit = λ first head given rows names files opened text_of same ends have utf8.
    at_end s (scanned_within s.scan (csv_keeps s first names files)) first given rows names files fit same ends have utf8

-- each of the places gives no rows, or has a fault
abbrev pub GiveNoRows : Places → Type 0
GiveNoRows [] = Unit {0}
GiveNoRows (Ok rows ∷ later) = (rows ≡ []) × GiveNoRows later
GiveNoRows (Err fault ∷ later) = GiveNoRows later

no_rows-append : (xs ys : Places) → GiveNoRows xs → GiveNoRows ys → GiveNoRows (xs ++ ys)
no_rows-append [] ys one two = two
no_rows-append (Ok rows ∷ xs) ys (none, one) two = (none, no_rows-append xs ys one two)
no_rows-append (Err fault ∷ xs) ys one two = no_rows-append xs ys one two

no_rows-last : (n : ℕ) (given : Result (List Row) Fault) → GiveNoRows (given ∷ []) → GiveNoRows (last_of n (Ok []) given)
no_rows-last zero given none = tt
no_rows-last (suc zero) given none = none
no_rows-last (suc (suc n)) given none = (refl, no_rows-last (suc n) given none)

-- of rows from a position on nothing is made
abbrev pub MakesNothing : Maker → ℕ → Type 0
MakesNothing make position = (row : Placed) → position ≤ row.position → make row ≡ Ok None

record_no_rows : (make : Maker) (start : PartStart) (row : RowOf) → MakesNothing make start.position → GiveNoRows (record_gives make start row ∷ [])
record_no_rows make start NoRow none = (refl, tt)
record_no_rows make start (IsRow cells) none =
    let one : Placed = record { position = start.position; file = start.file; source = start.name; at = start.at; cells = cells } in
    let made : rows_made (make one) ≡ Ok [] = ap rows_made (none one (omega arith)) in
    subst (λ (x : Result (List Row) Fault). GiveNoRows (x ∷ [])) (sym made) (refl, tt)
record_no_rows make start Misfit none = tt

part_no_rows : (s : CsvScan) (make : Maker) (start : PartStart) (bytes : List ℕ) (found : Option CsvRecord) → MakesNothing make start.position → GiveNoRows (part_gives s make start bytes found ∷ [])
part_no_rows s make start bytes None none = tt
part_no_rows s make start bytes (Some r) none = by (is_utf8 bytes) start.awaits_header
  where
    by : (t head : Bool) → GiveNoRows ((if t then (if head then Ok [] else record_gives make start (row_of s.options (kinds_of s.scan.fields) r)) else Err (faults.ComputeError kinds.NotUtf8 start.file start.at)) ∷ [])
    by false head = tt
    by true true = (refl, tt)
    by true false = record_no_rows make start (row_of s.options (kinds_of s.scan.fields) r) none

pub makes_later : (make : Maker) (position more : ℕ) → position ≤ more → MakesNothing make position → MakesNothing make more
makes_later make position more order none = λ row from. none row (omega arith)

text_no_rows : (s : CsvScan) (make : Maker) (start : PartStart) (parts : List TextPart) → MakesNothing make start.position → GiveNoRows (gives_of (text_axis s make start parts))
text_no_rows s make start [] none = tt
text_no_rows s make start (part ∷ parts) none =
    let after : PartStart = start_after (length s.scan.fields) start part in
    no_rows-append (last_of (length part.bytes) (Ok []) (part_gives s make start part.bytes part.found)) (gives_of (text_axis s make after parts))
    (no_rows-last (length part.bytes) (part_gives s make start part.bytes part.found) (part_no_rows s make start part.bytes part.found none))
    (text_no_rows s make after parts (makes_later make start.position after.position (omega arith) none))

file_no_rows : (s : CsvScan) (make : Maker) (file : ℕ) (name : List ℕ) (position : ℕ) (bytes : List ℕ) → MakesNothing make position → GiveNoRows (gives_of (file_axis s make file name position bytes))
file_no_rows s make file name position bytes none =
    let start : PartStart = file_start s file name position bytes in
    no_rows-append (last_of (mark_len bytes) (Ok []) (Ok [])) (gives_of (text_axis s make start (text_parts s.options (unmarked bytes))))
    (no_rows-last (mark_len bytes) (Ok []) (refl, tt)) (text_no_rows s make start (text_parts s.options (unmarked bytes)) none)

files_no_rows : (s : CsvScan) (make : Maker) (file position : ℕ) (names files : List (List ℕ)) → MakesNothing make position → GiveNoRows (gives_of (files_axis s make file position names files))
files_no_rows s make file position [] files none = tt
files_no_rows s make file position (name ∷ names) [] none = tt
files_no_rows s make file position (name ∷ names) (bytes ∷ files) none =
    let here : List AxisPart = file_axis s make file name position bytes in
    let rest : List AxisPart = files_axis s make (file + 1) (position + rows_counted here) names files in
    subst GiveNoRows (sym (gives_of-append here rest))
    (no_rows-append (gives_of here) (gives_of rest) (file_no_rows s make file name position bytes none)
    (files_no_rows s make (file + 1) (position + rows_counted here) names files (makes_later make position (position + rows_counted here) (omega arith) none)))

-- of rows that the slice does not keep nothing is made
kept_nothing : (s : CsvScan) (first : ℕ) (names files : List (List ℕ)) (rows : ℕ) → ((position : ℕ) → rows ≤ position → csv_keeps s first names files position ≡ false)
    → MakesNothing (scanned_within s.scan (csv_keeps s first names files)) (0 + rows)
kept_nothing s first names files rows keeps_none = λ row from.
    ap (λ t. if t && nat_le 4294967295 row.position then Err (faults.ComputeError kinds.TooManyRows 4294967295 0) else (if t then row_of_values s.scan row (used_values (used_columns s.scan) row.cells) else Ok None))
    (keeps_none row.position (omega arith))

-- the last places give no rows
record GivesNoMore (gives : Places) (from : ℕ) : Type 0 where
  mid : Places
  is : IsMidst gives from (length gives) mid
  none : GiveNoRows mid

no_more-all : (gives : Places) (from : ℕ) → from ≡ 0 → GiveNoRows gives → GivesNoMore gives from
no_more-all gives from begin none = record {
  mid = gives;
  is = record { before = []; after = []; split = sym (append-nil gives); from_is = begin; to_is = omega (arith, begin) };
  none = none;
}

no_more-later : (front gives : Places) (from : ℕ) → GivesNoMore gives from → GivesNoMore (front ++ gives) (length front + from)
no_more-later front gives from more = record {
  mid = more.mid;
  is = subst (λ n. IsMidst (front ++ gives) (length front + from) n more.mid) (sym (length-append front gives)) (midst-later front gives from (length gives) more.mid more.is);
  none = more.none;
}

no_more-over : (before mid more : Places) (gives : Places) (from : ℕ) → gives ≡ before ++ mid → from ≡ length before → GiveNoRows mid → GiveNoRows more → GivesNoMore (gives ++ more) from
no_more-over before mid more gives from split begin one two =
    let whole : gives ++ more ≡ before ++ (mid ++ more) = ap (λ (x : Places). x ++ more) split ∙ append_assoc before mid more in
    let size : length (gives ++ more) ≡ length before + length (mid ++ more) = ap length whole ∙ length-append before (mid ++ more) in record {
      mid = mid ++ more;
      is = record { before = before; after = []; split = whole ∙ ap (λ (x : Places). before ++ x) (sym (append-nil (mid ++ more))); from_is = begin; to_is = omega (arith, size, begin) };
      none = no_rows-append mid more one two;
    }

no_more-same : (gives other : Places) (from begin : ℕ) → gives ≡ other → from ≡ begin → GivesNoMore gives from → GivesNoMore other begin
no_more-same gives other from begin one two more = subst (λ n. GivesNoMore other n) two (subst (λ (x : Places). GivesNoMore x from) one more)

-- a file has all rows before a place of it
pub rows_within : (s : CsvScan) (make : Maker) (file : ℕ) (name : List ℕ) (position : ℕ) (bytes : List ℕ) (at rows : ℕ) (awaits_header : Bool) → IsDialect s.options → HasRowsUpTo s bytes at rows awaits_header
    → rows ≤ rows_counted (file_axis s make file name position bytes)
rows_within s make file name position bytes at rows awaits_header fit has =
    let start : PartStart = file_start s file name position bytes in
    let past : PartStart = start_past (length s.scan.fields) start (text_parts s.options has.front) in
    let front : List AxisPart = text_axis s make start (text_parts s.options has.front) in
    let rest : List AxisPart = text_axis s make past (text_parts s.options has.rest) in
    let cut : text_axis s make start (text_parts s.options (unmarked bytes)) ≡ front ++ rest =
    ap (text_axis s make start) (ap (text_parts s.options) has.split ∙ parts-whole s.options has.front has.rest has.records fit has.whole) ∙ text_axis-append s make start (text_parts s.options has.front) (text_parts s.options has.rest) in
    let all : rows_counted (file_axis s make file name position bytes) ≡ rows_counted front + rows_counted rest =
    rows_counted-file s make file name position bytes ∙ ap rows_counted cut ∙ sum_by-append (λ (x : AxisPart). if x.counts then 1 else 0) front rest in
    let first = rows_counted-records s make start has.front has.records fit (records_whole s.options has.front has.records fit has.whole) in
    let counted = has.rows_are in
    omega (arith, all, first, counted)

-- from where nothing is made of rows, no place gives any
no_more_given : (s : CsvScan) (make : Maker) (file position : ℕ) (names files : List (List ℕ)) (i from rows : ℕ) → IsDialect s.options → length names ≡ length files
    → StandsIn s (BeginsHere s) files i from rows → MakesNothing make (position + rows) → GivesNoMore (gives_of (files_axis s make file position names files)) from
no_more_given s make file position names [] i from rows fit same begin none = absurd begin
no_more_given s make file position [] (bytes ∷ files) i from rows fit same begin none = absurd (omega (arith, same))
no_more_given s make file position (name ∷ names) (bytes ∷ files) zero from rows fit same (inr (begin, first)) none =
    no_more-all (gives_of (files_axis s make file position (name ∷ names) (bytes ∷ files))) from begin
    (files_no_rows s make file position (name ∷ names) (bytes ∷ files) (makes_later make (position + rows) position (omega (arith, first)) none))
no_more_given s make file position (name ∷ names) (bytes ∷ files) zero from rows fit same (inl (awaits_header, has)) none =
    let columns : ℕ = length s.scan.fields in
    let here : List AxisPart = file_axis s make file name position bytes in
    let rest : List AxisPart = files_axis s make (file + 1) (position + rows_counted here) names files in
    let start : PartStart = file_start s file name position bytes in
    let past : PartStart = start_past columns start (text_parts s.options has.front) in
    let mark : Places = last_of (mark_len bytes) (Ok []) (Ok []) in
    let before : Places = gives_of (text_axis s make start (text_parts s.options has.front)) in
    let mid : Places = gives_of (text_axis s make past (text_parts s.options has.rest)) in
    let one : length mark ≡ mark_len bytes = length-last_of (mark_len bytes) (Ok []) (Ok []) in
    let two : length before ≡ length has.front = size_of s make start has.front fit in
    let place = has.place in
    let counted = has.rows_are in
    let at : past.position ≡ position + row_count columns (behind_header s.options.has_header has.records) =
    ap (λ (x : PartStart). x.position) (start_past-records s.options columns start has.front has.records fit (records_whole s.options has.front has.records fit has.whole)) in
    let all : rows ≤ rows_counted here = rows_within s make file name position bytes from rows awaits_header fit has in
    no_more-same (gives_of here ++ gives_of rest) (gives_of (here ++ rest)) from from (sym (gives_of-append here rest)) refl
    (no_more-over (mark ++ before) mid (gives_of rest) (gives_of here) from
    (file-cut s make file name position bytes has.front has.rest has.records fit has.split (inl has.whole) ∙ sym (append_assoc mark before mid))
    (omega (arith, length-append mark before, one, two, place))
    (text_no_rows s make past (text_parts s.options has.rest) (makes_later make (position + rows) past.position (omega (arith, at, counted)) none))
    (files_no_rows s make (file + 1) (position + rows_counted here) names files (makes_later make (position + rows) (position + rows_counted here) (omega (arith, all)) none)))
no_more_given s make file position (name ∷ names) (bytes ∷ files) (suc i) from rows fit same (later, more, records, split, stands, place, all) none =
    let here : List AxisPart = file_axis s make file name position bytes in
    let rest : List AxisPart = files_axis s make (file + 1) (position + rows_counted here) names files in
    let size : length (gives_of here) ≡ length bytes = length-gives_of here ∙ bytes_of-file s make file name position bytes fit in
    let count : rows_counted here ≡ row_count (length s.scan.fields) (behind_header s.options.has_header records) =
    rows_counted-file s make file name position bytes ∙ rows_counted-records s make (file_start s file name position bytes) (unmarked bytes) records fit split in
    no_more-same (gives_of here ++ gives_of rest) (gives_of (here ++ rest)) (length (gives_of here) + later) from (sym (gives_of-append here rest)) (omega (arith, size, place))
    (no_more-later (gives_of here) (gives_of rest) later
    (no_more_given s make (file + 1) (position + rows_counted here) names files i later more fit (omega (arith, same)) stands
    (makes_later make (position + rows) (position + rows_counted here + more) (omega (arith, count, all)) none)))

-- places without rows have none before a fault
none_before_fault : (xs : Places) → GiveNoRows xs → before_fault xs ≡ []
none_before_fault [] none = refl
none_before_fault (Err fault ∷ xs) none = refl
none_before_fault (Ok rows ∷ xs) (empty, none) = ap (λ (r : List Row). r ++ before_fault xs) empty ∙ none_before_fault xs none

-- what comes after the places before one is what lies from it to the end
slice_to_end : (gives : Places) (from : ℕ) → slice_range gives from (length gives) ≡ drop from gives
slice_to_end gives from = take_all (length gives - from) (drop from gives) (let size = length-drop from gives in omega (arith, size))

-- from where a slice keeps no row, no row comes before a fault
pub none_past_slice : (s : CsvScan) (first given rows : ℕ) (names files : List (List ℕ)) → IsDialect s.options → length names ≡ length files → BeginsStretch s files given rows
    → ((position : ℕ) → rows ≤ position → csv_keeps s first names files position ≡ false)
    → before_fault (drop given (gives_of (files_axis s (scanned_within s.scan (csv_keeps s first names files)) first 0 names files))) ≡ []
none_past_slice s first given rows names files fit same begins keeps_none =
    let gives : Places = gives_of (files_axis s (scanned_within s.scan (csv_keeps s first names files)) first 0 names files) in
    let begin = begin_stands s files given rows begins in
    let more = no_more_given s (scanned_within s.scan (csv_keeps s first names files)) first 0 names files begin.0 given rows fit same begin.1 (kept_nothing s first names files rows keeps_none) in
    ap before_fault (sym (slice_to_end gives given) ∙ midst-slice more.is) ∙ none_before_fault more.mid more.none

-- places without rows and without a fault give nothing
no_fault_left : (xs : Places) → GiveNoRows xs → ((fault : Fault) (before after : Places) → xs ≡ before ++ Err fault ∷ after → ⊥) → collected xs ≡ Ok []
no_fault_left [] none sound = refl
no_fault_left (Err fault ∷ xs) none sound = absurd (sound fault [] xs refl)
no_fault_left (Ok rows ∷ xs) (empty, none) sound =
    ap (λ (r : List Row). followed_by (Ok r) (collected xs)) empty ∙ followed_by-nothing (collected xs)
    ∙ no_fault_left xs none (λ fault before after is. sound fault (Ok rows ∷ before) after (ap (λ (x : Places). Ok rows ∷ x) is))

past_slice : (s : CsvScan) (make : Maker) (first given rows : ℕ) (names files : List (List ℕ)) → IsDialect s.options → length names ≡ length files → MakesNothing make (0 + rows) → IsAfterPieces s files given rows
    → (let gives = gives_of (files_axis s make first 0 names files) in
    ((fault : Fault) → HasFaultWithin gives given (length gives) fault → ⊥) → Gives gives given (length gives) [])
past_slice s make first given rows names files fit same none (inr end) sound =
    let parts : List AxisPart = files_axis s make first 0 names files in
    none_left (gives_of parts) given (end ∙ sym (length-gives_of parts ∙ bytes_of-files s make first 0 names files fit same))
past_slice s make first given rows names files fit same none (inl begins) sound =
    let gives : Places = gives_of (files_axis s make first 0 names files) in
    let begin = begin_stands s files given rows begins in
    let more = no_more_given s make first 0 names files begin.0 given rows fit same begin.1 none in
    given_nothing gives given (length gives) refl (record {
      mid = more.mid;
      is = more.is;
      nothing = no_fault_left more.mid more.none (λ fault before after is. sound fault (fault-midst gives given (length gives) more.mid before after fault more.is is));
    })

pub gives_nothing_past_slice : (s : CsvScan) → IsDialect s.options → GivesNothingPastSlice s
gives_nothing_past_slice s fit = λ first head given rows names files opened text_of same ends keeps_none sound.
    past_slice s (scanned_within s.scan (csv_keeps s first names files)) first given rows names files fit same (kept_nothing s first names files rows keeps_none) ends sound
