-- Where a reader stands, no place that was asked and is in no piece has a fault: what was passed is UTF-8 and has no row, and after it at most the beginning of one record was asked.
use Rattle.std.proofs.Common.{◌≡◌, ℕ, zero, suc, ◌+◌, ◌-◌, ◌<◌, ◌≤◌, ap, sym, subst, refl, ◌∙◌, inl, inr, arith, append_assoc, append-nil, length-append}
use Rattle.std.proofs.lemmas.List.{drop-drop, drop_at}
use Rattle.std.proofs.lemmas.List.Sums.{sum_by-cons}
use Rattle.std.proofs.lemmas.Option.{slice_get-get_or}
use Rattle.std.specs.Prelude.{Bool, ◌⊎◌, Option, Some, None, Result, Ok, Err, List, [], ◌∷◌, ◌++◌, length, take, drop, get_or, slice_get, IsUtf8}
use Rattle.std.specs.List.{sum_by}
use Rattle.morsel_meaning.specs.declared.fault.Fault.{Fault}
use Rattle.morsel_meaning.specs.Values.{Row}
use Rattle.morsel_grammar.specs.Dialect.{Dialect, IsDialect}
use Rattle.morsel_grammar.specs.Grammar.{CsvRecord, IsRecord}
use Rattle.morsel_grammar.specs.Rows.{mark_len, unmarked, behind_header}
use Rattle.morsel_grammar.specs.Cuts.{BeginsNoWholeRecord}
use Rattle.morsel_grammar.proofs.FirstRecordLemmas.{IsTaken}
use Rattle.morsel_grammar.proofs.WholeRecordLemmas.{record_again}
use Rattle.morsel_cut.specs.RowCounts.{row_count}
use Rattle.morsel_outside.specs.Outside.{Outside}
use Rattle.morsel_scan.specs.Scans.{CsvScan}
use Rattle.morsel_scan.specs.CsvPieces.{HaveRows, BeginsStretch, bytes_between}
use Rattle.morsel_scan.specs.CsvAxis.{text_parts, PartStart, start_after, scanned_within, AxisPart, text_axis, file_axis, rows_counted, files_axis, last_of, gives_of, csv_keeps, csv_axis}
use Rattle.morsel_scan.specs.StretchRows.{collected, HasFaultWithin}
use Rattle.morsel_scan.specs.FileReads.{HoldsNoRecord}
use Rattle.morsel_scan.specs.Blocks.{given_to, IsLastCut}
use Rattle.morsel_scan.specs.RowBlocks.{RowsRead, HasRowsBeforePlace}
use Rattle.morsel_scan.proofs.StretchLemmas.{Places, followed_by-ok}
use Rattle.morsel_scan.proofs.BlockLemmas.{holds_no_record}
use Rattle.morsel_scan.proofs.FrontLemmas.{text-taken}
use Rattle.morsel_scan.proofs.PartLemmas.{by_records, found_part, parts-none, parts-record, start_past}
use Rattle.morsel_scan.proofs.AxisLemmas.{Maker, length-last_of, length-gives_of, gives_of-append, collected-nothing}
use Rattle.morsel_scan.proofs.AxisFileLemmas.{file_start, mark_size, bytes_of-file}
use Rattle.morsel_scan.proofs.MidstLemmas.{GivesNothing, nothing-later, nothing-first, nothing-over}
use Rattle.morsel_scan.proofs.PassedLemmas.{AreRowsUpTo, rows_upto, rows_upto_end, BeginsHere, size_of, file-cut}
use Rattle.morsel_scan.proofs.FilesPassedLemmas.{StandsIn, stands_at, begin_stands, nothing_passed}
use Rattle.morsel_read.specs.ScanReads.{PiecesRead, settled_within, asked_within, asked_to, IsCurrent, AreOpen, HasGivenWithin, HasGivenRows}
use Rattle.morsel_read.proofs.HeldLemmas.{take-over}
use Rattle.morsel_read.proofs.SliceLemmas.{split}
use Rattle.morsel_read.proofs.SourceLemmas.{get_less, told_len, told_sum}

-- no place has a fault
abbrev pub HasNoFault : Places → ℕ → ℕ → Type 0
HasNoFault gives from to = (fault : Fault) → HasFaultWithin gives from to fault → ⊥

get_first : (xs ys : Places) (n : ℕ) → n < length xs → slice_get (xs ++ ys) n ≡ slice_get xs n
get_first [] ys n less = absurd (omega (arith, less))
get_first (x ∷ xs) ys zero less = refl
get_first (x ∷ xs) ys (suc n) less = get_first xs ys n (omega (arith, less))

get_past : (xs ys : Places) (n : ℕ) → length xs ≤ n → slice_get (xs ++ ys) n ≡ slice_get ys (n - length xs)
get_past [] ys n past = let same : n ≡ n - 0 = omega arith in ap (slice_get ys) same
get_past (x ∷ xs) ys zero past = absurd (omega (arith, past))
get_past (x ∷ xs) ys (suc n) past = let same : n - length xs ≡ suc n - suc (length xs) = omega arith in get_past xs ys n (omega (arith, past)) ∙ ap (slice_get ys) same

-- places that give rows have no fault
no_fault_among : (xs : Places) (n : ℕ) (rows : List Row) (fault : Fault) → collected xs ≡ Ok rows → slice_get xs n ≡ Some (Err fault) → ⊥
no_fault_among [] n rows fault all is = absurd (cc)
no_fault_among (x ∷ xs) zero rows fault all is =
    let both = followed_by-ok x (collected xs) rows all in
    let one : x ≡ Err fault = cc in
    let other : x ≡ Ok both.0 = both.2 in absurd (cc)
no_fault_among (x ∷ xs) (suc n) rows fault all is = let both = followed_by-ok x (collected xs) rows all in no_fault_among xs n both.1 fault both.3 is

no_fault : (gives : Places) (from to : ℕ) → GivesNothing gives from to → HasNoFault gives from to
no_fault gives from to none = λ fault found.
    let is = none.is in
    let one = is.from_is in
    let two = is.to_is in
    let low = found.1 in
    let high = found.2 in
    let there : slice_get gives found.0 ≡ slice_get none.mid (found.0 - length is.before) =
    ap (λ (x : Places). slice_get x found.0) is.split ∙ get_past is.before (none.mid ++ is.after) found.0 (omega (arith, one, low))
    ∙ get_first none.mid is.after (found.0 - length is.before) (omega (arith, one, two, low, high)) in
    no_fault_among none.mid (found.0 - length is.before) [] fault none.nothing (sym there ∙ found.3)

-- no place has a fault from one to another, where none has one up to a place between them, and none from it on
pub no_fault_between : (gives : Places) (from mid to : ℕ) → HasNoFault gives from mid → HasNoFault gives mid to → HasNoFault gives from to
no_fault_between gives from mid to first later = λ fault (place, low, high, is). by fault place low high is (split place mid)
  where
    by : (fault : Fault) (place : ℕ) → from ≤ place → place < to → slice_get gives place ≡ Some (Err fault) → (place < mid) ⊎ (mid ≤ place) → ⊥
    by fault place low high is (inl less) = first fault (place, low, less, is)
    by fault place low high is (inr past) = later fault (place, past, high, is)

-- where there is no place, none has a fault
no_fault_here : (gives : Places) (from to : ℕ) → to ≤ from → HasNoFault gives from to
no_fault_here gives from to none = λ fault (place, low, high, is). omega (arith, none, low, high)

no_fault_as : (gives : Places) (from to begin end : ℕ) → begin ≡ from → end ≡ to → HasNoFault gives from to → HasNoFault gives begin end
no_fault_as gives from to begin end one two none = λ fault (place, low, high, is). none fault (place, omega (arith, one, low), omega (arith, two, high), is)

nothing_as : (gives other : Places) (from to begin end : ℕ) → gives ≡ other → from ≡ begin → to ≡ end → GivesNothing gives from to → GivesNothing other begin end
nothing_as gives other from to begin end one two three none =
    subst (λ n. GivesNothing other begin n) three (subst (λ n. GivesNothing other n to) two (subst (λ (x : Places). GivesNothing x from to) one none))

-- some of the bytes before the last one
last_split : (k n : ℕ) (given : Result (List Row) Fault) → k < n → (more : Places) × (last_of n (Ok []) given ≡ last_of k (Ok []) (Ok []) ++ more)
last_split zero n given less = (last_of n (Ok []) given, refl)
last_split (suc k) zero given less = absurd (omega (arith, less))
last_split (suc k) (suc zero) given less = absurd (omega (arith, less))
last_split (suc zero) (suc (suc n)) given less = (last_of (suc n) (Ok []) given, refl)
last_split (suc (suc k)) (suc (suc n)) given less =
    let more = last_split (suc k) (suc n) given (omega (arith, less)) in (more.0, ap (λ (x : Places). Ok [] ∷ x) more.1)

nothing_of : (n : ℕ) → collected (last_of n (Ok []) (Ok [])) ≡ Ok []
nothing_of n = let mark : Places = last_of n (Ok []) (Ok []) in ap collected (sym (append-nil mark)) ∙ collected-nothing n []

-- fewer bytes than a part has give nothing
part_front : (k n : ℕ) (given : Result (List Row) Fault) (later : Places) → k < n → GivesNothing (last_of n (Ok []) given ++ later) 0 k
part_front k n given later less =
    let front : Places = last_of k (Ok []) (Ok []) in
    let more = last_split k n given less in
    let size : length front ≡ k = length-last_of k (Ok []) (Ok []) in record {
      mid = front;
      is = record {
        before = [];
        after = more.0 ++ later;
        split = ap (λ (x : Places). x ++ later) more.1 ∙ append_assoc front more.0 later;
        from_is = refl;
        to_is = omega (arith, size);
      };
      nothing = nothing_of k;
    }

-- the first record of a text has more bytes than a front of the text that begins with no whole record
record_longer : (o : Dialect) (r : CsvRecord) (text next bytes : List ℕ) (k : ℕ) → IsDialect o → IsTaken o r text next bytes → k < length text → BeginsNoWholeRecord o (take k text) → k < length bytes
record_longer o r text next bytes k fit taken less none = by (split k (length bytes)) taken.end
  where
    size : length text ≡ length bytes + length next
    size = ap length taken.split ∙ length-append bytes next

    by : (k < length bytes) ⊎ (length bytes ≤ k) → (next ≡ []) ⊎ ((line : List ℕ) × (bytes ≡ line ++ o.eol ∷ [])) → k < length bytes
    by (inl shorter) end = shorter
    by (inr longer) (inl last) = let nothing : length next ≡ 0 = ap length last in absurd (omega (arith, less, longer, size, nothing))
    by (inr longer) (inr (line, is)) = absurd (
        let more : List ℕ = take (k - length bytes) next in
        let count : k ≡ length bytes + (k - length bytes) = omega (arith, longer) in
        let split : text ≡ line ++ o.eol ∷ next = taken.split ∙ ap (λ (x : List ℕ). x ++ next) is ∙ append_assoc line (o.eol ∷ []) next in
        let front : take k text ≡ line ++ o.eol ∷ more =
        ap (take k) taken.split ∙ ap (λ n. take n (bytes ++ next)) count ∙ take-over (k - length bytes) bytes next
        ∙ ap (λ (x : List ℕ). x ++ more) is ∙ append_assoc line (o.eol ∷ []) more in
        let P : List ℕ → Type 0 = λ x. IsRecord o r x more in
        none r line more front (subst P (sym front) (record_again o r text line next fit taken.is split more))
        )

-- a front of a text, shorter than the text, that begins with no whole record gives nothing
text_front : (s : CsvScan) (make : Maker) → IsDialect s.options → (text : List ℕ) (start : PartStart) (k : ℕ) → k < length text → BeginsNoWholeRecord s.options (take k text)
    → GivesNothing (gives_of (text_axis s make start (text_parts s.options text))) 0 k
text_front s make fit text =
    let P : List ℕ → Type 0 = λ text. (start : PartStart) (k : ℕ) → k < length text → BeginsNoWholeRecord s.options (take k text)
    → GivesNothing (gives_of (text_axis s make start (text_parts s.options text))) 0 k in
    by_records s.options P fit (record {
      nothing = λ start k less stays. absurd (omega (arith, less));
      none = λ text some none start k less stays. subst (λ parts. GivesNothing (gives_of (text_axis s make start parts)) 0 k) (sym (parts-none s.options text fit some none))
          (part_front k (length text) _ [] less);
      first = λ r text next bytes taken later start k less stays.
          subst (λ parts. GivesNothing (gives_of (text_axis s make start parts)) 0 k) (sym (parts-record s.options r text next bytes fit taken))
          (part_front k (length bytes) _ (gives_of (text_axis s make (start_after (length s.scan.fields) start (found_part bytes r)) (text_parts s.options next)))
          (record_longer s.options r text next bytes k fit taken less stays));
    }) text

-- what was asked of a file after the place up to which it was given gives nothing, where it is not the rest of the file and begins with no whole record
file_front : (s : CsvScan) (make : Maker) (file : ℕ) (name : List ℕ) (position : ℕ) (bytes : List ℕ) (at asked rows : ℕ) (awaits_header : Bool) → IsDialect s.options
    → HasRowsBeforePlace s bytes at rows awaits_header → HoldsNoRecord s.options bytes at asked → at ≤ asked → asked < length bytes
    → GivesNothing (gives_of (file_axis s make file name position bytes)) at asked
file_front s make file name position bytes zero asked rows awaits_header fit before none order less = by (split asked (mark_len bytes))
  where
    start : PartStart
    start = file_start s file name position bytes

    text : Places
    text = gives_of (text_axis s make start (text_parts s.options (unmarked bytes)))

    mark : Places
    mark = last_of (mark_len bytes) (Ok []) (Ok [])

    by : (asked < mark_len bytes) ⊎ (mark_len bytes ≤ asked) → GivesNothing (mark ++ text) 0 asked
    by (inl within) = part_front asked (mark_len bytes) (Ok []) text within
    by (inr past) =
        let k : ℕ = asked - mark_len bytes in
        let count : asked - 0 ≡ mark_len bytes + k = omega (arith, past) in
        let same : unmarked (take (asked - 0) bytes) ≡ take k (unmarked bytes) = ap (λ n. unmarked (take n bytes)) count ∙ text-taken 0 k bytes in
        let size = mark_size bytes in
        let one : length mark ≡ mark_len bytes = length-last_of (mark_len bytes) (Ok []) (Ok []) in
        let front = text_front s make fit (unmarked bytes) start k (omega (arith, size, less, past)) (subst (BeginsNoWholeRecord s.options) same none) in
        subst (λ n. GivesNothing (mark ++ text) 0 n) (let all : length mark + k ≡ asked = omega (arith, one, past) in all)
        (nothing-over mark text 0 k (record {
          mid = mark;
          is = record { before = []; after = []; split = sym (append-nil mark); from_is = refl; to_is = omega arith };
          nothing = nothing_of (mark_len bytes);
        }) front)
file_front s make file name position bytes (suc at) asked rows awaits_header fit (inl start) none order less = absurd (let no = start.0 in omega (arith, no))
file_front s make file name position bytes (suc at) asked rows awaits_header fit (inr has) none order less =
    let begin : PartStart = file_start s file name position bytes in
    let past : PartStart = start_past (length s.scan.fields) begin (text_parts s.options has.front) in
    let mark : Places = last_of (mark_len bytes) (Ok []) (Ok []) in
    let front : Places = gives_of (text_axis s make begin (text_parts s.options has.front)) in
    let rest : Places = gives_of (text_axis s make past (text_parts s.options has.rest)) in
    let k : ℕ = asked - suc at in
    let place = has.place in
    let one : length mark ≡ mark_len bytes = length-last_of (mark_len bytes) (Ok []) (Ok []) in
    let two : length front ≡ length has.front = size_of s make begin has.front fit in
    let three = length-append mark front in
    let all = mark_size bytes in
    let size : length (unmarked bytes) ≡ length has.front + length has.rest = ap length has.split ∙ length-append has.front has.rest in
    let left : drop (suc at) bytes ≡ has.rest =
    ap (λ n. drop n bytes) has.place ∙ sym (drop-drop (length has.front) (mark_len bytes) bytes) ∙ ap (drop (length has.front)) has.split ∙ drop_at has.front has.rest (length has.front) refl in
    let here = text_front s make fit has.rest past k (omega (arith, all, size, place, less, order)) (subst (BeginsNoWholeRecord s.options) (ap (take k) left) none) in
    nothing_as ((mark ++ front) ++ rest) (gives_of (file_axis s make file name position bytes)) (length (mark ++ front) + 0) (length (mark ++ front) + k) (suc at) asked
    (append_assoc mark front rest ∙ sym (file-cut s make file name position bytes has.front has.rest has.records fit has.split (inl has.whole)))
    (omega (arith, one, two, three, place)) (omega (arith, one, two, three, place, order)) (nothing-later (mark ++ front) rest 0 k here)

-- places of one of the files that give nothing, among those of all
among_files : (s : CsvScan) (make : Maker) (file position : ℕ) (names files : List (List ℕ)) (source : ℕ) (bytes : List ℕ) (from to : ℕ) → IsDialect s.options → length names ≡ length files
    → slice_get files source ≡ Some bytes → ((file : ℕ) (name : List ℕ) (position : ℕ) → GivesNothing (gives_of (file_axis s make file name position bytes)) from to)
    → GivesNothing (gives_of (files_axis s make file position names files)) (sum_by length (take source files) + from) (sum_by length (take source files) + to)
among_files s make file position names [] source bytes from to fit same is here = absurd (cc)
among_files s make file position [] (first ∷ files) source bytes from to fit same is here = absurd (omega (arith, same))
among_files s make file position (name ∷ names) (first ∷ files) zero bytes from to fit same is here =
    let one : bytes ≡ first = cc in
    let axis : List AxisPart = file_axis s make file name position first in
    let later : List AxisPart = files_axis s make (file + 1) (position + rows_counted axis) names files in
    nothing_as (gives_of axis ++ gives_of later) (gives_of (axis ++ later)) from to (0 + from) (0 + to) (sym (gives_of-append axis later)) (omega arith) (omega arith)
    (nothing-first (gives_of axis) (gives_of later) from to (subst (λ (x : List ℕ). GivesNothing (gives_of (file_axis s make file name position x)) from to) one (here file name position)))
among_files s make file position (name ∷ names) (first ∷ files) (suc n) bytes from to fit same is here =
    let axis : List AxisPart = file_axis s make file name position first in
    let later : List AxisPart = files_axis s make (file + 1) (position + rows_counted axis) names files in
    let before : ℕ = sum_by length (take n files) in
    let size : length (gives_of axis) ≡ length first = length-gives_of axis ∙ bytes_of-file s make file name position first fit in
    let sum = sum_by-cons length first (take n files) in
    nothing_as (gives_of axis ++ gives_of later) (gives_of (axis ++ later)) (length (gives_of axis) + (before + from)) (length (gives_of axis) + (before + to))
    (sum_by length (first ∷ take n files) + from) (sum_by length (first ∷ take n files) + to) (sym (gives_of-append axis later)) (omega (arith, size, sum)) (omega (arith, size, sum))
    (nothing-later (gives_of axis) (gives_of later) (before + from) (before + to)
    (among_files s make (file + 1) (position + rows_counted axis) names files n bytes from to fit (omega (arith, same)) is here))

-- the rows of some files are those up to the end of the last of them
ends_stands : (s : CsvScan) (files : List (List ℕ)) (n rows : ℕ) → n < length files → HaveRows s (take (suc n) files) rows → StandsIn s (AreRowsUpTo s) files n (sum_by length (take (suc n) files)) rows
ends_stands s [] n rows less have = absurd (omega (arith, less))
ends_stands s (bytes ∷ files) zero rows less (records, split, more, none, counted) =
    let count : ℕ = row_count (length s.scan.fields) (behind_header s.options.has_header records) in
    let sum = sum_by-cons length bytes [] in
    let place : length bytes ≡ sum_by length (bytes ∷ []) = omega (arith, sum) in
    let all : count ≡ rows = omega (arith, none, counted) in
    subst (λ m. AreRowsUpTo s bytes m rows) place (subst (λ m. AreRowsUpTo s bytes (length bytes) m) all (rows_upto_end s bytes records split))
ends_stands s (bytes ∷ files) (suc n) rows less (records, split, more, before, counted) = (
  sum_by length (take (suc n) files),
  more,
  records,
  split,
  ends_stands s files n more (omega (arith, less)) before,
  sum_by-cons length bytes (take (suc n) files),
  counted,
)

-- a name for each file
named : (names files : List (List ℕ)) (n : ℕ) → length names ≡ length files → n < length files → slice_get names n ≡ Some (get_or names n [])
named names files n same less = slice_get-get_or names n [] (omega (arith, same, less))

-- no place before a file has a fault, where no row is between it and the place up to which rows are in pieces
before_file : (s : CsvScan) (make : Maker) (first : ℕ) (names files : List (List ℕ)) (n i given rows : ℕ) → IsDialect s.options → length names ≡ length files → StandsIn s (BeginsHere s) files i given rows
    → n ≤ length files → HaveRows s (take n files) rows → given ≤ sum_by length (take n files) → ((number : ℕ) → IsUtf8 (bytes_between files number given (sum_by length (take n files))))
    → HasNoFault (gives_of (files_axis s make first 0 names files)) given (sum_by length (take n files))
before_file s make first names files zero i given rows fit same begin within have order utf8 = no_fault_here (gives_of (files_axis s make first 0 names files)) given 0 (omega arith)
before_file s make first names files (suc n) i given rows fit same begin within have order utf8 =
    no_fault (gives_of (files_axis s make first 0 names files)) given (sum_by length (take (suc n) files))
    (nothing_passed s make first 0 names files i n given (sum_by length (take (suc n) files)) rows (get_or names n []) fit (named names files n same (omega (arith, within)))
    begin (ends_stands s files n rows (omega (arith, within)) have) order utf8)

-- no place of a file has a fault up to one before which so many of its rows come
within_file : (s : CsvScan) (make : Maker) (first : ℕ) (names files : List (List ℕ)) (source : ℕ) (bytes : List ℕ) (at earlier within i given rows : ℕ) → IsDialect s.options → length names ≡ length files
    → StandsIn s (BeginsHere s) files i given rows → slice_get files source ≡ Some bytes → HaveRows s (take source files) earlier → AreRowsUpTo s bytes at within → rows ≡ earlier + within
    → given ≤ sum_by length (take source files) + at → ((number : ℕ) → IsUtf8 (bytes_between files number given (sum_by length (take source files) + at)))
    → HasNoFault (gives_of (files_axis s make first 0 names files)) given (sum_by length (take source files) + at)
within_file s make first names files source bytes at earlier within i given rows fit same begin is before upto rows_are order utf8 =
    let place : ℕ = sum_by length (take source files) + at in
    no_fault (gives_of (files_axis s make first 0 names files)) given place
    (nothing_passed s make first 0 names files i source given place rows (get_or names source []) fit (named names files source same (get_less files source bytes is)) begin
    (subst (λ m. StandsIn s (AreRowsUpTo s) files source place m) (sym rows_are) (stands_at s (AreRowsUpTo s) files source at earlier within bytes is before upto)) order utf8)

-- no place of a file has a fault from where it was given up to where it was asked
asked_in_file : (s : CsvScan) (make : Maker) (first : ℕ) (names files : List (List ℕ)) (source : ℕ) (bytes : List ℕ) (at asked rows : ℕ) (awaits_header : Bool) → IsDialect s.options → length names ≡ length files
    → slice_get files source ≡ Some bytes → HasRowsBeforePlace s bytes at rows awaits_header → IsLastCut s.options bytes asked at → at ≤ asked
    → HasNoFault (gives_of (files_axis s make first 0 names files)) (sum_by length (take source files) + at) (sum_by length (take source files) + asked)
asked_in_file s make first names files source bytes at asked rows awaits_header fit same is before (inr (all, end)) order =
    no_fault_here (gives_of (files_axis s make first 0 names files)) (sum_by length (take source files) + at) (sum_by length (take source files) + asked) (omega (arith, all, end))
asked_in_file s make first names files source bytes at asked rows awaits_header fit same is before (inl (less, cut)) order =
    no_fault (gives_of (files_axis s make first 0 names files)) (sum_by length (take source files) + at) (sum_by length (take source files) + asked)
    (among_files s make first 0 names files source bytes at asked fit same is (λ file name position. file_front s make file name position bytes at asked rows awaits_header fit before
    (holds_no_record s.options bytes at asked fit (omega (arith, less)) cut) order less))

-- no place has a fault from where rows are in pieces up to where all was asked
pub no_fault_asked : (s : CsvScan) (files : List (List ℕ)) (o : Outside) (r : PiecesRead) (first : ℕ) (names : List (List ℕ)) → AreOpen o r → HasGivenRows s files o r → BeginsStretch s files r.given r.rows
    → length names ≡ length files → (fault : Fault) → HasFaultWithin (csv_axis s first names files [] 0 (λ rows. [])).gives r.given (asked_to r) fault → ⊥
no_fault_asked s files o r first names opened had begins same = by r.current opened.order had.rows_within had.passed opened.current
  where
    make : Maker
    make = scanned_within s.scan (csv_keeps s first names files)

    gives : Places
    gives = gives_of (files_axis s make first 0 names files)

    before : ℕ
    before = sum_by length (take r.source files)

    earlier : r.earlier ≡ before
    earlier = opened.earlier ∙ told_sum o r.sources.files files r.source had.told

    within : r.source ≤ length files
    within = let one = opened.within in let two = told_len o r.sources.files files had.told in omega (arith, one, two)

    begin : (i : ℕ) × StandsIn s (BeginsHere s) files i r.given r.rows
    begin = begin_stands s files r.given r.rows begins

    -- all rows come before the file that is read
    none_within : (to : ℕ) → had.within ≡ 0 → to ≡ before → r.given ≤ to → ((number : ℕ) → IsUtf8 (bytes_between files number r.given to)) → HasNoFault gives r.given before
    none_within to none to_is order utf8 =
        let all : had.earlier ≡ r.rows = (let a = had.rows_are in omega (arith, a, none)) in
        before_file s make first names files r.source begin.0 r.given r.rows had.fit same begin.1 within (subst (λ n. HaveRows s (take r.source files) n) all had.rows_before)
        (omega (arith, order, to_is)) (subst (λ n. (number : ℕ) → IsUtf8 (bytes_between files number r.given n)) to_is utf8)

    -- some come in it
    some_within : (bytes : List ℕ) (at to : ℕ) → slice_get files r.source ≡ Some bytes → AreRowsUpTo s bytes at had.within → to ≡ before + at → r.given ≤ to
        → ((number : ℕ) → IsUtf8 (bytes_between files number r.given to)) → HasNoFault gives r.given (before + at)
    some_within bytes at to is upto to_is order utf8 =
        within_file s make first names files r.source bytes at had.earlier had.within begin.0 r.given r.rows had.fit same begin.1 is had.rows_before upto had.rows_are
        (omega (arith, order, to_is)) (subst (λ n. (number : ℕ) → IsUtf8 (bytes_between files number r.given n)) to_is utf8)

    by : (current : Option RowsRead) → r.given ≤ r.earlier + settled_within current → HasGivenWithin s files r.source had.within current
        → ((number : ℕ) → IsUtf8 (bytes_between files number r.given (r.earlier + settled_within current))) → IsCurrent o r.sources r.source current
        → HasNoFault gives r.given (r.earlier + asked_within current)
    by None order none utf8 is =
        no_fault_as gives r.given before r.given (r.earlier + 0) refl (omega (arith, earlier)) (none_within (r.earlier + 0) none (omega (arith, earlier)) order utf8)
    by (Some c) order (bytes, is, given) utf8 here = by_place given.before
      where
        at : ℕ
        at = given_to c.blocks

        asked : ℕ
        asked = c.blocks.asked

        to_is : r.earlier + at ≡ before + at
        to_is = omega (arith, earlier)

        asked_is : r.earlier + asked ≡ before + asked
        asked_is = omega (arith, earlier)

        within_asked : at ≤ asked
        within_asked = omega arith

        up_to_asked : HasNoFault gives r.given (before + at) → HasRowsBeforePlace s bytes at had.within c.awaits_header → HasNoFault gives r.given (r.earlier + asked)
        up_to_asked none before_place =
            no_fault_as gives r.given (before + asked) r.given (r.earlier + asked) refl asked_is
            (no_fault_between gives r.given (before + at) (before + asked) none
            (asked_in_file s make first names files r.source bytes at asked had.within c.awaits_header had.fit same is before_place given.cut within_asked))

        by_place : HasRowsBeforePlace s bytes at had.within c.awaits_header ⊎ ((at ≡ length bytes) × HaveRows s (bytes ∷ []) had.within) → HasNoFault gives r.given (r.earlier + asked)
        by_place (inl (inl start)) =
            let zero_at = start.0 in
            let none = none_within (r.earlier + at) start.1 (omega (arith, earlier, zero_at)) order utf8 in
            up_to_asked (no_fault_as gives r.given before r.given (before + at) refl (omega (arith, zero_at)) none) (inl start)
        by_place (inl (inr has)) = up_to_asked (some_within bytes at (r.earlier + at) is (rows_upto s bytes at had.within c.awaits_header had.fit has) to_is order utf8) (inr has)
        by_place (inr (end, (records, split, more, nothing, counted))) =
            let count : ℕ = row_count (length s.scan.fields) (behind_header s.options.has_header records) in
            let all : count ≡ had.within = omega (arith, nothing, counted) in
            let upto : AreRowsUpTo s bytes at had.within = subst (λ n. AreRowsUpTo s bytes n had.within) (sym end)
            (subst (λ n. AreRowsUpTo s bytes (length bytes) n) all (rows_upto_end s bytes records split)) in
            let most : asked ≤ length bytes = (let a = here.0.within in let b = given.read.size_is in omega (arith, a, b)) in
            no_fault_as gives r.given (before + at) r.given (r.earlier + asked) refl (omega (arith, earlier, end, most, within_asked))
            (some_within bytes at (r.earlier + at) is upto to_is order utf8)
