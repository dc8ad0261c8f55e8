-- What is passed of files without a row gives nothing.
use Rattle.std.proofs.Common.{◌≡◌, ℕ, zero, suc, ◌+◌, ◌-◌, ◌<◌, ◌≤◌, ap, sym, subst, refl, ◌∙◌, inl, inr, arith, length-append}
use Rattle.std.specs.Prelude.{Bool, ◌⊎◌, Some, List, [], ◌∷◌, ◌++◌, length, take, drop, get_or, slice_get, slice_range, IsUtf8}
use Rattle.std.specs.List.{sum_by}
use Rattle.std.proofs.lemmas.List.{take_all, length-drop}
use Rattle.std.proofs.lemmas.List.Sums.{sum_by-cons}
use Rattle.morsel_grammar.specs.Dialect.{IsDialect}
use Rattle.morsel_grammar.specs.Grammar.{CsvRecord, Records}
use Rattle.morsel_grammar.specs.Rows.{behind_header, unmarked}
use Rattle.morsel_grammar.proofs.RecordLemmas.{one_list}
use Rattle.morsel_cut.specs.RowCounts.{row_count}
use Rattle.morsel_scan.specs.Scans.{CsvScan}
use Rattle.morsel_scan.specs.CsvPieces.{HaveRows, IsRowPlace, BeginsStretch, bytes_between}
use Rattle.morsel_scan.specs.CsvAxis.{AxisPart, file_axis, rows_counted, files_axis, gives_of}
use Rattle.morsel_scan.proofs.StretchLemmas.{Places}
use Rattle.morsel_scan.proofs.AxisLemmas.{Maker, length-gives_of, gives_of-append}
use Rattle.morsel_scan.proofs.AxisFileLemmas.{mark_size, bytes_of-file}
use Rattle.morsel_scan.proofs.MidstLemmas.{GivesNothing, nothing-later, nothing-first, nothing-over, nothing-here}
use Rattle.morsel_scan.proofs.PassedLemmas.{AreRowsUpTo, rows_upto_end, BeginsHere, rows_rise, nothing_between}

-- of these files the one of this number, counted from 0, has something at a place, so many rows being before it; the files before it are records to their ends
abbrev pub StandsIn : CsvScan → (List ℕ → ℕ → ℕ → Type 0) → List (List ℕ) → ℕ → ℕ → ℕ → Type 0
StandsIn s Q [] source place rows = ⊥
StandsIn s Q (bytes ∷ files) zero place rows = Q bytes place rows
StandsIn s Q (bytes ∷ files) (suc n) place rows = (later : ℕ) × (more : ℕ) × (records : List CsvRecord) × Records s.options (unmarked bytes) records
    × StandsIn s Q files n later more × (place ≡ length bytes + later) × (rows ≡ row_count (length s.scan.fields) (behind_header s.options.has_header records) + more)

pub stands_at : (s : CsvScan) (Q : List ℕ → ℕ → ℕ → Type 0) (files : List (List ℕ)) (source at earlier within : ℕ) (bytes : List ℕ) → slice_get files source ≡ Some bytes
    → HaveRows s (take source files) earlier → Q bytes at within → StandsIn s Q files source (sum_by length (take source files) + at) (earlier + within)
stands_at s Q [] source at earlier within bytes is before here = absurd (cc)
stands_at s Q (first ∷ files) zero at earlier within bytes is before here =
    let same : bytes ≡ first = cc in
    let place : at ≡ 0 + at = omega arith in
    let rows : within ≡ earlier + within = omega (arith, before) in
    let one : Q first at within = subst (λ (x : List ℕ). Q x at within) same here in
    subst (λ n. Q first (0 + at) n) rows (subst (λ n. Q first n within) place one)
stands_at s Q (first ∷ files) (suc n) at earlier within bytes is (records, split, more, before, rows) here = (
  sum_by length (take n files) + at,
  more + within,
  records,
  split,
  stands_at s Q files n at more within bytes is before here,
  omega (arith, sum_by-cons length first (take n files)),
  omega (arith, rows),
)

get_some : (files : List (List ℕ)) (n : ℕ) → n < length files → (bytes : List ℕ) × (slice_get files n ≡ Some bytes)
get_some [] n less = absurd (omega arith)
get_some (bytes ∷ files) zero less = (bytes, refl)
get_some (bytes ∷ files) (suc n) less = get_some files n (omega arith)

stands_same : (s : CsvScan) (Q : List ℕ → ℕ → ℕ → Type 0) (files : List (List ℕ)) (source place other rows more : ℕ) → other ≡ place → more ≡ rows → StandsIn s Q files source other more → StandsIn s Q files source place rows
stands_same s Q files source place other rows more one two is = subst (λ n. StandsIn s Q files source place n) two (subst (λ n. StandsIn s Q files source n more) one is)

-- a place of rows, file by file
pub row_stands : (s : CsvScan) (Q : List ℕ → ℕ → ℕ → Type 0) (files : List (List ℕ)) (source at place rows : ℕ) (awaits_header : Bool) (is : IsRowPlace s files source at place rows awaits_header)
    → Q is.bytes at is.within → StandsIn s Q files source place rows
row_stands s Q files source at place rows awaits_header is here =
    stands_same s Q files source place (sum_by length (take source files) + at) rows (is.earlier + is.within) (sym is.place_is) (sym is.rows_are)
    (stands_at s Q files source at is.earlier is.within is.bytes is.is_source is.rows_before here)

-- where a stretch begins, file by file
pub begin_stands : (s : CsvScan) (files : List (List ℕ)) (place rows : ℕ) → BeginsStretch s files place rows → (source : ℕ) × StandsIn s (BeginsHere s) files source place rows
begin_stands s files place rows (inl (source, at, awaits_header, is)) =
    (source, row_stands s (BeginsHere s) files source at place rows awaits_header is (inl (awaits_header, is.rows_within)))
begin_stands s files place rows (inr is) =
    let found = get_some files is.source is.is_source in
    let one = is.place_is in
    let none : rows + 0 ≡ rows = omega arith in (
      is.source,
      stands_same s (BeginsHere s) files is.source place (sum_by length (take is.source files) + 0) rows (rows + 0) (omega (arith, one)) none
          (stands_at s (BeginsHere s) files is.source 0 rows 0 found.0 found.1 is.rows_before (inr (refl, refl))),
    )

-- the bytes of a later file between two places
between-later : (bytes : List ℕ) (files : List (List ℕ)) (n from to : ℕ) → bytes_between (bytes ∷ files) (suc n) from to ≡ bytes_between files n (from - length bytes) (to - length bytes)
between-later bytes files n from to =
    let before : ℕ = sum_by length (take n files) in
    let sum : sum_by length (bytes ∷ take n files) ≡ length bytes + before = sum_by-cons length bytes (take n files) in
    let one : from - (length bytes + before) ≡ from - length bytes - before = omega arith in
    let two : to - (length bytes + before) ≡ to - length bytes - before = omega arith in
    ap (λ k. slice_range (get_or files n []) (from - k) (to - k)) sum ∙ ap (λ k. slice_range (get_or files n []) k (to - (length bytes + before))) one
    ∙ ap (λ k. slice_range (get_or files n []) (from - length bytes - before) k) two

-- the bytes of the first file between two places
between-first : (bytes : List ℕ) (files : List (List ℕ)) (from to : ℕ) → bytes_between (bytes ∷ files) 0 from to ≡ slice_range bytes from to
between-first bytes files from to =
    let one : from - 0 ≡ from = omega arith in
    let two : to - 0 ≡ to = omega arith in
    ap (λ k. slice_range bytes k (to - 0)) one ∙ ap (λ k. slice_range bytes from k) two

slice_past : (bytes : List ℕ) (from to : ℕ) → length bytes ≤ to → slice_range bytes from to ≡ slice_range bytes from (length bytes)
slice_past bytes from to past =
    let size = length-drop from bytes in
    take_all (to - from) (drop from bytes) (omega (arith, size)) ∙ sym (take_all (length bytes - from) (drop from bytes) (omega (arith, size)))

begins_within : (s : CsvScan) (bytes : List ℕ) (at rows : ℕ) → BeginsHere s bytes at rows → at ≤ length bytes
begins_within s bytes at rows (inr (begin, none)) = omega (arith, begin)
begins_within s bytes at rows (inl (awaits_header, has)) =
    let one = has.place in
    let two = mark_size bytes in
    let three : length (unmarked bytes) ≡ length has.front + length has.rest = ap length has.split ∙ length-append has.front has.rest in
    omega (arith, one, two, three)

upto_within : (s : CsvScan) (bytes : List ℕ) (at rows : ℕ) → AreRowsUpTo s bytes at rows → at ≤ length bytes
upto_within s bytes at rows has =
    let one = has.place in
    let two = mark_size bytes in
    let three : length (unmarked bytes) ≡ length has.front + length has.rest = ap length has.split ∙ length-append has.front has.rest in
    omega (arith, one, two, three)

same_rows : (s : CsvScan) (bytes : List ℕ) (records others : List CsvRecord) → IsDialect s.options → Records s.options (unmarked bytes) records → Records s.options (unmarked bytes) others
    → row_count (length s.scan.fields) (behind_header s.options.has_header records) ≡ row_count (length s.scan.fields) (behind_header s.options.has_header others)
same_rows s bytes records others fit one two = ap (λ (x : List CsvRecord). row_count (length s.scan.fields) (behind_header s.options.has_header x)) (one_list s.options fit (unmarked bytes) records others one two)

-- UTF-8 of all later files
later_utf8 : (bytes : List ℕ) (files : List (List ℕ)) (from to begin end : ℕ) → from - length bytes ≡ begin → to - length bytes ≡ end
    → ((number : ℕ) → IsUtf8 (bytes_between (bytes ∷ files) number from to)) → (number : ℕ) → IsUtf8 (bytes_between files number begin end)
later_utf8 bytes files from to begin end one two utf8 = λ number.
    let P : List ℕ → Type 0 = λ x. IsUtf8 x in
    subst P (between-later bytes files number from to ∙ ap (λ k. bytes_between files number k (to - length bytes)) one ∙ ap (λ k. bytes_between files number begin k) two) (utf8 (suc number))

first_utf8 : (bytes : List ℕ) (files : List (List ℕ)) (from to end : ℕ) → (to ≡ end) ⊎ ((length bytes ≤ to) × (length bytes ≡ end))
    → ((number : ℕ) → IsUtf8 (bytes_between (bytes ∷ files) number from to)) → IsUtf8 (slice_range bytes from end)
first_utf8 bytes files from to end (inl same) utf8 =
    let P : List ℕ → Type 0 = λ x. IsUtf8 x in subst P (between-first bytes files from to ∙ ap (λ k. slice_range bytes from k) same) (utf8 0)
first_utf8 bytes files from to end (inr (past, same)) utf8 =
    let P : List ℕ → Type 0 = λ x. IsUtf8 x in subst P (between-first bytes files from to ∙ slice_past bytes from to past ∙ ap (λ k. slice_range bytes from k) same) (utf8 0)

nothing-same : (gives other : Places) (from to begin end : ℕ) → gives ≡ other → from ≡ begin → to ≡ end → GivesNothing gives from to → GivesNothing other begin end
nothing-same gives other from to begin end one two three none =
    subst (λ n. GivesNothing other begin n) three (subst (λ n. GivesNothing other n to) two (subst (λ (x : Places). GivesNothing x from to) one none))

-- what is passed up to the end of a file, and then of the files after it, gives nothing where both do
file_over : (s : CsvScan) (make : Maker) (file : ℕ) (name : List ℕ) (position : ℕ) (bytes : List ℕ) (names files : List (List ℕ)) (from later to : ℕ) → IsDialect s.options
    → (let here = file_axis s make file name position bytes in
    GivesNothing (gives_of here) from (length bytes) → GivesNothing (gives_of (files_axis s make (file + 1) (position + rows_counted here) names files)) 0 later → length bytes + later ≡ to
    → GivesNothing (gives_of (files_axis s make file position (name ∷ names) (bytes ∷ files))) from to)
file_over s make file name position bytes names files from later to fit one two is =
    let here : List AxisPart = file_axis s make file name position bytes in
    let rest : List AxisPart = files_axis s make (file + 1) (position + rows_counted here) names files in
    let size : length bytes ≡ length (gives_of here) = sym (length-gives_of here ∙ bytes_of-file s make file name position bytes fit) in
    nothing-same (gives_of here ++ gives_of rest) (gives_of (here ++ rest)) from (length (gives_of here) + later) from to (sym (gives_of-append here rest)) refl (ap (λ n. n + later) (sym size) ∙ is)
    (nothing-over (gives_of here) (gives_of rest) from later (subst (λ n. GivesNothing (gives_of here) from n) size one) two)

file_later : (s : CsvScan) (make : Maker) (file : ℕ) (name : List ℕ) (position : ℕ) (bytes : List ℕ) (names files : List (List ℕ)) (begin end from to : ℕ) → IsDialect s.options
    → (let here = file_axis s make file name position bytes in
    GivesNothing (gives_of (files_axis s make (file + 1) (position + rows_counted here) names files)) begin end → length bytes + begin ≡ from → length bytes + end ≡ to
    → GivesNothing (gives_of (files_axis s make file position (name ∷ names) (bytes ∷ files))) from to)
file_later s make file name position bytes names files begin end from to fit none one two =
    let here : List AxisPart = file_axis s make file name position bytes in
    let rest : List AxisPart = files_axis s make (file + 1) (position + rows_counted here) names files in
    let size : length (gives_of here) ≡ length bytes = length-gives_of here ∙ bytes_of-file s make file name position bytes fit in
    nothing-same (gives_of here ++ gives_of rest) (gives_of (here ++ rest)) (length (gives_of here) + begin) (length (gives_of here) + end) from to (sym (gives_of-append here rest))
    (ap (λ n. n + begin) size ∙ one) (ap (λ n. n + end) size ∙ two) (nothing-later (gives_of here) (gives_of rest) begin end none)

-- files after which something stands are some
first_begins : (s : CsvScan) (Q : List ℕ → ℕ → ℕ → Type 0) (files : List (List ℕ)) (source place rows : ℕ) → StandsIn s Q files source place rows → StandsIn s (BeginsHere s) files 0 0 0
first_begins s Q [] source place rows is = absurd is
first_begins s Q (bytes ∷ files) source place rows is = inr (refl, refl)

-- what is passed between two places with as many rows before the one as before the other gives nothing, where it is UTF-8
pub nothing_passed : (s : CsvScan) (make : Maker) (file position : ℕ) (names files : List (List ℕ)) (i j from to rows : ℕ) (name : List ℕ) → IsDialect s.options → slice_get names j ≡ Some name
    → StandsIn s (BeginsHere s) files i from rows → StandsIn s (AreRowsUpTo s) files j to rows → from ≤ to → ((number : ℕ) → IsUtf8 (bytes_between files number from to))
    → GivesNothing (gives_of (files_axis s make file position names files)) from to
nothing_passed s make file position [] files i j from to rows name fit named begin end order utf8 = absurd (cc)
nothing_passed s make file position (first ∷ names) [] i j from to rows name fit named begin end order utf8 = absurd begin
nothing_passed s make file position (first ∷ names) (bytes ∷ files) zero zero from to rows name fit named begin end order utf8 =
    let here : List AxisPart = file_axis s make file first position bytes in
    let rest : List AxisPart = files_axis s make (file + 1) (position + rows_counted here) names files in
    nothing-same (gives_of here ++ gives_of rest) (gives_of (here ++ rest)) from to from to (sym (gives_of-append here rest)) refl refl
    (nothing-first (gives_of here) (gives_of rest) from to (nothing_between s make file first position bytes from to rows fit begin end order (first_utf8 bytes files from to to (inl refl) utf8)))
nothing_passed s make file position (first ∷ names) (bytes ∷ files) zero (suc n) from to rows name fit named begin (later, more, records, split, stands, place, counted) order utf8 =
    let here : List AxisPart = file_axis s make file first position bytes in
    let count : ℕ = row_count (length s.scan.fields) (behind_header s.options.has_header records) in
    let within = begins_within s bytes from rows begin in
    let end : AreRowsUpTo s bytes (length bytes) count = rows_upto_end s bytes records split in
    let rise = rows_rise s bytes from (length bytes) rows count fit begin end within in
    let same : rows ≡ count = omega (arith, counted, rise) in
    let none : more ≡ 0 = omega (arith, counted, rise) in
    let past : length bytes ≤ to = omega (arith, place) in
    file_over s make file first position bytes names files from later to fit
    (nothing_between s make file first position bytes from (length bytes) rows fit begin (subst (λ m. AreRowsUpTo s bytes (length bytes) m) (sym same) end) within (first_utf8 bytes files from to (length bytes) (inr (past, refl)) utf8))
    (nothing_passed s make (file + 1) (position + rows_counted here) names files 0 n 0 later 0 name fit named (first_begins s (AreRowsUpTo s) files n later more stands)
    (subst (λ m. StandsIn s (AreRowsUpTo s) files n later m) none stands) (omega arith) (later_utf8 bytes files from to 0 later (omega (arith, within)) (omega (arith, place)) utf8))
    (sym place)
nothing_passed s make file position (first ∷ names) (bytes ∷ files) (suc m) zero from to rows name fit named (later, more, records, split, stands, place, counted) end order utf8 =
    let here : List AxisPart = file_axis s make file first position bytes in
    let rest : List AxisPart = files_axis s make (file + 1) (position + rows_counted here) names files in
    let size : length (gives_of here) ≡ length bytes = length-gives_of here ∙ bytes_of-file s make file first position bytes fit in
    let within = upto_within s bytes to rows end in
    nothing-same (gives_of here ++ gives_of rest) (gives_of (here ++ rest)) from from from to (sym (gives_of-append here rest)) refl (omega (arith, within, place))
    (nothing-first (gives_of here) (gives_of rest) from from (nothing-here (gives_of here) from (omega (arith, within, place, size))))
nothing_passed s make file position (first ∷ names) (bytes ∷ files) (suc m) (suc n) from to rows name fit named (later, more, records, split, stands, place, counted) (end, most, others, cut, ends, there, all) order utf8 =
    let here : List AxisPart = file_axis s make file first position bytes in
    let count = same_rows s bytes others records fit cut split in
    let same : most ≡ more = omega (arith, counted, all, count) in
    file_later s make file first position bytes names files later end from to fit
    (nothing_passed s make (file + 1) (position + rows_counted here) names files m n later end more name fit named stands
    (subst (λ k. StandsIn s (AreRowsUpTo s) files n end k) same ends) (omega (arith, place, there)) (later_utf8 bytes files from to later end (omega (arith, place)) (omega (arith, there)) utf8))
    (sym place) (sym there)

first_or_none : (s : CsvScan) (files : List (List ℕ)) → (files ≡ []) ⊎ StandsIn s (BeginsHere s) files 0 0 0
first_or_none s [] = inl refl
first_or_none s (bytes ∷ files) = inr (inr (refl, refl))

-- what is passed from a place to the end of all files gives nothing, where all rows come before it
pub nothing_to_end : (s : CsvScan) (make : Maker) (file position : ℕ) (names files : List (List ℕ)) (i from rows : ℕ) → IsDialect s.options → length names ≡ length files
    → StandsIn s (BeginsHere s) files i from rows → HaveRows s files rows → ((number : ℕ) → IsUtf8 (bytes_between files number from (sum_by length files)))
    → GivesNothing (gives_of (files_axis s make file position names files)) from (sum_by length files)
nothing_to_end s make file position names [] i from rows fit same begin have utf8 = absurd begin
nothing_to_end s make file position [] (bytes ∷ files) i from rows fit same begin have utf8 = absurd (omega (arith, same))
nothing_to_end s make file position (first ∷ names) (bytes ∷ files) zero from rows fit same begin (records, split, more, have, counted) utf8 =
    let here : List AxisPart = file_axis s make file first position bytes in
    let count : ℕ = row_count (length s.scan.fields) (behind_header s.options.has_header records) in
    let sum = sum_by-cons length bytes files in
    let within = begins_within s bytes from rows begin in
    let end : AreRowsUpTo s bytes (length bytes) count = rows_upto_end s bytes records split in
    let rise = rows_rise s bytes from (length bytes) rows count fit begin end within in
    let all : rows ≡ count = omega (arith, counted, rise) in
    let none : more ≡ 0 = omega (arith, counted, rise) in
    let past : length bytes ≤ sum_by length (bytes ∷ files) = omega (arith, sum) in
    let later : (number : ℕ) → IsUtf8 (bytes_between files number 0 (sum_by length files)) = later_utf8 bytes files from (sum_by length (bytes ∷ files)) 0 (sum_by length files) (omega (arith, within)) (omega (arith, sum)) utf8 in
    file_over s make file first position bytes names files from (sum_by length files) (sum_by length (bytes ∷ files)) fit
    (nothing_between s make file first position bytes from (length bytes) rows fit begin (subst (λ m. AreRowsUpTo s bytes (length bytes) m) (sym all) end) within
    (first_utf8 bytes files from (sum_by length (bytes ∷ files)) (length bytes) (inr (past, refl)) utf8))
    (rest names files (omega (arith, same)) (first_or_none s files) (λ begins. nothing_to_end s make (file + 1) (position + rows_counted here) names files 0 0 0 fit (omega (arith, same)) begins (subst (λ m. HaveRows s files m) none have) later))
    (sym sum)
  where
    rest : (names files : List (List ℕ)) → length names ≡ length files → (files ≡ []) ⊎ StandsIn s (BeginsHere s) files 0 0 0
        → (StandsIn s (BeginsHere s) files 0 0 0 → GivesNothing (gives_of (files_axis s make (file + 1) (position + rows_counted (file_axis s make file first position bytes)) names files)) 0 (sum_by length files))
        → GivesNothing (gives_of (files_axis s make (file + 1) (position + rows_counted (file_axis s make file first position bytes)) names files)) 0 (sum_by length files)
    rest [] [] same is more = nothing-here [] 0 refl
    rest (name ∷ names) [] same is more = absurd (omega (arith, same))
    rest names (bytes ∷ files) same (inl none) more = absurd (cc)
    rest names (bytes ∷ files) same (inr begins) more = more begins
nothing_to_end s make file position (first ∷ names) (bytes ∷ files) (suc m) from rows fit same (later, more, records, split, stands, place, counted) (others, cut, most, have, all) utf8 =
    let here : List AxisPart = file_axis s make file first position bytes in
    let sum = sum_by-cons length bytes files in
    let count = same_rows s bytes others records fit cut split in
    let equal : most ≡ more = omega (arith, counted, all, count) in
    file_later s make file first position bytes names files later (sum_by length files) from (sum_by length (bytes ∷ files)) fit
    (nothing_to_end s make (file + 1) (position + rows_counted here) names files m later more fit (omega (arith, same)) stands (subst (λ k. HaveRows s files k) equal have)
    (later_utf8 bytes files from (sum_by length (bytes ∷ files)) later (sum_by length files) (omega (arith, place)) (omega (arith, sum)) utf8))
    (sym place) (sym sum)
