-- Where no whole row of a file is held, no row of all files ends.
use Rattle.std.proofs.Common.{◌≡◌, ℕ, zero, suc, ◌+◌, ◌-◌, ◌<◌, ◌≤◌, ap, sym, subst, refl, ◌∙◌, inl, inr, arith, length-append, append_assoc, take-add}
use Rattle.std.proofs.Math.Seq.{take-append_seam, drop-append_seam}
use Rattle.std.proofs.lemmas.List.{take-append-drop, take-append-le, length-drop, drop-drop, drop_at}
use Rattle.std.proofs.lemmas.List.Sums.{sum_by-cons, sum_by-append}
use Rattle.std.specs.Prelude.{◌⊎◌, Bool, true, false, Some, List, [], ◌∷◌, ◌++◌, length, take, drop, slice_get, slice_range}
use Rattle.std.specs.List.{sum_by}
use Rattle.morsel_grammar.specs.Dialect.{Dialect, IsDialect}
use Rattle.morsel_grammar.specs.Grammar.{CsvRecord, IsRecord}
use Rattle.morsel_grammar.specs.Rows.{mark_len, unmarked, behind_header}
use Rattle.morsel_grammar.specs.GrammarRows.{AreWholeRecords}
use Rattle.morsel_grammar.specs.Cuts.{BeginsNoWholeRecord}
use Rattle.morsel_grammar.proofs.RecordLemmas.{one_list}
use Rattle.morsel_grammar.proofs.WholeRecordLemmas.{stands_whatever_follows}
use Rattle.morsel_cut.specs.RowCounts.{row_count}
use Rattle.morsel_scan.specs.Scans.{CsvScan}
use Rattle.morsel_scan.specs.CsvPieces.{HaveRows, HasRowsUpTo}
use Rattle.morsel_scan.specs.CsvAxisLaws.{IsAfterPieces}
use Rattle.morsel_scan.specs.FileReads.{HoldsNoRecord}
use Rattle.morsel_scan.specs.RowBlocks.{HasRowsBeforePlace, HoldsNoRow}
use Rattle.morsel_scan.proofs.AxisFileLemmas.{mark_size}
use Rattle.morsel_scan.proofs.FrontLemmas.{whole_behind, text-taken}
use Rattle.morsel_scan.proofs.RowStretchLemmas.{begins_none}
use Rattle.morsel_scan.proofs.PassedLemmas.{rows_upto, rows_upto_end, rows_rise, BeginsHere}
use Rattle.morsel_scan.proofs.FilesPassedLemmas.{StandsIn, begin_stands}
use Rattle.morsel_scan.proofs.RowEndLemmas.{ends_no_more_rows}
use Rattle.morsel_read.specs.PieceReads.{EndsNoRowOf}

-- a text that begins with whole records, at least one, begins with a whole record
front_record : (o : Dialect) (text front back : List ℕ) (records : List CsvRecord) → IsDialect o → 0 < length front → text ≡ front ++ back
    → AreWholeRecords o front records → BeginsNoWholeRecord o text → ⊥
front_record o text front back [] fit some is none never = let size : length front ≡ 0 = ap length none in omega arith
front_record o text front back (r ∷ records) fit some is (line, rest, line_is, first, later) never =
    let split : text ≡ line ++ o.eol ∷ (rest ++ back) = is ∙ ap (λ (x : List ℕ). x ++ back) line_is ∙ append_assoc line (o.eol ∷ rest) back in
    let P : List ℕ → Type 0 = λ x. IsRecord o r x (rest ++ back) in
    never r line (rest ++ back) split (subst P (sym split) (stands_whatever_follows o fit front r line rest first line_is (rest ++ back)))

-- so many bytes of two lists, past the first
pub take-over : (n : ℕ) (front back : List ℕ) → take (length front + n) (front ++ back) ≡ front ++ take n back
take-over n front back = take-add (length front) n (front ++ back) ∙ ap (λ (x : List ℕ). x ++ take n (drop (length front) (front ++ back))) (take-append_seam front back)
    ∙ ap (λ (x : List ℕ). front ++ take n x) (drop-append_seam front back)

-- the bytes of a file between two places after its mark
between_places : (bytes front mid rest : List ℕ) (from to : ℕ) → unmarked bytes ≡ front ++ (mid ++ rest) → from ≡ mark_len bytes + length front → from + length mid ≤ to
    → (back : List ℕ) × (slice_range bytes from to ≡ mid ++ back)
between_places bytes front mid rest from to split from_is within =
    let there : drop from bytes ≡ mid ++ rest =
    ap (λ n. drop n bytes) from_is ∙ sym (drop-drop (length front) (mark_len bytes) bytes) ∙ ap (drop (length front)) split ∙ drop_at front (mid ++ rest) (length front) refl in
    let size : to - from ≡ length mid + (to - from - length mid) = omega arith in (
      take (to - from - length mid) rest,
      ap (take (to - from)) there ∙ ap (λ n. take n (mid ++ rest)) size ∙ take-over (to - from - length mid) mid rest,
    )

-- no more rows come before a place of a file than before the one up to which it was given, where no whole record is held between them
one_file : (s : CsvScan) (bytes : List ℕ) (at within place more : ℕ) → IsDialect s.options → HoldsNoRow s bytes within at → BeginsHere s bytes place more → place ≤ at → more ≤ within
one_file s bytes at within place more fit held (inr (start, none)) order = omega (arith, none)
one_file s bytes at within place more fit held (inl (awaits_header, has)) order = by held.given held.before held.none_held
  where
    -- the file was given up to its beginning
    at_start : (n : ℕ) (records : List CsvRecord) → records ≡ has.records → BeginsNoWholeRecord s.options (unmarked (take at bytes)) → more ≤ 0
    at_start n [] are none = omega (arith, has.rows_are, ap (λ (x : List CsvRecord). row_count (length s.scan.fields) (behind_header s.options.has_header x)) (sym are), no_rows s.options.has_header)
      where
        no_rows : (head : Bool) → row_count (length s.scan.fields) (behind_header head []) ≡ 0
        no_rows true = refl
        no_rows false = refl
    at_start n (r ∷ records) are none = absurd (
        let p = has.place in
        let size : at ≡ mark_len bytes + (at - mark_len bytes) = omega (arith, p) in
        let whole : AreWholeRecords s.options has.front (r ∷ records) = subst (λ (x : List CsvRecord). AreWholeRecords s.options has.front x) (sym are) has.whole in
        let some : 0 < length has.front = omega (arith, ap length whole.2, length-append whole.0 (s.options.eol ∷ whole.1)) in
        let text : unmarked (take at bytes) ≡ take (at - mark_len bytes) (unmarked bytes) = ap (λ n. unmarked (take n bytes)) size ∙ text-taken 0 (at - mark_len bytes) bytes in
        let count : at - mark_len bytes ≡ length has.front + (at - mark_len bytes - length has.front) = omega (arith, p) in
        let is : unmarked (take at bytes) ≡ has.front ++ take (at - mark_len bytes - length has.front) has.rest =
        text ∙ ap (take (at - mark_len bytes)) has.split ∙ ap (λ n. take n (has.front ++ has.rest)) count ∙ take-over (at - mark_len bytes - length has.front) has.front has.rest in
        front_record s.options (unmarked (take at bytes)) has.front _ (r ∷ records) fit some is whole none
        )

    -- it was given up to a place after whole records
    after_records : (given : ℕ) (head : Bool) (h : HasRowsUpTo s bytes (suc given) within head) → BeginsNoWholeRecord s.options (slice_range bytes (suc given) at)
        → (place ≤ suc given) ⊎ (suc given < place) → more ≤ within
    after_records given head h none (inl before) = rows_rise s bytes place (suc given) more within fit (inl (awaits_header, has)) (rows_upto s bytes (suc given) within head fit h) before
    after_records given head h none (inr after) = absurd (
        let p = has.place in
        let q = h.place in
        let less : length h.front ≤ length has.front = omega (arith, p, q) in
        let mid : List ℕ = drop (length h.front) has.front in
        let same : h.front ++ h.rest ≡ has.front ++ has.rest = sym h.split ∙ has.split in
        let first : take (length h.front) has.front ≡ h.front =
        sym (take-append-le (length h.front) has.front has.rest less) ∙ ap (take (length h.front)) (sym same) ∙ take-append_seam h.front h.rest in
        let front_is : has.front ≡ h.front ++ mid = sym (take-append-drop (length h.front) has.front) ∙ ap (λ (x : List ℕ). x ++ mid) first in
        let left = whole_behind s.options h.front mid h.records has.records fit h.whole (subst (λ (x : List ℕ). AreWholeRecords s.options x has.records) front_is has.whole) in
        let split : unmarked bytes ≡ h.front ++ (mid ++ has.rest) = has.split ∙ ap (λ (x : List ℕ). x ++ has.rest) front_is ∙ append_assoc h.front mid has.rest in
        let size : length mid ≡ length has.front - length h.front = length-drop (length h.front) has.front in
        let found = between_places bytes h.front mid has.rest (suc given) at split q (omega (arith, p, q, size)) in
        front_record s.options (slice_range bytes (suc given) at) mid found.0 left.0 fit (omega (arith, p, q, size)) found.1 left.2 none
        )

    by : (given : ℕ) → HasRowsBeforePlace s bytes given within held.awaits_header → HoldsNoRecord s.options bytes given at → more ≤ within
    by zero before none =
        let nothing = begins_none s bytes within held.awaits_header before in
        let all : at - 0 ≡ at = omega arith in
        let least = at_start 0 has.records refl (subst (λ n. BeginsNoWholeRecord s.options (unmarked (take n bytes))) all none) in
        omega (arith, nothing.0, least)
    by (suc given) (inl start) none = absurd (let no = start.0 in omega (arith, no))
    by (suc given) (inr h) none = after_records given held.awaits_header h none (split place (suc given))
      where
        split : (a b : ℕ) → (a ≤ b) ⊎ (b < a)
        split zero b = inl (omega arith)
        split (suc a) zero = inr (omega arith)
        split (suc a) (suc b) = on (split a b)
          where
            on : (a ≤ b) ⊎ (b < a) → (suc a ≤ suc b) ⊎ (suc b < suc a)
            on (inl before) = inl (omega (arith, before))
            on (inr after) = inr (omega (arith, after))

pub begins_within : (s : CsvScan) (bytes : List ℕ) (at rows : ℕ) → BeginsHere s bytes at rows → at ≤ length bytes
begins_within s bytes at rows (inr (begin, none)) = omega (arith, begin)
begins_within s bytes at rows (inl (awaits_header, has)) =
    let one = has.place in
    let two = mark_size bytes in
    let three : length (unmarked bytes) ≡ length has.front + length has.rest = ap length has.split ∙ length-append has.front has.rest in
    omega (arith, one, two, three)

-- the same of all files
no_more_rows : (s : CsvScan) (files : List (List ℕ)) (source at earlier within : ℕ) (bytes : List ℕ) (i place more : ℕ) → IsDialect s.options → slice_get files source ≡ Some bytes
    → HaveRows s (take source files) earlier → HoldsNoRow s bytes within at → at < length bytes → StandsIn s (BeginsHere s) files i place more
    → place ≤ sum_by length (take source files) + at → more ≤ earlier + within
no_more_rows s [] source at earlier within bytes i place more fit is before held less stands order = absurd stands
no_more_rows s (first ∷ files) zero at earlier within bytes zero place more fit is before held less stands order =
    let same : bytes ≡ first = cc in
    let here : BeginsHere s bytes place more = subst (λ (x : List ℕ). BeginsHere s x place more) (sym same) stands in
    let most = one_file s bytes at within place more fit held here (omega arith) in
    omega (arith, most)
no_more_rows s (first ∷ files) zero at earlier within bytes (suc i) place more fit is before held less (later, some, records, split, stands, place_is, counted) order =
    let same : length bytes ≡ length first = cc in absurd (omega (arith, same, place_is))
no_more_rows s (first ∷ files) (suc n) at earlier within bytes zero place more fit is (records, split, some, have, counted) held less stands order =
    let most = rows_rise s first place (length first) more (row_count (length s.scan.fields) (behind_header s.options.has_header records)) fit stands
    (rows_upto_end s first records split) (begins_within s first place more stands) in
    omega (arith, most, counted)
no_more_rows s (first ∷ files) (suc n) at earlier within bytes (suc i) place more fit is (records, split, some, have, counted) held less (later, rest, others, cut, stands, place_is, all) order =
    let size = sum_by-cons length first (take n files) in
    let most = no_more_rows s files n at some within bytes i later rest fit is have held less stands (omega (arith, size, place_is)) in
    let same : row_count (length s.scan.fields) (behind_header s.options.has_header others) ≡ row_count (length s.scan.fields) (behind_header s.options.has_header records) =
    ap (λ (x : List CsvRecord). row_count (length s.scan.fields) (behind_header s.options.has_header x)) (one_list s.options fit (unmarked first) others records cut split) in
    omega (arith, most, counted, all, same)

-- the bytes of files up to one of them, and with it
pub sum_take-next : (files : List (List ℕ)) (source : ℕ) (bytes : List ℕ) → slice_get files source ≡ Some bytes
    → sum_by length (take (source + 1) files) ≡ sum_by length (take source files) + length bytes
sum_take-next [] source bytes is = absurd (cc)
sum_take-next (first ∷ files) zero bytes is =
    let same : length bytes ≡ length first = cc in
    let one = sum_by-cons length first [] in omega (arith, same, one)
sum_take-next (first ∷ files) (suc n) bytes is =
    let next : suc n + 1 ≡ suc (n + 1) = omega arith in
    let more = sum_take-next files n bytes is in
    let one = sum_by-cons length first (take (n + 1) files) in
    let two = sum_by-cons length first (take n files) in
    let there : sum_by length (take (suc n + 1) (first ∷ files)) ≡ sum_by length (first ∷ take (n + 1) files) = ap (λ k. sum_by length (take k (first ∷ files))) next in
    omega (arith, more, one, two, there)

pub sum_take-within : (files : List (List ℕ)) (n : ℕ) → sum_by length (take n files) ≤ sum_by length files
sum_take-within files n =
    let both : sum_by length files ≡ sum_by length (take n files) + sum_by length (drop n files) =
    ap (sum_by length) (sym (take-append-drop n files)) ∙ sum_by-append length (take n files) (drop n files) in
    omega (arith, both)

-- no row ends between the place up to which rows are in pieces and one at which no whole row is held
pub ends_none : (s : CsvScan) (first given rows source earlier within at : ℕ) (names files : List (List ℕ)) (bytes : List ℕ) → IsDialect s.options → length names ≡ length files
    → IsAfterPieces s files given rows → slice_get files source ≡ Some bytes → HaveRows s (take source files) earlier → rows ≡ earlier + within
    → HoldsNoRow s bytes within at → at < length bytes → EndsNoRowOf s first names files given (sum_by length (take source files) + at)
ends_none s first given rows source earlier within at names files bytes fit same (inr end) is before rows_are held less = λ place low high.
    absurd (let one = sum_take-next files source bytes is in let two = sum_take-within files (source + 1) in omega (arith, end, low, high, one, two))
ends_none s first given rows source earlier within at names files bytes fit same (inl begins) is before rows_are held less =
    let one = sum_take-next files source bytes is in
    let two = sum_take-within files (source + 1) in
    ends_no_more_rows s fit first 0 given (sum_by length (take source files) + at) rows source earlier names files [] (λ rows. []) same begins before (omega (arith, one)) (omega (arith, one, two))
    (λ place more begin order.
    let stands = begin_stands s files place more begin in
    let most = no_more_rows s files source at earlier within bytes stands.0 place more fit is before held less stands.1 order in omega (arith, most, rows_are))
