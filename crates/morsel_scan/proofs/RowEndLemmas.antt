-- Where rows end: how many end before a place, and that a stretch may begin where one ends.
use Rattle.std.proofs.Common.{◌≡◌, ◌≢◌, ℕ, zero, suc, ◌+◌, ◌-◌, ◌<◌, ◌≤◌, ap, sym, subst, refl, ◌∙◌, inl, inr, arith, append_assoc, append-nil, length-append, cond, true≢false}
use Rattle.std.specs.Prelude.{Bool, true, false, ◌⊎◌, Some, None, List, [], ◌∷◌, ◌++◌, length, take, drop, get_or, slice_get}
use Rattle.std.specs.List.{sum_by}
use Rattle.std.proofs.lemmas.List.{take_at, get_or_append_left, get_or-append_right}
use Rattle.std.proofs.lemmas.List.Sums.{sum_by-append, sum_by-cons}
use Rattle.std.proofs.lemmas.List.Concat.{flat_map-append}
use Rattle.std.proofs.Math.Seq.{take-add, take-append_seam, drop-append_seam}
use Rattle.morsel_grammar.specs.Dialect.{Dialect, IsDialect}
use Rattle.morsel_grammar.specs.Grammar.{CsvRecord, IsRecord, Records}
use Rattle.morsel_grammar.specs.Rows.{behind_header, mark_len, unmarked}
use Rattle.morsel_grammar.specs.GrammarRows.{AreWholeRecords, awaits_header_after}
use Rattle.morsel_grammar.proofs.FirstRecordLemmas.{IsTaken}
use Rattle.morsel_grammar.proofs.WholeRecordLemmas.{record_again, records_whole}
use Rattle.morsel_cut.specs.RowCounts.{row_count}
use Rattle.morsel_scan.specs.Scans.{CsvScan}
use Rattle.morsel_scan.specs.CsvPieces.{HaveRows, BeginsStretch}
use Rattle.morsel_scan.specs.Ahead.{one_if}
use Rattle.morsel_scan.specs.CsvAxis.{text_parts, PartStart, start_after, scanned_within, AxisPart, axis_part, text_axis, file_axis, rows_counted, files_axis, last_of, csv_keeps}
use Rattle.morsel_scan.specs.CsvAxisLaws.{EndsNoMoreRows}
use Rattle.morsel_scan.proofs.PartLemmas.{by_records, found_part, parts-none, parts-record, parts-whole, start_past}
use Rattle.morsel_scan.proofs.AxisLemmas.{Maker, length-last_of, text_axis-append, bytes_of-text, rows_counted-records}
use Rattle.morsel_scan.proofs.AxisFileLemmas.{file_start, mark_size, bytes_of-file, rows_counted-file}
use Rattle.morsel_scan.proofs.PassedLemmas.{BeginsHere}
use Rattle.morsel_scan.proofs.FilesPassedLemmas.{StandsIn, begin_stands}
use Rattle.morsel_scan.proofs.AxisRowLemmas.{ends_of, length-ends_of}

ends_of-append : (xs ys : List AxisPart) → ends_of (xs ++ ys) ≡ ends_of xs ++ ends_of ys
ends_of-append xs ys = flat_map-append (λ (part : AxisPart). last_of part.size false part.counts) xs ys

sum_last : (n : ℕ) (b : Bool) → 0 < n → sum_by one_if (last_of n false b) ≡ cond b 1 0
sum_last zero b some = absurd (omega arith)
sum_last (suc zero) true some = refl
sum_last (suc zero) false some = refl
sum_last (suc (suc n)) b some = let more = sum_last (suc n) b (omega arith) in let sum = sum_by-cons one_if false (last_of (suc n) false b) in omega (arith, more, sum)

sum_false : (n : ℕ) → sum_by one_if (last_of n false false) ≡ 0
sum_false zero = refl
sum_false (suc n) = sum_last (suc n) false (omega arith)

-- as many rows end in a text as it has
ends_counted : (s : CsvScan) (make : Maker) → IsDialect s.options → (text : List ℕ) (start : PartStart)
    → sum_by one_if (ends_of (text_axis s make start (text_parts s.options text))) ≡ rows_counted (text_axis s make start (text_parts s.options text))
ends_counted s make fit text =
    let P : List ℕ → Type 0 = λ text. (start : PartStart) → sum_by one_if (ends_of (text_axis s make start (text_parts s.options text))) ≡ rows_counted (text_axis s make start (text_parts s.options text)) in
    by_records s.options P fit (record {
      nothing = λ start. refl;
      none = λ text some none start.
          subst (λ parts. sum_by one_if (ends_of (text_axis s make start parts)) ≡ rows_counted (text_axis s make start parts)) (sym (parts-none s.options text fit some none))
          (let sum = sum_by-append one_if (last_of (length text) false false) [] in let zero_is = sum_false (length text) in
          let count : rows_counted (text_axis s make start (record { bytes = text; found = None } ∷ [])) ≡ 0 = refl in omega (arith, sum, zero_is, count));
      first = λ r text next bytes taken later start.
          let after : PartStart = start_after (length s.scan.fields) start (found_part bytes r) in
          let one : AxisPart = axis_part s make start (found_part bytes r) in
          let rest : List AxisPart = text_axis s make after (text_parts s.options next) in
          let some : 0 < length bytes = let size = taken.size in let shorter = taken.shorter in omega arith in
          let sum = sum_by-append one_if (last_of (length bytes) false one.counts) (ends_of rest) in
          let last = sum_last (length bytes) one.counts some in
          let more = later after in
          let count = sum_by-cons (λ (x : AxisPart). cond x.counts 1 0) one rest in
          subst (λ parts. sum_by one_if (ends_of (text_axis s make start parts)) ≡ rows_counted (text_axis s make start parts)) (sym (parts-record s.options r text next bytes fit taken))
          (omega (arith, sum, last, more, count));
    }) text

ends_of_file : (s : CsvScan) (make : Maker) (file : ℕ) (name : List ℕ) (position : ℕ) (bytes : List ℕ) → IsDialect s.options
    → sum_by one_if (ends_of (file_axis s make file name position bytes)) ≡ rows_counted (file_axis s make file name position bytes)
ends_of_file s make file name position bytes fit =
    let start : PartStart = file_start s file name position bytes in
    let text : List AxisPart = text_axis s make start (text_parts s.options (unmarked bytes)) in
    let sum = sum_by-append one_if (last_of (mark_len bytes) false false) (ends_of text) in
    let none = sum_false (mark_len bytes) in
    let all = ends_counted s make fit (unmarked bytes) start in
    let count = rows_counted-file s make file name position bytes in
    omega (arith, sum, none, all, count)

take-over : (n : ℕ) (xs ys : List Bool) → take (length xs + n) (xs ++ ys) ≡ xs ++ take n ys
take-over n xs ys = take-add (length xs) n (xs ++ ys) ∙ ap (λ a. a ++ take n (drop (length xs) (xs ++ ys))) (take-append_seam xs ys) ∙ ap (λ b. xs ++ take n b) (drop-append_seam xs ys)

-- the rows before a place are those that end before it
pub rows_before : (s : CsvScan) (make : Maker) (file position : ℕ) (names files : List (List ℕ)) (i at rows : ℕ) → IsDialect s.options → length names ≡ length files
    → StandsIn s (BeginsHere s) files i at rows → rows ≡ sum_by one_if (take at (ends_of (files_axis s make file position names files)))
rows_before s make file position names [] i at rows fit same is = absurd is
rows_before s make file position [] (bytes ∷ files) i at rows fit same is = absurd (omega (arith, same))
rows_before s make file position (name ∷ names) (bytes ∷ files) zero at rows fit same (inr (begin, none)) =
    none ∙ sym (ap (λ n. sum_by one_if (take n (ends_of (files_axis s make file position (name ∷ names) (bytes ∷ files))))) begin)
rows_before s make file position (name ∷ names) (bytes ∷ files) zero at rows fit same (inl (awaits_header, has)) =
    let here : List AxisPart = file_axis s make file name position bytes in
    let later : List AxisPart = files_axis s make (file + 1) (position + rows_counted here) names files in
    let start : PartStart = file_start s file name position bytes in
    let past : PartStart = start_past (length s.scan.fields) start (text_parts s.options has.front) in
    let front : List AxisPart = text_axis s make start (text_parts s.options has.front) in
    let rest : List AxisPart = text_axis s make past (text_parts s.options has.rest) in
    let mark : List Bool = last_of (mark_len bytes) false false in
    let cut : text_axis s make start (text_parts s.options (unmarked bytes)) ≡ front ++ rest =
    ap (text_axis s make start) (ap (text_parts s.options) has.split ∙ parts-whole s.options has.front has.rest has.records fit has.whole) ∙ text_axis-append s make start (text_parts s.options has.front) (text_parts s.options has.rest) in
    let whole : ends_of (here ++ later) ≡ (mark ++ ends_of front) ++ (ends_of rest ++ ends_of later) =
    ends_of-append here later ∙ ap (λ (x : List AxisPart). (mark ++ ends_of x) ++ ends_of later) cut ∙ ap (λ (x : List Bool). (mark ++ x) ++ ends_of later) (ends_of-append front rest)
    ∙ ap (λ (x : List Bool). x ++ ends_of later) (sym (append_assoc mark (ends_of front) (ends_of rest))) ∙ append_assoc (mark ++ ends_of front) (ends_of rest) (ends_of later) in
    let one : length mark ≡ mark_len bytes = length-last_of (mark_len bytes) false false in
    let two : length (ends_of front) ≡ length has.front = length-ends_of front ∙ bytes_of-text s make fit has.front start in
    let place = has.place in
    let size : length (mark ++ ends_of front) ≡ at = omega (arith, length-append mark (ends_of front), one, two, place) in
    let sum = sum_by-append one_if mark (ends_of front) in
    let none = sum_false (mark_len bytes) in
    let all = ends_counted s make fit has.front start in
    let count = rows_counted-records s make start has.front has.records fit (records_whole s.options has.front has.records fit has.whole) in
    let counted = has.rows_are in
    let taken : take at (ends_of (here ++ later)) ≡ mark ++ ends_of front = ap (take at) whole ∙ take_at (mark ++ ends_of front) (ends_of rest ++ ends_of later) at size in
    let total : sum_by one_if (mark ++ ends_of front) ≡ rows = omega (arith, sum, none, all, count, counted) in
    sym (ap (sum_by one_if) taken ∙ total)
rows_before s make file position (name ∷ names) (bytes ∷ files) (suc i) at rows fit same (later, more, records, split, stands, place, all) =
    let here : List AxisPart = file_axis s make file name position bytes in
    let rest : List AxisPart = files_axis s make (file + 1) (position + rows_counted here) names files in
    let size : length (ends_of here) ≡ length bytes = length-ends_of here ∙ bytes_of-file s make file name position bytes fit in
    let count : rows_counted here ≡ row_count (length s.scan.fields) (behind_header s.options.has_header records) =
    rows_counted-file s make file name position bytes ∙ rows_counted-records s make (file_start s file name position bytes) (unmarked bytes) records fit split in
    let ends = ends_of_file s make file name position bytes fit in
    let below = rows_before s make (file + 1) (position + rows_counted here) names files i later more fit (omega (arith, same)) stands in
    let there : at ≡ length (ends_of here) + later = omega (arith, size, place) in
    let taken : take at (ends_of (here ++ rest)) ≡ ends_of here ++ take later (ends_of rest) =
    ap (take at) (ends_of-append here rest) ∙ ap (λ n. take n (ends_of here ++ ends_of rest)) there ∙ take-over later (ends_of here) (ends_of rest) in
    let sum = sum_by-append one_if (ends_of here) (take later (ends_of rest)) in
    let total : sum_by one_if (ends_of here ++ take later (ends_of rest)) ≡ rows = omega (arith, sum, ends, count, below, all) in
    sym (ap (sum_by one_if) taken ∙ total)

-- the text is records up to the end of a byte, each with its eol byte unless they end with the text
pub record EndsRecords (o : Dialect) (text : List ℕ) (i : ℕ) : Type 0 where
  pub front : List ℕ
  pub rest : List ℕ
  pub records : List CsvRecord
  pub split : text ≡ front ++ rest
  pub are : Records o front records
  pub ends : (AreWholeRecords o front records) ⊎ (rest ≡ [])
  pub size : length front ≡ i + 1

get_false : (n i : ℕ) → get_or (last_of n false false ++ []) i false ≡ false
get_false zero i = refl
get_false (suc zero) zero = refl
get_false (suc zero) (suc i) = refl
get_false (suc (suc n)) zero = refl
get_false (suc (suc n)) (suc i) = get_false (suc n) i

get_last : (n i : ℕ) (b : Bool) (later : List Bool) → i < n → get_or (last_of n false b ++ later) i false ≡ true → i + 1 ≡ n
get_last zero i b later less is = absurd (omega arith)
get_last (suc zero) i b later less is = omega arith
get_last (suc (suc n)) zero b later less is = absurd (true≢false (sym is))
get_last (suc (suc n)) (suc i) b later less is = let more = get_last (suc n) i b later (omega arith) is in omega (arith, more)

some_rest : (front rest : List ℕ) (n : ℕ) → length front ≡ n + 1 → front ++ rest ≡ [] → ⊥
some_rest [] rest n size is = absurd (omega (arith, size))
some_rest (b ∷ front) rest n size is = cc

-- the first record alone
first_ends : (o : Dialect) (r : CsvRecord) (text next bytes : List ℕ) (i : ℕ) → IsDialect o → IsTaken o r text next bytes → length bytes ≡ i + 1 → EndsRecords o text i
first_ends o r text next bytes i fit taken size = by taken.end
  where
    by : (next ≡ []) ⊎ ((line : List ℕ) × (bytes ≡ line ++ o.eol ∷ [])) → EndsRecords o text i
    by (inl none) =
        let whole : text ≡ bytes = taken.split ∙ ap (λ (x : List ℕ). bytes ++ x) none ∙ append-nil bytes in record {
          front = bytes;
          rest = next;
          records = r ∷ [];
          split = taken.split;
          are = subst (λ (x : List ℕ). Records o x (r ∷ [])) whole (taken.some, [], subst (λ (x : List ℕ). IsRecord o r text x) none taken.is, refl);
          ends = inr none;
          size = size;
        }
    by (inr (line, is)) =
        let split : text ≡ line ++ o.eol ∷ next = taken.split ∙ ap (λ (x : List ℕ). x ++ next) is ∙ append_assoc line (o.eol ∷ []) next in
        let one : IsRecord o r (line ++ o.eol ∷ []) [] = record_again o r text line next fit taken.is split [] in
        let whole : AreWholeRecords o bytes (r ∷ []) = (line, [], is, subst (λ (x : List ℕ). IsRecord o r x []) (sym is) one, refl) in record {
          front = bytes;
          rest = next;
          records = r ∷ [];
          split = taken.split;
          are = records_whole o bytes (r ∷ []) fit whole;
          ends = inl whole;
          size = size;
        }

-- the first record, and records after it
later_ends : (o : Dialect) (r : CsvRecord) (text next bytes : List ℕ) (i k : ℕ) → IsDialect o → IsTaken o r text next bytes → EndsRecords o next k → length bytes + k ≡ i → EndsRecords o text i
later_ends o r text next bytes i k fit taken more place = by taken.end
  where
    by : (next ≡ []) ⊎ ((line : List ℕ) × (bytes ≡ line ++ o.eol ∷ [])) → EndsRecords o text i
    by (inl none) = absurd (some_rest more.front more.rest k more.size (sym more.split ∙ none))
    by (inr (line, is)) =
        let split : text ≡ line ++ o.eol ∷ next = taken.split ∙ ap (λ (x : List ℕ). x ++ next) is ∙ append_assoc line (o.eol ∷ []) next in
        let front : List ℕ = bytes ++ more.front in
        let front_is : front ≡ line ++ o.eol ∷ more.front = ap (λ (x : List ℕ). x ++ more.front) is ∙ append_assoc line (o.eol ∷ []) more.front in
        let one : IsRecord o r front more.front = subst (λ (x : List ℕ). IsRecord o r x more.front) (sym front_is) (record_again o r text line next fit taken.is split more.front) in
        let some : front ≢ [] = λ none. some_rest bytes more.front (length line) (ap length is ∙ length-append line (o.eol ∷ [])) none in
        let size : length front ≡ length bytes + length more.front = length-append bytes more.front in
        let len = more.size in record {
          front = front;
          rest = more.rest;
          records = r ∷ more.records;
          split = taken.split ∙ ap (λ (x : List ℕ). bytes ++ x) more.split ∙ sym (append_assoc bytes more.front more.rest);
          are = (some, more.front, one, more.are);
          ends = ends line front_is one more.ends;
          size = omega (arith, size, len, place);
        }
      where
        ends : (line : List ℕ) → bytes ++ more.front ≡ line ++ o.eol ∷ more.front → IsRecord o r (bytes ++ more.front) more.front → (AreWholeRecords o more.front more.records) ⊎ (more.rest ≡ [])
            → (AreWholeRecords o (bytes ++ more.front) (r ∷ more.records)) ⊎ (more.rest ≡ [])
        ends line front_is one (inl whole) = inl (line, more.front, front_is, one, whole)
        ends line front_is one (inr none) = inr none

less_or_not : (a b : ℕ) → (a < b) ⊎ (b ≤ a)
less_or_not zero zero = inr (omega arith)
less_or_not zero (suc b) = inl (omega arith)
less_or_not (suc a) zero = inr (omega arith)
less_or_not (suc a) (suc b) = next (less_or_not a b)
  where
    next : (a < b) ⊎ (b ≤ a) → (suc a < suc b) ⊎ (suc b ≤ suc a)
    next (inl is) = inl (omega (arith, is))
    next (inr is) = inr (omega (arith, is))

-- where a row ends, records end
text_ends : (s : CsvScan) (make : Maker) → IsDialect s.options → (text : List ℕ) (start : PartStart) (i : ℕ)
    → get_or (ends_of (text_axis s make start (text_parts s.options text))) i false ≡ true → EndsRecords s.options text i
text_ends s make fit text =
    let P : List ℕ → Type 0 = λ text. (start : PartStart) (i : ℕ) → get_or (ends_of (text_axis s make start (text_parts s.options text))) i false ≡ true → EndsRecords s.options text i in
    by_records s.options P fit (record {
      nothing = λ start i is. absurd (true≢false (sym is));
      none = λ text some none start i is.
          absurd (true≢false (sym is ∙ ap (λ parts. get_or (ends_of (text_axis s make start parts)) i false) (parts-none s.options text fit some none) ∙ get_false (length text) i));
      first = λ r text next bytes taken later start i is.
          let after : PartStart = start_after (length s.scan.fields) start (found_part bytes r) in
          let one : AxisPart = axis_part s make start (found_part bytes r) in
          let rest : List Bool = ends_of (text_axis s make after (text_parts s.options next)) in
          let found : get_or (last_of (length bytes) false one.counts ++ rest) i false ≡ true = sym (ap (λ parts. get_or (ends_of (text_axis s make start parts)) i false) (parts-record s.options r text next bytes fit taken)) ∙ is in
          by_place r text next bytes i one.counts rest taken found (λ k at. later after k at) (less_or_not i (length bytes));
    }) text
  where
    by_place : (r : CsvRecord) (text next bytes : List ℕ) (i : ℕ) (b : Bool) (rest : List Bool) → IsTaken s.options r text next bytes → get_or (last_of (length bytes) false b ++ rest) i false ≡ true
        → ((k : ℕ) → get_or rest k false ≡ true → EndsRecords s.options next k) → (i < length bytes) ⊎ (length bytes ≤ i) → EndsRecords s.options text i
    by_place r text next bytes i b rest taken is later (inl here) = first_ends s.options r text next bytes i fit taken (sym (get_last (length bytes) i b rest here is))
    by_place r text next bytes i b rest taken is later (inr past) =
        later_ends s.options r text next bytes i (i - length bytes) fit taken
        (later (i - length bytes) (sym (get_or-append_right (last_of (length bytes) false b) rest (length bytes) i false (length-last_of (length bytes) false b) past) ∙ is)) (omega (arith, past))

-- after a row that ends, a stretch may begin, or the files end
abbrev BeginsAfter : CsvScan → List (List ℕ) → ℕ → Type 0
BeginsAfter s files place = ((i : ℕ) × (rows : ℕ) × StandsIn s (BeginsHere s) files i place rows) ⊎ (place ≡ sum_by length files)

begins_next : (s : CsvScan) (bytes : List ℕ) (files : List (List ℕ)) (place : ℕ) (records : List CsvRecord) → Records s.options (unmarked bytes) records → place ≡ length bytes → BeginsAfter s (bytes ∷ files) place
begins_next s bytes [] place records split is = inr (omega (arith, is, sum_by-cons length bytes []))
begins_next s bytes (next ∷ files) place records split is =
    inl (1, row_count (length s.scan.fields) (behind_header s.options.has_header records) + 0, (0, 0, records, split, inr (refl, refl), omega (arith, is), refl))

begins_file : (s : CsvScan) (bytes : List ℕ) (files : List (List ℕ)) (place i : ℕ) → EndsRecords s.options (unmarked bytes) i → mark_len bytes + i ≡ place → BeginsAfter s (bytes ∷ files) (place + 1)
begins_file s bytes files place i has is = by has.ends
  where
    by : (AreWholeRecords s.options has.front has.records) ⊎ (has.rest ≡ []) → BeginsAfter s (bytes ∷ files) (place + 1)
    by (inl whole) =
        let size = has.size in
        inl (
          0,
          row_count (length s.scan.fields) (behind_header s.options.has_header has.records),
          inl (
            awaits_header_after s.options.has_header has.records,
            record {
              front = has.front;
              rest = has.rest;
              records = has.records;
              split = has.split;
              whole = whole;
              place = omega (arith, size, is);
              rows_are = refl;
              header_is = refl;
            },
          ),
        )
    by (inr none) =
        let size = has.size in
        let mark = mark_size bytes in
        let all : unmarked bytes ≡ has.front = has.split ∙ ap (λ (x : List ℕ). has.front ++ x) none ∙ append-nil has.front in
        let len : length (unmarked bytes) ≡ length has.front = ap length all in
        begins_next s bytes files (place + 1) has.records (subst (λ (x : List ℕ). Records s.options x has.records) (sym all) has.are) (omega (arith, size, is, mark, len))

get_mark : (n i : ℕ) (later : List Bool) → i < n → get_or (last_of n false false ++ later) i false ≡ false
get_mark zero i later less = absurd (omega arith)
get_mark (suc zero) zero later less = refl
get_mark (suc zero) (suc i) later less = absurd (omega arith)
get_mark (suc (suc n)) zero later less = refl
get_mark (suc (suc n)) (suc i) later less = get_mark (suc n) i later (omega arith)

file_ends : (s : CsvScan) (make : Maker) (file : ℕ) (name : List ℕ) (position : ℕ) (bytes : List ℕ) (files : List (List ℕ)) (place : ℕ) → IsDialect s.options
    → get_or (ends_of (file_axis s make file name position bytes)) place false ≡ true → BeginsAfter s (bytes ∷ files) (place + 1)
file_ends s make file name position bytes files place fit is = by (less_or_not place (mark_len bytes))
  where
    by : (place < mark_len bytes) ⊎ (mark_len bytes ≤ place) → BeginsAfter s (bytes ∷ files) (place + 1)
    by (inl within) = absurd (true≢false (sym is ∙ get_mark (mark_len bytes) place (ends_of (text_axis s make (file_start s file name position bytes) (text_parts s.options (unmarked bytes)))) within))
    by (inr past) =
        let start : PartStart = file_start s file name position bytes in
        let text : List Bool = ends_of (text_axis s make start (text_parts s.options (unmarked bytes))) in
        begins_file s bytes files place (place - mark_len bytes)
        (text_ends s make fit (unmarked bytes) start (place - mark_len bytes)
        (sym (get_or-append_right (last_of (mark_len bytes) false false) text (mark_len bytes) place false (length-last_of (mark_len bytes) false false) past) ∙ is)) (omega (arith, past))

begins_later : (s : CsvScan) (bytes : List ℕ) (files : List (List ℕ)) (place later : ℕ) (records : List CsvRecord) → Records s.options (unmarked bytes) records → length bytes + later ≡ place
    → BeginsAfter s files (later + 1) → BeginsAfter s (bytes ∷ files) (place + 1)
begins_later s bytes files place later records split is (inl (i, rows, stands)) =
    inl (suc i, row_count (length s.scan.fields) (behind_header s.options.has_header records) + rows, (later + 1, rows, records, split, stands, omega (arith, is), refl))
begins_later s bytes files place later records split is (inr end) = inr (omega (arith, is, end, sum_by-cons length bytes files))

-- where a row ends, a stretch may begin after it, or the files end
pub row_ends_begin : (s : CsvScan) (make : Maker) (file position : ℕ) (names files : List (List ℕ)) (source earlier place : ℕ) → IsDialect s.options → length names ≡ length files
    → HaveRows s (take source files) earlier → place < sum_by length (take (suc source) files) → get_or (ends_of (files_axis s make file position names files)) place false ≡ true
    → BeginsAfter s files (place + 1)
row_ends_begin s make file position names [] source earlier place fit same have within is = absurd (omega (arith, within))
row_ends_begin s make file position [] (bytes ∷ files) source earlier place fit same have within is = absurd (omega (arith, same))
row_ends_begin s make file position (name ∷ names) (bytes ∷ files) zero earlier place fit same have within is =
    let here : List AxisPart = file_axis s make file name position bytes in
    let rest : List AxisPart = files_axis s make (file + 1) (position + rows_counted here) names files in
    let size : length (ends_of here) ≡ length bytes = length-ends_of here ∙ bytes_of-file s make file name position bytes fit in
    let sum = sum_by-cons length bytes [] in
    let less : place < length (ends_of here) = omega (arith, within, sum, size) in
    file_ends s make file name position bytes files place fit (sym (get_or_append_left (ends_of here) (ends_of rest) false place less) ∙ sym (ap (λ x. get_or x place false) (ends_of-append here rest)) ∙ is)
row_ends_begin s make file position (name ∷ names) (bytes ∷ files) (suc source) earlier place fit same (records, split, more, have, all) within is =
    let here : List AxisPart = file_axis s make file name position bytes in
    let rest : List AxisPart = files_axis s make (file + 1) (position + rows_counted here) names files in
    let size : length (ends_of here) ≡ length bytes = length-ends_of here ∙ bytes_of-file s make file name position bytes fit in
    let sum = sum_by-cons length bytes (take (suc source) files) in
    let found : get_or (ends_of here ++ ends_of rest) place false ≡ true = sym (ap (λ x. get_or x place false) (ends_of-append here rest)) ∙ is in
    by (less_or_not place (length bytes)) size found
    (λ past. row_ends_begin s make (file + 1) (position + rows_counted here) names files source more (place - length bytes) fit (omega (arith, same)) have (omega (arith, within, sum, past))
    (sym (get_or-append_right (ends_of here) (ends_of rest) (length bytes) place false size past) ∙ found))
  where
    by : (place < length bytes) ⊎ (length bytes ≤ place)
        → (let here = file_axis s make file name position bytes in
        let rest = files_axis s make (file + 1) (position + rows_counted here) names files in
        length (ends_of here) ≡ length bytes → get_or (ends_of here ++ ends_of rest) place false ≡ true
        → (length bytes ≤ place → BeginsAfter s files (place - length bytes + 1)) → BeginsAfter s (bytes ∷ files) (place + 1))
    by (inl within) size found later =
        let here : List AxisPart = file_axis s make file name position bytes in
        let rest : List AxisPart = files_axis s make (file + 1) (position + rows_counted here) names files in
        file_ends s make file name position bytes files place fit (sym (get_or_append_left (ends_of here) (ends_of rest) false place (omega (arith, within, size))) ∙ found)
    by (inr past) size found later = begins_later s bytes files place (place - length bytes) records split (omega (arith, past)) (later past)

-- something that stands in a file, and the files before it
record StandsFound (s : CsvScan) (Q : List ℕ → ℕ → ℕ → Type 0) (files : List (List ℕ)) (i place rows : ℕ) : Type 0 where
  bytes : List ℕ
  is_source : slice_get files i ≡ Some bytes
  less : i < length files
  earlier : ℕ
  before : HaveRows s (take i files) earlier
  at : ℕ
  within : ℕ
  here : Q bytes at within
  place_is : place ≡ sum_by length (take i files) + at
  rows_are : rows ≡ earlier + within

stands_found : (s : CsvScan) (Q : List ℕ → ℕ → ℕ → Type 0) (files : List (List ℕ)) (i place rows : ℕ) → StandsIn s Q files i place rows → StandsFound s Q files i place rows
stands_found s Q [] i place rows is = absurd is
stands_found s Q (bytes ∷ files) zero place rows is = record {
  bytes = bytes;
  is_source = refl;
  less = omega arith;
  earlier = 0;
  before = refl;
  at = place;
  within = rows;
  here = is;
  place_is = let same : place ≡ 0 + place = omega arith in same;
  rows_are = let same : rows ≡ 0 + rows = omega arith in same;
}
stands_found s Q (bytes ∷ files) (suc i) place rows (later, more, records, split, stands, there, all) =
    let found = stands_found s Q files i later more stands in
    let one = found.less in
    let two = found.place_is in
    let three = found.rows_are in record {
      bytes = found.bytes;
      is_source = found.is_source;
      less = omega arith;
      earlier = row_count (length s.scan.fields) (behind_header s.options.has_header records) + found.earlier;
      before = (records, split, found.earlier, found.before, refl);
      at = found.at;
      within = found.within;
      here = found.here;
      place_is = omega (arith, there, two, sum_by-cons length bytes (take i files));
      rows_are = omega (arith, all, three);
    }

-- where something stands, a stretch may begin
stands_begin : (s : CsvScan) (files : List (List ℕ)) (i place rows : ℕ) → StandsIn s (BeginsHere s) files i place rows → BeginsStretch s files place rows
stands_begin s files i place rows is =
    let found = stands_found s (BeginsHere s) files i place rows is in
    by found.bytes found.is_source found.less found.earlier found.before found.at found.within found.place_is found.rows_are found.here
  where
    by : (bytes : List ℕ) → slice_get files i ≡ Some bytes → i < length files → (earlier : ℕ) → HaveRows s (take i files) earlier → (at within : ℕ)
        → place ≡ sum_by length (take i files) + at → rows ≡ earlier + within → BeginsHere s bytes at within → BeginsStretch s files place rows
    by bytes is_source less earlier before at within place_is rows_are (inl (awaits_header, has)) = inl (
      i,
      at,
      awaits_header,
      record {
        bytes = bytes;
        is_source = is_source;
        earlier = earlier;
        rows_before = before;
        within = within;
        rows_within = has;
        rows_are = rows_are;
        place_is = place_is;
      },
    )
    by bytes is_source less earlier before at within place_is rows_are (inr (begin, none)) =
        let same : earlier ≡ rows = omega (arith, rows_are, none) in inr (record {
          source = i;
          is_source = less;
          rows_before = subst (λ n. HaveRows s (take i files) n) same before;
          place_is = omega (arith, place_is, begin);
        })

sum_take_more : (xs : List Bool) (n : ℕ) → get_or xs n false ≡ true → sum_by one_if (take (n + 1) xs) ≡ sum_by one_if (take n xs) + 1
sum_take_more [] n is = absurd (true≢false (sym is))
sum_take_more (x ∷ xs) zero is = ap (λ (b : Bool). sum_by one_if (b ∷ [])) is
sum_take_more (x ∷ xs) (suc n) is =
    let same : suc n + 1 ≡ suc (n + 1) = omega arith in
    let more = sum_take_more xs n is in
    let one = sum_by-cons one_if x (take (n + 1) xs) in
    let two = sum_by-cons one_if x (take n xs) in
    let all : sum_by one_if (x ∷ take (n + 1) xs) ≡ sum_by one_if (x ∷ take n xs) + 1 = omega (arith, more, one, two) in
    ap (λ k. sum_by one_if (take k (x ∷ xs))) same ∙ all

sum_take_rises : (xs : List Bool) (n m : ℕ) → n ≤ m → sum_by one_if (take n xs) ≤ sum_by one_if (take m xs)
sum_take_rises xs n m order =
    let same : m ≡ n + (m - n) = omega arith in
    let cut : sum_by one_if (take m xs) ≡ sum_by one_if (take n xs) + sum_by one_if (take (m - n) (drop n xs)) =
    ap (λ k. sum_by one_if (take k xs)) same ∙ ap (sum_by one_if) (take-add n (m - n) xs) ∙ sum_by-append one_if (take n xs) (take (m - n) (drop n xs)) in
    omega (arith, cut)

no_row_ends : (s : CsvScan) (make : Maker) (first given later rows source earlier : ℕ) (names files : List (List ℕ)) → IsDialect s.options → length names ≡ length files
    → BeginsStretch s files given rows → HaveRows s (take source files) earlier → later ≤ sum_by length (take (source + 1) files) → later < sum_by length files
    → ((place more : ℕ) → BeginsStretch s files place more → place ≤ later → more ≤ rows)
    → (place : ℕ) → given ≤ place → place < later → (t : Bool) → get_or (ends_of (files_axis s make first 0 names files)) place false ≡ t → t ≡ false
no_row_ends s make first given later rows source earlier names files fit same begins have within left few place low high false is = refl
no_row_ends s make first given later rows source earlier names files fit same begins have within left few place low high true is =
    let ends : List Bool = ends_of (files_axis s make first 0 names files) in
    let next : source + 1 ≡ suc source = omega arith in
    let upto : place < sum_by length (take (suc source) files) = subst (λ n. place < sum_by length (take n files)) next (omega arith) in
    absurd (by ends is (row_ends_begin s make first 0 names files source earlier place fit same have upto is)
    (let begin = begin_stands s files given rows begins in rows_before s make first 0 names files begin.0 given rows fit same begin.1))
  where
    by : (ends : List Bool) → get_or (ends_of (files_axis s make first 0 names files)) place false ≡ true → BeginsAfter s files (place + 1)
        → rows ≡ sum_by one_if (take given (ends_of (files_axis s make first 0 names files))) → ⊥
    by ends is (inr end) counted = absurd (omega (arith, end, high, left))
    by ends is (inl (i, more, stands)) counted =
        let all : List Bool = ends_of (files_axis s make first 0 names files) in
        let most = few (place + 1) more (stands_begin s files i (place + 1) more stands) (omega arith) in
        let count = rows_before s make first 0 names files i (place + 1) more fit same stands in
        let one = sum_take_more all place is in
        let two = sum_take_rises all given place low in
        omega (arith, most, count, one, two, counted)

pub ends_no_more_rows : (s : CsvScan) → IsDialect s.options → EndsNoMoreRows s
ends_no_more_rows s fit = λ first head given later rows source earlier names files opened text_of same begins have within left few place low high.
    let make : Maker = scanned_within s.scan (csv_keeps s first names files) in
    no_row_ends s make first given later rows source earlier names files fit same begins have within left few place low high
    (get_or (ends_of (files_axis s make first 0 names files)) place false) refl
