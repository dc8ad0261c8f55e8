-- Where the rows of a scan's files stand: places at which none ends are of one record at most.
use Rattle.std.proofs.Common.{◌≡◌, ℕ, zero, suc, ◌+◌, ◌-◌, ◌<◌, ◌≤◌, ap, sym, refl, ◌∙◌, inl, inr, arith, length-append}
use Rattle.std.specs.Prelude.{Bool, true, false, ◌⊎◌, ◌&&◌, if◌then◌else◌, nat_lt, Option, Some, None, List, [], ◌∷◌, ◌++◌, length, take, drop, get_or, slice_range}
use Rattle.std.specs.List.{sum_by, flat_map}
use Rattle.std.proofs.lemmas.Bool.Decides.{nat_tests}
use Rattle.std.proofs.lemmas.List.{length-drop, drop_all, take-append-drop, get_or-append-add}
use Rattle.std.proofs.lemmas.List.Sums.{sum_by-append, sum_by-cons}
use Rattle.morsel_grammar.specs.Dialect.{IsDialect}
use Rattle.morsel_grammar.specs.Grammar.{CsvRecord}
use Rattle.morsel_grammar.specs.Rows.{unmarked}
use Rattle.morsel_scan.specs.Scans.{CsvScan}
use Rattle.morsel_scan.specs.Ahead.{one_if}
use Rattle.morsel_scan.specs.CsvAxis.{TextPart, text_parts, PartStart, is_row_part, start_after, scanned_within, AxisPart, axis_part, text_axis, file_axis, rows_counted, files_axis, last_of, longest_of, csv_keeps}
use Rattle.morsel_scan.specs.CsvAxisLaws.{HasEachByte, EndsEachRowOfFiles}
use Rattle.morsel_scan.proofs.AxisLemmas.{Maker, length-last_of, bytes_of, length-gives_of}
use Rattle.morsel_scan.proofs.AxisFileLemmas.{file_start, bytes_of-files}

-- for each byte whether it is of a record that is a row
abbrev pub rows_of : List AxisPart → List Bool
rows_of parts = flat_map (λ (part : AxisPart). last_of part.size part.counts part.counts) parts

-- for each byte whether it is the last of such a record
abbrev pub ends_of : List AxisPart → List Bool
ends_of parts = flat_map (λ (part : AxisPart). last_of part.size false part.counts) parts

drop-both : {A : Type 0} (k : ℕ) (xs ys : List A) → drop k (xs ++ ys) ≡ drop k xs ++ drop (k - length xs) ys
drop-both zero xs ys = let none : 0 - length xs ≡ 0 = omega arith in ap (λ n. xs ++ drop n ys) (sym none)
drop-both (suc k) [] ys = let same : suc k - 0 ≡ suc k = omega arith in ap (λ n. drop n ys) (sym same)
drop-both (suc k) (x ∷ xs) ys = let same : k - length xs ≡ suc k - suc (length xs) = omega arith in drop-both k xs ys ∙ ap (λ n. drop k xs ++ drop n ys) same

take-both : {A : Type 0} (k : ℕ) (xs ys : List A) → take k (xs ++ ys) ≡ take k xs ++ take (k - length xs) ys
take-both zero xs ys = let none : 0 - length xs ≡ 0 = omega arith in ap (λ n. take n ys) (sym none)
take-both (suc k) [] ys = let same : suc k - 0 ≡ suc k = omega arith in ap (λ n. take n ys) (sym same)
take-both (suc k) (x ∷ xs) ys = let same : k - length xs ≡ suc k - suc (length xs) = omega arith in ap (λ zs. x ∷ zs) (take-both k xs ys ∙ ap (λ n. take k xs ++ take n ys) same)

-- a stretch of places in two parts
slice-both : {A : Type 0} (xs ys : List A) (from to : ℕ) → slice_range (xs ++ ys) from to ≡ slice_range xs from to ++ slice_range ys (from - length xs) (to - length xs)
slice-both xs ys from to =
    let size = length-drop from xs in
    let same : to - from - length (drop from xs) ≡ to - length xs - (from - length xs) = omega (arith, size) in
    ap (take (to - from)) (drop-both from xs ys) ∙ take-both (to - from) (drop from xs) (drop (from - length xs) ys)
    ∙ ap (λ n. take (to - from) (drop from xs) ++ take n (drop (from - length xs) ys)) same

sum_take : (n : ℕ) (xs : List Bool) → sum_by one_if (take n xs) ≤ sum_by one_if xs
sum_take n xs = let all = sym (sum_by-append one_if (take n xs) (drop n xs)) ∙ ap (sum_by one_if) (take-append-drop n xs) in omega (arith, all)

sum_drop : (n : ℕ) (xs : List Bool) → sum_by one_if (drop n xs) ≤ sum_by one_if xs
sum_drop n xs = let all = sym (sum_by-append one_if (take n xs) (drop n xs)) ∙ ap (sum_by one_if) (take-append-drop n xs) in omega (arith, all)

sum_slice : (xs : List Bool) (from to : ℕ) → sum_by one_if (slice_range xs from to) ≤ sum_by one_if xs
sum_slice xs from to = let one = sum_take (to - from) (drop from xs) in let two = sum_drop from xs in omega (arith, one, two)

sum_none : (n : ℕ) → sum_by one_if (last_of n false false) ≡ 0
sum_none zero = refl
sum_none (suc zero) = refl
sum_none (suc (suc n)) = let more = sum_none (suc n) in let sum = sum_by-cons one_if false (last_of (suc n) false false) in omega (arith, more, sum)

sum_all : (n : ℕ) → sum_by one_if (last_of n true true) ≡ n
sum_all zero = refl
sum_all (suc zero) = refl
sum_all (suc (suc n)) = let more = sum_all (suc n) in let sum = sum_by-cons one_if true (last_of (suc n) true true) in omega (arith, more, sum)

-- the last byte has what the last byte has
get_last : (n : ℕ) (b : Bool) (later : List Bool) → get_or (last_of (suc n) false b ++ later) n false ≡ b
get_last zero b later = refl
get_last (suc n) b later = get_last n b later

slice-empty : (xs : List Bool) (from to : ℕ) → to ≤ from → sum_by one_if (slice_range xs from to) ≡ 0
slice-empty xs from to none = let size : to - from ≡ 0 = omega arith in ap (λ n. sum_by one_if (take n (drop from xs))) size

slice-past : (xs : List Bool) (from to : ℕ) → length xs ≤ from → sum_by one_if (slice_range xs from to) ≡ 0
slice-past xs from to past = ap (λ (x : List Bool). sum_by one_if (take (to - from) x)) (drop_all from xs past) ∙ none (to - from)
  where
    none : (n : ℕ) → sum_by one_if (take n []) ≡ 0
    none zero = refl
    none (suc n) = refl

longest_rises : (part : AxisPart) (parts : List AxisPart) → longest_of parts ≤ longest_of (part ∷ parts)
longest_rises part parts = by part.is_record (nat_lt (longest_of parts) part.size) refl
  where
    by : (t u : Bool) → nat_lt (longest_of parts) part.size ≡ u → longest_of parts ≤ (if t && u then part.size else longest_of parts)
    by false u is = omega arith
    by true false is = omega arith
    by true true is = let less : longest_of parts < part.size = grind (arith, nat_tests, is) in omega (arith, less)

longest_has : (part : AxisPart) (parts : List AxisPart) → part.is_record ≡ true → part.size ≤ longest_of (part ∷ parts)
longest_has part parts record_is = by part.is_record (nat_lt (longest_of parts) part.size) record_is refl
  where
    by : (t u : Bool) → t ≡ true → nat_lt (longest_of parts) part.size ≡ u → part.size ≤ (if t && u then part.size else longest_of parts)
    by false u never is = absurd (cc)
    by true false known is = let less : part.size ≤ longest_of parts = grind (arith, nat_tests, is) in omega (arith, less)
    by true true known is = omega arith

-- what counts as a row is a record
abbrev pub AreRecordRows : List AxisPart → Type 0
AreRecordRows [] = Unit {0}
AreRecordRows (part ∷ parts) = (part.counts ≡ true → part.is_record ≡ true) × AreRecordRows parts

records-append : (xs ys : List AxisPart) → AreRecordRows xs → AreRecordRows ys → AreRecordRows (xs ++ ys)
records-append [] ys one two = two
records-append (x ∷ xs) ys (here, one) two = (here, records-append xs ys one two)

-- no row ends at these places
abbrev EndNone : List Bool → ℕ → ℕ → Type 0
EndNone ends from to = (place : ℕ) → from ≤ place → place < to → get_or ends place false ≡ false

-- the bytes of rows of one part
part_rows : (n : ℕ) (counts : Bool) (later : List Bool) (from to longest rest : ℕ) → EndNone (last_of n false counts ++ later) from to → (counts ≡ true → n ≤ longest) → rest ≤ longest
    → (n < to → from < n → counts ≡ false) → (to ≤ n → rest ≡ 0)
    → sum_by one_if (slice_range (last_of n counts counts) from to) + rest ≤ longest
part_rows n false later from to longest rest none here more last past =
    let one = sum_slice (last_of n false false) from to in let two = sum_none n in omega (arith, one, two)
part_rows n true later from to longest rest none here more last past =
    let one = sum_slice (last_of n true true) from to in
    let two = sum_all n in
    let few = here refl in
    let size : length (last_of n true true) ≡ n = length-last_of n true true in
    by_place (to_or_not to n) (to_or_not n from) one two few size
  where
    to_or_not : (a b : ℕ) → (a ≤ b) ⊎ (b < a)
    to_or_not zero b = inl (omega arith)
    to_or_not (suc a) zero = inr (omega arith)
    to_or_not (suc a) (suc b) = next (to_or_not a b)
      where
        next : (a ≤ b) ⊎ (b < a) → (suc a ≤ suc b) ⊎ (suc b < suc a)
        next (inl is) = inl (omega (arith, is))
        next (inr is) = inr (omega (arith, is))

    by_place : (to ≤ n) ⊎ (n < to) → (n ≤ from) ⊎ (from < n) → sum_by one_if (slice_range (last_of n true true) from to) ≤ sum_by one_if (last_of n true true) → sum_by one_if (last_of n true true) ≡ n
        → n ≤ longest → length (last_of n true true) ≡ n → sum_by one_if (slice_range (last_of n true true) from to) + rest ≤ longest
    by_place (inl within) either one two few size = let nothing = past within in omega (arith, one, two, few, nothing)
    by_place (inr over) (inl before) one two few size = let nothing = slice-past (last_of n true true) from to (omega (arith, size, before)) in omega (arith, nothing, more)
    by_place (inr over) (inr across) one two few size = let never : true ≡ false = last over across in absurd (cc)

-- places at which no row ends have no more bytes of rows than the longest record
pub rows_few : (parts : List AxisPart) (from to : ℕ) → AreRecordRows parts → EndNone (ends_of parts) from to → sum_by one_if (slice_range (rows_of parts) from to) ≤ longest_of parts
rows_few [] from to fit none = let nothing = slice-past [] from to (omega arith) in omega (arith, nothing)
rows_few (part ∷ parts) from to (here, fit) none =
    let n : ℕ = part.size in
    let first : List Bool = last_of n part.counts part.counts in
    let ends : List Bool = last_of n false part.counts in
    let size : length first ≡ n = length-last_of n part.counts part.counts in
    let ends_size : length ends ≡ n = length-last_of n false part.counts in
    let later : EndNone (ends_of parts) (from - n) (to - n) = λ place low high.
    let same : length ends + place ≡ n + place = omega (arith, ends_size) in
    sym (get_or-append-add ends (ends_of parts) place false) ∙ ap (λ k. get_or (ends ++ ends_of parts) k false) same ∙ none (n + place) (omega arith) (omega arith) in
    let rest = rows_few parts (from - n) (to - n) fit later in
    let rises = longest_rises part parts in
    let has : part.counts ≡ true → n ≤ longest_of (part ∷ parts) = λ counts. longest_has part parts (here counts) in
    let last : n < to → from < n → part.counts ≡ false = λ over across. last_none n part.counts (ends_of parts) from to none over across in
    let past : to ≤ n → sum_by one_if (slice_range (rows_of parts) (from - n) (to - n)) ≡ 0 = λ within. slice-empty (rows_of parts) (from - n) (to - n) (omega arith) in
    let cut : sum_by one_if (slice_range (first ++ rows_of parts) from to) ≡ sum_by one_if (slice_range first from to) + sum_by one_if (slice_range (rows_of parts) (from - n) (to - n)) =
    ap (sum_by one_if) (slice-both first (rows_of parts) from to) ∙ sum_by-append one_if (slice_range first from to) (slice_range (rows_of parts) (from - length first) (to - length first))
    ∙ ap (λ k. sum_by one_if (slice_range first from to) + sum_by one_if (slice_range (rows_of parts) (from - k) (to - k))) size in
    let all = part_rows n part.counts (ends_of parts) from to (longest_of (part ∷ parts)) (sum_by one_if (slice_range (rows_of parts) (from - n) (to - n))) none has (omega (arith, rest, rises)) last past in
    omega (arith, cut, all)
  where
    last_none : (n : ℕ) (counts : Bool) (later : List Bool) (from to : ℕ) → EndNone (last_of n false counts ++ later) from to → n < to → from < n → counts ≡ false
    last_none zero counts later from to none over across = absurd (omega arith)
    last_none (suc n) counts later from to none over across = sym (get_last n counts later) ∙ none n (omega arith) (omega arith)

text_records : (s : CsvScan) (make : Maker) (start : PartStart) (parts : List TextPart) → AreRecordRows (text_axis s make start parts)
text_records s make start [] = tt
text_records s make start (part ∷ parts) = (one part.found start.awaits_header, text_records s make (start_after (length s.scan.fields) start part) parts)
  where
    one : (found : Option CsvRecord) (head : Bool) → is_row_part (length s.scan.fields) head found ≡ true → (axis_part s make start (record { bytes = part.bytes; found = found })).is_record ≡ true
    one None head counts = absurd (cc)
    one (Some r) head counts = refl

files_records : (s : CsvScan) (make : Maker) (file position : ℕ) (names files : List (List ℕ)) → AreRecordRows (files_axis s make file position names files)
files_records s make file position [] files = tt
files_records s make file position (name ∷ names) [] = tt
files_records s make file position (name ∷ names) (bytes ∷ files) =
    let here : List AxisPart = file_axis s make file name position bytes in
    records-append here (files_axis s make (file + 1) (position + rows_counted here) names files)
    (λ never. absurd (cc), text_records s make (file_start s file name position bytes) (text_parts s.options (unmarked bytes)))
    (files_records s make (file + 1) (position + rows_counted here) names files)

pub ends_each_row : (s : CsvScan) → EndsEachRowOfFiles s
ends_each_row s = λ first head names files opened text_of from to none.
    let parts : List AxisPart = files_axis s (scanned_within s.scan (csv_keeps s first names files)) first 0 names files in
    rows_few parts from to (files_records s (scanned_within s.scan (csv_keeps s first names files)) first 0 names files) none

length-rows_of : (parts : List AxisPart) → length (rows_of parts) ≡ bytes_of parts
length-rows_of [] = refl
length-rows_of (part ∷ parts) =
    length-append (last_of part.size part.counts part.counts) (rows_of parts) ∙ ap (λ n. n + length (rows_of parts)) (length-last_of part.size part.counts part.counts)
    ∙ ap (λ n. part.size + n) (length-rows_of parts) ∙ sym (sum_by-cons (λ (x : AxisPart). x.size) part parts)

pub length-ends_of : (parts : List AxisPart) → length (ends_of parts) ≡ bytes_of parts
length-ends_of [] = refl
length-ends_of (part ∷ parts) =
    length-append (last_of part.size false part.counts) (ends_of parts) ∙ ap (λ n. n + length (ends_of parts)) (length-last_of part.size false part.counts)
    ∙ ap (λ n. part.size + n) (length-ends_of parts) ∙ sym (sum_by-cons (λ (x : AxisPart). x.size) part parts)

pub has_each_byte : (s : CsvScan) → IsDialect s.options → HasEachByte s
has_each_byte s fit = λ first head names files opened text_of same.
    let parts : List AxisPart = files_axis s (scanned_within s.scan (csv_keeps s first names files)) first 0 names files in
    let size = bytes_of-files s (scanned_within s.scan (csv_keeps s first names files)) first 0 names files fit same in
    (length-gives_of parts ∙ size, length-rows_of parts ∙ size, length-ends_of parts ∙ size)
