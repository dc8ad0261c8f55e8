-- What is passed of a file without a row gives nothing.
use Rattle.std.proofs.Common.{◌≡◌, ℕ, ◌+◌, ◌-◌, ◌≤◌, ap, sym, subst, refl, ◌∙◌, inl, inr, arith, append_assoc, append-nil, length-append}
use Rattle.std.specs.Prelude.{Bool, true, false, ◌⊎◌, ◌&&◌, ◌==◌, if◌then◌else◌, Ok, List, [], ◌∷◌, ◌++◌, length, take, drop, slice_range, IsUtf8}
use Rattle.std.proofs.lemmas.Str.{IsUtf8-past_char}
use lib.Utf8.{encode}
use Rattle.std.proofs.lemmas.List.{take-append-drop, take-append-le, drop_at, take_at, drop-drop}
use Rattle.std.proofs.Math.Seq.{take-append_seam}
use Rattle.morsel_grammar.specs.Dialect.{IsDialect}
use Rattle.morsel_grammar.specs.Grammar.{CsvRecord, Records}
use Rattle.morsel_grammar.specs.Rows.{is_header, behind_header, mark_len, unmarked}
use Rattle.morsel_grammar.specs.GrammarRows.{AreWholeRecords, awaits_header_after}
use Rattle.morsel_grammar.proofs.ByteLemmas.{same_byte}
use Rattle.morsel_grammar.proofs.WholeRecordLemmas.{records_behind, records_whole}
use Rattle.morsel_cut.specs.RowCounts.{row_count}
use Rattle.morsel_cut.proofs.CountLemmas.{adds_rows}
use Rattle.morsel_scan.specs.Scans.{CsvScan}
use Rattle.morsel_scan.specs.CsvPieces.{HasRowsUpTo}
use Rattle.morsel_scan.specs.CsvAxis.{TextPart, text_parts, PartStart, AxisPart, text_axis, file_axis, last_of, gives_of}
use Rattle.morsel_scan.proofs.StretchLemmas.{Places}
use Rattle.morsel_scan.proofs.PartLemmas.{parts-whole, parts-front, start_past, start_past-records}
use Rattle.morsel_scan.proofs.AxisLemmas.{Maker, length-last_of, length-gives_of, gives_of-append, text_axis-append, bytes_of-text, collected-nothing}
use Rattle.morsel_scan.proofs.AxisFileLemmas.{file_start, mark_size}
use Rattle.morsel_scan.proofs.MidstLemmas.{GivesNothing}
use Rattle.morsel_scan.proofs.StandLemmas.{nothing_given}

encoded_mark : encode 65279 ≡ 239 ∷ 187 ∷ 191 ∷ []
unfolding encode
encoded_mark = refl

marked_utf8 : (a b c : ℕ) (rest : List ℕ) (t : Bool) → (a == 239 && (b == 187 && c == 191)) ≡ t → (text : List ℕ) → IsUtf8 (take (if t then 3 else 0) (a ∷ b ∷ c ∷ rest) ++ text) → IsUtf8 text
marked_utf8 a b c rest false is text utf8 = utf8
marked_utf8 a b c rest true is text utf8 =
    let parts = both (a == 239) (b == 187 && c == 191) is in
    let others = both (b == 187) (c == 191) parts.1 in
    let same : a ∷ b ∷ c ∷ text ≡ 239 ∷ 187 ∷ 191 ∷ text =
    ap (λ (x : ℕ). x ∷ b ∷ c ∷ text) (same_byte a 239 parts.0) ∙ ap (λ (x : ℕ). 239 ∷ x ∷ c ∷ text) (same_byte b 187 others.0)
    ∙ ap (λ (x : ℕ). 239 ∷ 187 ∷ x ∷ text) (same_byte c 191 others.1) in
    let P : List ℕ → Type 0 = λ x. IsUtf8 x in
    IsUtf8-past_char (239 ∷ 187 ∷ 191 ∷ text) text 65279 (subst P same utf8) (ap (λ (x : List ℕ). x ++ text) (sym encoded_mark))
  where
    both : (s t : Bool) → (s && t) ≡ true → (s ≡ true) × (t ≡ true)
    both true t is = (refl, is)
    both false t is = absurd (cc)

-- what follows the mark is UTF-8, where both are
utf8_past_mark : (bytes text : List ℕ) → IsUtf8 (take (mark_len bytes) bytes ++ text) → IsUtf8 text
utf8_past_mark [] text utf8 = utf8
utf8_past_mark (a ∷ []) text utf8 = utf8
utf8_past_mark (a ∷ b ∷ []) text utf8 = utf8
utf8_past_mark (a ∷ b ∷ c ∷ bytes) text utf8 = marked_utf8 a b c bytes (a == 239 && (b == 187 && c == 191)) refl text utf8

-- records up to a place of a file, which is its end or stands after whole records, and how many rows they are
pub record AreRowsUpTo (s : CsvScan) (bytes : List ℕ) (at rows : ℕ) : Type 0 where
  pub front : List ℕ
  pub rest : List ℕ
  pub records : List CsvRecord
  pub split : unmarked bytes ≡ front ++ rest
  pub are : Records s.options front records
  pub ends : (AreWholeRecords s.options front records) ⊎ (rest ≡ [])
  pub place : at ≡ mark_len bytes + length front
  pub rows_are : rows ≡ row_count (length s.scan.fields) (behind_header s.options.has_header records)

pub rows_upto : (s : CsvScan) (bytes : List ℕ) (at rows : ℕ) (awaits_header : Bool) → IsDialect s.options → HasRowsUpTo s bytes at rows awaits_header → AreRowsUpTo s bytes at rows
rows_upto s bytes at rows awaits_header fit has = record {
  front = has.front;
  rest = has.rest;
  records = has.records;
  split = has.split;
  are = records_whole s.options has.front has.records fit has.whole;
  ends = inl has.whole;
  place = has.place;
  rows_are = has.rows_are;
}

pub rows_upto_end : (s : CsvScan) (bytes : List ℕ) (records : List CsvRecord) → Records s.options (unmarked bytes) records
    → AreRowsUpTo s bytes (length bytes) (row_count (length s.scan.fields) (behind_header s.options.has_header records))
rows_upto_end s bytes records split = record {
  front = unmarked bytes;
  rest = [];
  records = records;
  split = sym (append-nil (unmarked bytes));
  are = split;
  ends = inr refl;
  place = sym (mark_size bytes);
  rows_are = refl;
}

-- a stretch may begin here, within the file or before it
abbrev pub BeginsHere : CsvScan → List ℕ → ℕ → ℕ → Type 0
BeginsHere s bytes at rows = ((awaits_header : Bool) × HasRowsUpTo s bytes at rows awaits_header) ⊎ ((at ≡ 0) × (rows ≡ 0))

awaits_nothing : (head : Bool) → awaits_header_after head [] ≡ head
awaits_nothing true = refl
awaits_nothing false = refl

-- the rows of records in two parts
rows_behind-append : (columns : ℕ) (head : Bool) (first later : List CsvRecord)
    → row_count columns (behind_header head (first ++ later)) ≡ row_count columns (behind_header head first) + row_count columns (behind_header (awaits_header_after head first) later)
rows_behind-append columns false first later = adds_rows columns first later
rows_behind-append columns true [] later = let same : row_count columns (behind_header true later) ≡ 0 + row_count columns (behind_header true later) = omega arith in same
rows_behind-append columns true (r ∷ first) later = by (is_header r) (rows_behind-append columns true first later)
  where
    by : (t : Bool)
        → row_count columns (behind_header true (first ++ later)) ≡ row_count columns (behind_header true first) + row_count columns (behind_header (awaits_header_after true first) later)
        → row_count columns (if t then first ++ later else behind_header true (first ++ later))
        ≡ row_count columns (if t then first else behind_header true first) + row_count columns (behind_header (if t then false else awaits_header_after true first) later)
    by true more = adds_rows columns first later
    by false more = more

-- what stands between a place and one after it: records, whose rows are the difference
record StandsBetween (s : CsvScan) (front records_text : List ℕ) (head : Bool) (before records : List CsvRecord) : Type 0 where
  mid : List ℕ
  text : records_text ≡ front ++ mid
  later : List CsvRecord
  are : Records s.options mid later
  rows : row_count (length s.scan.fields) (behind_header head records) ≡ row_count (length s.scan.fields) (behind_header head before) + row_count (length s.scan.fields) (behind_header (awaits_header_after head before) later)

between : (s : CsvScan) (front rest upto left : List ℕ) (before records : List CsvRecord) → IsDialect s.options → AreWholeRecords s.options front before → Records s.options upto records
    → front ++ rest ≡ upto ++ left → length front ≤ length upto → StandsBetween s front upto s.options.has_header before records
between s front rest upto left before records fit whole are same within =
    let mid : List ℕ = drop (length front) upto in
    let first : take (length front) upto ≡ front = sym (take-append-le (length front) upto left within) ∙ ap (take (length front)) (sym same) ∙ take-append_seam front rest in
    let text : upto ≡ front ++ mid = sym (take-append-drop (length front) upto) ∙ ap (λ (x : List ℕ). x ++ mid) first in
    let P : List ℕ → Type 0 = λ x. Records s.options x records in
    let found = records_behind s.options front mid before records fit whole (subst P text are) in record {
      mid = mid;
      text = text;
      later = found.0;
      are = found.2;
      rows = ap (λ (x : List CsvRecord). row_count (length s.scan.fields) (behind_header s.options.has_header x)) found.1 ∙ rows_behind-append (length s.scan.fields) s.options.has_header before found.0;
    }

-- the rows before a place are no more than those before a later one
pub rows_rise : (s : CsvScan) (bytes : List ℕ) (at to rows more : ℕ) → IsDialect s.options → BeginsHere s bytes at rows → AreRowsUpTo s bytes to more → at ≤ to → rows ≤ more
rows_rise s bytes at to rows more fit (inr (start, none)) upto order = omega (arith, none)
rows_rise s bytes at to rows more fit (inl (awaits_header, has)) upto order =
    let one = has.place in
    let two = upto.place in
    let gap = between s has.front has.rest upto.front upto.rest has.records upto.records fit has.whole upto.are (sym has.split ∙ upto.split) (omega (arith, one, two)) in
    let three = has.rows_are in
    let four = upto.rows_are in
    let five = gap.rows in
    omega (arith, three, four, five)

pub size_of : (s : CsvScan) (make : Maker) (start : PartStart) (text : List ℕ) → IsDialect s.options → length (gives_of (text_axis s make start (text_parts s.options text))) ≡ length text
size_of s make start text fit = length-gives_of (text_axis s make start (text_parts s.options text)) ∙ bytes_of-text s make fit text start

-- what a file gives, its text being cut after records
pub file-cut : (s : CsvScan) (make : Maker) (file : ℕ) (name : List ℕ) (position : ℕ) (bytes front rest : List ℕ) (records : List CsvRecord) → IsDialect s.options → unmarked bytes ≡ front ++ rest
    → (AreWholeRecords s.options front records) ⊎ (rest ≡ [])
    → (let start : PartStart = file_start s file name position bytes in
    gives_of (file_axis s make file name position bytes)
    ≡ last_of (mark_len bytes) (Ok []) (Ok []) ++ (gives_of (text_axis s make start (text_parts s.options front))
    ++ gives_of (text_axis s make (start_past (length s.scan.fields) start (text_parts s.options front)) (text_parts s.options rest))))
file-cut s make file name position bytes front rest records fit split ends =
    let start : PartStart = file_start s file name position bytes in
    let past : PartStart = start_past (length s.scan.fields) start (text_parts s.options front) in
    let mark : Places = last_of (mark_len bytes) (Ok []) (Ok []) in
    ap (λ (parts : List TextPart). mark ++ gives_of (text_axis s make start parts)) (ap (text_parts s.options) split ∙ parts-front s.options front rest records fit ends)
    ∙ ap (λ (parts : List AxisPart). mark ++ gives_of parts) (text_axis-append s make start (text_parts s.options front) (text_parts s.options rest))
    ∙ ap (λ (x : Places). mark ++ x) (gives_of-append (text_axis s make start (text_parts s.options front)) (text_axis s make past (text_parts s.options rest)))

-- what a text gives, cut after whole records
text-cut : (s : CsvScan) (make : Maker) (start : PartStart) (front mid : List ℕ) (records : List CsvRecord) → IsDialect s.options → AreWholeRecords s.options front records
    → gives_of (text_axis s make start (text_parts s.options (front ++ mid)))
    ≡ gives_of (text_axis s make start (text_parts s.options front)) ++ gives_of (text_axis s make (start_past (length s.scan.fields) start (text_parts s.options front)) (text_parts s.options mid))
text-cut s make start front mid records fit whole =
    let past : PartStart = start_past (length s.scan.fields) start (text_parts s.options front) in
    ap (λ (parts : List TextPart). gives_of (text_axis s make start parts)) (parts-whole s.options front mid records fit whole)
    ∙ ap gives_of (text_axis-append s make start (text_parts s.options front) (text_parts s.options mid))
    ∙ gives_of-append (text_axis s make start (text_parts s.options front)) (text_axis s make past (text_parts s.options mid))

-- the bytes between two places after the mark
slice_mid : (bytes front mid rest : List ℕ) (from to : ℕ) → unmarked bytes ≡ front ++ (mid ++ rest) → from ≡ mark_len bytes + length front → to ≡ from + length mid → slice_range bytes from to ≡ mid
slice_mid bytes front mid rest from to split from_is to_is =
    let size : to - from ≡ length mid = omega arith in
    let there : drop from bytes ≡ mid ++ rest =
    ap (λ n. drop n bytes) from_is ∙ sym (drop-drop (length front) (mark_len bytes) bytes) ∙ ap (drop (length front)) split ∙ drop_at front (mid ++ rest) (length front) refl in
    ap (λ n. take n (drop from bytes)) size ∙ ap (take (length mid)) there ∙ take_at mid rest (length mid) refl

-- the bytes from the beginning of a file
slice_start : (bytes front rest : List ℕ) (to : ℕ) → unmarked bytes ≡ front ++ rest → to ≡ mark_len bytes + length front → slice_range bytes 0 to ≡ take (mark_len bytes) bytes ++ front
slice_start bytes front rest to split to_is =
    let mark : List ℕ = take (mark_len bytes) bytes in
    let whole : bytes ≡ (mark ++ front) ++ rest = sym (take-append-drop (mark_len bytes) bytes) ∙ ap (λ (x : List ℕ). mark ++ x) split ∙ sym (append_assoc mark front rest) in
    let one = mark_size bytes in
    let all : length bytes ≡ length (mark ++ front) + length rest = ap length whole ∙ length-append (mark ++ front) rest in
    let text : length (unmarked bytes) ≡ length front + length rest = ap length split ∙ length-append front rest in
    let size : length (mark ++ front) ≡ to - 0 = omega (arith, one, all, text) in
    ap (take (to - 0)) whole ∙ take_at (mark ++ front) rest (to - 0) size

-- what stands between two places of a file with as many rows before the one as before the other gives nothing, where it is UTF-8
pub nothing_between : (s : CsvScan) (make : Maker) (file : ℕ) (name : List ℕ) (position : ℕ) (bytes : List ℕ) (at to rows : ℕ) → IsDialect s.options
    → BeginsHere s bytes at rows → AreRowsUpTo s bytes to rows → at ≤ to → IsUtf8 (slice_range bytes at to) → GivesNothing (gives_of (file_axis s make file name position bytes)) at to
nothing_between s make file name position bytes at to rows fit (inr (begin, none)) upto order utf8 =
    let start : PartStart = file_start s file name position bytes in
    let past : PartStart = start_past (length s.scan.fields) start (text_parts s.options upto.front) in
    let mark : Places = last_of (mark_len bytes) (Ok []) (Ok []) in
    let first : Places = gives_of (text_axis s make start (text_parts s.options upto.front)) in
    let rest : Places = gives_of (text_axis s make past (text_parts s.options upto.rest)) in
    let one : length mark ≡ mark_len bytes = length-last_of (mark_len bytes) (Ok []) (Ok []) in
    let two : length first ≡ length upto.front = size_of s make start upto.front fit in
    let there = upto.place in
    let no_rows = upto.rows_are in
    let P : ℕ → Type 0 = λ n. IsUtf8 (slice_range bytes n to) in
    let Q : List ℕ → Type 0 = λ x. IsUtf8 x in
    let text : IsUtf8 upto.front = utf8_past_mark bytes upto.front (subst Q (slice_start bytes upto.front upto.rest to upto.split upto.place) (subst P begin utf8)) in record {
      mid = mark ++ first;
      is = record {
        before = [];
        after = rest;
        split = file-cut s make file name position bytes upto.front upto.rest upto.records fit upto.split upto.ends ∙ sym (append_assoc mark first rest);
        from_is = begin;
        to_is = omega (arith, length-append mark first, one, two, there, begin);
      };
      nothing = collected-nothing (mark_len bytes) first ∙ nothing_given s make start upto.front upto.records fit upto.are text (omega (arith, no_rows, none));
    }
nothing_between s make file name position bytes at to rows fit (inl (awaits_header, has)) upto order utf8 =
    let columns : ℕ = length s.scan.fields in
    let start : PartStart = file_start s file name position bytes in
    let past : PartStart = start_past columns start (text_parts s.options has.front) in
    let end : PartStart = start_past columns start (text_parts s.options upto.front) in
    let here = has.place in
    let there = upto.place in
    let gap = between s has.front has.rest upto.front upto.rest has.records upto.records fit has.whole upto.are (sym has.split ∙ upto.split) (omega (arith, here, there)) in
    let mark : Places = last_of (mark_len bytes) (Ok []) (Ok []) in
    let first : Places = gives_of (text_axis s make start (text_parts s.options has.front)) in
    let mid : Places = gives_of (text_axis s make past (text_parts s.options gap.mid)) in
    let rest : Places = gives_of (text_axis s make end (text_parts s.options upto.rest)) in
    let one : length mark ≡ mark_len bytes = length-last_of (mark_len bytes) (Ok []) (Ok []) in
    let two : length first ≡ length has.front = size_of s make start has.front fit in
    let three : length mid ≡ length gap.mid = size_of s make past gap.mid fit in
    let size : length upto.front ≡ length has.front + length gap.mid = ap length gap.text ∙ length-append has.front gap.mid in
    let before_rows = has.rows_are in
    let upto_rows = upto.rows_are in
    let rows_more = gap.rows in
    let none : row_count columns (behind_header (awaits_header_after s.options.has_header has.records) gap.later) ≡ 0 = omega (arith, before_rows, upto_rows, rows_more) in
    let awaits : past.awaits_header ≡ awaits_header_after s.options.has_header has.records =
    ap (λ (x : PartStart). x.awaits_header) (start_past-records s.options columns start has.front has.records fit (records_whole s.options has.front has.records fit has.whole)) in
    let P : Bool → Type 0 = λ t. row_count columns (behind_header t gap.later) ≡ 0 in
    let Q : List ℕ → Type 0 = λ x. IsUtf8 x in
    let whole : unmarked bytes ≡ has.front ++ (gap.mid ++ upto.rest) = upto.split ∙ ap (λ (x : List ℕ). x ++ upto.rest) gap.text ∙ append_assoc has.front gap.mid upto.rest in
    let text : IsUtf8 gap.mid = subst Q (slice_mid bytes has.front gap.mid upto.rest at to whole here (omega (arith, here, there, size))) utf8 in
    let cut : gives_of (text_axis s make start (text_parts s.options upto.front)) ≡ first ++ mid =
    ap (λ (x : List ℕ). gives_of (text_axis s make start (text_parts s.options x))) gap.text ∙ text-cut s make start has.front gap.mid has.records fit has.whole in record {
      mid = mid;
      is = record {
        before = mark ++ first;
        after = rest;
        split = file-cut s make file name position bytes upto.front upto.rest upto.records fit upto.split upto.ends
            ∙ ap (λ (x : Places). mark ++ (x ++ rest)) cut ∙ ap (λ (x : Places). mark ++ x) (append_assoc first mid rest) ∙ sym (append_assoc mark first (mid ++ rest));
        from_is = omega (arith, length-append mark first, one, two, here);
        to_is = omega (arith, three, here, there, size);
      };
      nothing = nothing_given s make past gap.mid gap.later fit gap.are text (subst P (sym awaits) none);
    }
