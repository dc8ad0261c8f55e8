-- The rows of a file before a place, and before one further on.
use Rattle.std.proofs.Common.{◌≡◌, ℕ, zero, suc, ◌+◌, ◌-◌, ◌≤◌, ap, sym, subst, refl, ◌∙◌, inl, inr, arith, length-append, append_assoc, append-nil}
use Rattle.std.proofs.Math.Seq.{take-add}
use Rattle.std.proofs.lemmas.List.{take-append-drop, drop-drop, drop_all, drop_at, drop-append-le, length-drop}
use Rattle.std.specs.Prelude.{Bool, true, false, List, [], ◌∷◌, ◌++◌, length, take, drop, slice_range}
use Rattle.morsel_grammar.specs.Dialect.{Dialect, IsDialect}
use Rattle.morsel_grammar.specs.Grammar.{CsvRecord, Records}
use Rattle.morsel_grammar.specs.Rows.{mark_len, unmarked, behind_header}
use Rattle.morsel_grammar.specs.GrammarRows.{AreWholeRecords, awaits_header_after}
use Rattle.morsel_grammar.proofs.OpeningCutLemmas.{mark_len-within}
use Rattle.morsel_grammar.proofs.WholeRecordLemmas.{joins_whole, splits_behind_whole}
use Rattle.morsel_cut.specs.RowCounts.{row_count}
use Rattle.morsel_cut.proofs.CountLemmas.{adds_rows}
use Rattle.morsel_scan.specs.Scans.{CsvScan}
use Rattle.morsel_scan.specs.CsvPieces.{HaveRows, HasRowsUpTo}
use Rattle.morsel_scan.specs.FileReads.{text_at}
use Rattle.morsel_scan.specs.RowBlocks.{HasRowsBeforePlace}
use Rattle.morsel_scan.proofs.HeaderLemmas.{behind_header-append, awaits_header-append}

-- what is between three places
pub slice-append : (bytes : List ℕ) (a b c : ℕ) → a ≤ b → b ≤ c → slice_range bytes a b ++ slice_range bytes b c ≡ slice_range bytes a c
slice-append bytes a b c first second =
    let sum : b - a + (c - b) ≡ c - a = omega arith in
    let place : a + (b - a) ≡ b = omega arith in
    ap (λ (x : List ℕ). slice_range bytes a b ++ take (c - b) x) (ap (λ (k : ℕ). drop k bytes) (sym place) ∙ sym (drop-drop (b - a) a bytes))
    ∙ sym (take-add (b - a) (c - b) (drop a bytes)) ∙ ap (λ (k : ℕ). take k (drop a bytes)) sum

-- the bytes from a place on, of which the first are given
pub rest_split : (bytes part : List ℕ) (given : ℕ) → slice_range bytes given (given + length part) ≡ part → drop given bytes ≡ part ++ drop (given + length part) bytes
rest_split bytes part given held =
    let size : given + length part - given ≡ length part = omega arith in
    sym (take-append-drop (length part) (drop given bytes))
    ∙ ap (λ (x : List ℕ). x ++ drop (length part) (drop given bytes)) (ap (λ (k : ℕ). take k (drop given bytes)) (sym size) ∙ held)
    ∙ ap (λ (x : List ℕ). part ++ x) (drop-drop (length part) given bytes)

-- a file that begins with a part that has its mark
pub unmarked_split : (bytes part : List ℕ) → slice_range bytes 0 (0 + length part) ≡ part → mark_len part ≡ mark_len bytes → unmarked bytes ≡ unmarked part ++ drop (0 + length part) bytes
unmarked_split bytes part held mark =
    let all : bytes ≡ part ++ drop (0 + length part) bytes = rest_split bytes part 0 held in
    ap (λ (k : ℕ). drop k bytes) (sym mark) ∙ ap (drop (mark_len part)) all ∙ drop-append-le (mark_len part) part (drop (0 + length part) bytes) (mark_len-within part)

-- no records without bytes
no_records : (o : Dialect) (text : List ℕ) (records : List CsvRecord) → text ≡ [] → AreWholeRecords o text records → records ≡ []
no_records o text [] none are = refl
no_records o text (r ∷ records) none (line, rest, text_is, is, more) = absurd (let size : length (line ++ o.eol ∷ rest) ≡ 0 = ap length (sym text_is ∙ none) in omega (arith, length-append line (o.eol ∷ rest)))

length_none : (text : List ℕ) → length text ≡ 0 → text ≡ []
length_none [] size = refl
length_none (b ∷ text) size = absurd (omega arith)

-- where a file begins there are no rows before
pub begins_none : (s : CsvScan) (bytes : List ℕ) (rows : ℕ) (head : Bool) → HasRowsBeforePlace s bytes 0 rows head → (rows ≡ 0) × (head ≡ s.options.has_header)
begins_none s bytes rows head (inl start) = (start.1, start.2)
begins_none s bytes rows head (inr h) =
    let empty : h.front ≡ [] = length_none h.front (let p = h.place in omega arith) in
    let none : h.records ≡ [] = no_records s.options h.front h.records empty h.whole in (
      h.rows_are ∙ ap (λ (x : List CsvRecord). row_count (length s.scan.fields) (behind_header s.options.has_header x)) none ∙ no_rows s.options.has_header,
      h.header_is ∙ ap (awaits_header_after s.options.has_header) none ∙ no_change s.options.has_header,
    )
  where
    no_rows : (head : Bool) → row_count (length s.scan.fields) (behind_header head []) ≡ 0
    no_rows true = refl
    no_rows false = refl

    no_change : (head : Bool) → awaits_header_after head [] ≡ head
    no_change true = refl
    no_change false = refl

rows_added : (columns : ℕ) (has head : Bool) (first later : List CsvRecord) (rows : ℕ) → rows ≡ row_count columns (behind_header has first) → head ≡ awaits_header_after has first
    → rows + row_count columns (behind_header head later) ≡ row_count columns (behind_header has (first ++ later))
rows_added columns has head first later rows rows_is head_is =
    ap (λ (t : Bool). rows + row_count columns (behind_header t later)) head_is
    ∙ ap (λ (n : ℕ). n + row_count columns (behind_header (awaits_header_after has first) later)) rows_is
    ∙ sym (adds_rows columns (behind_header has first) (behind_header (awaits_header_after has first) later))
    ∙ ap (row_count columns) (sym (behind_header-append has first later))

-- the rows before a place further on, after whole records more
pub rows_further : (s : CsvScan) (bytes part : List ℕ) (given rows : ℕ) (head : Bool) (records : List CsvRecord) → IsDialect s.options → HasRowsBeforePlace s bytes given rows head
    → slice_range bytes given (given + length part) ≡ part → (given ≡ 0 → mark_len part ≡ mark_len bytes) → AreWholeRecords s.options (text_at given part) records
    → HasRowsUpTo s bytes (given + length part) (rows + row_count (length s.scan.fields) (behind_header head records)) (awaits_header_after head records)
rows_further s bytes part zero rows head records fit before held mark whole =
    let start = begins_none s bytes rows head before in
    let has : Bool = s.options.has_header in
    let columns : ℕ = length s.scan.fields in
    record {
      front = unmarked part;
      rest = drop (0 + length part) bytes;
      records = records;
      split = unmarked_split bytes part held (mark refl);
      whole = whole;
      place = let m = mark refl in omega (arith, length-drop (mark_len part) part, mark_len-within part);
      rows_are = ap (λ (t : Bool). rows + row_count columns (behind_header t records)) start.1 ∙ omega (arith, start.0);
      header_is = ap (λ (t : Bool). awaits_header_after t records) start.1;
    }
rows_further s bytes part (suc given) rows head records fit (inl start) held mark whole = absurd (omega (arith, start.0))
rows_further s bytes part (suc given) rows head records fit (inr h) held mark whole =
    let at : ℕ = suc given in
    let has : Bool = s.options.has_header in
    let behind : drop at bytes ≡ h.rest =
    ap (λ (k : ℕ). drop k bytes) h.place ∙ sym (drop-drop (length h.front) (mark_len bytes) bytes) ∙ ap (drop (length h.front)) h.split ∙ drop_at h.front h.rest (length h.front) refl in
    let rest : h.rest ≡ part ++ drop (at + length part) bytes = sym behind ∙ rest_split bytes part at held in
    record {
      front = h.front ++ part;
      rest = drop (at + length part) bytes;
      records = h.records ++ records;
      split = h.split ∙ ap (λ (x : List ℕ). h.front ++ x) rest ∙ sym (append_assoc h.front part (drop (at + length part) bytes));
      whole = joins_whole s.options fit h.front part h.records records h.whole whole;
      place = let p = h.place in omega (arith, length-append h.front part);
      rows_are = rows_added (length s.scan.fields) has head h.records records rows h.rows_are h.header_is;
      header_is = ap (λ (t : Bool). awaits_header_after t records) h.header_is ∙ sym (awaits_header-append has h.records records);
    }

-- the rows of a file, of which the last records are these
pub rows_to_end : (s : CsvScan) (bytes part : List ℕ) (given rows : ℕ) (head : Bool) (records : List CsvRecord) → IsDialect s.options → HasRowsBeforePlace s bytes given rows head
    → slice_range bytes given (given + length part) ≡ part → given + length part ≡ length bytes → (given ≡ 0 → mark_len part ≡ mark_len bytes) → Records s.options (text_at given part) records
    → HaveRows s (bytes ∷ []) (rows + row_count (length s.scan.fields) (behind_header head records))
rows_to_end s bytes part zero rows head records fit before held end mark are =
    let start = begins_none s bytes rows head before in
    let columns : ℕ = length s.scan.fields in
    let nothing : drop (0 + length part) bytes ≡ [] = drop_all (0 + length part) bytes (omega arith) in
    let all : unmarked bytes ≡ unmarked part = unmarked_split bytes part held (mark refl) ∙ ap (λ (x : List ℕ). unmarked part ++ x) nothing ∙ append-nil (unmarked part) in
    let counted : rows + row_count columns (behind_header head records) ≡ row_count columns (behind_header s.options.has_header records) =
    ap (λ (t : Bool). rows + row_count columns (behind_header t records)) start.1 ∙ omega (arith, start.0) in
    (records, subst (λ (x : List ℕ). Records s.options x records) (sym all) are, 0, refl, omega arith)
rows_to_end s bytes part (suc given) rows head records fit (inl start) held end mark are = absurd (omega (arith, start.0))
rows_to_end s bytes part (suc given) rows head records fit (inr h) held end mark are =
    let at : ℕ = suc given in
    let columns : ℕ = length s.scan.fields in
    let nothing : drop (at + length part) bytes ≡ [] = drop_all (at + length part) bytes (omega arith) in
    let behind : drop at bytes ≡ h.rest =
    ap (λ (k : ℕ). drop k bytes) h.place ∙ sym (drop-drop (length h.front) (mark_len bytes) bytes) ∙ ap (drop (length h.front)) h.split ∙ drop_at h.front h.rest (length h.front) refl in
    let rest : h.rest ≡ part = sym behind ∙ rest_split bytes part at held ∙ ap (λ (x : List ℕ). part ++ x) nothing ∙ append-nil part in
    let all : unmarked bytes ≡ h.front ++ part = h.split ∙ ap (λ (x : List ℕ). h.front ++ x) rest in
    let counted : rows + row_count columns (behind_header head records) ≡ row_count columns (behind_header s.options.has_header (h.records ++ records)) =
    rows_added columns s.options.has_header head h.records records rows h.rows_are h.header_is in
    (h.records ++ records, subst (λ (x : List ℕ). Records s.options x (h.records ++ records)) (sym all) ((splits_behind_whole s.options fit h.front part h.records records h.whole).1 are), 0, refl, omega arith)

-- the rows of a file that was given to its end
pub rows_at_end : (s : CsvScan) (bytes : List ℕ) (given rows : ℕ) (head : Bool) → IsDialect s.options → HasRowsBeforePlace s bytes given rows head → given ≡ length bytes → HaveRows s (bytes ∷ []) rows
rows_at_end s bytes given rows head fit before end =
    let none : row_count (length s.scan.fields) (behind_header head []) ≡ 0 = no_rows head in
    let same : rows + row_count (length s.scan.fields) (behind_header head []) ≡ rows = omega arith in
    subst (λ (n : ℕ). HaveRows s (bytes ∷ []) n) same
    (rows_to_end s bytes [] given rows head [] fit before nothing (omega arith) marked (no_text given))
  where
    no_rows : (head : Bool) → row_count (length s.scan.fields) (behind_header head []) ≡ 0
    no_rows true = refl
    no_rows false = refl

    nothing : slice_range bytes given (given + 0) ≡ []
    nothing = let zero_long : given + 0 - given ≡ 0 = omega arith in ap (λ (k : ℕ). take k (drop given bytes)) zero_long

    marked : given ≡ 0 → mark_len [] ≡ mark_len bytes
    marked start = ap mark_len (sym (length_none bytes (omega arith)))

    no_text : (at : ℕ) → Records s.options (text_at at []) []
    no_text zero = refl
    no_text (suc at) = refl
