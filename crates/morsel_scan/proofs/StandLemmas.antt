-- Places of files, file by file: what stands before them, and how many rows.
use Rattle.std.proofs.Common.{◌≡◌, ℕ, ◌+◌, ◌-◌, ◌<◌, ap, sym, subst, refl, ◌∙◌, arith, cond}
use Rattle.std.specs.Prelude.{Bool, true, false, not, ◌||◌, ◌==◌, if◌then◌else◌, Some, Ok, Err, List, [], ◌∷◌, length, IsUtf8}
use Rattle.std.proofs.lemmas.Str.{is_utf8-from_IsUtf8}
use Rattle.std.proofs.lemmas.List.{length-map}
use Rattle.std.proofs.lemmas.List.Sums.{sum_by-cons}
use Rattle.morsel_meaning.specs.declared.value.ColType.{ColType}
use Rattle.morsel_meaning.specs.declared.value.Field.{Field}
use Rattle.morsel_meaning.specs.declared.fault.ComputeKind.TheVariants as kinds
use Rattle.morsel_meaning.specs.declared.fault.Fault.TheVariants as faults
use Rattle.morsel_meaning.specs.Values.{kinds_of}
use Rattle.morsel_grammar.specs.Dialect.{IsDialect}
use Rattle.morsel_grammar.specs.Grammar.{CsvRecord, Comment, Fields, Records}
use Rattle.morsel_grammar.specs.Rows.{NoRow, is_empty, is_header, cells_of, row_or_misfit, row_of_nothing, row_of, behind_header}
use Rattle.morsel_grammar.proofs.ByteLemmas.{either_second}
use Rattle.morsel_grammar.proofs.FirstRecordLemmas.{record_taken, utf8_parts}
use Rattle.morsel_cut.specs.RowCounts.{is_row, row_count}
use Rattle.morsel_scan.specs.Scans.{CsvScan}
use Rattle.morsel_scan.specs.ScanRows.{followed_by}
use Rattle.morsel_scan.specs.StretchRows.{collected}
use Rattle.morsel_scan.specs.CsvAxis.{text_parts, PartStart, start_after, record_gives, part_gives, text_axis, gives_of}
use Rattle.morsel_scan.proofs.GatherLemmas.{followed_by-nothing}
use Rattle.morsel_scan.proofs.StretchLemmas.{Places}
use Rattle.morsel_scan.proofs.PartLemmas.{found_part, parts-record}
use Rattle.morsel_scan.proofs.AxisLemmas.{Maker, collected-sized}

no_row_of_nothing : (kinds : List ColType) → (length kinds == 1 || false) ≡ false → row_of_nothing kinds ≡ NoRow
no_row_of_nothing [] none = refl
no_row_of_nothing (kind ∷ []) none = absurd (cc)
no_row_of_nothing (kind ∷ other ∷ kinds) none = refl

-- a record that does not count has no row
no_row : (s : CsvScan) (kinds : List ColType) (r : CsvRecord) → is_row (length kinds) r ≡ false → row_of s.options kinds r ≡ NoRow
no_row s kinds (Comment body) none = refl
no_row s kinds (Fields fields) none = by (is_empty fields) none
  where
    by : (t : Bool) → (length kinds == 1 || not t) ≡ false → (if t then row_of_nothing kinds else row_or_misfit (cells_of s.options kinds fields)) ≡ NoRow
    by true none = no_row_of_nothing kinds none
    by false none = let some : (length kinds == 1 || true) ≡ true = either_second (length kinds == 1) true refl in absurd (cc)

-- none of these records counts
counts_none : (columns : ℕ) (r : CsvRecord) (records : List CsvRecord) → row_count columns (r ∷ records) ≡ 0 → (is_row columns r ≡ false) × (row_count columns records ≡ 0)
counts_none columns r records none = by (is_row columns r) (sym (sum_by-cons (λ (x : CsvRecord). cond (is_row columns x) 1 0) r records) ∙ none)
  where
    by : (t : Bool) → cond t 1 0 + row_count columns records ≡ 0 → (t ≡ false) × (row_count columns records ≡ 0)
    by true none = absurd (omega (arith, none))
    by false none = (refl, omega (arith, none))

-- what a record without a row gives, where it is UTF-8
nothing_here : (s : CsvScan) (make : Maker) (file : ℕ) (name : List ℕ) (at position : ℕ) (head : Bool) (bytes : List ℕ) (r : CsvRecord) (records : List CsvRecord) → IsUtf8 bytes
    → row_count (length s.scan.fields) (behind_header head (r ∷ records)) ≡ 0
    → (part_gives s make (record { file = file; name = name; at = at; position = position; awaits_header = head }) bytes (Some r) ≡ Ok [])
    × (row_count (length s.scan.fields) (behind_header (start_after (length s.scan.fields) (record { file = file; name = name; at = at; position = position; awaits_header = head }) (found_part bytes r)).awaits_header records) ≡ 0)
nothing_here s make file name at position true bytes r records utf8 none =
    (ap (λ (t : Bool). if t then Ok [] else Err (faults.ComputeError kinds.NotUtf8 file at)) (is_utf8-from_IsUtf8 bytes utf8), header_none (is_header r) none)
  where
    header_none : (t : Bool) → row_count (length s.scan.fields) (if t then records else behind_header true records) ≡ 0 → row_count (length s.scan.fields) (behind_header (not t) records) ≡ 0
    header_none true none = none
    header_none false none = none
nothing_here s make file name at position false bytes r records utf8 none =
    let start : PartStart = record { file = file; name = name; at = at; position = position; awaits_header = false } in
    let types : List ColType = kinds_of s.scan.fields in
    let parts = counts_none (length s.scan.fields) r records none in
    let P : ℕ → Type 0 = λ n. is_row n r ≡ false in
    let not_row : row_of s.options types r ≡ NoRow = no_row s types r (subst P (sym (length-map s.scan.fields (λ (f : Field). f.kind))) parts.0) in (
      ap (λ (t : Bool). if t then record_gives make start (row_of s.options types r) else Err (faults.ComputeError kinds.NotUtf8 file at)) (is_utf8-from_IsUtf8 bytes utf8) ∙ ap (record_gives make start) not_row,
      parts.1,
    )

some_bytes : (n m k : ℕ) → n - m ≡ k → m < n → 0 < k
some_bytes n m k is less = omega (arith, is)

-- a text of records without a row gives nothing, where it is UTF-8
pub nothing_given : (s : CsvScan) (make : Maker) (start : PartStart) (text : List ℕ) (records : List CsvRecord) → IsDialect s.options → Records s.options text records → IsUtf8 text
    → row_count (length s.scan.fields) (behind_header start.awaits_header records) ≡ 0 → collected (gives_of (text_axis s make start (text_parts s.options text))) ≡ Ok []
nothing_given s make start text [] fit none utf8 no_rows = ap (λ t. collected (gives_of (text_axis s make start (text_parts s.options t)))) none
nothing_given s make start text (r ∷ records) fit (some, next, is, later) utf8 no_rows =
    let taken = record_taken s.options r text next fit is some in
    let bytes : List ℕ = taken.0 in
    let halves = utf8_parts s.options r text next bytes fit taken.1 utf8 in
    let here = nothing_here s make start.file start.name start.at start.position start.awaits_header bytes r records halves.0 no_rows in
    let after : PartStart = start_after (length s.scan.fields) start (found_part bytes r) in
    let rest : Places = gives_of (text_axis s make after (text_parts s.options next)) in
    ap (λ parts. collected (gives_of (text_axis s make start parts))) (parts-record s.options r text next bytes fit taken.1)
    ∙ collected-sized (length bytes) (part_gives s make start bytes (Some r)) rest (some_bytes (length text) (length next) (length bytes) taken.1.size taken.1.shorter)
    ∙ ap (λ x. followed_by x (collected rest)) here.0 ∙ followed_by-nothing (collected rest)
    ∙ nothing_given s make after next records fit later halves.1 here.1
