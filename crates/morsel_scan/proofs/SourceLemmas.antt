-- What a node's steps answer, given what it has found of its scan.
use Rattle.std.proofs.Common.{◌≡◌, ℕ, ◌+◌, ◌-◌, ◌<◌, ◌≤◌, ap, sym, subst, ◌∙◌, arith, take, drop}
use Rattle.std.specs.Prelude.{Bool, false, Option, Some, None, Result, Ok, Err, IfOk, IsOkUnless, List, length, map}
use Rattle.std.specs.List.{All}
use Rattle.std.proofs.lemmas.List.{take_rest}
use Rattle.morsel_meaning.specs.declared.value.Field.{Field}
use Rattle.morsel_meaning.specs.declared.fault.Fault.{Fault}
use Rattle.morsel_meaning.specs.declared.fault.Fault.TheVariants.{OutOfMemory}
use Rattle.morsel_meaning.specs.Values.{Table}
use Rattle.morsel_frame.specs.Names.{AreDistinctPlaces}
use Rattle.morsel_frame.specs.Tables.{cells_at, fields_at}
use Rattle.morsel_grammar.specs.Dialect.{IsDialect}
use Rattle.morsel_grammar.specs.Cells.{CsvCell}
use Rattle.morsel_grammar.specs.Reading.{chosen, read_of, row_place}
use Rattle.morsel_grammar.specs.Results.{IsRefused, ReadsRecords}
use Rattle.morsel_grammar.specs.GrammarRows.{values_of}
use Rattle.morsel_pipe.specs.Pieces.{Piece}
use Rattle.morsel_scan.specs.Scans.{FileOptions, Scan, CsvScan}
use Rattle.morsel_scan.specs.ScanColumns.{used_columns}
use Rattle.morsel_scan.specs.CsvScans.{Decodes}
use Rattle.morsel_scan.specs.Filters.{Filter}
use Rattle.morsel_scan.specs.Decoding.{text_reading, step_fields, ReadsFirst, ReadsText, ChecksText, IsCut, ReadsKept, Finishes}
use Rattle.morsel_scan.specs.Nodes.{node_of, IsPrepared, AddsIndex, AddsPath, KeepsRows}
use Rattle.morsel_scan.proofs.ReadLemmas.{take-all, reads_text_ok, reads_text_err, checks_text_ok, checks_text_err}
use Rattle.morsel_scan.proofs.RowCutLemmas.{cut_found, cut_none}
use Rattle.morsel_scan.proofs.DecodeLemmas.{take-over, reads_kept, reads_kept_err}
use Rattle.morsel_scan.proofs.DecodedLemmas.{values-length, decodes}
use Rattle.morsel_scan.proofs.StepLemmas.{named_schema, kept_within, kept_once, finishes}

abbrev cells_in : List (ℕ × List CsvCell) → List (List CsvCell)
cells_in rows = map (λ (row : ℕ × List CsvCell). row.1) rows

-- the first rows of a text are all of them, where it has no more
pub first_of_few : (s : CsvScan) (file at : ℕ) (text : List ℕ) (len : ℕ) (frame : Table) → ReadsText s file at text (Ok frame) → length frame.rows ≤ len → ReadsFirst s file at text len (Ok frame)
first_of_few s file at text len frame is few =
    let rows : List (ℕ × List CsvCell) = (text_reading s at text).rows in
    let values : values_of (used_columns s.scan) (cells_in rows) ≡ Some frame.rows = ap (λ (rs : List (ℕ × List CsvCell)). values_of (used_columns s.scan) (cells_in rs)) (sym (take-all rows)) ∙ is.2 in
    let count : length frame.rows ≡ length rows = values-length (used_columns s.scan) rows frame.rows values in
    (is.0, is.1, ap (λ (rs : List (ℕ × List CsvCell)). values_of (used_columns s.scan) (cells_in rs)) (take-over len rows (omega arith)) ∙ values)

-- the rows of a text, as a reader of the used columns answers
pub text_read : (s now : CsvScan) (used items : List Bool) (file at : ℕ) (text : List ℕ) (frame : Table) (head : Bool) → s ≡ now → used ≡ items → items ≡ used_columns s.scan
    → ReadsRecords file s.scan.fields used (read_of used (text_reading s at text)) (Ok (frame, head)) → ReadsText now file at text (Ok frame)
text_read s now used items file at text frame head is same are read =
    subst (λ (x : CsvScan). ReadsText x file at text (Ok frame)) is
    (reads_text_ok s file at text (frame, head) (subst (λ (u : List Bool). ReadsRecords file s.scan.fields u (read_of u (text_reading s at text)) (Ok (frame, head))) (same ∙ are) read))

pub text_refused : (s now : CsvScan) (used items : List Bool) (file at : ℕ) (text : List ℕ) (fault : Fault) → s ≡ now → used ≡ items → items ≡ used_columns s.scan
    → IsRefused file (read_of used (text_reading s at text)).refusal fault → ReadsText now file at text (Err fault)
text_refused s now used items file at text fault is same are read =
    subst (λ (x : CsvScan). ReadsText x file at text (Err fault)) is
    (reads_text_err s file at text fault (subst (λ (u : List Bool). IsRefused file (read_of u (text_reading s at text)).refusal fault) (same ∙ are) read))

-- whether a record of a text is refused, as a reader of no column answers
pub text_checked : (s now : CsvScan) (unused items : List Bool) (file at : ℕ) (text : List ℕ) (frame : Table) (head : Bool) → s ≡ now → unused ≡ items → items ≡ map (λ (field : Field). false) s.scan.fields
    → ReadsRecords file s.scan.fields unused (read_of unused (text_reading s at text)) (Ok (frame, head)) → ChecksText now file at text (Ok tt)
text_checked s now unused items file at text frame head is same are read =
    subst (λ (x : CsvScan). ChecksText x file at text (Ok tt)) is
    (checks_text_ok s file at text (frame, head) (subst (λ (u : List Bool). ReadsRecords file s.scan.fields u (read_of u (text_reading s at text)) (Ok (frame, head))) (same ∙ are) read))

pub text_failed : (s now : CsvScan) (unused items : List Bool) (file at : ℕ) (text : List ℕ) (fault : Fault) → s ≡ now → unused ≡ items → items ≡ map (λ (field : Field). false) s.scan.fields
    → IsRefused file (read_of unused (text_reading s at text)).refusal fault → ChecksText now file at text (Err fault)
text_failed s now unused items file at text fault is same are read =
    subst (λ (x : CsvScan). ChecksText x file at text (Err fault)) is
    (checks_text_err s file at text fault (subst (λ (u : List Bool). IsRefused file (read_of u (text_reading s at text)).refusal fault) (same ∙ are) read))

-- the check of what follows a place of a text
pub rest_checked : (s : CsvScan) (file at : ℕ) (text : List ℕ) (cut : ℕ) (result : Result (Unit {0}) Fault) → ChecksText s file (at + cut) (take (length text - cut) (drop cut text)) result
    → ChecksText s file (at + cut) (drop cut text) result
rest_checked s file at text cut result checked = subst (λ (b : List ℕ). ChecksText s file (at + cut) b result) (take_rest text cut) checked

-- where a text is cut before a row, by the place of its record
pub row_cut : (s now : CsvScan) (at : ℕ) (text : List ℕ) (row place : ℕ) (found : Option ℕ) → s ≡ now → IsDialect s.options → found ≡ row_place (text_reading s at text).rows row → found ≡ Some place
    → (at ≤ place) × IsCut now at text row (place - at)
row_cut s now at text row place found is fit told some =
    let cut = cut_found s at text row place fit (sym told ∙ some) in (cut.0, subst (λ (x : CsvScan). IsCut x at text row (place - at)) is cut.1)

pub row_uncut : (s now : CsvScan) (at : ℕ) (text : List ℕ) (row : ℕ) (found : Option ℕ) → s ≡ now → found ≡ row_place (text_reading s at text).rows row → found ≡ None → IsCut now at text row (length text)
row_uncut s now at text row found is told none = subst (λ (x : CsvScan). IsCut x at text row (length text)) is (cut_none s at text row (sym told ∙ none))

pub options_fit : (s now : CsvScan) → s ≡ now → IsDialect s.options → IsDialect now.options
options_fit s now is fit = subst (λ (x : CsvScan). IsDialect x.options) is fit

-- the rows of a piece that its slice keeps, once the text before them was checked
pub kept_read : (s : CsvScan) (inner piece : Piece) (bytes : List ℕ) (cut : ℕ) (result : Result Table Fault) → inner ≡ piece → bytes ≡ inner.bytes → IsDialect s.options → IsCut s inner.at bytes inner.slice.0 cut
    → ChecksText s inner.file inner.at (take cut bytes) (Ok tt) → ReadsFirst s inner.file (inner.at + cut) (take (length bytes - cut) (drop cut bytes)) inner.slice.1 result → ReadsKept s piece result
kept_read s inner piece bytes cut result is same fit found checked read =
    subst (λ (p : Piece). ReadsKept s p result) is (reads_kept s inner cut result fit
    (subst (λ (b : List ℕ). IsCut s inner.at b inner.slice.0 cut) same found)
    (subst (λ (b : List ℕ). ChecksText s inner.file inner.at (take cut b) (Ok tt)) same checked)
    (subst (λ (b : List ℕ). ReadsFirst s inner.file (inner.at + cut) (drop cut b) inner.slice.1 result) same
    (subst (λ (b : List ℕ). ReadsFirst s inner.file (inner.at + cut) b inner.slice.1 result) (take_rest bytes cut) read)))

pub kept_failed : (s : CsvScan) (inner piece : Piece) (bytes : List ℕ) (cut : ℕ) (fault : Fault) → inner ≡ piece → bytes ≡ inner.bytes → IsDialect s.options → IsCut s inner.at bytes inner.slice.0 cut
    → ChecksText s inner.file inner.at (take cut bytes) (Err fault) → ReadsKept s piece (Err fault)
kept_failed s inner piece bytes cut fault is same fit found failed =
    subst (λ (p : Piece). ReadsKept s p (Err fault)) is (reads_kept_err s inner cut fault fit
    (subst (λ (b : List ℕ). IsCut s inner.at b inner.slice.0 cut) same found)
    (subst (λ (b : List ℕ). ChecksText s inner.file inner.at (take cut b) (Err fault)) same failed))

-- the rows of a piece, once the values of those that its slice keeps were read
pub piece_decoded : (s : CsvScan) (inner piece : Piece) (read : Table) (result : Result Table Fault) → inner ≡ piece → ReadsKept s piece (Ok read)
    → Finishes s.scan (inner.first_row + inner.slice.0) inner.source read result → Decodes s piece result
piece_decoded s inner piece read result is kept finished =
    decodes s piece read result kept (subst (λ (p : Piece). Finishes s.scan (p.first_row + p.slice.0) p.source read result) is finished)

-- the columns once the row index and the path were added
named_is : (s now : CsvScan) (asked : FileOptions) (position : ℕ) (source : List ℕ) (read numbered named : Table) → s ≡ now → asked ≡ s.scan.asked → read.schema ≡ chosen (used_columns now.scan) now.scan.fields
    → AddsIndex asked.row_index position read (Ok numbered) → AddsPath asked.path source numbered (Ok named) → named.schema ≡ step_fields s.scan
named_is s now asked position source read numbered named is same used index path =
    named_schema s.scan position source read numbered named (subst (λ (x : CsvScan). read.schema ≡ chosen (used_columns x.scan) x.scan.fields) (sym is) used)
    (subst (λ (a : FileOptions). AddsIndex a.row_index position read (Ok numbered)) same index)
    (subst (λ (a : FileOptions). AddsPath a.path source numbered (Ok named)) same path)

-- each place of what is kept is one of these columns
pub places_fit : (s now : CsvScan) (asked : FileOptions) (step : Option Filter) (used unused : List Bool) (items kept : List ℕ) (position : ℕ) (source : List ℕ) (read numbered named passed : Table) → s ≡ now → asked ≡ s.scan.asked
    → IsPrepared s.scan step used unused items → kept ≡ items → read.schema ≡ chosen (used_columns now.scan) now.scan.fields
    → AddsIndex asked.row_index position read (Ok numbered) → AddsPath asked.path source numbered (Ok named) → KeepsRows step named (Ok passed) → All (λ at. at < length passed.schema) kept
places_fit s now asked step used unused items kept position source read numbered named passed is same found are columns index path keeps =
    kept_within s.scan kept passed.schema (are ∙ found.kept_are) (keeps.0 ∙ named_is s now asked position source read numbered named is same columns index path)

pub places_differ : (scan : Scan) (step : Option Filter) (used unused : List Bool) (items kept : List ℕ) → IsPrepared scan step used unused items → kept ≡ items → AreDistinctPlaces kept
places_differ scan step used unused items kept found are = kept_once scan kept (are ∙ found.kept_are)

-- the rows of the scan, once the row index and the path were added and the filter applied
pub finished : (s now : CsvScan) (asked : FileOptions) (step : Option Filter) (used unused : List Bool) (items kept : List ℕ) (position : ℕ) (source : List ℕ) (read numbered named passed : Table) (result : Result Table Fault)
    → s ≡ now → asked ≡ s.scan.asked → IsPrepared s.scan step used unused items → kept ≡ items → node_of step ≡ s.scan.filter → read.schema ≡ chosen (used_columns now.scan) now.scan.fields
    → AddsIndex asked.row_index position read (Ok numbered) → AddsPath asked.path source numbered (Ok named) → KeepsRows step named (Ok passed)
    → IfOk result (λ (made : Table). made ≡ record { schema = fields_at passed.schema kept; rows = map (cells_at kept) passed.rows }) → IsOkUnless result OutOfMemory → Finishes now.scan position source read result
finished s now asked step used unused items kept position source read numbered named passed result is same found are of_step columns index path keeps made none =
    subst (λ (x : CsvScan). Finishes x.scan position source read result) is
    (finishes s.scan position source read numbered named passed step kept result (subst (λ (x : CsvScan). read.schema ≡ chosen (used_columns x.scan) x.scan.fields) (sym is) columns)
    (subst (λ (a : FileOptions). AddsIndex a.row_index position read (Ok numbered)) same index)
    (subst (λ (a : FileOptions). AddsPath a.path source numbered (Ok named)) same path) keeps of_step (are ∙ found.kept_are) made none)
