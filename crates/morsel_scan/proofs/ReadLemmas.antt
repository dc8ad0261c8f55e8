-- What the readers of texts answer, of the rows that a slice keeps.
use Rattle.std.proofs.Common.{◌≡◌, ℕ, suc, ◌+◌, ◌<◌, ap, sym, subst, refl, ◌∙◌, inl, inr, arith, append-nil, length-append, take}
use Rattle.std.specs.Prelude.{◌⊎◌, Bool, false, Option, Some, None, Ok, Err, List, [], ◌∷◌, ◌++◌, length, map}
use Rattle.std.proofs.Math.Seq.{take-append_seam}
use Rattle.morsel_meaning.specs.declared.fault.Fault.{Fault}
use Rattle.morsel_meaning.specs.declared.fault.Fault.TheVariants as faults
use Rattle.morsel_meaning.specs.declared.fault.ComputeKind.TheVariants as kinds
use Rattle.morsel_meaning.specs.declared.value.Field.{Field}
use Rattle.morsel_meaning.specs.Values.{Row, Table, kinds_of}
use Rattle.morsel_grammar.specs.Dialect.{IsDialect}
use Rattle.morsel_grammar.specs.Grammar.{CsvRecord}
use Rattle.morsel_grammar.specs.Cells.{CsvCell}
use Rattle.morsel_grammar.specs.Reading.{IllTyped, Refusal, Reading, reading, used_values, Read, value_then, used_rows, read_of}
use Rattle.morsel_grammar.specs.Results.{refusal_fault, IsRefused, ReadsRecords}
use Rattle.morsel_grammar.specs.GrammarRows.{AreWholeRecords, values_of}
use Rattle.morsel_grammar.specs.Joined.{joined_at}
use Rattle.morsel_grammar.proofs.JoinedLemmas.{reading-joined}
use Rattle.morsel_grammar.proofs.PieceRowLemmas.{reading-past}
use Rattle.morsel_scan.specs.Scans.{CsvScan}
use Rattle.morsel_scan.specs.ScanColumns.{used_columns}
use Rattle.morsel_scan.specs.CsvScans.{UnlessOutOfMemory}
use Rattle.morsel_scan.specs.Decoding.{HasBadRow, text_reading, ReadsText, ChecksText}

-- what follows from what holds of a fault
pub unless-map : (fault : Fault) (P Q : Type 0) → (P → Q) → UnlessOutOfMemory fault P → UnlessOutOfMemory fault Q
unless-map faults.OutOfMemory P Q f is = tt
unless-map (faults.ReadFault file) P Q f is = f is
unless-map faults.WriteFault P Q f is = f is
unless-map (faults.InvalidQuery why) P Q f is = f is
unless-map (faults.Malformed file at) P Q f is = f is
unless-map (faults.Unsupported file code) P Q f is = f is
unless-map (faults.ColumnNotFound name) P Q f is = f is
unless-map (faults.SchemaMismatch name) P Q f is = f is
unless-map (faults.Duplicate name) P Q f is = f is
unless-map (faults.ComputeError kind file at) P Q f is = f is
unless-map faults.QueryText P Q f is = f is
unless-map faults.Usage P Q f is = f is

pub unless-memory : (fault : Fault) (P : Type 0) → fault ≡ faults.OutOfMemory → UnlessOutOfMemory fault P
unless-memory fault P is = subst (λ (f : Fault). UnlessOutOfMemory f P) (sym is) tt

unless-refused : (file : ℕ) (refusal : Option Refusal) (fault : Fault) → IsRefused file refusal fault → UnlessOutOfMemory fault (refusal_fault file refusal ≡ Some fault)
unless-refused file refusal faults.OutOfMemory is = tt
unless-refused file refusal (faults.ReadFault f) is = is
unless-refused file refusal faults.WriteFault is = is
unless-refused file refusal (faults.InvalidQuery why) is = is
unless-refused file refusal (faults.Malformed f at) is = is
unless-refused file refusal (faults.Unsupported f code) is = is
unless-refused file refusal (faults.ColumnNotFound name) is = is
unless-refused file refusal (faults.SchemaMismatch name) is = is
unless-refused file refusal (faults.Duplicate name) is = is
unless-refused file refusal (faults.ComputeError kind f at) is = is
unless-refused file refusal faults.QueryText is = is
unless-refused file refusal faults.Usage is = is

abbrev cells_in : List (ℕ × List CsvCell) → List (List CsvCell)
cells_in rows = map (λ (row : ℕ × List CsvCell). row.1) rows

abbrev rows_in : List (ℕ × Row) → List Row
rows_in rows = map (λ (row : ℕ × Row). row.1) rows

-- all rows were taken, or those before one with a bad cell
abbrev Taken : List Bool → List (ℕ × List CsvCell) → Option Refusal → Read → Type 0
Taken used rows refusal read = ((values_of used (cells_in rows) ≡ Some (rows_in read.rows)) × (read.refusal ≡ refusal))
    ⊎ ((before : List (ℕ × List CsvCell)) × (row : ℕ × List CsvCell) × (after : List (ℕ × List CsvCell)) × (rows ≡ before ++ row ∷ after) × (used_values used row.1 ≡ None)
    × (read.refusal ≡ Some (record { at = row.0; flaw = IllTyped })))

take_row : (used : List Bool) (head : Bool) (row : ℕ × List CsvCell) (rows : List (ℕ × List CsvCell)) (refusal : Option Refusal) (read : Read) (found : Option Row) → used_values used row.1 ≡ found
    → Taken used rows refusal read → Taken used (row ∷ rows) refusal (value_then head row.0 found read)
take_row used head row rows refusal read None bad later = inr ([], row, rows, refl, bad, refl)
take_row used head row rows refusal read (Some values) held (inl all) = inl (rw (held, all.0) refl, all.1)
take_row used head row rows refusal read (Some values) held (inr some) = inr (row ∷ some.0, some.1, some.2, ap (λ (x : List (ℕ × List CsvCell)). row ∷ x) some.3, some.4, some.5)

rows_taken : (used : List Bool) (head : Bool) (rows : List (ℕ × List CsvCell)) (refusal : Option Refusal) → Taken used rows refusal (used_rows used head rows refusal)
rows_taken used head [] refusal = inl (refl, refl)
rows_taken used head (row ∷ rows) refusal = take_row used head row rows refusal (used_rows used head rows refusal) (used_values used row.1) refl (rows_taken used head rows refusal)

pub take-all : {A : Type 0} (xs : List A) → take (length xs) xs ≡ xs
take-all xs = ap (take (length xs)) (sym (append-nil xs)) ∙ take-append_seam xs []

shorter : {A : Type 0} (xs : List A) (before : List A) (x : A) (after : List A) → xs ≡ before ++ x ∷ after → length before < length xs
shorter xs before x after is = let size : length xs ≡ length before + suc (length after) = ap length is ∙ length-append before (x ∷ after) in omega arith

read_ok : (s : CsvScan) (file at : ℕ) (text : List ℕ) (answer : Table × Bool) (read : Read) → Taken (used_columns s.scan) (text_reading s at text).rows (text_reading s at text).refusal read
    → ReadsRecords file s.scan.fields (used_columns s.scan) read (Ok answer) → ReadsText s file at text (Ok answer.0)
read_ok s file at text answer read (inl all) is =
    (sym all.1 ∙ is.0, is.1, ap (λ (rs : List (ℕ × List CsvCell)). values_of (used_columns s.scan) (cells_in rs)) (take-all (text_reading s at text).rows) ∙ all.0 ∙ ap Some (sym is.2))
read_ok s file at text answer read (inr some) is = absurd (let bad = sym some.5 ∙ is.0 in cc)

read_err : (s : CsvScan) (file at : ℕ) (text : List ℕ) (fault : Fault) (read : Read) → Taken (used_columns s.scan) (text_reading s at text).rows (text_reading s at text).refusal read
    → ReadsRecords file s.scan.fields (used_columns s.scan) read (Err fault) → ReadsText s file at text (Err fault)
read_err s file at text fault read (inl all) is =
    unless-map fault (refusal_fault file read.refusal ≡ Some fault) ((refusal_fault file (text_reading s at text).refusal ≡ Some fault) ⊎ (HasBadRow s file (length (text_reading s at text).rows) (text_reading s at text).rows fault))
    (λ found. inl (ap (refusal_fault file) (sym all.1) ∙ found)) (unless-refused file read.refusal fault is)
read_err s file at text fault read (inr some) is =
    unless-map fault (refusal_fault file read.refusal ≡ Some fault) ((refusal_fault file (text_reading s at text).refusal ≡ Some fault) ⊎ (HasBadRow s file (length (text_reading s at text).rows) (text_reading s at text).rows fault))
    (λ found. inr (some.0, some.1, some.2, some.3, shorter (text_reading s at text).rows some.0 some.1 some.2 some.3, some.4, by (sym (ap (refusal_fault file) some.5) ∙ found)))
    (unless-refused file read.refusal fault is)
  where
    by : Some (faults.ComputeError kinds.IllTyped file some.1.0) ≡ Some fault → fault ≡ faults.ComputeError kinds.IllTyped file some.1.0
    by same = cc

pub reads_text_ok : (s : CsvScan) (file at : ℕ) (text : List ℕ) (answer : Table × Bool)
    → ReadsRecords file s.scan.fields (used_columns s.scan) (read_of (used_columns s.scan) (text_reading s at text)) (Ok answer) → ReadsText s file at text (Ok answer.0)
reads_text_ok s file at text answer is =
    let r : Reading = text_reading s at text in
    read_ok s file at text answer (read_of (used_columns s.scan) r) (rows_taken (used_columns s.scan) r.head r.rows r.refusal) is

pub reads_text_err : (s : CsvScan) (file at : ℕ) (text : List ℕ) (fault : Fault)
    → ReadsRecords file s.scan.fields (used_columns s.scan) (read_of (used_columns s.scan) (text_reading s at text)) (Err fault) → ReadsText s file at text (Err fault)
reads_text_err s file at text fault is =
    let r : Reading = text_reading s at text in
    read_err s file at text fault (read_of (used_columns s.scan) r) (rows_taken (used_columns s.scan) r.head r.rows r.refusal) is

-- no column is used
abbrev none_of : List Field → List Bool
none_of fields = map (λ (field : Field). false) fields

no_values : (fields : List Field) (cells : List CsvCell) → used_values (none_of fields) cells ≡ Some []
no_values [] cells = refl
no_values (field ∷ fields) [] = refl
no_values (field ∷ fields) (cell ∷ cells) = no_values fields cells

unused_refusal : (fields : List Field) (rows : List (ℕ × List CsvCell)) (refusal : Option Refusal) (read : Read) → Taken (none_of fields) rows refusal read → read.refusal ≡ refusal
unused_refusal fields rows refusal read (inl all) = all.1
unused_refusal fields rows refusal read (inr some) = absurd (let bad = sym (no_values fields some.1.1) ∙ some.4 in cc)

is_refusal : (s : CsvScan) (at : ℕ) (text : List ℕ) → (read_of (none_of s.scan.fields) (text_reading s at text)).refusal ≡ (text_reading s at text).refusal
is_refusal s at text =
    let r : Reading = text_reading s at text in
    unused_refusal s.scan.fields r.rows r.refusal (read_of (none_of s.scan.fields) r) (rows_taken (none_of s.scan.fields) r.head r.rows r.refusal)

pub checks_text_ok : (s : CsvScan) (file at : ℕ) (text : List ℕ) (answer : Table × Bool)
    → ReadsRecords file s.scan.fields (none_of s.scan.fields) (read_of (none_of s.scan.fields) (text_reading s at text)) (Ok answer) → ChecksText s file at text (Ok tt)
checks_text_ok s file at text answer is = sym (is_refusal s at text) ∙ is.0

pub checks_text_err : (s : CsvScan) (file at : ℕ) (text : List ℕ) (fault : Fault)
    → ReadsRecords file s.scan.fields (none_of s.scan.fields) (read_of (none_of s.scan.fields) (text_reading s at text)) (Err fault) → ChecksText s file at text (Err fault)
checks_text_err s file at text fault is =
    unless-map fault (refusal_fault file (read_of (none_of s.scan.fields) (text_reading s at text)).refusal ≡ Some fault) (refusal_fault file (text_reading s at text).refusal ≡ Some fault)
    (λ found. ap (refusal_fault file) (sym (is_refusal s at text)) ∙ found)
    (unless-refused file (read_of (none_of s.scan.fields) (text_reading s at text)).refusal fault is)

-- a text that is cut after whole records, none of which is refused, has the rows of both parts, and what is refused of the second
pub parts : (s : CsvScan) (at : ℕ) (front rest : List ℕ) (records : List CsvRecord) → IsDialect s.options → AreWholeRecords s.options front records → (text_reading s at front).refusal ≡ None
    → ((text_reading s at (front ++ rest)).rows ≡ (text_reading s at front).rows ++ (text_reading s (at + length front) rest).rows)
    × ((text_reading s at (front ++ rest)).refusal ≡ (text_reading s (at + length front) rest).refusal)
parts s at front rest records fit whole sound =
    let first : Reading = text_reading s at front in
    let later : Bool → Reading = λ head. reading s.options (kinds_of s.scan.fields) head (at + length front) rest in
    let stays : first.head ≡ false = (reading-past s.options (kinds_of s.scan.fields) false at front).kept refl in
    let all : text_reading s at (front ++ rest) ≡ joined_at first.rows false None later =
    reading-joined s.options (kinds_of s.scan.fields) false at front rest records fit whole
    ∙ ap (λ (x : Option Refusal). joined_at first.rows first.head x later) sound
    ∙ ap (λ head. joined_at first.rows head None later) stays in
    (ap (λ (r : Reading). r.rows) all, ap (λ (r : Reading). r.refusal) all)
