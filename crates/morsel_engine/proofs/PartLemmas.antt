-- The parts of a run, put together.
use Rattle.std.proofs.Common.{◌≡◌, ℕ, inl, inr, ap, sym, subst, refl, ◌∙◌, append-nil, arith}
use Rattle.std.specs.Prelude.{ℤ, pos, negsuc, ◌<◌, Option, Some, None, Result, Err, List, [], ◌∷◌, ◌++◌, length}
use Rattle.morsel_meaning.specs.declared.fault.Fault.{Fault}
use Rattle.morsel_meaning.specs.declared.fault.Fault.TheVariants as faults
use Rattle.morsel_outside.specs.declared.io.FileNo.{FileNo}
use Rattle.morsel_outside.specs.Outside.{Outside}
use Rattle.morsel_outside.specs.Actions.{Making, Does}
use Rattle.morsel_scan.specs.Scans.{CsvScan}
use Rattle.morsel_scan.specs.ScanFlaws.{scan_flaw}
use Rattle.morsel_scan.specs.declared.spec.ScanFormat.{ScanFormat}
use Rattle.morsel_scan.specs.declared.spec.ScanFormat.TheVariants as formats
use Rattle.morsel_scan.specs.declared.spec.ScanSpec.{ScanSpec}
use Rattle.morsel_read.specs.ReadScans.{columns_of_format, dialect_of_format, scan_read}
use Rattle.morsel_read.specs.ScanReads.{PiecesRead, CountsFromFirst, files_asked, pieces_at_start}
use Rattle.morsel_grammar.specs.Dialect.{IsDialect}
use Rattle.morsel_line.specs.ScanRuns.{WritesScan}
use Rattle.morsel_plan.specs.LineRuns.{WritesOrNot}
use Rattle.morsel_frame.specs.Refusals.{first_fault}
use Rattle.morsel_sink.specs.declared.spec.SinkSpec.{SinkSpec}
use Rattle.morsel_group.specs.Asked.{GroupAsked}
use Rattle.morsel_group.specs.GroupFlaws.{group_flaw}
use Rattle.morsel_query.specs.RunOptions.{RunOptions}
use Rattle.morsel_query.specs.Queries.{FileFormat, CsvFiles, FileScan, JoinPart, QueryParts, file_format, file_scan, query_parts, fields_of_format, scan_over, scan_asked}
use Rattle.morsel_query.specs.QueryFlaws.{right_sides, sources_of_sides, sources_of, IsSound}
use Rattle.morsel_join.specs.Payloads.{join_flaw}
use Rattle.morsel_query.specs.Plans.{fields_of_scan, fields_of_input, slice_fault, side_fault, join_fault, fault_by, fault_with, query_fault}
use Rattle.morsel_query.specs.Meanings.{dialect_of, csv_scan}
use Rattle.morsel_engine.specs.Stages.{HasOpenedAll, bytes_bound, OpensSources, MakesSink, ScansFiles, AreOpenIn, IsPlannedScan}
use Rattle.morsel_engine.specs.Runs.{Runs}
use Rattle.morsel_engine.proofs.OpenLemmas.{length_numbers}
use Rattle.morsel_engine.proofs.ToldLemmas.{are_open_in}
use Rattle.morsel_engine.proofs.ScanLemmas.{begun}
use Rattle.morsel_engine.proofs.WriteLemmas.{runs_scanned}
use Rattle.morsel_engine.proofs.RunLemmas.{runs_short, runs_unopened, runs_unmade}

-- the scan that a reader has in view is the query's
pub read_is : (spec : ScanSpec) → scan_read spec ≡ csv_scan (file_scan spec)
read_is spec = by spec.format
  where
    seen : ScanFormat → CsvScan
    seen f = record { scan = record { fields = columns_of_format f; asked = spec.file_options; filter = spec.filter }; options = dialect_of_format f }

    meant : FileFormat → CsvScan
    meant f = record { scan = scan_over (fields_of_format f) spec.file_options spec.filter; options = dialect_of f }

    by : (f : ScanFormat) → seen f ≡ meant (file_format f)
    by (formats.Csv schema options) = refl

-- a scan was written through its line, of the query's files and with its bound; or nothing was done
pub scanned : (before after : Outside) (s node : CsvScan) (names : List (List ℕ)) (numbers : List FileNo) (options : RunOptions) (result : Result ℕ Fault) (reader : PiecesRead) (bound : ℕ)
    → IsDialect s.options → 0 < bytes_bound options → node ≡ s → reader ≡ pieces_at_start (files_asked s names numbers 0 options.chunk_bytes) → bound ≡ bytes_bound options
    → WritesOrNot node reader bound before result after → ScansFiles before s names numbers options result after
scanned before after s node names numbers options result reader bound fit some same start is (inl none) = inl none
scanned before after s node names numbers options result reader bound fit some same start is (inr writes) = inr (
  fit,
  some,
  subst (λ (n : ℕ). WritesScan s (pieces_at_start (files_asked s names numbers 0 options.chunk_bytes)) n before result after) is
      (subst (λ (r : PiecesRead). WritesScan s r bound before result after) start
      (subst (λ (t : CsvScan). WritesScan t reader bound before result after) same writes)),
)

-- a slice that counts from the first row
pub counts : (slice : Option (ℤ × ℕ)) → slice_fault slice ≡ None → CountsFromFirst slice
counts None is = tt
counts (Some (pos n, len)) is = refl
counts (Some (negsuc n, len)) is = absurd (cc)

-- neither of two has a fault
pub no_first : (first later : Option Fault) → first_fault first later ≡ None → (first ≡ None) × (later ≡ None)
no_first None later is = (refl, is)
no_first (Some fault) later is = absurd (cc)

-- a scan without fault has a plan
planned_side : (scan : FileScan) → side_fault scan.format (scan_asked scan) ≡ None → IsPlannedScan scan
planned_side scan is = by scan.format is
  where
    by : (f : FileFormat) → side_fault f (scan_asked scan) ≡ None → IsPlannedScan scan
    by (CsvFiles fields options) is = let both = no_first (scan_flaw (scan_asked scan)) (slice_fault scan.asked.slice) is in record { flawless = both.0; from_first = both.1 }

-- and so have the sides of a query with a group-by
pub before_group : (left : FileScan) (join : Option JoinPart) (group : Option GroupAsked) → fault_with left join group ≡ None → fault_by left join ≡ None
before_group left join None is = is
before_group left join (Some asked) is = (no_first (fault_by left join) (group_flaw (fields_of_input left join) asked) is).0

-- and so have the scans of a query that has one
pub planned_scan : (query : QueryParts) → query_fault query ≡ None → IsPlannedScan query.left
planned_scan query is = planned_side query.left (by query.join (before_group query.left query.join query.group is))
  where
    by : (join : Option JoinPart) → fault_by query.left join ≡ None → side_fault query.left.format (scan_asked query.left) ≡ None
    by None is = is
    by (Some join) is = (no_first (side_fault query.left.format (scan_asked query.left)) (join_fault (fields_of_scan query.left) join) is).0

pub planned_right : (left : FileScan) (join : JoinPart) → fault_by left (Some join) ≡ None → IsPlannedScan join.right
planned_right left join is = planned_side join.right
    (no_first (side_fault join.right.format (scan_asked join.right)) (join_flaw join.args (fields_of_scan left) (fields_of_scan join.right) join.left_keys join.right_keys)
    (no_first (side_fault left.format (scan_asked left)) (join_fault (fields_of_scan left) join) is).1).0

-- the sources of a scan alone
pub sources_are : (query : QueryParts) → query.join ≡ None → sources_of query ≡ query.left.sources
sources_are query none = by query.join none
  where
    by : (join : Option JoinPart) → join ≡ None → query.left.sources ++ sources_of_sides (right_sides join) ≡ query.left.sources
    by None is = append-nil query.left.sources
    by (Some join) is = absurd (cc)

-- opening failed
pub runs_not_opened : (old new : Outside) (query : QueryParts) (options : RunOptions) (fault : Fault) → query_fault query ≡ None → OpensSources old (sources_of query) 0 (Err fault) new
    → Runs old query options (Err fault) new
runs_not_opened old new query options faults.OutOfMemory planned (files, first) = runs_short old new query options files planned first
runs_not_opened old new query options (faults.ReadFault file) planned (files, source, is, fails) =
    subst (λ (n : ℕ). Runs old query options (Err (faults.ReadFault n)) new) (let same : source ≡ file = omega (arith, is) in same) (runs_unopened old new query options files source planned fails)
runs_not_opened old new query options faults.WriteFault planned h = absurd h
runs_not_opened old new query options (faults.InvalidQuery why) planned h = absurd h
runs_not_opened old new query options (faults.Malformed file at) planned h = absurd h
runs_not_opened old new query options (faults.Unsupported file code) planned h = absurd h
runs_not_opened old new query options (faults.ColumnNotFound name) planned h = absurd h
runs_not_opened old new query options (faults.SchemaMismatch name) planned h = absurd h
runs_not_opened old new query options (faults.Duplicate name) planned h = absurd h
runs_not_opened old new query options (faults.ComputeError kind file at) planned h = absurd h
runs_not_opened old new query options faults.QueryText planned h = absurd h
runs_not_opened old new query options faults.Usage planned h = absurd h

-- making the sink failed
pub runs_not_made : (old now new : Outside) (query : QueryParts) (options : RunOptions) (numbers : List FileNo) (files : List (List ℕ)) (fault : Fault) → query_fault query ≡ None
    → HasOpenedAll old (sources_of query) numbers files now → MakesSink {A = Unit {0}} now query.sink.name (Err fault) new → Runs old query options (Err fault) new
runs_not_made old now new query options numbers files faults.OutOfMemory planned opened same =
    subst (Runs old query options (Err faults.OutOfMemory)) (sym same) (runs_short old now query options files planned opened.first)
runs_not_made old now new query options numbers files faults.WriteFault planned opened does = runs_unmade old now new query options files planned opened.first opened.all does
runs_not_made old now new query options numbers files (faults.ReadFault file) planned opened h = absurd h
runs_not_made old now new query options numbers files (faults.InvalidQuery why) planned opened h = absurd h
runs_not_made old now new query options numbers files (faults.Malformed file at) planned opened h = absurd h
runs_not_made old now new query options numbers files (faults.Unsupported file code) planned opened h = absurd h
runs_not_made old now new query options numbers files (faults.ColumnNotFound name) planned opened h = absurd h
runs_not_made old now new query options numbers files (faults.SchemaMismatch name) planned opened h = absurd h
runs_not_made old now new query options numbers files (faults.Duplicate name) planned opened h = absurd h
runs_not_made old now new query options numbers files (faults.ComputeError kind file at) planned opened h = absurd h
runs_not_made old now new query options numbers files faults.QueryText planned opened h = absurd h
runs_not_made old now new query options numbers files faults.Usage planned opened h = absurd h

-- a query's sources, which were opened
pub opened_of : (old now : Outside) (query : QueryParts) (numbers : List FileNo) (files : List (List ℕ)) → query.join ≡ None → HasOpenedAll old query.left.sources numbers files now
    → HasOpenedAll old (sources_of query) numbers files now
opened_of old now query numbers files none opened = subst (λ (names : List (List ℕ)). HasOpenedAll old names numbers files now) (sym (sources_are query none)) opened

-- a run whose sources are open and whose sink is made
pub runs_parts : (old between now new : Outside) (left : ScanSpec) (sink : SinkSpec) (options : RunOptions) (numbers : List FileNo) (files : List (List ℕ)) (result : Result ℕ Fault)
    → IsSound (query_parts left None None sink) → query_fault (query_parts left None None sink) ≡ None → HasOpenedAll old left.sources.items numbers files between → Does between (Making sink.name ∷ []) now
    → ScansFiles now (csv_scan (file_scan left)) left.sources.items numbers options result new → Runs old (query_parts left None None sink) options result new
runs_parts old between now new left sink options numbers files result sound planned opened made scans =
    let query = query_parts left None None sink in
    let start = begun old between now query numbers files (opened_of old between query numbers files refl opened) made in
    let some = sound.each.0.some_source in let all = opened.all in
    runs_scanned sink.format old (file_scan left) sink.name options files now result new planned (counts left.file_options.slice (planned_scan query planned).from_first)
    (omega (arith, some, all)) (sym opened.all) start
    (subst (λ (xs : List FileNo). ScansFiles now (csv_scan (file_scan left)) left.sources.items xs options result new) opened.numbers_are scans)

-- the numbers of opened sources
pub opened_numbers : (old between now : Outside) (query : QueryParts) (numbers : List FileNo) (files : List (List ℕ)) → query.join ≡ None → HasOpenedAll old query.left.sources numbers files between
    → Does between (Making query.sink.name ∷ []) now → (length numbers ≡ length query.left.sources) × AreOpenIn now numbers
opened_numbers old between now query numbers files none opened made = (
  ap length opened.numbers_are ∙ length_numbers (length old.sizes) (length files) ∙ opened.all,
  subst (AreOpenIn now) (sym opened.numbers_are) (are_open_in old now files (begun old between now query numbers files (opened_of old between query numbers files none opened) made).sizes),
)
