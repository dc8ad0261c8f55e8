-- A query as its text has it, before its flaws are looked for; and how a query is written.
use Rattle.std.specs.Prelude.{ℕ, ℤ, Bool, Option, option_map, List, [], ◌∷◌}
use Rattle.serde_json.specs.Data.{Data}
use Rattle.morsel_meaning.specs.declared.value.Field.{Field}
use Rattle.morsel_grammar.specs.Dialect.{Dialect, standard}
use Rattle.morsel_group.specs.Asked.{GroupAsked}
use Rattle.morsel_scan.specs.declared.spec.RowIndex.{RowIndex}
use Rattle.morsel_query.specs.RunOptions.{RunOptions}
use Rattle.morsel_join.specs.declared.payload.JoinArgs.{JoinArgs}
use Rattle.morsel_query.specs.declared.join.JoinHow.{JoinHow}
use Rattle.morsel_query.specs.Queries.{FileFormat, CsvFiles, FileScan, JoinPart, QueryParts}
use Rattle.morsel_sink.specs.declared.spec.SinkFormat.{SinkFormat}
use Rattle.morsel_sink.specs.declared.spec.SinkFormat.TheVariants.{NdJson}
use Rattle.morsel_query_text.specs.Predicates.{pred_tree}

-- how CSV texts are written, each byte as a text
pub record WrittenCsv : Type 0 where
  pub separator : List ℕ
  pub quote : Option (List ℕ)
  pub eol : List ℕ
  pub comment : Option (List ℕ)
  pub has_header : Bool
  pub null_text : List ℕ
  pub ignore_errors : Bool

-- the format of files, and what a query has for that format alone
pub data WrittenFormat : Type 0 where
  WrittenCsvFiles : List Field → WrittenCsv → WrittenFormat

-- a scan
pub record WrittenScan : Type 0 where
  pub format : WrittenFormat
  pub files : List (List ℕ)
  pub columns : List (List ℕ)
  pub slice : Option (ℤ × ℕ)
  pub row_index : Option RowIndex
  pub path : Option (List ℕ)
  pub allow_missing_columns : Bool
  pub filter : Option Data  -- the tree of its predicate

-- a join
pub record WrittenJoin : Type 0 where
  pub right : WrittenScan
  pub left_keys : List (List ℕ)
  pub right_keys : List (List ℕ)
  pub args : JoinArgs
  pub how : JoinHow

-- the format of a sink, and what a query has for that format alone
pub data WrittenSink : Type 0 where
  WrittenNdJson : WrittenSink

-- a query, without the name of its sink
pub record WrittenQuery : Type 0 where
  pub left : WrittenScan
  pub join : Option WrittenJoin
  pub group : Option GroupAsked
  pub sink : WrittenSink
  pub options : RunOptions

-- how the options of CSV texts are written
abbrev pub csv_written : Dialect → WrittenCsv
csv_written options = record {
  separator = options.separator ∷ [];
  quote = option_map (λ (byte : ℕ). byte ∷ []) options.quote;
  eol = options.eol ∷ [];
  comment = options.comment;
  has_header = options.has_header;
  null_text = options.null_text;
  ignore_errors = options.ignore_errors;
}

-- what stands where a query says nothing of how CSV texts are written
abbrev pub standard_csv : WrittenCsv
standard_csv = csv_written standard

-- how a format is written
abbrev pub format_written : FileFormat → WrittenFormat
format_written (CsvFiles fields options) = WrittenCsvFiles fields (csv_written options)

-- how a scan is written
abbrev pub scan_written : FileScan → WrittenScan
scan_written scan = record {
  format = format_written scan.format;
  files = scan.sources;
  columns = scan.asked.columns;
  slice = scan.asked.slice;
  row_index = scan.asked.row_index;
  path = scan.asked.path;
  allow_missing_columns = scan.asked.allow_missing_columns;
  filter = option_map pred_tree scan.filter;
}

-- how a join is written
abbrev pub join_written : JoinPart → WrittenJoin
join_written join = record {
  right = scan_written join.right;
  left_keys = join.left_keys;
  right_keys = join.right_keys;
  args = join.args;
  how = join.how;
}

-- how the format of a sink is written
abbrev pub sink_written : SinkFormat → WrittenSink
sink_written NdJson = WrittenNdJson

-- how a query is written, with the options by which it is run
abbrev pub query_written : QueryParts → RunOptions → WrittenQuery
query_written query options = record {
  left = scan_written query.left;
  join = option_map join_written query.join;
  group = query.group;
  sink = sink_written query.sink.format;
  options = options;
}
