-- What a query asks: scans of files, a join of two, a group-by, and a sink.
use Rattle.std.specs.Prelude.{ℕ, Option, Some, None, option_map, List, map}
use Rattle.morsel_meaning.specs.declared.value.Field.{Field}
use Rattle.morsel_grammar.specs.Dialect.{Dialect}
use Rattle.morsel_expr.specs.declared.node.PredNode.{PredNode}
use Rattle.morsel_grammar.specs.Reading.{chosen}
use Rattle.morsel_group.specs.Asked.{GroupAsked, HaveColumns}
use Rattle.morsel_join.specs.declared.payload.JoinArgs.{JoinArgs}
use Rattle.morsel_scan.specs.Scans.{FileOptions, Scan}
use Rattle.morsel_scan.specs.ScanColumns.{is_kept}
use Rattle.morsel_scan.specs.declared.spec.ScanFormat.{ScanFormat}
use Rattle.morsel_scan.specs.declared.spec.ScanFormat.TheVariants as formats
use Rattle.morsel_scan.specs.declared.spec.ScanSpec.{ScanSpec}
use Rattle.morsel_sink.specs.declared.spec.SinkSpec.{SinkSpec}
use Rattle.morsel_query.specs.declared.join.JoinHow.{JoinHow}
use Rattle.morsel_query.specs.declared.join.JoinSpec.{JoinSpec}

-- the format of files, with what has to be told to read them
pub data FileFormat : Type 0 where
  CsvFiles : List Field → Dialect → FileFormat

-- files, and what is asked of their rows
pub record FileScan : Type 0 where
  pub sources : List (List ℕ)  -- the names of the files, in the order of their rows
  pub format : FileFormat
  pub asked : FileOptions  -- what is asked of their rows
  pub filter : Option PredNode  -- the predicate of the rows that are kept, over the row index, the columns and the path

-- a join: the right side, and what is asked of the rows of both
pub record JoinPart : Type 0 where
  pub right : FileScan
  pub left_keys : List (List ℕ)  -- the names of the left columns whose values are to be equal to those of the right keys, one by one
  pub right_keys : List (List ℕ)
  pub args : JoinArgs
  pub how : JoinHow  -- how its rows are found; which they are does not depend on it

-- what a query is made of
pub record QueryParts : Type 0 where
  pub left : FileScan
  pub join : Option JoinPart
  pub group : Option GroupAsked
  pub sink : SinkSpec

-- the format of a scan, as contracts see it
abbrev pub file_format : ScanFormat → FileFormat
file_format (formats.Csv schema options) = CsvFiles schema options

-- a scan, as contracts see it
abbrev pub file_scan : ScanSpec → FileScan
file_scan spec = record {
  sources = spec.sources.items;
  format = file_format spec.format;
  asked = spec.file_options;
  filter = spec.filter;
}

-- a join, as contracts see it
abbrev pub join_part : JoinSpec → JoinPart
join_part spec = record {
  right = file_scan spec.right;
  left_keys = spec.left_keys.items;
  right_keys = spec.right_keys.items;
  args = spec.args;
  how = spec.how;
}

-- a query of these parts, as contracts see it
abbrev pub query_parts : ScanSpec → Option JoinSpec → Option GroupAsked → SinkSpec → QueryParts
query_parts left join group sink = record { left = file_scan left; join = option_map join_part join; group = group; sink = sink }

-- each reduction of a group-by has its column, where there is a group-by
abbrev pub HaveTheirColumns : Option GroupAsked → Type 0
HaveTheirColumns None = Unit {0}
HaveTheirColumns (Some asked) = HaveColumns asked.aggs

-- the columns of files whose format has them
abbrev pub fields_of_format : FileFormat → List Field
fields_of_format (CsvFiles fields options) = fields

-- what is asked of the rows of files with these columns
abbrev pub scan_over : List Field → FileOptions → Option PredNode → Scan
scan_over fields asked filter = record { fields = fields; asked = asked; filter = filter }

-- what is asked of the rows of files with the columns that their format has
abbrev pub scan_asked : FileScan → Scan
scan_asked files = scan_over (fields_of_format files.format) files.asked files.filter

-- the fields that a choice of columns keeps; all where it names none
abbrev pub kept_fields : List (List ℕ) → List Field → List Field
kept_fields columns fields = chosen (map (λ (field : Field). is_kept columns field.name) fields) fields
