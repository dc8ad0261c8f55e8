-- What the code reads of a tree, as a query is written.
use Rattle.std.specs.Prelude.{ℕ, Option, option_map, List}
use Rattle.morsel_query.specs.RunOptions.{RunOptions}
use Rattle.morsel_query_text.specs.declared.csv.CsvText.{CsvText}
use Rattle.morsel_query_text.specs.declared.options.OptionNumbers.{OptionNumbers}
use Rattle.morsel_query_text.specs.declared.join.JoinText.{JoinText}
use Rattle.morsel_query_text.specs.declared.make.ScanParts.{ScanParts}
use Rattle.morsel_query_text.specs.declared.make.JoinParts.{JoinParts}
use Rattle.morsel_query_text.specs.declared.make.FlawlessText.{FlawlessText}
use Rattle.morsel_query_text.specs.declared.scan.ScanText.{ScanText}
use Rattle.morsel_query_text.specs.declared.text.QueryText.{QueryText}
use Rattle.morsel_query_text.specs.Predicates.{pred_tree}
use Rattle.morsel_query_text.specs.Written.{WrittenCsv, WrittenCsvFiles, WrittenScan, WrittenJoin, WrittenQuery, csv_written, sink_written}
use denote.Ref.{Bor}

-- the text that is lent, where one is
abbrev pub lent : Option (Bor (List ℕ)) → Option (List ℕ)
lent texts = option_map (λ (text : Bor (List ℕ)). text.now) texts

-- how CSV texts are written
abbrev pub csv_of : CsvText → WrittenCsv
csv_of csv = record {
  separator = csv.separator.now;
  quote = lent csv.quote;
  eol = csv.eol.now;
  comment = lent csv.comment;
  has_header = csv.has_header;
  null_text = csv.null_text.now;
  ignore_errors = csv.ignore_errors;
}

-- the numbers by which a query is run
abbrev pub numbers_of : OptionNumbers → RunOptions
numbers_of numbers = record {
  workers = numbers.workers;
  morsel_rows = numbers.morsel_rows;
  chunk_bytes = numbers.chunk_bytes;
  distributor_buffer = numbers.distributor_buffer;
  linearizer_buffer = numbers.linearizer_buffer;
  min_values_per_task = numbers.min_values_per_task;
  random_state = numbers.random_state;
}

-- a scan
abbrev pub scan_of_text : ScanText → WrittenScan
scan_of_text scan = record {
  format = WrittenCsvFiles scan.fields.items (csv_of scan.csv);
  files = scan.files.items;
  columns = scan.asked.columns;
  slice = scan.asked.slice;
  row_index = scan.asked.row_index;
  path = scan.asked.path;
  allow_missing_columns = scan.asked.allow_missing_columns;
  filter = option_map pred_tree scan.filter;
}

-- a join
abbrev pub join_of_text : JoinText → WrittenJoin
join_of_text join = record {
  right = scan_of_text join.right;
  left_keys = join.left_keys.items;
  right_keys = join.right_keys.items;
  args = join.args;
  how = join.how;
}

-- a query
abbrev pub query_of_text : QueryText → WrittenQuery
query_of_text query = record {
  left = scan_of_text query.left;
  join = option_map join_of_text query.join;
  group = query.group;
  sink = sink_written query.sink;
  options = numbers_of query.options;
}

-- a scan, of which it is known how its files are read
abbrev pub scan_of_parts : ScanParts → WrittenScan
scan_of_parts parts = record {
  format = WrittenCsvFiles parts.fields.items (csv_written parts.options);
  files = parts.files.items;
  columns = parts.asked.columns;
  slice = parts.asked.slice;
  row_index = parts.asked.row_index;
  path = parts.asked.path;
  allow_missing_columns = parts.asked.allow_missing_columns;
  filter = option_map pred_tree parts.filter;
}

-- a join, of which it is known how the files of its right side are read
abbrev pub join_of_parts : JoinParts → WrittenJoin
join_of_parts parts = record {
  right = scan_of_parts parts.right;
  left_keys = parts.left_keys.items;
  right_keys = parts.right_keys.items;
  args = parts.args;
  how = parts.how;
}

-- a query without flaws
abbrev pub query_of_flawless : FlawlessText → WrittenQuery
query_of_flawless text = record {
  left = scan_of_parts text.left;
  join = option_map join_of_parts text.join;
  group = text.group;
  sink = sink_written text.sink;
  options = text.options;
}
