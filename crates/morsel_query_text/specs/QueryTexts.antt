-- Which query a JSON tree is: a table, with a line for each key, its kind and its default. A line whose default is `None` is of a key
-- that has to be there. No object has other keys than those of its lines.
use Rattle.std.specs.Prelude.{◌≡◌, ℕ, Bool, true, false, codes, if◌then◌else◌, Option, Some, None, option_map, option_and_then, List, [], ◌∷◌}
use Rattle.std.specs.Str.{bytes_eq}
use Rattle.serde_json.specs.Data.{Data}
use Rattle.serde_json.specs.Find.{as_str, as_bool, as_array}
use Rattle.morsel_meaning.specs.declared.value.ColType.{ColType}
use Rattle.morsel_meaning.specs.declared.value.ColType.TheVariants as types
use Rattle.morsel_meaning.specs.declared.value.Field.{Field}
use Rattle.morsel_keys.specs.declared.reduction.Reduction.{Reduction}
use Rattle.morsel_keys.specs.declared.reduction.Reduction.TheVariants as reductions
use Rattle.morsel_group.specs.declared.spec.Agg.{Agg}
use Rattle.morsel_group.specs.Asked.{GroupAsked}
use Rattle.morsel_join.specs.declared.join_type.JoinType.{JoinType}
use Rattle.morsel_join.specs.declared.join_type.JoinType.TheVariants as joins
use Rattle.morsel_join.specs.declared.join_type.MaintainOrderJoin.{MaintainOrderJoin}
use Rattle.morsel_join.specs.declared.join_type.MaintainOrderJoin.TheVariants as orders
use Rattle.morsel_scan.specs.declared.spec.RowIndex.{RowIndex}
use Rattle.morsel_query.specs.declared.join.JoinHow.{JoinHow}
use Rattle.morsel_query.specs.declared.join.JoinHow.TheVariants as hows
use Rattle.morsel_query.specs.RunOptions.{RunOptions, standard_options}
use Rattle.morsel_query_text.specs.Trees.{has_only, at_key, IsAtKey, SomeOf, some_of, word_as, text_or_null, number, narrow_number, signed_number, list_of, three_items, pair_of}
use Rattle.morsel_query_text.specs.declared.join.KeySide.{KeySide}
use Rattle.morsel_query_text.specs.declared.join.KeySide.TheVariants as key_sides
use Rattle.morsel_query_text.specs.Predicates.{predicate}
use Rattle.morsel_query_text.specs.Written.{WrittenCsv, WrittenFormat, WrittenCsvFiles, WrittenScan, WrittenJoin, WrittenSink, WrittenNdJson, WrittenQuery, standard_csv}

-- ---- kinds

-- the type that a word names
abbrev pub type_named : List ℕ → Option ColType
type_named word =
    if bytes_eq word (codes "int") then Some types.Int
    else (if bytes_eq word (codes "bool") then Some types.Bool else (if bytes_eq word (codes "text") then Some types.Text else None))

-- `[name, type]`
abbrev pub field : Data → Option Field
field tree = option_map (λ (pair : List ℕ × ColType). record { name = pair.0; kind = pair.1 }) (pair_of as_str (λ word. option_and_then type_named (as_str word)) tree)

-- `[name, offset]`
abbrev pub row_index : Data → Option RowIndex
row_index tree = option_map (λ (pair : List ℕ × ℕ). record { name = pair.0; offset = pair.1 }) (pair_of as_str narrow_number tree)

-- the kind of joins that a word names
abbrev pub join_type_named : List ℕ → Option JoinType
join_type_named word =
    if bytes_eq word (codes "inner") then Some joins.Inner
    else (if bytes_eq word (codes "left") then Some joins.Left
    else (if bytes_eq word (codes "right") then Some joins.Right else (if bytes_eq word (codes "full") then Some joins.Full else None)))

-- the order of rows that a word names
abbrev pub order_named : List ℕ → Option MaintainOrderJoin
order_named word =
    if bytes_eq word (codes "none") then Some orders.None
    else (if bytes_eq word (codes "left") then Some orders.Left
    else (if bytes_eq word (codes "right") then Some orders.Right
    else (if bytes_eq word (codes "left_right") then Some orders.LeftRight else (if bytes_eq word (codes "right_left") then Some orders.RightLeft else None))))

-- the way to find the rows of a join that a word names; rows of both sides at once are not had yet
abbrev pub how_named : List ℕ → Option JoinHow
how_named word = if bytes_eq word (codes "hash") then Some hows.Hash else None

-- the name of a side, of a left and a right one
abbrev pub name_on : KeySide → List ℕ × List ℕ → List ℕ
name_on key_sides.Left pair = pair.0
name_on key_sides.Right pair = pair.1

-- the name of a side in `[left name, right name]`
abbrev pub key_of : KeySide → Data → Option (List ℕ)
key_of side tree = option_map (name_on side) (pair_of as_str as_str tree)

-- the reduction that a word names
abbrev pub reduction_named : List ℕ → Option Reduction
reduction_named word =
    if bytes_eq word (codes "len") then Some reductions.Len
    else (if bytes_eq word (codes "sum") then Some reductions.Sum
    else (if bytes_eq word (codes "min") then Some reductions.Min
    else (if bytes_eq word (codes "max") then Some reductions.Max
    else (if bytes_eq word (codes "first") then Some reductions.First else (if bytes_eq word (codes "last") then Some reductions.Last else None)))))

-- whether a count of rows has no column, or another reduction has one
abbrev pub has_its_column : Reduction → Option (List ℕ) → Bool
has_its_column reductions.Len None = true
has_its_column reductions.Len (Some name) = false
has_its_column op None = false
has_its_column op (Some name) = true

-- a reduction of a column, into a column of this name
abbrev pub agg_with : Reduction → Option (List ℕ) → List ℕ → Agg
agg_with op column output = record { op = op; column = column; output = output }

-- a reduction of these parts, each as what was told; none where a part is none, or it has not its column
abbrev pub agg_of_parts : Option Reduction → Option (Option (List ℕ)) → Option (List ℕ) → Option Agg
agg_of_parts None column output = None
agg_of_parts (Some op) None output = None
agg_of_parts (Some op) (Some column) None = None
agg_of_parts (Some op) (Some column) (Some output) = if has_its_column op column then Some (agg_with op column output) else None

-- a reduction of three items
abbrev pub agg_of_three : Data × Data × Data → Option Agg
agg_of_three three = agg_of_parts (word_as reduction_named three.0) (text_or_null three.1) (as_str three.2)

-- `[op, name, output]`, with null for the name exactly where `op` is `len`
abbrev pub agg_of : Data → Option Agg
agg_of tree = option_and_then agg_of_three (option_and_then three_items (as_array tree))

-- ---- objects

-- the keys of `csv`
abbrev pub csv_keys : List (List ℕ)
csv_keys = codes "separator" ∷ codes "quote" ∷ codes "eol" ∷ codes "comment" ∷ codes "has_header" ∷ codes "null" ∷ codes "ignore_errors" ∷ []

-- `csv` of a scan: how CSV texts are written
pub record CsvOf (tree : Data) (csv : WrittenCsv) : Type 0 where
  pub keys : has_only csv_keys tree ≡ true
  pub separator : at_key (codes "separator") as_str (Some standard_csv.separator) tree ≡ Some csv.separator
  pub quote : at_key (codes "quote") text_or_null (Some standard_csv.quote) tree ≡ Some csv.quote
  pub eol : at_key (codes "eol") as_str (Some standard_csv.eol) tree ≡ Some csv.eol
  pub comment : at_key (codes "comment") text_or_null (Some standard_csv.comment) tree ≡ Some csv.comment
  pub has_header : at_key (codes "has_header") as_bool (Some standard_csv.has_header) tree ≡ Some csv.has_header
  pub null_text : at_key (codes "null") as_str (Some standard_csv.null_text) tree ≡ Some csv.null_text
  pub ignore_errors : at_key (codes "ignore_errors") as_bool (Some standard_csv.ignore_errors) tree ≡ Some csv.ignore_errors

-- the keys of a scan of CSV files
abbrev pub csv_scan_keys : List (List ℕ)
csv_scan_keys = codes "format" ∷ codes "files" ∷ codes "schema" ∷ codes "csv" ∷ codes "columns" ∷ codes "slice" ∷ codes "row_index" ∷ codes "path" ∷ codes "filter" ∷ []

-- `format` of a scan of CSV files, and the keys of such a scan alone
pub record CsvFilesOf (tree : Data) (fields : List Field) (written : WrittenCsv) : Type 0 where
  pub keys : has_only csv_scan_keys tree ≡ true
  pub format : at_key (codes "format") as_str None tree ≡ Some (codes "csv")
  pub schema : at_key (codes "schema") (list_of field) None tree ≡ Some fields
  pub csv : IsAtKey (codes "csv") CsvOf (Some standard_csv) tree written

-- `format` of a scan, and the keys of that format alone
abbrev pub FormatOf : Data → WrittenFormat → Type 0
FormatOf tree (WrittenCsvFiles fields csv) = CsvFilesOf tree fields csv

-- `left`, and `right` of a join: a scan
pub record ScanOf (tree : Data) (scan : WrittenScan) : Type 0 where
  pub format : FormatOf tree scan.format
  pub files : at_key (codes "files") (list_of as_str) None tree ≡ Some scan.files
  pub columns : at_key (codes "columns") (list_of as_str) (Some []) tree ≡ Some scan.columns
  pub slice : at_key (codes "slice") (some_of (pair_of signed_number number)) (Some None) tree ≡ Some scan.slice
  pub row_index : at_key (codes "row_index") (some_of row_index) (Some None) tree ≡ Some scan.row_index
  pub path : at_key (codes "path") (some_of as_str) (Some None) tree ≡ Some scan.path
  pub allow_missing_columns : at_key (codes "allow_missing_columns") as_bool (Some false) tree ≡ Some scan.allow_missing_columns  -- no key of CSV files
  pub filter : at_key (codes "filter") (some_of predicate) (Some None) tree ≡ Some scan.filter

-- the keys of a join
abbrev pub join_keys : List (List ℕ)
join_keys = codes "right" ∷ codes "on" ∷ codes "kind" ∷ codes "order" ∷ codes "nulls" ∷ codes "coalesce" ∷ codes "suffix" ∷ codes "how" ∷ []

-- `join`: `on` has a left and a right name for each pair of keys
pub record JoinOf (tree : Data) (join : WrittenJoin) : Type 0 where
  pub keys : has_only join_keys tree ≡ true
  pub right : IsAtKey (codes "right") ScanOf None tree join.right
  pub left_keys : at_key (codes "on") (list_of (key_of key_sides.Left)) None tree ≡ Some join.left_keys
  pub right_keys : at_key (codes "on") (list_of (key_of key_sides.Right)) None tree ≡ Some join.right_keys
  pub kind : at_key (codes "kind") (word_as join_type_named) (Some joins.Inner) tree ≡ Some join.args.how
  pub order : at_key (codes "order") (word_as order_named) (Some orders.None) tree ≡ Some join.args.maintain_order
  pub nulls : at_key (codes "nulls") as_bool (Some false) tree ≡ Some join.args.join_nulls
  pub coalesce : at_key (codes "coalesce") as_bool (Some true) tree ≡ Some join.args.coalesce
  pub suffix : at_key (codes "suffix") as_str (Some (codes "_right")) tree ≡ Some join.args.suffix
  pub how : at_key (codes "how") (word_as how_named) (Some hows.Hash) tree ≡ Some join.how

-- the keys of a group-by
abbrev pub group_keys : List (List ℕ)
group_keys = codes "keys" ∷ codes "aggs" ∷ []

-- `group`: the columns of the key, and the reductions
pub record GroupOf (tree : Data) (group : GroupAsked) : Type 0 where
  pub keys : has_only group_keys tree ≡ true
  pub key_names : at_key (codes "keys") (list_of as_str) None tree ≡ Some group.keys
  pub aggs : at_key (codes "aggs") (list_of agg_of) (Some []) tree ≡ Some group.aggs

-- the keys of an NDJSON sink
abbrev pub ndjson_keys : List (List ℕ)
ndjson_keys = codes "format" ∷ []

-- `format` of an NDJSON sink, which has no other key
pub record NdJsonOf (tree : Data) : Type 0 where
  pub keys : has_only ndjson_keys tree ≡ true
  pub format : at_key (codes "format") as_str None tree ≡ Some (codes "ndjson")

-- `sink`
abbrev pub SinkOf : Data → WrittenSink → Type 0
SinkOf tree WrittenNdJson = NdJsonOf tree

-- the keys of `options`
abbrev pub option_keys : List (List ℕ)
option_keys = codes "workers" ∷ codes "morsel_rows" ∷ codes "chunk_bytes" ∷ codes "distributor_buffer" ∷ codes "linearizer_buffer" ∷ codes "min_values_per_task" ∷ codes "random_state" ∷ []

-- `options`
pub record OptionsOf (tree : Data) (options : RunOptions) : Type 0 where
  pub keys : has_only option_keys tree ≡ true
  pub workers : at_key (codes "workers") number (Some standard_options.workers) tree ≡ Some options.workers
  pub morsel_rows : at_key (codes "morsel_rows") number (Some standard_options.morsel_rows) tree ≡ Some options.morsel_rows
  pub chunk_bytes : at_key (codes "chunk_bytes") number (Some standard_options.chunk_bytes) tree ≡ Some options.chunk_bytes
  pub distributor_buffer : at_key (codes "distributor_buffer") number (Some standard_options.distributor_buffer) tree ≡ Some options.distributor_buffer
  pub linearizer_buffer : at_key (codes "linearizer_buffer") number (Some standard_options.linearizer_buffer) tree ≡ Some options.linearizer_buffer
  pub min_values_per_task : at_key (codes "min_values_per_task") number (Some standard_options.min_values_per_task) tree ≡ Some options.min_values_per_task
  pub random_state : at_key (codes "random_state") number (Some standard_options.random_state) tree ≡ Some options.random_state

-- the keys of a query
abbrev pub query_keys : List (List ℕ)
query_keys = codes "left" ∷ codes "join" ∷ codes "group" ∷ codes "sink" ∷ codes "options" ∷ []

-- a query
pub record QueryOf (tree : Data) (query : WrittenQuery) : Type 0 where
  pub keys : has_only query_keys tree ≡ true
  pub left : IsAtKey (codes "left") ScanOf None tree query.left
  pub join : IsAtKey (codes "join") (SomeOf JoinOf) (Some None) tree query.join
  pub group : IsAtKey (codes "group") (SomeOf GroupOf) (Some None) tree query.group
  pub sink : IsAtKey (codes "sink") SinkOf None tree query.sink
  pub options : IsAtKey (codes "options") OptionsOf (Some standard_options) tree query.options

-- a tree is at most one query
abbrev pub IsOneQuery : Type 0
IsOneQuery = (tree : Data) (a b : WrittenQuery) → QueryOf tree a → QueryOf tree b → a ≡ b
