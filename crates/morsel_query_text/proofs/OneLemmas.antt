-- A tree is at most one query: what each key has is one value.
use Rattle.std.proofs.Common.{◌≡◌, ◌∙◌, ℕ, ℤ, Bool, List, Option, Some, None, ap, sym, refl}
use Rattle.std.specs.Prelude.{codes}
use Rattle.serde_json.specs.Data.{Data}
use Rattle.serde_json.specs.Find.{get}
use Rattle.morsel_group.specs.Asked.{GroupAsked}
use Rattle.morsel_group.specs.declared.spec.Agg.{Agg}
use Rattle.morsel_meaning.specs.declared.value.Field.{Field}
use Rattle.morsel_join.specs.declared.join_type.JoinType.{JoinType}
use Rattle.morsel_join.specs.declared.join_type.MaintainOrderJoin.{MaintainOrderJoin}
use Rattle.morsel_join.specs.declared.payload.JoinArgs.{JoinArgs}
use Rattle.morsel_scan.specs.declared.spec.RowIndex.{RowIndex}
use Rattle.morsel_query.specs.declared.join.JoinHow.{JoinHow}
use Rattle.morsel_query.specs.RunOptions.{RunOptions, standard_options}
use Rattle.morsel_query_text.specs.Trees.{FoundAs, SomeOf}
use Rattle.morsel_query_text.specs.Written.{WrittenCsv, WrittenFormat, WrittenCsvFiles, WrittenScan, WrittenJoin, WrittenSink, WrittenNdJson, WrittenQuery, standard_csv}
use Rattle.morsel_query_text.specs.QueryTexts.{CsvOf, FormatOf, ScanOf, JoinOf, GroupOf, SinkOf, OptionsOf, IsOneQuery}

-- ---- what is found

one : (T : Type 0) (told : Option T) (x y : T) → told ≡ Some x → told ≡ Some y → x ≡ y
one T told x y first second = let both : Some x ≡ Some y = sym first ∙ second in cc

one_found : (T : Type 0) (Of : Data → T → Type 0) (default : Option T) (found : Option Data) → ((tree : Data) (x y : T) → Of tree x → Of tree y → x ≡ y) → (x y : T) → FoundAs Of default found x
    → FoundAs Of default found y → x ≡ y
one_found T Of default None same x y first second = one T default x y first second
one_found T Of default (Some tree) same x y first second = same tree x y first second

one_some : (T : Type 0) (Of : Data → T → Type 0) → ((tree : Data) (x y : T) → Of tree x → Of tree y → x ≡ y) → (tree : Data) (x y : Option T) → SomeOf Of tree x → SomeOf Of tree y → x ≡ y
one_some T Of same tree None y first second = absurd first
one_some T Of same tree (Some x) None first second = absurd second
one_some T Of same tree (Some x) (Some y) first second = ap (λ (value : T). Some value) (same tree x y first second)

-- ---- objects of these values

abbrev csv_with : List ℕ → Option (List ℕ) → List ℕ → Option (List ℕ) → Bool → List ℕ → Bool → WrittenCsv
csv_with separator quote eol comment has_header null_text ignore_errors = record {
  separator = separator;
  quote = quote;
  eol = eol;
  comment = comment;
  has_header = has_header;
  null_text = null_text;
  ignore_errors = ignore_errors;
}

abbrev scan_with : WrittenFormat → List (List ℕ) → List (List ℕ) → Option (ℤ × ℕ) → Option RowIndex → Option (List ℕ) → Bool → Option Data → WrittenScan
scan_with format files columns slice row_index path allow_missing_columns filter = record {
  format = format;
  files = files;
  columns = columns;
  slice = slice;
  row_index = row_index;
  path = path;
  allow_missing_columns = allow_missing_columns;
  filter = filter;
}

abbrev args_with : JoinType → MaintainOrderJoin → Bool → Bool → List ℕ → JoinArgs
args_with how order nulls coalesce suffix = record { how = how; maintain_order = order; join_nulls = nulls; coalesce = coalesce; suffix = suffix }

abbrev join_with : WrittenScan → List (List ℕ) → List (List ℕ) → JoinArgs → JoinHow → WrittenJoin
join_with right left_keys right_keys args how = record { right = right; left_keys = left_keys; right_keys = right_keys; args = args; how = how }

abbrev options_with : ℕ → ℕ → ℕ → ℕ → ℕ → ℕ → ℕ → RunOptions
options_with workers morsel_rows chunk_bytes distributor_buffer linearizer_buffer min_values_per_task random_state = record {
  workers = workers;
  morsel_rows = morsel_rows;
  chunk_bytes = chunk_bytes;
  distributor_buffer = distributor_buffer;
  linearizer_buffer = linearizer_buffer;
  min_values_per_task = min_values_per_task;
  random_state = random_state;
}

abbrev group_with : List (List ℕ) → List Agg → GroupAsked
group_with keys aggs = record { keys = keys; aggs = aggs }

abbrev query_with : WrittenScan → Option WrittenJoin → Option GroupAsked → WrittenSink → RunOptions → WrittenQuery
query_with left join group sink options = record { left = left; join = join; group = group; sink = sink; options = options }

-- ---- one object

one_csv : (tree : Data) (a b : WrittenCsv) → CsvOf tree a → CsvOf tree b → a ≡ b
one_csv tree a b x y =
    ap (λ (v : List ℕ). csv_with v a.quote a.eol a.comment a.has_header a.null_text a.ignore_errors) (one _ _ a.separator b.separator x.separator y.separator)
    ∙ ap (λ (v : Option (List ℕ)). csv_with b.separator v a.eol a.comment a.has_header a.null_text a.ignore_errors) (one _ _ a.quote b.quote x.quote y.quote)
    ∙ ap (λ (v : List ℕ). csv_with b.separator b.quote v a.comment a.has_header a.null_text a.ignore_errors) (one _ _ a.eol b.eol x.eol y.eol)
    ∙ ap (λ (v : Option (List ℕ)). csv_with b.separator b.quote b.eol v a.has_header a.null_text a.ignore_errors) (one _ _ a.comment b.comment x.comment y.comment)
    ∙ ap (λ (v : Bool). csv_with b.separator b.quote b.eol b.comment v a.null_text a.ignore_errors) (one _ _ a.has_header b.has_header x.has_header y.has_header)
    ∙ ap (λ (v : List ℕ). csv_with b.separator b.quote b.eol b.comment b.has_header v a.ignore_errors) (one _ _ a.null_text b.null_text x.null_text y.null_text)
    ∙ ap (λ (v : Bool). csv_with b.separator b.quote b.eol b.comment b.has_header b.null_text v) (one _ _ a.ignore_errors b.ignore_errors x.ignore_errors y.ignore_errors)

one_format : (tree : Data) (a b : WrittenFormat) → FormatOf tree a → FormatOf tree b → a ≡ b
one_format tree (WrittenCsvFiles fields csv) (WrittenCsvFiles others more) x y =
    ap (λ (v : List Field). WrittenCsvFiles v csv) (one _ _ fields others x.schema y.schema)
    ∙ ap (λ (v : WrittenCsv). WrittenCsvFiles others v) (one_found WrittenCsv CsvOf (Some standard_csv) (get (codes "csv") tree) one_csv csv more x.csv y.csv)

one_scan : (tree : Data) (a b : WrittenScan) → ScanOf tree a → ScanOf tree b → a ≡ b
one_scan tree a b x y =
    ap (λ (v : WrittenFormat). scan_with v a.files a.columns a.slice a.row_index a.path a.allow_missing_columns a.filter) (one_format tree a.format b.format x.format y.format)
    ∙ ap (λ (v : List (List ℕ)). scan_with b.format v a.columns a.slice a.row_index a.path a.allow_missing_columns a.filter) (one _ _ a.files b.files x.files y.files)
    ∙ ap (λ (v : List (List ℕ)). scan_with b.format b.files v a.slice a.row_index a.path a.allow_missing_columns a.filter) (one _ _ a.columns b.columns x.columns y.columns)
    ∙ ap (λ (v : Option (ℤ × ℕ)). scan_with b.format b.files b.columns v a.row_index a.path a.allow_missing_columns a.filter) (one _ _ a.slice b.slice x.slice y.slice)
    ∙ ap (λ (v : Option RowIndex). scan_with b.format b.files b.columns b.slice v a.path a.allow_missing_columns a.filter) (one _ _ a.row_index b.row_index x.row_index y.row_index)
    ∙ ap (λ (v : Option (List ℕ)). scan_with b.format b.files b.columns b.slice b.row_index v a.allow_missing_columns a.filter) (one _ _ a.path b.path x.path y.path)
    ∙ ap (λ (v : Bool). scan_with b.format b.files b.columns b.slice b.row_index b.path v a.filter) (one _ _ a.allow_missing_columns b.allow_missing_columns x.allow_missing_columns y.allow_missing_columns)
    ∙ ap (λ (v : Option Data). scan_with b.format b.files b.columns b.slice b.row_index b.path b.allow_missing_columns v) (one _ _ a.filter b.filter x.filter y.filter)

one_args : (tree : Data) (a b : WrittenJoin) → JoinOf tree a → JoinOf tree b → a.args ≡ b.args
one_args tree a b x y =
    ap (λ (v : JoinType). args_with v a.args.maintain_order a.args.join_nulls a.args.coalesce a.args.suffix) (one _ _ a.args.how b.args.how x.kind y.kind)
    ∙ ap (λ (v : MaintainOrderJoin). args_with b.args.how v a.args.join_nulls a.args.coalesce a.args.suffix) (one _ _ a.args.maintain_order b.args.maintain_order x.order y.order)
    ∙ ap (λ (v : Bool). args_with b.args.how b.args.maintain_order v a.args.coalesce a.args.suffix) (one _ _ a.args.join_nulls b.args.join_nulls x.nulls y.nulls)
    ∙ ap (λ (v : Bool). args_with b.args.how b.args.maintain_order b.args.join_nulls v a.args.suffix) (one _ _ a.args.coalesce b.args.coalesce x.coalesce y.coalesce)
    ∙ ap (λ (v : List ℕ). args_with b.args.how b.args.maintain_order b.args.join_nulls b.args.coalesce v) (one _ _ a.args.suffix b.args.suffix x.suffix y.suffix)

one_join : (tree : Data) (a b : WrittenJoin) → JoinOf tree a → JoinOf tree b → a ≡ b
one_join tree a b x y =
    ap (λ (v : WrittenScan). join_with v a.left_keys a.right_keys a.args a.how) (one_found WrittenScan ScanOf None (get (codes "right") tree) one_scan a.right b.right x.right y.right)
    ∙ ap (λ (v : List (List ℕ)). join_with b.right v a.right_keys a.args a.how) (one _ _ a.left_keys b.left_keys x.left_keys y.left_keys)
    ∙ ap (λ (v : List (List ℕ)). join_with b.right b.left_keys v a.args a.how) (one _ _ a.right_keys b.right_keys x.right_keys y.right_keys)
    ∙ ap (λ (v : JoinArgs). join_with b.right b.left_keys b.right_keys v a.how) (one_args tree a b x y)
    ∙ ap (λ (v : JoinHow). join_with b.right b.left_keys b.right_keys b.args v) (one _ _ a.how b.how x.how y.how)

one_group : (tree : Data) (a b : GroupAsked) → GroupOf tree a → GroupOf tree b → a ≡ b
one_group tree a b x y =
    ap (λ (v : List (List ℕ)). group_with v a.aggs) (one _ _ a.keys b.keys x.key_names y.key_names)
    ∙ ap (λ (v : List Agg). group_with b.keys v) (one _ _ a.aggs b.aggs x.aggs y.aggs)

one_sink : (tree : Data) (a b : WrittenSink) → SinkOf tree a → SinkOf tree b → a ≡ b
one_sink tree WrittenNdJson WrittenNdJson x y = refl

one_options : (tree : Data) (a b : RunOptions) → OptionsOf tree a → OptionsOf tree b → a ≡ b
one_options tree a b x y =
    ap (λ (v : ℕ). options_with v a.morsel_rows a.chunk_bytes a.distributor_buffer a.linearizer_buffer a.min_values_per_task a.random_state) (one _ _ a.workers b.workers x.workers y.workers)
    ∙ ap (λ (v : ℕ). options_with b.workers v a.chunk_bytes a.distributor_buffer a.linearizer_buffer a.min_values_per_task a.random_state) (one _ _ a.morsel_rows b.morsel_rows x.morsel_rows y.morsel_rows)
    ∙ ap (λ (v : ℕ). options_with b.workers b.morsel_rows v a.distributor_buffer a.linearizer_buffer a.min_values_per_task a.random_state) (one _ _ a.chunk_bytes b.chunk_bytes x.chunk_bytes y.chunk_bytes)
    ∙ ap (λ (v : ℕ). options_with b.workers b.morsel_rows b.chunk_bytes v a.linearizer_buffer a.min_values_per_task a.random_state) (one _ _ a.distributor_buffer b.distributor_buffer x.distributor_buffer y.distributor_buffer)
    ∙ ap (λ (v : ℕ). options_with b.workers b.morsel_rows b.chunk_bytes b.distributor_buffer v a.min_values_per_task a.random_state) (one _ _ a.linearizer_buffer b.linearizer_buffer x.linearizer_buffer y.linearizer_buffer)
    ∙ ap (λ (v : ℕ). options_with b.workers b.morsel_rows b.chunk_bytes b.distributor_buffer b.linearizer_buffer v a.random_state)
    (one _ _ a.min_values_per_task b.min_values_per_task x.min_values_per_task y.min_values_per_task)
    ∙ ap (λ (v : ℕ). options_with b.workers b.morsel_rows b.chunk_bytes b.distributor_buffer b.linearizer_buffer b.min_values_per_task v) (one _ _ a.random_state b.random_state x.random_state y.random_state)

pub one_query : IsOneQuery
one_query tree a b x y =
    ap (λ (v : WrittenScan). query_with v a.join a.group a.sink a.options) (one_found WrittenScan ScanOf None (get (codes "left") tree) one_scan a.left b.left x.left y.left)
    ∙ ap (λ (v : Option WrittenJoin). query_with b.left v a.group a.sink a.options)
    (one_found (Option WrittenJoin) (SomeOf JoinOf) (Some None) (get (codes "join") tree) (one_some WrittenJoin JoinOf one_join) a.join b.join x.join y.join)
    ∙ ap (λ (v : Option GroupAsked). query_with b.left b.join v a.sink a.options)
    (one_found (Option GroupAsked) (SomeOf GroupOf) (Some None) (get (codes "group") tree) (one_some GroupAsked GroupOf one_group) a.group b.group x.group y.group)
    ∙ ap (λ (v : WrittenSink). query_with b.left b.join b.group v a.options) (one_found WrittenSink SinkOf None (get (codes "sink") tree) one_sink a.sink b.sink x.sink y.sink)
    ∙ ap (λ (v : RunOptions). query_with b.left b.join b.group b.sink v) (one_found RunOptions OptionsOf (Some standard_options) (get (codes "options") tree) one_options a.options b.options x.options y.options)
