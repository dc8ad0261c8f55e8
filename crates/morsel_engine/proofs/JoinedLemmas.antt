-- Runs of queries with a join, by which of its sides is kept.
use Rattle.std.proofs.Common.{◌≡◌, ℕ, ◌+◌, ◌<◌, ap, sym, subst, refl, ◌∙◌, inl, inr}
use Rattle.std.specs.Prelude.{Bool, true, false, Option, Some, None, Result, Err, List, length, map}
use Rattle.morsel_meaning.specs.declared.fault.Fault.{Fault}
use Rattle.morsel_meaning.specs.declared.fault.Fault.TheVariants as faults
use Rattle.morsel_meaning.specs.declared.value.Field.{Field}
use Rattle.morsel_meaning.specs.Values.{Row, Table, names_of}
use Rattle.morsel_ndjson.specs.Ndjson.{ndjson}
use Rattle.morsel_grammar.specs.Dialect.{IsDialect}
use Rattle.morsel_outside.specs.Outside.{Outside}
use Rattle.morsel_join.specs.declared.join_type.JoinType.{JoinType}
use Rattle.morsel_join.specs.declared.join_type.MaintainOrderJoin.{MaintainOrderJoin}
use Rattle.morsel_join.specs.declared.rules.JoinColumn.{JoinColumn}
use Rattle.morsel_join.specs.declared.rules.JoinRules.{JoinRules}
use Rattle.morsel_join.specs.Items.{JoinItems, IsPromised}
use Rattle.morsel_join.specs.Payloads.{key_places}
use Rattle.morsel_join.specs.Rows.{IsJoin, item_row, keeps_left, rows_match}
use Rattle.morsel_join.proofs.SideJoins.{joined-by-side}
use Rattle.morsel_read.specs.ScanReads.{CountsFromFirst}
use Rattle.morsel_sink.specs.declared.spec.SinkFormat.{SinkFormat}
use Rattle.morsel_sink.specs.declared.spec.SinkFormat.TheVariants as formats
use Rattle.morsel_sink.specs.declared.spec.SinkSpec.{SinkSpec}
use Rattle.morsel_group.specs.Asked.{GroupAsked}
use Rattle.morsel_query.specs.RunOptions.{RunOptions}
use Rattle.morsel_query.specs.Queries.{FileScan, JoinPart}
use Rattle.morsel_query.specs.Plans.{fields_of_scan, AreRulesOf, query_fault}
use Rattle.morsel_query.specs.Meanings.{csv_scan, left_files, right_files, AreJoinRows, text_of}
use Rattle.morsel_engine.specs.Courses.{file_numbers}
use Rattle.morsel_engine.specs.Stages.{bytes_bound, side_scan, JoinsSides, JoinsFiles}
use Rattle.morsel_engine.specs.Runs.{Runs}
use Rattle.morsel_engine.proofs.ScanLemmas.{Begun, runs_begun}
use Rattle.morsel_engine.proofs.JoinSideLemmas.{left_open, right_open, query_joined, SidesFit, left_is, right_is, asks_left_first, asks_right_first}
use Rattle.morsel_engine.proofs.JoinLemmas.{side_kept, joined_rows, join_text}
use Rattle.morsel_engine.proofs.JoinRunLemmas.{AreSides, IsUngrouped, runs_course}

abbrev table_of : List Field → List Row → Table
table_of fields rows = record { schema = fields; rows = rows }

-- the rows of a join by its rules are rows that it may give
rows_by_rules : (left : FileScan) (join : JoinPart) (rules : JoinRules) (lefts rights : List Row) (out : Table) → AreRulesOf (fields_of_scan left) (fields_of_scan join.right) join rules
    → IsJoin rules (table_of (fields_of_scan left) lefts) (table_of (fields_of_scan join.right) rights) out → AreJoinRows left join lefts rights out.rows
rows_by_rules left join rules lefts rights out are is =
    let left_places = key_places (fields_of_scan left) join.left_keys in
    let right_places = key_places (fields_of_scan join.right) join.right_keys in
    record {
      items = is.items;
      once = subst (λ (how : JoinType). JoinItems how (rows_match join.args.join_nulls left_places right_places) lefts rights is.items) are.how
          (subst (λ (nulls : Bool). JoinItems rules.how (rows_match nulls left_places right_places) lefts rights is.items) are.nulls
          (subst (λ (places : List ℕ). JoinItems rules.how (rows_match rules.join_nulls places right_places) lefts rights is.items) are.left_keys
          (subst (λ (places : List ℕ). JoinItems rules.how (rows_match rules.join_nulls rules.left_keys.items places) lefts rights is.items) are.right_keys is.once)));
      promised = subst (λ (order : MaintainOrderJoin). IsPromised order is.items) are.order is.promised;
      rows_are = is.rows ∙ ap (λ (columns : List JoinColumn). map (item_row columns lefts rights) is.items) are.columns;
    }

-- the rows that are found and the kept ones that are not are those of the join
joined_left : (left : FileScan) (join : JoinPart) (rules : JoinRules) (rows others : List Row) → AreRulesOf (fields_of_scan left) (fields_of_scan join.right) join rules
    → true ≡ keeps_left rules.how rules.maintain_order → AreJoinRows left join rows others (joined_rows (side_kept true rules rows) others)
joined_left left join rules rows others are ordered =
    let out : Table = table_of rules.output (joined_rows (side_kept true rules rows) others) in
    rows_by_rules left join rules rows others out are
    (joined-by-side (side_kept true rules rows) others (table_of (fields_of_scan left) rows) (table_of (fields_of_scan join.right) others) out ordered refl refl refl refl)

joined_right : (left : FileScan) (join : JoinPart) (rules : JoinRules) (rows others : List Row) → AreRulesOf (fields_of_scan left) (fields_of_scan join.right) join rules
    → false ≡ keeps_left rules.how rules.maintain_order → AreJoinRows left join others rows (joined_rows (side_kept false rules rows) others)
joined_right left join rules rows others are ordered =
    let out : Table = table_of rules.output (joined_rows (side_kept false rules rows) others) in
    rows_by_rules left join rules others rows out are
    (joined-by-side (side_kept false rules rows) others (table_of (fields_of_scan left) others) (table_of (fields_of_scan join.right) rows) out ordered refl refl refl refl)

-- the text of its rows
text_joined : (format : SinkFormat) (left : FileScan) (join : JoinPart) (name : List ℕ) (rules : JoinRules) (rows : List Row) → AreRulesOf (fields_of_scan left) (fields_of_scan join.right) join rules
    → join_text rules rows ≡ text_of (query_joined left join None (record { name = name; format = format })) rows
text_joined formats.NdJson left join name rules rows are = ap (λ (fields : List Field). ndjson (names_of fields) rows) are.output

pub sides_left : (left : FileScan) (join : JoinPart) (rules : JoinRules) (old : Outside) (files : List (List ℕ)) → AreRulesOf (fields_of_scan left) (fields_of_scan join.right) join rules
    → true ≡ keeps_left rules.how rules.maintain_order → AreSides true rules old left (Some join) files (left_open old left files) (right_open old left join files)
sides_left left join rules old files are ordered = record {
  once = λ to other first later one two. asks_left_first (length old.sizes) (length left.sources) files to other first later one two;
  means = λ to other rows others one two. record { lefts = rows; rights = others; left_rows = one; right_rows = two; joined = joined_left left join rules rows others are ordered };
  whole = λ to other one two. (one, two);
  meaning = λ rows others one two. record { lefts = rows; rights = others; left_rows = one; right_rows = two; joined = joined_left left join rules rows others are ordered };
}

pub sides_right : (left : FileScan) (join : JoinPart) (rules : JoinRules) (old : Outside) (files : List (List ℕ)) → AreRulesOf (fields_of_scan left) (fields_of_scan join.right) join rules
    → false ≡ keeps_left rules.how rules.maintain_order → AreSides false rules old left (Some join) files (right_open old left join files) (left_open old left files)
sides_right left join rules old files are ordered = record {
  once = λ to other first later one two. asks_right_first (length old.sizes) (length left.sources) files other to first later one two;
  means = λ to other rows others one two. record { lefts = others; rights = rows; left_rows = two; right_rows = one; joined = joined_right left join rules rows others are ordered };
  whole = λ to other one two. (two, one);
  meaning = λ rows others one two. record { lefts = others; rights = rows; left_rows = two; right_rows = one; joined = joined_right left join rules rows others are ordered };
}

-- its rows are those of a query without a group-by
is_ungrouped : (left : FileScan) (join : JoinPart) (sink : SinkSpec) (rules : JoinRules) (options : RunOptions) (old : Outside) (files : List (List ℕ)) → AreRulesOf (fields_of_scan left) (fields_of_scan join.right) join rules
    → IsUngrouped rules options old (query_joined left join None sink) files
is_ungrouped left join sink rules options old files are = record {
  ahead = λ events. tt;
  asked = λ to rows means. means;
  meaning = λ rows means. means;
  text = λ rows. text_joined sink.format left join sink.name rules rows are;
  front = λ text is. is;
  head = λ result new. tt;
}

-- what a run of a join has to know of its query
pub record JoinFit (left : FileScan) (join : JoinPart) (group : Option GroupAsked) (sink : SinkSpec) (rules : JoinRules) : Type 0 where
  pub planned : query_fault (query_joined left join group sink) ≡ None
  pub left_first : CountsFromFirst left.asked.slice
  pub right_first : CountsFromFirst join.right.asked.slice
  pub left_some : 0 < length left.sources
  pub right_some : 0 < length join.right.sources
  pub are_rules : AreRulesOf (fields_of_scan left) (fields_of_scan join.right) join rules

-- and what follows for its sides
pub fit_sides : (left : FileScan) (join : JoinPart) (group : Option GroupAsked) (sink : SinkSpec) (rules : JoinRules) → JoinFit left join group sink rules → IsDialect (csv_scan left).options
    → IsDialect (csv_scan join.right).options → SidesFit left join
fit_sides left join group sink rules fit left_fit right_fit =
    record { left_fit = left_fit; right_fit = right_fit; left_first = fit.left_first; right_first = fit.right_first; left_some = fit.left_some; right_some = fit.right_some }

-- a run of a join that made its sink, whatever follows
pub runs_joined : (old now new : Outside) (left : FileScan) (join : JoinPart) (sink : SinkSpec) (rules : JoinRules) (options : RunOptions) (files : List (List ℕ)) (result : Result ℕ Fault)
    → JoinFit left join None sink rules → Begun old (query_joined left join None sink) files now
    → JoinsFiles now left join.right (file_numbers (length old.sizes) (length (left_files left files))) (file_numbers (length old.sizes + length left.sources) (length (right_files left files))) rules options result new
    → Runs old (query_joined left join None sink) options result new
runs_joined old now new left join sink rules options files result fit begun (inl (is, same)) =
    subst (λ (r : Result ℕ Fault). Runs old (query_joined left join None sink) options r new) (sym is) (subst (Runs old (query_joined left join None sink) options (Err faults.OutOfMemory)) (sym same)
    (runs_begun old now (query_joined left join None sink) options files fit.planned begun))
runs_joined old now new left join sink rules options files result fit begun (inr (left_fit, right_fit, some, joins)) = by (keeps_left rules.how rules.maintain_order) refl joins
  where
    sides_fit : SidesFit left join
    sides_fit = fit_sides left join None sink rules fit left_fit right_fit

    by : (is_left : Bool) → is_left ≡ keeps_left rules.how rules.maintain_order
        → JoinsSides is_left (side_scan left (file_numbers (length old.sizes) (length (left_files left files))) 0 options)
        (side_scan join.right (file_numbers (length old.sizes + length left.sources) (length (right_files left files))) (length left.sources) options) rules (bytes_bound options) now result new
        → Runs old (query_joined left join None sink) options result new
    by true ordered joined = runs_course true rules ordered old now (query_joined left join None sink) options files (left_open old left files) (right_open old left join files)
        (left_is old now left join None sink files sides_fit begun) (right_is old now left join None sink files sides_fit begun)
        (sides_left left join rules old files fit.are_rules ordered) (is_ungrouped left join sink rules options old files fit.are_rules) begun fit.planned result new joined
    by false ordered joined = runs_course false rules ordered old now (query_joined left join None sink) options files (right_open old left join files) (left_open old left files)
        (right_is old now left join None sink files sides_fit begun) (left_is old now left join None sink files sides_fit begun)
        (sides_right left join rules old files fit.are_rules ordered) (is_ungrouped left join sink rules options old files fit.are_rules) begun fit.planned result new joined
