-- Queries that are written alike are valid over the same files.
use Rattle.std.specs.Prelude.{◌≡◌, ℕ, ◌+◌, ◌≤◌, ◌||◌, Bool, if◌then◌else◌, Option, Some, None, option_map, Result, Ok, Err, List, [], ◌∷◌, map, length, take, drop, refl}
use Rattle.std.proofs.Common.{sym, ap, subst, ◌∙◌, arith}
use Rattle.std.proofs.lemmas.Grind.{common_steps}
use Rattle.morsel_meaning.specs.declared.value.Field.{Field}
use Rattle.morsel_meaning.specs.declared.fault.Fault.{Fault}
use Rattle.morsel_meaning.specs.declared.fault.Fault.TheVariants.{ComputeError}
use Rattle.morsel_meaning.specs.declared.fault.ComputeKind.TheVariants as kinds
use Rattle.morsel_meaning.specs.Values.{Row}
use Rattle.morsel_grammar.specs.Dialect.{Dialect}
use Rattle.morsel_grammar.specs.Reading.{used_values}
use Rattle.morsel_frame.specs.Names.{stands_in}
use Rattle.morsel_frame.specs.Refusals.{first_fault, repeat_fault}
use Rattle.morsel_expr.specs.declared.node.PredNode.{PredNode}
use Rattle.morsel_expr.specs.Truths.{is_true}
use Rattle.morsel_scan.specs.Scans.{FileOptions, Scan}
use Rattle.morsel_scan.specs.ScanColumns.{is_kept, filter_names, used_columns, whole_fields}
use Rattle.morsel_scan.specs.ScanRows.{Placed, SourceRows, whole_row, output_row, passes, index_fits, row_of_values, scanned, gathered, gathered_then, ended_by, followed_by, scanned_source, scanned_sources, slice_keeps, total_rows}
use Rattle.morsel_scan.specs.ScanRows.{placed, scan_rows}
use Rattle.morsel_scan.specs.CsvScans.{csv_source, csv_sources, csv_scan_rows}
use Rattle.morsel_scan.specs.ScanFlaws.{choice_flaw, filter_flaw}
use Rattle.morsel_group.specs.Asked.{GroupAsked, shape_of}
use Rattle.morsel_group.specs.GroupCauses.{FitsGroups}
use Rattle.morsel_group.specs.GroupFlaws.{group_flaw}
use Rattle.morsel_group.specs.Grouping.{Grouped}
use Rattle.morsel_join.specs.declared.payload.JoinArgs.{JoinArgs}
use Rattle.morsel_join.specs.Items.{JoinItems}
use Rattle.morsel_join.specs.Payloads.{join_fields, join_flaw, key_places}
use Rattle.morsel_join.specs.Rows.{item_row, join_columns, rows_match}
use Rattle.morsel_query.specs.declared.join.JoinHow.{JoinHow}
use Rattle.morsel_query.specs.Queries.{FileFormat, CsvFiles, FileScan, JoinPart, QueryParts, scan_asked}
use Rattle.morsel_query.specs.Plans.{fields_of_scan, fields_of_join, fields_of_input, slice_fault, side_fault, join_fault, fault_by, fault_with}
use Rattle.morsel_query.specs.RunOptions.{RunOptions}
use Rattle.morsel_query.specs.Meanings.{rows_over, height_over, AreOfFormat, left_files, right_files, AreJoinRows, MeansBy, MeansWith, EachSide, GroupsFit, IsValid}
use Rattle.morsel_query_text.specs.Predicates.{pred_tree}
use Rattle.morsel_query_text.specs.Written.{WrittenScan, WrittenJoin, WrittenQuery, csv_written, format_written, scan_written, join_written, query_written}
use Rattle.morsel_query_text.proofs.AlikeLemmas.{one_predicate}

-- two filters say the same of each row, have the same flaws, and speak of the same columns
record FilterAlike (a b : Option PredNode) : Type 0 where
  pub passing : (fields : List Field) (row : Row) → passes a fields row ≡ passes b fields row
  pub names : filter_names a ≡ filter_names b
  pub flaws : (fields : List Field) → filter_flaw fields a ≡ filter_flaw fields b

-- filters that are written alike
filter_alike : (a b : Option PredNode) → option_map pred_tree a ≡ option_map pred_tree b → FilterAlike a b
filter_alike None None is = record { passing = λ fields row. refl; names = refl; flaws = λ fields. refl }
filter_alike None (Some q) is = absurd (cc)
filter_alike (Some p) None is = absurd (cc)
filter_alike (Some p) (Some q) is =
    let same = one_predicate p q (by is) in
    record { passing = λ fields row. ap is_true (same.truths fields row); names = same.names; flaws = same.flaws }
  where
    by : Some (pred_tree p) ≡ Some (pred_tree q) → pred_tree p ≡ pred_tree q
    by both = cc

-- a scan with this filter
abbrev scan_with : List Field → FileOptions → Option PredNode → Scan
scan_with fields asked filter = record { fields = fields; asked = asked; filter = filter }

scanned-alike : (fields : List Field) (asked : FileOptions) (a b : Option PredNode) (keeps : ℕ → Bool) (row : Placed) → FilterAlike a b
    → scanned (scan_with fields asked a) keeps row ≡ scanned (scan_with fields asked b) keeps row
scanned-alike fields asked a b keeps row alike =
    ap (λ (result : Result (Option Row) Fault). if keeps row.position then result else Ok None)
    (ap (λ (names : List (List ℕ)). row_of_values (scan_with fields asked a) row (used_values (map (λ (field : Field). is_kept asked.columns field.name || stands_in field.name names) fields) row.cells)) alike.names
    ∙ by (used_values (used_columns (scan_with fields asked b)) row.cells))
  where
    by : (found : Option Row) → row_of_values (scan_with fields asked a) row found ≡ row_of_values (scan_with fields asked b) row found
    by None = refl
    by (Some values) = ap (λ (test : Bool). if index_fits asked.row_index row.position
        then Ok (if test then Some (output_row (scan_with fields asked a) row) else None)
        else Err (ComputeError kinds.IndexTooLarge 4294967295 0)) (alike.passing (whole_fields (scan_with fields asked a)) (whole_row (scan_with fields asked a) row))

gathered-alike : {A B E : Type 0} (f g : A → Result (Option B) E) → ((x : A) → f x ≡ g x) → (xs : List A) → gathered f xs ≡ gathered g xs
gathered-alike f g same [] = refl
gathered-alike f g same (x ∷ xs) = ap (λ first. gathered_then first (gathered f xs)) (same x) ∙ ap (gathered_then (g x)) (gathered-alike f g same xs)

source-alike : (fields : List Field) (asked : FileOptions) (a b : Option PredNode) (keeps : ℕ → Bool) (position : ℕ) (source : SourceRows) → FilterAlike a b
    → scanned_source (scan_with fields asked a) keeps position source ≡ scanned_source (scan_with fields asked b) keeps position source
source-alike fields asked a b keeps position source alike = ap (ended_by source.fault)
    (gathered-alike (scanned (scan_with fields asked a) keeps) (scanned (scan_with fields asked b) keeps) (λ row. scanned-alike fields asked a b keeps row alike)
    (placed position source.file source.name source.rows))

sources-alike : (fields : List Field) (asked : FileOptions) (a b : Option PredNode) (keeps : ℕ → Bool) (position : ℕ) (sources : List SourceRows) → FilterAlike a b
    → scanned_sources (scan_with fields asked a) keeps position sources ≡ scanned_sources (scan_with fields asked b) keeps position sources
sources-alike fields asked a b keeps position [] alike = refl
sources-alike fields asked a b keeps position (source ∷ sources) alike =
    ap (λ first. followed_by first (scanned_sources (scan_with fields asked a) keeps (position + length source.rows) sources)) (source-alike fields asked a b keeps position source alike)
    ∙ ap (followed_by (scanned_source (scan_with fields asked b) keeps position source)) (sources-alike fields asked a b keeps (position + length source.rows) sources alike)

-- what is read of files has nothing of a filter
read-alike : (fields : List Field) (asked : FileOptions) (options : Dialect) (a b : Option PredNode) (first : ℕ) (names files : List (List ℕ))
    → csv_sources (record { scan = scan_with fields asked a; options = options }) first names files ≡ csv_sources (record { scan = scan_with fields asked b; options = options }) first names files
read-alike fields asked options a b first [] files = refl
read-alike fields asked options a b first (name ∷ names) [] = refl
read-alike fields asked options a b first (name ∷ names) (bytes ∷ files) =
    ap (λ (sources : List SourceRows). csv_source (record { scan = scan_with fields asked a; options = options }) first name bytes ∷ sources) (read-alike fields asked options a b (first + 1) names files)

rows-alike : (fields : List Field) (asked : FileOptions) (options : Dialect) (a b : Option PredNode) (first : ℕ) (names files : List (List ℕ)) → FilterAlike a b
    → csv_scan_rows (record { scan = scan_with fields asked a; options = options }) first names files ≡ csv_scan_rows (record { scan = scan_with fields asked b; options = options }) first names files
rows-alike fields asked options a b first names files alike =
    ap (scan_rows (scan_with fields asked a)) (read-alike fields asked options a b first names files)
    ∙ sources-alike fields asked a b (slice_keeps asked.slice (total_rows sources)) 0 sources alike
  where
    sources : List SourceRows
    sources = csv_sources (record { scan = scan_with fields asked b; options = options }) first names files

-- files of a format, and what is asked of them, with this filter
abbrev files_with : List (List ℕ) → FileFormat → FileOptions → Option PredNode → FileScan
files_with sources format asked filter = record { sources = sources; format = format; asked = asked; filter = filter }

-- two scans are of the same sources, with the same fault, columns, rows and numbers of rows, and of one format
record ScansAlike (a b : FileScan) : Type 0 where
  pub sources : a.sources ≡ b.sources
  pub fault : side_fault a.format (scan_asked a) ≡ side_fault b.format (scan_asked b)
  pub fields : fields_of_scan a ≡ fields_of_scan b
  pub rows : (first : ℕ) (files : List (List ℕ)) → rows_over a first files ≡ rows_over b first files
  pub heights : (first : ℕ) (files : List (List ℕ)) → height_over a first files ≡ height_over b first files
  pub of_format : (files : List (List ℕ)) → AreOfFormat a.format files → AreOfFormat b.format files

alike_with : (sources : List (List ℕ)) (format : FileFormat) (asked : FileOptions) (a b : Option PredNode) → FilterAlike a b → ScansAlike (files_with sources format asked a) (files_with sources format asked b)
alike_with sources (CsvFiles fields options) asked a b alike = record {
  sources = refl;
  fault = ap (λ (flaw : Option Fault). first_fault (first_fault (repeat_fault (whole_fields (scan_with fields asked a))) (first_fault (choice_flaw fields asked.columns) flaw)) (slice_fault asked.slice))
      (alike.flaws (whole_fields (scan_with fields asked a)));
  fields = refl;
  rows = λ first files. rows-alike fields asked options a b first sources files alike;
  heights = λ first files. ap total_rows (read-alike fields asked options a b first sources files);
  of_format = λ files is. is;
}

-- the sides of two queries are of the same fault, columns and rows, and of one format
record SidesAlike (left other : FileScan) (join more : Option JoinPart) : Type 0 where
  pub fault : fault_by left join ≡ fault_by other more
  pub fields : fields_of_input left join ≡ fields_of_input other more
  pub of_format : (files : List (List ℕ)) → EachSide (λ scan first bytes. AreOfFormat scan.format bytes) left join files → EachSide (λ scan first bytes. AreOfFormat scan.format bytes) other more files
  pub few : (files : List (List ℕ)) → EachSide (λ scan first bytes. height_over scan first bytes ≤ 4294967295) left join files
      → EachSide (λ scan first bytes. height_over scan first bytes ≤ 4294967295) other more files
  pub means : (files : List (List ℕ)) (rows : List Row) → MeansBy left join files rows → MeansBy other more files rows

sides_alone : (a b : FileScan) → ScansAlike a b → SidesAlike a b None None
sides_alone a b alike = record {
  fault = alike.fault;
  fields = alike.fields;
  of_format = λ files are. alike.of_format files are;
  few = λ files are. subst (λ (n : ℕ). n ≤ 4294967295) (alike.heights 0 files) are;
  means = λ files rows are. sym (alike.rows 0 files) ∙ are;
}

-- a join of the same keys, and with the same asked of it, with another right side
abbrev join_with : JoinPart → FileScan → JoinHow → JoinPart
join_with join right how = record { right = right; left_keys = join.left_keys; right_keys = join.right_keys; args = join.args; how = how }

joined_alike : (left other : FileScan) (join : JoinPart) (scan : FileScan) (how : JoinHow) (lefts rights rows : List Row) → fields_of_scan left ≡ fields_of_scan other → fields_of_scan join.right ≡ fields_of_scan scan
    → AreJoinRows left join lefts rights rows → AreJoinRows other (join_with join scan how) lefts rights rows
joined_alike left other join scan how lefts rights rows one two joined = record {
  items = joined.items;
  once = subst (λ (xs : List Field). JoinItems join.args.how (rows_match join.args.join_nulls (key_places xs join.left_keys) (key_places (fields_of_scan scan) join.right_keys)) lefts rights joined.items) one
      (subst (λ (xs : List Field). JoinItems join.args.how (rows_match join.args.join_nulls (key_places (fields_of_scan left) join.left_keys) (key_places xs join.right_keys)) lefts rights joined.items) two joined.once);
  promised = joined.promised;
  rows_are = joined.rows_are
      ∙ ap (λ (xs : List Field). map (item_row (join_columns join.args xs (fields_of_scan join.right) join.left_keys join.right_keys) lefts rights) joined.items) one
      ∙ ap (λ (xs : List Field). map (item_row (join_columns join.args (fields_of_scan other) xs join.left_keys join.right_keys) lefts rights) joined.items) two;
}

join_fault_alike : (left other : FileScan) (join : JoinPart) (scan : FileScan) (how : JoinHow) → fields_of_scan left ≡ fields_of_scan other → ScansAlike join.right scan
    → join_fault (fields_of_scan left) join ≡ join_fault (fields_of_scan other) (join_with join scan how)
join_fault_alike left other join scan how one right =
    ap (λ (fault : Option Fault). first_fault fault (join_flaw join.args (fields_of_scan left) (fields_of_scan join.right) join.left_keys join.right_keys)) right.fault
    ∙ ap (λ (xs : List Field). first_fault (side_fault scan.format (scan_asked scan)) (join_flaw join.args xs (fields_of_scan join.right) join.left_keys join.right_keys)) one
    ∙ ap (λ (xs : List Field). first_fault (side_fault scan.format (scan_asked scan)) (join_flaw join.args (fields_of_scan other) xs join.left_keys join.right_keys)) right.fields

fields_alike : (left other : FileScan) (join : JoinPart) (scan : FileScan) (how : JoinHow) → fields_of_scan left ≡ fields_of_scan other → fields_of_scan join.right ≡ fields_of_scan scan
    → fields_of_join (fields_of_scan left) join ≡ fields_of_join (fields_of_scan other) (join_with join scan how)
fields_alike left other join scan how one two =
    ap (λ (xs : List Field). join_fields join.args xs (fields_of_scan join.right) join.left_keys join.right_keys) one
    ∙ ap (λ (xs : List Field). join_fields join.args (fields_of_scan other) xs join.left_keys join.right_keys) two

sides_joined : (left other : FileScan) (join : JoinPart) (scan : FileScan) (how : JoinHow) → ScansAlike left other → ScansAlike join.right scan
    → SidesAlike left other (Some join) (Some (join_with join scan how))
sides_joined left other join scan how alike right = record {
  fault = ap (λ (fault : Option Fault). first_fault fault (join_fault (fields_of_scan left) join)) alike.fault
      ∙ ap (first_fault (side_fault other.format (scan_asked other))) (join_fault_alike left other join scan how alike.fields right);
  fields = fields_alike left other join scan how alike.fields right.fields;
  of_format = λ files are. (
    subst (λ (n : ℕ). AreOfFormat other.format (take n files)) count (alike.of_format (left_files left files) are.0),
    subst (λ (n : ℕ). AreOfFormat scan.format (drop n files)) count (right.of_format (right_files left files) are.1),
  );
  few = λ files are. (
    subst (λ (n : ℕ). height_over other 0 (take n files) ≤ 4294967295) count (subst (λ (n : ℕ). n ≤ 4294967295) (alike.heights 0 (left_files left files)) are.0),
    subst (λ (n : ℕ). height_over scan n (drop n files) ≤ 4294967295) count (subst (λ (n : ℕ). n ≤ 4294967295) (right.heights (length left.sources) (right_files left files)) are.1),
  );
  means = λ files rows is. record {
    lefts = is.lefts;
    rights = is.rights;
    left_rows = subst (λ (n : ℕ). rows_over other 0 (take n files) ≡ Ok is.lefts) count (sym (alike.rows 0 (left_files left files)) ∙ is.left_rows);
    right_rows = subst (λ (n : ℕ). rows_over scan n (drop n files) ≡ Ok is.rights) count (sym (right.rows (length left.sources) (right_files left files)) ∙ is.right_rows);
    joined = joined_alike left other join scan how is.lefts is.rights rows alike.fields right.fields is.joined;
  };
}
  where
    count : length left.sources ≡ length other.sources
    count = ap length alike.sources

-- options of CSV texts that are written alike are the same
csv_alike : (a b : Dialect) → csv_written a ≡ csv_written b → a ≡ b
csv_alike a b is = grind (arith, common_steps, is)

format_alike : (a b : FileFormat) → format_written a ≡ format_written b → a ≡ b
format_alike (CsvFiles fields options) (CsvFiles others more) is =
    let same : fields ≡ others = cc in
    let written : csv_written options ≡ csv_written more = cc in
    ap (λ (all : List Field). CsvFiles all options) same ∙ ap (CsvFiles others) (csv_alike options more written)

-- what is asked of files, where it is written alike
asked_alike : (a b : FileScan) → scan_written a ≡ scan_written b → a.asked ≡ b.asked
asked_alike a b is = grind (arith, common_steps, is)

-- scans that are written alike
scans_alike : (a b : FileScan) → scan_written a ≡ scan_written b → ScansAlike a b
scans_alike a b is =
    subst (λ (asked : FileOptions). ScansAlike a (files_with b.sources b.format asked b.filter)) (asked_alike a b is)
    (subst (λ (format : FileFormat). ScansAlike a (files_with b.sources format a.asked b.filter)) (format_alike a.format b.format (ap (λ (w : WrittenScan). w.format) is))
    (subst (λ (sources : List (List ℕ)). ScansAlike a (files_with sources a.format a.asked b.filter)) (ap (λ (w : WrittenScan). w.files) is)
    (alike_with a.sources a.format a.asked a.filter b.filter (filter_alike a.filter b.filter (ap (λ (w : WrittenScan). w.filter) is)))))

-- sides of joins that are written alike
joins_alike : (left other : FileScan) (join more : JoinPart) → ScansAlike left other → join_written join ≡ join_written more → SidesAlike left other (Some join) (Some more)
joins_alike left other join more alike is =
    subst (λ (args : JoinArgs). SidesAlike left other (Some join) (Some (record { right = more.right; left_keys = more.left_keys; right_keys = more.right_keys; args = args; how = more.how }))) (ap (λ (w : WrittenJoin). w.args) is)
    (subst (λ (keys : List (List ℕ)). SidesAlike left other (Some join) (Some (record { right = more.right; left_keys = more.left_keys; right_keys = keys; args = join.args; how = more.how }))) (ap (λ (w : WrittenJoin). w.right_keys) is)
    (subst (λ (keys : List (List ℕ)). SidesAlike left other (Some join) (Some (record { right = more.right; left_keys = keys; right_keys = join.right_keys; args = join.args; how = more.how }))) (ap (λ (w : WrittenJoin). w.left_keys) is)
    (sides_joined left other join more.right more.how alike (scans_alike join.right more.right (ap (λ (w : WrittenJoin). w.right) is)))))

-- sides that are written alike
sides_alike : (left other : FileScan) (join more : Option JoinPart) → scan_written left ≡ scan_written other → option_map join_written join ≡ option_map join_written more → SidesAlike left other join more
sides_alike left other None None is joins = sides_alone left other (scans_alike left other is)
sides_alike left other None (Some more) is joins = absurd (cc)
sides_alike left other (Some join) None is joins = absurd (cc)
sides_alike left other (Some join) (Some more) is joins = let written : join_written join ≡ join_written more = cc in joins_alike left other join more (scans_alike left other is) written

fault_alike : (left other : FileScan) (join more : Option JoinPart) (group : Option GroupAsked) → SidesAlike left other join more → fault_with left join group ≡ fault_with other more group
fault_alike left other join more None alike = alike.fault
fault_alike left other join more (Some asked) alike =
    ap (λ (fault : Option Fault). first_fault fault (group_flaw (fields_of_input left join) asked)) alike.fault
    ∙ ap (λ (fields : List Field). first_fault (fault_by other more) (group_flaw fields asked)) alike.fields

means_alike : (left other : FileScan) (join more : Option JoinPart) (group : Option GroupAsked) (files : List (List ℕ)) (rows : List Row) → SidesAlike left other join more
    → MeansWith left join group files rows → MeansWith other more group files rows
means_alike left other join more None files rows alike is = alike.means files rows is
means_alike left other join more (Some asked) files rows alike is = record {
  input = is.input;
  means = alike.means files is.input is.means;
  grouped = subst (λ (fields : List Field). Grouped (shape_of fields asked) is.input rows) alike.fields is.grouped;
}

fit_alike : (left other : FileScan) (join more : Option JoinPart) (group : Option GroupAsked) (files : List (List ℕ)) → SidesAlike left other join more → SidesAlike other left more join
    → GroupsFit left join group files → GroupsFit other more group files
fit_alike left other join more None files alike back fit = tt
fit_alike left other join more (Some asked) files alike back fit =
    λ input is. subst (λ (fields : List Field). FitsGroups (shape_of fields asked) input) alike.fields (fit input (back.means files input is))

-- queries of sides that are alike, and of one group-by
valid_with : (a b : QueryParts) (files : List (List ℕ)) → SidesAlike a.left b.left a.join b.join → SidesAlike b.left a.left b.join a.join → a.group ≡ b.group → IsValid a files → IsValid b files
valid_with a b files alike back group valid = record {
  planned = ap (fault_with b.left b.join) (sym group) ∙ sym (fault_alike a.left b.left a.join b.join a.group alike) ∙ valid.planned;
  of_format = alike.of_format files valid.of_format;
  few = alike.few files valid.few;
  groups_fit = subst (λ (asked : Option GroupAsked). GroupsFit b.left b.join asked files) group (fit_alike a.left b.left a.join b.join a.group files alike back valid.groups_fit);
  rows = valid.rows;
  means = subst (λ (asked : Option GroupAsked). MeansWith b.left b.join asked files valid.rows) group (means_alike a.left b.left a.join b.join a.group files valid.rows alike valid.means);
}

-- queries that are written alike are valid over the same files
pub valid_alike : (a b : QueryParts) (options others : RunOptions) (files : List (List ℕ)) → query_written a options ≡ query_written b others → IsValid a files → IsValid b files
valid_alike a b options others files is valid =
    let left = ap (λ (w : WrittenQuery). w.left) is in
    let join = ap (λ (w : WrittenQuery). w.join) is in
    valid_with a b files (sides_alike a.left b.left a.join b.join left join) (sides_alike b.left a.left b.join a.join (sym left) (sym join)) (ap (λ (w : WrittenQuery). w.group) is) valid
