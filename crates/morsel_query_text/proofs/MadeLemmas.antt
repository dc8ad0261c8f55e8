-- A query as it is made of what its text has, and why it is not.
use Rattle.std.proofs.Common.{◌≡◌, ℕ, List, [], ◌∷◌, map, Option, Some, None, Result, Ok, Err, refl, ap, ap₂, sym, subst, ◌∙◌, option_map}
use Rattle.std.specs.Option.{option_or}
use Rattle.std.specs.Prelude.{IfOk, IfErr}
use Rattle.morsel_meaning.specs.declared.fault.Fault.{Fault}
use Rattle.morsel_meaning.specs.declared.fault.Fault.TheVariants as faults
use Rattle.morsel_meaning.specs.declared.fault.Why.{Why}
use Rattle.morsel_group.specs.Asked.{GroupAsked}
use Rattle.morsel_frame.specs.Refusals.{Refuses, fault_of_repeat}
use Rattle.morsel_query.specs.RunOptions.{RunOptions}
use Rattle.morsel_query.specs.Queries.{FileFormat, CsvFiles, FileScan, JoinPart, QueryParts}
use Rattle.morsel_query.specs.QueryFlaws.{Side, JoinKeys, columns_given, side_of, right_sides, sides_of, keys_of, keys_of_query, keys_of_group, IsFlaw, IsFlawFault}
use Rattle.morsel_sink.specs.declared.spec.SinkFormat.{SinkFormat}
use Rattle.morsel_sink.specs.declared.spec.SinkSpec.{SinkSpec}
use Rattle.morsel_query_text.specs.Written.{WrittenScan, WrittenJoin, WrittenQuery, format_written, scan_written, join_written, sink_written, query_written}
use Rattle.morsel_query_text.specs.TextFlaws.{columns_written, side_written, sides_written, right_scans, keys_in, HasTextFlaw, IsFlawless, name_repeated}
use Rattle.morsel_query_text.specs.Answers.{IsMadeOf, IsMadeOfParts, RefusesFlaw, RefusesMade}
use Rattle.morsel_query_text.proofs.FlawLemmas.{side_flaw_is}

-- ---- the answer

-- a flaw comes first
pub refused_early : (query : WrittenQuery) (out : List ℕ) (fault : Fault) → RefusesFlaw query out fault → RefusesMade query out fault
refused_early query out faults.OutOfMemory refused = tt
refused_early query out (faults.InvalidQuery why) refused = refused
refused_early query out (faults.Duplicate name) refused = absurd refused
refused_early query out faults.QueryText refused = refused
refused_early query out (faults.ReadFault file) refused = refused
refused_early query out faults.WriteFault refused = refused
refused_early query out (faults.Malformed file at) refused = refused
refused_early query out (faults.Unsupported file code) refused = refused
refused_early query out (faults.ColumnNotFound name) refused = refused
refused_early query out (faults.SchemaMismatch name) refused = refused
refused_early query out (faults.ComputeError kind file at) refused = refused
refused_early query out faults.Usage refused = refused

late_by : (T : Type 0) (query : WrittenQuery) (out : List ℕ) (told : Option (List ℕ)) (fault : Fault) → IsFlawless query out → name_repeated query ≡ told
    → Refuses {T = T} (fault_of_repeat told) (Err fault) → RefusesMade query out fault
late_by T query out told faults.OutOfMemory flawless is refused = tt
late_by T query out None (faults.Duplicate name) flawless is refused = cc
late_by T query out (Some first) (faults.Duplicate name) flawless is refused = let same : first ≡ name = cc in (flawless, is ∙ ap (λ (n : List ℕ). Some n) same)
late_by T query out None (faults.InvalidQuery why) flawless is refused = cc
late_by T query out (Some first) (faults.InvalidQuery why) flawless is refused = cc
late_by T query out None faults.QueryText flawless is refused = cc
late_by T query out (Some first) faults.QueryText flawless is refused = cc
late_by T query out None (faults.ReadFault file) flawless is refused = cc
late_by T query out (Some first) (faults.ReadFault file) flawless is refused = cc
late_by T query out None faults.WriteFault flawless is refused = cc
late_by T query out (Some first) faults.WriteFault flawless is refused = cc
late_by T query out None (faults.Malformed file at) flawless is refused = cc
late_by T query out (Some first) (faults.Malformed file at) flawless is refused = cc
late_by T query out None (faults.Unsupported file code) flawless is refused = cc
late_by T query out (Some first) (faults.Unsupported file code) flawless is refused = cc
late_by T query out None (faults.ColumnNotFound name) flawless is refused = cc
late_by T query out (Some first) (faults.ColumnNotFound name) flawless is refused = cc
late_by T query out None (faults.SchemaMismatch name) flawless is refused = cc
late_by T query out (Some first) (faults.SchemaMismatch name) flawless is refused = cc
late_by T query out None (faults.ComputeError kind file at) flawless is refused = cc
late_by T query out (Some first) (faults.ComputeError kind file at) flawless is refused = cc
late_by T query out None faults.Usage flawless is refused = cc
late_by T query out (Some first) faults.Usage flawless is refused = cc

-- a name that is twice comes after all flaws
pub refused_late : (T : Type 0) (query : WrittenQuery) (out : List ℕ) (fault : Fault) → IsFlawless query out → Refuses {T = T} (fault_of_repeat (name_repeated query)) (Err fault)
    → RefusesMade query out fault
refused_late T query out fault flawless refused = late_by T query out (name_repeated query) fault flawless refl refused

-- what is made of parts without flaws
pub made_of : (written : WrittenQuery) (out : List ℕ) (query : QueryParts) (options : RunOptions) → IsFlawless written out → IsMadeOfParts written out query options → IsMadeOf written out query options
made_of written out query options flawless made = record { text = made.text; sink = made.sink; flawless = flawless; distinct = made.distinct }

-- ---- names that are twice

-- the first schema comes first
pub repeat_first : (T U : Type 0) (first second : Option (List ℕ)) (fault : Fault) → Refuses {T = T} (fault_of_repeat first) (Err fault) → Refuses {T = U} (fault_of_repeat (option_or first second)) (Err fault)
repeat_first T U None second faults.OutOfMemory refused = tt
repeat_first T U (Some name) second faults.OutOfMemory refused = tt
repeat_first T U None second faults.QueryText refused = cc
repeat_first T U (Some name) second faults.QueryText refused = refused
repeat_first T U None second (faults.ReadFault file) refused = cc
repeat_first T U (Some name) second (faults.ReadFault file) refused = refused
repeat_first T U None second faults.WriteFault refused = cc
repeat_first T U (Some name) second faults.WriteFault refused = refused
repeat_first T U None second (faults.Malformed file at) refused = cc
repeat_first T U (Some name) second (faults.Malformed file at) refused = refused
repeat_first T U None second (faults.Unsupported file code) refused = cc
repeat_first T U (Some name) second (faults.Unsupported file code) refused = refused
repeat_first T U None second (faults.ColumnNotFound name) refused = cc
repeat_first T U (Some name) second (faults.ColumnNotFound other) refused = refused
repeat_first T U None second (faults.SchemaMismatch name) refused = cc
repeat_first T U (Some name) second (faults.SchemaMismatch other) refused = refused
repeat_first T U None second (faults.ComputeError kind file at) refused = cc
repeat_first T U (Some name) second (faults.ComputeError kind file at) refused = refused
repeat_first T U None second faults.Usage refused = cc
repeat_first T U (Some name) second faults.Usage refused = refused
repeat_first T U None second (faults.Duplicate other) refused = cc
repeat_first T U (Some name) second (faults.Duplicate other) refused = refused
repeat_first T U None second (faults.InvalidQuery why) refused = cc
repeat_first T U (Some name) second (faults.InvalidQuery why) refused = refused

-- a call that fails says the same whatever it would have given
other_type : (T U : Type 0) (due : Option Fault) (fault : Fault) → Refuses {T = T} due (Err fault) → Refuses {T = U} due (Err fault)
other_type T U due faults.OutOfMemory refused = tt
other_type T U due faults.QueryText refused = refused
other_type T U due (faults.ReadFault file) refused = refused
other_type T U due faults.WriteFault refused = refused
other_type T U due (faults.InvalidQuery why) refused = refused
other_type T U due (faults.Malformed file at) refused = refused
other_type T U due (faults.Unsupported file code) refused = refused
other_type T U due (faults.ColumnNotFound name) refused = refused
other_type T U due (faults.SchemaMismatch name) refused = refused
other_type T U due (faults.Duplicate name) refused = refused
other_type T U due (faults.ComputeError kind file at) refused = refused
other_type T U due faults.Usage refused = refused

-- where the first schema has no name twice, the second one tells why a call fails
pub repeat_later : (T U : Type 0) (first second : Option (List ℕ)) (fault : Fault) → fault_of_repeat first ≡ None → Refuses {T = T} (fault_of_repeat second) (Err fault)
    → Refuses {T = U} (fault_of_repeat (option_or first second)) (Err fault)
repeat_later T U None second fault is refused = other_type T U (fault_of_repeat second) fault refused
repeat_later T U (Some name) second fault is refused = absurd (cc)

no_repeat : (told : Option (List ℕ)) → fault_of_repeat told ≡ None → told ≡ None
no_repeat None is = refl
no_repeat (Some name) is = cc

-- two schemas without a name twice
pub none_twice : (first second : Option (List ℕ)) → fault_of_repeat first ≡ None → fault_of_repeat second ≡ None → fault_of_repeat (option_or first second) ≡ None
none_twice None second is later = later
none_twice (Some name) second is later = absurd (cc)

-- schemas without a name twice
pub none_repeated : (query : WrittenQuery) → fault_of_repeat (name_repeated query) ≡ None → name_repeated query ≡ None
none_repeated query is = no_repeat (name_repeated query) is

-- ---- the text

-- a query is written as its parts are
pub made_text : (query : QueryParts) (left : FileScan) (join : Option JoinPart) (group : Option GroupAsked) (sink : SinkSpec) (options : RunOptions) (written : WrittenScan) (joined : Option WrittenJoin)
    (format : SinkFormat) → query ≡ record { left = left; join = join; group = group; sink = sink } → scan_written left ≡ written → option_map join_written join ≡ joined → sink.format ≡ format
    → query_written query options ≡ record { left = written; join = joined; group = group; sink = sink_written format; options = options }
made_text query left join group sink options written joined format is a b c =
    ap (λ (q : QueryParts). query_written q options) is
    ∙ ap (λ (w : WrittenScan). record { left = w; join = option_map join_written join; group = group; sink = sink_written sink.format; options = options }) a
    ∙ ap (λ (j : Option WrittenJoin). record { left = written; join = j; group = group; sink = sink_written sink.format; options = options }) b
    ∙ ap (λ (f : SinkFormat). record { left = written; join = joined; group = group; sink = sink_written f; options = options }) c

side_by : (sources : List (List ℕ)) (format : FileFormat) → ◌≡◌ {A = Side} (record { sources = sources; columns = columns_written (format_written format) }) (record { sources = sources; columns = columns_given format })
side_by sources (CsvFiles fields options) = refl

side_is : (scan : FileScan) → side_written (scan_written scan) ≡ side_of scan
side_is scan = side_by scan.sources scan.format

sides_are : (left : FileScan) (join : Option JoinPart) → side_written (scan_written left) ∷ map side_written (right_scans (option_map join_written join)) ≡ side_of left ∷ right_sides join
sides_are left None = ap (λ (s : Side). s ∷ []) (side_is left)
sides_are left (Some join) = ap₂ (λ (a b : Side). a ∷ b ∷ []) (side_is left) (side_is join.right)

keys_are : (join : Option JoinPart) → option_map keys_in (option_map join_written join) ≡ option_map keys_of join
keys_are None = refl
keys_are (Some join) = refl

flaw_written : (query : QueryParts) (options : RunOptions) (why : Why) → IsFlaw (sides_of query) (keys_of_query query) (keys_of_group query.group) query.sink.name why → HasTextFlaw (query_written query options) query.sink.name why
flaw_written query options why flaw =
    side_flaw_is (query_written query options) query.sink.name why
    (subst (λ (keys : Option JoinKeys). IsFlaw (sides_written (query_written query options)) keys (keys_of_group query.group) query.sink.name why) (sym (keys_are query.join))
    (subst (λ (sides : List Side). IsFlaw sides (keys_of_query query) (keys_of_group query.group) query.sink.name why) (sym (sides_are query.left query.join)) flaw))

no_flaw : (query : QueryParts) (options : RunOptions) (fault : Fault) → IsFlawless (query_written query options) query.sink.name → IsFlawFault query fault → ⊥
no_flaw query options (faults.InvalidQuery why) flawless flaw = flawless why (flaw_written query options why flaw)
no_flaw query options faults.OutOfMemory flawless flaw = flaw
no_flaw query options (faults.Duplicate name) flawless flaw = flaw
no_flaw query options faults.QueryText flawless flaw = flaw
no_flaw query options (faults.ReadFault file) flawless flaw = flaw
no_flaw query options faults.WriteFault flawless flaw = flaw
no_flaw query options (faults.Malformed file at) flawless flaw = flaw
no_flaw query options (faults.Unsupported file code) flawless flaw = flaw
no_flaw query options (faults.ColumnNotFound name) flawless flaw = flaw
no_flaw query options (faults.SchemaMismatch name) flawless flaw = flaw
no_flaw query options (faults.ComputeError kind file at) flawless flaw = flaw
no_flaw query options faults.Usage flawless flaw = flaw

-- parts that are written without flaws are a query
pub never_refused : (query : QueryParts) (options : RunOptions) (written : WrittenQuery) (out : List ℕ) (fault : Fault) → query_written query options ≡ written → query.sink.name ≡ out → IsFlawless written out
    → IsFlawFault query fault → ⊥
never_refused query options written out fault text name flawless flaw =
    no_flaw query options fault
    (subst (λ (w : WrittenQuery). IsFlawless w query.sink.name) (sym text) (subst (IsFlawless written) (sym name) flawless))
    flaw

-- what is made of a text without flaws is made of the text
pub made_ok : (result : Result (QueryParts × RunOptions) Fault) (flawless text : WrittenQuery) (out : List ℕ) → flawless ≡ text → IsFlawless text out
    → IfOk result (λ pair. IsMadeOfParts flawless out pair.0 pair.1) → IfOk result (λ pair. IsMadeOf text out pair.0 pair.1)
made_ok (Ok pair) flawless text out same none made = made_of text out pair.0 pair.1 none (subst (λ (w : WrittenQuery). IsMadeOfParts w out pair.0 pair.1) same made)
made_ok (Err fault) flawless text out same none made = tt

-- and what is refused then is refused of the text
pub made_err : (result : Result (QueryParts × RunOptions) Fault) (flawless text : WrittenQuery) (out : List ℕ) → flawless ≡ text → IsFlawless text out
    → Refuses (fault_of_repeat (name_repeated flawless)) result → IfErr result (RefusesMade text out)
made_err (Ok pair) flawless text out same none refused = tt
made_err (Err fault) flawless text out same none refused =
    refused_late (QueryParts × RunOptions) text out fault none (subst (λ (w : WrittenQuery). Refuses {T = QueryParts × RunOptions} (fault_of_repeat (name_repeated w)) (Err fault)) same refused)
