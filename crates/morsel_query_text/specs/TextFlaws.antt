-- The flaws of a query as its text has it.
use Rattle.std.specs.Prelude.{◌≡◌, ◌⊎◌, ℕ, ◌<◌, Option, Some, None, option_map, List, [], ◌∷◌, map, length}
use Rattle.std.specs.Option.{option_or}
use Rattle.serde_json.specs.Data.{Data}
use Rattle.morsel_meaning.specs.Values.{names_of}
use Rattle.morsel_meaning.specs.declared.fault.Fault.{Fault}
use Rattle.morsel_meaning.specs.declared.fault.Fault.TheVariants.{OutOfMemory, InvalidQuery}
use Rattle.morsel_meaning.specs.declared.fault.Why.{Why}
use Rattle.morsel_meaning.specs.declared.fault.Why.TheVariants.{OptionRange, ParseBytes, PredDepth}
use Rattle.morsel_frame.specs.Names.{first_repeated}
use Rattle.morsel_grammar.specs.Dialect.{Dialect, IsDialect}
use Rattle.morsel_query.specs.RunOptions.{AreInRange}
use Rattle.morsel_query.specs.QueryFlaws.{Side, JoinKeys, IsFlaw, keys_of_group}
use Rattle.morsel_query_text.specs.Predicates.{tree_levels}
use Rattle.morsel_query_text.specs.Written.{WrittenCsv, WrittenFormat, WrittenCsvFiles, WrittenScan, WrittenJoin, WrittenQuery, csv_written}

-- no options of CSV texts are written so
abbrev pub AreNoBytes : WrittenCsv → Type 0
AreNoBytes csv = (options : Dialect) → IsDialect options → csv ≡ csv_written options → ⊥

-- no options are written so, or memory is out
abbrev pub RefusesBytes : WrittenCsv → Fault → Type 0
RefusesBytes csv OutOfMemory = Unit {0}
RefusesBytes csv (InvalidQuery ParseBytes) = AreNoBytes csv
RefusesBytes csv fault = ⊥

-- how the files are written contradicts itself
abbrev pub HasNoBytes : WrittenFormat → Type 0
HasNoBytes (WrittenCsvFiles fields csv) = AreNoBytes csv

-- a predicate of too many levels
abbrev pub IsTooDeep : Option Data → Type 0
IsTooDeep None = ⊥
IsTooDeep (Some tree) = 128 < tree_levels tree

-- how many columns a query gives its files, where their format asks that
abbrev pub columns_written : WrittenFormat → Option ℕ
columns_written (WrittenCsvFiles fields csv) = Some (length fields)

-- the right scan of a join, where there is one
abbrev pub right_scans : Option WrittenJoin → List WrittenScan
right_scans None = []
right_scans (Some join) = join.right ∷ []

-- the scans of a query, the left one first
abbrev pub scans_written : WrittenQuery → List WrittenScan
scans_written query = query.left ∷ right_scans query.join

-- a scan as a side
abbrev pub side_written : WrittenScan → Side
side_written scan = record { sources = scan.files; columns = columns_written scan.format }

-- the sides of a query, the left one first
abbrev pub sides_written : WrittenQuery → List Side
sides_written query = map side_written (scans_written query)

-- the keys of a join
abbrev pub keys_in : WrittenJoin → JoinKeys
keys_in join = record { left = join.left_keys; right = join.right_keys }

-- the keys of a query's join, where it has one
abbrev pub keys_written : WrittenQuery → Option JoinKeys
keys_written query = option_map keys_in query.join

-- it holds of one of the scans
abbrev pub HasScan : (WrittenScan → Type 0) → List WrittenScan → Type 0
HasScan P [] = ⊥
HasScan P (scan ∷ scans) = P scan ⊎ HasScan P scans

-- the flaw that is named, of a query into a sink of the name `out`
abbrev pub HasTextFlaw : WrittenQuery → List ℕ → Why → Type 0
HasTextFlaw query out OptionRange = AreInRange query.options → ⊥
HasTextFlaw query out ParseBytes = HasScan (λ scan. HasNoBytes scan.format) (scans_written query)
HasTextFlaw query out PredDepth = HasScan (λ scan. IsTooDeep scan.filter) (scans_written query)
HasTextFlaw query out why = IsFlaw (sides_written query) (keys_written query) (keys_of_group query.group) out why

-- a query without flaws
abbrev pub IsFlawless : WrittenQuery → List ℕ → Type 0
IsFlawless query out = (why : Why) → HasTextFlaw query out why → ⊥

-- the first name that the schema of a format has twice
abbrev pub repeat_of_format : WrittenFormat → Option (List ℕ)
repeat_of_format (WrittenCsvFiles fields csv) = first_repeated (names_of fields)

-- the first of these scans whose schema has a name twice, and that name
abbrev pub repeat_of_scans : List WrittenScan → Option (List ℕ)
repeat_of_scans [] = None
repeat_of_scans (scan ∷ scans) = option_or (repeat_of_format scan.format) (repeat_of_scans scans)

-- the first name that a schema of the query has twice
abbrev pub name_repeated : WrittenQuery → Option (List ℕ)
name_repeated query = repeat_of_scans (scans_written query)
