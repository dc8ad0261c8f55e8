-- What reading a query of a tree answers.
use Rattle.std.specs.Prelude.{◌≡◌, ℕ, Option, Some, None, List}
use Rattle.serde_json.specs.Data.{Data}
use Rattle.morsel_meaning.specs.declared.fault.Fault.{Fault}
use Rattle.morsel_meaning.specs.declared.fault.Fault.TheVariants.{OutOfMemory, QueryText, InvalidQuery, Duplicate}
use Rattle.morsel_meaning.specs.declared.fault.Why.{Why}
use Rattle.morsel_meaning.specs.declared.fault.Why.TheVariants.{ParseBytes, PredDepth}
use Rattle.morsel_query.specs.RunOptions.{RunOptions}
use Rattle.morsel_query.specs.Queries.{QueryParts}
use Rattle.morsel_query_text.specs.Written.{WrittenScan, WrittenJoin, WrittenQuery, query_written}
use Rattle.morsel_query_text.specs.QueryTexts.{QueryOf}
use Rattle.morsel_query_text.specs.TextFlaws.{HasNoBytes, IsTooDeep, HasTextFlaw, IsFlawless, name_repeated}

-- the tree is this query, which has no flaw and whose sink has this name
pub record IsQueryText (tree : Data) (out : List ℕ) (query : QueryParts) (options : RunOptions) : Type 0 where
  pub text : QueryOf tree (query_written query options)
  pub sink : query.sink.name ≡ out
  pub flawless : IsFlawless (query_written query options) out
  pub distinct : name_repeated (query_written query options) ≡ None

-- a fault in its order: the tree is no query; it is one with the flaw that is named; or without flaws, and a schema has a name twice
abbrev pub RefusesText : Data → List ℕ → Fault → Type 0
RefusesText tree out OutOfMemory = Unit {0}
RefusesText tree out QueryText = (query : WrittenQuery) → QueryOf tree query → ⊥
RefusesText tree out (InvalidQuery why) = (query : WrittenQuery) × QueryOf tree query × HasTextFlaw query out why
RefusesText tree out (Duplicate name) = (query : WrittenQuery) × QueryOf tree query × IsFlawless query out × (name_repeated query ≡ Some name)
RefusesText tree out fault = ⊥

-- a query and its options are made of what a text has, which has no flaw
pub record IsMadeOf (written : WrittenQuery) (out : List ℕ) (query : QueryParts) (options : RunOptions) : Type 0 where
  pub text : query_written query options ≡ written
  pub sink : query.sink.name ≡ out
  pub flawless : IsFlawless written out
  pub distinct : name_repeated written ≡ None

-- a fault in its order: the flaw that is named; or without flaws, and a schema has a name twice
abbrev pub RefusesMade : WrittenQuery → List ℕ → Fault → Type 0
RefusesMade written out OutOfMemory = Unit {0}
RefusesMade written out (InvalidQuery why) = HasTextFlaw written out why
RefusesMade written out (Duplicate name) = IsFlawless written out × (name_repeated written ≡ Some name)
RefusesMade written out fault = ⊥

-- the flaw that is named of a scan alone: how its files are written contradicts itself, or its predicate has too many levels
abbrev pub HasReadingFlaw : WrittenScan → Why → Type 0
HasReadingFlaw scan ParseBytes = HasNoBytes scan.format
HasReadingFlaw scan PredDepth = IsTooDeep scan.filter
HasReadingFlaw scan why = ⊥

-- a scan without such flaws
abbrev pub IsReadable : WrittenScan → Type 0
IsReadable scan = (why : Why) → HasReadingFlaw scan why → ⊥

-- such a flaw is told, or memory is out
abbrev pub RefusesReading : WrittenScan → Fault → Type 0
RefusesReading written OutOfMemory = Unit {0}
RefusesReading written (InvalidQuery why) = HasReadingFlaw written why
RefusesReading written fault = ⊥

-- the right side of a join has no such flaws, where there is a join
abbrev pub IsRightReadable : Option WrittenJoin → Type 0
IsRightReadable None = Unit {0}
IsRightReadable (Some join) = IsReadable join.right

-- such a flaw of the right side of a join is told, or memory is out
abbrev pub RefusesRight : Option WrittenJoin → Fault → Type 0
RefusesRight written OutOfMemory = Unit {0}
RefusesRight None fault = ⊥
RefusesRight (Some join) fault = RefusesReading join.right fault

-- a flaw of the query is told, or memory is out
abbrev pub RefusesFlaw : WrittenQuery → List ℕ → Fault → Type 0
RefusesFlaw written out OutOfMemory = Unit {0}
RefusesFlaw written out (InvalidQuery why) = HasTextFlaw written out why
RefusesFlaw written out fault = ⊥

-- a query without flaws, of which a text with these parts is made
pub record IsMadeOfParts (written : WrittenQuery) (out : List ℕ) (query : QueryParts) (options : RunOptions) : Type 0 where
  pub text : query_written query options ≡ written
  pub sink : query.sink.name ≡ out
  pub distinct : name_repeated written ≡ None
