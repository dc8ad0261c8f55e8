-- Which query the bytes of a query file are, and why they may be refused.
use Rattle.std.specs.Prelude.{◌≡◌, ℕ, ◌≤◌, IsUtf8, Some, None, List, length}
use Rattle.serde_json.specs.Data.{Data}
use Rattle.serde_json.specs.Read.{read}
use Rattle.morsel_meaning.specs.declared.fault.Fault.{Fault}
use Rattle.morsel_meaning.specs.declared.fault.Fault.TheVariants as faults
use Rattle.morsel_query.specs.Queries.{QueryParts}
use Rattle.morsel_query.specs.RunOptions.{RunOptions}
use Rattle.morsel_query_text.specs.Written.{WrittenQuery, query_written}
use Rattle.morsel_query_text.specs.QueryTexts.{QueryOf}
use Rattle.morsel_query_text.specs.TextFlaws.{HasTextFlaw, IsFlawless, name_repeated}

-- how many bytes the text of a query may have
abbrev pub most_query_bytes : ℕ
most_query_bytes = 1048576

-- the bytes are the text of this query: not too many, UTF-8, and JSON that `serde_json` reads as a tree that is the query
pub record IsTextOf (bytes : List ℕ) (query : WrittenQuery) : Type 0 where
  pub few : length bytes ≤ most_query_bytes
  pub utf8 : IsUtf8 bytes
  pub tree : Data
  pub json : read bytes ≡ Some tree
  pub is_query : QueryOf tree query

-- the bytes are the text of this query with these options, which has no flaw, and whose sink has this name
pub record IsQueryFile (bytes out : List ℕ) (query : QueryParts) (options : RunOptions) : Type 0 where
  pub text : IsTextOf bytes (query_written query options)
  pub sink : query.sink.name ≡ out
  pub flawless : IsFlawless (query_written query options) out
  pub distinct : name_repeated (query_written query options) ≡ None

-- why bytes are refused, in the order of the faults: they are the text of no query; of one with the flaw that is named; or of one without flaws, and a
-- schema has a name twice
abbrev pub RefusesBytesOf : List ℕ → List ℕ → Fault → Type 0
RefusesBytesOf bytes out faults.QueryText = (query : WrittenQuery) → IsTextOf bytes query → ⊥
RefusesBytesOf bytes out (faults.InvalidQuery why) = (query : WrittenQuery) × IsTextOf bytes query × HasTextFlaw query out why
RefusesBytesOf bytes out (faults.Duplicate name) = (query : WrittenQuery) × IsTextOf bytes query × IsFlawless query out × (name_repeated query ≡ Some name)
RefusesBytesOf bytes out fault = ⊥
