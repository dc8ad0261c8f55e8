-- What a reader answers of a text, in the words of the grammar.
use Rattle.std.specs.Prelude.{◌≡◌, ℕ, Bool, Some, None, Result, Ok, Err, List}
use Rattle.morsel_meaning.specs.declared.fault.Fault.{Fault}
use Rattle.morsel_meaning.specs.declared.fault.Fault.TheVariants as faults
use Rattle.morsel_meaning.specs.declared.value.Field.{Field}
use Rattle.morsel_meaning.specs.Values.{Table, Row, kinds_of}
use Rattle.morsel_grammar.specs.Dialect.{Dialect}
use Rattle.morsel_grammar.specs.Reading.{Refusal, reading, read_of, chosen}
use Rattle.morsel_grammar.specs.Results.{flaw_fault, ReadsRecords}
use Rattle.morsel_grammar.specs.GrammarRows.{RowsOfGrammar}

-- the fault of the first record that the grammar refuses, or at any time out of memory
abbrev pub IsFaultOfGrammar : ℕ → Dialect → List Field → List Bool → Bool → ℕ → List ℕ → Fault → Type 0
IsFaultOfGrammar file o schema used head at text faults.OutOfMemory = Unit {0}
IsFaultOfGrammar file o schema used head at text fault = (refusal : Refusal) × (rows : List Row) × (awaits_header : Bool)
    × (fault ≡ flaw_fault file refusal.at refusal.flaw) × RowsOfGrammar o (kinds_of schema) used head at text rows awaits_header (Some refusal)

-- the rows of the used columns by the grammar and whether the header is still to come, or the fault of the record that it refuses
abbrev pub ReadsOfGrammar : ℕ → Dialect → List Field → List Bool → Bool → ℕ → List ℕ → Result (Table × Bool) Fault → Type 0
ReadsOfGrammar file o schema used head at text (Ok answer) = (answer.0.schema ≡ chosen used schema)
    × RowsOfGrammar o (kinds_of schema) used head at text answer.0.rows answer.1 None
ReadsOfGrammar file o schema used head at text (Err fault) = IsFaultOfGrammar file o schema used head at text fault

-- these rows, or out of memory
abbrev pub IsReadUnlessOutOfMemory : List Row → Bool → Result (Table × Bool) Fault → Type 0
IsReadUnlessOutOfMemory rows awaits_header (Ok answer) = (answer.0.rows ≡ rows) × (answer.1 ≡ awaits_header)
IsReadUnlessOutOfMemory rows awaits_header (Err fault) = fault ≡ faults.OutOfMemory

-- a reader's answer is the grammar's
abbrev pub AnswersByGrammar : Dialect → Type 0
AnswersByGrammar o = (file : ℕ) (schema : List Field) (used : List Bool) (head : Bool) (at : ℕ) (text : List ℕ) (result : Result (Table × Bool) Fault)
    → ReadsRecords file schema used (read_of used (reading o (kinds_of schema) head at text)) result
    → ReadsOfGrammar file o schema used head at text result

-- a reader of a text that has rows by the grammar answers these, unless memory is out
abbrev pub AnswersAllRows : Dialect → Type 0
AnswersAllRows o = (file : ℕ) (schema : List Field) (used : List Bool) (head : Bool) (at : ℕ) (text : List ℕ) (rows : List Row) (awaits_header : Bool) (result : Result (Table × Bool) Fault)
    → ReadsRecords file schema used (read_of used (reading o (kinds_of schema) head at text)) result
    → RowsOfGrammar o (kinds_of schema) used head at text rows awaits_header None → IsReadUnlessOutOfMemory rows awaits_header result
