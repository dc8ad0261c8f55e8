-- What a reader answers is what the grammar says.
use Rattle.std.proofs.Common.{◌≡◌, ℕ, ap, sym, subst, refl, ◌∙◌}
use Rattle.std.specs.Prelude.{Bool, Option, Some, None, Result, Ok, Err, List}
use Rattle.morsel_meaning.specs.declared.fault.Fault.{Fault}
use Rattle.morsel_meaning.specs.declared.fault.Fault.TheVariants as faults
use Rattle.morsel_meaning.specs.declared.value.Field.{Field}
use Rattle.morsel_meaning.specs.Values.{Table, Row, kinds_of}
use Rattle.morsel_grammar.specs.Dialect.{Dialect, IsDialect}
use Rattle.morsel_grammar.specs.Reading.{Refusal, Read, reading, read_of}
use Rattle.morsel_grammar.specs.Results.{flaw_fault, refusal_fault, IsRefused, ReadsRecords}
use Rattle.morsel_grammar.specs.GrammarRows.{RowsOfGrammar}
use Rattle.morsel_grammar.specs.GrammarResults.{IsFaultOfGrammar, ReadsOfGrammar, IsReadUnlessOutOfMemory, AnswersByGrammar, AnswersAllRows}
use Rattle.morsel_grammar.proofs.UsedRowLemmas.{values_in, read_of-rows, read_of-ends}

-- the fault of a refusal by the grammar
abbrev FaultBy : ℕ → Dialect → List Field → List Bool → Bool → ℕ → List ℕ → Fault → Type 0
FaultBy file o schema used head at text fault = (refusal : Refusal) × (rows : List Row) × (awaits_header : Bool)
    × (fault ≡ flaw_fault file refusal.at refusal.flaw) × RowsOfGrammar o (kinds_of schema) used head at text rows awaits_header (Some refusal)

by_refusal : (file : ℕ) (o : Dialect) (schema : List Field) (used : List Bool) (head : Bool) (at : ℕ) (text : List ℕ) (rows : List Row) (awaits_header : Bool) (found : Option Refusal) (fault : Fault)
    → RowsOfGrammar o (kinds_of schema) used head at text rows awaits_header found → refusal_fault file found ≡ Some fault → FaultBy file o schema used head at text fault
by_refusal file o schema used head at text rows awaits_header None fault is refused = cc
by_refusal file o schema used head at text rows awaits_header (Some refusal) fault is refused = (refusal, rows, awaits_header, cc, is)

fault_of_grammar : (file : ℕ) (o : Dialect) (schema : List Field) (used : List Bool) (head : Bool) (at : ℕ) (text : List ℕ) (rows : List Row) (awaits_header : Bool) (found : Option Refusal) (fault : Fault)
    → RowsOfGrammar o (kinds_of schema) used head at text rows awaits_header found → IsRefused file found fault → IsFaultOfGrammar file o schema used head at text fault
fault_of_grammar file o schema used head at text rows awaits_header found faults.OutOfMemory is refused = tt
fault_of_grammar file o schema used head at text rows awaits_header found fault is refused = by_refusal file o schema used head at text rows awaits_header found fault is refused

of_grammar : (file : ℕ) (o : Dialect) (schema : List Field) (used : List Bool) (head : Bool) (at : ℕ) (text : List ℕ) (read : Read) (result : Result (Table × Bool) Fault)
    → RowsOfGrammar o (kinds_of schema) used head at text (values_in read.rows) read.head read.refusal → ReadsRecords file schema used read result
    → ReadsOfGrammar file o schema used head at text result
of_grammar file o schema used head at text read (Ok answer) is answers =
    let Refused : Option Refusal → Type 0 = λ x. RowsOfGrammar o (kinds_of schema) used head at text (values_in read.rows) read.head x in
    let RowsAre : List Row → Type 0 = λ x. RowsOfGrammar o (kinds_of schema) used head at text x read.head None in
    let StillIs : Bool → Type 0 = λ x. RowsOfGrammar o (kinds_of schema) used head at text answer.0.rows x None in
    (answers.1, subst StillIs (sym answers.3) (subst RowsAre (sym answers.2) (subst Refused answers.0 is)))
of_grammar file o schema used head at text read (Err fault) is answers =
    fault_of_grammar file o schema used head at text (values_in read.rows) read.head read.refusal fault is answers

pub answers_by_grammar : (o : Dialect) → IsDialect o → AnswersByGrammar o
answers_by_grammar o fit = λ file schema used head at text result answers.
    of_grammar file o schema used head at text (read_of used (reading o (kinds_of schema) head at text)) result (read_of-rows o (kinds_of schema) used head at text fit) answers

no_refusal : (file : ℕ) (found : Option Refusal) (fault : Fault) → found ≡ None → IsRefused file found fault → fault ≡ faults.OutOfMemory
no_refusal file found faults.OutOfMemory none refused = refl
no_refusal file found fault none refused = let never : refusal_fault file None ≡ Some fault = ap (refusal_fault file) (sym none) ∙ refused in cc

all_rows : (file : ℕ) (schema : List Field) (used : List Bool) (read : Read) (rows : List Row) (awaits_header : Bool) (result : Result (Table × Bool) Fault)
    → read.refusal ≡ None → values_in read.rows ≡ rows → read.head ≡ awaits_header → ReadsRecords file schema used read result → IsReadUnlessOutOfMemory rows awaits_header result
all_rows file schema used read rows awaits_header (Ok answer) none same same_awaits_header answers = (answers.2 ∙ same, answers.3 ∙ same_awaits_header)
all_rows file schema used read rows awaits_header (Err fault) none same same_awaits_header answers = no_refusal file read.refusal fault none answers

pub answers_all_rows : (o : Dialect) → IsDialect o → AnswersAllRows o
answers_all_rows o fit = λ file schema used head at text rows awaits_header result answers is.
    let whole = read_of-ends o (kinds_of schema) used head at text is.0 rows awaits_header fit is.1 is.2 in
    all_rows file schema used (read_of used (reading o (kinds_of schema) head at text)) rows awaits_header result whole.0 whole.1 whole.2 answers
