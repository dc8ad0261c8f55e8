-- What a parse answers.
use Rattle.std.specs.Prelude.{◌≡◌, Option, Some, None, Result, Ok, Err, List, Vec}
use Rattle.std.specs.declared.alloc.Global.{Global}
use Rattle.morsel_meaning.specs.declared.fault.Fault.{Fault}
use Rattle.morsel_prog.specs.declared.words.CommandWords.{CommandWords}
use Rattle.morsel_prog.specs.declared.words.CommandWords.TheVariants as words
use Rattle.morsel_prog.specs.Words.{Command, ScanFile, AnswerQuery}
use Rattle.morsel_meaning.specs.declared.fault.Fault.TheVariants.{OutOfMemory, Usage}

-- what was found, or `Usage` where there is nothing to find
abbrev pub Finds : {A : Type 0} → Option A → Result A Fault → Type 0
Finds found (Ok x) = found ≡ Some x
Finds found (Err OutOfMemory) = Unit {0}
Finds found (Err Usage) = found ≡ None
Finds found (Err fault) = ⊥

-- a vector seen as its list
abbrev pub items_of : {A E : Type 0} → Result (Vec A Global) E → Result (List A) E
items_of (Ok v) = Ok v.items
items_of (Err e) = Err e

-- a command as its words have it
abbrev pub command_of_words : CommandWords → Command
command_of_words (words.Scan file schema out) = ScanFile file.now schema out.now
command_of_words (words.Local query out) = AnswerQuery query.now out.now

-- the same of what a parse answers
abbrev pub command_seen : {E : Type 0} → Result CommandWords E → Result Command E
command_seen (Ok c) = Ok (command_of_words c)
command_seen (Err e) = Err e
