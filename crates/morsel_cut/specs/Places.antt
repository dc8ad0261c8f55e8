-- The places of the code, as the places of the machine.
use Rattle.std.specs.Prelude.{true, false, Option, None, List, [], ℕ}
use Rattle.morsel_grammar.specs.Dialect.{Dialect, options_of}
use Rattle.morsel_grammar.specs.Machine.{CutState, CutPlace, AtOpening, InMarkOne, InMarkTwo, AfterMark, AfterEol, AfterSeparator, InPlain, InQuotes, AfterQuote, AfterReturn, InComment, BrokenQuote}
use Rattle.morsel_cut.specs.declared.step.ByteAt.{ByteAt}
use Rattle.morsel_cut.specs.declared.step.ByteAt.TheVariants as places
use Rattle.morsel_cut.specs.declared.step.Delimiters.{Delimiters}
use Rattle.morsel_cut.specs.declared.prefix.MachineState.{MachineState}

-- the place of the machine
abbrev pub cut_place : ByteAt → CutPlace
cut_place places.AtOpening = AtOpening
cut_place places.InMarkOne = InMarkOne
cut_place places.InMarkTwo = InMarkTwo
cut_place places.AfterMark = AfterMark
cut_place places.AfterEol = AfterEol
cut_place places.AfterSeparator = AfterSeparator
cut_place places.InPlain = InPlain
cut_place places.InQuotes = InQuotes
cut_place places.AfterQuote = AfterQuote
cut_place places.AfterReturn = AfterReturn
cut_place places.InComment = InComment
cut_place places.BrokenQuote = BrokenQuote

-- options with these bytes, and without comments
abbrev pub delimiter_options : Delimiters → Dialect
delimiter_options delimiters = options_of delimiters.separator delimiters.quote delimiters.eol None true [] false

-- up to the next quote, each byte is one of a field without quotes, or ends one
abbrev pub IsOutside : CutPlace → Type 0
IsOutside AfterMark = Unit {0}
IsOutside AfterEol = Unit {0}
IsOutside AfterSeparator = Unit {0}
IsOutside InPlain = Unit {0}
IsOutside place = ⊥

-- options with these bytes and this comment prefix
abbrev pub options_with : Delimiters → Option (List ℕ) → Dialect
options_with delimiters prefix = options_of delimiters.separator delimiters.quote delimiters.eol prefix true [] false

-- the state of the machine
abbrev pub cut_state : MachineState → CutState
cut_state state = record { matched = state.matched; place = cut_place state.place }
