-- The machine that finds where a text may be cut, on worked texts.
use Rattle.std.proofs.Common.{◌≡◌, refl}
use Rattle.std.specs.Prelude.{Some, None, [], ◌∷◌, codes}
use Rattle.morsel_grammar.specs.Dialect.{Dialect, standard}
use Rattle.morsel_grammar.specs.Machine.{CutState, AtOpening, InMarkTwo, AfterEol, InPlain, InQuotes, InComment, BrokenQuote, first_state, cut_after, last_end, last_begin, begun_after}

-- comments begin with a quote and a letter
abbrev commented : Dialect
commented = record standard { comment = Some (codes "\"a") }

abbrev first : CutState
first = first_state standard AtOpening

abbrev first_commented : CutState
first_commented = first_state commented AtOpening

-- an eol byte in quotes ends no record
pub last_end-quoted : last_end standard first (codes "x,\"a\nb\"\ny") ≡ 8
last_end-quoted = refl

pub last_end-open : last_end standard first (codes "x,\"a\nb") ≡ 0
last_end-open = refl

pub place-open : (cut_after standard first (codes "x,\"a\nb")).place ≡ InQuotes
place-open = refl

-- a byte 13 may stand between a closing quote and the eol byte, and nothing else
pub last_end-return : last_end standard first (34 ∷ 97 ∷ 34 ∷ 13 ∷ 10 ∷ []) ≡ 5
last_end-return = refl

pub place-broken : (cut_after standard first (34 ∷ 97 ∷ 34 ∷ 13 ∷ 97 ∷ 10 ∷ [])).place ≡ BrokenQuote
place-broken = refl

-- the byte order mark ends no record, and after it one begins
pub last_end-mark : last_end standard first (239 ∷ 187 ∷ 191 ∷ []) ≡ 0
last_end-mark = refl

pub last_begin-mark : last_begin standard first (239 ∷ 187 ∷ 191 ∷ []) ≡ 3
last_begin-mark = refl

pub begun_after-mark : begun_after standard (record { matched = None; place = InMarkTwo }) 2 0 (191 ∷ 97 ∷ []) ≡ 3
begun_after-mark = refl

pub begun_after-eol : begun_after standard first 100 90 (codes "a\nb\nc") ≡ 104
begun_after-eol = refl

pub place-no_mark : (cut_after standard first (239 ∷ 187 ∷ 34 ∷ [])).place ≡ InPlain
place-no_mark = refl

-- a comment ends at the next eol byte, whatever quotes it contains
pub after-comment : cut_after commented first_commented (codes "\"a\"b\"") ≡ record { matched = None; place = InComment }
after-comment = refl

pub last_end-comment : last_end commented first_commented (codes "\"a\"b\"\n\"b\n\"") ≡ 6
last_end-comment = refl

-- a record that is a part of the prefix is fields where the text ends
pub after-part : cut_after commented first_commented (codes "\"") ≡ record { matched = Some 1; place = InQuotes }
after-part = refl

pub after-lost : cut_after commented first_commented (codes "\"b\"\n") ≡ record { matched = Some 0; place = AfterEol }
after-lost = refl
