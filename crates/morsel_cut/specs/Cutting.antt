-- A text that is cut: what was fed of it, and what feeding more answers.
use Rattle.std.specs.Prelude.{◌≡◌, ℕ, ◌+◌, true, false, Result, Ok, Err, List, [], ◌++◌, length}
use Rattle.morsel_meaning.specs.declared.fault.Fault.{Fault}
use Rattle.morsel_meaning.specs.declared.fault.Fault.TheVariants as faults
use Rattle.morsel_grammar.specs.Dialect.{Dialect, options_of}
use Rattle.morsel_grammar.specs.Machine.{AtOpening, CutState, first_state, cut_after, last_end, last_begin, begun_after, RefusesRecord}

-- a text that is cut, as far as it was fed
pub record Cutting : Type 0 where
  pub options : Dialect  -- how the text is written
  pub file : ℕ  -- the number of its file
  pub state : CutState  -- the machine after the bytes that were fed
  pub fed : ℕ  -- how many these are
  pub begun : ℕ  -- the place of the first byte of the record that is under way

-- of the options, those that decide where a text may be cut
abbrev pub cut_options : Dialect → Dialect
cut_options o = options_of o.separator o.quote o.eol o.comment true [] false

-- nothing was fed
abbrev pub cut_opening : Dialect → ℕ → Cutting
cut_opening o file = record { options = cut_options o; file = file; state = first_state o AtOpening; fed = 0; begun = 0 }

-- these bytes were fed too
abbrev pub fed_with : Cutting → List ℕ → Cutting
fed_with c bytes = record {
  options = c.options;
  file = c.file;
  state = cut_after c.options c.state bytes;
  fed = c.fed + length bytes;
  begun = begun_after c.options c.state c.fed c.begun bytes;
}

-- the fault of the record that is under way
abbrev pub begun_fault : Cutting → Fault
begun_fault c = faults.Malformed c.file c.begun

-- how many bytes of the piece there are up to the last end of a record, 0 where none ends in it; or the record that is under way is none
abbrev pub Feeds : Cutting → List ℕ → Result ℕ Fault → Type 0
Feeds c piece (Ok len) = (len ≡ last_end c.options c.state piece) × (RefusesRecord (fed_with c piece).state → ⊥)
Feeds c piece (Err fault) = (fault ≡ begun_fault (fed_with c piece)) × RefusesRecord (fed_with c piece).state

-- a fault comes again, whatever is fed
abbrev pub KeepsFaults : Type 0
KeepsFaults = (c : Cutting) (bytes : List ℕ) → RefusesRecord c.state
    → RefusesRecord (fed_with c bytes).state × (begun_fault (fed_with c bytes) ≡ begun_fault c)

-- bytes that are fed in two pieces are fed as in one
abbrev pub FeedsPieces : Type 0
FeedsPieces = (c : Cutting) (front back : List ℕ) → fed_with (fed_with c front) back ≡ fed_with c (front ++ back)

-- a text is cut by its separator, quote, eol and comment prefix alone
abbrev pub CutsByBytes : Type 0
CutsByBytes = (o : Dialect) (s : CutState) (bytes : List ℕ) → (cut_after (cut_options o) s bytes ≡ cut_after o s bytes)
    × (last_end (cut_options o) s bytes ≡ last_end o s bytes) × (last_begin (cut_options o) s bytes ≡ last_begin o s bytes)
