-- Reads of a file one after the other: each of the next bytes, at most a chunk of them, and none while a whole record is held.
use Rattle.std.specs.Prelude.{◌≡◌, ℕ, zero, suc, ◌+◌, ◌<◌, ◌≤◌, Option, Some, None, List, [], ◌∷◌, slice_range, get_or}
use Rattle.morsel_grammar.specs.Dialect.{Dialect}
use Rattle.morsel_grammar.specs.Rows.{unmarked}
use Rattle.morsel_grammar.specs.Cuts.{BeginsNoWholeRecord}
use Rattle.morsel_outside.specs.Actions.{Action, ReadingRange}

-- the bytes of the files are told, and this one has these
abbrev pub IsTold : Option (List (List ℕ)) → ℕ → List ℕ → Type 0
IsTold None file bytes = ⊥
IsTold (Some files) file bytes = get_or files file [] ≡ bytes

-- a read from this place asks at least one byte, at most a chunk, and none past the file's size
pub record IsChunk (size chunk from len : ℕ) : Type 0 where
  pub some : 0 < len
  pub few : len ≤ chunk
  pub within : from + len ≤ size

-- each action reads a chunk of the file, from where the one before it ended, up to this place
abbrev pub AreNextReads : ℕ → ℕ → ℕ → ℕ → List Action → ℕ → Type 0
AreNextReads file size chunk from [] to = from ≡ to
AreNextReads file size chunk from (ReadingRange number at len ∷ actions) to =
    (number ≡ file) × (at ≡ from) × IsChunk size chunk from len × AreNextReads file size chunk (from + len) actions to
AreNextReads file size chunk from (action ∷ actions) to = ⊥

-- the text of the records, of bytes that begin at this place of a file: the mark is none of it
abbrev pub text_at : ℕ → List ℕ → List ℕ
text_at zero bytes = unmarked bytes
text_at (suc at) bytes = bytes

-- the bytes of a file between two places begin with no whole record
abbrev pub HoldsNoRecord : Dialect → List ℕ → ℕ → ℕ → Type 0
HoldsNoRecord o bytes given at = BeginsNoWholeRecord o (text_at given (slice_range bytes given at))

-- each read is made while what was asked after place `given` begins with no whole record
abbrev pub ReadWithoutRecord : Dialect → List ℕ → ℕ → List Action → Type 0
ReadWithoutRecord o bytes given [] = Unit {0}
ReadWithoutRecord o bytes given (ReadingRange number at len ∷ actions) = HoldsNoRecord o bytes given at × ReadWithoutRecord o bytes given actions
ReadWithoutRecord o bytes given (action ∷ actions) = ⊥
