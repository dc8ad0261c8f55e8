-- Fields as they are written in a text, what they say, and what the steps of splitting find.
use Rattle.std.specs.Prelude.{◌≡◌, ℕ, ◌+◌, ◌<◌, ◌≤◌, ◌==◌, ◌||◌, get_or, true, false, Option, Some, None, List, [], ◌++◌, map, length}
use Rattle.std.specs.Borrow.{Bor}
use Rattle.morsel_text.specs.declared.raw_field.RawField.{RawField}
use Rattle.morsel_text.specs.declared.raw_field.RawField.TheVariants as raws
use Rattle.morsel_text.specs.declared.parts.Next.{Next}
use Rattle.morsel_text.specs.declared.parts.Next.TheVariants as nexts
use Rattle.morsel_text.specs.declared.split.Split.{Split}
use Rattle.morsel_text.specs.declared.split.Split.TheVariants as splits
use Rattle.morsel_grammar.specs.Dialect.{Dialect}
use Rattle.morsel_grammar.specs.Grammar.{CsvField, Comment, Fields}
use Rattle.morsel_grammar.specs.Split.{stops, quoted_at, with_field, ended, fields_up_to, record_at}

-- no byte before this place ends an unquoted field
abbrev pub PassedTo : Dialect → List ℕ → ℕ → Type 0
PassedTo o text n = (k : ℕ) → k < n → stops o (get_or text k 0) ≡ false

-- so many of the 16 bytes from a place are neither of two, and then comes one of the two, where there are fewer than 16
pub record IsRun (a b : ℕ) (text : List ℕ) (at len : ℕ) : Type 0 where
  pub within : len ≤ 16
  pub passed : (k : ℕ) → at ≤ k → k < at + len → (get_or text k 0 == a || get_or text k 0 == b) ≡ false
  pub stopped : len < 16 → (get_or text (at + len) 0 == a || get_or text (at + len) 0 == b) ≡ true

-- the content of a quoted field
abbrev pub content_of : Option (List ℕ × List ℕ) → List ℕ
content_of None = []
content_of (Some found) = found.0

-- what a field says
abbrev pub shown : RawField → CsvField
shown (raws.Plain text) = record { quoted = false; bytes = text.now }
shown (raws.Quoted text) = record { quoted = true; bytes = text.now }
shown (raws.Doubled text quote) = record { quoted = true; bytes = content_of (quoted_at quote text.now) }

-- what a field that was found says, and what follows it
abbrev pub shown_found : Option (RawField × Bor (List ℕ)) → Option (CsvField × List ℕ)
shown_found None = None
shown_found (Some found) = Some (shown found.0, found.1.now)

-- what follows a quoted field
abbrev pub rest_of : Option (List ℕ × List ℕ) → Option (List ℕ)
rest_of None = None
rest_of (Some found) = Some found.1

-- the fields of a record whose field `f` is followed by this
abbrev pub next_of : Dialect → CsvField → (List ℕ → Option (List CsvField × List ℕ)) → Next → Option (List CsvField × List ℕ)
next_of o f more (nexts.Field rest) = with_field f (more rest.now)
next_of o f more (nexts.End rest) = ended o f rest.now
next_of o f more nexts.Broken = None

-- how many bytes are left
abbrev pub next_len : Next → ℕ
next_len (nexts.Field rest) = length rest.now
next_len (nexts.End rest) = length rest.now
next_len nexts.Broken = 0

-- fields before those that are found
abbrev pub with_front : List CsvField → Option (List CsvField × List ℕ) → Option (List CsvField × List ℕ)
with_front front None = None
with_front front (Some found) = Some (front ++ found.0, found.1)

-- the text begins with these fields, and this follows them
abbrev pub AreRawFields : Dialect → List ℕ → List RawField → List ℕ → Type 0
AreRawFields o text fields rest = fields_up_to (length text + 1) o text ≡ Some (map shown fields, rest)

-- of all fields of a record these are kept: a front of them, which is all or at least `limit` fields, and never many more
pub record AreKept (limit : ℕ) (kept all : List CsvField) : Type 0 where
  pub passed : List CsvField
  pub front : all ≡ kept ++ passed
  pub enough : 0 < length passed → limit ≤ length kept
  pub few : length kept ≤ limit + 64

-- the fields that a text begins with, of which these are kept, and what follows all of them
abbrev pub FieldsAre : Dialect → ℕ → List ℕ → List RawField → Split → Type 0
FieldsAre o limit text fields (splits.Fields rest) = (all : List CsvField)
    × (fields_up_to (length text + 1) o text ≡ Some (all, rest.now)) × AreKept limit (map shown fields) all
FieldsAre o limit text fields (splits.Comment rest) = ⊥
FieldsAre o limit text fields splits.Broken = fields_up_to (length text + 1) o text ≡ None

-- the record that a text begins with, of whose fields these are kept, and what follows it
abbrev pub SplitsInto : Dialect → ℕ → List ℕ → List RawField → Split → Type 0
SplitsInto o limit text fields (splits.Fields rest) = (all : List CsvField)
    × (record_at o text ≡ Some (Fields all, rest.now)) × AreKept limit (map shown fields) all
SplitsInto o limit text fields (splits.Comment rest) = (body : List ℕ) × (record_at o text ≡ Some (Comment body, rest.now))
SplitsInto o limit text fields splits.Broken = record_at o text ≡ None

-- how many bytes are left
abbrev pub split_len : Split → ℕ
split_len (splits.Fields rest) = length rest.now
split_len (splits.Comment rest) = length rest.now
split_len splits.Broken = 0
