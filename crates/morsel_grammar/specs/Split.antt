-- A text split field by field: the function that reading follows. Each answers what it found and the bytes after it.
use Rattle.std.specs.Prelude.{ℕ, zero, suc, ◌+◌, Bool, true, false, not, ◌&&◌, ◌||◌, ◌==◌, if◌then◌else◌, Option, Some, None, List, [], ◌∷◌, length}
use Rattle.morsel_grammar.specs.Dialect.{Dialect}
use Rattle.morsel_grammar.specs.Grammar.{CsvField, CsvRecord, Comment, Fields}

-- whether a field that begins with this byte is in quotes
abbrev pub is_quote : Option ℕ → ℕ → Bool
is_quote None b = false
is_quote (Some quote) b = b == quote

-- whether a field without quotes ends before this byte
abbrev pub stops : Dialect → ℕ → Bool
stops o b = b == o.separator || b == o.eol

-- the bytes up to the next separator or eol, and the rest from there
abbrev pub plain_at : Dialect → List ℕ → List ℕ × List ℕ
plain_at o [] = ([], [])
plain_at o (b ∷ bs) = if stops o b then ([], b ∷ bs) else (b ∷ (plain_at o bs).0, (plain_at o bs).1)

-- a byte, and then the content that was found
abbrev pub with_byte : ℕ → Option (List ℕ × List ℕ) → Option (List ℕ × List ℕ)
with_byte b None = None
with_byte b (Some found) = Some (b ∷ found.0, found.1)

-- after an opening quote: the content up to the quote that is not doubled, each doubled one taken once, and the rest
abbrev pub quoted_at : ℕ → List ℕ → Option (List ℕ × List ℕ)
quoted_at quote [] = None
quoted_at quote (b ∷ []) = if b == quote then Some ([], []) else None
quoted_at quote (b ∷ c ∷ bs) = if b == quote
    then (if c == quote then with_byte quote (quoted_at quote bs) else Some ([], c ∷ bs))
    else with_byte b (quoted_at quote (c ∷ bs))

-- the field of content that was found in quotes
abbrev pub in_quotes : Option (List ℕ × List ℕ) → Option (CsvField × List ℕ)
in_quotes None = None
in_quotes (Some found) = Some (record { quoted = true; bytes = found.0 }, found.1)

-- the field of content without quotes
abbrev pub plain_field : List ℕ × List ℕ → Option (CsvField × List ℕ)
plain_field found = Some (record { quoted = false; bytes = found.0 }, found.1)

-- the field that the text begins with
abbrev pub field_at : Dialect → List ℕ → Option (CsvField × List ℕ)
field_at o [] = plain_field ([], [])
field_at o (b ∷ bs) = if is_quote o.quote b then in_quotes (quoted_at b bs) else plain_field (plain_at o (b ∷ bs))

-- the bytes without a byte 13 at their end
abbrev pub without_return : List ℕ → List ℕ
without_return [] = []
without_return (b ∷ []) = if b == 13 then [] else b ∷ []
without_return (b ∷ c ∷ bs) = b ∷ without_return (c ∷ bs)

-- the last field: a byte 13 before the end of the record belongs to the end, where eol is 10
abbrev pub last_field : Dialect → CsvField → CsvField
last_field o f = if not f.quoted && o.eol == 10 then record f { bytes = without_return f.bytes } else f

-- the record ends after field `f`
abbrev pub ended : Dialect → CsvField → List ℕ → Option (List CsvField × List ℕ)
ended o f rest = Some (last_field o f ∷ [], rest)

-- what follows a byte 13 after a closing quote: the end of the record
abbrev pub returned : Dialect → CsvField → List ℕ → Option (List CsvField × List ℕ)
returned o f [] = ended o f []
returned o f (b ∷ rest) = if b == o.eol then ended o f rest else None

-- field `f`, and then the fields that were found
abbrev pub with_field : CsvField → Option (List CsvField × List ℕ) → Option (List CsvField × List ℕ)
with_field f None = None
with_field f (Some found) = Some (f ∷ found.0, found.1)

-- a field, and then the end of the record or the fields after a separator, which `more` finds
abbrev pub fields_then : Dialect → Option (CsvField × List ℕ) → (List ℕ → Option (List CsvField × List ℕ)) → Option (List CsvField × List ℕ)
fields_then o None more = None
fields_then o (Some found) more = behind found.0 found.1
  where
    behind : CsvField → List ℕ → Option (List CsvField × List ℕ)
    behind f [] = ended o f []
    behind f (b ∷ rest) = if b == o.separator then with_field f (more rest)
        else (if b == o.eol then ended o f rest
        else (if b == 13 && o.eol == 10 then returned o f rest else None))

-- at most `n` fields
abbrev pub fields_up_to : ℕ → Dialect → List ℕ → Option (List CsvField × List ℕ)
fields_up_to zero o text = None
fields_up_to (suc n) o text = fields_then o (field_at o text) (λ rest. fields_up_to n o rest)

-- the bytes up to the next eol byte, and the rest after it
abbrev pub line_at : ℕ → List ℕ → List ℕ × List ℕ
line_at eol [] = ([], [])
line_at eol (b ∷ bs) = if b == eol then ([], bs) else (b ∷ (line_at eol bs).0, (line_at eol bs).1)

-- the rest of a text after this front, where it begins with it
abbrev pub behind_front : List ℕ → List ℕ → Option (List ℕ)
behind_front [] text = Some text
behind_front (p ∷ prefix) [] = None
behind_front (p ∷ prefix) (b ∷ text) = if p == b then behind_front prefix text else None

-- the rest of a text after the comment prefix, where there is one and the text begins with it
abbrev pub comment_body : Option (List ℕ) → List ℕ → Option (List ℕ)
comment_body None text = None
comment_body (Some prefix) text = behind_front prefix text

-- the record of fields that were found
abbrev pub fields_record : Option (List CsvField × List ℕ) → Option (CsvRecord × List ℕ)
fields_record None = None
fields_record (Some found) = Some (Fields found.0, found.1)

-- the record of a comment
abbrev pub comment_record : List ℕ × List ℕ → Option (CsvRecord × List ℕ)
comment_record found = Some (Comment found.0, found.1)

-- a comment with this body, where there is one, and fields where there is none
abbrev pub record_then_fields : Dialect → List ℕ → Option (List ℕ) → Option (CsvRecord × List ℕ)
record_then_fields o text None = fields_record (fields_up_to (length text + 1) o text)
record_then_fields o text (Some body) = comment_record (line_at o.eol body)

-- the record that a text begins with
abbrev pub record_at : Dialect → List ℕ → Option (CsvRecord × List ℕ)
record_at o text = record_then_fields o text (comment_body o.comment text)

-- whether the text begins with this byte
abbrev pub begins : ℕ → List ℕ → Bool
begins byte [] = false
begins byte (b ∷ bs) = b == byte
