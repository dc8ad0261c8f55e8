-- A CSV text cut into records, after RFC 4180 and the options.
use Rattle.std.specs.Prelude.{◌≡◌, ◌≢◌, ◌⊎◌, ℕ, Bool, true, false, Option, Some, None, List, [], ◌∷◌, ◌++◌, ◌==◌, if◌then◌else◌}
use Rattle.morsel_grammar.specs.Dialect.{Dialect, IsWithout}

-- a field's content, and whether it is in quotes
pub record CsvField : Type 0 where
  pub quoted : Bool
  pub bytes : List ℕ

-- a record: a comment, or a list of fields
pub data CsvRecord : Type 0 where
  Comment : List ℕ → CsvRecord  -- what follows the prefix
  Fields : List CsvField → CsvRecord

-- the content with each quote twice
abbrev pub doubled : ℕ → List ℕ → List ℕ
doubled quote [] = []
doubled quote (b ∷ bs) = if b == quote then b ∷ b ∷ doubled quote bs else b ∷ doubled quote bs

-- the content does not begin with the quote
abbrev pub BeginsUnquoted : Option ℕ → List ℕ → Type 0
BeginsUnquoted None bytes = Unit {0}
BeginsUnquoted (Some quote) [] = Unit {0}
BeginsUnquoted (Some quote) (b ∷ bs) = b ≢ quote

-- content that may be written without quotes
pub record IsPlain (o : Dialect) (bytes : List ℕ) : Type 0 where
  pub no_separator : IsWithout o.separator bytes
  pub no_eol : IsWithout o.eol bytes
  pub unquoted : BeginsUnquoted o.quote bytes

-- the bytes of a field as they are written
abbrev pub Spells : Dialect → Bool → List ℕ → List ℕ → Type 0
Spells o true bytes text = (quote : ℕ) × (o.quote ≡ Some quote) × (text ≡ quote ∷ doubled quote bytes ++ quote ∷ [])
Spells o false bytes text = (text ≡ bytes) × IsPlain o bytes

-- the last byte is 13
abbrev pub EndsInReturn : List ℕ → Type 0
EndsInReturn [] = ⊥
EndsInReturn (b ∷ []) = b ≡ 13
EndsInReturn (b ∷ c ∷ bs) = EndsInReturn (c ∷ bs)

-- one eol byte and the rest, or the end of the text
abbrev pub IsLineEnd : Dialect → List ℕ → List ℕ → Type 0
IsLineEnd o end rest = (end ≡ o.eol ∷ rest) ⊎ ((end ≡ []) × (rest ≡ []))

-- the end of a record after its last field. Where eol is 10, a byte 13 directly before it and outside quotes belongs to it
abbrev pub IsEnd : Dialect → CsvField → List ℕ → List ℕ → Type 0
IsEnd o last end rest = ((o.eol ≡ 10) × (after : List ℕ) × (end ≡ 13 ∷ after) × IsLineEnd o after rest)
    ⊎ (IsLineEnd o end rest × (o.eol ≡ 10 → last.quoted ≡ false → EndsInReturn last.bytes → ⊥))

-- the text is these fields with separators between them, an end and the rest
abbrev pub AreFields : Dialect → List CsvField → List ℕ → List ℕ → Type 0
AreFields o [] text rest = ⊥
AreFields o (f ∷ []) text rest = (spelled : List ℕ) × (end : List ℕ)
    × Spells o f.quoted f.bytes spelled × (text ≡ spelled ++ end) × IsEnd o f end rest
AreFields o (f ∷ g ∷ fields) text rest = (spelled : List ℕ) × (after : List ℕ)
    × Spells o f.quoted f.bytes spelled × (text ≡ spelled ++ o.separator ∷ after) × AreFields o (g ∷ fields) after rest

-- the text begins with the comment prefix
abbrev pub BeginsComment : Dialect → List ℕ → Type 0
BeginsComment o text = (prefix : List ℕ) × (body : List ℕ) × (o.comment ≡ Some prefix) × (text ≡ prefix ++ body)

-- a comment runs to the next eol byte or to the end of the text, whatever quotes it contains
pub record IsComment (o : Dialect) (body text rest : List ℕ) : Type 0 where
  pub prefix : List ℕ
  pub end : List ℕ
  pub asked : o.comment ≡ Some prefix
  pub spelled : text ≡ prefix ++ (body ++ end)
  pub no_eol : IsWithout o.eol body
  pub ended : IsLineEnd o end rest

-- the text begins with this record, and this is the rest
abbrev pub IsRecord : Dialect → CsvRecord → List ℕ → List ℕ → Type 0
IsRecord o (Comment body) text rest = IsComment o body text rest
IsRecord o (Fields fields) text rest = (BeginsComment o text → ⊥) × AreFields o fields text rest

-- the text is these records. Each takes at least one byte
abbrev pub Records : Dialect → List ℕ → List CsvRecord → Type 0
Records o text [] = text ≡ []
Records o text (r ∷ records) = (text ≢ []) × (rest : List ℕ) × IsRecord o r text rest × Records o rest records
