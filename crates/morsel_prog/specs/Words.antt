-- The words of a command.
use Rattle.std.specs.Prelude.{ℕ, is_none, ◌==◌, if◌then◌else◌, Option, Some, None, List, [], ◌∷◌, codes}
use Rattle.std.proofs.Common.{Bor}
use Rattle.morsel_meaning.specs.declared.value.ColType.{ColType}
use Rattle.morsel_meaning.specs.declared.value.ColType.TheVariants as types
use Rattle.morsel_meaning.specs.declared.value.Field.{Field}
use Rattle.morsel_meaning.specs.Values.{names_of}
use Rattle.morsel_frame.specs.Names.{first_repeated}
use Rattle.morsel_grammar.specs.Cells.{same_text}

-- the text up to the first such byte, and what follows it, if there is one
abbrev pub cut_at : ℕ → List ℕ → List ℕ × Option (List ℕ)
cut_at byte [] = ([], None)
cut_at byte (b ∷ bs) = if b == byte then ([], Some bs) else (b ∷ (cut_at byte bs).0, (cut_at byte bs).1)

-- the parts of a text, the first of which begins with a byte more
abbrev pub before_next : ℕ → List (List ℕ) → List (List ℕ)
before_next b [] = (b ∷ []) ∷ []
before_next b (part ∷ parts) = (b ∷ part) ∷ parts

-- the parts of a text between such bytes
abbrev pub parts_at : ℕ → List ℕ → List (List ℕ)
parts_at byte [] = [] ∷ []
parts_at byte (b ∷ bs) = if b == byte then [] ∷ parts_at byte bs else before_next b (parts_at byte bs)

-- the type that a word names
abbrev pub kind_named : List ℕ → Option ColType
kind_named text = if same_text text (codes "int") then Some types.Int
    else (if same_text text (codes "bool") then Some types.Bool
    else (if same_text text (codes "text") then Some types.Text else None))

-- a field of a name and a type, where there is a type and the name is not empty
abbrev pub field_of_kind : List ℕ → Option ColType → Option Field
field_of_kind name None = None
field_of_kind [] (Some kind) = None
field_of_kind (b ∷ name) (Some kind) = Some (record { name = b ∷ name; kind = kind })

-- the field of a name and what follows its colon
abbrev pub field_of_cut : List ℕ × Option (List ℕ) → Option Field
field_of_cut cut = typed cut.0 cut.1
  where
    typed : List ℕ → Option (List ℕ) → Option Field
    typed name None = None
    typed name (Some kind) = field_of_kind name (kind_named kind)

-- `name:type`, the name not empty
abbrev pub field_of : List ℕ → Option Field
field_of part = field_of_cut (cut_at 58 part)

-- a field before others, where all are fields
abbrev pub with_first_field : Option Field → Option (List Field) → Option (List Field)
with_first_field None fields = None
with_first_field (Some f) None = None
with_first_field (Some f) (Some fields) = Some (f ∷ fields)

-- the fields of a schema's parts, where each is one
abbrev pub fields_of : List (List ℕ) → Option (List Field)
fields_of [] = Some []
fields_of (part ∷ parts) = with_first_field (field_of part) (fields_of parts)

-- fields that are a schema: of distinct names
abbrev pub schema_if : Option (List Field) → Option (List Field)
schema_if None = None
schema_if (Some fields) = if is_none (first_repeated (names_of fields)) then Some fields else None

-- `name:type` joined by commas, the names distinct
abbrev pub schema_of : List ℕ → Option (List Field)
schema_of text = schema_if (fields_of (parts_at 44 text))

-- a command
pub data Command : Type 0 where
  ScanFile : List ℕ → List Field → List ℕ → Command  -- file, schema, sink: one CSV file is scanned
  AnswerQuery : List ℕ → List ℕ → Command  -- query file, sink: a query is answered

-- the command of a file, a schema and a sink, where there is a schema
abbrev pub scan_if : List ℕ → Option (List Field) → List ℕ → Option Command
scan_if file None out = None
scan_if file (Some schema) out = Some (ScanFile file schema out)

-- `scan FILE SCHEMA OUT`, or `local QUERY OUT`
abbrev pub command_of : List (List ℕ) → Option Command
command_of [] = None
command_of (a ∷ []) = None
command_of (a ∷ b ∷ []) = None
command_of (a ∷ b ∷ c ∷ []) = if same_text a (codes "local") then Some (AnswerQuery b c) else None
command_of (a ∷ b ∷ c ∷ d ∷ []) = if same_text a (codes "scan") then scan_if b (schema_of c) d else None
command_of (a ∷ b ∷ c ∷ d ∷ e ∷ words) = None

-- what an optional reference to a text points to
abbrev pub option_text : Option (Bor (List ℕ)) → Option (List ℕ)
option_text None = None
option_text (Some text) = Some text.now
