-- Rows as JSON, one object a line, with the escapes that RFC 8259, section 7, asks for.
use Rattle.std.specs.Prelude.{ℕ, ◌/◌, ◌%◌, true, false, nat_lt, ◌==◌, if◌then◌else◌, List, [], ◌∷◌, ◌++◌, codes}
use Rattle.std.specs.Fmt.{signed_decimal}
use Rattle.std.specs.List.{flat_map}
use Rattle.std.specs.Char.{digit_char}
use Rattle.morsel_meaning.specs.declared.value.Value.{Value}
use Rattle.morsel_meaning.specs.declared.value.Value.TheVariants as values
use Rattle.morsel_meaning.specs.Values.{Row}

-- a byte within a string
abbrev pub escaped : ℕ → List ℕ
escaped b = if b == 34 then codes "\\\""
    else (if b == 92 then codes "\\\\"
    else (if b == 8 then codes "\\b"
    else (if b == 12 then codes "\\f"
    else (if b == 10 then codes "\\n"
    else (if b == 13 then codes "\\r"
    else (if b == 9 then codes "\\t"
    else (if nat_lt b 32 then codes "\\u00" ++ digit_char (b / 16) ∷ digit_char (b % 16) ∷ []
    else b ∷ [])))))))

-- a text in quotes
abbrev pub json_string : List ℕ → List ℕ
json_string text = 34 ∷ flat_map escaped text ++ 34 ∷ []

-- a value
abbrev pub json_value : Value → List ℕ
json_value values.Null = codes "null"
json_value (values.Int n) = signed_decimal n
json_value (values.Bool true) = codes "true"
json_value (values.Bool false) = codes "false"
json_value (values.Text text) = json_string text

-- a name in quotes, a colon and a value
abbrev pub json_member : List ℕ → Value → List ℕ
json_member name v = json_string name ++ 58 ∷ json_value v

-- the columns by name, with a comma between neighbours
abbrev pub json_members : List (List ℕ) → Row → List ℕ
json_members [] row = []
json_members (name ∷ names) [] = []
json_members (name ∷ []) (v ∷ row) = json_member name v
json_members (name ∷ next ∷ names) (v ∷ row) = json_member name v ++ 44 ∷ json_members (next ∷ names) row

-- one row, with its line feed
abbrev pub json_line : List (List ℕ) → Row → List ℕ
json_line names row = 123 ∷ json_members names row ++ 125 ∷ 10 ∷ []

-- the text of rows: a line for each
abbrev pub ndjson : List (List ℕ) → List Row → List ℕ
ndjson names rows = flat_map (json_line names) rows
