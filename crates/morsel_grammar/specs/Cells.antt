-- What a field says under a column's type.
use Rattle.std.specs.Prelude.{ℕ, ◌+◌, ◌^◌, ℤ, pos, neg_ℤ, Bool, true, false, not, ◌&&◌, ◌||◌, ◌==◌, nat_eq, nat_lt, if◌then◌else◌, Option, Some, None, List, [], ◌∷◌, length, codes}
use Rattle.std.specs.Str.{all_ascii_digits}
use Rattle.std.specs.Str.Parse.{digits_value}
use Rattle.std.specs.Cmp.Lexicographic.{pointwise}
use Rattle.morsel_meaning.specs.declared.value.ColType.{ColType}
use Rattle.morsel_meaning.specs.declared.value.ColType.TheVariants as types
use Rattle.morsel_meaning.specs.declared.value.Value.{Value}
use Rattle.morsel_meaning.specs.declared.value.Value.TheVariants as values
use Rattle.morsel_grammar.specs.Dialect.{Dialect}
use Rattle.morsel_grammar.specs.Grammar.{CsvField}

-- a cell of a row: a value, or none of its type
pub data CsvCell : Type 0 where
  Good : Value → CsvCell
  Bad : CsvCell

-- whether two texts are the same
abbrev pub same_text : List ℕ → List ℕ → Bool
same_text a b = pointwise nat_eq a b

-- the number that decimal digits write, where it is below the bound
abbrev pub number_below : ℕ → List ℕ → Option ℕ
number_below bound digits = if all_ascii_digits digits && (nat_lt 0 (length digits) && nat_lt (digits_value 10 digits) bound)
    then Some (digits_value 10 digits) else None

-- the number that 1 to 18 decimal digits write
abbrev pub short_number : List ℕ → Option ℕ
short_number digits = if all_ascii_digits digits && (nat_lt 0 (length digits) && nat_lt (length digits) 19)
    then Some (digits_value 10 digits) else None

-- the number with its sign, where `true` is a minus
abbrev pub signed : Bool → Option ℕ → Option ℤ
signed negative None = None
signed true (Some n) = Some (neg_ℤ (pos n))
signed false (Some n) = Some (pos n)

-- an optional sign and one or more digits, within 64 bits
abbrev pub int_of : List ℕ → Option ℤ
int_of [] = None
int_of (b ∷ bs) = if b == 45 then signed true (number_below (2 ^ 63 + 1) bs)
    else (if b == 43 then signed false (number_below (2 ^ 63) bs) else signed false (number_below (2 ^ 63) (b ∷ bs)))

-- one of six spellings
abbrev pub bool_of : List ℕ → Option Bool
bool_of text = if same_text text (codes "true") || (same_text text (codes "True") || same_text text (codes "TRUE")) then Some true
    else (if same_text text (codes "false") || (same_text text (codes "False") || same_text text (codes "FALSE")) then Some false
    else None)

-- a number as a value, where there is one
abbrev pub int_value : Option ℤ → Option Value
int_value None = None
int_value (Some n) = Some (values.Int n)

-- a truth value as a value, where there is one
abbrev pub bool_value : Option Bool → Option Value
bool_value None = None
bool_value (Some b) = Some (values.Bool b)

-- what a text says under a type, if anything
abbrev pub value_written : ColType → List ℕ → Option Value
value_written types.Int text = int_value (int_of text)
value_written types.Bool text = bool_value (bool_of text)
value_written types.Text text = Some (values.Text text)

-- the cell of a value, where there is one; without one, null where errors are ignored, and bad where they are not
abbrev pub cell_or_bad : Bool → Option Value → CsvCell
cell_or_bad ignore_errors (Some v) = Good v
cell_or_bad true None = Good values.Null
cell_or_bad false None = Bad

-- a field without quotes that is the null text is null; a field that does not fit its type is bad, or null where errors are ignored
abbrev pub cell_of : Dialect → ColType → CsvField → CsvCell
cell_of o kind f = if not f.quoted && same_text f.bytes o.null_text then Good values.Null
    else cell_or_bad o.ignore_errors (value_written kind f.bytes)
