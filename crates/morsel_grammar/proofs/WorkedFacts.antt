-- What some small texts say.
use Rattle.std.proofs.Common.{◌≡◌, ℕ, refl}
use lib.Utf8.{encode}
use Rattle.std.specs.Str.{is_utf8, chars}
use Rattle.std.specs.Prelude.{true, false, Option, Some, None, List, [], ◌∷◌, codes, pos}
use Rattle.morsel_grammar.specs.Dialect.{Dialect, standard}
use Rattle.morsel_grammar.specs.Grammar.{CsvField, CsvRecord, Comment, Fields}
use Rattle.morsel_meaning.specs.declared.value.ColType.TheVariants as types
use Rattle.morsel_meaning.specs.declared.value.Value.TheVariants as values
use Rattle.morsel_grammar.specs.Cells.{Good, Bad}
use Rattle.morsel_grammar.specs.Rows.{NoRow, IsRow, Misfit, row_of, behind_header}
use Rattle.morsel_grammar.specs.Reading.{Malformed, IllTyped, reading, read_of}
use Rattle.morsel_grammar.specs.Split.{record_at}

-- a field without quotes, and one in quotes
abbrev plain : List ℕ → CsvField
plain bytes = record { quoted = false; bytes = bytes }

abbrev quoted : List ℕ → CsvField
quoted bytes = record { quoted = true; bytes = bytes }

abbrev read : List CsvField → List ℕ → Option (CsvRecord × List ℕ)
read fields rest = let found : CsvRecord × List ℕ = (Fields fields, rest) in Some found

-- with comments after a number sign, and with byte 13 as eol
abbrev commented : Dialect
commented = record standard { comment = Some (35 ∷ []) }

abbrev returns : Dialect
returns = record standard { eol = 13 }

pub two_fields : record_at standard (codes "a,b\nc") ≡ read (plain (codes "a") ∷ plain (codes "b") ∷ []) (codes "c")
two_fields = refl

pub doubled_quote : record_at standard (codes "\"a\"\"b\",c\n") ≡ read (quoted (codes "a\"b") ∷ plain (codes "c") ∷ []) []
doubled_quote = refl

pub quoted_line_feed : record_at standard (codes "\"a,\nb\"\nc") ≡ read (quoted (codes "a,\nb") ∷ []) (codes "c")
quoted_line_feed = refl

pub return_and_line_feed : record_at standard (codes "ab\r\nc") ≡ read (plain (codes "ab") ∷ []) (codes "c")
return_and_line_feed = refl

-- one byte 13 alone belongs to the end
pub two_returns : record_at standard (codes "ab\r\r\n") ≡ read (plain (codes "ab\r") ∷ []) []
two_returns = refl

pub return_behind_quotes : record_at standard (codes "\"ab\"\r\nc") ≡ read (quoted (codes "ab") ∷ []) (codes "c")
return_behind_quotes = refl

pub return_as_eol : record_at returns (codes "a\rb") ≡ read (plain (codes "a") ∷ []) (codes "b")
return_as_eol = refl

pub empty_record : record_at standard (codes "\na") ≡ read (plain [] ∷ []) (codes "a")
empty_record = refl

pub quoted_nothing : record_at standard (codes "\"\"\n") ≡ read (quoted [] ∷ []) []
quoted_nothing = refl

pub quote_within : record_at standard (codes "a\"b\n") ≡ read (plain (codes "a\"b") ∷ []) []
quote_within = refl

pub comment_with_quote : record_at commented (codes "#\"a,\nb") ≡ (let found : CsvRecord × List ℕ = (Comment (codes "\"a,"), codes "b") in Some found)
comment_with_quote = refl

pub text_behind_quotes : record_at standard (codes "\"a\"b\n") ≡ None
text_behind_quotes = refl

pub open_quote : record_at standard (codes "a,\"b\n") ≡ None
open_quote = refl

-- with NA for null
abbrev marked : Dialect
marked = record standard { null_text = codes "NA" }

pub quoted_null : row_of marked (types.Text ∷ types.Text ∷ []) (Fields (quoted (codes "NA") ∷ plain (codes "NA") ∷ []))
    ≡ IsRow (Good (values.Text (codes "NA")) ∷ Good values.Null ∷ [])
quoted_null = refl

pub quoted_empty_text : row_of standard (types.Text ∷ []) (Fields (quoted [] ∷ [])) ≡ IsRow (Good (values.Text []) ∷ [])
quoted_empty_text = refl

pub empty_record_of_one : row_of standard (types.Int ∷ []) (Fields (plain [] ∷ [])) ≡ IsRow (Good values.Null ∷ [])
empty_record_of_one = refl

pub empty_record_of_two : row_of standard (types.Int ∷ types.Int ∷ []) (Fields (plain [] ∷ [])) ≡ NoRow
empty_record_of_two = refl

pub too_many_fields : row_of standard (types.Int ∷ []) (Fields (plain (codes "1") ∷ plain (codes "2") ∷ [])) ≡ Misfit
too_many_fields = refl

pub signed_and_ill_typed : row_of standard (types.Int ∷ types.Bool ∷ []) (Fields (plain (codes "+7") ∷ plain (codes "yes") ∷ []))
    ≡ IsRow (Good (values.Int (pos 7)) ∷ Bad ∷ [])
signed_and_ill_typed = refl

-- comments and empty records may come before the header
pub header_behind_comment : behind_header true (Comment (codes "x") ∷ Fields (plain [] ∷ []) ∷ Fields (plain (codes "a") ∷ []) ∷ Fields (plain (codes "1") ∷ []) ∷ [])
    ≡ Fields (plain (codes "1") ∷ []) ∷ []
header_behind_comment = refl

-- after a header, a row, an empty record and a row, an open quote is refused where its record begins
pub refused_at_its_place : reading standard (types.Int ∷ types.Int ∷ []) true 0 (codes "a,b\n1,2\n\n3,\n\"4")
    ≡ record {
      rows = (4, Good (values.Int (pos 1)) ∷ Good (values.Int (pos 2)) ∷ []) ∷ (9, Good (values.Int (pos 3)) ∷ Good values.Null ∷ []) ∷ [];
      head = false;
      refusal = Some (record { at = 12; flaw = Malformed });
    }
unfolding is_utf8 chars encode
refused_at_its_place = refl

-- a cell that does not fit its type is refused where its column is used
pub refused_where_used : read_of (true ∷ []) (reading standard (types.Int ∷ []) false 7 (codes "1\nx\n2"))
    ≡ record { rows = (7, values.Int (pos 1) ∷ []) ∷ []; head = false; refusal = Some (record { at = 9; flaw = IllTyped }) }
unfolding is_utf8 chars encode
refused_where_used = refl

pub taken_where_unused : (read_of (false ∷ []) (reading standard (types.Int ∷ []) false 7 (codes "1\nx\n2"))).refusal ≡ None
unfolding is_utf8 chars encode
taken_where_unused = refl
