-- The definitions at small texts.
use Rattle.std.proofs.Common.{◌≡◌, refl, ℕ, true, false, List, [], ◌∷◌, Some, None}
use Rattle.morsel_grammar.specs.Dialect.{standard}
use Rattle.morsel_grammar.specs.Grammar.{CsvField}
use Rattle.morsel_marks.specs.Marks.{field_ends, is_well_quoted}
use Rattle.morsel_marks.specs.ByMarks.{row_fields, field_between}

-- a , "b""c" 13 10
worked : List ℕ
worked = 97 ∷ 44 ∷ 34 ∷ 98 ∷ 34 ∷ 34 ∷ 99 ∷ 34 ∷ 13 ∷ 10 ∷ []

well_quoted : is_well_quoted standard worked ≡ true
unfolding worked
well_quoted = refl

ends_of_worked : field_ends standard worked ≡ 1 ∷ 9 ∷ []
unfolding worked
ends_of_worked = refl

fields_of_worked : List CsvField
fields_of_worked = record { quoted = false; bytes = 97 ∷ [] } ∷ record { quoted = true; bytes = 98 ∷ 34 ∷ 99 ∷ [] } ∷ []

row_of_worked : row_fields standard worked (1 ∷ 9 ∷ []) 0 1 ≡ Some fields_of_worked
unfolding worked fields_of_worked
row_of_worked = refl

-- an eol byte and a separator in quotes end no field
ends_outside_quotes : field_ends standard (34 ∷ 10 ∷ 44 ∷ 34 ∷ 44 ∷ []) ≡ 4 ∷ []
ends_outside_quotes = refl

-- a quote within a field
quote_within : is_well_quoted standard (97 ∷ 34 ∷ 10 ∷ []) ≡ false
quote_within = refl

-- a letter after a closing quote
letter_after : is_well_quoted standard (34 ∷ 34 ∷ 97 ∷ 10 ∷ []) ≡ false
letter_after = refl

-- an open quote
open_quote : is_well_quoted standard (34 ∷ 97 ∷ []) ≡ false
open_quote = refl

-- a byte 13 after a closing quote belongs to the end of the record, and to no other field
return_before_end : field_between standard true (34 ∷ 34 ∷ 13 ∷ []) ≡ Some (record { quoted = true; bytes = [] })
return_before_end = refl

return_before_separator : field_between standard false (34 ∷ 34 ∷ 13 ∷ []) ≡ None
return_before_separator = refl
