-- What the bytes of small files give, worked out by hand.
use Rattle.std.specs.Prelude.{◌≡◌, ℕ, Bool, true, false, Some, None, Ok, Err, List, [], ◌∷◌, codes, refl}
use Rattle.std.specs.Str.{is_utf8, chars}
use lib.Utf8.{encode}
use Rattle.morsel_meaning.specs.declared.fault.ComputeKind.TheVariants as kinds
use Rattle.morsel_meaning.specs.declared.fault.Fault.TheVariants as faults
use Rattle.morsel_meaning.specs.declared.value.ColType.TheVariants as types
use Rattle.morsel_meaning.specs.declared.value.Value.TheVariants as values
use Rattle.morsel_meaning.specs.Values.{Row}
use Rattle.morsel_scan.specs.Scans.{CsvScan}
use Rattle.morsel_scan.specs.Ahead.{Axis}
use Rattle.morsel_scan.specs.CsvAxis.{csv_axis}

-- a scan of one column of text, where `#` begins a comment, with a header or without one
abbrev text_scan : Bool → CsvScan
text_scan has_header = record {
  scan = record {
    fields = record { name = codes "a"; kind = types.Text } ∷ [];
    asked = record { slice = None; columns = []; row_index = None; path = None; allow_missing_columns = false };
    filter = None;
  };
  options = record { separator = 44; quote = Some 34; eol = 10; comment = Some (35 ∷ []); has_header = has_header; null_text = []; ignore_errors = false };
}

-- the axis of files with these bytes
abbrev axis : CsvScan → List (List ℕ) → List (List ℕ) → Axis
axis s names files = csv_axis s 0 names files [] 0 (λ rows. [])

-- the row of one byte
abbrev row : ℕ → Row
row byte = values.Text (byte ∷ []) ∷ []

-- a mark gives nothing, and a record's last byte gives its row
pub a_record_gives_at_its_last_byte : (axis (text_scan false) (codes "f" ∷ []) ((239 ∷ 187 ∷ 191 ∷ 120 ∷ 10 ∷ []) ∷ [])).gives ≡ Ok [] ∷ Ok [] ∷ Ok [] ∷ Ok [] ∷ Ok (row 120 ∷ []) ∷ []
unfolding is_utf8 chars encode
a_record_gives_at_its_last_byte = refl

-- a header gives nothing; a row without an eol byte ends with its file, and the next file has a header of its own
pub each_file_has_a_header : (axis (text_scan true) (codes "f" ∷ codes "g" ∷ []) ((97 ∷ 10 ∷ 120 ∷ []) ∷ (97 ∷ 10 ∷ 121 ∷ 10 ∷ []) ∷ [])).gives
    ≡ Ok [] ∷ Ok [] ∷ Ok (row 120 ∷ []) ∷ Ok [] ∷ Ok [] ∷ Ok [] ∷ Ok (row 121 ∷ []) ∷ []
unfolding is_utf8 chars encode
each_file_has_a_header = refl

-- where the rows of these two files are, and where they end
pub rows_are_after_the_headers : (axis (text_scan true) (codes "f" ∷ codes "g" ∷ []) ((97 ∷ 10 ∷ 120 ∷ []) ∷ (97 ∷ 10 ∷ 121 ∷ 10 ∷ []) ∷ [])).of_rows ≡ false ∷ false ∷ true ∷ false ∷ false ∷ true ∷ true ∷ []
rows_are_after_the_headers = refl

pub rows_end_at_their_last_bytes : (axis (text_scan true) (codes "f" ∷ codes "g" ∷ []) ((97 ∷ 10 ∷ 120 ∷ []) ∷ (97 ∷ 10 ∷ 121 ∷ 10 ∷ []) ∷ [])).row_ends ≡ false ∷ false ∷ true ∷ false ∷ false ∷ false ∷ true ∷ []
rows_end_at_their_last_bytes = refl

-- a comment of three bytes is the longest record, and the mark is none
pub a_comment_is_a_record : (axis (text_scan false) (codes "f" ∷ []) ((239 ∷ 187 ∷ 191 ∷ 35 ∷ 99 ∷ 99 ∷ 10 ∷ 120 ∷ 10 ∷ []) ∷ [])).longest ≡ 4
a_comment_is_a_record = refl

-- a comment that is not UTF-8 has a fault, and the row after it is given
pub a_comment_may_have_a_fault : (axis (text_scan false) (codes "f" ∷ []) ((35 ∷ 255 ∷ 10 ∷ 120 ∷ 10 ∷ []) ∷ [])).gives
    ≡ Ok [] ∷ Ok [] ∷ Err (faults.ComputeError kinds.NotUtf8 0 0) ∷ Ok [] ∷ Ok (row 120 ∷ []) ∷ []
unfolding is_utf8 chars encode
a_comment_may_have_a_fault = refl

-- what is left where no record begins is refused at its first byte
pub an_open_quote_is_refused : (axis (text_scan false) (codes "f" ∷ []) ((120 ∷ 10 ∷ 34 ∷ 121 ∷ []) ∷ [])).gives ≡ Ok [] ∷ Ok (row 120 ∷ []) ∷ Ok [] ∷ Err (faults.Malformed 0 2) ∷ []
unfolding is_utf8 chars encode
an_open_quote_is_refused = refl
