-- Which pieces belong to a scan of one small file, worked out by hand.
use Rattle.std.specs.Prelude.{◌≡◌, ℕ, zero, suc, ◌+◌, ◌-◌, ◌<◌, Bool, true, false, Some, None, List, [], ◌∷◌, codes, refl, IsUtf8, take, length}
use Rattle.std.proofs.Common.{ap, sym, subst, ◌∙◌, arith, inl, inr, true≢false}
use Rattle.std.specs.Str.{is_utf8, chars}
use Rattle.std.proofs.lemmas.Str.{is_utf8-from_IsUtf8}
use Rattle.std.specs.List.{sum_by}
use lib.Seq.{take-nil, drop-nil}
use lib.Utf8.{encode}
use Rattle.morsel_meaning.specs.declared.value.ColType.TheVariants as types
use Rattle.morsel_grammar.specs.Grammar.{CsvRecord, Fields, IsRecord}
use Rattle.morsel_pipe.specs.Pieces.{Piece}
use Rattle.morsel_scan.specs.Scans.{CsvScan}
use Rattle.morsel_scan.specs.CsvScans.{piece_keeps}
use Rattle.morsel_scan.specs.CsvPieces.{HasRowsUpTo, bytes_between, IsPieceOf}

-- a byte order mark, and a record of one field
abbrev marked_file : List ℕ
marked_file = 239 ∷ 187 ∷ 191 ∷ 120 ∷ 10 ∷ []

-- a scan of one column of text, without a header
abbrev text_scan : CsvScan
text_scan = record {
  scan = record {
    fields = record { name = codes "a"; kind = types.Text } ∷ [];
    asked = record { slice = None; columns = []; row_index = None; path = None; allow_missing_columns = false };
    filter = None;
  };
  options = record { separator = 44; quote = Some 34; eol = 10; comment = None; has_header = false; null_text = []; ignore_errors = false };
}

-- the record after the mark
abbrev row_piece : Piece
row_piece = record { seq = 0; file = 0; source = codes "f"; at = 3; first_row = 0; rows = 1; slice = (0, 1); parts = []; bytes = 120 ∷ 10 ∷ []; from = 0; to = 5 }

abbrev the_record : CsvRecord
the_record = Fields (record { quoted = false; bytes = 120 ∷ [] } ∷ [])

is_the_record : IsRecord text_scan.options the_record (120 ∷ 10 ∷ []) []
is_the_record = (
  λ (prefix, body, asked, begins). absurd (cc),
  (
    120 ∷ [],
    10 ∷ [],
    (refl, record { no_separator = (λ same. absurd (omega arith), tt); no_eol = (λ same. absurd (omega arith), tt); unquoted = λ same. absurd (omega arith) }),
    refl,
    inr (inl refl, λ eol quoted return_. absurd (omega arith)),
  ),
)

after_the_mark : HasRowsUpTo text_scan marked_file 3 0 false
after_the_mark = record { front = []; rest = 120 ∷ 10 ∷ []; records = []; split = refl; whole = refl; place = refl; rows_are = refl; header_is = refl }

mark_utf8 : IsUtf8 (239 ∷ 187 ∷ 191 ∷ [])
unfolding encode
mark_utf8 = (65279 ∷ [], (refl, refl))

nothing_utf8 : IsUtf8 []
nothing_utf8 = ([], (refl, refl))

none_between : (number : ℕ) → IsUtf8 (bytes_between (marked_file ∷ []) number 0 3)
none_between zero = mark_utf8
none_between (suc number) =
    let before : ℕ = sum_by length (take (suc number) (marked_file ∷ [])) in
    subst IsUtf8 (sym (ap (take (3 - before - (0 - before))) (drop-nil (0 - before)) ∙ take-nil (3 - before - (0 - before)))) nothing_utf8

all_kept : (row : ℕ) → row < 1 → piece_keeps row_piece (row_piece.first_row + row) ≡ true
all_kept zero within = refl
all_kept (suc row) within = absurd (omega arith)

-- the row after the mark is a piece, whose stretch begins before the mark
pub a_row_after_the_mark_is_a_piece : IsPieceOf text_scan 0 (codes "f" ∷ []) (marked_file ∷ []) row_piece
a_row_after_the_mark_is_a_piece = record {
  source = 0;
  file = refl;
  name = refl;
  start = 3;
  begins = record { bytes = marked_file; is_source = refl; earlier = 0; rows_before = refl; within = 0; rows_within = after_the_mark; rows_are = refl; place_is = refl };
  held = refl;
  records = the_record ∷ [];
  split = (λ none. cc, [], is_the_record, refl);
  ends = inl (120 ∷ [], [], refl, is_the_record, refl);
  rows = refl;
  some = omega arith;
  fits = record { slice = omega arith; positions = omega arith; places = omega arith };
  slice = λ total row within. all_kept row within;
  no_parts = refl;
  to = refl;
  from = inr (record { source = 0; is_source = omega arith; rows_before = refl; place_is = refl });
  in_order = omega arith;
  passed = none_between;
}

-- no rows stand before the mark, so no piece begins there
pub no_piece_has_the_mark : (rows : ℕ) (awaits_header : Bool) → HasRowsUpTo text_scan marked_file 0 rows awaits_header → ⊥
no_piece_has_the_mark rows awaits_header is = absurd (let h = is.place in omega arith)

-- a line that is not UTF-8, between two rows, is passed by no piece
pub a_line_that_is_not_utf8_is_not_passed : IsUtf8 (bytes_between ((49 ∷ 10 ∷ 35 ∷ 255 ∷ 10 ∷ 50 ∷ 10 ∷ []) ∷ []) 0 2 5) → ⊥
unfolding is_utf8 chars encode
a_line_that_is_not_utf8_is_not_passed utf8 = true≢false (sym (is_utf8-from_IsUtf8 (35 ∷ 255 ∷ 10 ∷ []) utf8))
