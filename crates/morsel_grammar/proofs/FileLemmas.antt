-- Texts that end within quotes, and whole files.
use Rattle.std.proofs.Common.{◌≡◌, ◌≢◌, ℕ, zero, suc, ◌+◌, ap, sym, subst, refl, ◌∙◌}
use Rattle.std.proofs.lemmas.Str.{IsUtf8-append, IsUtf8-past_char}
use lib.Utf8.{encode, scalars}
use Rattle.std.specs.Prelude.{Bool, true, false, ◌&&◌, ◌==◌, ◌↔◌, if◌then◌else◌, Option, Some, None, List, [], ◌∷◌, ◌++◌, length, drop, map, IsUtf8}
use Rattle.morsel_meaning.specs.declared.value.ColType.{ColType}
use Rattle.morsel_meaning.specs.Values.{Row}
use Rattle.morsel_grammar.specs.Dialect.{Dialect, IsDialect}
use Rattle.morsel_grammar.specs.Grammar.{CsvField, CsvRecord, doubled, BeginsComment, Records}
use Rattle.morsel_grammar.specs.Cells.{CsvCell}
use Rattle.morsel_grammar.specs.Split.{is_quote, quoted_at, with_byte, in_quotes, field_at, with_field, fields_then, fields_up_to, fields_record, comment_body, record_then_fields}
use Rattle.morsel_grammar.specs.Rows.{mark_len, unmarked}
use Rattle.morsel_grammar.specs.Reading.{Refusal, reading, read_of}
use Rattle.morsel_grammar.specs.GrammarRows.{awaits_header_after, BeginsNoRecord, HasRows, RowsOfGrammar, OpensQuotes, EndsWithinQuotes}
use Rattle.morsel_grammar.specs.Laws.{ReadsCells, ReadsAllCells, PlacesRows, ReadsRows, ReadsAllRows, RefusesOpenQuotes, ReadsFiles}
use Rattle.morsel_grammar.proofs.ByteLemmas.{byte_itself, same_byte}
use Rattle.morsel_grammar.proofs.QuotedFieldLemmas.{other_goes_on, twice_goes_on}
use Rattle.morsel_grammar.proofs.RecordEndLemmas.{field_at-first}
use Rattle.morsel_grammar.proofs.FieldListLemmas.{next_written}
use Rattle.morsel_grammar.proofs.CommentLemmas.{comment_body-read}
use Rattle.morsel_grammar.proofs.RecordLemmas.{no_body, refuses_by_grammar}
use Rattle.morsel_grammar.proofs.WholeRecordLemmas.{records_behind}
use Rattle.morsel_grammar.proofs.ReadingLemmas.{reading-is, reading-cells, reading-ends}
use Rattle.morsel_grammar.proofs.UsedRowLemmas.{values_in, read_of-rows, read_of-ends}

open_byte : (q b : ℕ) (content : List ℕ) (t : Bool) → (b == q) ≡ t → quoted_at q (doubled q content) ≡ None
    → quoted_at q (if t then b ∷ b ∷ doubled q content else b ∷ doubled q content) ≡ None
open_byte q b content true is later = twice_goes_on q b (doubled q content) is ∙ ap (with_byte q) later
open_byte q b content false other later = other_goes_on q b (doubled q content) other ∙ ap (with_byte b) later

-- content with each quote twice has no end
quoted_at-open : (q : ℕ) (content : List ℕ) → quoted_at q (doubled q content) ≡ None
quoted_at-open q [] = refl
quoted_at-open q (b ∷ content) = open_byte q b content (b == q) refl (quoted_at-open q content)

fields-open : (n : ℕ) (o : Dialect) (fields : List CsvField) (text : List ℕ) → IsDialect o → OpensQuotes o fields text → fields_up_to n o text ≡ None
fields-open zero o fields text fit open_quotes = refl
fields-open (suc n) o [] text fit open_quotes =
    let q : ℕ = open_quotes.0 in
    let is : is_quote o.quote q ≡ true = ap (λ (x : Option ℕ). is_quote x q) open_quotes.2 ∙ byte_itself q in
    ap (λ found. fields_then o found (λ rest. fields_up_to n o rest))
    (ap (field_at o) open_quotes.3 ∙ field_at-first o q (doubled q open_quotes.1) true is ∙ ap in_quotes (quoted_at-open q open_quotes.1))
fields-open (suc n) o (f ∷ fields) text fit open_quotes =
    ap (λ (x : List ℕ). fields_then o (field_at o x) (λ rest. fields_up_to n o rest)) open_quotes.3
    ∙ next_written o f open_quotes.0 open_quotes.1 (λ rest. fields_up_to n o rest) fit open_quotes.2
    ∙ ap (with_field f) (fields-open n o fields open_quotes.1 fit open_quotes.4)

record-open : (o : Dialect) (fields : List CsvField) (text : List ℕ) → IsDialect o → (BeginsComment o text → ⊥) → OpensQuotes o fields text → BeginsNoRecord o text
record-open o fields text fit never open_quotes =
    (refuses_by_grammar o fit text).0
    (ap (record_then_fields o text) (no_body o text (comment_body o.comment text) never (comment_body-read o.comment text))
    ∙ ap fields_record (fields-open (length text + 1) o fields text fit open_quotes))

some_bytes : (front : List ℕ) (b : ℕ) (back : List ℕ) → front ++ b ∷ back ≢ []
some_bytes [] b back = λ is. cc
some_bytes (c ∷ front) b back = λ is. cc

open_some : (o : Dialect) (fields : List CsvField) (text : List ℕ) → OpensQuotes o fields text → text ≢ []
open_some o [] text open_quotes = λ none. some_bytes [] open_quotes.0 (doubled open_quotes.0 open_quotes.1) (sym open_quotes.3 ∙ none)
open_some o (f ∷ fields) text open_quotes = λ none. some_bytes open_quotes.0 o.separator open_quotes.1 (sym open_quotes.3 ∙ none)

no_records : (o : Dialect) (fields : List CsvField) (rest : List ℕ) (records : List CsvRecord) → IsDialect o → (BeginsComment o rest → ⊥) → OpensQuotes o fields rest → Records o rest records → ⊥
no_records o fields rest [] fit never open_quotes none = open_some o fields rest open_quotes none
no_records o fields rest (r ∷ records) fit never open_quotes split = record-open o fields rest fit never open_quotes r split.1 split.2

-- a text that ends within quotes is no list of records
pub open_quotes_no_records : (o : Dialect) (text : List ℕ) (records : List CsvRecord) → IsDialect o → EndsWithinQuotes o text → Records o text records → ⊥
open_quotes_no_records o text records fit open_quotes split =
    let P : List ℕ → Type 0 = λ x. Records o x records in
    let later = records_behind o open_quotes.0 open_quotes.1 open_quotes.2 records fit open_quotes.5 (subst P open_quotes.4 split) in
    no_records o open_quotes.3 open_quotes.1 later.0 fit open_quotes.6 open_quotes.7 later.2

some_refusal : (o : Dialect) (kinds : List ColType) (used : List Bool) (head : Bool) (at : ℕ) (text : List ℕ) (rows : List Row) (awaits_header : Bool) (found : Option Refusal) → IsDialect o
    → EndsWithinQuotes o text → RowsOfGrammar o kinds used head at text rows awaits_header found → (refusal : Refusal) × (found ≡ Some refusal)
some_refusal o kinds used head at text rows awaits_header None fit open_quotes is = absurd (open_quotes_no_records o text is.1.records fit open_quotes is.1.split)
some_refusal o kinds used head at text rows awaits_header (Some refusal) fit open_quotes is = (refusal, refl)

pub refuses_open_quotes : (o : Dialect) → IsDialect o → RefusesOpenQuotes o
refuses_open_quotes o fit = λ kinds used head at text open_quotes.
    let read = read_of used (reading o kinds head at text) in
    some_refusal o kinds used head at text (values_in read.rows) read.head read.refusal fit open_quotes (read_of-rows o kinds used head at text fit)

pub reads_cells : (o : Dialect) → IsDialect o → ReadsCells o
reads_cells o fit = λ kinds head at text. reading-cells o kinds head at text fit

pub reads_all_cells : (o : Dialect) → IsDialect o → ReadsAllCells o
reads_all_cells o fit = λ kinds head at text rows awaits_header has. reading-ends o kinds head at text rows awaits_header fit has

pub places_rows : (o : Dialect) → IsDialect o → PlacesRows o
places_rows o fit = λ kinds head at text before place cells after is. (reading-is o kinds [] head at text fit).rows before place cells after is

pub reads_rows : (o : Dialect) → IsDialect o → ReadsRows o
reads_rows o fit = λ kinds used head at text. read_of-rows o kinds used head at text fit

pub reads_all_rows : (o : Dialect) → IsDialect o → ReadsAllRows o
reads_all_rows o fit = λ kinds used head at text rows awaits_header is. read_of-ends o kinds used head at text is.0 rows awaits_header fit is.1 is.2

-- the byte order mark is one character
mark_utf8 : IsUtf8 (239 ∷ 187 ∷ 191 ∷ [])
unfolding encode scalars
mark_utf8 = (65279 ∷ [], (refl, refl))

encoded_mark : encode 65279 ≡ 239 ∷ 187 ∷ 191 ∷ []
unfolding encode
encoded_mark = refl

-- a text is UTF-8 exactly where it is so after its mark
utf8_marked : (a b c : ℕ) (bytes : List ℕ) (t : Bool) → (a == 239 && (b == 187 && c == 191)) ≡ t
    → IsUtf8 (a ∷ b ∷ c ∷ bytes) ↔ IsUtf8 (drop (if t then 3 else 0) (a ∷ b ∷ c ∷ bytes))
utf8_marked a b c bytes true is =
    let parts = both (a == 239) (b == 187 && c == 191) is in
    let others = both (b == 187) (c == 191) parts.1 in
    let same : a ∷ b ∷ c ∷ bytes ≡ 239 ∷ 187 ∷ 191 ∷ bytes =
    ap (λ (x : ℕ). x ∷ b ∷ c ∷ bytes) (same_byte a 239 parts.0) ∙ ap (λ (x : ℕ). 239 ∷ x ∷ c ∷ bytes) (same_byte b 187 others.0)
    ∙ ap (λ (x : ℕ). 239 ∷ 187 ∷ x ∷ bytes) (same_byte c 191 others.1) in
    let P : List ℕ → Type 0 = λ x. IsUtf8 x in (
      λ utf8. IsUtf8-past_char (239 ∷ 187 ∷ 191 ∷ bytes) bytes 65279 (subst P same utf8) (ap (λ (x : List ℕ). x ++ bytes) (sym encoded_mark)),
      λ utf8. subst P (sym same) (IsUtf8-append (239 ∷ 187 ∷ 191 ∷ []) bytes mark_utf8 utf8),
    )
  where
    both : (s t : Bool) → (s && t) ≡ true → (s ≡ true) × (t ≡ true)
    both true t is = (refl, is)
    both false t is = cc
utf8_marked a b c bytes false is = (λ utf8. utf8, λ utf8. utf8)

utf8_unmarked : (bytes : List ℕ) → IsUtf8 bytes ↔ IsUtf8 (unmarked bytes)
utf8_unmarked [] = (λ utf8. utf8, λ utf8. utf8)
utf8_unmarked (a ∷ []) = (λ utf8. utf8, λ utf8. utf8)
utf8_unmarked (a ∷ b ∷ []) = (λ utf8. utf8, λ utf8. utf8)
utf8_unmarked (a ∷ b ∷ c ∷ bytes) = utf8_marked a b c bytes (a == 239 && (b == 187 && c == 191)) refl

pub reads_files : (o : Dialect) → IsDialect o → ReadsFiles o
reads_files o fit = λ kinds bytes.
    let text : List ℕ = unmarked bytes in
    let at : ℕ = mark_len bytes in (
      λ is.
          let rows_are = is.2.2 in
          let has : HasRows o kinds o.has_header text is.1 (awaits_header_after o.has_header is.2.0) = record {
            utf8 = (utf8_unmarked bytes).0 is.0;
            records = is.2.0;
            split = is.2.1;
            rows_are = is.2.2;
            awaits_header_is = refl;
          } in
          (reading-ends o kinds o.has_header at text is.1 (awaits_header_after o.has_header is.2.0) fit has).0,
      λ none.
          let has = (reading-is o kinds [] o.has_header at text fit).done none in
          ((utf8_unmarked bytes).1 has.utf8, map (λ (row : ℕ × List CsvCell). row.1) (reading o kinds o.has_header at text).rows, (has.records, has.split, has.rows_are)),
    )
