-- Lines without bytes that give no rows.
use Rattle.std.proofs.Common.{◌≡◌, ◌≢◌, inl, inr, ℕ, zero, suc, ◌+◌, ◌-◌, ◌<◌, ◌≤◌, ◌∙◌, sym, ap, refl, arith, subst, Bool, true, false, List, [], ◌∷◌, ◌++◌, length, length-drop, take, drop, replicate}
use Rattle.std.specs.Prelude.{Option, Some, None, Ok, IsUtf8}
use Rattle.std.specs.Str.{is_utf8}
use Rattle.std.proofs.lemmas.List.{append-nil}
use Rattle.std.proofs.lemmas.Str.{IsUtf8-nil, is_utf8-from_IsUtf8}
use Rattle.morsel_meaning.specs.declared.value.ColType.{ColType}
use Rattle.morsel_frame.specs.Columns.{Values}
use Rattle.morsel_grammar.specs.Dialect.{Dialect, IsDialect, IsCommentFor}
use Rattle.morsel_grammar.specs.Grammar.{CsvField, CsvRecord, Fields, BeginsUnquoted}
use Rattle.morsel_grammar.specs.Rows.{NoRow, row_of_nothing}
use Rattle.morsel_grammar.specs.Split.{record_at}
use Rattle.morsel_grammar.specs.Reading.{Read, reading_up_to, read_of, row_then}
use Rattle.morsel_grammar.proofs.RecordLemmas.{record_at-written}
use Rattle.morsel_text.specs.EmptyLines.{GivesNoRow, SkipsEmpty}
use Rattle.morsel_text.specs.Pushes.{column_kinds}
use Rattle.morsel_text.specs.Steps.{left, ReadsAll}
use Rattle.morsel_text.proofs.TextLemmas.{utf8_byte, utf8_behind}
use Rattle.morsel_text.proofs.StepLemmas.{ReadSo, head_reading, row_reading}

-- the record without bytes
abbrev nothing : CsvRecord
nothing = let f : CsvField = record { quoted = false; bytes = [] } in Fields (f ∷ [])

unquoted : (quote : Option ℕ) → BeginsUnquoted quote []
unquoted None = tt
unquoted (Some quote) = tt

no_comment : (eol : ℕ) (comment : Option (List ℕ)) (rest prefix body : List ℕ) → IsCommentFor eol comment → comment ≡ Some prefix → eol ∷ rest ≡ prefix ++ body → ⊥
no_comment eol None rest prefix body fit is same = absurd (cc)
no_comment eol (Some []) rest prefix body fit is same = fit
no_comment eol (Some (b ∷ bs)) rest [] body fit is same = absurd (cc)
no_comment eol (Some (b ∷ bs)) rest (p ∷ ps) body fit is same = let first : b ≡ eol = cc in fit.1.0 first

-- an eol byte ends a record without bytes
empty_record : (o : Dialect) (rest : List ℕ) → IsDialect o → record_at o (o.eol ∷ rest) ≡ Some (nothing, rest)
empty_record o rest fit =
    record_at-written o nothing (o.eol ∷ rest) rest fit (
      λ begun. no_comment o.eol o.comment rest begun.0 begun.1 fit.comment begun.2 begun.3,
      ([], o.eol ∷ rest, (refl, record { no_separator = tt; no_eol = tt; unquoted = unquoted o.quote }), refl, inr (inl refl, λ feed plain ends. ends)),
    )

one_byte : (b : ℕ) (rest : List ℕ) → b < 128 → is_utf8 (take (length (b ∷ rest) - length rest) (b ∷ rest)) ≡ true
one_byte b rest ascii =
    let one : length (b ∷ rest) - length rest ≡ 1 = omega arith in
    ap (λ (n : ℕ). is_utf8 (take n (b ∷ rest))) one ∙ is_utf8-from_IsUtf8 (b ∷ []) (utf8_byte b [] ascii IsUtf8-nil)

nothing_read : (ks : List ColType) → length ks ≢ 1 → row_of_nothing ks ≡ NoRow
nothing_read [] many = refl
nothing_read (k ∷ []) many = absurd (many refl)
nothing_read (k ∷ l ∷ ks) many = refl

passed : (n : ℕ) (o : Dialect) (ks : List ColType) (head : Bool) (at : ℕ) (rest : List ℕ) → IsDialect o → GivesNoRow head (length ks)
    → reading_up_to (suc n) o ks head at (o.eol ∷ rest) ≡ reading_up_to n o ks head (at + (length (o.eol ∷ rest) - length rest)) rest
passed n o ks true at rest fit none = head_reading n o ks at (o.eol ∷ rest) rest nothing (omega arith) (empty_record o rest fit) (one_byte o.eol rest fit.eol_ascii)
passed n o ks false at rest fit (inl none) = absurd (cc)
passed n o ks false at rest fit (inr none) =
    row_reading n o ks at (o.eol ∷ rest) rest nothing (omega arith) (empty_record o rest fit) (one_byte o.eol rest fit.eol_ascii)
    ∙ ap (λ found. row_then false at found (reading_up_to n o ks false (at + (length (o.eol ∷ rest) - length rest)) rest)) (nothing_read ks none)

-- so many lines without bytes are passed
lines_passed : (k n : ℕ) (o : Dialect) (ks : List ColType) (head : Bool) (at : ℕ) (text : List ℕ) → IsDialect o → (0 < k → GivesNoRow head (length ks)) → k ≤ length text
    → take k text ≡ replicate k o.eol → reading_up_to (k + n) o ks head at text ≡ reading_up_to n o ks head (at + k) (drop k text)
lines_passed zero n o ks head at text fit none within empty =
    let same : zero + n ≡ n = omega arith in
    let here : at ≡ at + zero = omega arith in
    ap (λ (m : ℕ). reading_up_to m o ks head at text) same ∙ ap (λ (a : ℕ). reading_up_to n o ks head a text) here
lines_passed (suc k) n o ks head at [] fit none within empty = absurd (omega arith)
lines_passed (suc k) n o ks head at (b ∷ bs) fit none within empty =
    let first : b ≡ o.eol = cc in
    let later : take k bs ≡ replicate k o.eol = cc in
    let one_more : suc k + n ≡ suc (k + n) = omega arith in
    let size : length (o.eol ∷ bs) - length bs ≡ 1 = omega arith in
    let place : at + 1 + k ≡ at + suc k = omega arith in
    ap (λ (m : ℕ). reading_up_to m o ks head at (b ∷ bs)) one_more
    ∙ ap (λ (c : ℕ). reading_up_to (suc (k + n)) o ks head at (c ∷ bs)) first
    ∙ passed (k + n) o ks head at bs fit (none (omega arith))
    ∙ ap (λ (s : ℕ). reading_up_to (k + n) o ks head (at + s) bs) size
    ∙ lines_passed k n o ks head (at + 1) bs fit (λ some. none (omega arith)) (omega arith) later
    ∙ ap (λ (a : ℕ). reading_up_to n o ks head a (drop k bs)) place

-- what is left to read behind them
pub after_empty : (total : Read) (used : List Bool) (ks : List ColType) (o : Dialect) (height at width : ℕ) (head : Bool) (text rest : List ℕ) (columns : List Values) → IsDialect o
    → width ≡ length ks → SkipsEmpty o head width text rest → ReadSo total used ks height columns (left (length text) o ks used head at text)
    → ReadSo total used ks height columns (left (length rest) o ks used head (at + (length text - length rest)) rest)
after_empty total used ks o height at width head text rest columns fit wide skips so_far =
    let k = skips.lines in
    let short : length rest ≡ length text - k = ap length skips.rest_is ∙ length-drop k text in
    let all : length text ≡ k + length rest = omega (arith, skips.within) in
    let moved : at + k ≡ at + (length text - length rest) = omega (arith, skips.within) in
    subst (λ (r : Read). ReadSo total used ks height columns r)
    (ap (λ (m : ℕ). left m o ks used head at text) all
    ∙ ap (read_of used) (lines_passed k (length rest) o ks head at text fit (λ some. subst (GivesNoRow head) wide (skips.no_rows some)) skips.within skips.empty)
    ∙ ap (λ (r : List ℕ). left (length rest) o ks used head (at + k) r) (sym skips.rest_is)
    ∙ ap (λ (a : ℕ). left (length rest) o ks used head a rest) moved)
    so_far

-- what follows them is text where all is
pub text_behind : (o : Dialect) (k : ℕ) (text : List ℕ) → IsDialect o → k ≤ length text → take k text ≡ replicate k o.eol → IsUtf8 text → IsUtf8 (drop k text)
text_behind o zero text fit within empty utf8 = utf8
text_behind o (suc k) [] fit within empty utf8 = absurd (omega arith)
text_behind o (suc k) (b ∷ bs) fit within empty utf8 =
    let first : o.eol ≡ b = cc in
    let later : take k bs ≡ replicate k o.eol = cc in
    text_behind o k bs fit (omega arith) later (utf8_behind [] bs b (subst (λ (c : ℕ). c < 128) first fit.eol_ascii) utf8)

-- nothing is left to read
pub read_ended : (file : ℕ) (total : Read) (used : List Bool) (o : Dialect) (height at : ℕ) (head : Bool) (text : List ℕ) (columns old : List Values) → text ≡ []
    → ReadSo total used (column_kinds old) height columns (left (length text) o (column_kinds old) used head at text) → ReadsAll file used total old (Ok (height, head)) columns
read_ended file total used o height at head text columns old empty so_far =
    let ended : ReadSo total used (column_kinds old) height columns (left 0 o (column_kinds old) used head at []) =
    subst (λ (t : List ℕ). ReadSo total used (column_kinds old) height columns (left (length t) o (column_kinds old) used head at t)) empty so_far in
    (ended.follows.refusal, ended.follows.rows ∙ append-nil _, ended.follows.head, ended.high, ended.kinds)
