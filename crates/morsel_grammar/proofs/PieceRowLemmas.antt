-- The rows of the used columns of a text in two pieces.
use Rattle.std.proofs.Common.{◌≡◌, ℕ, zero, suc, ◌+◌, ◌-◌, ap, sym, refl, ◌∙◌, take}
use Rattle.std.specs.Prelude.{Bool, true, false, not, if◌then◌else◌, Option, Some, None, List, [], ◌∷◌, ◌++◌, length}
use Rattle.std.specs.Str.{is_utf8}
use Rattle.morsel_meaning.specs.declared.value.ColType.{ColType}
use Rattle.morsel_meaning.specs.Values.{Row}
use Rattle.morsel_grammar.specs.Dialect.{Dialect, IsDialect}
use Rattle.morsel_grammar.specs.Grammar.{CsvRecord}
use Rattle.morsel_grammar.specs.Cells.{CsvCell}
use Rattle.morsel_grammar.specs.Rows.{RowOf, NoRow, IsRow, Misfit, is_header, row_of}
use Rattle.morsel_grammar.specs.Split.{record_at}
use Rattle.morsel_grammar.specs.Reading.{Flaw, IllTyped, Malformed, NotUtf8, Refusal, Reading, ends, refuses, row_then, split_then, reading_up_to, reading, used_values, Read, value_then, used_rows, read_of}
use Rattle.morsel_grammar.specs.Joined.{joined_at, joined, joined_read_at, joined_read, ReadsRowsOfPieces}
use Rattle.morsel_grammar.proofs.ByteLemmas.{true_not_false}
use Rattle.morsel_grammar.proofs.JoinedLemmas.{reading-joined}

-- the header does not come twice, and no row comes before it
pub record IsPast (head : Bool) (r : Reading) : Type 0 where
  pub kept : head ≡ false → r.head ≡ false
  pub behind_rows : (row : ℕ × List CsvCell) (rows : List (ℕ × List CsvCell)) → r.rows ≡ row ∷ rows → r.head ≡ false

past_end : (head : Bool) → IsPast head (ends head)
past_end head = record { kept = λ is. is; behind_rows = λ row rows is. cc }

past_refusal : (head : Bool) (at : ℕ) (flaw : Flaw) → IsPast head (refuses head at flaw)
past_refusal head at flaw = record { kept = λ is. is; behind_rows = λ row rows is. cc }

past_row : (at : ℕ) (row : RowOf) (later : Reading) → IsPast false later → IsPast false (row_then false at row later)
past_row at NoRow later is = is
past_row at (IsRow cells) later is = record { kept = is.kept; behind_rows = λ row rows same. is.kept refl }
past_row at Misfit later is = past_refusal false at Malformed

past_header : (awaits_header : Bool) (later : Reading) → IsPast awaits_header later → IsPast true later
past_header awaits_header later is = record { kept = λ never. true_not_false true refl never; behind_rows = is.behind_rows }

past_utf8 : (o : Dialect) (kinds : List ColType) (head : Bool) (at : ℕ) (r : CsvRecord) (later : Bool → Reading) (t : Bool) → ((awaits_header : Bool) → IsPast awaits_header (later awaits_header))
    → IsPast head (if t then (if head then later (not (is_header r)) else row_then false at (row_of o kinds r) (later false)) else refuses head at NotUtf8)
past_utf8 o kinds true at r later true is = past_header (not (is_header r)) (later (not (is_header r))) (is (not (is_header r)))
past_utf8 o kinds false at r later true is = past_row at (row_of o kinds r) (later false) (is false)
past_utf8 o kinds head at r later false is = past_refusal head at NotUtf8

past_split : (o : Dialect) (kinds : List ColType) (head : Bool) (at : ℕ) (text : List ℕ) (found : Option (CsvRecord × List ℕ)) (later : Bool → ℕ → List ℕ → Reading)
    → ((awaits_header : Bool) (place : ℕ) (rest : List ℕ) → IsPast awaits_header (later awaits_header place rest)) → IsPast head (split_then o kinds head at text found later)
past_split o kinds head at text None later is = past_refusal head at Malformed
past_split o kinds head at text (Some split) later is =
    let size : ℕ = length text - length split.1 in
    past_utf8 o kinds head at split.0 (λ awaits_header. later awaits_header (at + size) split.1) (is_utf8 (take size text)) (λ awaits_header. is awaits_header (at + size) split.1)

pub reading_up_to-past : (n : ℕ) (o : Dialect) (kinds : List ColType) (head : Bool) (at : ℕ) (text : List ℕ) → IsPast head (reading_up_to n o kinds head at text)
reading_up_to-past zero o kinds head at [] = past_end head
reading_up_to-past (suc n) o kinds head at [] = past_end head
reading_up_to-past zero o kinds head at (b ∷ bs) = past_end head
reading_up_to-past (suc n) o kinds head at (b ∷ bs) =
    past_split o kinds head at (b ∷ bs) (record_at o (b ∷ bs)) (λ awaits_header place rest. reading_up_to n o kinds awaits_header place rest)
    (λ awaits_header place rest. reading_up_to-past n o kinds awaits_header place rest)

pub reading-past : (o : Dialect) (kinds : List ColType) (head : Bool) (at : ℕ) (text : List ℕ) → IsPast head (reading o kinds head at text)
reading-past o kinds head at text = reading_up_to-past (length text) o kinds head at text

joined_values : (at : ℕ) (row : Row) (rows : List (ℕ × Row)) (head : Bool) (refusal : Option Refusal) (later : Bool → Read)
    → (let all = joined_read_at rows head refusal later in let more : Read = record all { rows = (at, row) ∷ all.rows } in more)
    ≡ joined_read_at ((at, row) ∷ rows) head refusal later
joined_values at row rows head None later = refl
joined_values at row rows head (Some refusal) later = refl

joined_value : (head other : Bool) (at : ℕ) (found : Option Row) (all first : Read) (later : Bool → Read) → other ≡ head → all ≡ joined_read first later
    → value_then other at found all ≡ joined_read (value_then head at found first) later
joined_value head other at None all first later same is =
    ap (λ (x : Bool). let r : Read = record { rows = []; head = x; refusal = Some (record { at = at; flaw = IllTyped }) } in r) same
joined_value head other at (Some row) all first later same is =
    ap (λ (x : Read). let r : Read = record x { rows = (at, row) ∷ x.rows } in r) is ∙ joined_values at row first.rows first.head first.refusal later

joined_used : (used : List Bool) (head other : Bool) (rows more : List (ℕ × List CsvCell)) (refusal : Option Refusal) (later : Bool → Read) → other ≡ head
    → used_rows used other more refusal ≡ later head
    → used_rows used other (rows ++ more) refusal ≡ joined_read (used_rows used head rows None) later
joined_used used head other [] more refusal later same is = is
joined_used used head other (row ∷ rows) more refusal later same is =
    joined_value head other row.0 (used_values used row.1) (used_rows used other (rows ++ more) refusal) (used_rows used head rows None) later same
    (joined_used used head other rows more refusal later same is)

refused_value : (head : Bool) (at : ℕ) (found : Option Row) (first : Read) (later : Bool → Read) → first ≡ joined_read first later
    → value_then head at found first ≡ joined_read (value_then head at found first) later
refused_value head at found first later is = joined_value head head at found first first later refl is

refused_used : (used : List Bool) (head : Bool) (rows : List (ℕ × List CsvCell)) (refusal : Refusal) (later : Bool → Read)
    → used_rows used head rows (Some refusal) ≡ joined_read (used_rows used head rows (Some refusal)) later
refused_used used head [] refusal later = refl
refused_used used head (row ∷ rows) refusal later =
    refused_value head row.0 (used_values used row.1) (used_rows used head rows (Some refusal)) later (refused_used used head rows refusal later)

by_rows : (used : List Bool) (rows : List (ℕ × List CsvCell)) (head : Bool) (later : Bool → Reading)
    → ((row : ℕ × List CsvCell) (more : List (ℕ × List CsvCell)) → rows ≡ row ∷ more → head ≡ false) → ((awaits_header : Bool) → IsPast awaits_header (later awaits_header))
    → used_rows used (later head).head (rows ++ (later head).rows) (later head).refusal ≡ joined_read (used_rows used head rows None) (λ awaits_header. read_of used (later awaits_header))
by_rows used [] head later behind is = refl
by_rows used (row ∷ rows) head later behind is =
    let past : head ≡ false = behind row rows refl in
    joined_used used head (later head).head (row ∷ rows) (later head).rows (later head).refusal (λ awaits_header. read_of used (later awaits_header)) ((is head).kept past ∙ sym past) refl

by_refusal : (used : List Bool) (rows : List (ℕ × List CsvCell)) (head : Bool) (refusal : Option Refusal) (later : Bool → Reading)
    → ((row : ℕ × List CsvCell) (more : List (ℕ × List CsvCell)) → rows ≡ row ∷ more → head ≡ false) → ((awaits_header : Bool) → IsPast awaits_header (later awaits_header))
    → read_of used (joined_at rows head refusal later) ≡ joined_read (used_rows used head rows refusal) (λ awaits_header. read_of used (later awaits_header))
by_refusal used rows head None later behind is = by_rows used rows head later behind is
by_refusal used rows head (Some refusal) later behind is = refused_used used head rows refusal (λ awaits_header. read_of used (later awaits_header))

-- the used columns' rows of two pieces are joined as the cells are
pub read_of-joined : (used : List Bool) (head : Bool) (first : Reading) (later : Bool → Reading) → IsPast head first → ((awaits_header : Bool) → IsPast awaits_header (later awaits_header))
    → read_of used (joined first later) ≡ joined_read (read_of used first) (λ awaits_header. read_of used (later awaits_header))
read_of-joined used head first later past is = by_refusal used first.rows first.head first.refusal later past.behind_rows is

pub reads_rows_of_pieces : (o : Dialect) → IsDialect o → ReadsRowsOfPieces o
reads_rows_of_pieces o fit = λ kinds used head at front rest records whole.
    ap (read_of used) (reading-joined o kinds head at front rest records fit whole)
    ∙ read_of-joined used head (reading o kinds head at front) (λ awaits_header. reading o kinds awaits_header (at + length front) rest)
    (reading-past o kinds head at front) (λ awaits_header. reading-past o kinds awaits_header (at + length front) rest)
