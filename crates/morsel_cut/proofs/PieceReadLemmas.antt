-- What is read of a text that comes in chunks, piece by piece, and where it stops.
use Rattle.std.proofs.Common.{◌≡◌, ◌≢◌, ℕ, ◌+◌, ap, sym, subst, refl, ◌∙◌, inr, append_assoc}
use Rattle.std.proofs.lemmas.List.{append-nil, drop-append-le}
use Rattle.std.proofs.lemmas.List.Elements.{All-head, All-tail}
use Rattle.std.specs.Prelude.{Bool, Option, Some, None, List, [], ◌∷◌, ◌++◌, length, drop}
use Rattle.std.specs.List.{All, concat}
use Rattle.morsel_meaning.specs.declared.value.ColType.{ColType}
use Rattle.morsel_meaning.specs.Values.{Row}
use Rattle.morsel_grammar.specs.Dialect.{Dialect, IsDialect}
use Rattle.morsel_grammar.specs.Grammar.{CsvRecord, IsRecord}
use Rattle.morsel_grammar.specs.Cells.{CsvCell}
use Rattle.morsel_grammar.specs.Rows.{mark_len, unmarked}
use Rattle.morsel_grammar.specs.Reading.{Malformed, Refusal, Reading, ends, refuses, split_then, reading, Read, read_of}
use Rattle.morsel_grammar.specs.GrammarRows.{BeginsNoRecord}
use Rattle.morsel_grammar.specs.Joined.{joined_at, joined, joined_read_at}
use Rattle.morsel_grammar.specs.Machine.{AtOpening, CutState, first_state, cut_after, last_begin, RefusesRecord, RefusesEnd}
use Rattle.morsel_grammar.proofs.RecordLemmas.{reads_by_grammar, refuses_by_grammar}
use Rattle.morsel_grammar.proofs.RunLemmas.{cut_after-append}
use Rattle.morsel_grammar.proofs.FirstEndLemmas.{start, reads_to_first_end}
use Rattle.morsel_grammar.proofs.MarkCutLemmas.{may_end}
use Rattle.morsel_grammar.proofs.OpeningCutLemmas.{mark_len-within}
use Rattle.morsel_grammar.proofs.JoinedLemmas.{reading-split, reads_pieces}
use Rattle.morsel_grammar.proofs.PieceRowLemmas.{reads_rows_of_pieces}
use Rattle.morsel_grammar.proofs.CutLemmas.{refuses_open_end, begins_after_whole}
use Rattle.morsel_grammar.proofs.BegunLemmas.{carries_begun, refuses_for_good}
use Rattle.morsel_cut.specs.Cutting.{cut_opening, fed_with}
use Rattle.morsel_cut.specs.Pieces.{cut_pieces, cut_rest, texts_unmarked, first_mark, IsWhole, reading_each, read_each, StopsAtRecord, ReadsCutTexts, ReadsRowsOfCutTexts, StopsAtRefused, StopsAtOpenEnd, ReadsUpToRefused, ReadsRowsUpToRefused}
use Rattle.morsel_cut.proofs.PieceLemmas.{joins_cut_texts}
use Rattle.morsel_cut.proofs.PieceWholeLemmas.{cuts_whole, marks_first, begun_of}

-- where what follows is read alike, all is
joined_at_same : (rows : List (ℕ × List CsvCell)) (head : Bool) (refusal : Option Refusal) (a b : Bool → Reading) → ((awaits_header : Bool) → a awaits_header ≡ b awaits_header)
    → joined_at rows head refusal a ≡ joined_at rows head refusal b
joined_at_same rows head None a b same = ap (λ (x : Reading). let all : Reading = record x { rows = rows ++ x.rows } in all) (same head)
joined_at_same rows head (Some refusal) a b same = refl

joined_same : (first : Reading) (a b : Bool → Reading) → ((awaits_header : Bool) → a awaits_header ≡ b awaits_header) → joined first a ≡ joined first b
joined_same first a b same = joined_at_same first.rows first.head first.refusal a b same

joined_at_end : (rows : List (ℕ × List CsvCell)) (head : Bool) (refusal : Option Refusal)
    → joined_at rows head refusal (λ awaits_header. ends awaits_header) ≡ record { rows = rows; head = head; refusal = refusal }
joined_at_end rows head None = ap (λ (x : List (ℕ × List CsvCell)). let all : Reading = record { rows = x; head = head; refusal = None } in all) (append-nil rows)
joined_at_end rows head (Some refusal) = refl

joined_read_same : (rows : List (ℕ × Row)) (head : Bool) (refusal : Option Refusal) (a b : Bool → Read) → ((awaits_header : Bool) → a awaits_header ≡ b awaits_header)
    → joined_read_at rows head refusal a ≡ joined_read_at rows head refusal b
joined_read_same rows head None a b same = ap (λ (x : Read). let all : Read = record x { rows = rows ++ x.rows } in all) (same head)
joined_read_same rows head (Some refusal) a b same = refl

joined_read_end : (used : List Bool) (rows : List (ℕ × Row)) (head : Bool) (refusal : Option Refusal)
    → joined_read_at rows head refusal (λ awaits_header. read_of used (ends awaits_header)) ≡ record { rows = rows; head = head; refusal = refusal }
joined_read_end used rows head None = ap (λ (x : List (ℕ × Row)). let all : Read = record { rows = x; head = head; refusal = None } in all) (append-nil rows)
joined_read_end used rows head (Some refusal) = refl

-- pieces of whole records, and then a rest
each_whole : (o : Dialect) (kinds : List ColType) (head : Bool) (at : ℕ) (pieces : List (List ℕ)) (rest : List ℕ) → IsDialect o → All (IsWhole o) pieces
    → reading o kinds head at (concat pieces ++ rest) ≡ reading_each o kinds head at (pieces ++ rest ∷ [])
each_whole o kinds head at [] rest fit whole =
    let all : Reading = reading o kinds head at rest in sym (joined_at_end all.rows all.head all.refusal)
each_whole o kinds head at (piece ∷ pieces) rest fit whole =
    let first = All-head (IsWhole o) piece pieces whole in
    let place : ℕ = at + length piece in
    ap (reading o kinds head at) (append_assoc piece (concat pieces) rest)
    ∙ reads_pieces o fit kinds head at piece (concat pieces ++ rest) (first.0 ∷ first.1) first.2
    ∙ joined_same (reading o kinds head at piece) (λ awaits_header. reading o kinds awaits_header place (concat pieces ++ rest))
    (λ awaits_header. reading_each o kinds awaits_header place (pieces ++ rest ∷ []))
    (λ awaits_header. each_whole o kinds awaits_header place pieces rest fit (All-tail (IsWhole o) piece pieces whole))

rows_each_whole : (o : Dialect) (kinds : List ColType) (used : List Bool) (head : Bool) (at : ℕ) (pieces : List (List ℕ)) (rest : List ℕ) → IsDialect o → All (IsWhole o) pieces
    → read_of used (reading o kinds head at (concat pieces ++ rest)) ≡ read_each o kinds used head at (pieces ++ rest ∷ [])
rows_each_whole o kinds used head at [] rest fit whole =
    let all : Read = read_of used (reading o kinds head at rest) in sym (joined_read_end used all.rows all.head all.refusal)
rows_each_whole o kinds used head at (piece ∷ pieces) rest fit whole =
    let first = All-head (IsWhole o) piece pieces whole in
    let place : ℕ = at + length piece in
    let front : Read = read_of used (reading o kinds head at piece) in
    ap (λ (x : List ℕ). read_of used (reading o kinds head at x)) (append_assoc piece (concat pieces) rest)
    ∙ reads_rows_of_pieces o fit kinds used head at piece (concat pieces ++ rest) (first.0 ∷ first.1) first.2
    ∙ joined_read_same front.rows front.head front.refusal (λ awaits_header. read_of used (reading o kinds awaits_header place (concat pieces ++ rest)))
    (λ awaits_header. read_each o kinds used awaits_header place (pieces ++ rest ∷ []))
    (λ awaits_header. rows_each_whole o kinds used awaits_header place pieces rest fit (All-tail (IsWhole o) piece pieces whole))

-- the records' text is the pieces after the mark of the first, and then the rest
unmarked_split : (piece later text : List ℕ) → piece ++ later ≡ text → mark_len piece ≡ mark_len text → unmarked text ≡ unmarked piece ++ later
unmarked_split piece later text split same =
    ap unmarked (sym split) ∙ ap (λ (n : ℕ). drop n (piece ++ later)) (ap mark_len split ∙ sym same) ∙ drop-append-le (mark_len piece) piece later (mark_len-within piece)

file_each : (o : Dialect) (kinds : List ColType) (head : Bool) (at : ℕ) (pieces : List (List ℕ)) (rest text : List ℕ) → IsDialect o → concat pieces ++ rest ≡ text
    → first_mark (pieces ++ rest ∷ []) ≡ mark_len text → All (IsWhole o) (texts_unmarked pieces)
    → reading o kinds head at (unmarked text) ≡ reading_each o kinds head at (texts_unmarked (pieces ++ rest ∷ []))
file_each o kinds head at [] rest text fit split same whole =
    ap (λ (x : List ℕ). reading o kinds head at (unmarked x)) (sym split) ∙ each_whole o kinds head at [] (unmarked rest) fit whole
file_each o kinds head at (piece ∷ pieces) rest text fit split same whole =
    let later : piece ++ (concat pieces ++ rest) ≡ text = sym (append_assoc piece (concat pieces) rest) ∙ split in
    ap (reading o kinds head at) (unmarked_split piece (concat pieces ++ rest) text later same ∙ sym (append_assoc (unmarked piece) (concat pieces) rest))
    ∙ each_whole o kinds head at (unmarked piece ∷ pieces) rest fit whole

rows_file_each : (o : Dialect) (kinds : List ColType) (used : List Bool) (head : Bool) (at : ℕ) (pieces : List (List ℕ)) (rest text : List ℕ) → IsDialect o → concat pieces ++ rest ≡ text
    → first_mark (pieces ++ rest ∷ []) ≡ mark_len text → All (IsWhole o) (texts_unmarked pieces)
    → read_of used (reading o kinds head at (unmarked text)) ≡ read_each o kinds used head at (texts_unmarked (pieces ++ rest ∷ []))
rows_file_each o kinds used head at [] rest text fit split same whole =
    ap (λ (x : List ℕ). read_of used (reading o kinds head at (unmarked x))) (sym split) ∙ rows_each_whole o kinds used head at [] (unmarked rest) fit whole
rows_file_each o kinds used head at (piece ∷ pieces) rest text fit split same whole =
    let later : piece ++ (concat pieces ++ rest) ≡ text = sym (append_assoc piece (concat pieces) rest) ∙ split in
    ap (λ (x : List ℕ). read_of used (reading o kinds head at x)) (unmarked_split piece (concat pieces ++ rest) text later same ∙ sym (append_assoc (unmarked piece) (concat pieces) rest))
    ∙ rows_each_whole o kinds used head at (unmarked piece ∷ pieces) rest fit whole

pub reads_cut_texts : (o : Dialect) → IsDialect o → ReadsCutTexts o
reads_cut_texts o fit = λ kinds head chunks.
    file_each o kinds head (mark_len (concat chunks)) (cut_pieces o chunks) (cut_rest o chunks) (concat chunks) fit
    (joins_cut_texts o chunks) (marks_first o fit chunks) (cuts_whole o fit chunks)

pub reads_rows_of_cut_texts : (o : Dialect) → IsDialect o → ReadsRowsOfCutTexts o
reads_rows_of_cut_texts o fit = λ kinds used head chunks.
    rows_file_each o kinds used head (mark_len (concat chunks)) (cut_pieces o chunks) (cut_rest o chunks) (concat chunks) fit
    (joins_cut_texts o chunks) (marks_first o fit chunks) (cuts_whole o fit chunks)

-- where a file stops
stops_at_begin : (o : Dialect) (text : List ℕ) → IsDialect o → RefusesEnd (cut_after o (first_state o AtOpening) text)
    → StopsAtRecord o text (last_begin o (first_state o AtOpening) text)
stops_at_begin o text fit refuses =
    let before = begins_after_whole o fit AtOpening text tt in
    record {
      front = before.0;
      records = before.1;
      rest = drop (last_begin o (first_state o AtOpening) text) text;
      split = before.3;
      whole = before.2;
      place_is = before.4;
      refused = refuses_open_end o fit AtOpening text tt refuses;
    }

pub stops_at_open_end : (o : Dialect) → IsDialect o → StopsAtOpenEnd o
stops_at_open_end o fit = λ file text refuses.
    let P : ℕ → Type 0 = λ at. StopsAtRecord o text at in
    subst P (sym (begun_of o file text)) (stops_at_begin o text fit refuses)

begun_still : (o : Dialect) (file : ℕ) (text more : List ℕ) → RefusesRecord (cut_after o (first_state o AtOpening) text)
    → (fed_with (cut_opening o file) (text ++ more)).begun ≡ (fed_with (cut_opening o file) text).begun
begun_still o file text more refused =
    let c = fed_with (cut_opening o file) text in
    carries_begun o (first_state o AtOpening) 0 0 text more
    ∙ (refuses_for_good o (cut_after o (first_state o AtOpening) text) more refused).2 (0 + length text) c.begun

pub stops_at_refused : (o : Dialect) → IsDialect o → StopsAtRefused o
stops_at_refused o fit = λ file text more refused.
    let opening : CutState = first_state o AtOpening in
    let still : cut_after o opening (text ++ more) ≡ cut_after o opening text =
    cut_after-append o opening text more ∙ (refuses_for_good o (cut_after o opening text) more refused).0 in
    let P : ℕ → Type 0 = λ at. StopsAtRecord o (text ++ more) at in
    let Q : CutState → Type 0 = λ s. RefusesEnd s in
    subst P (begun_still o file text more refused) (stops_at_open_end o fit file (text ++ more) (subst Q (sym still) (inr refused.1)))

-- nothing is read where no record begins
some_rest : (o : Dialect) (rest : List ℕ) → IsDialect o → BeginsNoRecord o rest → rest ≢ []
some_rest o rest fit never = λ none.
    let found = reads_to_first_end o fit [] [] (inr (refl, refl, may_end (start o) tt)) in
    let P : List ℕ → Type 0 = λ x. IsRecord o found.0 x [] in
    never found.0 [] (subst P (sym none) ((reads_by_grammar o fit [] found.0 []).0 found.1))

reading_refused : (o : Dialect) (kinds : List ColType) (head : Bool) (at : ℕ) (rest : List ℕ) → IsDialect o → BeginsNoRecord o rest
    → reading o kinds head at rest ≡ refuses head at Malformed
reading_refused o kinds head at rest fit never =
    reading-split o kinds head at rest fit (some_rest o rest fit never)
    ∙ ap (λ (found : Option (CsvRecord × List ℕ)). split_then o kinds head at rest found (λ awaits_header place left. reading o kinds awaits_header place left))
    ((refuses_by_grammar o fit rest).1 never)

pub reads_up_to_refused : (o : Dialect) → IsDialect o → ReadsUpToRefused o
reads_up_to_refused o fit = λ kinds head file at stop.
    let mark : ℕ = mark_len file in
    let place : ℕ = mark + length stop.front in
    ap (reading o kinds head mark) stop.split
    ∙ reads_pieces o fit kinds head mark stop.front stop.rest stop.records stop.whole
    ∙ joined_same (reading o kinds head mark stop.front) (λ awaits_header. reading o kinds awaits_header place stop.rest) (λ awaits_header. refuses awaits_header at Malformed)
    (λ awaits_header. reading_refused o kinds awaits_header place stop.rest fit stop.refused
    ∙ ap (λ (n : ℕ). refuses awaits_header n Malformed) (sym stop.place_is))

pub reads_rows_up_to_refused : (o : Dialect) → IsDialect o → ReadsRowsUpToRefused o
reads_rows_up_to_refused o fit = λ kinds used head file at stop.
    let mark : ℕ = mark_len file in
    let place : ℕ = mark + length stop.front in
    let front : Read = read_of used (reading o kinds head mark stop.front) in
    ap (λ (x : List ℕ). read_of used (reading o kinds head mark x)) stop.split
    ∙ reads_rows_of_pieces o fit kinds used head mark stop.front stop.rest stop.records stop.whole
    ∙ joined_read_same front.rows front.head front.refusal
    (λ awaits_header. read_of used (reading o kinds awaits_header place stop.rest)) (λ awaits_header. read_of used (refuses awaits_header at Malformed))
    (λ awaits_header. ap (read_of used) (reading_refused o kinds awaits_header place stop.rest fit stop.refused
    ∙ ap (λ (n : ℕ). refuses awaits_header n Malformed) (sym stop.place_is)))
