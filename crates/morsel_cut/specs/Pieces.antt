-- What a CSV text that comes in chunks is cut into, and what is read of it piece by piece.
use Rattle.std.specs.Prelude.{◌≡◌, ◌≢◌, ℕ, ◌+◌, Bool, List, [], ◌∷◌, ◌++◌, length, take, drop}
use Rattle.std.specs.List.{All, concat}
use Rattle.morsel_meaning.specs.declared.value.ColType.{ColType}
use Rattle.morsel_grammar.specs.Dialect.{Dialect}
use Rattle.morsel_grammar.specs.Grammar.{CsvRecord, IsRecord}
use Rattle.morsel_grammar.specs.Rows.{mark_len, unmarked}
use Rattle.morsel_grammar.specs.Reading.{Reading, Malformed, ends, refuses, reading, Read, read_of}
use Rattle.morsel_grammar.specs.GrammarRows.{AreWholeRecords, BeginsNoRecord}
use Rattle.morsel_grammar.specs.Joined.{joined, joined_read}
use Rattle.morsel_grammar.specs.Machine.{AtOpening, first_state, last_end, RefusesRecord, RefusesEnd}
use Rattle.morsel_grammar.specs.Cuts.{BeginsNoWholeRecord}
use Rattle.morsel_cut.specs.Cutting.{cut_opening, fed_with}

-- how many bytes of a file that came there are up to its last end
abbrev pub last_cut : Dialect → List ℕ → ℕ
last_cut o text = last_end o (first_state o AtOpening) text

-- a piece of some bytes before others; no bytes are no piece
abbrev pub piece_first : List ℕ → List (List ℕ) → List (List ℕ)
piece_first [] pieces = pieces
piece_first (b ∷ bytes) pieces = (b ∷ bytes) ∷ pieces

-- what a chunk adds to the text up to its last end, after what came before
abbrev pub chunk_piece : Dialect → List ℕ → List ℕ → List ℕ
chunk_piece o came chunk = drop (last_cut o came) (take (last_cut o (came ++ chunk)) (came ++ chunk))

-- after each chunk the text that came is cut at its last end; a piece is what stands between two cuts. These are the pieces after what came before
abbrev pub pieces_after : Dialect → List ℕ → List (List ℕ) → List (List ℕ)
pieces_after o came [] = []
pieces_after o came (chunk ∷ chunks) = piece_first (chunk_piece o came chunk) (pieces_after o (came ++ chunk) chunks)

-- the pieces of a file of which these chunks came
abbrev pub cut_pieces : Dialect → List (List ℕ) → List (List ℕ)
cut_pieces o chunks = pieces_after o [] chunks

-- the rest: what came after the last cut
abbrev pub cut_rest : Dialect → List (List ℕ) → List ℕ
cut_rest o chunks = drop (last_cut o (concat chunks)) (concat chunks)

-- the pieces, and then the rest
abbrev pub cut_texts : Dialect → List (List ℕ) → List (List ℕ)
cut_texts o chunks = cut_pieces o chunks ++ cut_rest o chunks ∷ []

-- the texts of the records: the first one stands after the byte order mark
abbrev pub texts_unmarked : List (List ℕ) → List (List ℕ)
texts_unmarked [] = []
texts_unmarked (text ∷ texts) = unmarked text ∷ texts

-- how many bytes the mark takes of the first text
abbrev pub first_mark : List (List ℕ) → ℕ
first_mark [] = 0
first_mark (text ∷ texts) = mark_len text

-- where the records of the rest begin, after these pieces: without any, after the mark
abbrev pub rest_begins : List (List ℕ) → List ℕ → ℕ
rest_begins [] rest = mark_len rest
rest_begins (piece ∷ pieces) rest = length (concat (piece ∷ pieces))

-- the records' text of the rest, after these pieces
abbrev pub rest_unmarked : List (List ℕ) → List ℕ → List ℕ
rest_unmarked [] rest = unmarked rest
rest_unmarked (piece ∷ pieces) rest = rest

-- at least one record, each with its eol byte
abbrev pub IsWhole : Dialect → List ℕ → Type 0
IsWhole o text = (r : CsvRecord) × (records : List CsvRecord) × AreWholeRecords o text (r ∷ records)

-- what is read of texts one after the other: place and header are carried, until a record is refused
abbrev pub reading_each : Dialect → List ColType → Bool → ℕ → List (List ℕ) → Reading
reading_each o kinds head at [] = ends head
reading_each o kinds head at (text ∷ texts) =
    joined (reading o kinds head at text) (λ awaits_header. reading_each o kinds awaits_header (at + length text) texts)

-- the same of the used columns' rows
abbrev pub read_each : Dialect → List ColType → List Bool → Bool → ℕ → List (List ℕ) → Read
read_each o kinds used head at [] = read_of used (ends head)
read_each o kinds used head at (text ∷ texts) =
    joined_read (read_of used (reading o kinds head at text)) (λ awaits_header. read_each o kinds used awaits_header (at + length text) texts)

-- a file is whole records after its mark and before a place, and no record begins there
pub record StopsAtRecord (o : Dialect) (file : List ℕ) (at : ℕ) : Type 0 where
  pub front : List ℕ
  pub records : List CsvRecord
  pub rest : List ℕ
  pub split : unmarked file ≡ front ++ rest
  pub whole : AreWholeRecords o front records
  pub place_is : at ≡ mark_len file + length front
  pub refused : BeginsNoRecord o rest

-- pieces and rest are the text that came
abbrev pub JoinsCutTexts : Dialect → Type 0
JoinsCutTexts o = (chunks : List (List ℕ)) → concat (cut_pieces o chunks) ++ cut_rest o chunks ≡ concat chunks

-- with an end in it, a chunk ends a piece that begins with the rest so far; else it is added to the rest
abbrev pub CutsByChunk : Dialect → Type 0
CutsByChunk o = (file : ℕ) (chunks : List (List ℕ)) (chunk : List ℕ) → (
    let c = fed_with (cut_opening o file) (concat chunks) in
    let n = last_end c.options c.state chunk in
    let more = chunks ++ chunk ∷ [] in
    (n ≡ 0 → (cut_pieces o more ≡ cut_pieces o chunks) × (cut_rest o more ≡ cut_rest o chunks ++ chunk))
    × (n ≢ 0 → (cut_pieces o more ≡ cut_pieces o chunks ++ (cut_rest o chunks ++ take n chunk) ∷ []) × (cut_rest o more ≡ drop n chunk)))

-- each piece is whole records, the first one after its mark
abbrev pub CutsWhole : Dialect → Type 0
CutsWhole o = (chunks : List (List ℕ)) → All (IsWhole o) (texts_unmarked (cut_pieces o chunks))

-- the pieces have all the whole records: the rest begins with none
abbrev pub LeavesNoWhole : Dialect → Type 0
LeavesNoWhole o = (chunks : List (List ℕ)) → BeginsNoWholeRecord o (rest_unmarked (cut_pieces o chunks) (cut_rest o chunks))

-- the first text has the mark of the file
abbrev pub MarksFirst : Dialect → Type 0
MarksFirst o = (chunks : List (List ℕ)) → first_mark (cut_texts o chunks) ≡ mark_len (concat chunks)

-- what is read of a file is what is read of its pieces and of the rest, one after the other
abbrev pub ReadsCutTexts : Dialect → Type 0
ReadsCutTexts o = (kinds : List ColType) (head : Bool) (chunks : List (List ℕ)) → (
    let file = concat chunks in
    reading o kinds head (mark_len file) (unmarked file) ≡ reading_each o kinds head (mark_len file) (texts_unmarked (cut_texts o chunks)))

-- the same of the used columns' rows
abbrev pub ReadsRowsOfCutTexts : Dialect → Type 0
ReadsRowsOfCutTexts o = (kinds : List ColType) (used : List Bool) (head : Bool) (chunks : List (List ℕ)) → (
    let file = concat chunks in
    read_of used (reading o kinds head (mark_len file) (unmarked file)) ≡ read_each o kinds used head (mark_len file) (texts_unmarked (cut_texts o chunks)))

-- the record that is under way begins where the rest does
abbrev pub BeginsWithRest : Dialect → Type 0
BeginsWithRest o = (file : ℕ) (chunks : List (List ℕ)) →
    (fed_with (cut_opening o file) (concat chunks)).begun ≡ rest_begins (cut_pieces o chunks) (cut_rest o chunks)

-- where a record is refused, the file is whole records before the first byte of that record, and none begins there, whatever follows
abbrev pub StopsAtRefused : Dialect → Type 0
StopsAtRefused o = (file : ℕ) (text more : List ℕ) → (let c = fed_with (cut_opening o file) text in
    RefusesRecord c.state → StopsAtRecord o (text ++ more) c.begun)

-- where the file may not end, it is whole records before the first byte of the last record, and none begins there
abbrev pub StopsAtOpenEnd : Dialect → Type 0
StopsAtOpenEnd o = (file : ℕ) (text : List ℕ) → (let c = fed_with (cut_opening o file) text in
    RefusesEnd c.state → StopsAtRecord o text c.begun)

-- where the file may end, the rest is one record, or nothing
abbrev pub EndsWithRest : Dialect → Type 0
EndsWithRest o = (file : ℕ) (chunks : List (List ℕ)) → (RefusesEnd (fed_with (cut_opening o file) (concat chunks)).state → ⊥)
    → (let rest = rest_unmarked (cut_pieces o chunks) (cut_rest o chunks) in rest ≢ [] → (r : CsvRecord) × IsRecord o r rest [])

-- a file that stops at a record is read up to it, and that record is refused, unless one before it is
abbrev pub ReadsUpToRefused : Dialect → Type 0
ReadsUpToRefused o = (kinds : List ColType) (head : Bool) (file : List ℕ) (at : ℕ) (stop : StopsAtRecord o file at) →
    reading o kinds head (mark_len file) (unmarked file)
    ≡ joined (reading o kinds head (mark_len file) stop.front) (λ awaits_header. refuses awaits_header at Malformed)

-- the same of the used columns' rows
abbrev pub ReadsRowsUpToRefused : Dialect → Type 0
ReadsRowsUpToRefused o = (kinds : List ColType) (used : List Bool) (head : Bool) (file : List ℕ) (at : ℕ) (stop : StopsAtRecord o file at) →
    read_of used (reading o kinds head (mark_len file) (unmarked file))
    ≡ joined_read (read_of used (reading o kinds head (mark_len file) stop.front)) (λ awaits_header. read_of used (refuses awaits_header at Malformed))
