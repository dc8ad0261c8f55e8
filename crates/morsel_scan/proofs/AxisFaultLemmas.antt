-- Each fault of a text is that of one of its places.
use Rattle.std.proofs.Common.{◌≡◌, ◌≢◌, ℕ, zero, suc, ◌+◌, ◌<◌, ◌≤◌, ap, sym, subst, refl, ◌∙◌, inl, inr, arith, append_assoc}
use Rattle.std.specs.Prelude.{Bool, true, false, not, ◌⊎◌, if◌then◌else◌, Some, None, Result, Ok, Err, List, [], ◌∷◌, ◌++◌, length}
use Rattle.std.specs.Str.{is_utf8}
use Rattle.std.proofs.lemmas.List.{length-map}
use Rattle.morsel_meaning.specs.declared.value.ColType.{ColType}
use Rattle.morsel_meaning.specs.declared.value.Field.{Field}
use Rattle.morsel_meaning.specs.declared.fault.Fault.{Fault}
use Rattle.morsel_meaning.specs.Values.{Row, kinds_of}
use Rattle.morsel_grammar.specs.Dialect.{Dialect, IsDialect}
use Rattle.morsel_grammar.specs.Grammar.{CsvRecord}
use Rattle.morsel_grammar.specs.Cells.{CsvCell}
use Rattle.morsel_grammar.specs.Rows.{RowOf, NoRow, IsRow, Misfit, is_header, row_of}
use Rattle.morsel_grammar.specs.Reading.{Malformed, NotUtf8, Reading, reading, refuses, row_then, split_then}
use Rattle.morsel_grammar.specs.Results.{flaw_fault, refusal_fault}
use Rattle.morsel_grammar.proofs.JoinedLemmas.{reading-split, reading-record}
use Rattle.morsel_cut.specs.RowCounts.{is_row}
use Rattle.morsel_cut.proofs.CountLemmas.{Agrees, record_agrees}
use Rattle.morsel_pipe.specs.Pieces.{Piece}
use Rattle.morsel_scan.specs.Scans.{CsvScan}
use Rattle.morsel_scan.specs.ScanRows.{Placed, placed, scanned}
use Rattle.morsel_scan.specs.CsvScans.{piece_keeps, piece_source, piece_placed, HasRowFault, UnlessOutOfMemory, IsPieceFault}
use Rattle.morsel_scan.specs.CsvPieces.{IsPieceOf}
use Rattle.morsel_scan.specs.StretchRows.{HasFaultWithin}
use Rattle.morsel_scan.specs.Ahead.{one_if}
use Rattle.morsel_scan.specs.CsvAxis.{text_parts, PartStart, is_row_part, awaits_header_past, start_after, rows_made, record_gives, part_gives, text_axis, files_axis, last_of, gives_of}
use Rattle.morsel_scan.proofs.CountLemmas.{counted}
use Rattle.morsel_scan.proofs.ReadLemmas.{unless-map}
use Rattle.morsel_scan.proofs.StretchLemmas.{Places}
use Rattle.morsel_scan.proofs.PartLemmas.{by_records, found_part, parts-none, parts-record}
use Rattle.morsel_scan.proofs.AxisLemmas.{Maker}
use Rattle.morsel_scan.proofs.AxisFileLemmas.{MakeAlike}
use Rattle.morsel_scan.proofs.MidstLemmas.{midst-order, fault-midst}
use Rattle.morsel_scan.proofs.AxisPieceLemmas.{piece_start, piece_stretch}

-- one of these rows is made a fault
abbrev pub IsMadeFault : Maker → List Placed → Fault → Type 0
IsMadeFault make rows fault = (before : List Placed) × (row : Placed) × (after : List Placed) × (rows ≡ before ++ row ∷ after) × (make row ≡ Err fault)

-- a fault of what was read of a text: that of a record that is refused, or of a row
abbrev pub IsTextFault : Maker → ℕ → List ℕ → ℕ → Reading → Fault → Type 0
IsTextFault make file name position r fault = (refusal_fault file r.refusal ≡ Some fault) ⊎ IsMadeFault make (placed position file name r.rows) fault

-- one of the places has the fault
abbrev pub IsAmong : Places → Fault → Type 0
IsAmong places fault = (before : Places) × (after : Places) × (places ≡ before ++ Err fault ∷ after)

none_among : (before : List Placed) (row : Placed) (after : List Placed) → [] ≡ before ++ row ∷ after → ⊥
none_among [] row after is = cc
none_among (x ∷ before) row after is = cc

row_fault : (make : Maker) (file : ℕ) (name : List ℕ) (at position : ℕ) (cells : List CsvCell) (later : Reading) (fault : Fault) (before : List Placed) (row : Placed) (after : List Placed)
    → (let one : Placed = record { position = position; file = file; source = name; at = at; cells = cells } in
    one ∷ placed (position + 1) file name later.rows ≡ before ++ row ∷ after → make row ≡ Err fault
    → (rows_made (make one) ≡ Err fault) ⊎ IsTextFault make file name (position + 1) later fault)
row_fault make file name at position cells later fault [] row after is made =
    let one : Placed = record { position = position; file = file; source = name; at = at; cells = cells } in
    let same : one ≡ row = cc in inl (ap rows_made (ap make same ∙ made))
row_fault make file name at position cells later fault (x ∷ before) row after is made =
    let rest : placed (position + 1) file name later.rows ≡ before ++ row ∷ after = cc in inr (inr (before, row, after, rest, made))

record_fault : (make : Maker) (file : ℕ) (name : List ℕ) (at position : ℕ) (row : RowOf) (counts : Bool) (later : Reading) (fault : Fault) → Agrees row counts
    → IsTextFault make file name position (row_then false at row later) fault
    → (record_gives make (record { file = file; name = name; at = at; position = position; awaits_header = false }) row ≡ Err fault) ⊎ IsTextFault make file name (position + one_if counts) later fault
record_fault make file name at position NoRow counts later fault agrees is =
    let none : one_if counts ≡ 0 = ap one_if agrees in
    let same : position ≡ position + one_if counts = omega (arith, none) in inr (subst (λ p. IsTextFault make file name p later fault) same is)
record_fault make file name at position (IsRow cells) counts later fault agrees (inl refused) = inr (inl refused)
record_fault make file name at position (IsRow cells) counts later fault agrees (inr (before, row, after, is, made)) =
    let one : one_if counts ≡ 1 = ap one_if agrees in
    let same : position + 1 ≡ position + one_if counts = omega (arith, one) in
    or_later (row_fault make file name at position cells later fault before row after is made) same
  where
    or_later : (rows_made (make (record { position = position; file = file; source = name; at = at; cells = cells })) ≡ Err fault) ⊎ IsTextFault make file name (position + 1) later fault
        → position + 1 ≡ position + one_if counts
        → (rows_made (make (record { position = position; file = file; source = name; at = at; cells = cells })) ≡ Err fault) ⊎ IsTextFault make file name (position + one_if counts) later fault
    or_later (inl here) same = inl here
    or_later (inr more) same = inr (subst (λ p. IsTextFault make file name p later fault) same more)
record_fault make file name at position Misfit counts later fault agrees (inl refused) =
    let same : flaw_fault file at Malformed ≡ fault = cc in inl (ap Err same)
record_fault make file name at position Misfit counts later fault agrees (inr (before, row, after, is, made)) = absurd (none_among before row after is)

part_fault : (s : CsvScan) (make : Maker) (file : ℕ) (name : List ℕ) (at position : ℕ) (head t : Bool) (r : CsvRecord) (later : Bool → Reading) (fault : Fault)
    → (let start : PartStart = record { file = file; name = name; at = at; position = position; awaits_header = head } in
    IsTextFault make file name position (if t then (if head then later (not (is_header r)) else row_then false at (row_of s.options (kinds_of s.scan.fields) r) (later false)) else refuses head at NotUtf8) fault
    → ((if t then (if head then Ok [] else record_gives make start (row_of s.options (kinds_of s.scan.fields) r)) else Err (flaw_fault file at NotUtf8)) ≡ Err fault)
    ⊎ IsTextFault make file name (position + one_if (is_row_part (length s.scan.fields) head (Some r))) (later (awaits_header_past head (Some r))) fault)
part_fault s make file name at position head false r later fault (inl refused) = let same : flaw_fault file at NotUtf8 ≡ fault = cc in inl (ap Err same)
part_fault s make file name at position head false r later fault (inr (before, row, after, is, made)) = absurd (none_among before row after is)
part_fault s make file name at position true true r later fault is =
    let same : position ≡ position + 0 = omega arith in inr (subst (λ p. IsTextFault make file name p (later (not (is_header r))) fault) same is)
part_fault s make file name at position false true r later fault is =
    let types : List ColType = kinds_of s.scan.fields in
    let columns : length types ≡ length s.scan.fields = length-map s.scan.fields (λ (f : Field). f.kind) in
    let P : ℕ → Type 0 = λ n. Agrees (row_of s.options types r) (is_row n r) in
    record_fault make file name at position (row_of s.options types r) (is_row (length s.scan.fields) r) (later false) fault (subst P columns (record_agrees s.options types r)) is

-- the last byte has what the bytes give
last_among : (n : ℕ) (given : Result (List Row) Fault) (later : Places) (fault : Fault) → 0 < n → given ≡ Err fault → IsAmong (last_of n (Ok []) given ++ later) fault
last_among zero given later fault some is = absurd (omega arith)
last_among (suc zero) given later fault some is = ([], later, ap (λ (x : Result (List Row) Fault). x ∷ later) is)
last_among (suc (suc n)) given later fault some is =
    let found = last_among (suc n) given later fault (omega arith) is in (Ok [] ∷ found.0, found.1, ap (λ (x : Places). Ok [] ∷ x) found.2)

later_among : (front places : Places) (fault : Fault) → IsAmong places fault → IsAmong (front ++ places) fault
later_among front places fault (before, after, is) = (front ++ before, after, ap (λ (x : Places). front ++ x) is ∙ sym (append_assoc front before (Err fault ∷ after)))

some_size : (text : List ℕ) → text ≢ [] → 0 < length text
some_size [] some = absurd (some refl)
some_size (b ∷ bs) some = omega arith

-- each fault of a text is that of one of its places
pub fault_among : (s : CsvScan) (make : Maker) → IsDialect s.options → (text : List ℕ) (start : PartStart) (fault : Fault)
    → IsTextFault make start.file start.name start.position (reading s.options (kinds_of s.scan.fields) start.awaits_header start.at text) fault
    → IsAmong (gives_of (text_axis s make start (text_parts s.options text))) fault
fault_among s make fit text =
    let o : Dialect = s.options in
    let types : List ColType = kinds_of s.scan.fields in
    let P : List ℕ → Type 0 = λ text. (start : PartStart) (fault : Fault) → IsTextFault make start.file start.name start.position (reading o types start.awaits_header start.at text) fault
    → IsAmong (gives_of (text_axis s make start (text_parts o text))) fault in
    by_records o P fit (record {
      nothing = λ start fault is. absurd (nothing_read start.file start.position start.name fault is);
      none = λ text some none start fault is.
          let read : reading o types start.awaits_header start.at text ≡ refuses start.awaits_header start.at Malformed =
          reading-split o types start.awaits_header start.at text fit some ∙ ap (λ found. split_then o types start.awaits_header start.at text found (λ head place rest. reading o types head place rest)) none in
          let flaw : Err (flaw_fault start.file start.at Malformed) ≡ Err fault = refused_only start.file start.position start.name start.at start.awaits_header fault (subst (λ r. IsTextFault make start.file start.name start.position r fault) read is) in
          subst (λ parts. IsAmong (gives_of (text_axis s make start parts)) fault) (sym (parts-none o text fit some none))
          (last_among (length text) (Err (flaw_fault start.file start.at Malformed)) [] fault (some_size text some) flaw);
      first = λ r text next bytes taken later start fault is.
          let after : PartStart = start_after (length s.scan.fields) start (found_part bytes r) in
          let some : 0 < length bytes = let size = taken.size in let shorter = taken.shorter in omega arith in
          subst (λ parts. IsAmong (gives_of (text_axis s make start parts)) fault) (sym (parts-record o r text next bytes fit taken))
          (either (length bytes) (part_gives s make start bytes (Some r)) (gives_of (text_axis s make after (text_parts o next))) fault some
          (IsTextFault make after.file after.name after.position (reading o types after.awaits_header after.at next) fault) (later after fault)
          (part_fault s make start.file start.name start.at start.position start.awaits_header (is_utf8 bytes) r (λ head. reading o types head (start.at + length bytes) next) fault
          (subst (λ x. IsTextFault make start.file start.name start.position x fault) (reading-record o types start.awaits_header start.at r text next bytes fit taken) is)));
    }) text
  where
    nothing_read : (file position : ℕ) (name : List ℕ) (fault : Fault) → IsTextFault make file name position (record { rows = []; head = true; refusal = None }) fault → ⊥
    nothing_read file position name fault (inl refused) = cc
    nothing_read file position name fault (inr (before, row, after, is, made)) = none_among before row after is

    refused_only : (file position : ℕ) (name : List ℕ) (at : ℕ) (head : Bool) (fault : Fault) → IsTextFault make file name position (refuses head at Malformed) fault → ◌≡◌ {A = Result (List Row) Fault} (Err (flaw_fault file at Malformed)) (Err fault)
    refused_only file position name at head fault (inl refused) = let same : flaw_fault file at Malformed ≡ fault = cc in ap Err same
    refused_only file position name at head fault (inr (before, row, after, is, made)) = absurd (none_among before row after is)

    either : (n : ℕ) (given : Result (List Row) Fault) (places : Places) (fault : Fault) → 0 < n → (Q : Type 0) → (Q → IsAmong places fault) → (given ≡ Err fault) ⊎ Q → IsAmong (last_of n (Ok []) given ++ places) fault
    either n given places fault some Q more (inl here) = last_among n given places fault some here
    either n given places fault some Q more (inr later) = later_among (last_of n (Ok []) given) places fault (more later)

-- where rows are among those that are placed
placed_within : (position file : ℕ) (name : List ℕ) (rows : List (ℕ × List CsvCell)) (before : List Placed) (row : Placed) (after : List Placed)
    → placed position file name rows ≡ before ++ row ∷ after → (position ≤ row.position) × (row.position < position + length rows)
placed_within position file name [] before row after is = absurd (none_among before row after is)
placed_within position file name (x ∷ rows) [] row after is =
    let one : Placed = record { position = position; file = file; source = name; at = x.0; cells = x.1 } in
    let same : one ≡ row = cc in
    let place : position ≡ row.position = ap (λ (y : Placed). y.position) same in
    (omega (arith, place), omega (arith, place))
placed_within position file name (x ∷ rows) (y ∷ before) row after is =
    let rest : placed (position + 1) file name rows ≡ before ++ row ∷ after = cc in
    let found = placed_within (position + 1) file name rows before row after rest in
    let one = found.0 in
    let two = found.1 in
    (omega arith, omega (arith, two))

-- each fault of a piece is that of a place of its stretch
pub piece_fault : (s : CsvScan) (make : Maker) (first : ℕ) (names files : List (List ℕ)) (piece : Piece) → IsDialect s.options → (is : IsPieceOf s first names files piece)
    → MakeAlike make (scanned s.scan (piece_keeps piece)) piece.first_row piece.rows → (fault : Fault) → IsPieceFault s piece fault
    → UnlessOutOfMemory fault (HasFaultWithin (gives_of (files_axis s make first 0 names files)) piece.from piece.to fault)
piece_fault s make first names files piece fit is alike fault has =
    let gives : Places = gives_of (files_axis s make first 0 names files) in
    unless-map fault (((piece_source s piece).fault ≡ Some fault) ⊎ (HasRowFault s.scan (piece_keeps piece) (piece_placed s piece) fault)) (HasFaultWithin gives piece.from piece.to fault)
    (λ found.
    let start : PartStart = piece_start piece piece.file piece.source piece.first_row in
    let stretch = piece_stretch s make first names files piece fit is in
    let one = midst-order stretch.passed.is in
    let text : IsTextFault make piece.file piece.source piece.first_row (reading s.options (kinds_of s.scan.fields) false piece.at piece.bytes) fault = made_fault found in
    let among = fault_among s make fit piece.bytes start fault text in
    let place = fault-midst gives stretch.start piece.to (gives_of (text_axis s make start (text_parts s.options piece.bytes))) among.0 among.1 fault stretch.is among.2 in
    (place.0, let low = place.1 in let from = one.0 in omega (arith, low, from), place.2, place.3)) has
  where
    made_fault : ((piece_source s piece).fault ≡ Some fault) ⊎ (HasRowFault s.scan (piece_keeps piece) (piece_placed s piece) fault)
        → IsTextFault make piece.file piece.source piece.first_row (reading s.options (kinds_of s.scan.fields) false piece.at piece.bytes) fault
    made_fault (inl refused) = inl refused
    made_fault (inr (before, row, after, rows, made)) =
        let few = (counted s piece.at piece.bytes is.records fit is.split).most in
        let count = is.rows in
        let place = placed_within piece.first_row piece.file piece.source (piece_source s piece).rows before row after rows in
        let low = place.0 in
        let high = place.1 in
        inr (before, row, after, rows, alike row (omega (arith, low)) (omega (arith, high, few, count)) ∙ made)
