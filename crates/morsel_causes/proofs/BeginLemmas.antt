-- What begins at a place of files that has a fault.
use Rattle.std.proofs.Common.{◌≡◌, ◌≢◌, ℕ, zero, suc, ◌+◌, ap, sym, subst, refl, ◌∙◌, inl, inr, arith, append_assoc, length-append}
use Rattle.std.specs.Prelude.{Bool, true, false, not, ◌⊎◌, if◌then◌else◌, Some, None, Result, Ok, Err, List, [], ◌∷◌, ◌++◌, length, take, slice_get}
use Rattle.morsel_meaning.specs.declared.fault.Fault.{Fault}
use Rattle.morsel_meaning.specs.declared.fault.Fault.TheVariants as faults
use Rattle.morsel_meaning.specs.Values.{Row}
use Rattle.morsel_grammar.specs.Dialect.{Dialect, IsDialect}
use Rattle.morsel_grammar.specs.Grammar.{CsvRecord, IsRecord}
use Rattle.morsel_grammar.specs.Rows.{is_header, behind_header, mark_len, unmarked}
use Rattle.morsel_grammar.specs.GrammarRows.{AreWholeRecords, awaits_header_after}
use Rattle.morsel_grammar.specs.Split.{record_at}
use Rattle.morsel_grammar.proofs.FirstRecordLemmas.{IsTaken}
use Rattle.morsel_grammar.proofs.WholeRecordLemmas.{record_again}
use Rattle.morsel_cut.specs.RowCounts.{row_count}
use Rattle.morsel_scan.specs.Scans.{CsvScan}
use Rattle.morsel_scan.specs.CsvAxis.{text_parts, PartStart, awaits_header_past, start_after, part_gives, AxisPart, text_axis, file_axis, rows_counted, files_axis, last_of, gives_of}
use Rattle.morsel_scan.proofs.StretchLemmas.{Places}
use Rattle.morsel_scan.proofs.PartLemmas.{by_records, found_part, parts-none, parts-record}
use Rattle.morsel_scan.proofs.AxisLemmas.{Maker, gives_of-append}
use Rattle.morsel_scan.proofs.AxisFileLemmas.{file_start, rows_counted-file}
use Rattle.morsel_query.specs.CsvCauses.{records_in, rows_among, rows_in_all}
use Rattle.morsel_causes.proofs.RecordsInLemmas.{rows_in_all-cons, rows_past, rows_counted-in}

-- the fault is at one of the places
abbrev pub HasFault : Places → Fault → Type 0
HasFault places fault = (n : ℕ) × (slice_get places n ≡ Some (Err fault))

-- a fault of places in two parts is one of either
of_either : (first later : Places) (n : ℕ) (fault : Fault) → slice_get (first ++ later) n ≡ Some (Err fault) → HasFault first fault ⊎ HasFault later fault
of_either [] later n fault is = inr (n, is)
of_either (x ∷ first) later zero fault is = inl (0, is)
of_either (x ∷ first) later (suc n) fault is = further (of_either first later n fault is)
  where
    further : HasFault first fault ⊎ HasFault later fault → HasFault (x ∷ first) fault ⊎ HasFault later fault
    further (inl (m, here)) = inl (suc m, here)
    further (inr there) = inr there

-- where the last of some bytes gives this, and each other nothing, a fault is this, or comes later
of_last : (size : ℕ) (given : Result (List Row) Fault) (later : Places) (n : ℕ) (fault : Fault) → slice_get (last_of size (Ok []) given ++ later) n ≡ Some (Err fault)
    → (given ≡ Err fault) ⊎ HasFault later fault
of_last zero given later n fault is = inr (n, is)
of_last (suc zero) given later zero fault is = inl (cc)
of_last (suc zero) given later (suc n) fault is = inr (n, is)
of_last (suc (suc size)) given later zero fault is = absurd (cc)
of_last (suc (suc size)) given later (suc n) fault is = of_last (suc size) given later n fault is

-- a text begins with no record, or with one that gives the fault
abbrev pub BeginsFault : CsvScan → Maker → PartStart → List ℕ → Fault → Type 0
BeginsFault s make start rest fault = ((record_at s.options rest ≡ None) × (fault ≡ faults.Malformed start.file start.at))
    ⊎ ((r : CsvRecord) × (next : List ℕ) × (bytes : List ℕ) × IsTaken s.options r rest next bytes × (part_gives s make start bytes (Some r) ≡ Err fault))

-- after whole records of a text there begins what has the fault
pub record FaultInText (s : CsvScan) (make : Maker) (start : PartStart) (text : List ℕ) (fault : Fault) : Type 0 where
  pub front : List ℕ
  pub records : List CsvRecord
  pub rest : List ℕ
  pub split : text ≡ front ++ rest
  pub whole : AreWholeRecords s.options front records
  pub some : rest ≢ []
  pub here : PartStart
  pub file_is : here.file ≡ start.file
  pub at_is : here.at ≡ start.at + length front
  pub position_is : here.position ≡ start.position + row_count (length s.scan.fields) (behind_header start.awaits_header records)
  pub header_is : here.awaits_header ≡ awaits_header_after start.awaits_header records
  pub begins : BeginsFault s make here rest fault

awaits_nothing : (head : Bool) → head ≡ awaits_header_after head []
awaits_nothing true = refl
awaits_nothing false = refl

no_rows : (columns position : ℕ) (head : Bool) → position ≡ position + row_count columns (behind_header head [])
no_rows columns position true = omega arith
no_rows columns position false = omega arith

-- the text begins with it
fault_first : (s : CsvScan) (make : Maker) (start : PartStart) (text : List ℕ) (fault : Fault) → text ≢ [] → BeginsFault s make start text fault → FaultInText s make start text fault
fault_first s make start text fault some begins = record {
  front = [];
  records = [];
  rest = text;
  split = refl;
  whole = refl;
  some = some;
  here = start;
  file_is = refl;
  at_is = omega arith;
  position_is = no_rows (length s.scan.fields) start.position start.awaits_header;
  header_is = awaits_nothing start.awaits_header;
  begins = begins;
}

awaits_not : (t : Bool) (records : List CsvRecord) → (if t then false else awaits_header_after true records) ≡ awaits_header_after (not t) records
awaits_not true records = refl
awaits_not false records = refl

header_past : (head : Bool) (r : CsvRecord) (records : List CsvRecord) → awaits_header_after (awaits_header_past head (Some r)) records ≡ awaits_header_after head (r ∷ records)
header_past true r records = sym (awaits_not (is_header r) records)
header_past false r records = refl

no_front : (front rest : List ℕ) → [] ≡ front ++ rest → rest ≡ []
no_front [] rest is = sym is
no_front (b ∷ front) rest is = cc

-- the text goes on with it after a record
fault_later : (s : CsvScan) (make : Maker) (start : PartStart) (r : CsvRecord) (text next bytes : List ℕ) (fault : Fault) → IsDialect s.options → IsTaken s.options r text next bytes
    → FaultInText s make (start_after (length s.scan.fields) start (found_part bytes r)) next fault → FaultInText s make start text fault
fault_later s make start r text next bytes fault fit taken h = by taken.end
  where
    by : (next ≡ []) ⊎ ((line : List ℕ) × (bytes ≡ line ++ s.options.eol ∷ [])) → FaultInText s make start text fault
    by (inl none) = absurd (h.some (no_front h.front h.rest (sym none ∙ h.split)))
    by (inr (line, is)) =
        let eol : ℕ = s.options.eol in
        let split : text ≡ line ++ eol ∷ next = taken.split ∙ ap (λ (x : List ℕ). x ++ next) is ∙ append_assoc line (eol ∷ []) next in
        let whole : bytes ++ h.front ≡ line ++ eol ∷ h.front = ap (λ (x : List ℕ). x ++ h.front) is ∙ append_assoc line (eol ∷ []) h.front in
        let P : List ℕ → Type 0 = λ x. IsRecord s.options r x h.front in
        let first : IsRecord s.options r (bytes ++ h.front) h.front = subst P (sym whole) (record_again s.options r text line next fit taken.is split h.front) in
        let at = h.at_is in
        let size = length-append bytes h.front in
        let position = h.position_is in
        let past = rows_past (length s.scan.fields) start.awaits_header r h.records in
        record {
          front = bytes ++ h.front;
          records = r ∷ h.records;
          rest = h.rest;
          split = taken.split ∙ ap (λ (x : List ℕ). bytes ++ x) h.split ∙ sym (append_assoc bytes h.front h.rest);
          whole = (line, h.front, whole, first, h.whole);
          some = h.some;
          here = h.here;
          file_is = h.file_is;
          at_is = omega (arith, at, size);
          position_is = omega (arith, position, past);
          header_is = h.header_is ∙ header_past start.awaits_header r h.records;
          begins = h.begins;
        }

-- each fault of a text's places begins at one of its records, or where none begins
pub fault_in_text : (s : CsvScan) (make : Maker) → IsDialect s.options → (text : List ℕ) (start : PartStart) (fault : Fault) (n : ℕ)
    → slice_get (gives_of (text_axis s make start (text_parts s.options text))) n ≡ Some (Err fault) → FaultInText s make start text fault
fault_in_text s make fit text =
    let o : Dialect = s.options in
    let P : List ℕ → Type 0 = λ text. (start : PartStart) (fault : Fault) (n : ℕ) → slice_get (gives_of (text_axis s make start (text_parts o text))) n ≡ Some (Err fault) → FaultInText s make start text fault in
    by_records o P fit (record {
      nothing = λ start fault n is. absurd (cc);
      none = λ text some none start fault n is.
          let at : slice_get (last_of (length text) (Ok []) (Err (faults.Malformed start.file start.at)) ++ []) n ≡ Some (Err fault) =
          ap (λ parts. slice_get (gives_of (text_axis s make start parts)) n) (sym (parts-none o text fit some none)) ∙ is in
          fault_first s make start text fault some (inl (none, refused start.file start.at fault (of_last (length text) (Err (faults.Malformed start.file start.at)) [] n fault at)));
      first = λ r text next bytes taken later start fault n is.
          let after : PartStart = start_after (length s.scan.fields) start (found_part bytes r) in
          let rest : Places = gives_of (text_axis s make after (text_parts o next)) in
          let at : slice_get (last_of (length bytes) (Ok []) (part_gives s make start bytes (Some r)) ++ rest) n ≡ Some (Err fault) =
          ap (λ parts. slice_get (gives_of (text_axis s make start parts)) n) (sym (parts-record o r text next bytes fit taken)) ∙ is in
          either r text next bytes taken start fault (later after fault) (of_last (length bytes) (part_gives s make start bytes (Some r)) rest n fault at);
    }) text
  where
    refused : (file at : ℕ) (fault : Fault) → (◌≡◌ {A = Result (List Row) Fault} (Err (faults.Malformed file at)) (Err fault)) ⊎ HasFault [] fault → fault ≡ faults.Malformed file at
    refused file at fault (inl is) = cc
    refused file at fault (inr (n, is)) = absurd (cc)

    either : (r : CsvRecord) (text next bytes : List ℕ) → IsTaken s.options r text next bytes → (start : PartStart) (fault : Fault)
        → (let after = start_after (length s.scan.fields) start (found_part bytes r) in
        let rest = gives_of (text_axis s make after (text_parts s.options next)) in
        ((n : ℕ) → slice_get rest n ≡ Some (Err fault) → FaultInText s make after next fault)
        → (part_gives s make start bytes (Some r) ≡ Err fault) ⊎ HasFault rest fault → FaultInText s make start text fault)
    either r text next bytes taken start fault later (inl here) = fault_first s make start text fault taken.some (inr (r, next, bytes, taken, here))
    either r text next bytes taken start fault later (inr (n, is)) = fault_later s make start r text next bytes fault fit taken (later n is)

-- in one of the files there begins what has the fault
pub record FaultInFiles (s : CsvScan) (make : Maker) (first position : ℕ) (files : List (List ℕ)) (fault : Fault) : Type 0 where
  pub source : ℕ
  pub bytes : List ℕ
  pub is_source : slice_get files source ≡ Some bytes
  pub start : PartStart
  pub file_is : start.file ≡ first + source
  pub at_is : start.at ≡ mark_len bytes
  pub position_is : start.position ≡ position + rows_in_all s (take source files)
  pub header_is : start.awaits_header ≡ s.options.has_header
  pub has : FaultInText s make start (unmarked bytes) fault

-- each fault of the files' places begins in one of them
pub fault_in_files : (s : CsvScan) (make : Maker) → IsDialect s.options → (first position : ℕ) (names files : List (List ℕ)) (fault : Fault) (n : ℕ)
    → slice_get (gives_of (files_axis s make first position names files)) n ≡ Some (Err fault) → FaultInFiles s make first position files fault
fault_in_files s make fit first position [] files fault n is = absurd (cc)
fault_in_files s make fit first position (name ∷ names) [] fault n is = absurd (cc)
fault_in_files s make fit first position (name ∷ names) (bytes ∷ files) fault n is =
    let here : List AxisPart = file_axis s make first name position bytes in
    let next : ℕ = position + rows_counted here in
    let later : List AxisPart = files_axis s make (first + 1) next names files in
    let at : slice_get (gives_of here ++ gives_of later) n ≡ Some (Err fault) = ap (λ (places : Places). slice_get places n) (sym (gives_of-append here later)) ∙ is in
    by (of_either (gives_of here) (gives_of later) n fault at) (λ m there. fault_in_files s make fit (first + 1) next names files fault m there)
  where
    in_text : (◌≡◌ {A = Result (List Row) Fault} (Ok []) (Err fault)) ⊎ HasFault (gives_of (text_axis s make (file_start s first name position bytes) (text_parts s.options (unmarked bytes)))) fault → FaultInFiles s make first position (bytes ∷ files) fault
    in_text (inl none) = absurd (cc)
    in_text (inr (m, there)) = record {
      source = 0;
      bytes = bytes;
      is_source = refl;
      start = file_start s first name position bytes;
      file_is = omega arith;
      at_is = refl;
      position_is = omega arith;
      header_is = refl;
      has = fault_in_text s make fit (unmarked bytes) (file_start s first name position bytes) fault m there;
    }

    moved : FaultInFiles s make (first + 1) (position + rows_counted (file_axis s make first name position bytes)) files fault → FaultInFiles s make first position (bytes ∷ files) fault
    moved found =
        let file = found.file_is in
        let place = found.position_is in
        let all = rows_in_all-cons s bytes (take found.source files) in
        let counted : rows_counted (file_axis s make first name position bytes) ≡ rows_among s (records_in s.options (unmarked bytes)) =
        rows_counted-file s make first name position bytes ∙ rows_counted-in s make (file_start s first name position bytes) (text_parts s.options (unmarked bytes)) in
        record {
          source = suc found.source;
          bytes = found.bytes;
          is_source = found.is_source;
          start = found.start;
          file_is = omega (arith, file);
          at_is = found.at_is;
          position_is = omega (arith, place, all, counted);
          header_is = found.header_is;
          has = found.has;
        }

    by : HasFault (gives_of (file_axis s make first name position bytes)) fault ⊎ HasFault (gives_of (files_axis s make (first + 1) (position + rows_counted (file_axis s make first name position bytes)) names files)) fault
        → ((m : ℕ) → slice_get (gives_of (files_axis s make (first + 1) (position + rows_counted (file_axis s make first name position bytes)) names files)) m ≡ Some (Err fault)
        → FaultInFiles s make (first + 1) (position + rows_counted (file_axis s make first name position bytes)) files fault)
        → FaultInFiles s make first position (bytes ∷ files) fault
    by (inl (m, there)) more = in_text (of_last (mark_len bytes) (Ok []) (gives_of (text_axis s make (file_start s first name position bytes) (text_parts s.options (unmarked bytes)))) m fault there)
    by (inr (m, there)) more = moved (more m there)
