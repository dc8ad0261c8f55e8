-- Rows that are read have a cell for each column.
use Rattle.std.proofs.Common.{◌≡◌, ℕ, zero, suc, ◌+◌, ◌-◌, ap, refl, take, drop}
use Rattle.std.specs.Prelude.{Bool, true, false, not, if◌then◌else◌, Option, Some, None, List, [], ◌∷◌, length}
use Rattle.std.specs.Str.{is_utf8}
use Rattle.morsel_meaning.specs.declared.value.ColType.{ColType}
use Rattle.morsel_grammar.specs.Dialect.{Dialect}
use Rattle.morsel_grammar.specs.Grammar.{CsvField, CsvRecord, Comment, Fields}
use Rattle.morsel_grammar.specs.Cells.{CsvCell}
use Rattle.morsel_grammar.specs.Rows.{RowOf, NoRow, IsRow, Misfit, is_empty, cells_of, row_or_misfit, row_of_nothing, is_header, row_of}
use Rattle.morsel_grammar.specs.Split.{record_at}
use Rattle.morsel_grammar.specs.Reading.{NotUtf8, Reading, refuses, row_then, split_then, reading_up_to, reading}

-- each row has so many cells
abbrev pub AreWide : ℕ → List (ℕ × List CsvCell) → Type 0
AreWide width [] = Unit {0}
AreWide width (row ∷ rows) = (length row.1 ≡ width) × AreWide width rows

abbrev IsWide : ℕ → RowOf → Type 0
IsWide width NoRow = Unit {0}
IsWide width (IsRow cells) = length cells ≡ width
IsWide width Misfit = Unit {0}

-- where cells were found, there are as many as columns
abbrev AreFound : ℕ → Option (List CsvCell) → Type 0
AreFound width None = Unit {0}
AreFound width (Some cells) = length cells ≡ width

found_cells : (o : Dialect) (kinds : List ColType) (fields : List CsvField) → AreFound (length kinds) (cells_of o kinds fields)
found_cells o [] [] = refl
found_cells o [] (f ∷ fields) = tt
found_cells o (kind ∷ kinds) [] = tt
found_cells o (kind ∷ kinds) (f ∷ fields) = by (cells_of o kinds fields) refl (found_cells o kinds fields)
  where
    by : (found : Option (List CsvCell)) → cells_of o kinds fields ≡ found → AreFound (length kinds) (cells_of o kinds fields) → AreFound (suc (length kinds)) (cells_of o (kind ∷ kinds) (f ∷ fields))
    by None is wide = rw is tt
    by (Some cells) is wide = rw is (ap suc (rw is at wide))

wide_nothing : (kinds : List ColType) → IsWide (length kinds) (row_of_nothing kinds)
wide_nothing [] = tt
wide_nothing (kind ∷ []) = refl
wide_nothing (kind ∷ other ∷ kinds) = tt

wide_found : (width : ℕ) (found : Option (List CsvCell)) → AreFound width found → IsWide width (row_or_misfit found)
wide_found width None wide = tt
wide_found width (Some cells) wide = wide

wide_fields : (o : Dialect) (kinds : List ColType) (fields : List CsvField) (t : Bool) → IsWide (length kinds) (if t then row_of_nothing kinds else row_or_misfit (cells_of o kinds fields))
wide_fields o kinds fields true = wide_nothing kinds
wide_fields o kinds fields false = wide_found (length kinds) (cells_of o kinds fields) (found_cells o kinds fields)

wide_row : (o : Dialect) (kinds : List ColType) (r : CsvRecord) → IsWide (length kinds) (row_of o kinds r)
wide_row o kinds (Comment body) = tt
wide_row o kinds (Fields fields) = wide_fields o kinds fields (is_empty fields)

wide_then : (width at : ℕ) (row : RowOf) (later : Reading) → IsWide width row → AreWide width later.rows → AreWide width (row_then false at row later).rows
wide_then width at NoRow later one all = all
wide_then width at (IsRow cells) later one all = (one, all)
wide_then width at Misfit later one all = tt

wide_record : (o : Dialect) (kinds : List ColType) (head : Bool) (at : ℕ) (r : CsvRecord) (later : Bool → Reading) (t : Bool) → ((awaits_header : Bool) → AreWide (length kinds) (later awaits_header).rows)
    → AreWide (length kinds) (if t then (if head then later (not (is_header r)) else row_then false at (row_of o kinds r) (later false)) else refuses head at NotUtf8).rows
wide_record o kinds true at r later true all = all (not (is_header r))
wide_record o kinds false at r later true all = wide_then (length kinds) at (row_of o kinds r) (later false) (wide_row o kinds r) (all false)
wide_record o kinds head at r later false all = tt

wide_split : (o : Dialect) (kinds : List ColType) (head : Bool) (at : ℕ) (text : List ℕ) (found : Option (CsvRecord × List ℕ)) (later : Bool → ℕ → List ℕ → Reading)
    → ((awaits_header : Bool) (place : ℕ) (rest : List ℕ) → AreWide (length kinds) (later awaits_header place rest).rows) → AreWide (length kinds) (split_then o kinds head at text found later).rows
wide_split o kinds head at text None later all = tt
wide_split o kinds head at text (Some split) later all =
    let size : ℕ = length text - length split.1 in
    wide_record o kinds head at split.0 (λ awaits_header. later awaits_header (at + size) split.1) (is_utf8 (take size text)) (λ awaits_header. all awaits_header (at + size) split.1)

wide_reading : (n : ℕ) (o : Dialect) (kinds : List ColType) (head : Bool) (at : ℕ) (text : List ℕ) → AreWide (length kinds) (reading_up_to n o kinds head at text).rows
wide_reading n o kinds head at [] = by n
  where
    by : (n : ℕ) → AreWide (length kinds) (reading_up_to n o kinds head at []).rows
    by zero = tt
    by (suc n) = tt
wide_reading zero o kinds head at (b ∷ bs) = tt
wide_reading (suc n) o kinds head at (b ∷ bs) =
    wide_split o kinds head at (b ∷ bs) (record_at o (b ∷ bs)) (λ awaits_header place rest. reading_up_to n o kinds awaits_header place rest)
    (λ awaits_header place rest. wide_reading n o kinds awaits_header place rest)

pub reading-wide : (o : Dialect) (kinds : List ColType) (head : Bool) (at : ℕ) (text : List ℕ) → AreWide (length kinds) (reading o kinds head at text).rows
reading-wide o kinds head at text = wide_reading (length text) o kinds head at text

pub wide-take : (width n : ℕ) (rows : List (ℕ × List CsvCell)) → AreWide width rows → AreWide width (take n rows)
wide-take width zero rows all = tt
wide-take width (suc n) [] all = tt
wide-take width (suc n) (row ∷ rows) all = (all.0, wide-take width n rows all.1)

pub wide-drop : (width n : ℕ) (rows : List (ℕ × List CsvCell)) → AreWide width rows → AreWide width (drop n rows)
wide-drop width zero rows all = all
wide-drop width (suc n) [] all = tt
wide-drop width (suc n) (row ∷ rows) all = wide-drop width n rows all.1
