-- What the records of a block are to the rows: those up to the header, and how many rows there are after them.
use Rattle.std.specs.Prelude.{◌≡◌, ◌⊎◌, ℕ, zero, suc, ◌+◌, ◌≤◌, Bool, true, false, Result, Ok, Err, List, [], length, take, drop, IsUtf8}
use Rattle.morsel_meaning.specs.declared.fault.Fault.{Fault}
use Rattle.morsel_grammar.specs.Dialect.{Dialect}
use Rattle.morsel_grammar.specs.Grammar.{CsvRecord, Records}
use Rattle.morsel_grammar.specs.Rows.{mark_len, behind_header}
use Rattle.morsel_grammar.specs.GrammarRows.{AreWholeRecords, awaits_header_after}
use Rattle.morsel_cut.specs.RowCounts.{row_count, up_to_header}
use Rattle.morsel_cut.specs.declared.header.HeadEnd.{HeadEnd}
use Rattle.morsel_scan.specs.declared.reader.front.BlockFront.{BlockFront}
use Rattle.morsel_scan.specs.FileReads.{text_at}
use Rattle.morsel_scan.specs.RowBlocks.{IsTextFault}

-- how many bytes the mark takes, of bytes that begin at this place of a file
abbrev pub mark_at : ℕ → List ℕ → ℕ
mark_at zero bytes = mark_len bytes
mark_at (suc at) bytes = 0

-- the records up to the header, where it is still to come
abbrev pub header_front : Bool → List CsvRecord → List CsvRecord
header_front false records = []
header_front true records = up_to_header records

-- a text up to the end of its header, which may be still to come; or, where it is not to come, nothing of it
pub record IsHeaderPart (o : Dialect) (head : Bool) (text : List ℕ) (records : List CsvRecord) (end : HeadEnd) : Type 0 where
  pub awaits : end.awaits_header ≡ awaits_header_after head records
  pub whole : AreWholeRecords o (take end.len text) (header_front head records) ⊎ (length text ≤ end.len)
  pub back : Records o (drop end.len text) (behind_header head records)

-- the front of a block has its mark and its records up to the header; of what follows, so many records are rows
pub record IsFrontOf (o : Dialect) (columns : ℕ) (head : Bool) (at : ℕ) (block : List ℕ) (records : List CsvRecord) (front : BlockFront) : Type 0 where
  pub mark_within : mark_at at block ≤ front.len
  pub awaits : front.awaits_header ≡ awaits_header_after head records
  pub rows_are : front.rows ≡ row_count columns (behind_header head records)
  pub utf8 : IsUtf8 (take front.len block)
  pub whole : AreWholeRecords o (text_at at (take front.len block)) (header_front head records) ⊎ (length block ≤ front.len)
  pub back : Records o (drop front.len block) (behind_header head records)
  pub all_utf8 : front.rows ≡ 0 → IsUtf8 block

-- the front of a block that is these records; or a record that is passed is not UTF-8
abbrev pub FindsFront : Dialect → ℕ → Bool → ℕ → ℕ → List ℕ → List CsvRecord → Result BlockFront Fault → Type 0
FindsFront o columns head source at block records (Ok front) = IsFrontOf o columns head at block records front
FindsFront o columns head source at block records (Err fault) = IsTextFault o source (at + mark_at at block) (text_at at block) fault
