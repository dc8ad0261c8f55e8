-- Pieces of files, and the texts of rows, as contracts see them.
use Rattle.std.specs.Prelude.{ℕ, Bool, List, Option}
use Rattle.morsel_frame.specs.declared.part_meta.PartMeta.{PartMeta}
use Rattle.morsel_pipe.specs.declared.piece.RawPart.{RawPart}

-- a piece of a file: bytes that can be decoded by themselves, and where they stand in the scan
pub record Piece : Type 0 where
  pub seq : ℕ  -- its number within the scan
  pub file : ℕ  -- the source's number within the query
  pub source : List ℕ  -- the source's name
  pub at : ℕ  -- the place in the file of its first record, group or block, in bytes
  pub first_row : ℕ  -- the position of its first row within the scan
  pub rows : ℕ  -- how many rows it has
  pub slice : ℕ × ℕ  -- the offset and length, within it, of the rows that the scan's slice keeps
  pub parts : List RawPart  -- of a row-group file: the column parts that `bytes` has
  pub bytes : List ℕ  -- its bytes
  pub from : ℕ  -- its stretch of the bytes of all sources, one after the other: where it begins
  pub to : ℕ  -- and where it ends

-- the text of some of the rows that a stretch of the bytes of all sources gives
pub record Part : Type 0 where
  pub rows : ℕ  -- how many rows
  pub bytes : List ℕ  -- their text
  pub from : ℕ  -- where the stretch begins
  pub to : ℕ  -- and where it ends
  pub skip : ℕ  -- how many rows of the stretch come before them
  pub last : Bool  -- whether they are the last of the stretch
  pub meta : Option PartMeta  -- what the file keeps of it; nothing for a text
