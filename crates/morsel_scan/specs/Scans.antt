-- What a scan asks of files.
use Rattle.std.specs.Prelude.{ℕ, ℤ, Bool, Option, List}
use Rattle.morsel_meaning.specs.declared.value.Field.{Field}
use Rattle.morsel_grammar.specs.Dialect.{Dialect}
use Rattle.morsel_expr.specs.declared.node.PredNode.{PredNode}
use Rattle.morsel_scan.specs.declared.spec.RowIndex.{RowIndex}

-- what is asked of the rows of files, whatever their format
pub record FileOptions : Type 0 where
  pub slice : Option (ℤ × ℕ)  -- the offset and the length of the rows that are kept; an offset below 0 counts from the end
  pub columns : List (List ℕ)  -- the names of the columns that are kept; none means all
  pub row_index : Option RowIndex  -- a first column of the rows' positions
  pub path : Option (List ℕ)  -- the name of a last column, of the names of the rows' files
  pub allow_missing_columns : Bool  -- whether a file may lack a column

-- a scan of files with these columns
pub record Scan : Type 0 where
  pub fields : List Field  -- the columns of the files
  pub asked : FileOptions  -- what is asked of their rows
  pub filter : Option PredNode  -- the predicate of the rows that are kept, over the row index, the columns and the path

-- a scan of CSV files
pub record CsvScan : Type 0 where
  pub scan : Scan
  pub options : Dialect  -- how the files are written
