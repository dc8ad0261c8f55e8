-- What is no part of a scan makes it none.
use Rattle.serde_json.specs.Data.{Data}
use Rattle.morsel_meaning.specs.declared.fault.Fault.{Fault}
use Rattle.morsel_meaning.specs.declared.fault.Fault.TheVariants as faults
use Rattle.morsel_scan.specs.Scans.{FileOptions}
use Rattle.morsel_query_text.specs.Written.{WrittenScan}
use Rattle.morsel_query_text.specs.QueryTexts.{ScanOf}
use Rattle.morsel_query_text.specs.Reads.{RefusedBy, AreAsked}

-- what a scan asks of the rows of its files
abbrev pub asked_of : WrittenScan → FileOptions
asked_of scan = record {
  slice = scan.slice;
  columns = scan.columns;
  row_index = scan.row_index;
  path = scan.path;
  allow_missing_columns = scan.allow_missing_columns;
}

pub asked_part : (tree : Data) (scan : WrittenScan) → ScanOf tree scan → AreAsked tree (asked_of scan)
asked_part tree scan is = record {
  columns = is.columns;
  slice = is.slice;
  row_index = is.row_index;
  path = is.path;
  allow_missing_columns = is.allow_missing_columns;
}

pub refused_part : (tree : Data) (fault : Fault) → RefusedBy (AreAsked tree) fault → RefusedBy (ScanOf tree) fault
refused_part tree faults.OutOfMemory refused = tt
refused_part tree faults.QueryText refused = λ scan is. refused (asked_of scan) (asked_part tree scan is)
refused_part tree (faults.ReadFault file) refused = refused
refused_part tree faults.WriteFault refused = refused
refused_part tree (faults.InvalidQuery why) refused = refused
refused_part tree (faults.Malformed file at) refused = refused
refused_part tree (faults.Unsupported file code) refused = refused
refused_part tree (faults.ColumnNotFound name) refused = refused
refused_part tree (faults.SchemaMismatch name) refused = refused
refused_part tree (faults.Duplicate name) refused = refused
refused_part tree (faults.ComputeError kind file at) refused = refused
refused_part tree faults.Usage refused = refused
