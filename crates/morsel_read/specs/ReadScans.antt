-- The CSV scan that is asked for, as contracts see it.
use Rattle.std.specs.Prelude.{List}
use Rattle.morsel_meaning.specs.declared.value.Field.{Field}
use Rattle.morsel_grammar.specs.Dialect.{Dialect}
use Rattle.morsel_scan.specs.Scans.{CsvScan}
use Rattle.morsel_scan.specs.declared.spec.ScanFormat.{ScanFormat}
use Rattle.morsel_scan.specs.declared.spec.ScanFormat.TheVariants as formats
use Rattle.morsel_scan.specs.declared.spec.ScanSpec.{ScanSpec}

-- the columns that a format has
abbrev pub columns_of_format : ScanFormat → List Field
columns_of_format (formats.Csv schema options) = schema

-- how the files of a format are written
abbrev pub dialect_of_format : ScanFormat → Dialect
dialect_of_format (formats.Csv schema options) = options

-- the scan
abbrev pub scan_read : ScanSpec → CsvScan
scan_read spec = record {
  scan = record { fields = columns_of_format spec.format; asked = spec.file_options; filter = spec.filter };
  options = dialect_of_format spec.format;
}
