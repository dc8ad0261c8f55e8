-- The texts that the program prints of faults.
use Rattle.std.specs.Prelude.{ℕ, List, ◌++◌, ◌+◌, codes, decimal}
use Rattle.morsel_meaning.specs.declared.fault.Why.{Why}
use Rattle.morsel_meaning.specs.declared.fault.Why.TheVariants as whys
use Rattle.morsel_meaning.specs.declared.fault.ComputeKind.{ComputeKind}
use Rattle.morsel_meaning.specs.declared.fault.ComputeKind.TheVariants as kinds
use Rattle.morsel_meaning.specs.declared.fault.Fault.{Fault}
use Rattle.morsel_meaning.specs.declared.fault.Fault.TheVariants as faults

-- the number of a fault, from 1 to 12
abbrev pub fault_number : Fault → ℕ
fault_number faults.OutOfMemory = 1
fault_number (faults.ReadFault file) = 2
fault_number faults.WriteFault = 3
fault_number (faults.InvalidQuery why) = 4
fault_number (faults.Malformed file at) = 5
fault_number (faults.Unsupported file code) = 6
fault_number (faults.ColumnNotFound name) = 7
fault_number (faults.SchemaMismatch name) = 8
fault_number (faults.Duplicate name) = 9
fault_number (faults.ComputeError kind file at) = 10
fault_number faults.QueryText = 11
fault_number faults.Usage = 12

-- the text of the flaw of a query
abbrev pub why_text : Why → List ℕ
why_text whys.OptionRange = codes "option range"
why_text whys.NoSource = codes "no source"
why_text whys.ManySources = codes "too many sources"
why_text whys.NoColumn = codes "no column"
why_text whys.BlockFiles = codes "block files"
why_text whys.ParseBytes = codes "parse bytes"
why_text whys.NoKeys = codes "no keys"
why_text whys.RepeatedKey = codes "repeated key"
why_text whys.UnequalKeys = codes "unequal keys"
why_text whys.SinkIsSource = codes "sink is source"
why_text whys.PredDepth = codes "predicate depth"

-- the text of what could not be computed
abbrev pub kind_text : ComputeKind → List ℕ
kind_text kinds.NegativeSlice = codes "negative slice"
kind_text kinds.NotUtf8 = codes "not utf8"
kind_text kinds.IllTyped = codes "ill typed"
kind_text kinds.TooManyRows = codes "too many rows"
kind_text kinds.IndexTooLarge = codes "index too large"
kind_text kinds.SumTooLarge = codes "sum too large"
kind_text kinds.LenTooLarge = codes "len too large"
kind_text kinds.TooManyGroups = codes "too many groups"
kind_text kinds.FooterTooLarge = codes "footer too large"

-- the text of what could not be computed, with the record's place for the two kinds that have one
abbrev pub compute_text : ComputeKind → ℕ → ℕ → List ℕ
compute_text kinds.NotUtf8 file at = codes "not utf8, file " ++ decimal file ++ codes ", at " ++ decimal at
compute_text kinds.IllTyped file at = codes "ill typed, file " ++ decimal file ++ codes ", at " ++ decimal at
compute_text kind file at = kind_text kind

-- the text of a fault, without its number
abbrev pub fault_text : Fault → List ℕ
fault_text faults.OutOfMemory = codes "out of memory"
fault_text (faults.ReadFault file) = codes "read fault in file " ++ decimal file
fault_text faults.WriteFault = codes "write fault"
fault_text (faults.InvalidQuery why) = codes "invalid query: " ++ why_text why
fault_text (faults.Malformed file at) = codes "malformed file " ++ decimal file ++ codes " at " ++ decimal at
fault_text (faults.Unsupported file code) = codes "unsupported code " ++ decimal code ++ codes " in file " ++ decimal file
fault_text (faults.ColumnNotFound name) = codes "column not found: " ++ name
fault_text (faults.SchemaMismatch name) = codes "schema mismatch: " ++ name
fault_text (faults.Duplicate name) = codes "duplicate column: " ++ name
fault_text (faults.ComputeError kind file at) = compute_text kind file at
fault_text faults.QueryText = codes "query text"
fault_text faults.Usage = codes "usage"

-- the line that the program prints of a fault
abbrev pub fault_line : Fault → List ℕ
fault_line fault = codes "error " ++ decimal (fault_number fault) ++ codes ": " ++ fault_text fault

-- the status that tells a fault
abbrev pub fault_status : Fault → ℕ
fault_status fault = 10 + fault_number fault
