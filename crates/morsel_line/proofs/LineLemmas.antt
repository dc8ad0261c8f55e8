-- A scan into NDJSON, place by place.
use Rattle.std.specs.Prelude.{ℕ, ◌≤◌, length, refl}
use Rattle.std.proofs.Common.{arith, inl}
use Rattle.std.proofs.lemmas.List.Concat.{flat_map-append}
use Rattle.morsel_meaning.specs.declared.fault.Fault.{Fault}
use Rattle.morsel_meaning.specs.declared.fault.Fault.TheVariants as faults
use Rattle.morsel_meaning.specs.Values.{names_of}
use Rattle.morsel_ndjson.specs.Ndjson.{json_line}
use Rattle.morsel_pipe.specs.Pieces.{Piece}
use Rattle.morsel_grammar.specs.Dialect.{IsDialect}
use Rattle.morsel_scan.specs.ScanColumns.{output_fields}
use Rattle.morsel_scan.specs.CsvScans.{IsPieceFault, UnlessOutOfMemory}
use Rattle.morsel_scan.specs.StretchRows.{HasFaultWithin}
use Rattle.morsel_scan.proofs.AxisRowLemmas.{ends_each_row}
use Rattle.morsel_scan.proofs.AxisEndLemmas.{gives_pieces}
use Rattle.morsel_drive.specs.Lines.{IsSoundAxis, IsDue}
use Rattle.morsel_line.specs.Jobs.{Job}
use Rattle.morsel_line.specs.RowStages.{staged_columns}
use Rattle.morsel_line.specs.ScanJobs.{scan_text, scan_axis, job_axis, IsJobPiece, IsJobFault}

pub sound : (job : Job) → IsDialect job.scan.options → IsSoundAxis (job_axis job)
sound job fit = record {
  none = refl;
  adds = λ first later. flat_map-append (json_line (names_of (staged_columns job.stage (output_fields job.scan.scan)))) first later;
  ends = ends_each_row job.scan job.first 0 job.names job.files job.opened (scan_text job.scan);
}

due_within : (job : Job) (from to : ℕ) (fault : Fault) → to ≤ length (scan_axis job).gives → UnlessOutOfMemory fault (HasFaultWithin (scan_axis job).gives from to fault) → IsDue (IsJobFault job) fault
due_within job from to faults.OutOfMemory within is = tt
due_within job from to (faults.ReadFault file) within is = tt
due_within job from to faults.WriteFault within is = tt
due_within job from to (faults.InvalidQuery why) within (place, low, high, found) = inl (place, omega arith, omega (arith, high, within), found)
due_within job from to (faults.Malformed file at) within (place, low, high, found) = inl (place, omega arith, omega (arith, high, within), found)
due_within job from to (faults.Unsupported file code) within (place, low, high, found) = inl (place, omega arith, omega (arith, high, within), found)
due_within job from to (faults.ColumnNotFound name) within (place, low, high, found) = inl (place, omega arith, omega (arith, high, within), found)
due_within job from to (faults.SchemaMismatch name) within (place, low, high, found) = inl (place, omega arith, omega (arith, high, within), found)
due_within job from to (faults.Duplicate name) within (place, low, high, found) = inl (place, omega arith, omega (arith, high, within), found)
due_within job from to (faults.ComputeError kind file at) within (place, low, high, found) = inl (place, omega arith, omega (arith, high, within), found)
due_within job from to faults.QueryText within (place, low, high, found) = inl (place, omega arith, omega (arith, high, within), found)
due_within job from to faults.Usage within (place, low, high, found) = inl (place, omega arith, omega (arith, high, within), found)

-- a fault of a piece of the job is due
pub fault_due : (job : Job) (piece : Piece) (fault : Fault) → IsDialect job.scan.options → IsJobPiece job piece → IsPieceFault job.scan piece fault → IsDue (IsJobFault job) fault
fault_due job piece fault fit is has =
    let given = gives_pieces job.scan fit job.first 0 job.names job.files job.opened (scan_text job.scan) piece is in
    due_within job piece.from piece.to fault given.1 (given.3 fault has)
