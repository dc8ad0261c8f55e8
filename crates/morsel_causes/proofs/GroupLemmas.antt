-- A group-by of rows has an answer exactly where there is no cause of a fault.
use Rattle.std.proofs.Common.{List, refl}
use Rattle.morsel_meaning.specs.declared.fault.Fault.{Fault}
use Rattle.morsel_meaning.specs.declared.fault.Fault.TheVariants as faults
use Rattle.morsel_meaning.specs.declared.fault.ComputeKind.TheVariants as kinds
use Rattle.morsel_meaning.specs.Values.{Row}
use Rattle.morsel_group.specs.Asked.{GroupShape}
use Rattle.morsel_group.specs.GroupCauses.{GroupCause, FitsGroups}
use Rattle.morsel_causes.specs.GroupFaults.{GroupsFitWithoutCause}

no_cause : (shape : GroupShape) (rows : List Row) → FitsGroups shape rows → (fault : Fault) → GroupCause shape rows fault → ⊥
no_cause shape rows fit (faults.ComputeError kinds.TooManyGroups file at) cause = fit.few cause.2
no_cause shape rows fit (faults.ComputeError kinds.LenTooLarge file at) cause = fit.short cause.2
no_cause shape rows fit (faults.ComputeError kinds.SumTooLarge file at) cause = fit.small cause.2
no_cause shape rows fit (faults.ComputeError kinds.NegativeSlice file at) cause = cause
no_cause shape rows fit (faults.ComputeError kinds.NotUtf8 file at) cause = cause
no_cause shape rows fit (faults.ComputeError kinds.IllTyped file at) cause = cause
no_cause shape rows fit (faults.ComputeError kinds.TooManyRows file at) cause = cause
no_cause shape rows fit (faults.ComputeError kinds.IndexTooLarge file at) cause = cause
no_cause shape rows fit (faults.ComputeError kinds.FooterTooLarge file at) cause = cause
no_cause shape rows fit faults.OutOfMemory cause = cause
no_cause shape rows fit (faults.ReadFault file) cause = cause
no_cause shape rows fit faults.WriteFault cause = cause
no_cause shape rows fit (faults.InvalidQuery why) cause = cause
no_cause shape rows fit (faults.Malformed file at) cause = cause
no_cause shape rows fit (faults.Unsupported file code) cause = cause
no_cause shape rows fit (faults.ColumnNotFound name) cause = cause
no_cause shape rows fit (faults.SchemaMismatch name) cause = cause
no_cause shape rows fit (faults.Duplicate name) cause = cause
no_cause shape rows fit faults.QueryText cause = cause
no_cause shape rows fit faults.Usage cause = cause

fit_without : (shape : GroupShape) (rows : List Row) → ((fault : Fault) → GroupCause shape rows fault → ⊥) → FitsGroups shape rows
fit_without shape rows none = record {
  few = λ many. none (faults.ComputeError kinds.TooManyGroups 4294967295 0) (refl, refl, many);
  short = λ long. none (faults.ComputeError kinds.LenTooLarge 4294967295 0) (refl, refl, long);
  small = λ large. none (faults.ComputeError kinds.SumTooLarge 4294967295 0) (refl, refl, large);
}

pub groups_fit : GroupsFitWithoutCause
groups_fit shape rows = (no_cause shape rows, fit_without shape rows)
