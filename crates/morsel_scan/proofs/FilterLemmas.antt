-- The rows that a filter keeps.
use Rattle.std.proofs.Common.{◌≡◌, ap, sym, refl, ◌∙◌}
use Rattle.std.specs.Prelude.{true, List, [], ◌∷◌, map, if◌then◌else◌, Some, Result, Ok, Err, IfOk, IsOkUnless}
use Rattle.std.specs.List.{filter}
use Rattle.morsel_meaning.specs.declared.value.Field.{Field}
use Rattle.morsel_meaning.specs.declared.fault.Fault.{Fault}
use Rattle.morsel_meaning.specs.declared.fault.Fault.TheVariants.{OutOfMemory}
use Rattle.morsel_meaning.specs.Values.{Row, Table}
use Rattle.morsel_expr.specs.declared.truth.Truth.{Truth}
use Rattle.morsel_expr.specs.Truths.{is_true}
use Rattle.morsel_expr.specs.Predicates.{truth}
use Rattle.morsel_expr.specs.Kept.{kept_rows}
use Rattle.morsel_scan.specs.Filters.{Filter, true_of}
use Rattle.morsel_scan.specs.Nodes.{KeepsRows}

-- the rows that a mask of their own truths keeps
pub kept_by_truths : (says : Row → Truth) (rows : List Row) → kept_rows rows (map says rows) ≡ filter (λ row. is_true (says row)) rows
kept_by_truths says [] = refl
kept_by_truths says (row ∷ rows) = ap (λ (later : List Row). if is_true (says row) then row ∷ later else later) (kept_by_truths says rows)

-- a filter that every row passes keeps them all
pub filter-all : (rows : List Row) → rows ≡ filter (λ row. true) rows
filter-all [] = refl
filter-all (row ∷ rows) = ap (λ (later : List Row). row ∷ later) (filter-all rows)

pub keeps_step : (f : Filter) (old : Table) (result : Result Table Fault) → old.schema ≡ f.fields → IfOk result (λ (kept : Table). kept ≡ record { schema = old.schema; rows = true_of f old.rows })
    → IsOkUnless result OutOfMemory → KeepsRows (Some f) old result
keeps_step f old (Ok kept) over is none =
    (ap (λ (t : Table). t.schema) is, ap (λ (t : Table). t.rows) is ∙ ap (λ (fields : List Field). filter (λ row. is_true (truth fields f.node row)) old.rows) (sym over))
keeps_step f old (Err fault) over is none = none
