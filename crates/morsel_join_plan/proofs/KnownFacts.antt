-- What is known of the rows that places give is so: it has one proof at most.
use Rattle.std.proofs.Common.{◌≡◌, ℕ, List, Option, Some, None, Result, Ok, Err, ap}
use Rattle.std.proofs.Math.Logic.{∥∥₁_elim}
use Rattle.std.proofs.Props.{props}
use Rattle.std.specs.Coded.{Coded-set, coded_list, coded_option}
use Rattle.morsel_meaning.specs.declared.fault.Fault.{Fault}
use Rattle.morsel_meaning.specs.Values.{Row}
use Rattle.morsel_scan.specs.StretchRows.{Gives}
use Rattle.morsel_join_phases.proofs.BuildFacts.{coded_value}

abbrev rows_in : Result (List Row) Fault → Option (List Row)
rows_in (Ok rows) = Some rows
rows_in (Err fault) = None

rows_again : (given : Result (List Row) Fault) (rows : List Row) → rows_in given ≡ Some rows → given ≡ Ok rows
rows_again (Ok others) rows is = let same : others ≡ rows = cc in ap Ok same
rows_again (Err fault) rows is = absurd cc

-- the places give these rows
pub gives_known : (gives : List (Result (List Row) Fault)) (from to : ℕ) (rows : List Row) → ∥ Gives gives from to rows ∥₁ → Gives gives from to rows
gives_known gives from to rows known = record {
  order = ∥∥₁_elim known (search props) (λ given. given.order);
  within = ∥∥₁_elim known (search props) (λ given. given.within);
  all = rows_again _ rows (∥∥₁_elim known (Coded-set (coded_option (coded_list (coded_list coded_value))) _ _) (λ given. ap rows_in given.all));
}

-- these are the same rows
pub rows_known : (rows others : List Row) → ∥ rows ≡ others ∥₁ → rows ≡ others
rows_known rows others known = ∥∥₁_elim known (Coded-set (coded_list (coded_list coded_value)) _ _) (λ same. same)
