-- The plan of a group-by behind those of the sides of a query.
use Rattle.std.proofs.Common.{◌≡◌, Option, Some, None, refl, ap, sym}
use Rattle.morsel_meaning.specs.declared.fault.Fault.{Fault}
use Rattle.morsel_frame.specs.Refusals.{first_fault}
use Rattle.morsel_group.specs.Asked.{GroupAsked}
use Rattle.morsel_query.specs.declared.plans.JoinPlan.{JoinPlan}
use Rattle.morsel_query.specs.declared.scan_plan.ScanPlan.{ScanPlan}
use Rattle.morsel_query.specs.Queries.{FileScan, JoinPart, scan_asked}
use Rattle.morsel_query.specs.Plans.{planned_scan, fields_of_scan, fields_of_input, output_before_group, fault_by, group_fault_if, fault_with, IsPlanOfJoin}

none_later : (due : Option Fault) → first_fault due None ≡ due
none_later None = refl
none_later (Some fault) = refl

-- the fault of a group-by comes after those of the sides and of their join
pub later_fault : (left : FileScan) (join : Option JoinPart) (group : Option GroupAsked)
    → fault_with left join group ≡ first_fault (fault_by left join) (group_fault_if (fields_of_input left join) group)
later_fault left join None = sym (none_later (fault_by left join))
later_fault left join (Some asked) = refl

-- what a group-by stands on
pub output_is : (scan : FileScan) (asked : Option JoinPart) (left : ScanPlan) (join : Option JoinPlan) → left ≡ planned_scan (scan_asked scan) → IsPlanOfJoin (fields_of_scan scan) asked join
    → output_before_group left join ≡ fields_of_input scan asked
output_is scan None left None is planned = ap (λ (plan : ScanPlan). plan.output) is
output_is scan None left (Some plan) is planned = absurd planned
output_is scan (Some join) left None is planned = absurd planned
output_is scan (Some join) left (Some plan) is planned = planned.rules.output
