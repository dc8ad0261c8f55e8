-- The plan of a query: where the names of the query meet the columns of its files, once; and why they do not.
use Rattle.std.specs.Prelude.{◌≡◌, ℕ, ℤ, int_lt, pos, if◌then◌else◌, Option, Some, None, option_map, List}
use Rattle.morsel_meaning.specs.declared.value.Field.{Field}
use Rattle.morsel_meaning.specs.declared.fault.Fault.{Fault}
use Rattle.morsel_meaning.specs.declared.fault.Fault.TheVariants.{ComputeError}
use Rattle.morsel_meaning.specs.declared.fault.ComputeKind.TheVariants.{NegativeSlice}
use Rattle.morsel_frame.specs.Refusals.{first_fault}
use Rattle.morsel_group.specs.Asked.{GroupAsked, group_fields}
use Rattle.morsel_group.specs.GroupFlaws.{group_flaw}
use Rattle.morsel_join.specs.declared.rules.JoinRules.{JoinRules}
use Rattle.morsel_join.specs.Payloads.{join_fields, join_flaw, key_places}
use Rattle.morsel_join.specs.Rows.{FitRules, join_columns}
use Rattle.morsel_scan.specs.Scans.{Scan}
use Rattle.morsel_scan.specs.ScanColumns.{output_fields}
use Rattle.morsel_scan.specs.ScanFlaws.{scan_flaw}
use Rattle.morsel_query.specs.declared.scan_plan.ScanPlan.{ScanPlan}
use Rattle.morsel_query.specs.declared.plans.JoinPlan.{JoinPlan}
use Rattle.morsel_query.specs.declared.plans.QueryPlan.{QueryPlan}
use Rattle.morsel_query.specs.Queries.{FileFormat, CsvFiles, FileScan, JoinPart, QueryParts, scan_asked}

-- the plan of a scan
abbrev pub planned_scan : Scan → ScanPlan
planned_scan scan = record { output = output_fields scan }

-- the columns of the rows of a scan of files
abbrev pub fields_of_scan : FileScan → List Field
fields_of_scan files = output_fields (scan_asked files)

-- the columns of the rows of a join with a left side of these columns
abbrev pub fields_of_join : List Field → JoinPart → List Field
fields_of_join left join = join_fields join.args left (fields_of_scan join.right) join.left_keys join.right_keys

-- the columns of the rows of a query with this left side and this join, before they are grouped
abbrev pub fields_of_input : FileScan → Option JoinPart → List Field
fields_of_input left None = fields_of_scan left
fields_of_input left (Some join) = fields_of_join (fields_of_scan left) join

-- what a plan has of a join: the plan of the right side, and the columns of the rows
pub record PlannedJoin : Type 0 where
  pub right : ScanPlan
  pub output : List Field

-- the plan of a query, as far as its columns go
pub record PlannedQuery : Type 0 where
  pub left : ScanPlan
  pub join : Option PlannedJoin
  pub group : Option (List Field)  -- the columns of the rows of the group-by, where there is one

-- the plan of a join with a left side of these columns
abbrev pub planned_join : List Field → JoinPart → PlannedJoin
planned_join left join = record { right = planned_scan (scan_asked join.right); output = fields_of_join left join }

-- the plan of a query: later parts stand on the columns that those before give
abbrev pub planned : QueryParts → PlannedQuery
planned query = record {
  left = planned_scan (scan_asked query.left);
  join = option_map (planned_join (fields_of_scan query.left)) query.join;
  group = option_map (group_fields (fields_of_input query.left query.join)) query.group;
}

-- the columns of the rows of a query with this plan of its left side and of its join, before they are grouped
abbrev pub output_by : ScanPlan → Option PlannedJoin → List Field
output_by left None = left.output
output_by left (Some join) = join.output

-- the columns of a group-by, where there is one; else those of the rows that it would have grouped
abbrev pub grouped_output : Option (List Field) → List Field → List Field
grouped_output None fields = fields
grouped_output (Some output) fields = output

-- the columns of a query's rows
abbrev pub output_of : PlannedQuery → List Field
output_of plan = grouped_output plan.group (output_by plan.left plan.join)

-- the rules are those of a join of sides with these columns
pub record AreRulesOf (left right : List Field) (join : JoinPart) (rules : JoinRules) : Type 0 where
  pub how : rules.how ≡ join.args.how
  pub order : rules.maintain_order ≡ join.args.maintain_order
  pub nulls : rules.join_nulls ≡ join.args.join_nulls
  pub left_keys : rules.left_keys.items ≡ key_places left join.left_keys
  pub right_keys : rules.right_keys.items ≡ key_places right join.right_keys
  pub columns : rules.columns.items ≡ join_columns join.args left right join.left_keys join.right_keys
  pub output : rules.output ≡ join_fields join.args left right join.left_keys join.right_keys

-- a plan of a join with a left side of these columns
pub record IsJoinPlan (left : List Field) (join : JoinPart) (plan : JoinPlan) : Type 0 where
  pub right : plan.right ≡ planned_scan (scan_asked join.right)
  pub rules : AreRulesOf left (fields_of_scan join.right) join plan.rules
  pub fit : FitRules left (fields_of_scan join.right) plan.rules

-- a plan of a join where there is one, and none where there is none
abbrev pub IsPlanOfJoin : List Field → Option JoinPart → Option JoinPlan → Type 0
IsPlanOfJoin left None None = Unit {0}
IsPlanOfJoin left None (Some plan) = ⊥
IsPlanOfJoin left (Some join) None = ⊥
IsPlanOfJoin left (Some join) (Some plan) = IsJoinPlan left join plan

-- the columns of the rows of a scan with this plan, or of a join with this plan, where there is one
abbrev pub output_before_group : ScanPlan → Option JoinPlan → List Field
output_before_group left None = left.output
output_before_group left (Some join) = join.rules.output

-- a plan of a query
pub record IsPlan (query : QueryParts) (plan : QueryPlan) : Type 0 where
  pub left : plan.left ≡ (planned query).left
  pub join : IsPlanOfJoin (fields_of_scan query.left) query.join plan.join
  pub group : plan.group ≡ (planned query).group

-- the fault of a slice that counts from the end of rows whose number is not known before they are read
abbrev pub slice_fault : Option (ℤ × ℕ) → Option Fault
slice_fault None = None
slice_fault (Some slice) = if int_lt slice.0 (pos 0) then Some (ComputeError NegativeSlice 4294967295 0) else None

-- why a scan of files of this format has no plan
abbrev pub side_fault : FileFormat → Scan → Option Fault
side_fault (CsvFiles fields options) scan = first_fault (scan_flaw scan) (slice_fault scan.asked.slice)

-- why a join with a left side of these columns has no plan: its right side has none, or its names do not meet the columns of both
abbrev pub join_fault : List Field → JoinPart → Option Fault
join_fault left join =
    first_fault (side_fault join.right.format (scan_asked join.right)) (join_flaw join.args left (fields_of_scan join.right) join.left_keys join.right_keys)

-- the same, where there is a join
abbrev pub join_fault_if : List Field → Option JoinPart → Option Fault
join_fault_if left None = None
join_fault_if left (Some join) = join_fault left join

-- why a query with this left side and this join has no plan
abbrev pub fault_by : FileScan → Option JoinPart → Option Fault
fault_by left None = side_fault left.format (scan_asked left)
fault_by left (Some join) = first_fault (side_fault left.format (scan_asked left)) (join_fault (fields_of_scan left) join)

-- why a group-by of rows with these columns has no plan: its names do not meet them
abbrev pub group_fault_if : List Field → Option GroupAsked → Option Fault
group_fault_if fields None = None
group_fault_if fields (Some asked) = group_flaw fields asked

-- why a query with this left side, this join and this group-by has no plan
abbrev pub fault_with : FileScan → Option JoinPart → Option GroupAsked → Option Fault
fault_with left join None = fault_by left join
fault_with left join (Some asked) = first_fault (fault_by left join) (group_flaw (fields_of_input left join) asked)

-- why a query has no plan: the first fault that is due, of the left side, the right side, the join and then the group-by
abbrev pub query_fault : QueryParts → Option Fault
query_fault query = fault_with query.left query.join query.group
