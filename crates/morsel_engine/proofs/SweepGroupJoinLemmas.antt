-- How many sweeps a run of a query with a join and a group-by makes.
use Rattle.std.proofs.Common.{◌≡◌, ◌⊎◌, ℕ, ◌+◌, ◌*◌, ◌≤◌, ap, refl, ◌∙◌, inl, inr, arith, length-append}
use Rattle.std.proofs.lemmas.Nat.{mul-le}
use Rattle.std.specs.Prelude.{Bool, true, false, if◌then◌else◌, Some, List, [], length}
use Rattle.morsel_meaning.specs.Values.{Row}
use Rattle.morsel_outside.specs.Outside.{Outside}
use Rattle.morsel_join.specs.declared.rules.JoinRules.{JoinRules}
use Rattle.morsel_join.specs.Rows.{keeps_left}
use Rattle.morsel_join.specs.Sides.{KeptSide, wants_kept, rows_found, rows_alone}
use Rattle.morsel_line.specs.ScanJobs.{scan_axis}
use Rattle.morsel_group.specs.Asked.{GroupAsked}
use Rattle.morsel_group_plan.specs.GroupRuns.{AreFewJoined, JoinGives, SweepsGroupsJoin}
use Rattle.morsel_sink.specs.declared.spec.SinkSpec.{SinkSpec}
use Rattle.morsel_query.specs.RunOptions.{RunOptions}
use Rattle.morsel_query.specs.Queries.{FileScan, JoinPart, QueryParts}
use Rattle.morsel_query.specs.Meanings.{left_files, right_files}
use Rattle.morsel_engine.specs.Courses.{file_numbers}
use Rattle.morsel_engine.specs.Stages.{SweepsGroupSides, SweepsJoinedGroups}
use Rattle.morsel_engine.specs.SweepBounds.{greatest_width, SweepsWithin}
use Rattle.morsel_engine.proofs.ScanLemmas.{Begun}
use Rattle.morsel_engine.proofs.OpenScanLemmas.{OpenScan, open_job, IsOfQuery, had_nothing}
use Rattle.morsel_engine.proofs.JoinSideLemmas.{left_open, right_open, query_joined, SidesFit, left_is, right_is}
use Rattle.morsel_engine.proofs.JoinLemmas.{join_scan}
use Rattle.morsel_engine.proofs.JoinedLemmas.{JoinFit, fit_sides}
use Rattle.morsel_engine.proofs.SweepJoinLemmas.{found_few, alone_few, pairs, first_few, HasFewRows, SweepsFewRows, SweepsFewSides, swept_few, swept_none}

-- kept rows that none finds, where they are wanted
alone_if_few : (side : KeptSide) (asked : List Row) → length (if wants_kept side then rows_alone side asked else []) ≤ length side.rows
alone_if_few side asked = by (wants_kept side) (rows_alone side asked) (alone_few side asked)
  where
    by : (wanted : Bool) (rows : List Row) → length rows ≤ length side.rows → length (if wanted then rows else []) ≤ length side.rows
    by true rows few = few
    by false rows few = omega arith

-- what so many rows find, and the rows of the group-by, are few
some_few : (per_row looked_up groups most others : ℕ) → per_row ≤ most → looked_up ≤ others → groups + 1 ≤ (most + 1) * (others + 1) → per_row * looked_up + groups + 1 ≤ (most + 1) * (others + 1) * 2
some_few per_row looked_up groups most others one two three =
    let product = mul-le per_row looked_up (most + 1) (others + 1) (omega (arith, one)) (omega (arith, two)) in omega (arith, product, three)

module _ (old now : Outside) (query : QueryParts) (options : RunOptions) (files : List (List ℕ)) (kept asked : OpenScan) (kept_is : IsOfQuery old now query files kept) (asked_is : IsOfQuery old now query files asked)
    (before after : ℕ) where
  -- the rows of the group-by are no more than there are pairs of a row of one side or none, and a row of the other or none, but for the pair of none
  groups_few : (side : KeptSide) (groups most others : ℕ) → length side.rows ≤ most → HasFewRows options asked others
      → (groups ≡ 0) ⊎ ((to : ℕ) × (rows : List Row) × JoinGives (join_scan options asked) side to asked.files rows × (groups ≤ length rows)) → groups + 1 ≤ (most + 1) * (others + 1)
  groups_few side groups most others least few (inl none) = let product = mul-le 1 1 (most + 1) (others + 1) (omega arith) (omega arith) in omega (arith, product, none)
  groups_few side groups most others least few (inr (to, rows, (looked_up, gives, is), less)) =
      let front = first_few (scan_axis (open_job options asked)).gives to looked_up gives in
      let most_rows = few.rows in
      let len = ap (λ (rows : List Row). length rows) is ∙ length-append (rows_found side looked_up) (if wants_kept side then rows_alone side looked_up else []) in
      pairs (length side.rows) (length looked_up) most others (length (rows_found side looked_up)) (length (if wants_kept side then rows_alone side looked_up else [])) groups
      (omega (arith, less, len)) (found_few side looked_up) (alone_if_few side looked_up) least (omega (arith, front, most_rows))

  -- the rows of a join were grouped
  pub few_of_groups : SweepsGroupsJoin (join_scan options kept) (join_scan options asked) now before after → SweepsFewRows options now kept asked before after
  few_of_groups s = record {
    rows = s.per_row * s.looked_up + s.groups;
    few = let few = s.few in omega (arith, few);
    small = λ product big.
        let one = s.kept_small in let two = s.asked_small in let three = s.groups_small in
        let most = mul-le s.per_row s.looked_up 4294967295 4294967295 one two in omega (arith, most, three, big);
    within = λ tells most others one two.
        let few : AreFewJoined (join_scan options kept) (join_scan options asked) kept.files asked.files s.per_row s.looked_up s.groups =
        s.within kept.files asked.files (had_nothing old now query options files kept kept_is now refl refl tells) (had_nothing old now query options files asked asked_is now refl refl tells) in
        let front = first_few (scan_axis (open_job options kept)).gives few.given few.side.rows few.gives in
        let least = one.rows in let finds = few.finds in
        some_few s.per_row s.looked_up s.groups most others (omega (arith, finds, front, least)) (two.places s.looked_up s.asked_small few.ends)
        (groups_few few.side s.groups most others (omega (arith, front, least)) two few.few);
  }

-- a run that made its sink
pub swept_joined_groups : (old now new : Outside) (left : FileScan) (join : JoinPart) (group : GroupAsked) (sink : SinkSpec) (options : RunOptions) (files : List (List ℕ)) (begun : Begun old (query_joined left join (Some group) sink) files now)
    → new.sizes ≡ now.sizes → new.held ≡ now.held → 1 ≤ greatest_width (query_joined left join (Some group) sink) → (before after : ℕ) (rules : JoinRules) → JoinFit left join (Some group) sink rules → (read : JoinRules)
    → SweepsJoinedGroups now left join.right (file_numbers (length old.sizes) (length (left_files left files))) (file_numbers (length old.sizes + length left.sources) (length (right_files left files))) read options before after
    → SweepsWithin old (query_joined left join (Some group) sink) options before new after
swept_joined_groups old now new left join group sink options files begun sizes held wide before after rules fit read (inl none) = swept_none old now new left join (Some group) sink options files begun sizes held wide before after none
swept_joined_groups old now new left join group sink options files begun sizes held wide before after rules fit read (inr (left_fit, right_fit, s)) =
    swept_few old now new left join (Some group) sink options files begun sizes held wide before after sides_fit (keeps_left read.how read.maintain_order) (by (keeps_left read.how read.maintain_order) s)
  where
    sides_fit : SidesFit left join
    sides_fit = fit_sides left join (Some group) sink rules fit left_fit right_fit

    by : (is_left : Bool) → SweepsGroupSides is_left (join_scan options (left_open old left files)) (join_scan options (right_open old left join files)) now before after
        → SweepsFewSides old now new left join (Some group) sink options files begun sizes held wide before after is_left
    by true s = few_of_groups old now (query_joined left join (Some group) sink) options files (left_open old left files) (right_open old left join files)
        (left_is old now left join (Some group) sink files sides_fit begun) (right_is old now left join (Some group) sink files sides_fit begun) before after s
    by false s = few_of_groups old now (query_joined left join (Some group) sink) options files (right_open old left join files) (left_open old left files)
        (right_is old now left join (Some group) sink files sides_fit begun) (left_is old now left join (Some group) sink files sides_fit begun) before after s
