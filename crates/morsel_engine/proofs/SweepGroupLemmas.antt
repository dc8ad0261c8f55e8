-- How many sweeps a run of a query of one scan with a group-by makes.
use Rattle.std.proofs.Common.{◌≡◌, ◌⊎◌, ℕ, ◌+◌, ◌*◌, ◌^◌, ◌<◌, ◌≤◌, ap, sym, subst, refl, ◌∙◌, inl, inr, arith}
use Rattle.std.proofs.Math.Nat.{le-mul_of_pos_right}
use Rattle.std.proofs.lemmas.Nat.{mul-le}
use Rattle.std.proofs.lemmas.List.{append_cancel_left}
use Rattle.std.specs.Prelude.{Option, None, Some, List, map, length}
use Rattle.std.specs.List.{sum_by}
use Rattle.morsel_meaning.specs.Values.{Row}
use Rattle.morsel_outside.specs.Outside.{Outside}
use Rattle.morsel_scan.specs.StretchRows.{before_fault}
use Rattle.morsel_read.specs.ScanReads.{sizes_in}
use Rattle.morsel_line.specs.ScanJobs.{scan_axis}
use Rattle.morsel_line.specs.ScanRuns.{JobGives}
use Rattle.morsel_group.specs.Asked.{GroupAsked}
use Rattle.morsel_group_plan.specs.GroupRuns.{SweepsGroups}
use Rattle.morsel_query.specs.RunOptions.{RunOptions}
use Rattle.morsel_query.specs.Queries.{FileScan, QueryParts}
use Rattle.morsel_query.specs.QueryFlaws.{sources_of}
use Rattle.morsel_engine.specs.Runs.{TellsBytes, HasOpened, gives_of_scan}
use Rattle.morsel_engine.specs.SweepBounds.{HaveGroupedRows, greatest_width, SweepsWithin}
use Rattle.morsel_engine.proofs.ToldLemmas.{sum_lengths}
use Rattle.morsel_engine.proofs.OpenScanLemmas.{OpenScan, numbers_of, open_job, IsOfQuery, had_nothing}
use Rattle.morsel_engine.proofs.WriteLemmas.{open_alone}
use Rattle.morsel_engine.proofs.JoinLemmas.{join_scan}
use Rattle.morsel_engine.proofs.SweepJoinLemmas.{scan_few, first_few, told_same}
use Rattle.morsel_engine.proofs.GroupRunLemmas.{grouped_ndjson, GroupBegun, is_alone}

-- some for each byte and each row of the group-by are within the bound
within_bound : (workers bytes sources product columns before after groups : ℕ) → after ≤ before + 1024 * (bytes + 3) + 512 * groups → groups + 1 ≤ product → 1 ≤ sources → 1 ≤ columns
    → after ≤ before + 1024 * (workers + bytes + sources + product) * (columns + 1)
within_bound workers bytes sources product columns before after groups few many some wide =
    let double = mul-le (1024 * (workers + bytes + sources + product)) 2 (1024 * (workers + bytes + sources + product)) (columns + 1) (omega arith) (omega (arith, wide)) in
    omega (arith, few, many, some, double)

-- rows are no more than pairs of a row of one side or none, and a row of the other or none, but for the pair of none
pairs : (rows lefts rights : ℕ) → rows ≤ lefts → rows + 1 ≤ (lefts + 1) * (rights + 1)
pairs rows lefts rights few = let more = le-mul_of_pos_right (lefts + 1) (let some : 0 < rights + 1 = omega arith in some) in omega (arith, few, more)

module _ (old : Outside) (left : FileScan) (group : GroupAsked) (name : List ℕ) (options : RunOptions) (files : List (List ℕ)) (now new : Outside)
    (run : GroupBegun old left group name files now) (same_sizes : new.sizes ≡ now.sizes) (same_held : new.held ≡ now.held) (before after : ℕ) where
  abbrev query : QueryParts
  query = grouped_ndjson left group name

  abbrev alone : OpenScan
  alone = open_alone old left files

  is_here : IsOfQuery old now query files alone
  is_here = is_alone old left group name options files now run

  -- there are no more rows of the group-by than the scan's rows are taken for
  few_groups : (groups : ℕ) → groups < 2 ^ 64 → (TellsBytes now → (groups ≡ 0) ⊎ ((given : ℕ) × (rows : List Row) × JobGives (open_job options alone) given rows × (groups ≤ length rows)))
      → (held : Option (List (List ℕ))) (told : List (List ℕ)) (lefts rights : ℕ) → new.held ≡ held → HasOpened old query told new → HaveGroupedRows held left told lefts rights
      → groups + 1 ≤ (lefts + 1) * (rights + 1)
  few_groups groups small within None told lefts rights is has (all, others) =
      let product = mul-le 4294967296 4294967296 (lefts + 1) (rights + 1) (omega (arith, all)) (omega (arith, others)) in omega (arith, small, product)
  few_groups groups small within (Some bytes) told lefts rights is has (few, none) = pairs groups lefts rights (by (within (bytes, sym same_held ∙ is)))
    where
      least : length (before_fault (gives_of_scan left 0 files)) ≤ lefts
      least = subst (λ (xs : List (List ℕ)). length (before_fault (gives_of_scan left 0 xs)) ≤ lefts)
          (told_same new.held old.held files told bytes is (same_held ∙ run.begun.held) has.held) (scan_few left 0 told lefts run.fit few)

      by : (groups ≡ 0) ⊎ ((given : ℕ) × (rows : List Row) × JobGives (open_job options alone) given rows × (groups ≤ length rows)) → groups ≤ lefts
      by (inl nothing) = omega (arith, nothing)
      by (inr (given, rows, gives, fewer)) = let front = first_few (scan_axis (open_job options alone)).gives given rows gives in let less = least in omega (arith, fewer, front, less)

  pub swept_groups : 1 ≤ length (sources_of query) → 1 ≤ greatest_width query → SweepsGroups (join_scan options alone) now before after → SweepsWithin old query options before new after
  swept_groups some wide s told lefts rights has rows =
      let same : map length told ≡ map length files = append_cancel_left old.sizes (map length told) (map length files) (sym has.sizes ∙ same_sizes ∙ run.begun.sizes) in
      let sum : sum_by (λ n. n) (sizes_in now.sizes (numbers_of alone)) ≡ sum_by length told = ap (sum_by (λ n. n)) (is_here.sizes ∙ sym same) ∙ sum_lengths told in
      within_bound options.workers (sum_by length told) (length (sources_of query)) ((lefts + 1) * (rights + 1)) (greatest_width query) before after s.groups
      (subst (λ (n : ℕ). after ≤ before + 1024 * (n + 3) + 512 * s.groups) sum s.few)
      (few_groups s.groups s.small (λ tells. s.within files (had_nothing old now query options files alone is_here now refl refl tells)) new.held told lefts rights refl has rows) some wide
