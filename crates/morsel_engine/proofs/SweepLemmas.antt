-- How many sweeps a run makes.
use Rattle.std.proofs.Common.{◌≡◌, ℕ, inl, inr, ◌+◌, ◌*◌, ◌<◌, ◌≤◌, ap, sym, subst, refl, ◌∙◌, arith}
use Rattle.std.proofs.Math.Nat.{le-mul_of_pos_right}
use Rattle.std.proofs.lemmas.List.{append_cancel_left}
use Rattle.std.specs.Prelude.{None, Result, List, [], ◌∷◌, ◌++◌, map, length}
use Rattle.std.specs.List.{sum_by}
use Rattle.morsel_meaning.specs.declared.fault.Fault.{Fault}
use Rattle.morsel_outside.specs.declared.io.FileNo.{FileNo}
use Rattle.morsel_outside.specs.Outside.{Outside}
use Rattle.morsel_outside.specs.Actions.{Making, Does}
use Rattle.morsel_scan.specs.Scans.{CsvScan}
use Rattle.morsel_scan.specs.declared.spec.ScanSpec.{ScanSpec}
use Rattle.morsel_read.specs.ScanReads.{sizes_in}
use Rattle.morsel_drive.proofs.TransferLemmas.{stays}
use Rattle.morsel_sink.specs.declared.spec.SinkSpec.{SinkSpec}
use Rattle.morsel_query.specs.RunOptions.{RunOptions}
use Rattle.morsel_query.specs.Queries.{QueryParts, file_scan, query_parts}
use Rattle.morsel_query.specs.QueryFlaws.{sources_of}
use Rattle.morsel_query.specs.Meanings.{csv_scan}
use Rattle.morsel_engine.specs.Stages.{HasOpenedAll, ScansFiles}
use Rattle.morsel_engine.specs.SweepBounds.{SweepsWithin, greatest_width, sweep_bound}
use Rattle.morsel_engine.proofs.ToldLemmas.{sizes_opened, sum_lengths}
use Rattle.morsel_engine.proofs.PartLemmas.{sources_are}
use Rattle.morsel_engine.proofs.ScanLemmas.{begun}

pub at_most : (n m : ℕ) → n ≤ n + m
at_most n m = omega arith

-- no sweep is within each bound
pub no_sweeps : (old new : Outside) (query : QueryParts) (options : RunOptions) (n : ℕ) → SweepsWithin old query options n new n
no_sweeps old new query options n files lefts rights opened rows = at_most n (sweep_bound options.workers (sum_by length files) (length (sources_of query)) lefts rights (greatest_width query))

added : (before after x y z : ℕ) → after ≤ before + x → x ≤ y → y ≤ z → after ≤ before + z
added before after x y z few less more = omega (arith, few, less, more)

a_row_more : (workers bytes sources rows : ℕ) → 0 < rows → 1024 * (bytes + 1) ≤ 1024 * (workers + bytes + sources + rows)
a_row_more workers bytes sources rows some = omega (arith, some)

some_rows : (left : ℕ) → 0 < (left + 1) * (0 + 1)
some_rows left = let all : left + 1 ≤ (left + 1) * (0 + 1) = le-mul_of_pos_right (left + 1) (omega arith) in omega (arith, all)

-- a few for each byte are within the bound
few_sweeps : (workers bytes sources left columns before after : ℕ) → after ≤ before + 1024 * (bytes + 1) → after ≤ before + sweep_bound workers bytes sources left 0 columns
few_sweeps workers bytes sources left columns before after few =
    let rows = (left + 1) * (0 + 1) in
    added before after (1024 * (bytes + 1)) (1024 * (workers + bytes + sources + rows)) (sweep_bound workers bytes sources left 0 columns) few
    (a_row_more workers bytes sources rows (some_rows left)) (le-mul_of_pos_right (1024 * (workers + bytes + sources + rows)) (omega arith))

-- a scan opens no file
scanned_sizes : (now new : Outside) (s : CsvScan) (names : List (List ℕ)) (numbers : List FileNo) (options : RunOptions) (result : Result ℕ Fault) → ScansFiles now s names numbers options result new → new.sizes ≡ now.sizes
scanned_sizes now new s names numbers options result (inl (none, same)) = ap (λ (o : Outside). o.sizes) same
scanned_sizes now new s names numbers options result (inr (fit, some, wrote)) = (stays now new wrote.actions wrote.each wrote.does).sizes

-- a scan of all files that were opened made a few sweeps for each of their bytes
pub swept : (old between now new : Outside) (left : ScanSpec) (sink : SinkSpec) (options : RunOptions) (numbers : List FileNo) (files : List (List ℕ)) (result : Result ℕ Fault) (before after : ℕ)
    → HasOpenedAll old left.sources.items numbers files between → Does between (Making sink.name ∷ []) now → ScansFiles now (csv_scan (file_scan left)) left.sources.items numbers options result new
    → after ≤ before + 1024 * (sum_by (λ n. n) (sizes_in now.sizes numbers) + 1) → SweepsWithin old (query_parts left None None sink) options before new after
swept old between now new left sink options numbers files result before after opened made scans few told lefts rights has rows =
    let query : QueryParts = query_parts left None None sink in
    let b = begun old between now query numbers files (subst (λ (names : List (List ℕ)). HasOpenedAll old names numbers files between) (sym (sources_are query refl)) opened) made in
    let same : map length told ≡ map length files = append_cancel_left old.sizes (map length told) (map length files)
    (sym has.sizes ∙ scanned_sizes now new (csv_scan (file_scan left)) left.sources.items numbers options result scans ∙ b.sizes) in
    let sum : sum_by (λ n. n) (sizes_in now.sizes numbers) ≡ sum_by length told = ap (λ (sizes : List ℕ). sum_by (λ n. n) (sizes_in sizes numbers)) b.sizes
    ∙ ap (λ (ns : List FileNo). sum_by (λ n. n) (sizes_in (old.sizes ++ map length files) ns)) opened.numbers_are ∙ ap (sum_by (λ n. n)) (sizes_opened old.sizes files ∙ sym same) ∙ sum_lengths told in
    subst (λ (n : ℕ). after ≤ before + sweep_bound options.workers (sum_by length told) (length (sources_of query)) lefts n (greatest_width query)) (sym rows.1)
    (few_sweeps options.workers (sum_by length told) (length (sources_of query)) lefts (greatest_width query) before after (subst (λ (n : ℕ). after ≤ before + 1024 * (n + 1)) sum few))
