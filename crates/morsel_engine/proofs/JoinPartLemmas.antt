-- The parts of a run of a query with a join, put together.
use Rattle.std.proofs.Common.{◌≡◌, ℕ, ◌+◌, ◌≤◌, ap, sym, subst, refl, ◌∙◌, append-nil, arith, length-append}
use Rattle.std.proofs.lemmas.List.{take_at, drop_at, length-take-le, length-drop}
use Rattle.std.specs.Prelude.{Option, Some, None, Result, Err, List, [], ◌∷◌, ◌++◌, length, map, take, drop, max}
use Rattle.morsel_meaning.specs.declared.fault.Fault.{Fault}
use Rattle.morsel_meaning.specs.declared.value.Field.{Field}
use Rattle.morsel_outside.specs.declared.io.FileNo.{FileNo}
use Rattle.morsel_outside.specs.Outside.{Outside}
use Rattle.morsel_outside.specs.Actions.{Making, Does}
use Rattle.morsel_scan.specs.declared.spec.ScanSpec.{ScanSpec}
use Rattle.morsel_join.specs.declared.rules.JoinRules.{JoinRules}
use Rattle.morsel_sink.specs.declared.spec.SinkSpec.{SinkSpec}
use Rattle.morsel_query.specs.declared.join.JoinSpec.{JoinSpec}
use Rattle.morsel_group.specs.Asked.{GroupAsked}
use Rattle.morsel_query.specs.RunOptions.{RunOptions}
use Rattle.morsel_query.specs.Queries.{FileFormat, CsvFiles, FileScan, JoinPart, QueryParts, file_scan, join_part, query_parts, fields_of_format}
use Rattle.morsel_query.specs.QueryFlaws.{sources_of, IsSound, AreColumns, columns_given}
use Rattle.morsel_query.specs.Plans.{fields_of_scan, fields_of_join, AreRulesOf, query_fault}
use Rattle.morsel_query.specs.Meanings.{left_files, right_files}
use Rattle.morsel_engine.specs.Courses.{file_numbers}
use Rattle.morsel_engine.specs.Stages.{HasOpenedAll, OpensSources, MakesSink, AreOpenIn, IsOpenSide, JoinsFiles, SweepsFiles}
use Rattle.morsel_engine.specs.Runs.{Runs}
use Rattle.morsel_engine.specs.SweepBounds.{greatest_width, width_by, width_of_scan, width_with, SweepsWithin}
use Rattle.morsel_engine.proofs.OpenLemmas.{length_numbers, numbers-append}
use Rattle.morsel_engine.proofs.ToldLemmas.{length_lengths}
use Rattle.morsel_engine.proofs.AskLemmas.{number_of}
use Rattle.morsel_engine.proofs.ScanLemmas.{Begun, begun}
use Rattle.morsel_engine.proofs.PartLemmas.{before_group, planned_scan, planned_right, counts, runs_not_opened, runs_not_made}
use Rattle.morsel_engine.proofs.JoinSideLemmas.{query_joined}
use Rattle.morsel_engine.proofs.JoinedLemmas.{JoinFit, runs_joined}
use Rattle.morsel_engine.proofs.SweepJoinLemmas.{swept_joined}

-- numbers of open files
opened_among : (o : Outside) (number n : ℕ) → number + n ≤ length o.sizes → AreOpenIn o (file_numbers number n)
opened_among o number n within source file is = let of = number_of number n source file.0 is in let place = of.0 in let less = of.1 in omega (arith, place, less, within)

-- two lists, cut at the same place
same_front : (xs ys zs ws : List FileNo) → length xs ≡ length zs → xs ++ ys ≡ zs ++ ws → (xs ≡ zs) × (ys ≡ ws)
same_front xs ys zs ws len same = (
  sym (take_at xs ys (length xs) refl) ∙ ap (take (length xs)) same ∙ take_at zs ws (length xs) (sym len),
  sym (drop_at xs ys (length xs) refl) ∙ ap (drop (length xs)) same ∙ drop_at zs ws (length xs) (sym len),
)

-- some column is read
wide : (left : FileScan) (join : JoinPart) (group : Option GroupAsked) (sink : SinkSpec) → AreColumns (columns_given left.format) → 1 ≤ greatest_width (query_joined left join group sink)
wide left join group sink columns = more group (by left.format columns)
  where
    by : (format : FileFormat) → AreColumns (columns_given format)
        → 1 ≤ max (max (max (length (fields_of_format format)) (length (fields_of_scan left))) (width_of_scan join.right)) (length (fields_of_join (fields_of_scan left) join))
    by (CsvFiles fields options) are = let some = are.0 in omega (arith, some)

    more : (group : Option GroupAsked) → 1 ≤ width_by left (Some join) → 1 ≤ width_with left (Some join) group
    more None some = some
    more (Some asked) some = omega (arith, some)

-- the sources of both sides, one after the other
both_sources : (left : ScanSpec) (join : JoinSpec) (group : Option GroupAsked) (sink : SinkSpec) → left.sources.items ++ join.right.sources.items ≡ sources_of (query_parts left (Some join) group sink)
both_sources left join group sink = ap (λ (names : List (List ℕ)). left.sources.items ++ names) (sym (append-nil join.right.sources.items))

-- files of both sides, by the names of each
pub as_named : (old now : Outside) (left : ScanSpec) (join : JoinSpec) (names others : List (List ℕ)) (numbers : List FileNo) (files : List (List ℕ)) → names ≡ left.sources.items → others ≡ join.right.sources.items
    → HasOpenedAll old (names ++ others) numbers files now → HasOpenedAll old (left.sources.items ++ join.right.sources.items) numbers files now
as_named old now left join names others numbers files one two opened =
    subst (λ (xs : List (List ℕ)). HasOpenedAll old (xs ++ join.right.sources.items) numbers files now) one
    (subst (λ (xs : List (List ℕ)). HasOpenedAll old (names ++ xs) numbers files now) two opened)

-- opening failed
pub sides_not_opened : (old new : Outside) (left : ScanSpec) (join : JoinSpec) (group : Option GroupAsked) (sink : SinkSpec) (options : RunOptions) (names others : List (List ℕ)) (fault : Fault) → names ≡ left.sources.items → others ≡ join.right.sources.items
    → query_fault (query_parts left (Some join) group sink) ≡ None → OpensSources old (names ++ others) 0 (Err fault) new → Runs old (query_parts left (Some join) group sink) options (Err fault) new
sides_not_opened old new left join group sink options names others fault one two planned opens =
    runs_not_opened old new (query_parts left (Some join) group sink) options fault planned
    (subst (λ (xs : List (List ℕ)). OpensSources old xs 0 (Err fault) new) (both_sources left join group sink)
    (subst (λ (xs : List (List ℕ)). OpensSources old (xs ++ join.right.sources.items) 0 (Err fault) new) one
    (subst (λ (xs : List (List ℕ)). OpensSources old (names ++ xs) 0 (Err fault) new) two opens)))

-- making the sink failed
pub sides_not_made : (old now new : Outside) (left : ScanSpec) (join : JoinSpec) (group : Option GroupAsked) (sink : SinkSpec) (options : RunOptions) (numbers : List FileNo) (files : List (List ℕ)) (fault : Fault)
    → query_fault (query_parts left (Some join) group sink) ≡ None → HasOpenedAll old (left.sources.items ++ join.right.sources.items) numbers files now → MakesSink {A = Unit {0}} now sink.name (Err fault) new
    → Runs old (query_parts left (Some join) group sink) options (Err fault) new
sides_not_made old now new left join group sink options numbers files fault planned opened made =
    runs_not_made old now new (query_parts left (Some join) group sink) options numbers files fault planned
    (subst (λ (names : List (List ℕ)). HasOpenedAll old names numbers files now) (both_sources left join group sink) opened) made

module _ (old between now : Outside) (left : ScanSpec) (join : JoinSpec) (group : Option GroupAsked) (sink : SinkSpec) (lefts rights : List FileNo) (files : List (List ℕ))
    (sound : IsSound (query_parts left (Some join) group sink)) (planned : query_fault (query_parts left (Some join) group sink) ≡ None)
    (opened : HasOpenedAll old (left.sources.items ++ join.right.sources.items) (lefts ++ rights) files between) (one_each : length lefts ≡ length left.sources.items)
    (made : Does between (Making sink.name ∷ []) now) where
  abbrev query : QueryParts
  query = query_parts left (Some join) group sink

  abbrev left_scan : FileScan
  left_scan = file_scan left

  pub start : Begun old query files now
  start = begun old between now query (lefts ++ rights) files
      (subst (λ (names : List (List ℕ)). HasOpenedAll old names (lefts ++ rights) files between) (ap (λ (names : List (List ℕ)). left.sources.items ++ names) (sym (append-nil join.right.sources.items))) opened) made

  all_files : length files ≡ length left.sources.items + length join.right.sources.items
  all_files = opened.all ∙ length-append left.sources.items join.right.sources.items

  left_count : length (left_files left_scan files) ≡ length left.sources.items
  left_count = length-take-le (length left.sources.items) files (let n = all_files in omega (arith, n))

  right_count : length (right_files left_scan files) ≡ length join.right.sources.items
  right_count = let n = all_files in let m = length-drop (length left.sources.items) files in omega (arith, n, m)

  split : (lefts ≡ file_numbers (length old.sizes) (length (left_files left_scan files)))
      × (rights ≡ file_numbers (length old.sizes + length left.sources.items) (length (right_files left_scan files)))
  split = same_front lefts rights (file_numbers (length old.sizes) (length (left_files left_scan files))) (file_numbers (length old.sizes + length left.sources.items) (length (right_files left_scan files)))
      (one_each ∙ sym left_count ∙ sym (length_numbers (length old.sizes) (length (left_files left_scan files))))
      (opened.numbers_are
      ∙ ap (file_numbers (length old.sizes)) (let n = all_files in let a = left_count in let b = right_count in let same : length files ≡ length (left_files left_scan files) + length (right_files left_scan files) = omega (arith, n, a, b) in same)
      ∙ numbers-append (length old.sizes) (length (left_files left_scan files)) (length (right_files left_scan files))
      ∙ ap (λ (n : ℕ). file_numbers (length old.sizes) (length (left_files left_scan files)) ++ file_numbers (length old.sizes + n) (length (right_files left_scan files))) left_count)

  open_count : length now.sizes ≡ length old.sizes + length files
  open_count = ap length start.sizes ∙ length-append old.sizes (map length files) ∙ ap (λ (n : ℕ). length old.sizes + n) (length_lengths files)

  pub left_open_side : (columns : List Field) → columns ≡ fields_of_scan left_scan → IsOpenSide now left columns lefts
  left_open_side columns is = record {
    some = sound.each.0.some_source;
    few = sound.each.0.few_sources;
    one_each = one_each;
    opened = subst (AreOpenIn now) (sym split.0) (opened_among now (length old.sizes) (length (left_files left_scan files)) (let n = open_count in let a = left_count in let b = all_files in omega (arith, n, a, b)));
    planned = planned_scan query planned;
    columns_are = is;
  }

  pub right_open_side : (columns : List Field) → columns ≡ fields_of_scan (file_scan join.right) → IsOpenSide now join.right columns rights
  right_open_side columns is = record {
    some = sound.each.1.0.some_source;
    few = sound.each.1.0.few_sources;
    one_each = ap length split.1 ∙ length_numbers (length old.sizes + length left.sources.items) (length (right_files left_scan files)) ∙ right_count;
    opened = subst (AreOpenIn now) (sym split.1) (opened_among now (length old.sizes + length left.sources.items) (length (right_files left_scan files))
        (let n = open_count in let a = right_count in let b = all_files in omega (arith, n, a, b)));
    planned = planned_right left_scan (join_part join) (before_group left_scan (Some (join_part join)) group planned);
    columns_are = is;
  }

  -- the run of the join knows enough of its query
  pub fits_join : (rules : JoinRules) → AreRulesOf (fields_of_scan left_scan) (fields_of_scan (file_scan join.right)) (join_part join) rules → JoinFit left_scan (join_part join) group sink rules
  fits_join rules are = record {
    planned = planned;
    left_first = counts left.file_options.slice (planned_scan query planned).from_first;
    right_first = counts join.right.file_options.slice (planned_right left_scan (join_part join) (before_group left_scan (Some (join_part join)) group planned)).from_first;
    left_some = sound.each.0.some_source;
    right_some = sound.each.1.0.some_source;
    are_rules = are;
  }

  -- what holds of the numbers of the files, by the places of the files
  pub by_place : (P : List FileNo → List FileNo → Type 0) → P lefts rights
      → P (file_numbers (length old.sizes) (length (left_files left_scan files))) (file_numbers (length old.sizes + length left.sources.items) (length (right_files left_scan files)))
  by_place P are =
      subst (λ (xs : List FileNo). P xs (file_numbers (length old.sizes + length left.sources.items) (length (right_files left_scan files)))) split.0 (subst (λ (xs : List FileNo). P lefts xs) split.1 are)

  pub wide_enough : 1 ≤ greatest_width query
  wide_enough = wide left_scan (join_part join) group sink sound.each.0.columns

-- the rows of the join were written
module _ (old between now : Outside) (left : ScanSpec) (join : JoinSpec) (sink : SinkSpec) (lefts rights : List FileNo) (files : List (List ℕ))
    (sound : IsSound (query_parts left (Some join) None sink)) (planned : query_fault (query_parts left (Some join) None sink) ≡ None)
    (opened : HasOpenedAll old (left.sources.items ++ join.right.sources.items) (lefts ++ rights) files between) (one_each : length lefts ≡ length left.sources.items)
    (made : Does between (Making sink.name ∷ []) now) (rules : JoinRules) (options : RunOptions)
    (are : AreRulesOf (fields_of_scan (file_scan left)) (fields_of_scan (file_scan join.right)) (join_part join) rules) where
  abbrev plain : QueryParts
  plain = query_parts left (Some join) None sink

  begins : Begun old plain files now
  begins = start old between now left join None sink lefts rights files sound planned opened one_each made

  fits : JoinFit (file_scan left) (join_part join) None sink rules
  fits = fits_join old between now left join None sink lefts rights files sound planned opened one_each made rules are

  pub runs_sides : (result : Result ℕ Fault) (new : Outside) → JoinsFiles now (file_scan left) (file_scan join.right) lefts rights rules options result new → Runs old plain options result new
  runs_sides result new joins = runs_joined old now new (file_scan left) (join_part join) sink rules options files result fits begins
      (by_place old between now left join None sink lefts rights files sound planned opened one_each made (λ xs ys. JoinsFiles now (file_scan left) (file_scan join.right) xs ys rules options result new) joins)

  pub swept_sides : (new : Outside) (before after : ℕ) → new.sizes ≡ now.sizes → new.held ≡ now.held
      → SweepsFiles now (file_scan left) (file_scan join.right) lefts rights rules options before after → SweepsWithin old plain options before new after
  swept_sides new before after sizes held sweeps =
      swept_joined old now new (file_scan left) (join_part join) None sink options files begins sizes held
      (wide_enough old between now left join None sink lefts rights files sound planned opened one_each made) before after rules fits
      (by_place old between now left join None sink lefts rights files sound planned opened one_each made (λ xs ys. SweepsFiles now (file_scan left) (file_scan join.right) xs ys rules options before after) sweeps)
