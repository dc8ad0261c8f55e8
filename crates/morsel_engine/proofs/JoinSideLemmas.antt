-- The two sides of a join, whose files were opened one after the other: what is told of each, and what reads of both ask.
use Rattle.std.proofs.Common.{◌≡◌, ◌⊎◌, ℕ, zero, suc, ◌+◌, ◌-◌, ◌<◌, ◌≤◌, ap, sym, subst, refl, ◌∙◌, inl, inr, arith, append-nil, append_assoc, length-append}
use Rattle.std.proofs.Math.Seq.{get_or-append_seam}
use Rattle.std.proofs.lemmas.Bool.{cases_lt}
use Rattle.std.proofs.lemmas.Bool.Decides.{nat_tests}
use Rattle.std.proofs.lemmas.List.{length-take-le, length-drop, take-append-drop, map-append, take-map, drop-map, get_or_past, length-map}
use Rattle.std.proofs.lemmas.List.Sums.{sum_by-append, fold-append}
use Rattle.std.specs.Prelude.{Bool, true, false, ◌||◌, Option, Some, None, List, [], ◌∷◌, ◌++◌, map, length, take, drop, get_or}
use Rattle.std.specs.List.{fold}
use Rattle.morsel_meaning.specs.Values.{Row}
use Rattle.morsel_grammar.specs.Dialect.{IsDialect}
use Rattle.morsel_outside.specs.declared.events.IoEvent.{IoEvent}
use Rattle.morsel_outside.specs.declared.io.FileNo.{FileNo}
use Rattle.morsel_outside.specs.Outside.{Outside}
use Rattle.morsel_outside.specs.Actions.{Action, read_failures, failed_after}
use Rattle.morsel_outside.specs.Asks.{times_asked}
use Rattle.morsel_read.specs.ScanReads.{sizes_in, CountsFromFirst, AreTold}
use Rattle.morsel_sink.specs.declared.spec.SinkSpec.{SinkSpec}
use Rattle.morsel_group.specs.Asked.{GroupAsked}
use Rattle.morsel_query.specs.Queries.{FileScan, JoinPart, QueryParts}
use Rattle.morsel_query.specs.Meanings.{csv_scan, left_files, right_files, JoinMeans, MeansWith}
use Rattle.morsel_engine.specs.Courses.{file_numbers, is_before, AsksUpTo, AsksBothUpTo}
use Rattle.morsel_engine.specs.Runs.{TellsBytes}
use Rattle.morsel_engine.proofs.ToldLemmas.{sizes_opened, are_told}
use Rattle.morsel_engine.proofs.OpenLemmas.{length_numbers, numbers-append}
use Rattle.morsel_engine.proofs.AskLemmas.{count_of, FailsAt}
use Rattle.morsel_engine.proofs.ScanLemmas.{Begun}
use Rattle.morsel_engine.proofs.OpenScanLemmas.{OpenScan, numbers_of, IsOfQuery}

-- what is told of files is told of the first of them, and of the others
told_parts : (o : Outside) (numbers others : List FileNo) (files more : List (List ℕ)) → length numbers ≡ length files → AreTold o (numbers ++ others) (files ++ more)
    → AreTold o numbers files × AreTold o others more
told_parts o [] others [] more same told = (tt, told)
told_parts o [] others (bytes ∷ files) more same told = absurd (omega (arith, same))
told_parts o (number ∷ numbers) others [] more same told = absurd (omega (arith, same))
told_parts o (number ∷ numbers) others (bytes ∷ files) more same (is, size, told) =
    let rest = told_parts o numbers others files more (omega (arith, same)) told in ((is, size, rest.0), rest.1)

-- how many bytes files have that were opened after others, and others after them
sizes_among : (before : List ℕ) (files : List (List ℕ)) (later : List ℕ) → sizes_in (before ++ (map length files ++ later)) (file_numbers (length before) (length files)) ≡ map length files
sizes_among before [] later = refl
sizes_among before (bytes ∷ files) later =
    ap (λ (n : ℕ). n ∷ sizes_in (before ++ length bytes ∷ (map length files ++ later)) (file_numbers (length before + 1) (length files))) (get_or-append_seam before (length bytes) (map length files ++ later) 0)
    ∙ ap (λ (xs : List ℕ). length bytes ∷ xs) (subst (λ (n : ℕ). sizes_in (before ++ length bytes ∷ (map length files ++ later)) (file_numbers n (length files)) ≡ map length files) (length-append before (length bytes ∷ []))
    (subst (λ (xs : List ℕ). sizes_in xs (file_numbers (length (before ++ length bytes ∷ [])) (length files)) ≡ map length files) (append_assoc before (length bytes ∷ []) (map length files ++ later))
    (sizes_among (before ++ length bytes ∷ []) files later)))

-- the open files of the left side, and those of the right one
abbrev pub left_open : Outside → FileScan → List (List ℕ) → OpenScan
left_open old left files = record { scan = left; first = 0; number = length old.sizes; files = left_files left files }

abbrev pub right_open : Outside → FileScan → JoinPart → List (List ℕ) → OpenScan
right_open old left join files = record { scan = join.right; first = length left.sources; number = length old.sizes + length left.sources; files = right_files left files }

-- a query with a join, and with a group-by or without
abbrev pub query_joined : FileScan → JoinPart → Option GroupAsked → SinkSpec → QueryParts
query_joined left join group sink = record { left = left; join = Some join; group = group; sink = sink }

-- rows that the join may give, of those that the query may give
joined_input : (left : FileScan) (join : JoinPart) (group : Option GroupAsked) (files : List (List ℕ)) (rows : List Row) → MeansWith left (Some join) group files rows → (input : List Row) × JoinMeans left join files input
joined_input left join None files rows means = (rows, means)
joined_input left join (Some asked) files rows means = (means.input, means.means)

-- what a run of a query with a join has to know of its sides
pub record SidesFit (left : FileScan) (join : JoinPart) : Type 0 where
  pub left_fit : IsDialect (csv_scan left).options
  pub right_fit : IsDialect (csv_scan join.right).options
  pub left_first : CountsFromFirst left.asked.slice
  pub right_first : CountsFromFirst join.right.asked.slice
  pub left_some : 0 < length left.sources
  pub right_some : 0 < length join.right.sources

module _ (old now : Outside) (left : FileScan) (join : JoinPart) (group : Option GroupAsked) (sink : SinkSpec) (files : List (List ℕ)) (fit : SidesFit left join) (begun : Begun old (query_joined left join group sink) files now) where
  abbrev query : QueryParts
  query = query_joined left join group sink

  lefts : ℕ
  lefts = length left.sources

  all_files : length files ≡ length left.sources + length join.right.sources
  all_files = begun.all ∙ length-append left.sources (join.right.sources ++ []) ∙ ap (λ (xs : List (List ℕ)). length left.sources + length xs) (append-nil join.right.sources)

  left_count : length (left_files left files) ≡ length left.sources
  left_count = length-take-le (length left.sources) files (let n = all_files in omega (arith, n))

  right_count : length (right_files left files) ≡ length join.right.sources
  right_count = let n = all_files in let m = length-drop (length left.sources) files in omega (arith, n, m)

  parts : left_files left files ++ right_files left files ≡ files
  parts = take-append-drop (length left.sources) files

  sizes_are : now.sizes ≡ old.sizes ++ (map length (left_files left files) ++ map length (right_files left files))
  sizes_are = begun.sizes ∙ ap (λ (xs : List (List ℕ)). old.sizes ++ map length xs) (sym parts) ∙ ap (λ (xs : List ℕ). old.sizes ++ xs) (map-append length (left_files left files) (right_files left files))

  some_file : 0 < length files
  some_file = let n = all_files in let m = fit.left_some in omega (arith, n, m)

  numbers_split : file_numbers (length old.sizes) (length files)
      ≡ file_numbers (length old.sizes) (length (left_files left files)) ++ file_numbers (length old.sizes + length left.sources) (length (right_files left files))
  numbers_split =
      ap (file_numbers (length old.sizes)) (ap length (sym parts) ∙ length-append (left_files left files) (right_files left files))
      ∙ numbers-append (length old.sizes) (length (left_files left files)) (length (right_files left files))
      ∙ ap (λ (n : ℕ). file_numbers (length old.sizes) (length (left_files left files)) ++ file_numbers (length old.sizes + n) (length (right_files left files))) left_count

  told_both : TellsBytes now → AreTold now (numbers_of (left_open old left files)) (left_files left files) × AreTold now (numbers_of (right_open old left join files)) (right_files left files)
  told_both told =
      told_parts now (numbers_of (left_open old left files)) (numbers_of (right_open old left join files)) (left_files left files) (right_files left files)
      (length_numbers (length old.sizes) (length (left_files left files)))
      (subst (AreTold now (numbers_of (left_open old left files) ++ numbers_of (right_open old left join files))) (sym parts)
      (subst (λ (xs : List FileNo). AreTold now xs files) numbers_split (are_told old now files told.0 begun.sizes begun.held (begun.sized some_file) told.1)))

  pub left_is : IsOfQuery old now (query_joined left join group sink) files (left_open old left files)
  left_is = record {
    fit = fit.left_fit;
    from_first = fit.left_first;
    one_each = sym left_count;
    some = let n = left_count in let m = fit.left_some in omega (arith, n, m);
    number = omega arith;
    within = let n = left_count in let m = all_files in omega (arith, n, m);
    sizes = ap (λ (xs : List ℕ). sizes_in xs (numbers_of (left_open old left files))) sizes_are ∙ sizes_among old.sizes (left_files left files) (map length (right_files left files));
    told = λ told. (told_both told).0;
    cause = λ fault has. inl has;
    few = λ valid. valid.few.0;
    means = λ valid. let input = joined_input left join group files valid.rows valid.means in (input.1.lefts, input.1.left_rows);
  }

  pub right_is : IsOfQuery old now (query_joined left join group sink) files (right_open old left join files)
  right_is = record {
    fit = fit.right_fit;
    from_first = fit.right_first;
    one_each = sym right_count;
    some = let n = right_count in let m = fit.right_some in omega (arith, n, m);
    number = refl;
    within = let n = right_count in let m = all_files in omega (arith, n, m);
    sizes = right_sizes;
    told = λ told. (told_both told).1;
    cause = λ fault has. inr has;
    few = λ valid. valid.few.1;
    means = λ valid. let input = joined_input left join group files valid.rows valid.means in (input.1.rights, input.1.right_rows);
  }
    where
      before : List ℕ
      before = old.sizes ++ map length (left_files left files)

      before_len : length before ≡ length old.sizes + length left.sources
      before_len = length-append old.sizes (map length (left_files left files)) ∙ ap (λ (n : ℕ). length old.sizes + n) (length-map (left_files left files) length ∙ left_count)

      right_sizes : sizes_in now.sizes (numbers_of (right_open old left join files)) ≡ map length (right_files left files)
      right_sizes =
          ap (λ (xs : List ℕ). sizes_in xs (numbers_of (right_open old left join files))) (sizes_are ∙ sym (append_assoc old.sizes (map length (left_files left files)) (map length (right_files left files))))
          ∙ ap (λ (n : ℕ). sizes_in (before ++ map length (right_files left files)) (file_numbers n (length (right_files left files)))) (sym before_len)
          ∙ sizes_opened before (right_files left files)

-- events one after the other
times-append : (file byte : ℕ) (first later : List IoEvent) → times_asked file byte (first ++ later) ≡ times_asked file byte first + times_asked file byte later
times-append file byte [] later = omega arith
times-append file byte (event ∷ first) later = let rest = times-append file byte first later in omega (arith, rest)

-- of two tests that are not both true, one counts
either-left : (a b : Bool) → count_of a ≡ 0 → count_of a + count_of b ≡ count_of (a || b)
either-left true b none = absurd (let one : count_of true ≡ 1 = refl in omega (arith, one, none))
either-left false b none = omega arith

either-right : (a b : Bool) → count_of b ≡ 0 → count_of a + count_of b ≡ count_of (a || b)
either-right true b none = omega (arith, none)
either-right false b none = omega arith

-- a file before the first is none of them, and so is one after the last
before-first : (number : ℕ) (sizes : List ℕ) (to file byte : ℕ) → file < number → count_of (is_before number sizes to file byte) ≡ 0
before-first number sizes to file byte less = grind (arith, nat_tests, less)

past-last : (number : ℕ) (sizes : List ℕ) (to file byte : ℕ) → get_or sizes (file - number) 0 ≡ 0 → count_of (is_before number sizes to file byte) ≡ 0
past-last number sizes to file byte size = grind (arith, nat_tests, size)

apart : (number lefts : ℕ) (sizes more : List ℕ) (to other file byte : ℕ) → length sizes ≤ lefts
    → count_of (is_before number sizes to file byte) + count_of (is_before (number + lefts) more other file byte) ≡ count_of (is_before number sizes to file byte || is_before (number + lefts) more other file byte)
apart number lefts sizes more to other file byte few = by (cases_lt file (number + lefts))
  where
    by : (file < number + lefts) ⊎ (number + lefts ≤ file)
        → count_of (is_before number sizes to file byte) + count_of (is_before (number + lefts) more other file byte) ≡ count_of (is_before number sizes to file byte || is_before (number + lefts) more other file byte)
    by (inl less) = either-right (is_before number sizes to file byte) (is_before (number + lefts) more other file byte) (before-first (number + lefts) more other file byte less)
    by (inr past) = either-left (is_before number sizes to file byte) (is_before (number + lefts) more other file byte)
        (past-last number sizes to file byte (get_or_past sizes (file - number) 0 (omega (arith, past, few))))

-- reads of the files of both sides
pub asks_left_first : (number lefts : ℕ) (files : List (List ℕ)) (to other : ℕ) (first later : List IoEvent)
    → AsksUpTo number (map length (take lefts files)) to first → AsksUpTo (number + lefts) (map length (drop lefts files)) other later
    → AsksBothUpTo lefts number (map length files) (record { left = to; right = other }) (first ++ later)
asks_left_first number lefts files to other first later one two file byte =
    let few : length (take lefts (map length files)) ≤ lefts = length-take-most lefts (map length files) in
    let left_part = one file byte ∙ ap (λ (xs : List ℕ). count_of (is_before number xs to file byte)) (sym (take-map length lefts files)) in
    let right_part = two file byte ∙ ap (λ (xs : List ℕ). count_of (is_before (number + lefts) xs other file byte)) (sym (drop-map length lefts files)) in
    times-append file byte first later ∙ ap (λ (n : ℕ). n + times_asked file byte later) left_part
    ∙ ap (λ (n : ℕ). count_of (is_before number (take lefts (map length files)) to file byte) + n) right_part
    ∙ apart number lefts (take lefts (map length files)) (drop lefts (map length files)) to other file byte few
  where
    length-take-most : (n : ℕ) (xs : List ℕ) → length (take n xs) ≤ n
    length-take-most zero xs = omega arith
    length-take-most (suc n) [] = omega arith
    length-take-most (suc n) (x ∷ xs) = let h = length-take-most n xs in omega (arith, h)

-- how often a byte is asked does not depend on the order
pub asks_right_first : (number lefts : ℕ) (files : List (List ℕ)) (to other : ℕ) (first later : List IoEvent)
    → AsksUpTo (number + lefts) (map length (drop lefts files)) other first → AsksUpTo number (map length (take lefts files)) to later
    → AsksBothUpTo lefts number (map length files) (record { left = to; right = other }) (first ++ later)
asks_right_first number lefts files to other first later two one file byte =
    let swapped = asks_left_first number lefts files to other later first one two file byte in
    let a = times-append file byte first later in let b = times-append file byte later first in
    let same : times_asked file byte (first ++ later) ≡ times_asked file byte (later ++ first) = omega (arith, a, b) in same ∙ swapped

-- which read failed, among those of more files
pub fails_within : (number n failed base first total : ℕ) (actions : List Action) → number ≡ base + first → first + n ≤ total → FailsAt number n failed actions → FailsAt base total failed actions
fails_within number n failed base first total actions is within (inl none) = inl none
fails_within number n failed base first total actions is within (inr some) =
    let less = some.1 in let at = some.3 in inr (first + some.0, omega (arith, less, within), some.2, at ∙ omega (arith, is))

pub fails-append : (base total failed : ℕ) (first later : List Action) → FailsAt base total failed first → FailsAt base total (fold failed_after failed first) later → FailsAt base total failed (first ++ later)
fails-append base total failed first later one (inr some) = inr (
  some.0,
  some.1,
  (let sum = sum_by-append read_failures first later in let more = some.2 in omega (arith, sum, more)),
  fold-append failed_after failed first later ∙ some.3,
)
fails-append base total failed first later (inl none) (inl nothing) = inl (
  (let sum = sum_by-append read_failures first later in let a = none.0 in let b = nothing.0 in omega (arith, sum, a, b)),
  fold-append failed_after failed first later ∙ nothing.1 ∙ none.1,
)
fails-append base total failed first later (inr some) (inl nothing) = inr (
  some.0,
  some.1,
  (let sum = sum_by-append read_failures first later in let more = some.2 in omega (arith, sum, more)),
  fold-append failed_after failed first later ∙ nothing.1 ∙ some.3,
)
