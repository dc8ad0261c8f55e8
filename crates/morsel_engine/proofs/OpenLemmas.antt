-- Files that are opened one after the other.
use Rattle.std.proofs.Common.{◌≡◌, ℕ, suc, ◌+◌, ◌≤◌, ◌<◌, ap, sym, subst, refl, ◌∙◌, arith, length-append, add-zero}
use Rattle.std.specs.Prelude.{zero, Option, Some, None, Err, List, [], ◌∷◌, ◌++◌, map, length, take, get_or, slice_get}
use Rattle.std.specs.List.{fold, flat_map, sum_by}
use Rattle.std.proofs.lemmas.List.Sums.{sum_by-append}
use Rattle.morsel_outside.specs.declared.events.Asked.TheVariants.{Open}
use Rattle.morsel_outside.specs.declared.io.FileNo.{FileNo}
use Rattle.morsel_outside.specs.Outside.{Outside, Sink, with_more}
use Rattle.morsel_outside.specs.Actions.{Opening, FailedOpening, Does, opened_by, made_after, sinks_by, printed_by, event_of, asked_by, read_failures, write_failures, print_faults_after, failed_after, RisesBy}
use Rattle.morsel_outside.specs.declared.io.IoErr.{IoErr}
use Rattle.morsel_outside.specs.declared.io.IoErr.TheVariants.{OutOfMemory, Failed}
use Rattle.morsel_outside.specs.Calls.{IsNextFile, Opens}
use Rattle.morsel_outside.proofs.ActionLemmas.{does-append, with_more-nil}
use Rattle.morsel_outside.proofs.DoesLemmas.{does-nothing}
use Rattle.morsel_engine.specs.Courses.{openings, file_numbers}
use Rattle.morsel_engine.specs.Stages.{HasOpenedFirst, HasOpenedAll, FailsToOpen}

-- one file more is opened
pub openings-next : (names files : List (List ℕ)) (name bytes : List ℕ) → slice_get names (length files) ≡ Some name
    → openings names (files ++ bytes ∷ []) ≡ openings names files ++ Opening name bytes ∷ []
openings-next [] files name bytes is = absurd (let e : None ≡ Some name = is in cc)
openings-next (first ∷ names) [] name bytes is = let e : Some first ≡ Some name = is in let same : first ≡ name = cc in ap (λ n. Opening n bytes ∷ []) same
openings-next (first ∷ names) (file ∷ files) name bytes is = ap (λ actions. Opening first file ∷ actions) (openings-next names files name bytes is)

-- the name at a place, as a loop has it
pub name_is : (names : List (List ℕ)) (n : ℕ) (name : List ℕ) → n < length names → name ≡ get_or names n name → slice_get names n ≡ Some name
name_is [] n name less is = absurd (omega (arith, less))
name_is (first ∷ names) zero name less is = ap (λ (x : List ℕ). Some x) (sym is)
name_is (first ∷ names) (suc n) name less is = name_is names n name (omega (arith, less)) is

-- one number more
pub numbers-next : (number n : ℕ) → file_numbers number (n + 1) ≡ file_numbers number n ++ record { 0 = number + n } ∷ []
numbers-next number zero = ap (file_numbers number) (let same : 0 + 1 ≡ suc 0 = omega arith in same) ∙ ap (λ (k : ℕ). the_number k ∷ []) (sym (add-zero number))
  where
    the_number : ℕ → FileNo
    the_number k = record { 0 = k }
numbers-next number (suc n) = ap (file_numbers number) (let same : suc n + 1 ≡ suc (n + 1) = omega arith in same) ∙ ap (λ (rest : List FileNo). the_number number ∷ rest) (numbers-next (number + 1) n
    ∙ ap (λ (k : ℕ). file_numbers (number + 1) n ++ the_number k ∷ []) (let same : number + 1 + n ≡ number + suc n = omega arith in same))
  where
    the_number : ℕ → FileNo
    the_number k = record { 0 = k }

-- numbers in two parts
pub numbers-append : (number n m : ℕ) → file_numbers number (n + m) ≡ file_numbers number n ++ file_numbers (number + n) m
numbers-append number zero m = ap (file_numbers number) (let none : 0 + m ≡ m = omega arith in none) ∙ ap (λ (k : ℕ). file_numbers k m) (let same : number ≡ number + 0 = omega arith in same)
numbers-append number (suc n) m =
    ap (file_numbers number) (let same : suc n + m ≡ suc (n + m) = omega arith in same)
    ∙ ap (λ (rest : List FileNo). the_number number ∷ rest) (numbers-append (number + 1) n m ∙ ap (λ (k : ℕ). file_numbers (number + 1) n ++ file_numbers k m) (let same : number + 1 + n ≡ number + suc n = omega arith in same))
  where
    the_number : ℕ → FileNo
    the_number k = record { 0 = k }

-- what openings leave as it was, and what they add
pub record OnlyOpens (names files : List (List ℕ)) : Type 0 where
  pub opened : flat_map opened_by (openings names files) ≡ files
  pub sinks : sum_by sinks_by (openings names files) ≡ 0
  pub made : (made : Option (List Sink)) → fold made_after made (openings names files) ≡ made
  pub printed : flat_map printed_by (openings names files) ≡ []
  pub events : flat_map event_of (openings names files) ≡ []
  pub reads : sum_by read_failures (openings names files) ≡ 0
  pub writes : sum_by write_failures (openings names files) ≡ 0
  pub print_faults : (count : ℕ) → fold print_faults_after count (openings names files) ≡ count
  pub failed : (failed : ℕ) → fold failed_after failed (openings names files) ≡ failed
  pub asked : flat_map asked_by (openings names files) ≡ map Open (take (length files) names)

pub only_opens : (names files : List (List ℕ)) → length files ≤ length names → OnlyOpens names files
only_opens [] (bytes ∷ files) few = absurd (omega (arith, few))
only_opens names [] few = record {
  opened = refl;
  sinks = refl;
  made = λ made. refl;
  printed = refl;
  events = refl;
  reads = refl;
  writes = refl;
  print_faults = λ count. refl;
  failed = λ failed. refl;
  asked = refl;
}
only_opens (name ∷ names) (bytes ∷ files) few =
    let rest = only_opens names files (omega (arith, few)) in record {
      opened = ap (λ all. bytes ∷ all) rest.opened;
      sinks = let sum = sum_by-append sinks_by (Opening name bytes ∷ []) (openings names files) in let n = rest.sinks in omega (arith, sum, n);
      made = rest.made;
      printed = rest.printed;
      events = rest.events;
      reads = let sum = sum_by-append read_failures (Opening name bytes ∷ []) (openings names files) in let n = rest.reads in omega (arith, sum, n);
      writes = let sum = sum_by-append write_failures (Opening name bytes ∷ []) (openings names files) in let n = rest.writes in omega (arith, sum, n);
      print_faults = rest.print_faults;
      failed = rest.failed;
      asked = ap (λ all. Open name ∷ all) rest.asked;
    }

-- the outside where sources are open and nothing else was done
pub record IsOpened (old : Outside) (names files : List (List ℕ)) (now : Outside) : Type 0 where
  pub sizes : now.sizes ≡ old.sizes ++ map length files
  pub held : now.held ≡ with_more old.held files
  pub sinks : now.sinks ≡ old.sinks
  pub made : now.made ≡ old.made
  pub printed : now.printed ≡ old.printed
  pub events : now.events ≡ old.events
  pub read_faults : now.read_faults ≡ old.read_faults
  pub write_faults : now.write_faults ≡ old.write_faults
  pub print_faults : now.print_faults ≡ old.print_faults
  pub failed : now.failed ≡ old.failed
  pub asked : now.asked ≡ old.asked ++ map Open (take (length files) names)

pub is_opened : (old now : Outside) (names files : List (List ℕ)) → HasOpenedFirst old names files now → IsOpened old names files now
is_opened old now names files has =
    let does = has.does in
    let only = only_opens names files has.few in record {
      sizes = does.sizes ∙ ap (λ all. old.sizes ++ map length all) only.opened;
      held = does.held ∙ ap (with_more old.held) only.opened;
      sinks = let n = does.sinks in let m = only.sinks in omega (arith, n, m);
      made = does.made ∙ only.made old.made;
      printed = does.printed ∙ ap (with_more old.printed) only.printed ∙ with_more-nil old.printed;
      events = does.events ∙ ap (with_more old.events) only.events ∙ with_more-nil old.events;
      read_faults = subst (λ (n : ℕ). RisesBy n old.read_faults now.read_faults) only.reads does.read_faults;
      write_faults = subst (λ (n : ℕ). RisesBy n old.write_faults now.write_faults) only.writes does.write_faults;
      print_faults = does.print_faults ∙ only.print_faults old.print_faults;
      failed = does.failed ∙ only.failed old.failed;
      asked = does.asked ∙ ap (λ all. old.asked ++ all) only.asked;
    }

length_map : (xs : List (List ℕ)) → length (map length xs) ≡ length xs
length_map [] = refl
length_map (x ∷ xs) = ap suc (length_map xs)

-- the number of the next file
pub number_next : (old now : Outside) (names files : List (List ℕ)) → HasOpenedFirst old names files now → length now.sizes ≡ length old.sizes + length files
number_next old now names files first = ap length (is_opened old now names files first).sizes ∙ length-append old.sizes (map length files)
    ∙ ap (λ (n : ℕ). length old.sizes + n) (length_map files)

-- the first names are opened, so many
pub record Opened (old : Outside) (names files : List (List ℕ)) (numbers : List FileNo) (index : ℕ) (now : Outside) : Type 0 where
  pub first : HasOpenedFirst old names files now
  pub count : length files ≡ index
  pub numbers_are : numbers ≡ file_numbers (length old.sizes) index

-- none is
pub opened-none : (o : Outside) (names : List (List ℕ)) → Opened o names [] [] 0 o
opened-none o names = record {
  first = record { few = omega arith; does = does-nothing o; sized = λ less. absurd (omega (arith, less)) };
  count = refl;
  numbers_are = refl;
}

-- one more is
pub opened-next : (old now new : Outside) (names files : List (List ℕ)) (numbers : List FileNo) (index : ℕ) (name bytes : List ℕ) (file : FileNo)
    → Opened old names files numbers index now → index < length names → slice_get names index ≡ Some name → IsNextFile now name file.0 bytes new
    → Opened old names (files ++ bytes ∷ []) (numbers ++ file ∷ []) (index + 1) new
opened-next old now new names files numbers index name bytes file is within here next =
    let len : length (files ++ bytes ∷ []) ≡ index + 1 = length-append files (bytes ∷ []) ∙ ap (λ n. n + 1) is.count in record {
      first = record {
        few = omega (arith, len, within);
        does = subst (λ actions. Does old actions new) (sym (openings-next names files name bytes (ap (slice_get names) is.count ∙ here)))
            (does-append old now new (openings names files) (Opening name bytes ∷ []) is.first.does next.does);
        sized = λ some. next.sized;
      };
      count = len;
      numbers_are = ap (λ (all : List FileNo). all ++ file ∷ []) is.numbers_are
          ∙ ap (λ (n : ℕ). file_numbers (length old.sizes) index ++ the_number n ∷ []) (next.number ∙ number_next old now names files is.first ∙ ap (λ (n : ℕ). length old.sizes + n) is.count)
          ∙ sym (numbers-next (length old.sizes) index);
    }
  where
    the_number : ℕ → FileNo
    the_number k = record { 0 = k }

-- all are
pub opened-all : (old now : Outside) (names files : List (List ℕ)) (numbers : List FileNo) (index : ℕ) → Opened old names files numbers index now → index ≡ length names
    → HasOpenedAll old names numbers files now
opened-all old now names files numbers index is all = record {
  first = is.first;
  all = is.count ∙ all;
  numbers_are = is.numbers_are ∙ ap (file_numbers (length old.sizes)) (sym is.count);
}

-- the next one could not be
pub opened-fails : (old now new : Outside) (names files : List (List ℕ)) (numbers : List FileNo) (index : ℕ) (name : List ℕ)
    → Opened old names files numbers index now → index < length names → slice_get names index ≡ Some name → Does now (FailedOpening (length now.sizes) name ∷ []) new
    → FailsToOpen old names files index new
opened-fails old now new names files numbers index name is within here fails = record {
  between = now;
  first = is.first;
  number = sym is.count;
  within = within;
  name = name;
  is_name = here;
  fails = subst (λ (n : ℕ). Does now (FailedOpening n name ∷ []) new) (number_next old now names files is.first ∙ ap (λ (n : ℕ). length old.sizes + n) is.count) fails;
}

-- what a failed opening did
pub failed_opening : (now new : Outside) (told name : List ℕ) (why : IoErr) → why ≡ Failed → told ≡ name → Opens now told (Err why) new → Does now (FailedOpening (length now.sizes) name ∷ []) new
failed_opening now new told name OutOfMemory is same opens = absurd (cc)
failed_opening now new told name Failed is same opens = subst (λ (x : List ℕ). Does now (FailedOpening (length now.sizes) x ∷ []) new) same opens

-- as many numbers
pub length_numbers : (number n : ℕ) → length (file_numbers number n) ≡ n
length_numbers number zero = refl
length_numbers number (suc n) = ap suc (length_numbers (number + 1) n)
