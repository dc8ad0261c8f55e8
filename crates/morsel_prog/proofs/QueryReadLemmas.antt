-- The query file is opened and read whole.
use Rattle.std.specs.Prelude.{◌≡◌, ℕ, suc, ◌+◌, ◌<◌, ◌≤◌, slice_index, slice_range, get_or, Option, Some, None, Result, Ok, Err, List, [], ◌∷◌, ◌++◌, map, length, refl}
use Rattle.std.proofs.Common.{ap, sym, subst, ◌∙◌, arith, append-nil, add-zero, zero-add, length-append}
use Rattle.std.proofs.Math.Seq.{get_or-append_seam}
use Rattle.std.proofs.lemmas.Grind.{common_steps}
use Rattle.morsel_meaning.specs.declared.fault.Fault.{Fault}
use Rattle.morsel_meaning.specs.declared.fault.Fault.TheVariants as faults
use Rattle.morsel_outside.specs.declared.events.IoEvent.{IoEvent}
use Rattle.morsel_outside.specs.declared.events.IoEvent.TheVariants.{ReadAt}
use Rattle.morsel_outside.specs.Outside.{Outside, with_more, IsSized}
use Rattle.morsel_outside.specs.Actions.{Opening, FailedOpening, ReadingRange, FailedReadingRange, Rises, Does}
use Rattle.morsel_outside.specs.Calls.{Holds, IsNextFile}
use Rattle.morsel_outside.proofs.ActionLemmas.{with_more-nil}
use Rattle.morsel_prog.specs.QueryFiles.{most_query_bytes}
use Rattle.morsel_prog.specs.CommandQueries.{ReadsQueryFiles, NoReadFails, SamePrints}
use Rattle.morsel_prog.specs.QueryReads.{OpensQueryFile, ReadsOpened, ReadsWhole}

-- nothing was done
pub reads-nothing : (o : Outside) (names : List (List ℕ)) → ReadsQueryFiles o names [] o
reads-nothing o names = record {
  tried = 0;
  known = omega arith;
  opened = omega arith;
  in_order = omega arith;
  sizes = sym (append-nil o.sizes);
  held = sym (with_more-nil o.held);
  sinks = refl;
  made = refl;
  events = [];
  gained = sym (with_more-nil o.events);
  within = tt;
  asked = sym (append-nil o.asked);
}

pub no_read_fails-refl : (o : Outside) → NoReadFails o o
no_read_fails-refl o = record { count = refl; failed = refl }

pub same_prints-refl : (o : Outside) → SamePrints o o
same_prints-refl o = record { printed = refl; write_faults = refl; print_faults = refl }

-- the query file could not be opened
failed_opening : (old new : Outside) (name : List ℕ) → Does old (FailedOpening (length old.sizes) name ∷ []) new → ReadsWhole old name (Err (faults.ReadFault 4294967295)) new
failed_opening old new name does = (
  [],
  record {
    tried = 1;
    known = omega arith;
    opened = omega arith;
    in_order = omega arith;
    sizes = does.sizes;
    held = does.held;
    sinks = does.sinks ∙ add-zero old.sinks;
    made = does.made;
    events = [];
    gained = does.events;
    within = tt;
    asked = does.asked;
  },
  (refl, does.read_faults, does.failed),
  record { printed = does.printed ∙ with_more-nil old.printed; write_faults = does.write_faults; print_faults = does.print_faults },
)

pub whole-unopened : (old new : Outside) (name : List ℕ) (fault : Fault) → OpensQueryFile old name (Err fault) new → ReadsWhole old name (Err fault) new
whole-unopened old new name faults.OutOfMemory h =
    subst (λ (o : Outside). ReadsWhole old name (Err faults.OutOfMemory) o) (sym h) ([], reads-nothing old (name ∷ []), no_read_fails-refl old, same_prints-refl old)
whole-unopened old new name (faults.ReadFault file) h = subst (λ (n : ℕ). ReadsWhole old name (Err (faults.ReadFault n)) new) (sym h.0) (failed_opening old new name h.1)
whole-unopened old new name fault h = absurd h

-- the query file is open, and has these bytes
pub record IsOpen (old : Outside) (name bytes : List ℕ) (between : Outside) : Type 0 where
  pub sizes : between.sizes ≡ old.sizes ++ length bytes ∷ []
  pub held : between.held ≡ with_more old.held (bytes ∷ [])
  pub does : Does old (Opening name bytes ∷ []) between

is_open : (old between : Outside) (name bytes : List ℕ) (file : ℕ) → IsNextFile old name file bytes between → IsOpen old name bytes between
is_open old between name bytes file next = record { sizes = next.does.sizes; held = next.does.held; does = next.does }

-- it has these bytes, and was not read
reads-opened : (old between : Outside) (name bytes : List ℕ) → IsOpen old name bytes between → ReadsQueryFiles old (name ∷ []) (bytes ∷ []) between
reads-opened old between name bytes has = record {
  tried = 1;
  known = omega arith;
  opened = omega arith;
  in_order = omega arith;
  sizes = has.sizes;
  held = has.held;
  sinks = has.does.sinks ∙ add-zero old.sinks;
  made = has.does.made;
  events = [];
  gained = has.does.events;
  within = tt;
  asked = has.does.asked;
}

opened-no_fail : (old between : Outside) (name bytes : List ℕ) → IsOpen old name bytes between → NoReadFails old between
opened-no_fail old between name bytes has = record { count = has.does.read_faults; failed = has.does.failed }

opened-same : (old between : Outside) (name bytes : List ℕ) → IsOpen old name bytes between → SamePrints old between
opened-same old between name bytes has = record {
  printed = has.does.printed ∙ with_more-nil old.printed;
  write_faults = has.does.write_faults;
  print_faults = has.does.print_faults;
}

-- what a read of it left as it was, whether it failed or not
record AfterRead (between : Outside) (file len : ℕ) (new : Outside) : Type 0 where
  pub sizes : new.sizes ≡ between.sizes
  pub held : new.held ≡ between.held
  pub sinks : new.sinks ≡ between.sinks
  pub made : new.made ≡ between.made
  pub events : new.events ≡ with_more between.events (ReadAt file 0 len ∷ [])
  pub asked : new.asked ≡ between.asked
  pub same : SamePrints between new

after-reading : (between new : Outside) (file len : ℕ) → Does between (ReadingRange file 0 len ∷ []) new → AfterRead between file len new
after-reading between new file len does = record {
  sizes = does.sizes ∙ append-nil between.sizes;
  held = does.held ∙ with_more-nil between.held;
  sinks = does.sinks ∙ add-zero between.sinks;
  made = does.made;
  events = does.events;
  asked = does.asked ∙ append-nil between.asked;
  same = record { printed = does.printed ∙ with_more-nil between.printed; write_faults = does.write_faults; print_faults = does.print_faults };
}

after-failed_reading : (between new : Outside) (file len : ℕ) → Does between (FailedReadingRange file 0 len ∷ []) new → AfterRead between file len new
after-failed_reading between new file len does = record {
  sizes = does.sizes ∙ append-nil between.sizes;
  held = does.held ∙ with_more-nil between.held;
  sinks = does.sinks ∙ add-zero between.sinks;
  made = does.made;
  events = does.events;
  asked = does.asked ∙ append-nil between.asked;
  same = record { printed = does.printed ∙ with_more-nil between.printed; write_faults = does.write_faults; print_faults = does.print_faults };
}

pub same_prints-then : (old between new : Outside) → SamePrints old between → SamePrints between new → SamePrints old new
same_prints-then old between new first second = record {
  printed = second.printed ∙ first.printed;
  write_faults = second.write_faults ∙ first.write_faults;
  print_faults = second.print_faults ∙ first.print_faults;
}

-- it was read, within its size
reads-read : (old between new : Outside) (name bytes : List ℕ) (file len : ℕ) → IsOpen old name bytes between → file ≡ length old.sizes → len ≤ length bytes
    → AfterRead between file len new → ReadsQueryFiles old (name ∷ []) (bytes ∷ []) new
reads-read old between new name bytes file len has number fits after = record {
  tried = 1;
  known = omega arith;
  opened = omega arith;
  in_order = omega arith;
  sizes = after.sizes ∙ has.sizes;
  held = after.held ∙ has.held;
  sinks = after.sinks ∙ has.does.sinks ∙ add-zero old.sinks;
  made = after.made ∙ has.does.made;
  events = ReadAt file 0 len ∷ [];
  gained = after.events ∙ ap (λ (es : Option (List IoEvent)). with_more es (ReadAt file 0 len ∷ [])) (has.does.events ∙ with_more-nil old.events);
  within = ((0, omega arith, number ∙ sym (add-zero (length old.sizes)), omega (arith, fits)), tt);
  asked = after.asked ∙ has.does.asked;
}

-- a whole list
slice_whole : (xs : List ℕ) → slice_range xs 0 (length xs) ≡ xs
slice_whole xs = grind (arith, common_steps)

-- bytes that were read whole are those that the file has, where they are told
told_bytes : (held now : Option (List (List ℕ))) (sizes bytes found : List ℕ) (file : ℕ) → now ≡ with_more held (bytes ∷ []) → IsSized now (sizes ++ length bytes ∷ [])
    → file ≡ length sizes → length found ≡ length bytes → Holds now file 0 found → now ≡ with_more held (found ∷ [])
told_bytes None now sizes bytes found file is sized number len holds = is
told_bytes (Some files) now sizes bytes found file is sized number len holds =
    is ∙ ap (λ (b : List ℕ). Some (files ++ b ∷ [])) (sym same)
  where
    count : length files ≡ length sizes
    count = let lengths = ap length (subst (λ (o : Option (List (List ℕ))). IsSized o (sizes ++ length bytes ∷ [])) is sized) in
        let left = length-append files (bytes ∷ []) in let right = length-append sizes (length bytes ∷ []) in
        let mapped = length_map (files ++ bytes ∷ []) in omega (arith, lengths, left, right, mapped)
      where
        length_map : (xs : List (List ℕ)) → length (map length xs) ≡ length xs
        length_map [] = refl
        length_map (x ∷ xs) = ap suc (length_map xs)

    here : get_or (files ++ bytes ∷ []) file [] ≡ bytes
    here = ap (λ (n : ℕ). get_or (files ++ bytes ∷ []) n []) (number ∙ sym count) ∙ get_or-append_seam files bytes [] []

    same : found ≡ bytes
    same = sym (subst (λ (o : Option (List (List ℕ))). Holds o file 0 found) is holds)
        ∙ ap (λ (b : List ℕ). slice_range b 0 (0 + length found)) here
        ∙ ap (λ (n : ℕ). slice_range bytes 0 n) (zero-add (length found) ∙ len) ∙ slice_whole bytes

-- the size of the file that was opened
size_of : (old between : Outside) (name bytes : List ℕ) (file : ℕ) → IsOpen old name bytes between → file ≡ length old.sizes → slice_index between.sizes file ≡ length bytes
size_of old between name bytes file has number = ap (λ (n : ℕ). slice_index between.sizes n) number ∙ ap (λ (sizes : List ℕ). slice_index sizes (length old.sizes)) has.sizes
    ∙ get_or-append_seam old.sizes (length bytes) [] _

-- other bytes of the same length, where what the file has is not told
is_open-as : (old between : Outside) (name bytes found : List ℕ) → IsOpen old name bytes between → length found ≡ length bytes → between.held ≡ with_more old.held (found ∷ [])
    → IsOpen old name found between
is_open-as old between name bytes found has len held = record {
  sizes = has.sizes ∙ ap (λ (n : ℕ). old.sizes ++ n ∷ []) (sym len);
  held = held;
  does = record {
    sizes = has.does.sizes ∙ ap (λ (n : ℕ). old.sizes ++ n ∷ []) (sym len);
    held = held;
    sinks = has.does.sinks;
    made = has.does.made;
    printed = has.does.printed;
    events = has.does.events;
    read_faults = has.does.read_faults;
    write_faults = has.does.write_faults;
    print_faults = has.does.print_faults;
    failed = has.does.failed;
    asked = has.does.asked;
  };
}

pub whole-opened : (old between new : Outside) (name bytes : List ℕ) (file : ℕ) (result : Result (List ℕ) Fault) → IsNextFile old name file bytes between
    → ReadsOpened between file result new → ReadsWhole old name result new
whole-opened old between new name bytes file (Ok found) next (len, few, holds, does) =
    let before = is_open old between name bytes file next in
    let same = len ∙ size_of old between name bytes file before next.number in
    let held = told_bytes old.held between.held old.sizes bytes found file before.held (subst (IsSized between.held) before.sizes next.sized) next.number same holds in
    let has = is_open-as old between name bytes found before same held in
    let after = after-reading between new file (length found) does in (
      few,
      reads-read old between new name found file (length found) has next.number (omega arith) after,
      record { count = does.read_faults ∙ has.does.read_faults; failed = does.failed ∙ has.does.failed },
      same_prints-then old between new (opened-same old between name found has) after.same,
    )
whole-opened old between new name bytes file (Err faults.OutOfMemory) next h =
    let has = is_open old between name bytes file next in
    subst (λ (o : Outside). ReadsWhole old name (Err faults.OutOfMemory) o) (sym h)
    (bytes ∷ [], reads-opened old between name bytes has, opened-no_fail old between name bytes has, opened-same old between name bytes has)
whole-opened old between new name bytes file (Err faults.QueryText) next (h, many) =
    let has = is_open old between name bytes file next in
    let size = size_of old between name bytes file has next.number in
    subst (λ (o : Outside). ReadsWhole old name (Err faults.QueryText) o) (sym h) (
      bytes ∷ [],
      reads-opened old between name bytes has,
      (opened-no_fail old between name bytes has, bytes, refl, subst (λ (n : ℕ). most_query_bytes < n) size many),
      opened-same old between name bytes has,
    )
whole-opened old between new name bytes file (Err (faults.ReadFault number)) next (is, does) =
    let has = is_open old between name bytes file next in
    let size = size_of old between name bytes file has next.number in
    let after = after-failed_reading between new file (slice_index between.sizes file) does in (
      bytes ∷ [],
      reads-read old between new name bytes file (slice_index between.sizes file) has next.number (omega (arith, size)) after,
      (is, subst (λ (n : ℕ). Rises n new.read_faults) has.does.read_faults does.read_faults, does.failed ∙ next.number),
      same_prints-then old between new (opened-same old between name bytes has) after.same,
    )
whole-opened old between new name bytes file (Err fault) next h = absurd h
