-- Actions one after another: lists, counts and sinks that grow twice.
use Rattle.std.specs.Prelude.{◌≡◌, ◌⊎◌, ℕ, zero, suc, ◌+◌, ◌-◌, ◌^◌, ◌<◌, ◌≤◌, Option, Some, None, List, [], ◌∷◌, ◌++◌, map, length, refl}
use Rattle.std.specs.List.{fold, flat_map, sum_by}
use Rattle.std.proofs.Common.{sym, ap, subst, ◌∙◌, append_assoc, append-nil, arith, zero-add, inl, inr, length-append}
use Rattle.std.proofs.lemmas.List.{map-append}
use Rattle.std.proofs.lemmas.List.Concat.{flat_map-append}
use Rattle.std.proofs.lemmas.List.Sums.{fold-append, sum_by-append}
use Rattle.morsel_outside.specs.Outside.{with_more}
use Rattle.morsel_outside.specs.Actions.{Action, Opening, FailedOpening, ReadingRange, FailedReadingRange, Making, FailedMaking, Writing, FailedWriting, Printing, FailedPrinting, Rises, RisesBy, DoesAfter, EventsTellTexts, opened_by, made_after, sinks_by, printed_by, event_of, asked_by, read_failures, write_failures, print_faults_after, failed_after, text_by, bytes_told}

-- nothing more
pub with_more-nil : {A : Type 0} (items : Option (List A)) → with_more items [] ≡ items
with_more-nil None = refl
with_more-nil (Some items) = ap Some (append-nil items)

-- more, and then more
pub with_more-with_more : {A : Type 0} (items : Option (List A)) (first second : List A) → with_more (with_more items first) second ≡ with_more items (first ++ second)
with_more-with_more None first second = refl
with_more-with_more (Some items) first second = ap Some (append_assoc items first second)

-- a count that rose since a later moment rose
rose_twice : (a b c : ℕ) → a ≤ b → (b < c) ⊎ (c ≡ 2 ^ 64 - 1) → (a < c) ⊎ (c ≡ 2 ^ 64 - 1)
rose_twice a b c le (inl less) = inl (omega arith)
rose_twice a b c le (inr end) = inr end

pub rises_since : (a b c : ℕ) → a ≤ b → Rises b c → Rises a c
rises_since a b c before since = record {
  no_lower = let n = since.no_lower in omega arith;
  rose = rose_twice a b c before since.rose;
}

-- a count that rose, and then more failures or none
rises_then : (n a b c : ℕ) → Rises a b → RisesBy n b c → Rises a c
rises_then zero a b c first second = subst (λ (x : ℕ). Rises a x) (sym second) first
rises_then (suc n) a b c first second = rises_since a b c first.no_lower second

-- a count after failures, and then more failures
pub rises_by-add : (m n a b c : ℕ) → RisesBy m a b → RisesBy n b c → RisesBy (m + n) a c
rises_by-add zero n a b c first second =
    subst (λ (k : ℕ). RisesBy k a c) (sym (zero-add n)) (subst (λ (x : ℕ). RisesBy n x c) first second)
rises_by-add (suc m) n a b c first second =
    let more : suc m + n ≡ suc (m + n) = omega arith in
    subst (λ (k : ℕ). RisesBy k a c) (sym more) (rises_then n a b c first second)

-- a count never falls
pub rises_by-no_lower : (n a b : ℕ) → RisesBy n a b → a ≤ b
rises_by-no_lower zero a b h = omega arith
rises_by-no_lower (suc n) a b h = h.no_lower

failures-add : (f : Action → ℕ) (first second : List Action) (a b c : ℕ) → RisesBy (sum_by f first) a b → RisesBy (sum_by f second) b c → RisesBy (sum_by f (first ++ second)) a c
failures-add f first second a b c h k =
    subst (λ (n : ℕ). RisesBy n a c) (sym (sum_by-append f first second)) (rises_by-add (sum_by f first) (sum_by f second) a b c h k)

-- items that actions add, and then others
more_by : {A : Type 0} (f : Action → List A) (first second : List Action) (a b c : Option (List A))
    → b ≡ with_more a (flat_map f first) → c ≡ with_more b (flat_map f second) → c ≡ with_more a (flat_map f (first ++ second))
more_by f first second a b c h k =
    k ∙ ap (λ items. with_more items (flat_map f second)) h ∙ with_more-with_more a (flat_map f first) (flat_map f second)
    ∙ ap (with_more a) (sym (flat_map-append f first second))

-- the law of actions
pub does-append : DoesAfter
does-append old between new first second one two = record {
  sizes = two.sizes
      ∙ ap (λ sizes. sizes ++ map length (flat_map opened_by second)) one.sizes
      ∙ append_assoc old.sizes (map length (flat_map opened_by first)) (map length (flat_map opened_by second))
      ∙ ap (λ sizes. old.sizes ++ sizes) (sym (map-append length (flat_map opened_by first) (flat_map opened_by second)))
      ∙ ap (λ files. old.sizes ++ map length files) (sym (flat_map-append opened_by first second));
  held = more_by opened_by first second old.held between.held new.held one.held two.held;
  sinks = let m = one.sinks in let n = two.sinks in let s = sum_by-append sinks_by first second in omega arith;
  made = two.made ∙ ap (λ made. fold made_after made second) one.made ∙ sym (fold-append made_after old.made first second);
  printed = more_by printed_by first second old.printed between.printed new.printed one.printed two.printed;
  events = more_by event_of first second old.events between.events new.events one.events two.events;
  read_faults = failures-add read_failures first second _ _ _ one.read_faults two.read_faults;
  write_faults = failures-add write_failures first second _ _ _ one.write_faults two.write_faults;
  print_faults = two.print_faults ∙ ap (λ count. fold print_faults_after count second) one.print_faults ∙ sym (fold-append print_faults_after old.print_faults first second);
  failed = two.failed ∙ ap (λ failed. fold failed_after failed second) one.failed ∙ sym (fold-append failed_after old.failed first second);
  asked = two.asked
      ∙ ap (λ asked. asked ++ flat_map asked_by second) one.asked
      ∙ append_assoc old.asked (flat_map asked_by first) (flat_map asked_by second)
      ∙ ap (λ asked. old.asked ++ asked) (sym (flat_map-append asked_by first second));
}

-- what an action tells of its text
told_one : (action : Action) → sum_by bytes_told (event_of action) ≡ length (text_by action)
told_one (Opening name bytes) = refl
told_one (FailedOpening number name) = refl
told_one (ReadingRange file at len) = refl
told_one (FailedReadingRange file at len) = refl
told_one (Making name) = refl
told_one (FailedMaking name) = refl
told_one (Writing piece) = omega arith
told_one (FailedWriting piece) = omega arith
told_one (Printing line) = refl
told_one FailedPrinting = refl

pub events_tell : EventsTellTexts
events_tell [] = refl
events_tell (action ∷ actions) =
    let one = told_one action in
    let others = events_tell actions in
    let events = sum_by-append bytes_told (event_of action) (flat_map event_of actions) in
    let texts = length-append (text_by action) (flat_map text_by actions) in omega arith
