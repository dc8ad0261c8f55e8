-- What a search of several lanes found, after looks that sent nothing.
use Rattle.std.proofs.Common.{◌≡◌, ◌⊎◌, ◌<◌, ℕ, List, Option, length, get_or, map, sum, refl, sym, ap, subst, ◌∙◌, inl, inr, arith}
use Rattle.std.specs.List.{flat_map}
use Rattle.morsel_meaning.specs.declared.task.TaskNo.{TaskNo}
use Rattle.morsel_prims.specs.Waiting.{KeepsWaiting, WaitPlace}
use Rattle.morsel_prims.specs.Woken.{KeepsWakes, Woken}
use Rattle.morsel_merge.specs.Boards.{OnEarlier}
use Rattle.morsel_merge.specs.Spread.{AreFull, EachLane, IsAwaited, IsFoundLast, IsLooked, LastLane, SomeLane}
use Rattle.morsel_merge.proofs.AskLemmas.{flat_map_twice, map_twice}
use Rattle.morsel_merge.proofs.BoardLemmas.{earlier-next, others_wait}
use Rattle.morsel_merge.proofs.SpreadLemmas.{looked-more, looked-none, looked-on}

module _ {S : Type 0} (look : S → S → Type 0) where
  -- what a step found, after no look
  pub some_last : (P : S → S → Type 0) (olds news : List S) → SomeLane P olds news → SomeLane (IsFoundLast look P) olds news
  some_last P olds news some = (some.0, some.1, λ d. (get_or olds some.0 d, looked-none look (get_or olds some.0 d), some.2 d))

  pub each_last : (P : S → S → Type 0) (olds news : List S) → EachLane P olds news → EachLane (IsFoundLast look P) olds news
  each_last P olds news each lane d within = (get_or olds lane d, looked-none look (get_or olds lane d), each lane d within)

  -- in a pass that began at these lanes none took the value, and one was full
  pub full_last : (full closed : S → S → Type 0) (olds news : List S) → EachLane (λ old new. full old new ⊎ closed old new) olds news → SomeLane full olds news → AreFull look full closed olds news
  full_last full closed olds news each some = (
    λ lane d within. elim (each lane d within) [ inl is ↦ inl (get_or olds lane d, looked-none look (get_or olds lane d), is) | inr is ↦ inr (get_or olds lane d, looked-none look (get_or olds lane d), is) ],
    some_last full olds news some,
  )

  -- each lane was looked at before that
  found_after : (P : S → S → Type 0) (old mid new : S) → IsLooked look old mid → IsFoundLast look P mid new → IsFoundLast look P old new
  found_after P old mid new looked found = (found.0, looked-on look old mid found.0 looked found.1, found.2)

  module _ (olds mids news : List S) (long : length news ≡ length mids) (looked : EachLane (IsLooked look) olds mids) where
    at_mid : (lane : ℕ) (d : S) → lane < length news → IsLooked look (get_or olds lane d) (get_or mids lane d)
    at_mid lane d within = looked lane d (subst (λ n. lane < n) long within)

    pub some_after : (P : S → S → Type 0) → SomeLane (IsFoundLast look P) mids news → SomeLane (IsFoundLast look P) olds news
    some_after P some = (some.0, some.1, λ d. found_after P (get_or olds some.0 d) (get_or mids some.0 d) (get_or news some.0 d) (at_mid some.0 d some.1) (some.2 d))

    pub each_after : (P : S → S → Type 0) → EachLane (IsFoundLast look P) mids news → EachLane (IsFoundLast look P) olds news
    each_after P each lane d within = found_after P (get_or olds lane d) (get_or mids lane d) (get_or news lane d) (at_mid lane d within) (each lane d within)

    pub full_after : (full closed : S → S → Type 0) → AreFull look full closed mids news → AreFull look full closed olds news
    full_after full closed are = (
      λ lane d within. elim (are.0 lane d within) [
        | inl is ↦ inl (found_after full (get_or olds lane d) (get_or mids lane d) (get_or news lane d) (at_mid lane d within) is)
        | inr is ↦ inr (found_after closed (get_or olds lane d) (get_or mids lane d) (get_or news lane d) (at_mid lane d within) is)
      ],
      some_after full are.1,
    )

module _ {B S : Type 0} (look : S → S → Type 0) (full closed : B → S → S → Type 0) (registered : B → S → S → TaskNo → Type 0) (task : TaskNo) where
  -- looks before a poll
  pub awaited_after : (old mid new : S) (board : B) → IsLooked look old mid → IsAwaited look full closed registered task mid new board → IsAwaited look full closed registered task old new board
  awaited_after old mid new board looked is = (is.0, is.1, looked-on look old mid is.0 looked is.2, is.3, is.4)

  -- a look after a poll
  pub awaited_before : (old mid new : S) (board : B) → look mid new → IsAwaited look full closed registered task old mid board → IsAwaited look full closed registered task old new board
  awaited_before old mid new board more is = (is.0, is.1, is.2, looked-more look is.1 mid new is.3 more, is.4)

  module _ (waits : B → WaitPlace → Option TaskNo) (own : List WaitPlace) (olds mids news : List S) (long : length news ≡ length mids) where
    pub each_awaited_after : (board : B) (wakes : Woken) → EachLane (IsLooked look) olds mids → EachLane (λ old new. OnEarlier waits own task board wakes (IsAwaited look full closed registered task old new)) mids news
        → EachLane (λ old new. OnEarlier waits own task board wakes (IsAwaited look full closed registered task old new)) olds news
    each_awaited_after board wakes looked each lane d within =
        let one = each lane d within in
        (one.0, one.1, awaited_after (get_or olds lane d) (get_or mids lane d) (get_or news lane d) one.0 (looked lane d (subst (λ n. lane < n) long within)) one.2)

    pub each_awaited_before : (board board' : B) (wakes wakes' : Woken) → KeepsWakes wakes wakes' → KeepsWaiting (waits board) (waits board') wakes' → EachLane look mids news → EachLane (λ old new. OnEarlier waits own task board wakes (IsAwaited look full closed registered task old new)) olds mids
        → EachLane (λ old new. OnEarlier waits own task board' wakes' (IsAwaited look full closed registered task old new)) olds news
    each_awaited_before board board' wakes wakes' kept keeps more each lane d within =
        let one = each lane d (subst (λ n. lane < n) long within) in
        let later = earlier-next waits own own task task (IsAwaited look full closed registered task (get_or olds lane d) (get_or mids lane d)) board board' wakes wakes' refl kept (λ place has. has) (others_wait own task (waits board) (waits board') wakes' keeps) one in
        (later.0, later.1, awaited_before (get_or olds lane d) (get_or mids lane d) (get_or news lane d) later.0 (more lane d within) later.2)

module _ {B S : Type 0} (look : S → S → Type 0) (full closed : B → S → S → Type 0) (registered : B → S → S → TaskNo → Type 0) (task : TaskNo) (board : B) (olds mids news : List S) (long : length news ≡ length mids) where
  -- the same of the last lane, which is told of the board itself
  pub last_awaited_after : EachLane (IsLooked look) olds mids → LastLane (λ old new. IsAwaited look full closed registered task old new board) mids news → LastLane (λ old new. IsAwaited look full closed registered task old new board) olds news
  last_awaited_after looked last lane d is = awaited_after look full closed registered task (get_or olds lane d) (get_or mids lane d) (get_or news lane d) board (looked lane d (omega (arith, is, long))) (last lane d is)

  pub last_awaited_before : EachLane look mids news → LastLane (λ old new. IsAwaited look full closed registered task old new board) olds mids → LastLane (λ old new. IsAwaited look full closed registered task old new board) olds news
  last_awaited_before more last lane d is = awaited_before look full closed registered task (get_or olds lane d) (get_or mids lane d) (get_or news lane d) board (more lane d (omega (arith, is))) (last lane d (is ∙ long))

module _ {S V : Type 0} (seen : S → V) where
  -- what is counted of what is seen stays
  pub rooms_seen : (room : V → ℕ) (olds news : List S) → map seen news ≡ map seen olds → sum (map (λ s. room (seen s)) news) ≡ sum (map (λ s. room (seen s)) olds)
  rooms_seen room olds news same = ap sum (map_twice room seen news ∙ ap (λ es. map room es) same ∙ sym (map_twice room seen olds))

  pub places_seen : {A : Type 0} (places : V → List A) (olds news : List S) → map seen news ≡ map seen olds → flat_map (λ s. places (seen s)) news ≡ flat_map (λ s. places (seen s)) olds
  places_seen places olds news same = flat_map_twice places seen news ∙ ap (λ es. flat_map places es) same ∙ sym (flat_map_twice places seen olds)
