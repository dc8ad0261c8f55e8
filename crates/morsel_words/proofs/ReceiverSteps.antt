-- Each step of a receiver keeps the rule of its lane.
use Rattle.std.proofs.Common.{◌≡◌, ◌≢◌, ℕ, ◌≤◌, Bool, true, false, eqb, List, [], ◌∷◌, ◌++◌, length, set, get_or, sym, refl, ap, ◌∙◌, subst, inl, Option, Some, None, arith}
use Rattle.std.specs.Prelude.{Contains, IfSome, if◌then◌else◌, ◌==◌}
use Rattle.std.proofs.lemmas.List.Elements.{Contains-append_right}
use mathlib.Core.Option as maybe
use mathlib.Core.Option.{some, none}
use prog.Atomic.{either}
use lib.ListN.{get_elem?}
use Rattle.atomic_table.specs.Table.{State, put_back, step, Act, keeps, takes, gives, carried_after, Valid, stepped, Allows}
use Rattle.morsel_words.specs.declared.view.Found.{Found}
use Rattle.morsel_words.specs.declared.view.Found.TheVariants as found
use Rattle.morsel_words.specs.declared.view.Sending.{Sending}
use Rattle.morsel_words.specs.declared.view.Sending.TheVariants as sending
use Rattle.morsel_words.specs.declared.view.Taking.{Taking}
use Rattle.morsel_words.specs.declared.view.Taking.TheVariants as taking
use Rattle.morsel_words.specs.declared.view.SendSide.{SendSide}
use Rattle.morsel_words.specs.declared.view.TakeSide.{TakeSide}
use Rattle.morsel_words.specs.declared.view.LanePart.{LanePart}
use Rattle.morsel_words.specs.declared.view.LanePart.TheVariants as part
use Rattle.morsel_words.specs.declared.view.LaneView.{LaneView}
use Rattle.morsel_words.specs.Lane.{state_word, has_bit, closes, Between, IsWaitWord, KnowsJob, KnowsLane, IsLane}
use Rattle.morsel_words.specs.Steps.{AtLane}
use Rattle.morsel_words.specs.TakeSteps.{take_side, takes_at, take_seen_as, take_noted, with_taking, lent_list, found_empty, found_and_waits, emptied, Empties, PutsBackEnd, RegistersToTake, TakesSender, LookedToTake, LooksToTake, AsksToTake}
use Rattle.morsel_words.proofs.StateWord.{HasBits, bits_at, awaits_after, word_awaits, number_taken}
use Rattle.morsel_words.proofs.LaneWords.{set_state, set_send_wait, set_take_wait}
use Rattle.morsel_words.proofs.LaneMoves.{moved}

module _ {T : Type 0} where
  -- a full lane has a value for the receiver
  lends : (s : Sending) (home : maybe.Option (Option T)) (sent taken : List T) → Between true s taking.Idle home sent taken
      → (x : T) × (home ≡ some (Some x)) × (closes s (taking.Has x) ≡ closes {T = T} s taking.Idle) × Between true s (taking.Has x) none sent taken × (sent ≡ taken ++ x ∷ [])
  lends sending.Idle home sent taken b = (b.0, b.1, refl, (refl, b.2), b.2)
  lends sending.Has home sent taken b = absurd (b tt)
  lends sending.Back home sent taken b = absurd (b tt)
  lends (sending.Ended w) home sent taken b = (b.0, b.1, refl, (refl, b.2), b.2)

  -- a lane that is closed and not full has ended, as its sender ended it
  ends : (s : Sending) (w : Bool) (home : maybe.Option (Option T)) (sent taken : List T) → Between false s taking.Idle home sent taken
      → true ≡ (closes {T = T} s taking.Idle).0 → w ≡ (closes {T = T} s taking.Idle).1
      → (closes {T = T} s (taking.Done w) ≡ closes {T = T} s taking.Idle) × Between false s (taking.Done w) home sent taken
  ends sending.Idle w home sent taken b is_closed is_whole = absurd cc
  ends sending.Has w home sent taken b is_closed is_whole = absurd cc
  ends sending.Back w home sent taken b is_closed is_whole = absurd (b tt)
  ends (sending.Ended v) w home sent taken b is_closed is_whole = (refl, (b, is_whole))

  -- the slot comes back empty to an open lane
  frees : (f : Bool) (s : Sending) (x : T) (home : maybe.Option (Option T)) (sent taken : List T) → Between f s (taking.Has x) home sent taken
      → false ≡ (closes s (taking.Has x)).0
      → (home ≡ none) × (closes {T = T} s taking.Idle ≡ (false, false)) × Between false s taking.Idle (some None) sent (taken ++ x ∷ [])
  frees true sending.Idle x home sent taken b e = (b.0, refl, (refl, b.1))
  frees true sending.Has x home sent taken b e = absurd (b tt)
  frees true sending.Back x home sent taken b e = absurd (b tt)
  frees true (sending.Ended w) x home sent taken b e = absurd cc
  frees false sending.Idle x home sent taken b e = absurd (b tt)
  frees false sending.Has x home sent taken b e = absurd (b tt)
  frees false sending.Back x home sent taken b e = absurd (b tt)
  frees false (sending.Ended w) x home sent taken b e = absurd (b tt)

  -- the slot comes back empty to a lane that the sender has ended, and the receiver owes the bits that say so
  owes : (f : Bool) (s : Sending) (w : Bool) (x : T) (home : maybe.Option (Option T)) (sent taken : List T) → Between f s (taking.Has x) home sent taken
      → true ≡ (closes s (taking.Has x)).0 → w ≡ (closes s (taking.Has x)).1
      → (home ≡ none) × (closes {T = T} s (taking.Owes w) ≡ (false, false)) × Between false s (taking.Owes w) (some None) sent (taken ++ x ∷ [])
  owes true sending.Idle w x home sent taken b is_closed is_whole = absurd cc
  owes true sending.Has w x home sent taken b is_closed is_whole = absurd (b tt)
  owes true sending.Back w x home sent taken b is_closed is_whole = absurd (b tt)
  owes true (sending.Ended v) w x home sent taken b is_closed is_whole = (b.0, refl, ((refl, b.1), is_whole))
  owes false sending.Idle w x home sent taken b is_closed is_whole = absurd (b tt)
  owes false sending.Has w x home sent taken b is_closed is_whole = absurd (b tt)
  owes false sending.Back w x home sent taken b is_closed is_whole = absurd (b tt)
  owes false (sending.Ended v) w x home sent taken b is_closed is_whole = absurd (b tt)

  -- the receiver puts back that the sender has ended
  restores : (f : Bool) (s : Sending) (w : Bool) (home : maybe.Option (Option T)) (sent taken : List T) → Between f s (taking.Owes w) home sent taken
      → (closes {T = T} s taking.Idle ≡ (true, w)) × Between false s taking.Idle home sent taken
  restores true sending.Idle w home sent taken b = absurd (b tt)
  restores true sending.Has w home sent taken b = absurd (b tt)
  restores true sending.Back w home sent taken b = absurd (b tt)
  restores true (sending.Ended v) w home sent taken b = absurd (b tt)
  restores false sending.Idle w home sent taken b = absurd (b tt)
  restores false sending.Has w home sent taken b = absurd (b tt)
  restores false sending.Back w home sent taken b = absurd (b tt)
  restores false (sending.Ended v) w home sent taken b = (ap (λ (z : Bool). let yes : Bool = true in (yes, z)) (sym b.1), b.0)

  -- other seats than the receiver's know what they knew
  others : (t q : TakeSide T) (s : SendSide T) (sender receiver : ℕ) (which : LanePart) (id : ℕ) (p : SendSide T) (r : TakeSide T) → id ≢ receiver
      → KnowsLane s t sender receiver which id p r → KnowsLane s q sender receiver which id p r
  others t q s sender receiver part.Sender id p r apart k = k
  others t q s sender receiver part.Receiver id p r apart k = absurd (apart k.0)
  others t q s sender receiver part.Both id p r apart k = absurd (apart k.1)
  others t q s sender receiver part.Spent id p r apart k = k

module _ {T J : Type 0} (suits : J → T → Type 0) (job : J) where
  abbrev Lane : State (Option T) (LaneView T J) → Type 0
  Lane = IsLane suits job

  abbrev Goal : (s : State (Option T) (LaneView T J)) → ℕ → ℕ → ℕ → AtLane T J → AtLane T J → Type 0
  Goal s i n id m m' = (w : LaneView T J) × (a : Act (Option T)) × Valid s.homes m.1 a × Lane (stepped s i n id m.1 w a) × ((w, carried_after m.1 a) ≡ m')

  abbrev LookGoal : (s : State (Option T) (LaneView T J)) → ℕ → ℕ → AtLane T J → List Found → Bool → Bool → Bool → Type 0
  LookGoal s n id m fs full closed whole = (w : LaneView T J) × (a : Act (Option T)) × Valid s.homes m.1 a × Lane (stepped s 0 n id m.1 w a) × LookedToTake suits fs full closed whole m (w, carried_after m.1 a)

  module _ (s : State (Option T) (LaneView T J)) (k : Lane s) (id : ℕ) (v : LaneView T J) (is : v.part ≡ part.Receiver) (at : get_elem? s.views id ≡ some v) where
    -- what the receiver's seat knows is so
    mine : KnowsJob job v.part v.job × (id ≡ k.receiver) × (v.taking ≡ k.taking)
    mine = let known = k.seats id v at in let known' = subst (λ w. KnowsLane k.sending k.taking k.sender k.receiver w id v.sending v.taking) is known.1 in (known.0, known'.0, known'.1)

    abbrev closing : Bool × Bool
    closing = closes k.sending.phase v.taking.phase

    pub own_state : get_or s.words 0 0 ≡ state_word k.full closing.0 k.waiting closing.1
    own_state = k.state ∙ ap (λ (q : TakeSide T). state_word k.full (closes k.sending.phase q.phase).0 k.waiting (closes k.sending.phase q.phase).1) (sym mine.2)

    pub own_between : Between k.full k.sending.phase v.taking.phase k.home k.sending.sent v.taking.taken
    own_between = subst (λ (q : TakeSide T). Between k.full k.sending.phase q.phase k.home k.sending.sent q.taken) (sym mine.2) k.between

    -- the rule, once the receiver knows this
    moves : (ws : List ℕ) (hs : List (maybe.Option (Option T))) (full waiting : Bool) (q : TakeSide T) (fs : List Found) (home : maybe.Option (Option T))
        → length ws ≡ 3
        → get_or ws 0 0 ≡ state_word full (closes k.sending.phase q.phase).0 waiting (closes k.sending.phase q.phase).1
        → IsWaitWord (get_or ws 1 0) k.sending.waits q.took
        → IsWaitWord (get_or ws 2 0) q.waits k.sending.took
        → hs ≡ home ∷ []
        → Between full k.sending.phase q.phase home k.sending.sent q.taken
        → Lane (record { words = ws; homes = hs; views = set s.views id (take_seen_as v q fs) })
    moves ws hs full waiting q fs home wide state send_waits take_waits slot between =
        moved suits job s k id (take_seen_as v q fs) k.sending q ws hs full waiting home
        (mine.0, subst (λ y. KnowsLane k.sending q k.sender k.receiver y id v.sending q) (sym is) (mine.1, refl))
        (λ j u far. others k.taking q k.sending k.sender k.receiver u.part j u.sending u.taking (λ same. far (same ∙ sym mine.1)))
        wide state send_waits take_waits slot between k.suited

    -- the same where the state becomes n
    pub turns : (n : ℕ) (hs : List (maybe.Option (Option T))) (full waiting : Bool) (phase : Taking T) (taken : List T) (fs : List Found) (home : maybe.Option (Option T))
        → n ≡ state_word full (closes k.sending.phase phase).0 waiting (closes k.sending.phase phase).1
        → hs ≡ home ∷ []
        → Between full k.sending.phase phase home k.sending.sent taken
        → Lane (record { words = set s.words 0 n; homes = hs; views = set s.views id (take_seen_as v (take_side phase taken v.taking.waits v.taking.took) fs) })
    turns n hs full waiting phase taken fs home state slot between = let words = set_state s.words n k.wide in moves (set s.words 0 n) hs full waiting (take_side phase taken v.taking.waits v.taking.took) fs home
        words.0
        (words.1 ∙ state)
        (subst (λ (z : ℕ × TakeSide T). IsWaitWord z.0 k.sending.waits z.1.took) (λ i. (sym words.2 i, sym mine.2 i)) k.send_waits)
        (subst (λ (z : ℕ × TakeSide T). IsWaitWord z.0 z.1.waits k.sending.took) (λ i. (sym words.3 i, sym mine.2 i)) k.take_waits)
        slot
        between

  -- a look, by its bits; the state becomes n, which has them too
  looked : (s : State (Option T) (LaneView T J)) (k : Lane s) (id : ℕ) (m : AtLane T J) (is : m.0.part ≡ part.Receiver) (at : get_elem? s.views id ≡ some m.0) → m.0.taking.phase ≡ taking.Idle
      → (n : ℕ) (waiting : Bool) (fs : List Found) → n ≡ state_word k.full (closing s k id m.0 is at).0 waiting (closing s k id m.0 is at).1
      → (full closed whole : Bool) → full ≡ k.full → closed ≡ (closing s k id m.0 is at).0 → whole ≡ (closing s k id m.0 is at).1 → LookGoal s n id m fs full closed whole
  looked s k id m is at idle n waiting fs state true closed whole is_full is_closed is_whole =
      let b = lends k.sending.phase k.home k.sending.sent m.0.taking.taken
      (subst (λ (z : Bool × Taking T). Between z.0 k.sending.phase z.1 k.home k.sending.sent m.0.taking.taken) (λ i. (sym is_full i, idle i)) (own_between s k id m.0 is at)) in
      let x : T = b.0 in
      let tells : closing s k id m.0 is at ≡ closes k.sending.phase (taking.Has x) = ap (λ z. closes k.sending.phase z) idle ∙ sym b.2 in
      let slot : s.homes ≡ some (Some x) ∷ [] = k.slot ∙ ap (λ z. z ∷ []) b.1 in
      let among : Contains k.sending.sent x = subst (λ l. Contains l x) (sym b.4) (Contains-append_right m.0.taking.taken (x ∷ []) x (0, omega arith, refl)) in (
        take_noted m.0 (takes_at m.0.taking (taking.Has x)) (found.Held true),
        takes 0 (Some x),
        ap (λ z. get_elem? z 0) slot,
        turns s k id m.0 is at n (set s.homes 0 none) true waiting (taking.Has x) m.0.taking.taken (found.Held true ∷ m.0.found) none (state ∙ (λ i. state_word (sym is_full i) (tells i).0 waiting (tells i).1)) (ap (λ z. set z 0 none) slot) b.3,
        (x, subst (λ o. IfSome o (λ j. suits j x)) (sym (subst (λ w. KnowsJob job w m.0.job) is (mine s k id m.0 is at).0)) (k.suited x among), refl),
      )
  looked s k id m is at idle n waiting fs state false true whole is_full is_closed is_whole =
      let b = ends k.sending.phase whole k.home k.sending.sent m.0.taking.taken
      (subst (λ (z : Bool × Taking T). Between z.0 k.sending.phase z.1 k.home k.sending.sent m.0.taking.taken) (λ i. (sym is_full i, idle i)) (own_between s k id m.0 is at))
      (is_closed ∙ ap (λ z. (closes k.sending.phase z).0) idle) (is_whole ∙ ap (λ z. (closes k.sending.phase z).1) idle) in
      let tells : closing s k id m.0 is at ≡ closes k.sending.phase (taking.Done whole) = ap (λ z. closes k.sending.phase z) idle ∙ sym b.0 in (
        take_noted m.0 (takes_at m.0.taking (taking.Done whole)) (found.Ended whole),
        keeps,
        tt,
        turns s k id m.0 is at n s.homes false waiting (taking.Done whole) m.0.taking.taken (found.Ended whole ∷ m.0.found) k.home (state ∙ (λ i. state_word (sym is_full i) (tells i).0 waiting (tells i).1)) k.slot b.1,
        refl,
      )
  looked s k id m is at idle n waiting fs state false false whole is_full is_closed is_whole = (
    take_seen_as m.0 m.0.taking fs,
    keeps,
    tt,
    turns s k id m.0 is at n s.homes k.full waiting m.0.taking.phase m.0.taking.taken fs k.home state k.slot (own_between s k id m.0 is at),
    refl,
  )

  pub looks_to_take : (slots id : ℕ) (m : AtLane T J) → m.0.part ≡ part.Receiver → m.0.taking.phase ≡ taking.Idle → Allows Lane slots id m 0 (λ n. n) (LooksToTake suits (step slots 0 0 0 none) m)
  looks_to_take slots id m is idle s k _ at _ = subst (λ (z : Bool × Bool × Bool). LookGoal s n id m (found_empty m.0) z.0 z.1 z.2) (λ i. (bits.0 i, bits.1 i, bits.3 i))
      (looked s k id m is at idle n k.waiting (found_empty m.0) (own_state s k id m.0 is at) k.full c h refl refl refl)
    where
      n : ℕ
      n = get_or s.words 0 0

      c : Bool
      c = (closing s k id m.0 is at).0

      h : Bool
      h = (closing s k id m.0 is at).1

      bits : HasBits n k.full c k.waiting h
      bits = bits_at n k.full c k.waiting h (own_state s k id m.0 is at)

  pub asks_to_take : (slots id : ℕ) (m : AtLane T J) → m.0.part ≡ part.Receiver → m.0.taking.phase ≡ taking.Idle
      → Allows Lane slots id m 0 (λ n. either (eqb n 0) 4 n) (AsksToTake suits (step slots 0 0 4 none) m)
  asks_to_take slots id m is idle s k _ at _ = subst (λ (z : Bool × Bool × Bool). LookGoal s after id m (found_and_waits m.0) z.0 z.1 z.2) (λ i. (bits.0 i, bits.1 i, bits.3 i))
      (looked s k id m is at idle after (awaits_after k.full c k.waiting h) (found_and_waits m.0) (ap (λ z. either (eqb z 0) 4 z) (own_state s k id m.0 is at) ∙ word_awaits k.full c k.waiting h) k.full c h refl refl refl)
    where
      n : ℕ
      n = get_or s.words 0 0

      after : ℕ
      after = either (eqb n 0) 4 n

      c : Bool
      c = (closing s k id m.0 is at).0

      h : Bool
      h = (closing s k id m.0 is at).1

      bits : HasBits n k.full c k.waiting h
      bits = bits_at n k.full c k.waiting h (own_state s k id m.0 is at)

  pub empties : (slots id : ℕ) (m : AtLane T J) (x : T) → m.0.part ≡ part.Receiver → m.0.taking.phase ≡ taking.Has x → m.1 ≡ (0, None) ∷ []
      → Allows Lane slots id m 0 (λ _. 0) (Empties (step slots 0 0 0 none) m)
  empties slots id m x is has hand s k _ at _ = subst (λ (z : Bool × Bool). Goal s 0 0 id m (emptied z.0 z.1 (has_bit n 4) m)) (λ i. (bits.1 i, bits.3 i)) (by_bits c h refl refl)
    where
      n : ℕ
      n = get_or s.words 0 0

      t : Sending
      t = k.sending.phase

      c : Bool
      c = (closing s k id m.0 is at).0

      h : Bool
      h = (closing s k id m.0 is at).1

      bits : HasBits n k.full c k.waiting h
      bits = bits_at n k.full c k.waiting h (own_state s k id m.0 is at)

      between : Between k.full t (taking.Has x) k.home k.sending.sent m.0.taking.taken
      between = subst (λ z. Between k.full t z k.home k.sending.sent m.0.taking.taken) has (own_between s k id m.0 is at)

      lent : lent_list m.0.taking.phase ≡ x ∷ []
      lent = ap lent_list has

      by_bits : (closed whole : Bool) → closed ≡ c → whole ≡ h → Goal s 0 0 id m (emptied closed whole (has_bit n 4) m)
      by_bits true whole is_closed is_whole =
          let r = owes k.full t whole x k.home k.sending.sent m.0.taking.taken between (is_closed ∙ ap (λ z. (closes t z).0) has) (is_whole ∙ ap (λ z. (closes t z).1) has) in (
            take_noted m.0 (take_side (taking.Owes whole) (m.0.taking.taken ++ lent_list m.0.taking.phase) m.0.taking.waits m.0.taking.took) (found.Took (has_bit n 4)),
            gives,
            tt,
            turns s k id m.0 is at 0 (put_back s.homes m.1) false false (taking.Owes whole) (m.0.taking.taken ++ lent_list m.0.taking.phase) (found.Took (has_bit n 4) ∷ m.0.found) (some None) (λ i. state_word false (sym r.1 i).0 false (sym r.1 i).1) (λ i. put_back (k.slot i) (hand i))
                (subst (λ l. Between false t (taking.Owes whole) (some None) k.sending.sent (m.0.taking.taken ++ l)) (sym lent) r.2),
            refl,
          )
      by_bits false whole is_closed is_whole =
          let r = frees k.full t x k.home k.sending.sent m.0.taking.taken between (is_closed ∙ ap (λ z. (closes t z).0) has) in (
            take_noted m.0 (take_side taking.Idle (m.0.taking.taken ++ lent_list m.0.taking.phase) m.0.taking.waits m.0.taking.took) (found.Took (has_bit n 4)),
            gives,
            tt,
            turns s k id m.0 is at 0 (put_back s.homes m.1) false false taking.Idle (m.0.taking.taken ++ lent_list m.0.taking.phase) (found.Took (has_bit n 4) ∷ m.0.found) (some None) (λ i. state_word false (sym r.1 i).0 false (sym r.1 i).1) (λ i. put_back (k.slot i) (hand i))
                (subst (λ l. Between false t taking.Idle (some None) k.sending.sent (m.0.taking.taken ++ l)) (sym lent) r.2),
            refl,
          )

  -- the state becomes closed, and whole where the sender had ended so
  puts_back_end : (slots id : ℕ) (m : AtLane T J) (w : Bool) (n : ℕ) → m.0.part ≡ part.Receiver → m.0.taking.phase ≡ taking.Owes w → n ≡ state_word false true false w
      → Allows Lane slots id m 0 (λ _. n) (PutsBackEnd (step slots 0 n 0 none) m)
  puts_back_end slots id m w n is owed word s k _ at _ =
      let r = restores k.full k.sending.phase w k.home k.sending.sent m.0.taking.taken (subst (λ z. Between k.full k.sending.phase z k.home k.sending.sent m.0.taking.taken) owed (own_between s k id m.0 is at)) in (
        with_taking m.0 (takes_at m.0.taking taking.Idle),
        keeps,
        tt,
        turns s k id m.0 is at n s.homes false false taking.Idle m.0.taking.taken m.0.found k.home (word ∙ (λ i. state_word false (sym r.0 i).0 false (sym r.0 i).1)) k.slot r.1,
        refl,
      )

  pub puts_back_whole : (slots id : ℕ) (m : AtLane T J) → m.0.part ≡ part.Receiver → m.0.taking.phase ≡ taking.Owes true → Allows Lane slots id m 0 (λ _. 10) (PutsBackEnd (step slots 0 10 0 none) m)
  puts_back_whole slots id m is owed = puts_back_end slots id m true 10 is owed refl

  pub puts_back_cut : (slots id : ℕ) (m : AtLane T J) → m.0.part ≡ part.Receiver → m.0.taking.phase ≡ taking.Owes false → Allows Lane slots id m 0 (λ _. 2) (PutsBackEnd (step slots 0 2 0 none) m)
  puts_back_cut slots id m is owed = puts_back_end slots id m false 2 is owed refl

  pub registers_to_take : (slots id : ℕ) (m : AtLane T J) (number : ℕ) → m.0.part ≡ part.Receiver → number ≤ 4294967296
      → Allows Lane slots id m 2 (λ _. number) (RegistersToTake (step slots 2 number 0 none) m)
  registers_to_take slots id m number is within s k _ at _ =
      let words = set_take_wait s.words number k.wide in let q : TakeSide T = take_side m.0.taking.phase m.0.taking.taken number m.0.taking.took in (
        with_taking m.0 q,
        keeps,
        tt,
        moves s k id m.0 is at (set s.words 2 number) s.homes k.full k.waiting q m.0.found k.home words.0 (words.1 ∙ own_state s k id m.0 is at)
            (subst (λ (z : ℕ × TakeSide T). IsWaitWord z.0 k.sending.waits z.1.took) (λ i. (sym words.2 i, sym (mine s k id m.0 is at).2 i)) k.send_waits)
            (subst (λ z. IsWaitWord z number k.sending.took) (sym words.3) (within, inl refl)) k.slot (own_between s k id m.0 is at),
        refl,
      )

  pub takes_sender : (slots id : ℕ) (m : AtLane T J) → m.0.part ≡ part.Receiver → Allows Lane slots id m 1 (λ _. 0) (TakesSender (step slots 1 0 0 none) m)
  takes_sender slots id m is s k _ at _ =
      let n : ℕ = get_or s.words 1 0 in let words = set_send_wait s.words 0 k.wide in
      let own : IsWaitWord n k.sending.waits m.0.taking.took = subst (λ (q : TakeSide T). IsWaitWord n k.sending.waits q.took) (sym (mine s k id m.0 is at).2) k.send_waits in
      let q : TakeSide T = take_side m.0.taking.phase m.0.taking.taken m.0.taking.waits (if n == 0 then m.0.taking.took else n) in (
        take_noted m.0 q (found.Waiter n),
        keeps,
        tt,
        moves s k id m.0 is at (set s.words 1 0) s.homes k.full k.waiting q (found.Waiter n ∷ m.0.found) k.home words.0 (words.1 ∙ own_state s k id m.0 is at)
            (subst (λ z. IsWaitWord z k.sending.waits q.took) (sym words.2) (number_taken n k.sending.waits m.0.taking.took own))
            (subst (λ (z : ℕ × TakeSide T). IsWaitWord z.0 z.1.waits k.sending.took) (λ i. (sym words.3 i, sym (mine s k id m.0 is at).2 i)) k.take_waits) k.slot (own_between s k id m.0 is at),
        (own.0, refl),
      )
