-- Each step of a sender keeps the rule of its lane.
use Rattle.std.proofs.Common.{◌≡◌, ◌≢◌, ℕ, zero, suc, ◌<◌, ◌≤◌, Bool, true, false, eqb, List, [], ◌∷◌, ◌++◌, length, set, get_or, sym, refl, ap, ◌∙◌, subst, inl, ⊎_elim, Option, Some, None, arith}
use Rattle.std.specs.Prelude.{Contains, if◌then◌else◌, ◌==◌}
use Rattle.std.proofs.lemmas.List.Elements.{Contains-append_cases}
use mathlib.Core.Option as maybe
use mathlib.Core.Option.{some, none}
use prog.Atomic.{either}
use lib.ListN.{get_elem?}
use Rattle.atomic_table.specs.Table.{State, put_back, step, Act, keeps, takes, gives, carried_after, Valid, stepped, Allows}
use Rattle.morsel_words.specs.declared.view.Found.{Found}
use Rattle.morsel_words.specs.declared.view.Found.TheVariants as found
use Rattle.morsel_words.specs.declared.view.Sending.{Sending}
use Rattle.morsel_words.specs.declared.view.Sending.TheVariants as sending
use Rattle.morsel_words.specs.declared.view.Taking.{Taking}
use Rattle.morsel_words.specs.declared.view.Taking.TheVariants as taking
use Rattle.morsel_words.specs.declared.view.SendSide.{SendSide}
use Rattle.morsel_words.specs.declared.view.TakeSide.{TakeSide}
use Rattle.morsel_words.specs.declared.view.LanePart.{LanePart}
use Rattle.morsel_words.specs.declared.view.LanePart.TheVariants as part
use Rattle.morsel_words.specs.declared.view.LaneView.{LaneView}
use Rattle.morsel_words.specs.Lane.{state_word, has_bit, closes, Between, IsWaitWord, KnowsJob, KnowsLane, IsLane}
use Rattle.morsel_words.specs.Steps.{AtLane, send_side, noted, with_side, at_phase, in_hand, looked_to_send, LooksToSend, looked_to_wait, LooksToWait, filled, Fills, PutsBack, RegistersToSend, TakesWaiter, LooksForValue}
use Rattle.morsel_words.proofs.StateWord.{HasBits, bits_at, waits_after, word_after, number_taken}
use Rattle.morsel_words.proofs.LaneWords.{set_state, set_send_wait, set_take_wait}
use Rattle.morsel_words.proofs.LaneMoves.{moved}

module _ {T : Type 0} where
  -- the sender may take the slot where the lane is empty
  frees : (t : Taking T) (home : maybe.Option (Option T)) (sent taken : List T) → Between false sending.Idle t home sent taken
      → (home ≡ some None) × (closes sending.Has t ≡ closes sending.Idle t) × Between false sending.Has t none sent taken
  frees taking.Idle home sent taken b = (b.0, refl, (refl, b.1))
  frees (taking.Has x) home sent taken b = absurd (b tt)
  frees (taking.Owes w) home sent taken b = absurd (b tt)
  frees (taking.Done w) home sent taken b = absurd (b tt)
  frees taking.Shut home sent taken b = (b.0, refl, (refl, b.1))

  -- with the slot in hand the lane is empty
  has_empty : (f : Bool) (t : Taking T) (home : maybe.Option (Option T)) (sent taken : List T) → Between f sending.Has t home sent taken → Between false sending.Has t home sent taken
  has_empty false t home sent taken b = b
  has_empty true taking.Idle home sent taken b = absurd (b tt)
  has_empty true (taking.Has x) home sent taken b = absurd (b tt)
  has_empty true (taking.Owes w) home sent taken b = absurd (b tt)
  has_empty true (taking.Done w) home sent taken b = absurd (b tt)
  has_empty true taking.Shut home sent taken b = absurd (b tt)

  -- the receiver has closed, and the value stays with the sender
  refuses : (t : Taking T) (home : maybe.Option (Option T)) (sent taken : List T) → Between false sending.Has t home sent taken → true ≡ (closes sending.Has t).0
      → (home ≡ none) × (closes sending.Back t ≡ (false, false)) × Between true sending.Back t none sent taken
  refuses taking.Idle home sent taken b e = absurd cc
  refuses (taking.Has x) home sent taken b e = absurd (b tt)
  refuses (taking.Owes w) home sent taken b e = absurd (b tt)
  refuses (taking.Done w) home sent taken b e = absurd (b tt)
  refuses taking.Shut home sent taken b e = (b.0, refl, (refl, b.1))

  -- the value goes into the lane
  accepts : (t : Taking T) (x : T) (home : maybe.Option (Option T)) (sent taken : List T) → Between false sending.Has t home sent taken → false ≡ (closes sending.Has t).0
      → (home ≡ none) × (closes sending.Idle t ≡ (false, false)) × Between true sending.Idle t (some (Some x)) (sent ++ x ∷ []) taken
  accepts taking.Idle x home sent taken b e = (b.0, refl, (x, refl, ap (λ z. z ++ x ∷ []) b.1))
  accepts (taking.Has y) x home sent taken b e = absurd (b tt)
  accepts (taking.Owes w) x home sent taken b e = absurd (b tt)
  accepts (taking.Done w) x home sent taken b e = absurd (b tt)
  accepts taking.Shut x home sent taken b e = absurd cc

  -- the sender puts back that the receiver has closed
  restores : (f : Bool) (t : Taking T) (home : maybe.Option (Option T)) (sent taken : List T) → Between f sending.Back t home sent taken
      → (home ≡ none) × (closes sending.Idle t ≡ (true, false)) × Between false sending.Idle t (some None) sent taken
  restores false taking.Idle home sent taken b = absurd (b tt)
  restores false (taking.Has x) home sent taken b = absurd (b tt)
  restores false (taking.Owes w) home sent taken b = absurd (b tt)
  restores false (taking.Done w) home sent taken b = absurd (b tt)
  restores false taking.Shut home sent taken b = absurd (b tt)
  restores true taking.Idle home sent taken b = absurd (b tt)
  restores true (taking.Has x) home sent taken b = absurd (b tt)
  restores true (taking.Owes w) home sent taken b = absurd (b tt)
  restores true (taking.Done w) home sent taken b = absurd (b tt)
  restores true taking.Shut home sent taken b = (b.0, refl, (refl, b.1))

  -- other seats than the sender's know what they knew
  others : (s p : SendSide T) (t : TakeSide T) (sender receiver : ℕ) (which : LanePart) (id : ℕ) (q : SendSide T) (r : TakeSide T) → id ≢ sender
      → KnowsLane s t sender receiver which id q r → KnowsLane p t sender receiver which id q r
  others s p t sender receiver part.Sender id q r apart k = absurd (apart k.0)
  others s p t sender receiver part.Receiver id q r apart k = k
  others s p t sender receiver part.Both id q r apart k = absurd (apart k.0)
  others s p t sender receiver part.Spent id q r apart k = k

module _ {T J : Type 0} (suits : J → T → Type 0) (job : J) where
  abbrev Lane : State (Option T) (LaneView T J) → Type 0
  Lane = IsLane suits job

  abbrev Goal : (s : State (Option T) (LaneView T J)) → ℕ → ℕ → ℕ → AtLane T J → AtLane T J → Type 0
  Goal s i n id m m' = (w : LaneView T J) × (a : Act (Option T)) × Valid s.homes m.1 a × Lane (stepped s i n id m.1 w a) × ((w, carried_after m.1 a) ≡ m')

  module _ (s : State (Option T) (LaneView T J)) (k : Lane s) (id : ℕ) (v : LaneView T J) (is : v.part ≡ part.Sender) (at : get_elem? s.views id ≡ some v) where
    -- what the sender's seat knows is so
    mine : KnowsJob job v.part v.job × (id ≡ k.sender) × (v.sending ≡ k.sending)
    mine = let known = k.seats id v at in let known' = subst (λ w. KnowsLane k.sending k.taking k.sender k.receiver w id v.sending v.taking) is known.1 in (known.0, known'.0, known'.1)

    abbrev closing : Bool × Bool
    closing = closes v.sending.phase k.taking.phase

    pub own_state : get_or s.words 0 0 ≡ state_word k.full closing.0 k.waiting closing.1
    own_state = k.state ∙ ap (λ (q : SendSide T). state_word k.full (closes q.phase k.taking.phase).0 k.waiting (closes q.phase k.taking.phase).1) (sym mine.2)

    pub own_between : Between k.full v.sending.phase k.taking.phase k.home v.sending.sent k.taking.taken
    own_between = subst (λ (q : SendSide T). Between k.full q.phase k.taking.phase k.home q.sent k.taking.taken) (sym mine.2) k.between

    pub own_suited : (x : T) → Contains v.sending.sent x → suits job x
    own_suited = subst (λ (q : SendSide T). (x : T) → Contains q.sent x → suits job x) (sym mine.2) k.suited

    -- the rule, once the sender knows this
    moves : (ws : List ℕ) (hs : List (maybe.Option (Option T))) (full waiting : Bool) (p : SendSide T) (fs : List Found) (home : maybe.Option (Option T))
        → length ws ≡ 3
        → get_or ws 0 0 ≡ state_word full (closes p.phase k.taking.phase).0 waiting (closes p.phase k.taking.phase).1
        → IsWaitWord (get_or ws 1 0) p.waits k.taking.took
        → IsWaitWord (get_or ws 2 0) k.taking.waits p.took
        → hs ≡ home ∷ []
        → Between full p.phase k.taking.phase home p.sent k.taking.taken
        → ((x : T) → Contains p.sent x → suits job x)
        → Lane (record { words = ws; homes = hs; views = set s.views id (record { part = v.part; sending = p; taking = v.taking; found = fs; job = v.job }) })
    moves ws hs full waiting p fs home =
        moved suits job s k id (record { part = v.part; sending = p; taking = v.taking; found = fs; job = v.job }) p k.taking ws hs full waiting home
        (mine.0, subst (λ y. KnowsLane p k.taking k.sender k.receiver y id p v.taking) (sym is) (mine.1, refl))
        (λ j u far. others k.sending p k.taking k.sender k.receiver u.part j u.sending u.taking (λ same. far (same ∙ sym mine.1)))

    -- the same where the state becomes n
    pub turns : (n : ℕ) (hs : List (maybe.Option (Option T))) (full waiting : Bool) (phase : Sending) (sent : List T) (fs : List Found) (home : maybe.Option (Option T))
        → n ≡ state_word full (closes phase k.taking.phase).0 waiting (closes phase k.taking.phase).1
        → hs ≡ home ∷ []
        → Between full phase k.taking.phase home sent k.taking.taken
        → ((x : T) → Contains sent x → suits job x)
        → Lane (record { words = set s.words 0 n; homes = hs; views = set s.views id (record { part = v.part; sending = send_side phase sent v.sending.waits v.sending.took; taking = v.taking; found = fs; job = v.job }) })
    turns n hs full waiting phase sent fs home state slot between suited = let words = set_state s.words n k.wide in moves (set s.words 0 n) hs full waiting (send_side phase sent v.sending.waits v.sending.took) fs home
        words.0
        (words.1 ∙ state)
        (subst (λ (z : ℕ × SendSide T). IsWaitWord z.0 z.1.waits k.taking.took) (λ i. (sym words.2 i, sym mine.2 i)) k.send_waits)
        (subst (λ (z : ℕ × SendSide T). IsWaitWord z.0 k.taking.waits z.1.took) (λ i. (sym words.3 i, sym mine.2 i)) k.take_waits)
        slot
        between
        suited

    -- a step that leaves the sender's side, the slot and all bits but waiting as they are
    stays : (n : ℕ) (waiting : Bool) (fs : List Found) → n ≡ state_word k.full closing.0 waiting closing.1
        → Lane (record { words = set s.words 0 n; homes = s.homes; views = set s.views id (record { part = v.part; sending = v.sending; taking = v.taking; found = fs; job = v.job }) })
    stays n waiting fs state = turns n s.homes k.full waiting v.sending.phase v.sending.sent fs k.home state k.slot own_between own_suited

    -- a step that takes the slot of an empty lane
    begins : (n : ℕ) (waiting : Bool) (fs : List Found) → v.sending.phase ≡ sending.Idle → false ≡ k.full → n ≡ state_word k.full closing.0 waiting closing.1
        → (get_elem? s.homes 0 ≡ some (some None)) × Lane (record { words = set s.words 0 n; homes = set s.homes 0 none; views = set s.views id (record { part = v.part; sending = at_phase v.sending sending.Has; taking = v.taking; found = fs; job = v.job }) })
    begins n waiting fs idle empty state =
        let b = frees k.taking.phase k.home v.sending.sent k.taking.taken (subst (λ (z : Bool × Sending). Between z.0 z.1 k.taking.phase k.home v.sending.sent k.taking.taken) (λ i. (sym empty i, idle i)) own_between) in
        let tells : closing ≡ closes sending.Has k.taking.phase = ap (λ z. closes z k.taking.phase) idle ∙ sym b.1 in
        let slot : s.homes ≡ some None ∷ [] = k.slot ∙ ap (λ z. z ∷ []) b.0 in (
          ap (λ z. get_elem? z 0) slot,
          turns n (set s.homes 0 none) false waiting sending.Has v.sending.sent fs none (state ∙ (λ i. state_word (sym empty i) (tells i).0 waiting (tells i).1)) (ap (λ z. set z 0 none) slot) b.2 own_suited,
        )

  pub looks_to_send : (slots id : ℕ) (m : AtLane T J) → m.0.part ≡ part.Sender → m.0.sending.phase ≡ sending.Idle → Allows Lane slots id m 0 (λ n. n) (LooksToSend (step slots 0 0 0 none) m)
  looks_to_send slots id m is idle s k _ at _ = subst (λ (z : Bool × Bool). Goal s 0 n id m (looked_to_send z.0 z.1 m)) (λ i. (bits.1 i, bits.0 i)) (by_bits c k.full refl refl)
    where
      n : ℕ
      n = get_or s.words 0 0

      c : Bool
      c = (closing s k id m.0 is at).0

      state : n ≡ state_word k.full c k.waiting (closing s k id m.0 is at).1
      state = own_state s k id m.0 is at

      bits : HasBits n k.full c k.waiting (closing s k id m.0 is at).1
      bits = bits_at n k.full c k.waiting (closing s k id m.0 is at).1 state

      by_bits : (closed full : Bool) → closed ≡ c → full ≡ k.full → Goal s 0 n id m (looked_to_send closed full m)
      by_bits true full is_closed is_full = (noted m.0 m.0.sending found.Closed, keeps, tt, stays s k id m.0 is at n k.waiting (found.Closed ∷ m.0.found) state, refl)
      by_bits false true is_closed is_full = (noted m.0 m.0.sending found.Full, keeps, tt, stays s k id m.0 is at n k.waiting (found.Full ∷ m.0.found) state, refl)
      by_bits false false is_closed is_full = let b = begins s k id m.0 is at n k.waiting (found.Room ∷ m.0.found) idle is_full state in (noted m.0 (at_phase m.0.sending sending.Has) found.Room, takes 0 None, b.0, b.1, refl)

  pub looks_to_wait : (slots id : ℕ) (m : AtLane T J) → m.0.part ≡ part.Sender → m.0.sending.phase ≡ sending.Idle
      → Allows Lane slots id m 0 (λ n. either (eqb n 1) 5 n) (LooksToWait (step slots 0 1 5 none) m)
  looks_to_wait slots id m is idle s k _ at _ = subst (λ (z : Bool × Bool). Goal s 0 after id m (looked_to_wait z.0 z.1 m)) (λ i. (bits.1 i, bits.0 i)) (by_bits c k.full refl refl)
    where
      n : ℕ
      n = get_or s.words 0 0

      after : ℕ
      after = either (eqb n 1) 5 n

      c : Bool
      c = (closing s k id m.0 is at).0

      h : Bool
      h = (closing s k id m.0 is at).1

      waiting : Bool
      waiting = waits_after k.full c k.waiting h

      state : n ≡ state_word k.full c k.waiting h
      state = own_state s k id m.0 is at

      next : after ≡ state_word k.full c waiting h
      next = ap (λ z. either (eqb z 1) 5 z) state ∙ word_after k.full c k.waiting h

      bits : HasBits n k.full c k.waiting h
      bits = bits_at n k.full c k.waiting h state

      by_bits : (closed full : Bool) → closed ≡ c → full ≡ k.full → Goal s 0 after id m (looked_to_wait closed full m)
      by_bits true full is_closed is_full = (noted m.0 m.0.sending found.Closed, keeps, tt, stays s k id m.0 is at after waiting (found.Closed ∷ m.0.found) next, refl)
      by_bits false true is_closed is_full = (
        noted (noted m.0 m.0.sending found.Full) m.0.sending (found.Waits m.0.sending.waits),
        keeps,
        tt,
        stays s k id m.0 is at after waiting (found.Waits m.0.sending.waits ∷ found.Full ∷ m.0.found) next,
        refl,
      )
      by_bits false false is_closed is_full = let b = begins s k id m.0 is at after waiting (found.Room ∷ m.0.found) idle is_full next in (noted m.0 (at_phase m.0.sending sending.Has) found.Room, takes 0 None, b.0, b.1, refl)

  pub fills : (slots id : ℕ) (m : AtLane T J) (x : T) → m.0.part ≡ part.Sender → m.0.sending.phase ≡ sending.Has → m.1 ≡ (0, Some x) ∷ [] → suits job x
      → Allows Lane slots id m 0 (λ _. 1) (Fills (step slots 0 1 0 none) m)
  fills slots id m x is has hand fits s k _ at _ = subst (λ z. Goal s 0 1 id m (filled z (has_bit n 4) m)) closed_bit (by_bits c refl)
    where
      n : ℕ
      n = get_or s.words 0 0

      c : Bool
      c = (closing s k id m.0 is at).0

      state : n ≡ state_word k.full c k.waiting (closing s k id m.0 is at).1
      state = own_state s k id m.0 is at

      closed_bit : c ≡ has_bit n 2
      closed_bit = (bits_at n k.full c k.waiting (closing s k id m.0 is at).1 state).1

      t : Taking T
      t = k.taking.phase

      empty : Between false sending.Has t k.home m.0.sending.sent k.taking.taken
      empty = has_empty k.full t k.home m.0.sending.sent k.taking.taken (subst (λ z. Between k.full z t k.home m.0.sending.sent k.taking.taken) has (own_between s k id m.0 is at))

      same_close : c ≡ (closes sending.Has t).0
      same_close = ap (λ z. (closes z t).0) has

      all_suit : (y : T) → Contains (m.0.sending.sent ++ x ∷ []) y → suits job y
      all_suit y among = ⊎_elim (λ old. own_suited s k id m.0 is at y old) (λ new. is_last y new.0 new.1 new.2) (Contains-append_cases m.0.sending.sent (x ∷ []) y among)
        where
          is_last : (y : T) (at : ℕ) → at < 1 → get_or (x ∷ []) at y ≡ y → suits job y
          is_last y zero first e = subst (suits job) e fits
          is_last y (suc at) past e = absurd (omega arith)

      by_bits : (closed : Bool) → closed ≡ c → Goal s 0 1 id m (filled closed (has_bit n 4) m)
      by_bits true is_closed =
          let r = refuses t k.home m.0.sending.sent k.taking.taken empty (is_closed ∙ same_close) in (
            noted m.0 (at_phase m.0.sending sending.Back) found.Closed,
            keeps,
            tt,
            turns s k id m.0 is at 1 s.homes true false sending.Back m.0.sending.sent (found.Closed ∷ m.0.found) none (λ i. state_word true (sym r.1 i).0 false (sym r.1 i).1) (k.slot ∙ ap (λ z. z ∷ []) r.0) r.2 (own_suited s k id m.0 is at),
            refl,
          )
      by_bits false is_closed =
          let r = accepts t x k.home m.0.sending.sent k.taking.taken empty (is_closed ∙ same_close) in
          let sends : in_hand m.1 ≡ x ∷ [] = ap in_hand hand in (
            noted m.0 (send_side sending.Idle (m.0.sending.sent ++ in_hand m.1) m.0.sending.waits m.0.sending.took) (found.Sent (has_bit n 4)),
            gives,
            tt,
            turns s k id m.0 is at 1 (put_back s.homes m.1) true false sending.Idle (m.0.sending.sent ++ in_hand m.1) (found.Sent (has_bit n 4) ∷ m.0.found) (some (Some x)) (λ i. state_word true (sym r.1 i).0 false (sym r.1 i).1) (λ i. put_back (k.slot i) (hand i))
                (subst (λ l. Between true sending.Idle t (some (Some x)) (m.0.sending.sent ++ l) k.taking.taken) (sym sends) r.2)
                (subst (λ l. (y : T) → Contains (m.0.sending.sent ++ l) y → suits job y) (sym sends) all_suit),
            refl,
          )

  pub puts_back : (slots id : ℕ) (m : AtLane T J) → m.0.part ≡ part.Sender → m.0.sending.phase ≡ sending.Back → m.1 ≡ (0, None) ∷ []
      → Allows Lane slots id m 0 (λ _. 2) (PutsBack (step slots 0 2 0 none) m)
  puts_back slots id m is back hand s k _ at _ =
      let t : Taking T = k.taking.phase in
      let r = restores k.full t k.home m.0.sending.sent k.taking.taken (subst (λ z. Between k.full z t k.home m.0.sending.sent k.taking.taken) back (own_between s k id m.0 is at)) in (
        with_side m.0 (at_phase m.0.sending sending.Idle),
        gives,
        tt,
        turns s k id m.0 is at 2 (put_back s.homes m.1) false false sending.Idle m.0.sending.sent m.0.found (some None) (λ i. state_word false (sym r.1 i).0 false (sym r.1 i).1) (λ i. put_back (k.slot i) (hand i)) r.2 (own_suited s k id m.0 is at),
        refl,
      )

  pub registers_to_send : (slots id : ℕ) (m : AtLane T J) (number : ℕ) → m.0.part ≡ part.Sender → number ≤ 4294967296
      → Allows Lane slots id m 1 (λ _. number) (RegistersToSend (step slots 1 number 0 none) m)
  registers_to_send slots id m number is within s k _ at _ =
      let words = set_send_wait s.words number k.wide in let p : SendSide T = send_side m.0.sending.phase m.0.sending.sent number m.0.sending.took in (
        with_side m.0 p,
        keeps,
        tt,
        moves s k id m.0 is at (set s.words 1 number) s.homes k.full k.waiting p m.0.found k.home words.0 (words.1 ∙ own_state s k id m.0 is at) (subst (λ z. IsWaitWord z number k.taking.took) (sym words.2) (within, inl refl))
            (subst (λ (z : ℕ × SendSide T). IsWaitWord z.0 k.taking.waits z.1.took) (λ i. (sym words.3 i, sym (mine s k id m.0 is at).2 i)) k.take_waits) k.slot (own_between s k id m.0 is at) (own_suited s k id m.0 is at),
        refl,
      )

  pub takes_waiter : (slots id : ℕ) (m : AtLane T J) → m.0.part ≡ part.Sender → Allows Lane slots id m 2 (λ _. 0) (TakesWaiter (step slots 2 0 0 none) m)
  takes_waiter slots id m is s k _ at _ =
      let n : ℕ = get_or s.words 2 0 in let words = set_take_wait s.words 0 k.wide in
      let own : IsWaitWord n k.taking.waits m.0.sending.took = subst (λ (q : SendSide T). IsWaitWord n k.taking.waits q.took) (sym (mine s k id m.0 is at).2) k.take_waits in
      let p : SendSide T = send_side m.0.sending.phase m.0.sending.sent m.0.sending.waits (if n == 0 then m.0.sending.took else n) in (
        noted m.0 p (found.Waiter n),
        keeps,
        tt,
        moves s k id m.0 is at (set s.words 2 0) s.homes k.full k.waiting p (found.Waiter n ∷ m.0.found) k.home words.0 (words.1 ∙ own_state s k id m.0 is at)
            (subst (λ (z : ℕ × SendSide T). IsWaitWord z.0 z.1.waits k.taking.took) (λ i. (sym words.2 i, sym (mine s k id m.0 is at).2 i)) k.send_waits)
            (subst (λ z. IsWaitWord z k.taking.waits p.took) (sym words.3) (number_taken n k.taking.waits m.0.sending.took own)) k.slot (own_between s k id m.0 is at) (own_suited s k id m.0 is at),
        (own.0, refl),
      )

  pub looks_for_value : (slots id : ℕ) (m : AtLane T J) → m.0.part ≡ part.Sender → Allows Lane slots id m 0 (λ n. n) (LooksForValue (step slots 0 0 0 none) m)
  looks_for_value slots id m is s k _ at _ = let n : ℕ = get_or s.words 0 0 in (
    noted m.0 m.0.sending (found.Held (has_bit n 1)),
    keeps,
    tt,
    stays s k id m.0 is at n k.waiting (found.Held (has_bit n 1) ∷ m.0.found) (own_state s k id m.0 is at),
    refl,
  )
