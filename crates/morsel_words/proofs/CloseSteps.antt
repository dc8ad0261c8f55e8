-- The close of each end keeps the rule of its lane, and so do both ends once they are together again.
use Rattle.std.proofs.Common.{◌≡◌, ℕ, Bool, true, false, List, [], ◌∷◌, set, get_or, sym, refl, ap, ◌∙◌, subst, ⊎_elim, Option, Some, None}
use Rattle.std.specs.Prelude.{bit_or}
use mathlib.Core.Option as maybe
use mathlib.Core.Option.{some, none}
use lib.ListN.{get_elem?}
use Rattle.atomic_table.specs.Table.{State, step, keeps, Allows, Joins}
use Rattle.atomic_table.proofs.Lists.{at_set, set_else, set_again}
use Rattle.morsel_prims.specs.declared.lane.Ended.{Ended}
use Rattle.morsel_words.specs.Ends.{phase_at}
use Rattle.morsel_words.specs.declared.view.Found.{Found}
use Rattle.morsel_words.specs.declared.view.Found.TheVariants as found
use Rattle.morsel_words.specs.declared.view.Sending.{Sending}
use Rattle.morsel_words.specs.declared.view.Sending.TheVariants as sending
use Rattle.morsel_words.specs.declared.view.Taking.{Taking}
use Rattle.morsel_words.specs.declared.view.Taking.TheVariants as taking
use Rattle.morsel_words.specs.declared.view.SendSide.{SendSide}
use Rattle.morsel_words.specs.declared.view.TakeSide.{TakeSide}
use Rattle.morsel_words.specs.declared.view.LanePart.TheVariants as part
use Rattle.morsel_words.specs.declared.view.LaneView.{LaneView}
use Rattle.morsel_words.specs.Lane.{state_word, has_bit, closes, Between, KnowsJob, KnowsLane, IsLane}
use Rattle.morsel_words.specs.Steps.{AtLane, noted, at_phase}
use Rattle.morsel_words.specs.TakeSteps.{takes_at, take_noted}
use Rattle.morsel_words.specs.CloseSteps.{awaits_value, awaits_room, EndsSending, EndsTaking, FindsAgreed, joined_view, spent_view}
use Rattle.morsel_words.proofs.LaneMoves.{elsewhere}
use Rattle.morsel_words.proofs.SenderSteps as sender
use Rattle.morsel_words.proofs.ReceiverSteps as receiver

-- the state word once the bits closed, or closed and whole, are set in it
shut_word : (full closed waiting whole : Bool) → bit_or (state_word full closed waiting whole) 2 ≡ state_word full true waiting whole
shut_word true true true true = refl
shut_word true true true false = refl
shut_word true true false true = refl
shut_word true true false false = refl
shut_word true false true true = refl
shut_word true false true false = refl
shut_word true false false true = refl
shut_word true false false false = refl
shut_word false true true true = refl
shut_word false true true false = refl
shut_word false true false true = refl
shut_word false true false false = refl
shut_word false false true true = refl
shut_word false false true false = refl
shut_word false false false true = refl
shut_word false false false false = refl

whole_word : (full closed waiting whole : Bool) → bit_or (state_word full closed waiting whole) 10 ≡ state_word full true waiting true
whole_word true true true true = refl
whole_word true true true false = refl
whole_word true true false true = refl
whole_word true true false false = refl
whole_word true false true true = refl
whole_word true false true false = refl
whole_word true false false true = refl
whole_word true false false false = refl
whole_word false true true true = refl
whole_word false true true false = refl
whole_word false true false true = refl
whole_word false true false false = refl
whole_word false false true true = refl
whole_word false false true false = refl
whole_word false false false true = refl
whole_word false false false false = refl

-- a word that is set to what it was
pub set_same : (ws : List ℕ) → set ws 0 (get_or ws 0 0) ≡ ws
set_same [] = refl
set_same (a ∷ ws) = refl

module _ {T : Type 0} where
  -- a sender that ends an open lane leaves the slot, and what was sent and not taken, as they are
  ended : (f : Bool) (t : Taking T) (w : Bool) (home : maybe.Option (Option T)) (sent taken : List T) → Between f sending.Idle t home sent taken
      → (closes (sending.Ended w) t ≡ (true, w)) × ((closes sending.Idle t).1 ≡ false) × Between f (sending.Ended w) t home sent taken
  ended true taking.Idle w home sent taken b = (refl, refl, b)
  ended true (taking.Has x) w home sent taken b = (refl, refl, b)
  ended true (taking.Owes v) w home sent taken b = absurd (b tt)
  ended true (taking.Done v) w home sent taken b = absurd (b tt)
  ended true taking.Shut w home sent taken b = (refl, refl, b)
  ended false taking.Idle w home sent taken b = (refl, refl, b)
  ended false (taking.Has x) w home sent taken b = absurd (b tt)
  ended false (taking.Owes v) w home sent taken b = absurd (b tt)
  ended false (taking.Done v) w home sent taken b = absurd (b tt)
  ended false taking.Shut w home sent taken b = (refl, refl, b)

  -- so does a receiver that closes; the bit whole stays
  shut : (f : Bool) (s : Sending) (home : maybe.Option (Option T)) (sent taken : List T) → Between f s taking.Idle home sent taken
      → (closes {T = T} s taking.Shut ≡ (true, (closes {T = T} s taking.Idle).1)) × Between f s taking.Shut home sent taken
  shut true sending.Idle home sent taken b = (refl, b)
  shut true sending.Has home sent taken b = absurd (b tt)
  shut true sending.Back home sent taken b = absurd (b tt)
  shut true (sending.Ended w) home sent taken b = (refl, b)
  shut false sending.Idle home sent taken b = (refl, b)
  shut false sending.Has home sent taken b = (refl, b)
  shut false sending.Back home sent taken b = absurd (b tt)
  shut false (sending.Ended w) home sent taken b = (refl, b)

  shut_done : (f : Bool) (s : Sending) (v : Bool) (home : maybe.Option (Option T)) (sent taken : List T) → Between f s (taking.Done v) home sent taken
      → (closes {T = T} s taking.Shut ≡ (true, (closes {T = T} s (taking.Done v)).1)) × Between f s taking.Shut home sent taken
  shut_done true sending.Idle v home sent taken b = absurd (b tt)
  shut_done true sending.Has v home sent taken b = absurd (b tt)
  shut_done true sending.Back v home sent taken b = absurd (b tt)
  shut_done true (sending.Ended w) v home sent taken b = absurd (b tt)
  shut_done false sending.Idle v home sent taken b = absurd (b tt)
  shut_done false sending.Has v home sent taken b = absurd (b tt)
  shut_done false sending.Back v home sent taken b = absurd (b tt)
  shut_done false (sending.Ended w) v home sent taken b = (refl, b.0)

  -- all that was sent was taken, once the one end has ended and the other has found that
  agreed : (f : Bool) (home : maybe.Option (Option T)) (sent taken : List T) → Between f (sending.Ended true) (taking.Done true) home sent taken → sent ≡ taken
  agreed true home sent taken b = absurd (b tt)
  agreed false home sent taken b = b.0.1

module _ {T J : Type 0} (suits : J → T → Type 0) (job : J) where
  abbrev Lane : State (Option T) (LaneView T J) → Type 0
  Lane = IsLane suits job

  -- a sender closes, and the state becomes n
  ends_sending : (s : State (Option T) (LaneView T J)) (k : Lane s) (id : ℕ) (m : AtLane T J) (is : m.0.part ≡ part.Sender) (at : get_elem? s.views id ≡ some m.0) → m.0.sending.phase ≡ sending.Idle
      → (whole : Bool) (n : ℕ) (fs : List Found) → n ≡ state_word k.full true k.waiting whole
      → Lane (record { words = set s.words 0 n; homes = s.homes; views = set s.views id (record { part = m.0.part; sending = at_phase m.0.sending (sending.Ended whole); taking = m.0.taking; found = fs; job = m.0.job }) })
  ends_sending s k id m is at idle whole n fs word =
      let e = ended k.full k.taking.phase whole k.home m.0.sending.sent k.taking.taken (subst (λ z. Between k.full z k.taking.phase k.home m.0.sending.sent k.taking.taken) idle (sender.own_between suits job s k id m.0 is at)) in
      sender.turns suits job s k id m.0 is at n s.homes k.full k.waiting (sending.Ended whole) m.0.sending.sent fs k.home (word ∙ (λ i. state_word k.full (sym e.0 i).0 k.waiting (sym e.0 i).1)) k.slot e.2 (sender.own_suited suits job s k id m.0 is at)

  pub ends_cut : (slots id : ℕ) (m : AtLane T J) → m.0.part ≡ part.Sender → m.0.sending.phase ≡ sending.Idle → Allows Lane slots id m 0 (λ n. bit_or n 2) (EndsSending false (step slots 0 2 0 none) m)
  ends_cut slots id m is idle s k _ at _ = (w, keeps, tt, ends_sending s k id m is at idle false (bit_or n 2) w.found (ap (λ z. bit_or z 2) own ∙ (shut_word k.full c k.waiting h ∙ ap (λ z. state_word k.full true k.waiting z) not_whole)), refl)
    where
      n : ℕ
      n = get_or s.words 0 0

      c : Bool
      c = (closes m.0.sending.phase k.taking.phase).0

      h : Bool
      h = (closes m.0.sending.phase k.taking.phase).1

      own : n ≡ state_word k.full c k.waiting h
      own = sender.own_state suits job s k id m.0 is at

      not_whole : h ≡ false
      not_whole = ap (λ z. (closes z k.taking.phase).1) idle ∙ (ended k.full k.taking.phase false k.home m.0.sending.sent k.taking.taken (subst (λ z. Between k.full z k.taking.phase k.home m.0.sending.sent k.taking.taken) idle (sender.own_between suits job s k id m.0 is at))).1

      w : LaneView T J
      w = noted m.0 (at_phase m.0.sending (sending.Ended false)) (found.Closing (awaits_value (has_bit n 1) (has_bit n 4)))

  pub ends_whole : (slots id : ℕ) (m : AtLane T J) → m.0.part ≡ part.Sender → m.0.sending.phase ≡ sending.Idle → Allows Lane slots id m 0 (λ n. bit_or n 10) (EndsSending true (step slots 0 10 0 none) m)
  ends_whole slots id m is idle s k _ at _ = (w, keeps, tt, ends_sending s k id m is at idle true (bit_or n 10) w.found (ap (λ z. bit_or z 10) own ∙ whole_word k.full c k.waiting h), refl)
    where
      n : ℕ
      n = get_or s.words 0 0

      c : Bool
      c = (closes m.0.sending.phase k.taking.phase).0

      h : Bool
      h = (closes m.0.sending.phase k.taking.phase).1

      own : n ≡ state_word k.full c k.waiting h
      own = sender.own_state suits job s k id m.0 is at

      w : LaneView T J
      w = noted m.0 (at_phase m.0.sending (sending.Ended true)) (found.Closing (awaits_value (has_bit n 1) (has_bit n 4)))

  -- a receiver closes
  shuts : (slots id : ℕ) (m : AtLane T J) → (is : m.0.part ≡ part.Receiver)
      → ((s : State (Option T) (LaneView T J)) (k : Lane s) (at : get_elem? s.views id ≡ some m.0) → (closes {T = T} k.sending.phase taking.Shut ≡ (true, (closes k.sending.phase m.0.taking.phase).1)) × Between k.full k.sending.phase taking.Shut k.home k.sending.sent m.0.taking.taken)
      → Allows Lane slots id m 0 (λ n. bit_or n 2) (EndsTaking (step slots 0 2 0 none) m)
  shuts slots id m is kept s k _ at _ =
      let n : ℕ = get_or s.words 0 0 in let e = kept s k at in let v : Bool × Bool = closes k.sending.phase m.0.taking.phase in
      let w : LaneView T J = take_noted m.0 (takes_at m.0.taking taking.Shut) (found.Closing (awaits_room (has_bit n 1) (has_bit n 4))) in (
        w,
        keeps,
        tt,
        receiver.turns suits job s k id m.0 is at (bit_or n 2) s.homes k.full k.waiting taking.Shut m.0.taking.taken w.found k.home
            (ap (λ z. bit_or z 2) (receiver.own_state suits job s k id m.0 is at) ∙ (shut_word k.full v.0 k.waiting v.1 ∙ (λ i. state_word k.full (sym e.0 i).0 k.waiting (sym e.0 i).1))) k.slot e.1,
        refl,
      )

  shuts_idle : (slots id : ℕ) (m : AtLane T J) → m.0.part ≡ part.Receiver → m.0.taking.phase ≡ taking.Idle → Allows Lane slots id m 0 (λ n. bit_or n 2) (EndsTaking (step slots 0 2 0 none) m)
  shuts_idle slots id m is idle = shuts slots id m is (λ s k at.
      let e = shut k.full k.sending.phase k.home k.sending.sent m.0.taking.taken (subst (λ z. Between k.full k.sending.phase z k.home k.sending.sent m.0.taking.taken) idle (receiver.own_between suits job s k id m.0 is at)) in
      (e.0 ∙ ap (λ (z : Taking T). let yes : Bool = true in (yes, (closes k.sending.phase z).1)) (sym idle), e.1))

  shuts_ended : (slots id : ℕ) (m : AtLane T J) (w : Bool) → m.0.part ≡ part.Receiver → m.0.taking.phase ≡ taking.Done w → Allows Lane slots id m 0 (λ n. bit_or n 2) (EndsTaking (step slots 0 2 0 none) m)
  shuts_ended slots id m w is done = shuts slots id m is (λ s k at.
      let e = shut_done k.full k.sending.phase w k.home k.sending.sent m.0.taking.taken (subst (λ z. Between k.full k.sending.phase z k.home k.sending.sent m.0.taking.taken) done (receiver.own_between suits job s k id m.0 is at)) in
      (e.0 ∙ ap (λ (z : Taking T). let yes : Bool = true in (yes, (closes k.sending.phase z).1)) (sym done), e.1))

  -- the same, however it has found the lane ended
  pub shuts_at : (slots id : ℕ) (m : AtLane T J) (end : Option Ended) → m.0.part ≡ part.Receiver → m.0.taking.phase ≡ phase_at end → Allows Lane slots id m 0 (λ n. bit_or n 2) (EndsTaking (step slots 0 2 0 none) m)
  shuts_at slots id m None is e = shuts_idle slots id m is e
  shuts_at slots id m (Some Ended.Whole) is e = shuts_ended slots id m true is e
  shuts_at slots id m (Some Ended.Cut) is e = shuts_ended slots id m false is e

  -- the seats of both ends become one
  pub joins : (id other : ℕ) (v w : LaneView T J) → v.part ≡ part.Sender → w.part ≡ part.Receiver → Joins Lane id v other w (joined_view v w) spent_view
  joins id other v w first second s k at apart at' = record {
    full = k.full;
    waiting = k.waiting;
    sending = k.sending;
    taking = k.taking;
    sender = k.sender;
    receiver = id;
    home = k.home;
    wide = k.wide;
    state = k.state;
    send_waits = k.send_waits;
    take_waits = k.take_waits;
    slot = k.slot;
    between = k.between;
    suited = k.suited;
    seats = λ j u e. ⊎_elim
        (λ t. subst (λ (y : LaneView T J). KnowsJob job y.part y.job × KnowsLane k.sending k.taking k.sender id y.part j y.sending y.taking) t.1 (tt, tt))
        (λ t. ⊎_elim
        (λ h. subst (λ (y : LaneView T J). KnowsJob job y.part y.job × KnowsLane k.sending k.taking k.sender id y.part j y.sending y.taking) h.1 (for_job, (h.0 ∙ sends.0, h.0, sends.1, taken.1)))
        (λ h. let old = k.seats j u h.1 in (old.0, elsewhere k.sending k.taking k.sender k.receiver id u.part j u.sending u.taking (λ same. h.0 (same ∙ sym sends.0)) (λ same. t.0 (same ∙ sym taken.0)) old.1))
        (at_set s.views id j (joined_view v w) u t.1))
        (at_set (set s.views id (joined_view v w)) other j spent_view u e);
  }
    where
      there : get_elem? s.views other ≡ some w
      there = sym (set_else s.views id other (joined_view v w) apart) ∙ at'

      for_job : w.job ≡ Some job
      for_job = subst (λ z. KnowsJob job z w.job) second (k.seats other w there).0

      sends : (id ≡ k.sender) × (v.sending ≡ k.sending)
      sends = subst (λ z. KnowsLane k.sending k.taking k.sender k.receiver z id v.sending v.taking) first (k.seats id v at).1

      taken : (other ≡ k.receiver) × (w.taking ≡ k.taking)
      taken = subst (λ z. KnowsLane k.sending k.taking k.sender k.receiver z other w.sending w.taking) second (k.seats other w there).1

  -- that seat finds that what was sent is what was taken
  pub finds_agreed : (slots id : ℕ) (m : AtLane T J) → m.0.part ≡ part.Both → m.0.sending.phase ≡ sending.Ended true → m.0.taking.phase ≡ taking.Done true
      → Allows Lane slots id m 0 (λ n. n) (FindsAgreed (step slots 0 0 0 none) m)
  finds_agreed slots id m both over done s k _ at _ = (m.0, keeps, tt, subst Lane same k, (refl, all))
    where
      same : s ≡ record { words = set s.words 0 (get_or s.words 0 0); homes = s.homes; views = set s.views id m.0 }
      same = λ i. record { words = sym (set_same s.words) i; homes = s.homes; views = sym (set_again s.views id m.0 at) i }

      mine : (id ≡ k.sender) × (id ≡ k.receiver) × (m.0.sending ≡ k.sending) × (m.0.taking ≡ k.taking)
      mine = subst (λ z. KnowsLane k.sending k.taking k.sender k.receiver z id m.0.sending m.0.taking) both (k.seats id m.0 at).1

      own : Between k.full m.0.sending.phase m.0.taking.phase k.home m.0.sending.sent m.0.taking.taken
      own = subst (λ (z : SendSide T × TakeSide T). Between k.full z.0.phase z.1.phase k.home z.0.sent z.1.taken) (λ i. (sym mine.2 i, sym mine.3 i)) k.between

      all : m.0.sending.sent ≡ m.0.taking.taken
      all = agreed k.full k.home m.0.sending.sent m.0.taking.taken (subst (λ (z : Sending × Taking T). Between k.full z.0 z.1 k.home m.0.sending.sent m.0.taking.taken) (λ i. (over i, done i)) own)
