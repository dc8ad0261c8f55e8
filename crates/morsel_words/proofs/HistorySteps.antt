-- A seat that knows nothing may be parted from any; and both ends together find the history of their lane.
use Rattle.std.proofs.Common.{◌≡◌, ℕ, Bool, true, false, List, [], ◌∷◌, set, get_or, sym, refl, ap, ◌∙◌, subst, ⊎_elim, Option, Some, None, append-nil, arith}
use mathlib.Core.Option as maybe
use lib.ListN.{get_elem?}
use Rattle.atomic_table.specs.Table.{State, step, keeps, Allows, Splits}
use Rattle.atomic_table.proofs.Lists.{set_again}
use Rattle.morsel_prims.specs.Polled.{LaneHistory}
use Rattle.morsel_prims.specs.declared.lane.Ended.{Ended}
use Rattle.morsel_words.specs.declared.view.Sending.{Sending}
use Rattle.morsel_words.specs.declared.view.Sending.TheVariants as sending
use Rattle.morsel_words.specs.declared.view.Taking.{Taking}
use Rattle.morsel_words.specs.declared.view.SendSide.{SendSide}
use Rattle.morsel_words.specs.declared.view.TakeSide.{TakeSide}
use Rattle.morsel_words.specs.declared.view.LanePart.TheVariants as part
use Rattle.morsel_words.specs.declared.view.LaneView.{LaneView}
use Rattle.morsel_words.specs.Ends.{phase_at}
use Rattle.morsel_words.specs.Lane.{Between, KnowsJob, KnowsLane, IsLane}
use Rattle.morsel_words.specs.Steps.{AtLane}
use Rattle.morsel_words.specs.CloseSteps.{spent_view}
use Rattle.morsel_words.specs.HistorySteps.{FindsHistory}
use Rattle.morsel_words.proofs.OpenSteps.{at_new}
use Rattle.morsel_words.proofs.CloseSteps.{set_same}

module _ {T : Type 0} where
  -- between calls of a sender that has not closed, at most one value was sent and not taken
  untaken : (f : Bool) (end : Option Ended) (home : maybe.Option (Option T)) (sent taken : List T) → Between f sending.Idle (phase_at end) home sent taken → LaneHistory sent taken 1
  untaken true None home sent taken b = (b.0 ∷ [], b.2, omega arith)
  untaken true (Some Ended.Whole) home sent taken b = absurd (b tt)
  untaken true (Some Ended.Cut) home sent taken b = absurd (b tt)
  untaken false None home sent taken b = ([], b.1 ∙ sym (append-nil taken), omega arith)
  untaken false (Some Ended.Whole) home sent taken b = absurd (b tt)
  untaken false (Some Ended.Cut) home sent taken b = absurd (b tt)

module _ {T J : Type 0} (suits : J → T → Type 0) (job : J) where
  abbrev Lane : State (Option T) (LaneView T J) → Type 0
  Lane = IsLane suits job

  -- a seat that knows nothing may be parted from any
  pub spares : (id : ℕ) (v : LaneView T J) → Splits Lane id v v spent_view
  spares id v s k at = record {
    full = k.full;
    waiting = k.waiting;
    sending = k.sending;
    taking = k.taking;
    sender = k.sender;
    receiver = k.receiver;
    home = k.home;
    wide = k.wide;
    state = k.state;
    send_waits = k.send_waits;
    take_waits = k.take_waits;
    slot = k.slot;
    between = k.between;
    suited = k.suited;
    seats = λ j u e. ⊎_elim
        (λ was. k.seats j u (ap (λ z. get_elem? z j) (sym (set_again s.views id v at)) ∙ was))
        (λ t. subst (λ (y : LaneView T J). KnowsJob job y.part y.job × KnowsLane k.sending k.taking k.sender k.receiver y.part j y.sending y.taking) t.1 (tt, tt))
        (at_new (set s.views id v) spent_view u j e);
  }

  pub finds_history : (slots id : ℕ) (m : AtLane T J) (end : Option Ended) → m.0.part ≡ part.Both → m.0.sending.phase ≡ sending.Idle → m.0.taking.phase ≡ phase_at end
      → Allows Lane slots id m 0 (λ n. n) (FindsHistory (step slots 0 0 0 maybe.none) m)
  finds_history slots id m end both idle ended s k _ at _ = (m.0, keeps, tt, subst Lane same k, (refl, untaken k.full end k.home m.0.sending.sent m.0.taking.taken now))
    where
      same : s ≡ record { words = set s.words 0 (get_or s.words 0 0); homes = s.homes; views = set s.views id m.0 }
      same = λ i. record { words = sym (set_same s.words) i; homes = s.homes; views = sym (set_again s.views id m.0 at) i }

      mine : (id ≡ k.sender) × (id ≡ k.receiver) × (m.0.sending ≡ k.sending) × (m.0.taking ≡ k.taking)
      mine = subst (λ z. KnowsLane k.sending k.taking k.sender k.receiver z id m.0.sending m.0.taking) both (k.seats id m.0 at).1

      own : Between k.full m.0.sending.phase m.0.taking.phase k.home m.0.sending.sent m.0.taking.taken
      own = subst (λ (z : SendSide T × TakeSide T). Between k.full z.0.phase z.1.phase k.home z.0.sent z.1.taken) (λ i. (sym mine.2 i, sym mine.3 i)) k.between

      now : Between k.full sending.Idle (phase_at end) k.home m.0.sending.sent m.0.taking.taken
      now = subst (λ (z : Sending × Taking T). Between k.full z.0 z.1 k.home m.0.sending.sent m.0.taking.taken) (λ i. (idle i, ended i)) own
