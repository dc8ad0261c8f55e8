-- A step of one end keeps the rule of its lane, where it keeps the words, the slot and what that end knows in step.
use Rattle.std.proofs.Common.{◌≡◌, ◌≢◌, ℕ, Bool, List, [], ◌∷◌, length, set, get_or, sym, subst, ⊎_elim, Option}
use Rattle.std.specs.Prelude.{Contains}
use mathlib.Core.Option as maybe
use Rattle.atomic_table.specs.Table.{State}
use Rattle.atomic_table.proofs.Lists.{at_set}
use Rattle.morsel_words.specs.declared.view.SendSide.{SendSide}
use Rattle.morsel_words.specs.declared.view.TakeSide.{TakeSide}
use Rattle.morsel_words.specs.declared.view.LanePart.{LanePart}
use Rattle.morsel_words.specs.declared.view.LanePart.TheVariants as part
use Rattle.morsel_words.specs.declared.view.LaneView.{LaneView}
use Rattle.morsel_words.specs.Lane.{state_word, closes, Between, IsWaitWord, KnowsJob, KnowsLane, IsLane}

module _ {T : Type 0} where
  -- a seat that is neither end knows what it knew, whoever the receiver is
  pub elsewhere : (s : SendSide T) (t : TakeSide T) (sender receiver now : ℕ) (which : LanePart) (id : ℕ) (p : SendSide T) (q : TakeSide T) → id ≢ sender → id ≢ receiver
      → KnowsLane s t sender receiver which id p q → KnowsLane s t sender now which id p q
  elsewhere s t sender receiver now part.Sender id p q apart far k = k
  elsewhere s t sender receiver now part.Receiver id p q apart far k = absurd (far k.0)
  elsewhere s t sender receiver now part.Both id p q apart far k = absurd (apart k.0)
  elsewhere s t sender receiver now part.Spent id p q apart far k = k

module _ {T J : Type 0} (suits : J → T → Type 0) (job : J) where
  pub moved : (s : State (Option T) (LaneView T J)) (k : IsLane suits job s) (id : ℕ) (w : LaneView T J) (p : SendSide T) (q : TakeSide T)
      (ws : List ℕ) (hs : List (maybe.Option (Option T))) (full waiting : Bool) (home : maybe.Option (Option T))
      → (KnowsJob job w.part w.job × KnowsLane p q k.sender k.receiver w.part id w.sending w.taking)
      → ((j : ℕ) (u : LaneView T J) → j ≢ id → KnowsLane k.sending k.taking k.sender k.receiver u.part j u.sending u.taking → KnowsLane p q k.sender k.receiver u.part j u.sending u.taking)
      → length ws ≡ 3
      → get_or ws 0 0 ≡ state_word full (closes p.phase q.phase).0 waiting (closes p.phase q.phase).1
      → IsWaitWord (get_or ws 1 0) p.waits q.took
      → IsWaitWord (get_or ws 2 0) q.waits p.took
      → hs ≡ home ∷ []
      → Between full p.phase q.phase home p.sent q.taken
      → ((x : T) → Contains p.sent x → suits job x)
      → IsLane suits job (record { words = ws; homes = hs; views = set s.views id w })
  moved s k id w p q ws hs full waiting home own far wide state send_waits take_waits slot between suited = record {
    full = full;
    waiting = waiting;
    sending = p;
    taking = q;
    sender = k.sender;
    receiver = k.receiver;
    home = home;
    wide = wide;
    state = state;
    send_waits = send_waits;
    take_waits = take_waits;
    slot = slot;
    between = between;
    suited = suited;
    seats = λ j u e. ⊎_elim
        (λ t. subst (λ (y : LaneView T J). KnowsJob job y.part y.job × KnowsLane p q k.sender k.receiver y.part j y.sending y.taking) t.1
        (own.0, subst (λ z. KnowsLane p q k.sender k.receiver w.part z w.sending w.taking) (sym t.0) own.1))
        (λ t. let old = k.seats j u t.1 in (old.0, far j u t.0 old.1))
        (at_set s.views id j w u e);
  }
