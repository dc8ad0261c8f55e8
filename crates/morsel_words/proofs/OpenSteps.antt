-- A new lane keeps its rule, and so do its two ends once they are parted.
use Rattle.std.proofs.Common.{◌≡◌, ◌⊎◌, ℕ, zero, suc, false, List, [], ◌∷◌, ◌++◌, length, length-set, set, sym, refl, ap, ◌∙◌, subst, inl, inr, ⊎_elim, Some, None, arith}
use mathlib.Core.Option.{some, some-injective, some-ne-none}
use lib.ListN.{get_elem?}
use Rattle.atomic_table.specs.Table.{opening, Splits}
use Rattle.atomic_table.proofs.Lists.{at_set}
use Rattle.morsel_words.specs.declared.view.LanePart.TheVariants as part
use Rattle.morsel_words.specs.declared.view.LaneView.{LaneView}
use Rattle.morsel_words.specs.Lane.{KnowsJob, KnowsLane, IsLane}
use Rattle.morsel_words.specs.Steps.{first_view, sender_part, receiver_part}
use Rattle.morsel_words.proofs.LaneMoves.{elsewhere}

pub at_new : {A : Type 0} (l : List A) (a b : A) (j : ℕ) → get_elem? (l ++ a ∷ []) j ≡ some b → (get_elem? l j ≡ some b) ⊎ ((j ≡ length l) × (a ≡ b))
at_new [] a b zero e = inr (refl, some-injective a b e)
at_new [] a b (suc j) e = absurd (some-ne-none b (sym e))
at_new (x ∷ xs) a b zero e = inl e
at_new (x ∷ xs) a b (suc j) e = ⊎_elim (λ t. inl t) (λ t. inr (ap suc t.0, t.1)) (at_new xs a b j e)

module _ {T J : Type 0} (suits : J → T → Type 0) (job : J) where
  pub opens : IsLane suits job (opening (0 ∷ 0 ∷ 0 ∷ []) (None ∷ []) (first_view job))
  opens = record {
    full = false;
    waiting = false;
    sending = (first_view {T = T} job).sending;
    taking = (first_view {T = T} job).taking;
    sender = 0;
    receiver = 0;
    home = some None;
    wide = refl;
    state = refl;
    send_waits = (omega arith, inl refl);
    take_waits = (omega arith, inl refl);
    slot = refl;
    between = (refl, refl);
    suited = λ x among. absurd (let none = among.1 in omega arith);
    seats = go;
  }
    where
      go : (id : ℕ) (v : LaneView T J) → get_elem? (first_view job ∷ []) id ≡ some v
          → KnowsJob job v.part v.job × KnowsLane (first_view {T = T} job).sending (first_view {T = T} job).taking 0 0 v.part id v.sending v.taking
      go zero v e = subst (λ (u : LaneView T J). KnowsJob job u.part u.job × KnowsLane (first_view {T = T} job).sending (first_view {T = T} job).taking 0 0 u.part 0 u.sending u.taking) (some-injective (first_view job) v e) (refl, (refl, refl, refl, refl))
      go (suc id) v e = absurd (some-ne-none v (sym e))

  pub parts : (id : ℕ) (v : LaneView T J) → v.part ≡ part.Both → Splits (IsLane suits job) id v (sender_part v) (receiver_part v)
  parts id v both s k at = record {
    full = k.full;
    waiting = k.waiting;
    sending = k.sending;
    taking = k.taking;
    sender = k.sender;
    receiver = length s.views;
    home = k.home;
    wide = k.wide;
    state = k.state;
    send_waits = k.send_waits;
    take_waits = k.take_waits;
    slot = k.slot;
    between = k.between;
    suited = k.suited;
    seats = λ j u e. ⊎_elim
        (λ was. ⊎_elim
        (λ t. subst (λ (y : LaneView T J). KnowsJob job y.part y.job × KnowsLane k.sending k.taking k.sender (length s.views) y.part j y.sending y.taking) t.1 (for_job, (t.0 ∙ mine.0, mine.2)))
        (λ t. let old = k.seats j u t.1 in (old.0, elsewhere k.sending k.taking k.sender k.receiver (length s.views) u.part j u.sending u.taking (λ same. t.0 (same ∙ sym mine.0)) (λ same. t.0 (same ∙ sym mine.1)) old.1))
        (at_set s.views id j (sender_part v) u was))
        (λ t. subst (λ (y : LaneView T J). KnowsJob job y.part y.job × KnowsLane k.sending k.taking k.sender (length s.views) y.part j y.sending y.taking) t.1 (for_job, (t.0 ∙ length-set s.views id (sender_part v), mine.3)))
        (at_new (set s.views id (sender_part v)) (receiver_part v) u j e);
  }
    where
      known : KnowsJob job v.part v.job × KnowsLane k.sending k.taking k.sender k.receiver v.part id v.sending v.taking
      known = k.seats id v at

      for_job : v.job ≡ Some job
      for_job = subst (λ w. KnowsJob job w v.job) both known.0

      mine : (id ≡ k.sender) × (id ≡ k.receiver) × (v.sending ≡ k.sending) × (v.taking ≡ k.taking)
      mine = subst (λ w. KnowsLane k.sending k.taking k.sender k.receiver w id v.sending v.taking) both known.1
