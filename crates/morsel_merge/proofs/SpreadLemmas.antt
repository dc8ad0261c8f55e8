-- How values are spread over lanes.
use Rattle.std.proofs.Common.{◌≡◌, ◌⊎◌, ◌||◌, ◌<◌, ℕ, zero, suc, Bool, true, false, All, Result, Ok, Err, OnOk, OnErr, IfErr, List, [], ◌∷◌, ◌++◌, length, set, get_or, map, refl, sym, ap, subst, ◌∙◌, inl, inr, arith, length-set, get_or-set_same, get_or-set_other}
use Rattle.std.proofs.lemmas.Bool.{cases_eq}
use Rattle.std.proofs.lemmas.List.{get_or_default, length-map}
use Rattle.morsel_prims.specs.Polled.{IfClosed, IfFull}
use Rattle.morsel_prims.specs.declared.lane.SendError.{SendError}
use Rattle.morsel_prims.specs.declared.lane.SendError.TheVariants.{Full, Closed}
use Rattle.morsel_merge.specs.declared.spread.Sent.{Sent}
use Rattle.morsel_merge.specs.Merging.{values_of_lane}
use Rattle.morsel_merge.specs.Spread.{AreLookedAt, AreLooks, AreSent, IsLook, IsLooked, is_full, sent_values}
use Rattle.morsel_merge.proofs.AskLemmas.{All-from_map, map-set_same}
use Rattle.morsel_merge.proofs.MergeLemmas.{values_of_lane-other, values_of_lane-own}

-- one value more, through one lane
pub sent-push : {T : Type 0} (lists : List (List T)) (log log' : List (Sent T)) (lane : ℕ) (value : T) → lane < length lists → map (λ sent. sent.lane) log' ≡ map (λ sent. sent.lane) log ++ lane ∷ [] → sent_values log' ≡ sent_values log ++ value ∷ [] → AreSent lists log → AreSent (set lists lane (get_or lists lane [] ++ value ∷ [])) log'
sent-push lists log log' lane value within lanes values sent i =
    let long : length (map (λ (s : Sent _). s.lane) log) ≡ length (sent_values log) = length-map log (λ s. s.lane) ∙ sym (length-map log (λ s. s.value.value)) in
    let now : values_of_lane i (map (λ s. s.lane) log') (sent_values log') ≡ values_of_lane i (map (λ s. s.lane) log ++ lane ∷ []) (sent_values log ++ value ∷ []) = ap (λ ls. values_of_lane i ls (sent_values log')) lanes ∙ ap (λ vs. values_of_lane i (map (λ s. s.lane) log ++ lane ∷ []) vs) values in
    elim (cases_eq i lane) [
      | inl same ↦ subst (λ k. get_or (set lists lane (get_or lists lane [] ++ value ∷ [])) k [] ≡ values_of_lane k (map (λ s. s.lane) log') (sent_values log')) (sym same)
          (get_or-set_same lists lane (get_or lists lane [] ++ value ∷ []) [] within ∙ ap (λ xs. xs ++ value ∷ []) (sent lane) ∙ sym (values_of_lane-own lane lane (map (λ s. s.lane) log) (sent_values log) value long refl)
          ∙ sym (subst (λ k. values_of_lane k (map (λ s. s.lane) log') (sent_values log') ≡ values_of_lane k (map (λ s. s.lane) log ++ lane ∷ []) (sent_values log ++ value ∷ [])) same now))
      | inr other ↦ get_or-set_other lists lane i (get_or lists lane [] ++ value ∷ []) [] other ∙ sent i ∙ sym (values_of_lane-other i lane (map (λ s. s.lane) log) (sent_values log) value long (λ e. other (sym e))) ∙ sym now
    ]

module _ {S : Type 0} (look : S → S → Type 0) where
  -- no look
  pub looked-none : (end : S) → IsLooked look end end
  looked-none end = ([], refl)

  looks-more : (old : S) (mids : List S) (mid new : S) → AreLooks look old mids mid → look mid new → AreLooks look old (mids ++ new ∷ []) new
  looks-more old [] mid new is more = (subst (λ end. look end new) is more, refl)
  looks-more old (m ∷ ms) mid new is more = (is.0, looks-more m ms mid new is.1 more)

  -- one look more
  pub looked-more : (old mid new : S) → IsLooked look old mid → look mid new → IsLooked look old new
  looked-more old mid new is more = (is.0 ++ new ∷ [], looks-more old is.0 mid new is.1 more)

true_false : {A : Type 0} → true ≡ false → A
true_false e = cc

-- the facts of a refusal, by why it refused
pub by_refusal : {T : Type 0} (refused : SendError T) (F C : Type 0) → IfFull refused F → IfClosed refused C → (is_full refused ≡ true → F) × (is_full refused ≡ false → C) × (F ⊎ C)
by_refusal (Full value) F C full closed = (λ _. full, λ e. true_false e, inl full)
by_refusal (Closed value) F C full closed = (λ e. true_false (sym e), λ _. closed, inr closed)

pub neither : (x y : Bool) → (x || y) ≡ false → (x ≡ false) × (y ≡ false)
neither true y e = true_false e
neither false y e = (refl, e)

module _ {S : Type 0} (look : S → S → Type 0) where
  looks-on : (old : S) (mids : List S) (mid : S) (later : List S) (new : S) → AreLooks look old mids mid → AreLooks look mid later new → AreLooks look old (mids ++ later) new
  looks-on old [] mid later new first second = subst (λ end. AreLooks look end later new) first second
  looks-on old (m ∷ ms) mid later new first second = (first.0, looks-on m ms mid later new first.1 second)

  -- looks after looks
  pub looked-on : (old mid new : S) → IsLooked look old mid → IsLooked look mid new → IsLooked look old new
  looked-on old mid new first second = (first.0 ++ second.0, looks-on old first.0 mid second.0 new first.1 second.1)

pub All-to_map : {X Y : Type 0} (P : Y → Type 0) (f : X → Y) (xs : List X) → All (λ x. P (f x)) xs → All P (map f xs)
All-to_map P f [] all k d within = absurd (omega (arith, within))
All-to_map P f (x ∷ xs) all zero d within = all zero x (omega arith)
All-to_map P f (x ∷ xs) all (suc k) d within = All-to_map P f xs (λ j e w. all (suc j) e (omega (arith, w))) k d (omega (arith, within))

-- a fact of what is seen of the lanes is one of other lanes of which the same is seen
pub seen_still : {X Y : Type 0} (P : Y → Type 0) (f : X → Y) (xs ys : List X) → map f ys ≡ map f xs → All (λ x. P (f x)) xs → All (λ y. P (f y)) ys
seen_still P f xs ys same all = All-from_map P f ys (subst (λ zs. All P zs) (sym same) (All-to_map P f xs all))

module _ {S V T : Type 0} (seen : S → V) (sent : S → List T) (look : S → S → Type 0) where
  pub looked_at-none : (lanes : List S) → AreLookedAt seen sent look lanes lanes
  looked_at-none lanes = record { long = refl; same_seen = refl; same_sent = refl; looked = λ lane d within. looked-none look (get_or lanes lane d) }

  -- a look at one lane
  pub looked_at-one : (lanes : List S) (lane : ℕ) (d new : S) → lane < length lanes → seen new ≡ seen (get_or lanes lane d) → sent new ≡ sent (get_or lanes lane d) → look (get_or lanes lane d) new → AreLookedAt seen sent look lanes (set lanes lane new)
  looked_at-one lanes lane d new within same_seen same_sent is = record {
    long = length-set lanes lane new;
    same_seen = map-set_same seen lanes lane d new within same_seen;
    same_sent = map-set_same sent lanes lane d new within same_sent;
    looked = λ i e in_i. elim (cases_eq i lane) [
      | inl same ↦ subst (λ k. IsLooked look (get_or lanes k e) (get_or (set lanes lane new) k e)) (sym same)
          (subst (λ end. IsLooked look (get_or lanes lane e) end) (sym (get_or-set_same lanes lane new e within)) (subst (λ end. IsLooked look end new) (get_or_default lanes lane d e within) (looked-more look (get_or lanes lane d) (get_or lanes lane d) new (looked-none look (get_or lanes lane d)) is)))
      | inr other ↦ subst (λ end. IsLooked look (get_or lanes i e) end) (sym (get_or-set_other lanes lane i new e other)) (looked-none look (get_or lanes i e))
    ];
  }

  pub looked_at-on : (olds mids news : List S) → AreLookedAt seen sent look olds mids → AreLookedAt seen sent look mids news → AreLookedAt seen sent look olds news
  looked_at-on olds mids news first second = record {
    long = second.long ∙ first.long;
    same_seen = second.same_seen ∙ first.same_seen;
    same_sent = second.same_sent ∙ first.same_sent;
    looked = λ lane d within. looked-on look (get_or olds lane d) (get_or mids lane d) (get_or news lane d) (first.looked lane d (subst (λ n. lane < n) second.long within)) (second.looked lane d within);
  }

-- what follows from a fact of an answer
pub on_ok : {A E : Type 0} (r : Result A E) (P Q : Type 0) → (P → Q) → OnOk r P → OnOk r Q
on_ok (Ok a) P Q f p = f p
on_ok (Err e) P Q f p = tt

pub on_err : {A E : Type 0} (r : Result A E) (P Q : Type 0) → (P → Q) → OnErr r P → OnErr r Q
on_err (Ok a) P Q f p = tt
on_err (Err e) P Q f p = f p

pub on_err_both : {A E : Type 0} (r : Result A E) (P Q R : Type 0) → (P → Q → R) → OnErr r P → OnErr r Q → OnErr r R
on_err_both (Ok a) P Q R f p q = tt
on_err_both (Err e) P Q R f p q = f p q

pub if_err : {A E : Type 0} (r : Result A E) (X : Type 0) (P Q : E → Type 0) → ((e : E) → X → P e → Q e) → OnErr r X → IfErr r P → IfErr r Q
if_err (Ok a) X P Q f x p = tt
if_err (Err e) X P Q f x p = f e x p

pub if_full : {T : Type 0} (refused : SendError T) (P Q : Type 0) → (P → Q) → IfFull refused P → IfFull refused Q
if_full (Full value) P Q f p = f p
if_full (Closed value) P Q f p = tt

pub if_closed : {T : Type 0} (refused : SendError T) (P Q : Type 0) → (P → Q) → IfClosed refused P → IfClosed refused Q
if_closed (Full value) P Q f p = tt
if_closed (Closed value) P Q f p = f p

pub err_full : {A T : Type 0} (r : Result A (SendError T)) (P Q : Type 0) → (P → Q) → IfErr r (λ refused. IfFull refused P) → IfErr r (λ refused. IfFull refused Q)
err_full (Ok a) P Q f p = tt
err_full (Err e) P Q f p = if_full e P Q f p

pub err_closed : {A T : Type 0} (r : Result A (SendError T)) (P Q : Type 0) → (P → Q) → IfErr r (λ refused. IfClosed refused P) → IfErr r (λ refused. IfClosed refused Q)
err_closed (Ok a) P Q f p = tt
err_closed (Err e) P Q f p = if_closed e P Q f p

-- a refusal is a look
pub refused_look : {B S : Type 0} (held : B → S → S → ℕ → Type 0) (full closed : B → S → S → Type 0) (b : B) (old new : S) → full b old new ⊎ closed b old new → IsLook held full closed old new
refused_look held full closed b old new (inl is) = (b, inr (inl is))
refused_look held full closed b old new (inr is) = (b, inr (inr is))
