-- Each step of a group or a token keeps the rule of the group.
use Rattle.std.proofs.Common.{◌≡◌, ◌⊎◌, ℕ, ◌+◌, ◌-◌, ◌%◌, ◌^◌, ◌≤◌, true, false, eqb, List, [], ◌∷◌, ◌++◌, length, set, get_or, sym, refl, ap, ◌∙◌, subst, inl, inr, ⊎_elim, arith, eq-eqb, ne_eqb}
use Rattle.std.specs.Prelude.{◌==◌}
use mathlib.Core.Logic.{dite}
use mathlib.Core.Option.{none, some}
use native.Mathlib.Decide.{ℕ_discrete}
use lib.ListN.{get_elem?}
use Rattle.atomic_table.specs.Table.{State, step, keeps, opening, Allows, Splits}
use Rattle.morsel_word_groups.specs.declared.view.GroupPart.{GroupPart}
use Rattle.morsel_word_groups.specs.declared.view.GroupPart.TheVariants as part
use Rattle.morsel_word_groups.specs.declared.view.GroupView.{GroupView}
use Rattle.morsel_word_groups.specs.Group.{counts_for, parts_of, groups_in, waits_of, owed_by, counted_by, shared, grouped, named, owed, total, IsGroupTable, new_group_view}
use Rattle.morsel_word_groups.specs.GroupSteps.{AtGroup, IsOpen, with_one_more, AddsToken, looked, Looks, registered, Registers, withdrawn, Withdraws, released, ReleasesToken, took, TakesNumber, group_left, group_given, token_left, token_given}
use Rattle.morsel_word_groups.proofs.Totals.{total-set, total-append, total-least, counted-within, shared-alone, named-alone}

set_count : (ws : List ℕ) (n : ℕ) → length ws ≡ 2 → (length (set ws 0 n) ≡ 2) × (get_or (set ws 0 n) 0 0 ≡ n) × (get_or (set ws 0 n) 1 0 ≡ get_or ws 1 0)
set_count [] n e = absurd (omega arith)
set_count (a ∷ ws) n e = (e, refl, refl)

set_number : (ws : List ℕ) (n : ℕ) → length ws ≡ 2 → (length (set ws 1 n) ≡ 2) × (get_or (set ws 1 n) 0 0 ≡ get_or ws 0 0) × (get_or (set ws 1 n) 1 0 ≡ n)
set_number [] n e = absurd (omega arith)
set_number (a ∷ []) n e = absurd (omega arith)
set_number (a ∷ b ∷ ws) n e = (e, refl, refl)

abbrev Groups : Type 0
Groups = State (Unit {0}) GroupView

pub opens : IsGroupTable (opening (0 ∷ 0 ∷ []) [] new_group_view)
opens = record { wide = refl; count = refl; budget = omega arith; single = omega arith; number = omega arith; whose = inl refl; heard = λ e. inl refl }

-- what one more token makes of a seat's numbers
more : (p : GroupPart) (n : ℕ) → IsOpen p → 1 ≤ n → (counts_for p true ≡ counts_for p false + 1) × (parts_of p true (n - 1) ≡ parts_of p false n)
more part.Group n o h = (refl, omega arith)
more part.Token n o h = (refl, omega arith)
more part.Released n o h = absurd o

-- a step on the count
module _ (s : Groups) (k : IsGroupTable s) (id : ℕ) (v w : GroupView) (at : get_elem? s.views id ≡ some v) (n : ℕ) where
  counts : n + counted_by v ≡ get_or s.words 0 0 + counted_by w
      → total shared (set s.views id w) ≤ 2 ^ 62
      → grouped w ≤ grouped v
      → named w ≡ named v
      → (n ≡ 0 → (get_or s.words 1 0 ≡ 0) ⊎ (1 ≤ total owed (set s.views id w)))
      → IsGroupTable (record { words = set s.words 0 n; homes = s.homes; views = set s.views id w })
  counts count budget single whose heard =
      let words = set_count s.words n k.wide in let c = total-set counted_by s.views id v w at in let g = total-set grouped s.views id v w at in let h = total-set named s.views id v w at in
      let was = k.count in let one = k.single in
      let same : total named (set s.views id w) ≡ total named s.views = omega arith in
      record {
        wide = words.0;
        count = words.1 ∙ omega arith;
        budget = budget;
        single = omega arith;
        number = subst (λ z. z ≤ 4294967296) (sym words.2) k.number;
        whose = ⊎_elim (λ e. inl (words.2 ∙ e)) (λ e. inr (words.2 ∙ (e ∙ sym same))) k.whose;
        heard = λ e. ⊎_elim (λ t. inl (words.2 ∙ t)) (λ t. inr t) (heard (sym words.1 ∙ e));
      }

  -- a step on the wait word
  numbers : n ≤ 4294967296
      → counted_by w ≡ counted_by v
      → shared w ≡ shared v
      → grouped w ≡ grouped v
      → (n ≡ 0) ⊎ (n ≡ total named (set s.views id w))
      → (n ≡ 0) ⊎ (owed w ≡ 1)
      → IsGroupTable (record { words = set s.words 1 n; homes = s.homes; views = set s.views id w })
  numbers within count budget single whose heard =
      let words = set_number s.words n k.wide in let c = total-set counted_by s.views id v w at in let b = total-set shared s.views id v w at in let g = total-set grouped s.views id v w at in
      let o = total-set owed s.views id v w at in let least = total-least owed s.views id v at in let was = k.count in let one = k.single in let most = k.budget in
      record {
        wide = words.0;
        count = words.1 ∙ omega arith;
        budget = omega arith;
        single = omega arith;
        number = subst (λ z. z ≤ 4294967296) (sym words.2) within;
        whose = ⊎_elim (λ e. inl (words.2 ∙ e)) (λ e. inr (words.2 ∙ e)) whose;
        heard = λ e. ⊎_elim (λ t. inl (words.2 ∙ t)) (λ (t : owed w ≡ 1). inr (omega arith)) heard;
      }

pub counts_more : (slots id : ℕ) (m : AtGroup) → IsOpen m.0.part → m.0.added ≡ false → 1 ≤ m.0.spare → Allows IsGroupTable slots id m 0 (λ n. (n + 1) % 2 ^ 64) (AddsToken (step slots 0 1 0 none) m)
counts_more slots id m member plain spare s k _ at _ =
    let n : ℕ = get_or s.words 0 0 in let w : GroupView = with_one_more m.0 in
    let one = more m.0.part m.0.spare member spare in
    let c : counted_by w ≡ counted_by m.0 + 1 = one.0 ∙ ap (λ z. counts_for m.0.part z + 1) (sym plain) in
    let b : shared w ≡ shared m.0 = one.1 ∙ ap (λ z. parts_of m.0.part z m.0.spare) (sym plain) in
    let t = total-set shared s.views id m.0 w at in let most = k.budget in let within = counted-within s.views in let is = k.count in
    let small : (n + 1) % 2 ^ 64 ≡ n + 1 = omega arith in
    (w, keeps, tt, counts s k id m.0 w at ((n + 1) % 2 ^ 64) (omega arith) (omega arith) (omega arith) refl (λ e. absurd (omega arith)), refl)

-- what a release makes of a token's numbers
pub counts_less : (slots id : ℕ) (m : AtGroup) → m.0.part ≡ part.Token → m.0.added ≡ false → Allows IsGroupTable slots id m 0 (λ n. (n + (2 ^ 64 - 1)) % 2 ^ 64) (ReleasesToken (step slots 0 1 0 none) m)
counts_less slots id m token plain s k _ at _ =
    let n : ℕ = get_or s.words 0 0 in let w : GroupView = released (n == 1) m.0 in
    let c : counted_by m.0 ≡ 1 = λ i. counts_for (token i) (plain i) in
    let g : grouped m.0 ≡ 0 = ap groups_in token in
    let h : named m.0 ≡ 0 = ap (λ z. waits_of z m.0.waits) token in
    let t = total-set shared s.views id m.0 w at in let most = k.budget in let within = counted-within s.views in let is = k.count in let least = total-least counted_by s.views id m.0 at in
    let small : (n + (2 ^ 64 - 1)) % 2 ^ 64 + 1 ≡ n = omega arith in
    let next : ℕ = (n + (2 ^ 64 - 1)) % 2 ^ 64 in (
      w,
      keeps,
      tt,
      counts s k id m.0 w at next (omega arith) (omega arith) (omega arith) (sym h)
          (λ e. inr (let last : n ≡ 1 = omega arith in let o = total-set owed s.views id m.0 w at in let yes : owed w ≡ 1 = ap owed_by (eq-eqb n 1 last) in let own = total-least owed s.views id m.0 at in omega arith)),
      refl,
    )

pub looks : (slots id : ℕ) (m : AtGroup) → m.0.part ≡ part.Group → m.0.added ≡ false → Allows IsGroupTable slots id m 0 (λ n. n) (Looks (step slots 0 0 0 none) m)
looks slots id m group plain s k _ at _ = (w, keeps, tt, dite (ℕ_discrete n 0) (λ none_left. all none_left) (λ some_left. some some_left), refl)
  where
    n : ℕ
    n = get_or s.words 0 0

    w : GroupView
    w = looked (n == 0) m.0

    own : counted_by m.0 ≡ 0
    own = λ i. counts_for (group i) (plain i)

    one : groups_in m.0.part ≡ 1
    one = ap groups_in group

    all : n ≡ 0 → IsGroupTable (record { words = set s.words 0 n; homes = s.homes; views = set s.views id (looked (n == 0) m.0) })
    all e = subst (λ b. IsGroupTable (record { words = set s.words 0 n; homes = s.homes; views = set s.views id (looked b m.0) })) (sym (eq-eqb n 0 e))
        (let w : GroupView = looked true m.0 in let t = total-set shared s.views id m.0 w at in let o = total-set owed s.views id m.0 w at in let is = k.count in let none_left = shared-alone s.views id m.0 at one k.single own (sym is ∙ e) in
        let mine : shared w ≡ 2 ^ 62 = λ i. parts_of (group i) (plain i) (2 ^ 62) in
        counts s k id m.0 w at n refl (omega arith) (omega arith) refl (λ z. ⊎_elim (λ h. inl h) (λ h. inr (omega arith)) (k.heard z)))

    some : ¬ (n ≡ 0) → IsGroupTable (record { words = set s.words 0 n; homes = s.homes; views = set s.views id (looked (n == 0) m.0) })
    some not = subst (λ b. IsGroupTable (record { words = set s.words 0 n; homes = s.homes; views = set s.views id (looked b m.0) })) (sym (ne_eqb n 0 not))
        (let w : GroupView = looked false m.0 in let t = total-set shared s.views id m.0 w at in let most = k.budget in
        counts s k id m.0 w at n refl (omega arith) (omega arith) refl (λ z. absurd (not z)))

pub registers : (slots id : ℕ) (m : AtGroup) (number : ℕ) → m.0.part ≡ part.Group → number ≤ 4294967296 → Allows IsGroupTable slots id m 1 (λ n. number) (Registers (step slots 1 number 0 none) m)
registers slots id m number group within s k _ at _ =
    let w : GroupView = registered number m.0 in
    let t = total-set named s.views id m.0 w at in let one : groups_in m.0.part ≡ 1 = ap groups_in group in let only = named-alone s.views id m.0 at one k.single in
    let mine : named w ≡ number = ap (λ z. waits_of z number) group in
    (w, keeps, tt, numbers s k id m.0 w at number within refl refl refl (inr (omega arith)) (inr refl), refl)

pub withdraws : (slots id : ℕ) (m : AtGroup) → Allows IsGroupTable slots id m 1 (λ n. 0) (Withdraws (step slots 1 0 0 none) m)
withdraws slots id m s k _ at _ = (withdrawn m.0, keeps, tt, numbers s k id m.0 (withdrawn m.0) at 0 (omega arith) refl refl refl (inl refl) (inl refl), refl)

pub takes_number : (slots id : ℕ) (m : AtGroup) → Allows IsGroupTable slots id m 1 (λ n. 0) (TakesNumber (step slots 1 0 0 none) m)
takes_number slots id m s k _ at _ = let w : GroupView = took (get_or s.words 1 0) m.0 in (w, keeps, tt, numbers s k id m.0 w at 0 (omega arith) refl refl refl (inl refl) (inl refl), (k.number, refl))

-- a seat is parted in two that together count for as much, and have as many parts
parted : (id : ℕ) (v l r : GroupView) → counted_by l + counted_by r ≡ counted_by v → shared l + shared r ≡ shared v → grouped l + grouped r ≡ grouped v → named l + named r ≡ named v → owed l + owed r ≡ owed v
    → Splits IsGroupTable id v l r
parted id v l r c b g h o s k at =
    let c1 = total-set counted_by s.views id v l at in let c2 = total-append counted_by (set s.views id l) r in
    let b1 = total-set shared s.views id v l at in let b2 = total-append shared (set s.views id l) r in
    let g1 = total-set grouped s.views id v l at in let g2 = total-append grouped (set s.views id l) r in
    let h1 = total-set named s.views id v l at in let h2 = total-append named (set s.views id l) r in
    let o1 = total-set owed s.views id v l at in let o2 = total-append owed (set s.views id l) r in
    let was = k.count in let most = k.budget in let one = k.single in
    let same : total named (set s.views id l ++ r ∷ []) ≡ total named s.views = omega arith in
    record {
      wide = k.wide;
      count = omega arith;
      budget = omega arith;
      single = omega arith;
      number = k.number;
      whose = ⊎_elim (λ e. inl e) (λ e. inr (e ∙ sym same)) k.whose;
      heard = λ e. ⊎_elim (λ t. inl t) (λ t. inr (omega arith)) (k.heard e);
    }

pub parts_from_group : (id : ℕ) (v : GroupView) → v.part ≡ part.Group → v.added ≡ true → 2 ^ 31 ≤ v.spare + 1 → Splits IsGroupTable id v (group_left v) (group_given v)
parts_from_group id v group added spare =
    let c : counted_by v ≡ 1 = λ i. counts_for (group i) (added i) in
    let b : shared v ≡ 1 + v.spare = λ i. parts_of (group i) (added i) v.spare in
    let g : grouped v ≡ 1 = ap groups_in group in
    let h : named v ≡ v.waits = ap (λ z. waits_of z v.waits) group in
    parted id v (group_left v) (group_given v) (sym c) (omega arith) (sym g) (omega arith) (omega arith)

pub parts_from_token : (id : ℕ) (v : GroupView) → v.part ≡ part.Token → v.added ≡ true → Splits IsGroupTable id v (token_left v) (token_given v)
parts_from_token id v token added =
    let c : counted_by v ≡ 2 = λ i. counts_for (token i) (added i) in
    let b : shared v ≡ 2 + v.spare = λ i. parts_of (token i) (added i) v.spare in
    let g : grouped v ≡ 0 = ap groups_in token in
    let h : named v ≡ 0 = ap (λ z. waits_of z v.waits) token in
    parted id v (token_left v) (token_given v) (sym c) (omega arith) (sym g) (sym h) (omega arith)
