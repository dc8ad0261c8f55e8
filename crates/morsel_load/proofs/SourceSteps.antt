-- Each step of a token keeps the rule of its source's flag.
use Rattle.std.proofs.Common.{◌≡◌, ◌⊎◌, ℕ, zero, suc, ◌+◌, ◌≤◌, List, [], ◌∷◌, ◌++◌, length, length-set, set, get_or, get_or-set_same, sym, refl, ap, ◌∙◌, subst, inl, inr, ⊎_elim, arith}
use Rattle.std.specs.Prelude.{bit_or}
use mathlib.Core.Option.{none, some, some-injective, some-ne-none}
use lib.ListN.{get_elem?}
use Rattle.atomic_table.specs.Table.{State, step, keeps, opening, Allows, Splits}
use Rattle.atomic_table.proofs.Lists.{at_set, at_snoc, set_again}
use Rattle.morsel_load.specs.declared.source_flag.SourceView.{SourceView}
use Rattle.morsel_load.specs.Sources.{all_stops, IsSource, unasked_view, AtSource, AsksToStop, LooksForStop, shared_view}

-- a seat changes, and a seat is added
all_stops-set : (l : List SourceView) (i : ℕ) (v w : SourceView) → get_elem? l i ≡ some v → all_stops (set l i w) + v.asked ≡ all_stops l + w.asked
all_stops-set [] i v w e = absurd (some-ne-none v (sym e))
all_stops-set (x ∷ xs) zero v w e = let is : x.asked ≡ v.asked = ap (λ (u : SourceView). u.asked) (some-injective x v e) in omega arith
all_stops-set (x ∷ xs) (suc i) v w e = let r = all_stops-set xs i v w e in omega arith

all_stops-append : (l : List SourceView) (v : SourceView) → all_stops (l ++ v ∷ []) ≡ all_stops l + v.asked
all_stops-append [] v = omega arith
all_stops-append (x ∷ xs) v = let r = all_stops-append xs v in omega arith

abbrev Flag : Type 0
Flag = State (Unit {0}) SourceView

pub opens : IsSource (opening (0 ∷ []) [] unasked_view)
opens = record { wide = refl; flag = inl (refl, refl); known = go }
  where
    go : (id : ℕ) (v : SourceView) → get_elem? (unasked_view ∷ []) id ≡ some v → v.stops ≤ 0
    go zero v e = let is : 0 ≡ v.stops = ap (λ (u : SourceView). u.stops) (some-injective unasked_view v e) in omega arith
    go (suc id) v e = absurd (some-ne-none v (sym e))

-- the rule, once a seat knows this, and the flag is n
placed : (s : Flag) (k : IsSource s) (id : ℕ) (v w : SourceView) → get_elem? s.views id ≡ some v → v.asked ≤ w.asked → (n : ℕ)
    → ((n ≡ 0) × (all_stops (set s.views id w) ≡ 0)) ⊎ ((n ≡ 1) × (1 ≤ all_stops (set s.views id w)))
    → w.stops ≤ all_stops (set s.views id w)
    → IsSource (record { words = set s.words 0 n; homes = s.homes; views = set s.views id w })
placed s k id v w at more n flag mine =
    let wide = k.wide in let word : get_or (set s.words 0 n) 0 0 ≡ n = get_or-set_same s.words 0 n 0 (omega arith) in let sum = all_stops-set s.views id v w at in
    record {
      wide = length-set s.words 0 n ∙ wide;
      flag = ⊎_elim (λ t. inl (word ∙ t.0, t.1)) (λ t. inr (word ∙ t.0, t.1)) flag;
      known = λ j u e. ⊎_elim
          (λ t. subst (λ (z : SourceView). z.stops ≤ all_stops (set s.views id w)) t.1 mine)
          (λ t. let old = k.known j u t.1 in omega arith)
          (at_set s.views id j w u e);
    }

pub asks : (slots id : ℕ) (m : AtSource) → Allows IsSource slots id m 0 (λ n. bit_or n 1) (AsksToStop (step slots 0 1 0 none) m)
asks slots id m s k _ at _ =
    let stops : ℕ = all_stops s.views + 1 in let w : SourceView = record { asked = m.0.asked + 1; stops = stops } in
    let sum = all_stops-set s.views id m.0 w at in let mine = k.known id m.0 at in let n : ℕ = get_or s.words 0 0 in
    let set_to : bit_or n 1 ≡ 1 = ⊎_elim (λ t. ap (λ z. bit_or z 1) t.0) (λ t. ap (λ z. bit_or z 1) t.0) k.flag in
    (w, keeps, tt, placed s k id m.0 w at (omega arith) (bit_or n 1) (inr (set_to, omega arith)) (omega arith), (stops, omega arith, refl))

pub looks : (slots id : ℕ) (m : AtSource) → Allows IsSource slots id m 0 (λ n. n) (LooksForStop (step slots 0 0 0 none) m)
looks slots id m s k _ at _ =
    let stops : ℕ = all_stops s.views in let w : SourceView = record { asked = m.0.asked; stops = stops } in
    let sum = all_stops-set s.views id m.0 w at in let mine = k.known id m.0 at in let n : ℕ = get_or s.words 0 0 in
    (w, keeps, tt, placed s k id m.0 w at (omega arith) n (⊎_elim (λ t. inl (t.0, omega arith)) (λ t. inr (t.0, omega arith)) k.flag) (omega arith), (stops, mine, refl, k.flag))

pub shares : (id : ℕ) (v : SourceView) → Splits IsSource id v v (shared_view v)
shares id v s k at =
    let same = set_again s.views id v at in let more = all_stops-append s.views (shared_view v) in let mine = k.known id v at in
    subst (λ (l : List SourceView). IsSource (record { words = s.words; homes = s.homes; views = l ++ shared_view v ∷ [] })) (sym same)
    (record {
      wide = k.wide;
      flag = ⊎_elim (λ t. inl (t.0, omega arith)) (λ t. inr (t.0, omega arith)) k.flag;
      known = λ j u e. ⊎_elim
          (λ was. let old = k.known j u was in omega arith)
          (λ is. let own : v.stops ≡ u.stops = ap (λ (z : SourceView). z.stops) is in omega arith)
          (at_snoc s.views (shared_view v) u j e);
    })
