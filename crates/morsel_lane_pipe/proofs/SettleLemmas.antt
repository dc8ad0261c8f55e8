-- What comes out of a pipe's lanes, where loads were merged or spread.
use Rattle.std.proofs.Common.{◌≡◌, ◌<◌, ◌≤◌, ◌==◌, ℕ, zero, suc, true, false, All, List, [], ◌∷◌, ◌++◌, length, get_or, map, if◌then◌else◌, inl, inr, refl, sym, ap, subst, ◌∙◌, arith, append_assoc}
use Rattle.std.specs.Ordering.{is_gt, nat_cmp}
use Rattle.std.specs.Cmp.{nat_cmp_is}
use Rattle.std.specs.declared.cmp.Ordering.TheVariants.{Less, Equal}
use Rattle.std.proofs.lemmas.Map.Keys.{le_from_not_gt}
use Rattle.std.proofs.lemmas.Bool.{cases_order}
use Rattle.std.proofs.lemmas.List.{get_or_default, length-map, map_push}
use Rattle.morsel_meaning.specs.Sequences.{AllAfter, NeverFalls}
use Rattle.morsel_load.specs.Loads.{LoadSeen, load_seen, load_seq, seen_seq}
use Rattle.morsel_load.specs.declared.load.Load.{Load}
use Rattle.morsel_merge.specs.Merging.{AreFalling, AreSpread, IsFalling, IsMerged, values_of_lane}
use Rattle.morsel_merge.proofs.AskLemmas.{map_twice}
use Rattle.atomic_table.specs.Seated.{TableId}
use Rattle.morsel_lane_pipe.specs.Tasks.{by_seq}
use Rattle.morsel_lane_pipe.specs.Settled.{SeqsNeverFall, SeqsNeverFallEach}

-- what is made of the values of a lane
values_of_lane-map : {X Y : Type 0} (f : X → Y) (i : ℕ) (lanes : List ℕ) (values : List X) → map f (values_of_lane i lanes values) ≡ values_of_lane i lanes (map f values)
values_of_lane-map f i [] values = refl
values_of_lane-map f i (lane ∷ lanes) [] = refl
values_of_lane-map f i (lane ∷ lanes) (value ∷ values) =
    elim (lane == i) as (λ b. map f (if b then value ∷ values_of_lane i lanes values else values_of_lane i lanes values) ≡ (if b then f value ∷ values_of_lane i lanes (map f values) else values_of_lane i lanes (map f values))) [
      | true ↦ ap (λ ys. f value ∷ ys) (values_of_lane-map f i lanes values)
      | false ↦ values_of_lane-map f i lanes values
    ]

get_or-map_list : {X Y : Type 0} (f : X → Y) (lists : List (List X)) (i : ℕ) → get_or (map (λ xs. map f xs) lists) i [] ≡ map f (get_or lists i [])
get_or-map_list f [] i = refl
get_or-map_list f (xs ∷ lists) zero = refl
get_or-map_list f (xs ∷ lists) (suc i) = get_or-map_list f lists i

-- what is seen of values that are spread is spread so
pub spread-map : {X Y : Type 0} (f : X → Y) (lists : List (List X)) (values : List X) → AreSpread lists values → AreSpread (map (λ xs. map f xs) lists) (map f values)
spread-map f lists values spread = (spread.0, spread.1 ∙ sym (length-map values f), λ i. get_or-map_list f lists i ∙ ap (map f) (spread.2 i) ∙ values_of_lane-map f i spread.0 values)

not_above : (a b : ℕ) → a ≤ b → is_gt (nat_cmp a b) ≡ false
not_above a b order = elim (cases_order a b) [
  | inl same ↦ ap is_gt (sym (nat_cmp_is a b Equal same))
  | inr (inl less) ↦ ap is_gt (sym (nat_cmp_is a b Less less))
  | inr (inr more) ↦ absurd (omega (arith, order, more))
]

module _ {K J : Type 0} where
  abbrev seqs : List (Load K J) → List ℕ
  seqs loads = map seen_seq (map load_seen loads)

  not_below : (n : ℕ) (loads : List (Load K J)) → AllAfter (λ m k. m ≤ k) n (seqs loads) → (j : ℕ) (d : Load K J) → j < length loads → n ≤ load_seq (get_or loads j d)
  not_below n [] after j d within = absurd (omega (arith, within))
  not_below n (x ∷ xs) after zero d within = after.0
  not_below n (x ∷ xs) after (suc j) d within = not_below n xs after.1 j d (omega (arith, within))

  all_after : (n : ℕ) (loads : List (Load K J)) → ((j : ℕ) (d : Load K J) → j < length loads → n ≤ load_seq (get_or loads j d)) → AllAfter (λ m k. m ≤ k) n (seqs loads)
  all_after n [] below = tt
  all_after n (x ∷ xs) below = (below zero x (omega arith), all_after n xs (λ j d within. below (suc j) d (omega (arith, within))))

  -- where the numbers never fall, the loads run from greatest to least
  falling-from_seqs : (loads : List (Load K J)) → NeverFalls (seqs loads) → IsFalling by_seq loads
  falling-from_seqs [] order i j d before within = absurd (omega (arith, within))
  falling-from_seqs (x ∷ xs) order zero zero d before within = absurd (omega (arith, before))
  falling-from_seqs (x ∷ xs) order zero (suc j) d before within = not_above (load_seq x) (load_seq (get_or xs j d)) (not_below (load_seq x) xs order.0 j d (omega (arith, within)))
  falling-from_seqs (x ∷ xs) order (suc i) zero d before within = absurd (omega (arith, before))
  falling-from_seqs (x ∷ xs) order (suc i) (suc j) d before within = falling-from_seqs xs order.1 i j d (omega (arith, before)) (omega (arith, within))

  -- and the other way round
  seqs-from_falling : (loads : List (Load K J)) → IsFalling by_seq loads → NeverFalls (seqs loads)
  seqs-from_falling [] falls = tt
  seqs-from_falling (x ∷ xs) falls = (
    all_after (load_seq x) xs (λ j d within. le_from_not_gt (load_seq x) (load_seq (get_or xs j d)) (falls zero (suc j) d (omega arith) (omega (arith, within)))),
    seqs-from_falling xs (λ i j d before within. falls (suc i) (suc j) d (omega (arith, before)) (omega (arith, within))),
  )

  falling-each : (lists : List (List (Load K J))) → SeqsNeverFallEach (map (map load_seen) lists) → AreFalling by_seq lists
  falling-each [] all i = falling-from_seqs [] tt
  falling-each (xs ∷ lists) all zero = falling-from_seqs xs (all zero [] (omega arith))
  falling-each (xs ∷ lists) all (suc i) = falling-each lists (λ k d within. all (suc k) d (omega (arith, within))) i

  -- what is merged comes out once each, and by number where each lane does
  pub merged-seen : (lists : List (List (Load K J))) (values : List (Load K J)) → IsMerged by_seq lists values → AreSpread (map (map load_seen) lists) (map load_seen values) × (SeqsNeverFallEach (map (map load_seen) lists) → SeqsNeverFall (map load_seen values))
  merged-seen lists values merged = (spread-map load_seen lists values merged.0, λ order. seqs-from_falling values (merged.1 (falling-each lists order)))

-- of loads whose numbers never fall, those of one lane
after-of_lane : (n i : ℕ) (lanes : List ℕ) (loads : List LoadSeen) → AllAfter (λ m k. m ≤ k) n (map seen_seq loads) → AllAfter (λ m k. m ≤ k) n (map seen_seq (values_of_lane i lanes loads))
after-of_lane n i [] loads after = tt
after-of_lane n i (lane ∷ lanes) [] after = tt
after-of_lane n i (lane ∷ lanes) (load ∷ loads) after =
    elim (lane == i) as (λ b. AllAfter (λ m k. m ≤ k) n (map seen_seq (if b then load ∷ values_of_lane i lanes loads else values_of_lane i lanes loads))) [
      | true ↦ (after.0, after-of_lane n i lanes loads after.1)
      | false ↦ after-of_lane n i lanes loads after.1
    ]

order-of_lane : (i : ℕ) (lanes : List ℕ) (loads : List LoadSeen) → SeqsNeverFall loads → SeqsNeverFall (values_of_lane i lanes loads)
order-of_lane i [] loads order = tt
order-of_lane i (lane ∷ lanes) [] order = tt
order-of_lane i (lane ∷ lanes) (load ∷ loads) order =
    elim (lane == i) as (λ b. SeqsNeverFall (if b then load ∷ values_of_lane i lanes loads else values_of_lane i lanes loads)) [
      | true ↦ (after-of_lane (seen_seq load) i lanes loads order.0, order-of_lane i lanes loads order.1)
      | false ↦ order-of_lane i lanes loads order.1
    ]

-- where the numbers of what is spread never fall, they never fall in any lane
pub spread-in_order : (lists : List (List LoadSeen)) (loads : List LoadSeen) → AreSpread lists loads → SeqsNeverFall loads → SeqsNeverFallEach lists
spread-in_order lists loads spread order k d within =
    subst SeqsNeverFall (get_or_default lists k [] d within) (subst SeqsNeverFall (sym (spread.2 k)) (order-of_lane k spread.0 loads order))

module _ {S R K J : Type 0} (all_sent : S → List (Load K J)) (all_taken : R → List (Load K J)) where
  abbrev sent_seen : S → List LoadSeen
  sent_seen s = map load_seen (all_sent s)

  abbrev taken_seen : R → List LoadSeen
  taken_seen r = map load_seen (all_taken r)

  -- lanes whose two ends agree
  pub same_seen : (sent : List S) (taken : List R) → map all_sent sent ≡ map all_taken taken → map sent_seen sent ≡ map taken_seen taken
  same_seen sent taken same = map_twice (map load_seen) all_sent sent ∙ ap (map (map load_seen)) same ∙ sym (map_twice (map load_seen) all_taken taken)

  -- what comes out of lanes that are merged
  pub merged_settled : (sent into_sent : List S) (into_taken merged_taken : List R) (merged_sent : S) (taken : R) → map all_sent sent ≡ map all_taken into_taken → map taken_seen into_taken ≡ map sent_seen into_sent → map all_sent into_sent ≡ map all_taken merged_taken → all_sent merged_sent ≡ all_taken taken → IsMerged by_seq (map all_taken merged_taken) (all_sent merged_sent)
      → AreSpread (map sent_seen sent) (map load_seen (all_taken taken)) × (SeqsNeverFallEach (map sent_seen sent) → SeqsNeverFall (map load_seen (all_taken taken)))
  merged_settled sent into_sent into_taken merged_taken merged_sent taken first inserted inner last merged =
      let lists : map (map load_seen) (map all_taken merged_taken) ≡ map sent_seen sent = ap (map (map load_seen)) (sym inner) ∙ sym (map_twice (map load_seen) all_sent into_sent) ∙ sym inserted ∙ sym (same_seen sent into_taken first) in
      subst (λ ls. AreSpread ls (map load_seen (all_taken taken)) × (SeqsNeverFallEach ls → SeqsNeverFall (map load_seen (all_taken taken)))) lists
      (subst (λ xs. AreSpread (map (map load_seen) (map all_taken merged_taken)) (map load_seen xs) × (SeqsNeverFallEach (map (map load_seen) (map all_taken merged_taken)) → SeqsNeverFall (map load_seen xs))) last (merged-seen (map all_taken merged_taken) (all_sent merged_sent) merged))

  -- what comes out of lanes over which it is spread
  pub spread_settled : (sent : S) (spread_taken : R) (spread_sent on_sent : List S) (on_taken taken : List R) → all_sent sent ≡ all_taken spread_taken → map all_sent spread_sent ≡ map all_taken on_taken → map taken_seen on_taken ≡ map sent_seen on_sent → map all_sent on_sent ≡ map all_taken taken → AreSpread (map sent_seen spread_sent) (map load_seen (all_taken spread_taken))
      → AreSpread (map taken_seen taken) (map load_seen (all_sent sent)) × (SeqsNeverFall (map load_seen (all_sent sent)) → SeqsNeverFallEach (map taken_seen taken))
  spread_settled sent spread_taken spread_sent on_sent on_taken taken first inner handed_on last spread =
      let lists : map sent_seen spread_sent ≡ map taken_seen taken = same_seen spread_sent on_taken inner ∙ handed_on ∙ same_seen on_sent taken last in
      let all : AreSpread (map taken_seen taken) (map load_seen (all_sent sent)) = subst (λ ls. AreSpread ls (map load_seen (all_sent sent))) lists (subst (λ xs. AreSpread (map sent_seen spread_sent) (map load_seen xs)) (sym first) spread) in
      (all, λ order. spread-in_order (map taken_seen taken) (map load_seen (all_sent sent)) all order)

-- the tables of receipts are those of the same board
pub homes_on : {X : Type 0} (home : X → TableId) (table table' : TableId) (xs : List X) → table' ≡ table → All (λ x. home x ≡ table) xs → All (λ x. home x ≡ table') xs
homes_on home table table' xs same all k d within = all k d within ∙ sym same

-- the first of several receipts, and those after it
pub home_first : {X : Type 0} (home : X → TableId) (table : TableId) (xs rest : List X) (x : X) → xs ≡ x ∷ rest → All (λ y. home y ≡ table) xs → home x ≡ table
home_first home table xs rest x same all = let all' : All (λ y. home y ≡ table) (x ∷ rest) = subst (All (λ y. home y ≡ table)) same all in all' zero x (omega arith)

pub homes_rest : {X : Type 0} (home : X → TableId) (table : TableId) (xs rest : List X) (x : X) → xs ≡ x ∷ rest → All (λ y. home y ≡ table) xs → All (λ y. home y ≡ table) rest
homes_rest home table xs rest x same all k d within = let all' : All (λ y. home y ≡ table) (x ∷ rest) = subst (All (λ y. home y ≡ table)) same all in all' (suc k) d (omega (arith, within))

pub lanes_rest : {X Y Z : Type 0} (f : X → Z) (h : Y → Z) (xs xs' : List X) (ys ys' : List Y) (x : X) (y : Y) → xs ≡ x ∷ xs' → ys ≡ y ∷ ys' → map f xs ≡ map h ys → map f xs' ≡ map h ys'
lanes_rest f h xs xs' ys ys' x y xs_is ys_is same = let e : f x ∷ map f xs' ≡ h y ∷ map h ys' = ap (map f) (sym xs_is) ∙ same ∙ ap (map h) ys_is in cc

-- one more lane whose ends agree
pub agreed_more : {X Y Z : Type 0} (f : X → Z) (h : Y → Z) (done : List X) (ys ys' : List Y) (x : X) (y : Y) (all : List Z) → ys ≡ y ∷ ys' → f x ≡ h y → map f done ++ map h ys ≡ all → map f (done ++ x ∷ []) ++ map h ys' ≡ all
agreed_more f h done ys ys' x y all ys_is agree same =
    ap (λ zs. zs ++ map h ys') (map_push f done x) ∙ append_assoc (map f done) (f x ∷ []) (map h ys') ∙ ap (λ z. map f done ++ z ∷ map h ys') agree ∙ ap (λ zs. map f done ++ map h zs) (sym ys_is) ∙ same
