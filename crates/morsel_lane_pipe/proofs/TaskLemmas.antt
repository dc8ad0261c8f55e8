-- What the tasks of a pipe keep, and what they end with.
use Rattle.std.proofs.Common.{◌≡◌, ℕ, zero, suc, All, List, [], ◌∷◌, ◌++◌, length, map, Option, None, Some, refl, sym, ap, subst, ◌∙◌, arith}
use Rattle.std.proofs.lemmas.List.{append-nil}
use Rattle.atomic_table.specs.Seated.{TableId}
use Rattle.morsel_meaning.specs.declared.task.TaskNo.{TaskNo}
use Rattle.morsel_prims.specs.Polled.{LaneId}
use Rattle.morsel_prims.specs.Waiting.{KeepsWaiting, WaitPlace}
use Rattle.morsel_prims.specs.Woken.{KeepsWakes, Woken}
use Rattle.morsel_merge.specs.Boards.{OnEarlierEnd}
use Rattle.morsel_merge.specs.Merging.{AreSpread, IsMerged}
use Rattle.morsel_merge.proofs.AskLemmas.{All-from_map, map_twice}
use Rattle.morsel_merge.proofs.SpreadLemmas.{All-to_map}
use Rattle.morsel_merge.proofs.BoardLemmas.{earlier_end-next, waits_none}
use Rattle.morsel_load.specs.Loads.{load_seen}
use Rattle.morsel_load.specs.declared.load.Load.{Load}
use Rattle.morsel_lane_pipe.specs.Tasks.{AreEndsCut, ArePassed, AreReceipts, HandsOn, IsWorkOf, Merges, Spreads, TaskSeen, by_seq}
use Rattle.morsel_lane_pipe.proofs.SettleLemmas.{spread-map}

pub all_one : {X : Type 0} (P : X → Type 0) (xs : List X) (x : X) → xs ≡ x ∷ [] → P x → All P xs
all_one P xs x same is = subst (All P) (sym same) (one x is)
  where
    one : (y : _) → P y → All P (y ∷ [])
    one y is zero d within = is
    one y is (suc k) d within = absurd (omega (arith, within))

-- what holds of what is seen of some things holds of what is seen of others, where they are seen the same
pub all_from_map : {X Y : Type 0} (f : X → TableId) (h : Y → TableId) (table : TableId) (xs : List X) (ys : List Y) → All (λ y. h y ≡ table) ys → map f xs ≡ map h ys → All (λ x. f x ≡ table) xs
all_from_map f h table xs ys all same = All-from_map (λ t. t ≡ table) f xs (subst (All (λ t. t ≡ table)) (sym same) (All-to_map (λ t. t ≡ table) h ys all))

module _ {B E : Type 0} (waits : B → WaitPlace → Option TaskNo) (has_cut : B → E → Type 0) (lane : E → LaneId) where
  -- one end was cut, and then another one
  pub ends_cut-one : (board : B) (w : Woken) (end : E) → OnEarlierEnd waits board w (λ mid. has_cut mid end) → AreEndsCut waits has_cut lane board (lane end ∷ [])
  ends_cut-one board w end cut = ((end, refl, w, cut), tt)

  -- the end that was cut last
  pub ends_cut-last : (board : B) (w : Woken) (end : E) → has_cut board end → AreEndsCut waits has_cut lane board (lane end ∷ [])
  ends_cut-last board w end cut = ends_cut-one board w end (board, waits_none (waits board) w, cut)

  -- each of several ends was cut
  pub ends_cut-all : (board : B) (w : Woken) (ends : List E) → All (λ end. OnEarlierEnd waits board w (λ mid. has_cut mid end)) ends → AreEndsCut waits has_cut lane board (map lane ends)
  ends_cut-all board w [] all = tt
  ends_cut-all board w (end ∷ ends) all = ((end, refl, w, all zero end (omega arith)), ends_cut-all board w ends (λ k d within. all (suc k) d (omega (arith, within))))

  -- and then another one
  pub ends_cut-before : (mid board : B) (w v : Woken) (ends : List E) → KeepsWakes w v → KeepsWaiting (waits mid) (waits board) v → All (λ end. OnEarlierEnd waits mid w (λ b. has_cut b end)) ends → AreEndsCut waits has_cut lane board (map lane ends)
  ends_cut-before mid board w v ends kept next all = ends_cut-all board v ends (λ k d within. earlier_end-next waits (λ b. has_cut b (Rattle.std.proofs.Common.get_or ends k d)) mid board w v kept next (all k d within))

-- where nothing is held, all that was taken was sent
pub passed-whole : {K J : Type 0} (taken sent : List (Load K J)) (held : Option (Load K J)) → held ≡ None → ArePassed taken sent held → map load_seen taken ≡ map load_seen sent
passed-whole taken sent None none passed = passed ∙ append-nil (map load_seen sent)
passed-whole taken sent (Some load) none passed = cc

module _ {R S K J : Type 0} (taken_home : R → TableId) (taken_lane : R → LaneId) (all_taken : R → List (Load K J)) (sent_home : S → TableId) (sent_lane : S → LaneId) (all_sent : S → List (Load K J)) (seen : TaskSeen) where
  -- the receipts of a task that gives on
  pub receipts-one : (taken : List R) (sent : List S) (r : R) (s : S) → taken ≡ r ∷ [] → sent ≡ s ∷ [] → taken_home r ≡ seen.home → sent_home s ≡ seen.home → seen.from ≡ taken_lane r ∷ [] → seen.to ≡ sent_lane s ∷ [] → seen.work ≡ HandsOn
      → map load_seen (all_taken r) ≡ map load_seen (all_sent s) → AreReceipts taken_home taken_lane all_taken sent_home sent_lane all_sent seen taken sent
  receipts-one taken sent r s taken_is sent_is home home' from to work same = record {
    taken_homes = all_one (λ x. taken_home x ≡ seen.home) taken r taken_is home;
    sent_homes = all_one (λ x. sent_home x ≡ seen.home) sent s sent_is home';
    taken_lanes = ap (map taken_lane) taken_is ∙ sym from;
    sent_lanes = ap (map sent_lane) sent_is ∙ sym to;
    work = subst (λ w. IsWorkOf w (map all_taken taken) (map all_sent sent)) (sym work) (ap (λ xs. map (map load_seen) (map all_taken xs)) taken_is ∙ ap (λ xs. xs ∷ []) same ∙ sym (ap (λ xs. map (map load_seen) (map all_sent xs)) sent_is));
  }

  -- the receipts of a task that merges
  pub receipts-merged : (taken : List R) (sent : List S) (s : S) → sent ≡ s ∷ [] → All (λ x. taken_home x ≡ seen.home) taken → sent_home s ≡ seen.home → map taken_lane taken ≡ seen.from → seen.to ≡ sent_lane s ∷ [] → seen.work ≡ Merges
      → IsMerged by_seq (map all_taken taken) (all_sent s) → AreReceipts taken_home taken_lane all_taken sent_home sent_lane all_sent seen taken sent
  receipts-merged taken sent s sent_is homes home from to work merged = record {
    taken_homes = homes;
    sent_homes = all_one (λ x. sent_home x ≡ seen.home) sent s sent_is home;
    taken_lanes = from;
    sent_lanes = ap (map sent_lane) sent_is ∙ sym to;
    work = subst (λ w. IsWorkOf w (map all_taken taken) (map all_sent sent)) (sym work) (all_sent s, ap (map all_sent) sent_is, merged);
  }

  -- the receipts of a task that spreads
  pub receipts-spread : (taken : List R) (sent : List S) (r : R) (all : List (Load K J)) → taken ≡ r ∷ [] → taken_home r ≡ seen.home → All (λ x. sent_home x ≡ seen.home) sent → seen.from ≡ taken_lane r ∷ [] → map sent_lane sent ≡ seen.to → seen.work ≡ Spreads
      → map load_seen (all_taken r) ≡ map load_seen all → AreSpread (map all_sent sent) all → AreReceipts taken_home taken_lane all_taken sent_home sent_lane all_sent seen taken sent
  receipts-spread taken sent r all taken_is home homes from to work same spread = record {
    taken_homes = all_one (λ x. taken_home x ≡ seen.home) taken r taken_is home;
    sent_homes = homes;
    taken_lanes = ap (map taken_lane) taken_is ∙ sym from;
    sent_lanes = to;
    work = subst (λ w. IsWorkOf w (map all_taken taken) (map all_sent sent)) (sym work) (all_taken r, ap (map all_taken) taken_is, subst (λ xs. AreSpread (map (map load_seen) (map all_sent sent)) xs) (sym same) (spread-map load_seen (map all_sent sent) all spread));
  }

-- ends that are seen the same are of the same lanes
pub same_lanes : {S V : Type 0} (seen : S → V) (lane : V → LaneId) (olds news : List S) → map seen news ≡ map seen olds → map (λ end. lane (seen end)) news ≡ map (λ end. lane (seen end)) olds
same_lanes seen lane olds news same = map_twice lane seen news ∙ ap (map lane) same ∙ sym (map_twice lane seen olds)
