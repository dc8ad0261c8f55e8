-- What a task that merges keeps.
use Rattle.std.proofs.Common.{◌≡◌, ℕ, false, List, ◌++◌, map, Option, None, Some, refl, sym, ap, subst, ◌∙◌}
use Rattle.std.specs.List.{flat_map}
use Rattle.std.specs.Option.{is_some}
use Rattle.std.specs.declared.cmp.Ordering.{Ordering}
use Rattle.std.proofs.lemmas.List.{append-nil}
use Rattle.morsel_prims.specs.Polled.{held_list}
use Rattle.morsel_merge.specs.Merging.{IsMerging}
use Rattle.morsel_merge.proofs.AskLemmas.{flat_map_twice}

pub held_none : {A : Type 0} (held : Option A) → false ≡ is_some held → held ≡ None
held_none None is = refl
held_none (Some x) is = cc

-- where nothing is held, what is sent and held is what is sent
pub sent_alone : {T : Type 0} (sent : List T) (held : Option T) → held ≡ None → sent ++ held_list held ≡ sent
sent_alone sent held none = ap (λ h. sent ++ held_list h) none ∙ append-nil sent

-- the same job, and the same list that was given
pub merging_on : {T J : Type 0} (cmp : T → T → Ordering) (suits : J → T → Type 0) (job job' : J) (taken : List (List T)) (held : List (Option T)) (from to : ℕ) (given given' : List T) → job' ≡ job → given ≡ given' → IsMerging cmp (suits job) taken held from to given → IsMerging cmp (suits job') taken held from to given'
merging_on cmp suits job job' taken held from to given given' same_job same merging = subst (λ xs. IsMerging cmp (suits job') taken held from to xs) same (subst (λ j. IsMerging cmp (suits j) taken held from to given) (sym same_job) merging)

-- ends that are seen the same wait at the same places
pub same_places_all : {S V A : Type 0} (seen : S → V) (places : V → List A) (olds news : List S) → map seen news ≡ map seen olds → flat_map (λ end. places (seen end)) news ≡ flat_map (λ end. places (seen end)) olds
same_places_all seen places olds news same = flat_map_twice places seen news ∙ ap (flat_map places) same ∙ sym (flat_map_twice places seen olds)
