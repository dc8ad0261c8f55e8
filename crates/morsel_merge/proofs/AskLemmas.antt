-- What stays the same where one lane after the other is asked.
use Rattle.std.proofs.Common.{◌≡◌, ◌⊎◌, ◌<◌, ℕ, zero, suc, All, List, [], ◌∷◌, ◌++◌, Contains, length, set, get_or, map, Option, None, Some, refl, sym, ap, subst, ◌∙◌, inl, inr, arith}
use Rattle.std.specs.List.{flat_map}
use Rattle.std.proofs.lemmas.List.{get_or-map, length-map}
use Rattle.std.proofs.lemmas.List.Elements.{Contains-append_left, Contains-append_right}
use Rattle.morsel_meaning.specs.declared.task.TaskNo.{TaskNo}
use Rattle.morsel_prims.specs.Waiting.{IsHeldOrWoken, KeepsOthersWaiting, WaitPlace}
use Rattle.morsel_prims.specs.Woken.{IsWoken, KeepsWakes, Woken}

-- an item is changed, and not what is seen of it
pub map-set_same : {X Y : Type 0} (f : X → Y) (xs : List X) (i : ℕ) (d y : X) → i < length xs → f y ≡ f (get_or xs i d) → map f (set xs i y) ≡ map f xs
map-set_same f [] i d y within same = absurd (omega (arith, within))
map-set_same f (z ∷ zs) zero d y within same = ap (λ w. w ∷ map f zs) same
map-set_same f (z ∷ zs) (suc i) d y within same = ap (λ ws. f z ∷ ws) (map-set_same f zs i d y (omega (arith, within)) same)

-- the places of one lane are among those of all
pub places_of_one : {X A : Type 0} (f : X → List A) (xs : List X) (i : ℕ) (d : X) → i < length xs → (a : A) → Contains (f (get_or xs i d)) a → Contains (flat_map f xs) a
places_of_one f [] i d within a has = absurd (omega (arith, within))
places_of_one f (z ∷ zs) zero d within a has = Contains-append_left (f z) (flat_map f zs) a has
places_of_one f (z ∷ zs) (suc i) d within a has = Contains-append_right (f z) (flat_map f zs) a (places_of_one f zs i d (omega (arith, within)) a has)

-- who was woken before still is
pub woken_still : (task : Option TaskNo) (w v : Woken) → KeepsWakes w v → IsWoken task w → IsWoken task v
woken_still None w v kept is = tt
woken_still (Some task) w v kept is = λ below. kept.1 task.0 (is (subst (λ n. task.0 < n) kept.0 below))

-- a task that waits, by two calls
pub held_on : (old mid new : Option TaskNo) (w v : Woken) → KeepsWakes w v → IsHeldOrWoken old mid w → IsHeldOrWoken mid new v → IsHeldOrWoken old new v
held_on old mid new w v kept (inl same) next = subst (λ task. IsHeldOrWoken task new v) same next
held_on old mid new w v kept (inr left) (inl same) = inr (same ∙ left.0, woken_still old w v kept left.1)
held_on old mid new w v kept (inr left) (inr next) = inr (next.0, woken_still old w v kept left.1)

-- at one place, one call after the other, where the task of the calls may have begun to wait at its own places
beside : (own other : Type 0) (me old mid new : Option TaskNo) (w v : Woken) → KeepsWakes w v → (other → own) → IsHeldOrWoken old mid w ⊎ (own × IsHeldOrWoken me mid w) → IsHeldOrWoken mid new v ⊎ (other × IsHeldOrWoken me new v) → IsHeldOrWoken old new v ⊎ (own × IsHeldOrWoken me new v)
beside own other me old mid new w v kept within (inl a) (inl b) = inl (held_on old mid new w v kept a b)
beside own other me old mid new w v kept within (inl a) (inr b) = inr (within b.0, b.1)
beside own other me old mid new w v kept within (inr a) (inl b) = inr (a.0, held_on me mid new w v kept a.1 b)
beside own other me old mid new w v kept within (inr a) (inr b) = inr (within b.0, b.1)

-- a call of one of several ends after others
pub wait_next : (own other : List WaitPlace) (me mid_me : TaskNo) (old mid new : WaitPlace → Option TaskNo) (w v : Woken) → mid_me ≡ me → KeepsWakes w v → ((place : WaitPlace) → Contains other place → Contains own place) → KeepsOthersWaiting own me old mid w → KeepsOthersWaiting other mid_me mid new v → KeepsOthersWaiting own me old new v
wait_next own other me mid_me old mid new w v same kept within first second place =
    beside (Contains own place) (Contains other place) (Some me) (old place) (mid place) (new place) w v kept (within place) (first place) (subst (λ task. KeepsOthersWaiting other task mid new v) same second place)

pub flat_map-set_same : {X A : Type 0} (f : X → List A) (xs : List X) (i : ℕ) (d y : X) → i < length xs → f y ≡ f (get_or xs i d) → flat_map f (set xs i y) ≡ flat_map f xs
flat_map-set_same f [] i d y within same = absurd (omega (arith, within))
flat_map-set_same f (z ∷ zs) zero d y within same = ap (λ ws. ws ++ flat_map f zs) same
flat_map-set_same f (z ∷ zs) (suc i) d y within same = ap (λ ws. f z ++ ws) (flat_map-set_same f zs i d y (omega (arith, within)) same)

-- no number is lost by two calls
pub wakes_next : (w v u : Woken) → KeepsWakes w v → KeepsWakes v u → KeepsWakes w u
wakes_next w v u first second = (second.0 ∙ first.0, λ n has. second.1 n (first.1 n has))

-- what was taken from lanes that gave nothing
pub map_empty : {R T : Type 0} (f : R → List T) (xs : List R) → All (λ x. f x ≡ []) xs → (i : ℕ) → get_or (map f xs) i [] ≡ []
map_empty f [] all i = refl
map_empty f (x ∷ xs) all zero = all zero x (omega arith)
map_empty f (x ∷ xs) all (suc i) = map_empty f xs (λ k d within. all (suc k) d (omega (arith, within))) i

pub map_twice : {X Y Z : Type 0} (f : Y → Z) (h : X → Y) (xs : List X) → map (λ x. f (h x)) xs ≡ map f (map h xs)
map_twice f h [] = refl
map_twice f h (x ∷ xs) = ap (λ zs. f (h x) ∷ zs) (map_twice f h xs)

pub flat_map_twice : {X Y A : Type 0} (f : Y → List A) (h : X → Y) (xs : List X) → flat_map (λ x. f (h x)) xs ≡ flat_map f (map h xs)
flat_map_twice f h [] = refl
flat_map_twice f h (x ∷ xs) = ap (λ zs. f (h x) ++ zs) (flat_map_twice f h xs)

pub All-from_map : {X Y : Type 0} (P : Y → Type 0) (f : X → Y) (xs : List X) → All P (map f xs) → All (λ x. P (f x)) xs
All-from_map P f xs all k d within = subst P (get_or-map f xs k d (f d) within) (all k (f d) (subst (λ n. k < n) (sym (length-map xs f)) within))
