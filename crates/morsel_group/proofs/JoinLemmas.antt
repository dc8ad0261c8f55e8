-- Parts to which those of others are put, one after the other.
use Rattle.std.proofs.Common.{◌≡◌, ◌<◌, ◌++◌, [], ◌∷◌, List, ℕ, suc, ◌+◌, length, take, drop, slice_get, get_or, set, Some, refl, arith, ap, ◌∙◌, sym, inl, inr}
use Rattle.std.specs.Prelude.{◌⊎◌}
use Rattle.std.proofs.lemmas.Option.{slice_get_within, get_or_from_slice_get}
use Rattle.morsel_meaning.specs.declared.fault.Fault.{Fault}
use Rattle.morsel_meaning.specs.declared.fault.Fault.TheVariants.{OutOfMemory}
use Rattle.morsel_group.specs.declared.part.AggStates.{AggStates}
use Rattle.morsel_group.specs.Parts.{joined_part, joined_parts, RefusesGroup, RefusesSome}

-- an item that follows others in a list is at the place of their number
pub slice_next : {X : Type 0} (before rest whole : List X) (x : X) → before ++ x ∷ rest ≡ whole → slice_get whole (length before) ≡ Some x
slice_next {X = X} before rest whole x all = sym (ap (λ xs. slice_get xs (length before)) all) ∙ here before
  where
    here : (xs : List X) → slice_get (xs ++ x ∷ rest) (length xs) ≡ Some x
    here [] = refl
    here (y ∷ xs) = here xs

joined_at : (count : ℕ) (numbers : List ℕ) (parts before : List AggStates) (d : AggStates) → length before < length parts → get_or (joined_parts count numbers (take (length before) parts) before ++ drop (length before) parts) (length before) d ≡ get_or parts (length before) d
joined_at count numbers [] before d within = absurd (omega (arith, within))
joined_at count numbers (part ∷ parts) [] d within = refl
joined_at count numbers (part ∷ parts) (other ∷ before) d within = joined_at count numbers parts before d (omega (arith, within))

joined_more : (count : ℕ) (numbers : List ℕ) (parts before : List AggStates) (other new d : AggStates) → length before < length parts → new ≡ joined_part count numbers other (get_or parts (length before) d)
    → set (joined_parts count numbers (take (length before) parts) before ++ drop (length before) parts) (length before) new ≡ joined_parts count numbers (take (suc (length before)) parts) (before ++ other ∷ []) ++ drop (suc (length before)) parts
joined_more count numbers [] before other new d within made = absurd (omega (arith, within))
joined_more count numbers (part ∷ parts) [] other new d within made = ap (λ p. p ∷ parts) made
joined_more count numbers (part ∷ parts) (b ∷ before) other new d within made = ap (λ ps. joined_part count numbers b part ∷ ps) (joined_more count numbers parts before other new d (omega (arith, within)) made)

-- the part at the next place is as it was
pub merge_at : (count : ℕ) (numbers : List ℕ) (parts now before : List AggStates) (d : AggStates) (at : ℕ) → at < length parts → at ≡ length before → now ≡ joined_parts count numbers (take at parts) before ++ drop at parts → get_or now at d ≡ get_or parts at d
merge_at count numbers parts now before d at within is done =
    ap (λ ps. get_or ps at d) done
    ∙ ap (λ n. get_or (joined_parts count numbers (take n parts) before ++ drop n parts) n d) is
    ∙ joined_at count numbers parts before d (omega (arith, is, within))
    ∙ sym (ap (λ n. get_or parts n d) is)

-- one part more
pub merge_step : (count : ℕ) (numbers : List ℕ) (parts now before : List AggStates) (other new d : AggStates) (at : ℕ) → at < length parts → at ≡ length before → now ≡ joined_parts count numbers (take at parts) before ++ drop at parts
    → new ≡ joined_part count numbers other (get_or now at d) → set now at new ≡ joined_parts count numbers (take (at + 1) parts) (before ++ other ∷ []) ++ drop (at + 1) parts
merge_step count numbers parts now before other new d at within is done made =
    let next : suc (length before) ≡ at + 1 = omega (arith, is) in
    ap (λ ps. set ps at new) done
    ∙ ap (λ n. set (joined_parts count numbers (take n parts) before ++ drop n parts) n new) is
    ∙ joined_more count numbers parts before other new d (omega (arith, is, within)) (made ∙ ap (joined_part count numbers other) (merge_at count numbers parts now before d at within is done ∙ ap (λ n. get_or parts n d) is))
    ∙ ap (λ n. joined_parts count numbers (take n parts) (before ++ other ∷ []) ++ drop n parts) next

-- a refusal of one of them
pub refuses_some : (before rest parts : List AggStates) (part : AggStates) (fault : Fault) → before ++ part ∷ rest ≡ parts → (fault ≡ OutOfMemory) ⊎ RefusesGroup part fault → (fault ≡ OutOfMemory) ⊎ RefusesSome parts fault
refuses_some before rest parts part fault all (inl memory) = inl memory
refuses_some before rest parts part fault all (inr refused) = inr (length before, part, slice_next before rest parts part all, refused)

-- an item that follows others is within, and is what is read there
pub next_within : {X : Type 0} (before rest whole : List X) (x : X) → before ++ x ∷ rest ≡ whole → length before < length whole
next_within before rest whole x all = slice_get_within whole (length before) x (slice_next before rest whole x all)

pub next_read : {X : Type 0} (before rest whole : List X) (x d : X) (at : ℕ) → before ++ x ∷ rest ≡ whole → at ≡ length before → get_or whole at d ≡ x
next_read before rest whole x d at all is = ap (λ n. get_or whole n d) is ∙ get_or_from_slice_get whole (length before) x d (slice_next before rest whole x all)
