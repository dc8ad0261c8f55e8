-- Keys of a list, one after the other.
use Rattle.std.proofs.Common.{◌≡◌, ℕ, ◌+◌, ◌<◌, Bool, ◌||◌, List, Bor, ap, ◌∙◌, map, length, drop, get_or}
use Rattle.std.specs.Str.{bytes_eq}
use Rattle.std.proofs.lemmas.List.{at_drop_more}
use Rattle.morsel_frame.specs.Names.{stands_in}

-- the texts that are lent
abbrev pub texts_of : List (Bor (List ℕ)) → List (List ℕ)
texts_of keys = map (λ (key : Bor (List ℕ)). key.now) keys

-- a text is the key at a place, or one of those that follow
pub among-step : (text : List ℕ) (keys : List (Bor (List ℕ))) (i : ℕ) (d : Bor (List ℕ)) (found : Bool) → i < length keys → bytes_eq (get_or keys i d).now text ≡ found
    → stands_in text (texts_of (drop i keys)) ≡ (found || stands_in text (texts_of (drop (i + 1) keys)))
among-step text keys i d found within is =
    at_drop_more (λ (ks : List (Bor (List ℕ))). stands_in text (texts_of ks)) keys i d within
    ∙ ap (λ (b : Bool). b || stands_in text (texts_of (drop (i + 1) keys))) is
