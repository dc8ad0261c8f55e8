-- Texts that are compared.
use Rattle.std.proofs.Common.{◌≡◌, ◌<◌, [], List, ℕ, length, slice_get, get_or, Some, true, false, ap, ◌∙◌, sym}
use Rattle.std.specs.Str.{bytes_eq}
use Rattle.std.proofs.lemmas.Option.{slice_get-get_or, get_or_from_slice_get}
use Rattle.std.proofs.lemmas.Slice.Eq.{bytes_eq-Decides}
use Rattle.std.proofs.lemmas.Bool.{false≢true}

-- a text at a place that is found equal is there
pub text_is : (texts : List (List ℕ)) (k : ℕ) (x text : List ℕ) → k < length texts → x ≡ get_or texts k [] → bytes_eq x text ≡ true → slice_get texts k ≡ Some text
text_is texts k x text l e q = slice_get-get_or texts k [] l ∙ ap Some (sym e ∙ (bytes_eq-Decides x text).0 q)

-- one that is found different is another
pub text_is_not : (texts : List (List ℕ)) (k : ℕ) (x text : List ℕ) → x ≡ get_or texts k [] → bytes_eq x text ≡ false → slice_get texts k ≡ Some text → ⊥
text_is_not texts k x text e q s = false≢true (sym q ∙ (bytes_eq-Decides x text).1 (e ∙ get_or_from_slice_get texts k text [] s))
