-- What an outside that tells nothing of content may answer.
use Rattle.std.specs.Prelude.{◌≡◌, ℕ, Option, Some, None, List, [], ◌∷◌, ◌++◌, length, replicate, Ok}
use Rattle.std.proofs.Common.{refl, sym, ap, subst, ◌∙◌}
use Rattle.std.proofs.lemmas.List.{length-replicate}
use Rattle.morsel_outside.specs.declared.events.Asked.TheVariants.{Open}
use Rattle.morsel_outside.specs.declared.io.FileNo.{FileNo}
use Rattle.morsel_outside.specs.Outside.{Outside, with_last}
use Rattle.morsel_outside.specs.Calls.{Opens}
use Rattle.morsel_outside.proofs.DoesLemmas.{does-opening}
use Rattle.morsel_real_io.specs.RealIo.{with_source}

-- a list that is not told stays untold
untold_last : {A : Type 0} (items : Option (List A)) (item : A) → items ≡ None → items ≡ with_last items item
untold_last None item untold = refl
untold_last (Some items) item untold = cc

-- a file of which only the size is known may hold any bytes of that size
opens-untold : (old : Outside) (name : List ℕ) (file : FileNo) (size : ℕ) (new : Outside) → old.held ≡ None → file.0 ≡ length old.sizes → new ≡ with_source old size name → Opens old name (Ok file) new
opens-untold old name file size new untold number kept =
    let bytes : List ℕ = replicate size 0 in
    let len : size ≡ length bytes = sym (length-replicate {A = ℕ} size 0) in (
      bytes,
      record {
        number = number;
        sized = rw (ap (λ (o : Outside). o.held) kept ∙ untold) tt;
        does = does-opening old new name bytes (kept ∙ ap (λ (n : ℕ). with_source old n name) len
            ∙ ap (λ (held : Option (List (List ℕ))). record old { sizes = old.sizes ++ length bytes ∷ []; held = held; asked = old.asked ++ Open name ∷ [] }) (untold_last old.held bytes untold));
      },
    )

-- a file is opened, is kept, and its descriptor is kept
pub opens-kept : (old opened kept new : Outside) (name : List ℕ) (file : FileNo) (size : ℕ) → opened ≡ old → opened.held ≡ None → file.0 ≡ length opened.sizes → kept ≡ with_source opened size name → new ≡ kept → Opens old name (Ok file) new
opens-kept old opened kept new name file size same untold number is after =
    subst (λ (o : Outside). Opens o name (Ok file) new) same (opens-untold opened name file size new untold number (after ∙ is))
