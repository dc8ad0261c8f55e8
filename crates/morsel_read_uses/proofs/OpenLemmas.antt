-- Files that are open, and a reader that begins with them.
use Rattle.std.proofs.Common.{◌≡◌, ◌+◌, ◌<◌, refl, ap, subst, ◌∙◌, arith}
use Rattle.std.specs.Prelude.{ℕ, List, [], ◌∷◌, ◌++◌, Ok, length}
use Rattle.std.specs.List.{All}
use Rattle.std.proofs.lemmas.List.{length-append}
use Rattle.std.proofs.lemmas.List.Elements.{All-push, All-weaker, All-get_or}
use Rattle.std.proofs.lemmas.Option.{slice_get_within, get_or_from_slice_get}
use Rattle.morsel_outside.specs.declared.io.FileNo.{FileNo}
use Rattle.morsel_outside.specs.Outside.{Outside}
use Rattle.morsel_outside.specs.Calls.{Opens}
use Rattle.morsel_read.specs.ScanReads.{FilesAsked, AreNumbered, SuitsPieces, pieces_at_start}

-- files that are open stay so where another is opened, and that one is open too
pub open_with_next : (before after : Outside) (name : List ℕ) (next : FileNo) (files : List FileNo) → Opens before name (Ok next) after
    → All (λ (file : FileNo). file.0 < length before.sizes) files → All (λ (file : FileNo). file.0 < length after.sizes) (files ++ next ∷ [])
open_with_next before after name next files (bytes, is) opened =
    let more : length after.sizes ≡ length before.sizes + 1 = ap length is.does.sizes ∙ length-append before.sizes (length bytes ∷ []) in
    let number = is.number
    in All-push (λ (file : FileNo). file.0 < length after.sizes) files next
    (All-weaker (λ (file : FileNo). file.0 < length before.sizes) (λ (file : FileNo). file.0 < length after.sizes) (λ file within. omega (arith, more, within)) files opened)
    (omega (arith, more, number))

-- a reader begins with files that are open
pub suits_at_start : (o : Outside) (sources : FilesAsked) → AreNumbered sources → All (λ (file : FileNo). file.0 < length o.sizes) sources.files
    → SuitsPieces o (pieces_at_start sources)
suits_at_start o sources numbered below = record {
  opened = λ _. record {
    numbered = numbered;
    within = omega arith;
    opened = λ source file is. subst (λ (f : FileNo). f.0 < length o.sizes) (get_or_from_slice_get sources.files source file file is)
        (All-get_or (λ (f : FileNo). f.0 < length o.sizes) sources.files source file (slice_get_within sources.files source file is) below);
    current = tt;
    earlier = refl;
    fits = omega arith;
    order = omega arith;
    few = omega arith;
    pieces = omega arith;
  };
  listed = λ fault is. absurd (cc);
}
