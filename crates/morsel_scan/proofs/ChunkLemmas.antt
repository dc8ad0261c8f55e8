-- A chunk more in a buffer, and what was done to the outside for it.
use Rattle.std.proofs.Common.{◌≡◌, ℕ, ◌+◌, ap, sym, subst, ◌∙◌, arith, List, [], ◌∷◌, ◌++◌, length, take, drop}
use Rattle.std.proofs.lemmas.List.{take_at, take-append-drop, length-drop}
use Rattle.std.specs.Prelude.{Result, Ok, Err}
use Rattle.morsel_outside.specs.declared.io.IoErr.{IoErr}
use Rattle.morsel_outside.specs.declared.io.IoErr.TheVariants.{OutOfMemory, Failed}
use Rattle.morsel_outside.specs.Outside.{Outside}
use Rattle.morsel_outside.specs.Actions.{ReadingRange, FailedReadingRange, Does}
use Rattle.morsel_outside.specs.Calls.{Reads}
use Rattle.morsel_scan.specs.Chunks.{ReadsMore}

-- the bytes of a buffer that was written are its bytes
pub written_back : (n : ℕ) (bytes rest : List ℕ) → length bytes ≡ n → take n (bytes ++ rest) ≡ bytes
written_back n bytes rest size = take_at bytes rest n size

read_after : (before after : Outside) (file at len b : ℕ) (old held : List ℕ) (result : Result (Unit {0}) IoErr) → take b held ≡ old → length (drop b held) ≡ len
    → Reads before file at (drop b held) result after → ReadsMore before file at len old result after held
read_after before after file at len b old held (Ok done) front size reads = (
  drop b held,
  size,
  sym (take-append-drop b held) ∙ ap (λ (x : List ℕ). x ++ drop b held) front,
  reads.0,
  subst (λ (n : ℕ). Does before (ReadingRange file at n ∷ []) after) size reads.1,
)
read_after before after file at len b old held (Err OutOfMemory) front size reads = reads
read_after before after file at len b old held (Err Failed) front size reads =
    subst (λ (n : ℕ). Does before (FailedReadingRange file at n ∷ []) after) size reads

-- a buffer that was grown and then read into, but for its first bytes
pub reads_more : (before after : Outside) (file at len b : ℕ) (old grown given new held : List ℕ) (result : Result (Unit {0}) IoErr)
    → b ≡ length old → take (length old) grown ≡ old → length grown ≡ length old + len → given ≡ grown → length new ≡ length given → held ≡ new
    → take b new ≡ take b given → Reads before file at (drop b new) result after → ReadsMore before file at len old result after held
reads_more before after file at len b old grown given new held result begins front size given_is kept held_is same reads =
    subst (ReadsMore before file at len old result after) (sym held_is)
    (read_after before after file at len b old new result
    (same ∙ ap (take b) given_is ∙ ap (λ (n : ℕ). take n grown) begins ∙ front)
    (let both : length given ≡ length grown = ap length given_is in omega (arith, length-drop b new))
    reads)
