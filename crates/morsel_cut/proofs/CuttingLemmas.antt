-- What was fed in pieces.
use Rattle.std.proofs.Common.{◌≡◌, ℕ, ◌+◌, ◌∙◌, sym, ap, refl, arith, ◌++◌, length, length-append}
use Rattle.morsel_meaning.specs.declared.fault.Fault.TheVariants as faults
use Rattle.morsel_grammar.specs.Machine.{CutState, cut_step, cut_after, begun_after}
use Rattle.morsel_grammar.proofs.StateLemmas.{state_after-append}
use Rattle.morsel_grammar.proofs.BegunLemmas.{refuses_for_good, carries_begun}
use Rattle.morsel_cut.specs.Cutting.{Cutting, KeepsFaults, FeedsPieces, CutsByBytes}

-- a record that is refused stays so
pub keeps_faults : KeepsFaults
keeps_faults = λ c bytes refused.
    let stays = refuses_for_good c.options c.state bytes refused in (
      (ap (λ (s : CutState). s.matched) stays.0 ∙ refused.0, ap (λ (s : CutState). s.place) stays.0 ∙ refused.1),
      ap (λ (n : ℕ). faults.Malformed c.file n) (stays.2 c.fed c.begun),
    )

pub feeds_pieces : FeedsPieces
feeds_pieces = λ c front back.
    let o = c.options in
    let after : cut_after o (cut_after o c.state front) back ≡ cut_after o c.state (front ++ back) = sym (state_after-append (cut_step o) c.state front back) in
    let size : c.fed + length front + length back ≡ c.fed + length (front ++ back) = omega (arith, length-append front back) in
    let fed = c.fed + length front + length back in
    let last = begun_after o (cut_after o c.state front) (c.fed + length front) (begun_after o c.state c.fed c.begun front) back in
    let made : CutState → ℕ → ℕ → Cutting = λ s n k. record { options = o; file = c.file; state = s; fed = n; begun = k } in
    ap (λ (s : CutState). made s fed last) after
    ∙ ap (λ (n : ℕ). made (cut_after o c.state (front ++ back)) n last) size
    ∙ ap (λ (k : ℕ). made (cut_after o c.state (front ++ back)) (c.fed + length (front ++ back)) k) (sym (carries_begun o c.state c.fed c.begun front back))

pub cuts_by_bytes : CutsByBytes
cuts_by_bytes = λ o s bytes. (refl, refl, refl)
