-- The text that stretches add to a sink.
use Rattle.std.proofs.Common.{◌≡◌, ℕ, ◌+◌, ap, sym, ◌∙◌, arith, length-append}
use Rattle.std.specs.Prelude.{Result, Ok, Err, List, [], ◌∷◌, ◌++◌, length, slice_range}
use Rattle.std.specs.List.{sum_by}
use Rattle.std.proofs.lemmas.List.Sums.{sum_by-append, sum_by-cons}
use Rattle.morsel_meaning.specs.declared.fault.Fault.{Fault}
use Rattle.morsel_meaning.specs.Values.{Row}
use Rattle.morsel_scan.specs.Ahead.{text_size, text_to}
use Rattle.morsel_scan.specs.StretchRows.{collected}
use Rattle.morsel_scan.specs.StretchLaws.{AddsTexts, TextGoesOn}
use Rattle.morsel_scan.proofs.StretchLemmas.{Places, slice-append, followed_by-ok, from_front}

-- the places of a stretch add the text of its rows
text_size-collected : (text_of : List Row → List ℕ) → AddsTexts text_of → (xs : Places) (rows : List Row) → collected xs ≡ Ok rows → sum_by (text_size text_of) xs ≡ length (text_of rows)
text_size-collected text_of adds [] rows e = let none : [] ≡ rows = cc in sym (ap length adds.nothing) ∙ ap (λ (r : List Row). length (text_of r)) none
text_size-collected text_of adds (Err fault ∷ xs) rows e = absurd (cc)
text_size-collected text_of adds (Ok first ∷ xs) rows e =
    let h = followed_by-ok (Ok first) (collected xs) rows e in
    let same : first ≡ h.0 = let z = h.2 in cc in
    sum_by-cons (text_size text_of) (Ok first) xs ∙ ap (λ n. length (text_of first) + n) (text_size-collected text_of adds xs h.1 h.3) ∙ sym (length-append (text_of first) (text_of h.1))
    ∙ ap length (sym (adds.more first h.1) ∙ ap text_of (ap (λ (r : List Row). r ++ h.1) same ∙ sym h.4))

pub text_goes_on : TextGoesOn
text_goes_on = λ axis from to rows adds gives.
    let size : Result (List Row) Fault → ℕ = text_size axis.text_of in
    ap (sum_by size) (sym (from_front axis.gives to) ∙ slice-append axis.gives 0 from to (omega arith) gives.order)
    ∙ sum_by-append size (slice_range axis.gives 0 from) (slice_range axis.gives from to)
    ∙ ap (λ n. n + sum_by size (slice_range axis.gives from to)) (ap (sum_by size) (from_front axis.gives from))
    ∙ ap (λ n. text_to axis from + n) (text_size-collected axis.text_of adds (slice_range axis.gives from to) rows gives.all)
