-- Where a text is cut before a row.
use Rattle.std.proofs.Common.{◌≡◌, ℕ, ◌+◌, ◌-◌, ◌≤◌, ap, sym, subst, refl, ◌∙◌, inl, inr, arith, take, length-append}
use Rattle.std.specs.Prelude.{Some, None, List, length}
use Rattle.std.proofs.Math.Seq.{take-append_seam}
use Rattle.morsel_meaning.specs.Values.{kinds_of}
use Rattle.morsel_grammar.specs.Dialect.{IsDialect}
use Rattle.morsel_grammar.specs.Grammar.{CsvRecord}
use Rattle.morsel_grammar.specs.Reading.{row_place}
use Rattle.morsel_grammar.specs.GrammarRows.{AreWholeRecords}
use Rattle.morsel_scan.specs.Scans.{CsvScan}
use Rattle.morsel_scan.specs.Decoding.{text_reading, IsCut}
use Rattle.morsel_scan.proofs.CutLemmas.{cut_at, row_past}

-- what the text is cut to, before a row
abbrev IsFront : CsvScan → ℕ → ℕ → List ℕ → Type 0
IsFront s at row front = (records : List CsvRecord) × AreWholeRecords s.options front records × ((text_reading s at front).refusal ≡ None) × (length (text_reading s at front).rows ≡ row)

pub cut_found : (s : CsvScan) (at : ℕ) (text : List ℕ) (row place : ℕ) → IsDialect s.options → row_place (text_reading s at text).rows row ≡ Some place
    → (at ≤ place) × IsCut s at text row (place - at)
cut_found s at text row place fit is =
    let found = cut_at s.options (kinds_of s.scan.fields) at text row place fit is in
    let front : List ℕ = found.0 in
    let place_is : place ≡ at + length front = found.3 in
    let size : place - at ≡ length front = omega arith in
    let whole : length text ≡ length front + length found.1 = ap length found.2 ∙ length-append front found.1 in
    let taken : take (place - at) text ≡ front = ap (λ n. take n text) size ∙ ap (take (length front)) found.2 ∙ take-append_seam front found.1 in
    let of_front : IsFront s at row front = (found.4.records, found.4.whole, found.4.sound, found.4.count) in
    (omega arith, record { within = omega arith; found = inl (subst (λ t. IsFront s at row t) (sym taken) of_front) })

pub cut_none : (s : CsvScan) (at : ℕ) (text : List ℕ) (row : ℕ) → row_place (text_reading s at text).rows row ≡ None → IsCut s at text row (length text)
cut_none s at text row is = record { within = omega arith; found = inr (refl, row_past (text_reading s at text).rows row is) }
