-- The place of the record that is under way.
use Rattle.std.proofs.Common.{◌≡◌, ◌≢◌, ℕ, zero, suc, ◌+◌, ap, sym, subst, refl, ◌∙◌, arith}
use Rattle.std.specs.Prelude.{List, length}
use Rattle.morsel_grammar.specs.Dialect.{Dialect}
use Rattle.morsel_grammar.specs.Machine.{CutPlace, CutState, AtOpening, AfterMark, AfterEol, BrokenQuote, joined_place, begins_record, first_state, cut_step, cut_after, last_end, last_begin, begun_after}
use Rattle.morsel_grammar.specs.Cuts.{IsFirstPlace, RefusesForGood, CarriesBegun, CountsBegun, BeginsAtEnds}
use Rattle.morsel_grammar.proofs.StateLemmas.{last_place-append}
use Rattle.morsel_grammar.proofs.RunLemmas.{lone}
use Rattle.morsel_grammar.proofs.FieldsRunLemmas.{broken_run}
use Rattle.morsel_grammar.proofs.WholeCutLemmas.{lone_state}
use Rattle.morsel_grammar.proofs.MarkCutLemmas.{begin_is_end}

joined_again : (begun fed before n later : ℕ) → joined_place begun fed (joined_place before n later) ≡ joined_place (joined_place begun fed before) (fed + n) later
joined_again begun fed before n zero = refl
joined_again begun fed before n (suc later) =
    let e : n + suc later ≡ suc (n + later) = omega arith in
    let d : fed + suc (n + later) ≡ fed + n + suc later = omega arith in
    ap (joined_place begun fed) e ∙ d

pub carries_begun : (o : Dialect) → CarriesBegun o
carries_begun o = λ s fed begun front back.
    ap (joined_place begun fed) (last_place-append (cut_step o) (λ (s : CutState). begins_record s.place) s front back)
    ∙ joined_again begun fed (last_begin o s front) (length front) (last_begin o (cut_after o s front) back)

counted : (fed n : ℕ) → joined_place fed fed n ≡ fed + n
counted fed zero = omega arith
counted fed (suc n) = refl

pub counts_begun : (o : Dialect) → CountsBegun o
counts_begun o = λ s fed bytes. counted fed (last_begin o s bytes)

begins_at : (o : Dialect) (place : CutPlace) (bytes : List ℕ) → IsFirstPlace place → place ≢ AtOpening → last_begin o (first_state o place) bytes ≡ last_end o (first_state o place) bytes
begins_at o AtOpening bytes is other = absurd (other refl)
begins_at o AfterMark bytes is other = begin_is_end o (first_state o AfterMark) bytes tt
begins_at o AfterEol bytes is other = begin_is_end o (first_state o AfterEol) bytes tt
begins_at o place bytes is other = absurd is

pub begins_at_ends : (o : Dialect) → BeginsAtEnds o
begins_at_ends o = λ place bytes is other. begins_at o place bytes is other

pub refuses_for_good : (o : Dialect) → RefusesForGood o
refuses_for_good o = λ s bytes refused.
    let P : CutState → Type 0 = λ x. (cut_after o x bytes ≡ x) × (last_end o x bytes ≡ 0) × ((fed begun : ℕ) → begun_after o x fed begun bytes ≡ begun) in
    let run = broken_run o bytes in
    let none : last_begin o (lone BrokenQuote) bytes ≡ 0 = begin_is_end o (lone BrokenQuote) bytes tt ∙ run.no_end in
    subst P (sym (lone_state s refused)) (run.reaches, run.no_end, λ fed begun. ap (joined_place begun fed) none)
