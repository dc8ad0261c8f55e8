-- Runs of the machine that finds cuts: stretches of a text within which no record ends.
use Rattle.std.proofs.Common.{◌≡◌, ℕ, ap, sym, subst, refl, ◌∙◌, inl, inr, append_assoc}
use Rattle.std.specs.Prelude.{Bool, false, Option, Some, None, List, [], ◌∷◌, ◌++◌, length}
use Rattle.morsel_grammar.specs.Dialect.{Dialect}
use Rattle.morsel_grammar.specs.Machine.{CutPlace, CutState, AtOpening, InMarkOne, InMarkTwo, AfterMark, AfterEol, AfterSeparator, InPlain, InQuotes, AfterQuote, AfterReturn, InComment, BrokenQuote, RefusesEnd, place_or_later, joined_place, place_step, is_after_eol, begins_record, matched_step, is_whole_prefix, first_state, state_at, cut_step, cut_after, last_end}
use Rattle.morsel_grammar.specs.Cuts.{EndsAtFirst, FollowsFound}
use Rattle.morsel_grammar.proofs.StateLemmas.{state_after-append, last_place-append}

-- the state at a place of a record that can become no comment
abbrev pub lone : CutPlace → CutState
lone place = record { matched = None; place = place }

-- the machine goes from one state to the other, and no record ends on the way
pub record IsRun (o : Dialect) (s : CutState) (line : List ℕ) (t : CutState) : Type 0 where
  pub reaches : cut_after o s line ≡ t
  pub no_end : last_end o s line ≡ 0

pub last_end-append : (o : Dialect) (s : CutState) (front back : List ℕ)
    → last_end o s (front ++ back) ≡ joined_place (last_end o s front) (length front) (last_end o (cut_after o s front) back)
last_end-append o s front back = last_place-append (cut_step o) (λ (s : CutState). is_after_eol s.place) s front back

pub cut_after-append : (o : Dialect) (s : CutState) (front back : List ℕ) → cut_after o s (front ++ back) ≡ cut_after o (cut_after o s front) back
cut_after-append o s front back = state_after-append (cut_step o) s front back

pub no_end-append : (o : Dialect) (s t : CutState) (front back : List ℕ) → IsRun o s front t → last_end o t back ≡ 0 → last_end o s (front ++ back) ≡ 0
no_end-append o s t front back run none =
    let later : last_end o (cut_after o s front) back ≡ 0 = ap (λ (x : CutState). last_end o x back) run.reaches ∙ none in
    last_end-append o s front back ∙ ap (joined_place (last_end o s front) (length front)) later ∙ run.no_end

pub after_run : (o : Dialect) (s t : CutState) (front back : List ℕ) → IsRun o s front t → cut_after o s (front ++ back) ≡ cut_after o t back
after_run o s t front back run = cut_after-append o s front back ∙ ap (λ (x : CutState). cut_after o x back) run.reaches

pub run_nothing : (o : Dialect) (s : CutState) → IsRun o s [] s
run_nothing o s = record { reaches = refl; no_end = refl }

pub run_byte : (o : Dialect) (s t : CutState) (b : ℕ) → cut_step o s b ≡ t → is_after_eol t.place ≡ false → IsRun o s (b ∷ []) t
run_byte o s t b is goes = record {
  reaches = is;
  no_end = ap (λ (x : CutState). place_or_later (is_after_eol x.place) 0) is ∙ ap (λ (here : Bool). place_or_later here 0) goes;
}

pub run_append : (o : Dialect) (s t u : CutState) (front back : List ℕ) → IsRun o s front t → IsRun o t back u → IsRun o s (front ++ back) u
run_append o s t u front back first second = record {
  reaches = after_run o s t front back first ∙ second.reaches;
  no_end = no_end-append o s t front back first second.no_end;
}

-- what is found after a run is found after its beginning
pub ends_behind : (o : Dialect) (s t : CutState) (front text rest : List ℕ) → IsRun o s front t → EndsAtFirst o t text rest → EndsAtFirst o s (front ++ text) rest
ends_behind o s t front text rest run (inl (line, is, none, reaches)) = inl (
  front ++ line,
  ap (λ (x : List ℕ). front ++ x) is ∙ sym (append_assoc front line (o.eol ∷ rest)),
  no_end-append o s t front line run none,
  ap (cut_after o s) (append_assoc front line (o.eol ∷ [])) ∙ after_run o s t front (line ++ o.eol ∷ []) run ∙ reaches,
)
ends_behind o s t front text rest run (inr (all, none, may_end)) =
    let P : CutState → Type 0 = λ x. RefusesEnd x → ⊥ in
    inr (all, no_end-append o s t front text run none, subst P (sym (after_run o s t front text run)) may_end)

pub follows_behind : {R : Type 0} (o : Dialect) (s t : CutState) (front text : List ℕ) (found : Option (R × List ℕ)) → IsRun o s front t
    → FollowsFound o t text found → FollowsFound o s (front ++ text) found
follows_behind o s t front text None run follows =
    let P : CutState → Type 0 = λ x. RefusesEnd x in
    (no_end-append o s t front text run follows.0, subst P (sym (after_run o s t front text run)) follows.1)
follows_behind o s t front text (Some found) run follows = ends_behind o s t front text found.1 run follows

-- one step of a record that can become no comment
matched_step-lost : (prefix : Option (List ℕ)) (b : ℕ) → matched_step prefix None b ≡ None
matched_step-lost None b = refl
matched_step-lost (Some prefix) b = refl

is_whole_prefix-lost : (prefix : Option (List ℕ)) → is_whole_prefix prefix None ≡ false
is_whole_prefix-lost None = refl
is_whole_prefix-lost (Some prefix) = refl

pub state_at-lost : (o : Dialect) (place : CutPlace) → begins_record place ≡ false → state_at o None place ≡ lone place
state_at-lost o place goes = rw (goes, is_whole_prefix-lost o.comment) refl

pub step_lost : (o : Dialect) (place : CutPlace) (b : ℕ) → cut_step o (lone place) b ≡ state_at o None (place_step o place b)
step_lost o place b = ap (λ (m : Option ℕ). state_at o m (place_step o place b)) (matched_step-lost o.comment b)

pub step_on : (o : Dialect) (place next : CutPlace) (b : ℕ) → place_step o place b ≡ next → begins_record next ≡ false → cut_step o (lone place) b ≡ lone next
step_on o place next b is goes = step_lost o place b ∙ ap (state_at o None) is ∙ state_at-lost o next goes

pub step_ends : (o : Dialect) (s : CutState) (b : ℕ) → place_step o s.place b ≡ AfterEol → cut_step o s b ≡ first_state o AfterEol
step_ends o s b is = ap (state_at o (matched_step o.comment s.matched b)) is

pub not_after : (place : CutPlace) → begins_record place ≡ false → is_after_eol place ≡ false
not_after AfterEol goes = goes
not_after AtOpening goes = refl
not_after InMarkOne goes = refl
not_after InMarkTwo goes = refl
not_after AfterMark goes = refl
not_after AfterSeparator goes = refl
not_after InPlain goes = refl
not_after InQuotes goes = refl
not_after AfterQuote goes = refl
not_after AfterReturn goes = refl
not_after InComment goes = refl
not_after BrokenQuote goes = refl

-- a run of one byte
pub run_on : (o : Dialect) (place next : CutPlace) (b : ℕ) → place_step o place b ≡ next → begins_record next ≡ false → IsRun o (lone place) (b ∷ []) (lone next)
run_on o place next b is goes = run_byte o (lone place) (lone next) b (step_on o place next b is goes) (not_after next goes)

-- the eol byte that ends a record
pub ends_here : (o : Dialect) (s : CutState) (rest : List ℕ) → place_step o s.place o.eol ≡ AfterEol → EndsAtFirst o s (o.eol ∷ rest) rest
ends_here o s rest is = inl ([], refl, refl, step_ends o s o.eol is)

-- the end of the text
pub ends_with_text : (o : Dialect) (s : CutState) → (RefusesEnd s → ⊥) → EndsAtFirst o s [] []
ends_with_text o s may_end = inr (refl, refl, may_end)
