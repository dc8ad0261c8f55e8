-- What bytes do with and without a comment prefix.
use Rattle.std.proofs.Common.{◌≡◌, ℕ, ◌+◌, ◌<◌, ◌≤◌, ◌∙◌, sym, ap, refl, arith, subst, Bool, true, false, List, [], ◌∷◌, ◌++◌, length, take, get_or}
use Rattle.std.proofs.lemmas.List.{length-take-le, take_more}
use Rattle.std.specs.Prelude.{Option, None, if◌then◌else◌}
use Rattle.morsel_grammar.specs.Dialect.{Dialect}
use Rattle.morsel_grammar.specs.Machine.{CutPlace, CutState, InComment, no_byte_matched, is_whole_prefix, first_state, state_after, last_place, place_or_later, joined_place, place_step, cut_step, cut_after, is_after_eol, begins_record}
use Rattle.morsel_cut.specs.Places.{cut_place, cut_state, options_with, delimiter_options}
use Rattle.morsel_cut.specs.Runs.{RunsTo, Passes}
use Rattle.morsel_cut.specs.declared.step.Delimiters.{Delimiters}
use Rattle.morsel_cut.specs.declared.pass.PlaceRun.{PlaceRun}
use Rattle.morsel_cut.specs.declared.prefix.MachineState.{MachineState}
use Rattle.morsel_cut.specs.declared.prefix.StateRun.{StateRun}
use Rattle.morsel_grammar.proofs.RunLemmas.{lone, step_lost}
use Rattle.morsel_grammar.proofs.StateLemmas.{state_after-append, last_place-append, last_place-within}

-- the last place of a text with one byte more
one_more : (step : CutState → ℕ → CutState) (test : CutState → Bool) (s : CutState) (front : List ℕ) (b : ℕ) (before len last : ℕ) (s' : CutState)
    → before ≡ last_place step test s front → len ≡ length front + 1 → s' ≡ step (state_after step s front) b
    → last ≡ (if test s' then len else before) → last ≡ last_place step test s (front ++ b ∷ [])
one_more step test s front b before len last s' before_is len_is s'_is last_is =
    last_is
    ∙ by (test s')
    ∙ ap (λ (x : CutState). joined_place (last_place step test s front) (length front) (place_or_later (test x) 0)) s'_is
    ∙ sym (last_place-append step test s front (b ∷ []))
  where
    by : (t : Bool) → (if t then len else before) ≡ joined_place (last_place step test s front) (length front) (place_or_later t 0)
    by true = len_is
    by false = before_is

pub passes_on : (o : Dialect) (s : CutState) (text : List ℕ) (at : ℕ) (passed : StateRun) (state : MachineState) (next : StateRun) → at < length text → Passes o s (take at text) passed
    → cut_state state ≡ cut_step o (cut_state passed.state) (get_or text at 0) → next.state ≡ state
    → next.end ≡ (if is_after_eol (cut_place state.place) then at + 1 else passed.end)
    → next.begin ≡ (if begins_record (cut_place state.place) then at + 1 else passed.begin)
    → Passes o s (take (at + 1) text) next
passes_on o s text at passed state next within first state_is same end_is begin_is =
    let front = take at text in
    let b = get_or text at 0 in
    let size : at + 1 ≡ length front + 1 = ap (λ (n : ℕ). n + 1) (sym (length-take-le at text (omega arith))) in
    let stepped : cut_state state ≡ cut_step o (cut_after o s front) b = state_is ∙ ap (λ (x : CutState). cut_step o x b) first.state_is in
    subst (λ (bytes : List ℕ). Passes o s bytes next) (sym (take_more text at 0 within)) (record {
      state_is = ap cut_state same ∙ stepped ∙ sym (state_after-append (cut_step o) s front (b ∷ []));
      end_is = one_more (cut_step o) (λ (x : CutState). is_after_eol x.place) s front b passed.end (at + 1) next.end (cut_state state) first.end_is size stepped end_is;
      begin_is = one_more (cut_step o) (λ (x : CutState). begins_record x.place) s front b passed.begin (at + 1) next.begin (cut_state state) first.begin_is size stepped begin_is;
    })

pub passed_end-le : (o : Dialect) (s : CutState) (bytes : List ℕ) (passed : StateRun) → Passes o s bytes passed → passed.end ≤ length bytes
passed_end-le o s bytes passed passes = omega (arith, passes.end_is, last_place-within (cut_step o) (λ (x : CutState). is_after_eol x.place) s bytes)

pub passed_begin-le : (o : Dialect) (s : CutState) (bytes : List ℕ) (passed : StateRun) → Passes o s bytes passed → passed.begin ≤ length bytes
passed_begin-le o s bytes passed passes = omega (arith, passes.begin_is, last_place-within (cut_step o) (λ (x : CutState). begins_record x.place) s bytes)

-- without comments a state is its place
pub quiet_start : (o : Dialect) (place : CutPlace) → o.comment ≡ None → first_state o place ≡ lone place
quiet_start o place none = ap (λ (c : Option (List ℕ)). let s : CutState = record { matched = no_byte_matched c; place = place } in s) none

same_either : (t : Bool) (s : CutState) → (if t then s else s) ≡ s
same_either true s = refl
same_either false s = refl

pub quiet_step : (o : Dialect) (place : CutPlace) (b : ℕ) → o.comment ≡ None → cut_step o (lone place) b ≡ lone (place_step o place b)
quiet_step o place b none =
    let next = place_step o place b in
    step_lost o place b
    ∙ ap (λ (c : Option (List ℕ)). let begun : CutState = record { matched = no_byte_matched c; place = next } in
    if begins_record next then begun else (if is_whole_prefix c None then lone InComment else lone next)) none
    ∙ same_either (begins_record next) (lone next)

pub quiet_after : (o : Dialect) (place : CutPlace) (bytes : List ℕ) → o.comment ≡ None → state_after (cut_step o) (lone place) bytes ≡ lone (state_after (place_step o) place bytes)
quiet_after o place [] none = refl
quiet_after o place (b ∷ bs) none = ap (λ (s : CutState). state_after (cut_step o) s bs) (quiet_step o place b none) ∙ quiet_after o (place_step o place b) bs none

pub quiet_last : (o : Dialect) (test : CutPlace → Bool) (place : CutPlace) (bytes : List ℕ) → o.comment ≡ None
    → last_place (cut_step o) (λ (s : CutState). test s.place) (lone place) bytes ≡ last_place (place_step o) test place bytes
quiet_last o test place [] none = refl
quiet_last o test place (b ∷ bs) none =
    let next = place_step o place b in
    ap (λ (s : CutState). place_or_later (test s.place) (last_place (cut_step o) (λ (x : CutState). test x.place) s bs)) (quiet_step o place b none)
    ∙ ap (place_or_later (test next)) (quiet_last o test next bs none)

-- so a run says all
pub passes_bare : (delimiters : Delimiters) (from : MachineState) (bytes : List ℕ) (run : PlaceRun) → from.matched ≡ None
    → RunsTo (delimiter_options delimiters) (cut_place from.place) bytes run
    → Passes (options_with delimiters None) (cut_state from) bytes (record { state = record { matched = None; place = run.place }; end = run.end; begin = run.begin })
passes_bare delimiters from bytes run none runs =
    let start : cut_state from ≡ lone (cut_place from.place) = ap (λ (m : Option ℕ). let s : CutState = record { matched = m; place = cut_place from.place } in s) none in
    let P : CutState → Type 0 = λ s. Passes (options_with delimiters None) s bytes (record { state = record { matched = None; place = run.place }; end = run.end; begin = run.begin }) in
    subst P (sym start) (record {
      state_is = ap lone runs.place_is ∙ sym (quiet_after (options_with delimiters None) (cut_place from.place) bytes refl);
      end_is = runs.end_is ∙ sym (quiet_last (options_with delimiters None) is_after_eol (cut_place from.place) bytes refl);
      begin_is = runs.begin_is ∙ sym (quiet_last (options_with delimiters None) begins_record (cut_place from.place) bytes refl);
    })
