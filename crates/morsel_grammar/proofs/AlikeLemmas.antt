-- States of the machine that finds cuts that differ in nothing that a text shows.
use Rattle.std.proofs.Common.{◌≡◌, ◌≢◌, ℕ, ap, sym, refl, ◌∙◌, inl, inr, append_assoc}
use Rattle.std.proofs.lemmas.List.{append-nil}
use Rattle.std.specs.Prelude.{Bool, true, false, if◌then◌else◌, Option, Some, None, List, [], ◌∷◌, ◌++◌}
use Rattle.morsel_grammar.specs.Dialect.{Dialect}
use Rattle.morsel_grammar.specs.Machine.{CutPlace, CutState, AfterEol, InComment, place_or_later, is_after_eol, begins_record, matched_step, place_step, is_whole_prefix, first_state, state_at, cut_step, cut_after, last_end, RefusesEnd}
use Rattle.morsel_grammar.specs.Cuts.{EndsAtFirst, FollowsFound}
use Rattle.morsel_grammar.proofs.ByteLemmas.{true_not_false}

-- after this text the two states have the same last end and the same place
pub record AreAlike (o : Dialect) (s t : CutState) (text : List ℕ) : Type 0 where
  pub end : last_end o s text ≡ last_end o t text
  pub place : (cut_after o s text).place ≡ (cut_after o t text).place

pub alike_nothing : (o : Dialect) (s t : CutState) → s.place ≡ t.place → AreAlike o s t []
alike_nothing o s t same = record { end = refl; place = same }

-- both states go on to states that are alike
pub alike_step : (o : Dialect) (s t next other : CutState) (b : ℕ) (bs : List ℕ) → cut_step o s b ≡ next → cut_step o t b ≡ other → next.place ≡ other.place
    → AreAlike o next other bs → AreAlike o s t (b ∷ bs)
alike_step o s t next other b bs s_is t_is same later = record {
  end = ap (λ (x : CutState). place_or_later (is_after_eol x.place) (last_end o x bs)) s_is
      ∙ ap (λ (x : CutPlace). place_or_later (is_after_eol x) (last_end o next bs)) same
      ∙ ap (place_or_later (is_after_eol other.place)) later.end
      ∙ sym (ap (λ (x : CutState). place_or_later (is_after_eol x.place) (last_end o x bs)) t_is);
  place = ap (λ (x : CutState). (cut_after o x bs).place) s_is ∙ later.place ∙ sym (ap (λ (x : CutState). (cut_after o x bs).place) t_is);
}

pub alike_itself : (o : Dialect) (s : CutState) (text : List ℕ) → AreAlike o s s text
alike_itself o s text = record { end = refl; place = refl }

-- both states go on to the same one
pub alike_same : (o : Dialect) (s t : CutState) (b : ℕ) (bs : List ℕ) → cut_step o s b ≡ cut_step o t b → AreAlike o s t (b ∷ bs)
alike_same o s t b bs same = alike_step o s t (cut_step o t b) (cut_step o t b) b bs same refl refl (alike_itself o (cut_step o t b) bs)

-- a place after an eol byte is the state in which a record begins
first_or_other : (o : Dialect) (matched : Option ℕ) (place : CutPlace) (t u : Bool) → begins_record place ≡ t
    → (let s : CutState = if t then first_state o place else (if u then record { matched = None; place = InComment } else record { matched = matched; place = place }) in
    s.place ≡ AfterEol → s ≡ first_state o AfterEol)
first_or_other o matched place true u begins = λ is. ap (first_state o) is
first_or_other o matched place false true begins = λ is. cc
first_or_other o matched place false false begins = λ is. true_not_false (begins_record place) (ap begins_record is) begins

pub state_at-eol : (o : Dialect) (matched : Option ℕ) (place : CutPlace) → (state_at o matched place).place ≡ AfterEol → state_at o matched place ≡ first_state o AfterEol
state_at-eol o matched place = first_or_other o matched place (begins_record place) (is_whole_prefix o.comment matched) refl

pub after_eol : (o : Dialect) (s : CutState) (b : ℕ) (bs : List ℕ) → (cut_after o s (b ∷ bs)).place ≡ AfterEol → cut_after o s (b ∷ bs) ≡ first_state o AfterEol
after_eol o s b [] is = state_at-eol o (matched_step o.comment s.matched b) (place_step o s.place b) is
after_eol o s b (c ∷ bs) is = after_eol o (cut_step o s b) c bs is

some_bytes : (line : List ℕ) (b : ℕ) → line ++ b ∷ [] ≢ []
some_bytes [] b = λ is. cc
some_bytes (c ∷ line) b = λ is. cc

pub after_line : (o : Dialect) (s : CutState) (bytes : List ℕ) → bytes ≢ [] → (cut_after o s bytes).place ≡ AfterEol → cut_after o s bytes ≡ first_state o AfterEol
after_line o s [] some is = absurd (some refl)
after_line o s (b ∷ bs) some is = after_eol o s b bs is

refuses_alike : (s t : CutState) → s.place ≡ t.place → RefusesEnd s → RefusesEnd t
refuses_alike s t same (inl is) = inl (sym same ∙ is)
refuses_alike s t same (inr is) = inr (sym same ∙ is)

-- the states are alike after each front of the text, unless that is nothing
abbrev pub AreAlikeWithin : Dialect → CutState → CutState → List ℕ → Type 0
AreAlikeWithin o s t text = (front back : List ℕ) → text ≡ front ++ back → front ≢ [] → AreAlike o s t front

alike_line : (o : Dialect) (s t : CutState) (line rest text : List ℕ) → AreAlikeWithin o s t text → text ≡ line ++ o.eol ∷ rest → last_end o s line ≡ last_end o t line
alike_line o s t [] rest text alike is = refl
alike_line o s t (b ∷ line) rest text alike is = (alike (b ∷ line) (o.eol ∷ rest) is (λ none. cc)).end

ends_alike : (o : Dialect) (s t : CutState) (text rest : List ℕ) → text ≢ [] → AreAlikeWithin o s t text → EndsAtFirst o t text rest → EndsAtFirst o s text rest
ends_alike o s t text rest some alike (inl (line, is, none, reaches)) =
    let with_eol = alike (line ++ o.eol ∷ []) rest (is ∙ sym (append_assoc line (o.eol ∷ []) rest)) (some_bytes line o.eol) in
    inl (
      line,
      is,
      alike_line o s t line rest text alike is ∙ none,
      after_line o s (line ++ o.eol ∷ []) (some_bytes line o.eol) (with_eol.place ∙ ap (λ (x : CutState). x.place) reaches),
    )
ends_alike o s t text rest some alike (inr (all, none, may_end)) =
    let whole = alike text [] (sym (append-nil text)) some in
    inr (all, whole.end ∙ none, λ refuses. may_end (refuses_alike (cut_after o s text) (cut_after o t text) whole.place refuses))

-- what is found from one state is found from the other
pub follows_alike : {R : Type 0} (o : Dialect) (s t : CutState) (text : List ℕ) (found : Option (R × List ℕ)) → text ≢ [] → AreAlikeWithin o s t text
    → FollowsFound o t text found → FollowsFound o s text found
follows_alike o s t text None some alike follows =
    let whole = alike text [] (sym (append-nil text)) some in
    (whole.end ∙ follows.0, refuses_alike (cut_after o t text) (cut_after o s text) (sym whole.place) follows.1)
follows_alike o s t text (Some found) some alike follows = ends_alike o s t text found.1 some alike follows
