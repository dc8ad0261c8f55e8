-- The machine that finds cuts goes over the fields that are read at the front of a text.
use Rattle.std.proofs.Common.{◌≡◌, ℕ, zero, suc, ◌+◌, ◌<◌, ap, sym, subst, refl, ◌∙◌, inl, inr, arith, length-append}
use Rattle.std.specs.Prelude.{Bool, true, false, ◌&&◌, ◌||◌, ◌==◌, if◌then◌else◌, Option, Some, None, List, [], ◌∷◌, length}
use Rattle.morsel_grammar.specs.Dialect.{Dialect, IsDialect}
use Rattle.morsel_grammar.specs.Grammar.{CsvField}
use Rattle.morsel_grammar.specs.Split.{field_at, ended, returned, with_field, fields_then, fields_up_to}
use Rattle.morsel_grammar.specs.Machine.{CutPlace, AfterEol, AfterSeparator, InPlain, InQuotes, AfterQuote, AfterReturn, BrokenQuote, CutState, place_step, RefusesEnd}
use Rattle.morsel_grammar.specs.Cuts.{EndsAtFirst, FollowsFound}
use Rattle.morsel_grammar.proofs.ByteLemmas.{true_not_false, same_byte, neither}
use Rattle.morsel_grammar.proofs.RecordEndLemmas.{is_quote-stop}
use Rattle.morsel_grammar.proofs.RunLemmas.{lone, IsRun, run_nothing, run_append, run_on, ends_here, ends_with_text, follows_behind}
use Rattle.morsel_grammar.proofs.FieldRunLemmas.{Follows, RunsField, field_at-run}

-- what is found after a field
abbrev pub Later : Type 0
Later = List ℕ → Option (List CsvField × List ℕ)

-- a byte after a field
at_separator : (o : Dialect) (place : CutPlace) (b : ℕ) (rest : List ℕ) → IsDialect o → Follows o place (b ∷ rest) → (b == o.separator) ≡ true
    → place_step o place b ≡ AfterSeparator
at_separator o AfterSeparator b rest fit follows is = rw (is_quote-stop o b fit follows, is) refl
at_separator o InPlain b rest fit follows is = rw is refl
at_separator o AfterQuote b rest fit follows is = rw (follows, is) refl
at_separator o place b rest fit follows is = absurd follows

at_eol : (o : Dialect) (place : CutPlace) (b : ℕ) (rest : List ℕ) → IsDialect o → Follows o place (b ∷ rest) → (b == o.separator) ≡ false → (b == o.eol) ≡ true
    → place_step o place b ≡ AfterEol
at_eol o AfterSeparator b rest fit follows other is = rw (is_quote-stop o b fit follows, other, is) refl
at_eol o InPlain b rest fit follows other is = rw (other, is) refl
at_eol o AfterQuote b rest fit follows other is = rw (follows, other, is) refl
at_eol o place b rest fit follows other is = absurd follows

at_closed : (o : Dialect) (place : CutPlace) (b : ℕ) (rest : List ℕ) (t : Bool) → Follows o place (b ∷ rest) → (b == o.separator) ≡ false → (b == o.eol) ≡ false
    → (b == 13 && o.eol == 10) ≡ t → place_step o place b ≡ (if t then AfterReturn else BrokenQuote)
at_closed o AfterSeparator b rest t follows no_separator no_eol is =
    true_not_false (b == o.separator || b == o.eol) follows (neither (b == o.separator) (b == o.eol) no_separator no_eol)
at_closed o InPlain b rest t follows no_separator no_eol is =
    true_not_false (b == o.separator || b == o.eol) follows (neither (b == o.separator) (b == o.eol) no_separator no_eol)
at_closed o AfterQuote b rest t follows no_separator no_eol is = rw (follows, no_separator, no_eol, is) refl
at_closed o place b rest t follows no_separator no_eol is = absurd follows

may_end : (o : Dialect) (place : CutPlace) (after : List ℕ) → Follows o place after → RefusesEnd (lone place) → ⊥
may_end o AfterSeparator after follows (inl is) = cc
may_end o AfterSeparator after follows (inr is) = cc
may_end o InPlain after follows (inl is) = cc
may_end o InPlain after follows (inr is) = cc
may_end o AfterQuote after follows (inl is) = cc
may_end o AfterQuote after follows (inr is) = cc
may_end o place after follows refuses = absurd follows

-- after a broken quote nothing helps
pub broken_run : (o : Dialect) (bytes : List ℕ) → IsRun o (lone BrokenQuote) bytes (lone BrokenQuote)
broken_run o [] = run_nothing o (lone BrokenQuote)
broken_run o (b ∷ bs) =
    run_append o (lone BrokenQuote) (lone BrokenQuote) (lone BrokenQuote) (b ∷ []) bs (run_on o BrokenQuote BrokenQuote b refl refl) (broken_run o bs)

-- without a record, a run to a place at which the text may not end
refused : (o : Dialect) (s : CutState) (place : CutPlace) (text : List ℕ) → IsRun o s text (lone place) → RefusesEnd (lone place)
    → FollowsFound {R = List CsvField} o s text None
refused o s place text run refuses =
    let P : CutState → Type 0 = λ x. RefusesEnd x in (run.no_end, subst P (sym run.reaches) refuses)

broken : (o : Dialect) (place : CutPlace) (b : ℕ) (rest : List ℕ) → place_step o place b ≡ BrokenQuote → FollowsFound {R = List CsvField} o (lone place) (b ∷ rest) None
broken o place b rest is =
    refused o (lone place) BrokenQuote (b ∷ rest)
    (run_append o (lone place) (lone BrokenQuote) (lone BrokenQuote) (b ∷ []) rest (run_on o place BrokenQuote b is refl) (broken_run o rest))
    (inr refl)

ends_at : (o : Dialect) (place : CutPlace) (b : ℕ) (rest : List ℕ) → (b == o.eol) ≡ true → place_step o place b ≡ AfterEol → EndsAtFirst o (lone place) (b ∷ rest) rest
ends_at o place b rest is ends =
    let P : ℕ → Type 0 = λ x. EndsAtFirst o (lone place) (x ∷ rest) rest in
    let Q : ℕ → Type 0 = λ x. place_step o place x ≡ AfterEol in
    let same : b ≡ o.eol = same_byte b o.eol is in
    subst P (sym same) (ends_here o (lone place) rest (subst Q same ends))

-- after a closing quote and a byte 13
return_byte : (o : Dialect) (f : CsvField) (b : ℕ) (rest : List ℕ) (t : Bool) → (b == o.eol) ≡ t
    → FollowsFound o (lone AfterReturn) (b ∷ rest) (if t then ended o f rest else None)
return_byte o f b rest true is = ends_at o AfterReturn b rest is (rw is refl)
return_byte o f b rest false is = broken o AfterReturn b rest (rw is refl)

return_run : (o : Dialect) (f : CsvField) (rest : List ℕ) → FollowsFound o (lone AfterReturn) rest (returned o f rest)
return_run o f [] = ends_with_text o (lone AfterReturn) no_fault
  where
    no_fault : RefusesEnd (lone AfterReturn) → ⊥
    no_fault (inl is) = cc
    no_fault (inr is) = cc
return_run o f (b ∷ rest) = return_byte o f b rest (b == o.eol) refl

-- after a field
with_field_follows : (o : Dialect) (s : CutState) (text : List ℕ) (f : CsvField) (found : Option (List CsvField × List ℕ)) → FollowsFound o s text found → FollowsFound o s text (with_field f found)
with_field_follows o s text f None follows = follows
with_field_follows o s text f (Some found) follows = follows

behind_byte : (o : Dialect) (f : CsvField) (place : CutPlace) (b : ℕ) (rest : List ℕ) (more : Later) (s e r : Bool) → IsDialect o
    → (b == o.separator) ≡ s → (b == o.eol) ≡ e → (b == 13 && o.eol == 10) ≡ r → Follows o place (b ∷ rest)
    → FollowsFound o (lone AfterSeparator) rest (more rest)
    → FollowsFound o (lone place) (b ∷ rest) (if s then with_field f (more rest) else (if e then ended o f rest else (if r then returned o f rest else None)))
behind_byte o f place b rest more true e r fit s_is e_is r_is follows later =
    follows_behind o (lone place) (lone AfterSeparator) (b ∷ []) rest (with_field f (more rest))
    (run_on o place AfterSeparator b (at_separator o place b rest fit follows s_is) refl)
    (with_field_follows o (lone AfterSeparator) rest f (more rest) later)
behind_byte o f place b rest more false true r fit s_is e_is r_is follows later = ends_at o place b rest e_is (at_eol o place b rest fit follows s_is e_is)
behind_byte o f place b rest more false false true fit s_is e_is r_is follows later =
    follows_behind o (lone place) (lone AfterReturn) (b ∷ []) rest (returned o f rest)
    (run_on o place AfterReturn b (at_closed o place b rest true follows s_is e_is r_is) refl)
    (return_run o f rest)
behind_byte o f place b rest more false false false fit s_is e_is r_is follows later =
    broken o place b rest (at_closed o place b rest false follows s_is e_is r_is)

after_run : (o : Dialect) (f : CsvField) (place : CutPlace) (after : List ℕ) (more : Later) → IsDialect o → Follows o place after
    → ((rest : List ℕ) → length rest < length after → FollowsFound o (lone AfterSeparator) rest (more rest))
    → FollowsFound o (lone place) after (fields_then o (Some (f, after)) more)
after_run o f place [] more fit follows later = ends_with_text o (lone place) (may_end o place [] follows)
after_run o f place (b ∷ rest) more fit follows later =
    behind_byte o f place b rest more (b == o.separator) (b == o.eol) (b == 13 && o.eol == 10) fit refl refl refl follows (later rest (omega arith))

then_run : (o : Dialect) (text : List ℕ) (found : Option (CsvField × List ℕ)) (more : Later) → IsDialect o → RunsField o text found
    → ((rest : List ℕ) → length rest < length text → FollowsFound o (lone AfterSeparator) rest (more rest))
    → FollowsFound o (lone AfterSeparator) text (fields_then o found more)
then_run o text None more fit is later = refused o (lone AfterSeparator) InQuotes text is (inl refl)
then_run o text (Some found) more fit (spelled, place, is, run, follows) later =
    let P : List ℕ → Type 0 = λ x. FollowsFound o (lone AfterSeparator) x (fields_then o (Some (found.0, found.1)) more) in
    let size : length text ≡ length spelled + length found.1 = ap length is ∙ length-append spelled found.1 in
    subst P (sym is)
    (follows_behind o (lone AfterSeparator) (lone place) spelled found.1 (fields_then o (Some (found.0, found.1)) more) run
    (after_run o found.0 place found.1 more fit follows (λ rest shorter. later rest (omega arith))))

-- the fields that are read at the front of a text
pub fields-run : (n : ℕ) (o : Dialect) (text : List ℕ) → IsDialect o → length text < n → FollowsFound o (lone AfterSeparator) text (fields_up_to n o text)
fields-run zero o text fit short = absurd (omega arith)
fields-run (suc n) o text fit short =
    then_run o text (field_at o text) (λ rest. fields_up_to n o rest) fit (field_at-run o text) (λ rest shorter. fields-run n o rest fit (omega arith))
