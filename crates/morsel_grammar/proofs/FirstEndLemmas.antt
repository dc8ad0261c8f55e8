-- The first place where a text may be cut is where the record that is read at its front ends.
use Rattle.std.proofs.Common.{◌≡◌, ◌≢◌, ℕ, zero, suc, ◌+◌, ap, sym, subst, refl, ◌∙◌, inl, inr, arith, append_assoc}
use Rattle.std.proofs.lemmas.List.{append_cancel_right}
use Rattle.std.specs.Prelude.{Bool, ◌⊎◌, Option, Some, None, List, [], ◌∷◌, ◌++◌, length}
use Rattle.morsel_grammar.specs.Dialect.{Dialect, IsDialect}
use Rattle.morsel_grammar.specs.Grammar.{CsvRecord, IsRecord}
use Rattle.morsel_grammar.specs.Split.{record_at}
use Rattle.morsel_grammar.specs.Machine.{CutPlace, CutState, AfterEol, place_or_later, joined_place, is_after_eol, first_state, cut_step, cut_after, last_end, RefusesEnd}
use Rattle.morsel_grammar.specs.Cuts.{EndsAtFirst, FollowsFound, ReadsToFirstEnd, ReadsNothingOpen}
use Rattle.morsel_grammar.proofs.RecordLemmas.{record_at-written}
use Rattle.morsel_grammar.proofs.WholeRecordLemmas.{record_again}
use Rattle.morsel_grammar.proofs.RunLemmas.{last_end-append}
use Rattle.morsel_grammar.proofs.RecordRunLemmas.{record-follows}

-- the state in which a record begins after another
abbrev pub start : Dialect → CutState
start o = first_state o AfterEol

place_some : (here : Bool) (later : ℕ) → later ≢ 0 → place_or_later here later ≢ 0
place_some here zero some = absurd (some refl)
place_some here (suc later) some = λ none. cc

joined_some : (before n later : ℕ) → before ≢ 0 → joined_place before n later ≢ 0
joined_some before n zero some = some
joined_some before n (suc later) some = λ none. let sum : n + suc later ≡ 0 = none in absurd (omega arith)

one_is_some : (n : ℕ) → n ≡ 1 → n ≢ 0
one_is_some n one = λ none. let both : n ≡ 0 = none in absurd (omega arith)

-- at an end there is a last end
pub end_here : (o : Dialect) (s : CutState) (b : ℕ) (bs : List ℕ) → (cut_after o s (b ∷ bs)).place ≡ AfterEol → last_end o s (b ∷ bs) ≢ 0
end_here o s b [] is = one_is_some (last_end o s (b ∷ [])) (ap (λ (x : CutPlace). place_or_later (is_after_eol x) 0) is)
end_here o s b (c ∷ bs) is = place_some (is_after_eol (cut_step o s b).place) (last_end o (cut_step o s b) (c ∷ bs)) (end_here o (cut_step o s b) c bs is)

end_of_line : (o : Dialect) (s : CutState) (line : List ℕ) → (cut_after o s (line ++ o.eol ∷ [])).place ≡ AfterEol → last_end o s (line ++ o.eol ∷ []) ≢ 0
end_of_line o s [] is = end_here o s o.eol [] is
end_of_line o s (b ∷ line) is = end_here o s b (line ++ o.eol ∷ []) is

-- and also where more follows
pub end_before : (o : Dialect) (s : CutState) (line more : List ℕ) → cut_after o s (line ++ o.eol ∷ []) ≡ start o → last_end o s (line ++ o.eol ∷ more) ≢ 0
end_before o s line more reaches =
    let P : ℕ → Type 0 = λ n. n ≢ 0 in
    let front : List ℕ = line ++ o.eol ∷ [] in
    let whole : last_end o s (line ++ o.eol ∷ more) ≡ joined_place (last_end o s front) (length front) (last_end o (cut_after o s front) more) =
    ap (last_end o s) (sym (append_assoc line (o.eol ∷ []) more)) ∙ last_end-append o s front more in
    subst P (sym whole) (joined_some (last_end o s front) (length front) (last_end o (cut_after o s front) more) (end_of_line o s line (ap (λ (x : CutState). x.place) reaches)))

-- two lines of one text are the same, or one is within the other
abbrev pub AreNested : ℕ → List ℕ → List ℕ → List ℕ → List ℕ → Type 0
AreNested eol line other rest left = ((line ≡ other) × (rest ≡ left)) ⊎ (((more : List ℕ) × (other ≡ line ++ eol ∷ more)) ⊎ ((more : List ℕ) × (line ≡ other ++ eol ∷ more)))

nested_byte : (eol b c : ℕ) (line other rest left : List ℕ) → b ≡ c → AreNested eol line other rest left → AreNested eol (b ∷ line) (c ∷ other) rest left
nested_byte eol b c line other rest left same (inl is) = inl (ap (λ (x : ℕ). x ∷ line) same ∙ ap (λ (x : List ℕ). c ∷ x) is.0, is.1)
nested_byte eol b c line other rest left same (inr (inl is)) =
    inr (inl (is.0, ap (λ (x : ℕ). x ∷ other) (sym same) ∙ ap (λ (x : List ℕ). b ∷ x) is.1))
nested_byte eol b c line other rest left same (inr (inr is)) = inr (inr (is.0, ap (λ (x : ℕ). x ∷ line) same ∙ ap (λ (x : List ℕ). c ∷ x) is.1))

pub nested : (eol : ℕ) (line other rest left : List ℕ) → line ++ eol ∷ rest ≡ other ++ eol ∷ left → AreNested eol line other rest left
nested eol [] [] rest left is = let same : rest ≡ left = cc in inl (refl, same)
nested eol [] (c ∷ other) rest left is = let same : c ≡ eol = cc in inr (inl (other, ap (λ (x : ℕ). x ∷ other) same))
nested eol (b ∷ line) [] rest left is = let same : b ≡ eol = cc in inr (inr (line, ap (λ (x : ℕ). x ∷ line) same))
nested eol (b ∷ line) (c ∷ other) rest left is =
    let same : b ≡ c = cc in
    let later : line ++ eol ∷ rest ≡ other ++ eol ∷ left = cc in
    nested_byte eol b c line other rest left same (nested eol line other rest left later)

one_line : (o : Dialect) (s : CutState) (line other rest left : List ℕ) → last_end o s line ≡ 0 → last_end o s other ≡ 0
    → cut_after o s (line ++ o.eol ∷ []) ≡ start o → cut_after o s (other ++ o.eol ∷ []) ≡ start o → AreNested o.eol line other rest left → rest ≡ left
one_line o s line other rest left none none_either reaches also (inl is) = is.1
one_line o s line other rest left none none_either reaches also (inr (inl is)) =
    absurd (end_before o s line is.0 reaches (ap (last_end o s) (sym is.1) ∙ none_either))
one_line o s line other rest left none none_either reaches also (inr (inr is)) =
    absurd (end_before o s other is.0 also (ap (last_end o s) (sym is.1) ∙ none))

-- a text has one first end
pub one_first : (o : Dialect) (s : CutState) (text rest left : List ℕ) → EndsAtFirst o s text rest → EndsAtFirst o s text left → rest ≡ left
one_first o s text rest left (inl (line, is, none, reaches)) (inl (other, other_is, none_either, also)) =
    one_line o s line other rest left none none_either reaches also (nested o.eol line other rest left (sym is ∙ other_is))
one_first o s text rest left (inl (line, is, none, reaches)) (inr (all, without, may_end)) =
    absurd (end_before o s line rest reaches (ap (last_end o s) (sym is) ∙ without))
one_first o s text rest left (inr (all, without, may_end)) (inl (line, is, none, reaches)) =
    absurd (end_before o s line left reaches (ap (last_end o s) (sym is) ∙ without))
one_first o s text rest left (inr (all, without, may_end)) (inr (also, without_either, may_end_either)) = all ∙ sym also

-- a first end contradicts a text that has none and may not end
pub first_or_open : (o : Dialect) (s : CutState) (text rest : List ℕ) → EndsAtFirst o s text rest → last_end o s text ≡ 0 → RefusesEnd (cut_after o s text) → ⊥
first_or_open o s text rest (inl (line, is, none, reaches)) without refuses = end_before o s line rest reaches (ap (last_end o s) (sym is) ∙ without)
first_or_open o s text rest (inr (all, none, may_end)) without refuses = may_end refuses

read_to : (o : Dialect) (text rest : List ℕ) (found : Option (CsvRecord × List ℕ)) → record_at o text ≡ found → FollowsFound o (start o) text found
    → EndsAtFirst o (start o) text rest → (r : CsvRecord) × (record_at o text ≡ Some (r, rest))
read_to o text rest None is follows ends = absurd (first_or_open o (start o) text rest ends follows.0 follows.1)
read_to o text rest (Some found) is follows ends =
    let same : found.1 ≡ rest = one_first o (start o) text found.1 rest follows ends in
    (found.0, is ∙ ap (λ (x : List ℕ). let one : CsvRecord × List ℕ = (found.0, x) in Some one) same)

pub reads_to_first_end : (o : Dialect) → IsDialect o → ReadsToFirstEnd o
reads_to_first_end o fit = λ text rest ends. read_to o text rest (record_at o text) refl (record-follows o text fit) ends

read_nothing : (o : Dialect) (text : List ℕ) (found : Option (CsvRecord × List ℕ)) → FollowsFound o (start o) text found
    → last_end o (start o) text ≡ 0 → RefusesEnd (cut_after o (start o) text) → found ≡ None
read_nothing o text None follows none refuses = refl
read_nothing o text (Some found) follows none refuses = absurd (first_or_open o (start o) text found.1 follows none refuses)

pub reads_nothing_open : (o : Dialect) → IsDialect o → ReadsNothingOpen o
reads_nothing_open o fit = λ text none refuses. read_nothing o text (record_at o text) (record-follows o text fit) none refuses

-- a record with its eol byte, whatever follows
line_first : (o : Dialect) (line : List ℕ) → EndsAtFirst o (start o) (line ++ o.eol ∷ o.eol ∷ []) (o.eol ∷ []) → cut_after o (start o) (line ++ o.eol ∷ []) ≡ start o
line_first o line (inl (other, is, none, reaches)) =
    let same : line ≡ other = append_cancel_right line other (o.eol ∷ o.eol ∷ []) is in
    ap (λ (x : List ℕ). cut_after o (start o) (x ++ o.eol ∷ [])) same ∙ reaches
line_first o line (inr (all, none, may_end)) = cc

pub line_reaches : (o : Dialect) (r : CsvRecord) (text line rest : List ℕ) → IsDialect o → IsRecord o r text rest → text ≡ line ++ o.eol ∷ rest
    → cut_after o (start o) (line ++ o.eol ∷ []) ≡ start o
line_reaches o r text line rest fit is split =
    let again : IsRecord o r (line ++ o.eol ∷ o.eol ∷ []) (o.eol ∷ []) = record_again o r text line rest fit is split (o.eol ∷ []) in
    let read : record_at o (line ++ o.eol ∷ o.eol ∷ []) ≡ Some (r, o.eol ∷ []) = record_at-written o r (line ++ o.eol ∷ o.eol ∷ []) (o.eol ∷ []) fit again in
    let P : Option (CsvRecord × List ℕ) → Type 0 = λ found. FollowsFound o (start o) (line ++ o.eol ∷ o.eol ∷ []) found in
    line_first o line (subst P read (record-follows o (line ++ o.eol ∷ o.eol ∷ []) fit))
