-- What the machine that finds cuts says of the grammar, from each place where bytes begin.
use Rattle.std.proofs.Common.{◌≡◌, ◌≢◌, ℕ, zero, suc, ◌+◌, ap, sym, subst, refl, ◌∙◌}
use Rattle.std.proofs.lemmas.List.{drop-drop, take-append-drop, length-take-le}
use Rattle.std.specs.Prelude.{List, [], ◌∷◌, ◌++◌, length, take, drop}
use Rattle.morsel_grammar.specs.Dialect.{Dialect, IsDialect}
use Rattle.morsel_grammar.specs.Grammar.{CsvRecord, IsRecord}
use Rattle.morsel_grammar.specs.GrammarRows.{AreWholeRecords, BeginsNoRecord}
use Rattle.morsel_grammar.specs.Machine.{CutPlace, AtOpening, AfterEol, CutState, is_after_eol, first_state, cut_step, cut_after, last_end, last_begin, RefusesRecord, RefusesEnd}
use Rattle.morsel_grammar.specs.Cuts.{IsFirstPlace, text_from, BeginsNoWholeRecord, AreWholeAtEnds, MayCutAfterWhole, CutsAfterWhole, PassesWhatIsLeft, FindsNoEnd, RefusesWhateverFollows, RefusesWithoutDelay, RefusesOpenEnd, EndsWithRecord, BeginsAfterWhole, text_begins}
use Rattle.morsel_grammar.proofs.StateLemmas.{last_place-within, last_place-none_later}
use Rattle.morsel_grammar.proofs.RunLemmas.{cut_after-append}
use Rattle.morsel_grammar.proofs.AlikeLemmas.{after_line}
use Rattle.morsel_grammar.proofs.FirstEndLemmas.{start}
use Rattle.morsel_grammar.proofs.WholeCutLemmas.{HasWhole, start_whole, whole_start, no_end_no_record, no_record_no_end, at_last_end, IsUnderWay, under_way, refused_left, open_left, ended_left}
use Rattle.morsel_grammar.proofs.MarkCutLemmas.{IsPassed, passed_text}
use Rattle.morsel_grammar.proofs.OpeningCutLemmas.{passed}
use Rattle.morsel_grammar.proofs.RefusalLemmas.{hopeless_left}

-- bytes at whose end the text may be cut
pub whole_at_ends : (o : Dialect) → IsDialect o → AreWholeAtEnds o
whole_at_ends o fit = λ place bytes is ends.
    let all = passed o place bytes fit is in
    let P : List ℕ → Type 0 = λ x. HasWhole o x in
    subst P (sym (passed_text o place bytes all)) (start_whole o (drop all.mark bytes) fit (all.show.at_end ends))

some_line : (line : List ℕ) (b : ℕ) (rest : List ℕ) → line ++ b ∷ rest ≢ []
some_line [] b rest = λ is. cc
some_line (c ∷ line) b rest = λ is. cc

some_whole : (o : Dialect) (text : List ℕ) (r : CsvRecord) (records : List CsvRecord) → AreWholeRecords o text (r ∷ records) → text ≢ []
some_whole o text r records (line, rest, is, first, later) = λ none. some_line line o.eol rest (sym is ∙ none)

drop_nothing : (n : ℕ) (bytes : List ℕ) → drop n bytes ≢ [] → bytes ≢ []
drop_nothing zero bytes some = some
drop_nothing (suc n) [] some = some
drop_nothing (suc n) (b ∷ bs) some = λ none. cc

pub may_cut_after_whole : (o : Dialect) → IsDialect o → MayCutAfterWhole o
may_cut_after_whole o fit = λ place bytes r records is whole.
    let all = passed o place bytes fit is in
    let P : List ℕ → Type 0 = λ x. AreWholeRecords o x (r ∷ records) in
    let here : AreWholeRecords o (drop all.mark bytes) (r ∷ records) = subst P (passed_text o place bytes all) whole in
    let some : drop all.mark bytes ≢ [] = some_whole o (drop all.mark bytes) r records here in
    let starts : cut_after o (start o) (drop all.mark bytes) ≡ start o = whole_start o (drop all.mark bytes) (r ∷ records) fit here in
    after_line o (first_state o place) bytes (drop_nothing all.mark bytes some) (all.show.at_end_again some (ap (λ (x : CutState). x.place) starts))

pub finds_no_end : (o : Dialect) → IsDialect o → FindsNoEnd o
finds_no_end o fit = λ place bytes is.
    let all = passed o place bytes fit is in
    let P : List ℕ → Type 0 = λ x. BeginsNoWholeRecord o x in (
      λ none. subst P (sym (passed_text o place bytes all)) (no_end_no_record o (drop all.mark bytes) fit (all.no_end none)),
      λ never. all.no_end_again (no_record_no_end o (drop all.mark bytes) fit (subst P (passed_text o place bytes all) never)),
    )

-- the record that is under way
left_over : (o : Dialect) (place : CutPlace) (bytes : List ℕ) → (all : IsPassed o place bytes)
    → drop (last_end o (start o) (drop all.mark bytes)) (drop all.mark bytes) ≡ drop (last_begin o (first_state o place) bytes) bytes
left_over o place bytes all =
    drop-drop (last_end o (start o) (drop all.mark bytes)) all.mark bytes ∙ ap (λ (n : ℕ). drop n bytes) (sym all.begin)

pub refuses_whatever_follows : (o : Dialect) → IsDialect o → RefusesWhateverFollows o
refuses_whatever_follows o fit = λ place bytes more is refused.
    let all = passed o place bytes fit is in
    let text : List ℕ = drop all.mark bytes in
    let left : List ℕ = drop (last_end o (start o) text) text in
    let way : IsUnderWay o text left = under_way o text in
    let P : List ℕ → Type 0 = λ x. BeginsNoRecord o (x ++ more) in
    let Q : CutState → Type 0 = λ x. RefusesRecord x in
    subst P (left_over o place bytes all) (refused_left o left more fit way.no_end (subst Q (sym way.after) (all.show.refuses_record refused)))

pub refuses_without_delay : (o : Dialect) → IsDialect o → RefusesWithoutDelay o
refuses_without_delay o fit = λ place bytes is never.
    let all = passed o place bytes fit is in
    let text : List ℕ = drop all.mark bytes in
    let left : List ℕ = drop (last_end o (start o) text) text in
    let way : IsUnderWay o text left = under_way o text in
    let P : List ℕ → Type 0 = λ x. (more : List ℕ) → BeginsNoRecord o (x ++ more) in
    let Q : CutState → Type 0 = λ x. RefusesRecord x in
    all.show.refuses_record_again (subst Q way.after (hopeless_left o left fit way.no_end (subst P (sym (left_over o place bytes all)) never)))

pub refuses_open_end : (o : Dialect) → IsDialect o → RefusesOpenEnd o
refuses_open_end o fit = λ place bytes is refuses.
    let all = passed o place bytes fit is in
    let text : List ℕ = drop all.mark bytes in
    let left : List ℕ = drop (last_end o (start o) text) text in
    let way : IsUnderWay o text left = under_way o text in
    let P : List ℕ → Type 0 = λ x. BeginsNoRecord o x in
    let Q : CutState → Type 0 = λ x. RefusesEnd x in
    subst P (left_over o place bytes all) (open_left o left fit way.no_end (subst Q (sym way.after) (all.show.refuses_end refuses)))

pub ends_with_record : (o : Dialect) → IsDialect o → EndsWithRecord o
ends_with_record o fit = λ place bytes is may_end some.
    let all = passed o place bytes fit is in
    let text : List ℕ = drop all.mark bytes in
    let left : List ℕ = drop (last_end o (start o) text) text in
    let way : IsUnderWay o text left = under_way o text in
    let P : List ℕ → Type 0 = λ x. (r : CsvRecord) × IsRecord o r x [] in
    let Q : CutState → Type 0 = λ x. RefusesEnd x in
    subst P (left_over o place bytes all)
    (ended_left o left fit way.no_end (λ refuses. may_end (all.show.refuses_end_again (subst Q way.after refuses))))

-- the last end
first_after_end : (o : Dialect) (s : CutState) (bytes : List ℕ) (n : ℕ) → n ≢ 0 → last_end o s bytes ≡ n → (cut_after o s (take n bytes)).place ≡ AfterEol
    → cut_after o s (take n bytes) ≡ start o
first_after_end o s bytes zero some is ends = absurd (some refl)
first_after_end o s [] (suc n) some is ends = cc
first_after_end o s (b ∷ bs) (suc n) some is ends = after_line o s (b ∷ take n bs) (λ none. cc) ends

text_from-nothing : (place : CutPlace) → text_from place [] ≡ []
text_from-nothing AtOpening = refl
text_from-nothing place = refl

whole_front : (o : Dialect) (place : CutPlace) (bytes : List ℕ) (n : ℕ) → IsDialect o → IsFirstPlace place → (n ≢ 0 → (cut_after o (first_state o place) (take n bytes)).place ≡ AfterEol)
    → (records : List CsvRecord) × AreWholeRecords o (text_from place (take n bytes)) records
whole_front o place bytes zero fit is ends = ([], text_from-nothing place)
whole_front o place bytes (suc n) fit is ends = whole_at_ends o fit place (take (suc n) bytes) is (ends (λ none. cc))

pub cuts_after_whole : (o : Dialect) → IsDialect o → CutsAfterWhole o
cuts_after_whole o fit = λ place bytes is.
    let s : CutState = first_state o place in (
      whole_front o place bytes (last_end o s bytes) fit is (at_last_end o s bytes),
      λ some. first_after_end o s bytes (last_end o s bytes) some refl (at_last_end o s bytes some),
    )

pub passes_what_is_left : (o : Dialect) → IsDialect o → PassesWhatIsLeft o
passes_what_is_left o fit = λ place bytes is some.
    let s : CutState = first_state o place in
    let n : ℕ = last_end o s bytes in
    let again : cut_after o s (take n bytes) ≡ start o = first_after_end o s bytes n some refl (at_last_end o s bytes some) in (
      ap (λ (x : CutState). last_end o x (drop n bytes)) (sym again) ∙ last_place-none_later (cut_step o) (λ (s : CutState). is_after_eol s.place) s bytes,
      ap (λ (x : CutState). cut_after o x (drop n bytes)) (sym again) ∙ sym (cut_after-append o s (take n bytes) (drop n bytes)) ∙ ap (cut_after o s) (take-append-drop n bytes),
    )

-- what is before the record that is under way
pub begins_after_whole : (o : Dialect) → IsDialect o → BeginsAfterWhole o
begins_after_whole o fit = λ place bytes is.
    let all = passed o place bytes fit is in
    let text : List ℕ = drop all.mark bytes in
    let n : ℕ = last_end o (start o) text in
    let whole = (cuts_after_whole o fit AfterEol text tt).0 in
    let size : length (take n text) ≡ n = length-take-le n text (last_place-within (cut_step o) (λ (s : CutState). is_after_eol s.place) (start o) text) in (
      take n text,
      whole.0,
      whole.1,
      passed_text o place bytes all ∙ sym (take-append-drop n text) ∙ ap (λ (x : List ℕ). take n text ++ x) (left_over o place bytes all),
      all.begin ∙ ap (λ (m : ℕ). m + n) (sym all.mark_is) ∙ ap (λ (m : ℕ). text_begins place bytes + m) (sym size),
    )
