-- A text that begins with a record, and the places where it may be cut: they are where whole records end.
use Rattle.std.proofs.Common.{◌≡◌, ◌≢◌, ℕ, zero, suc, ◌+◌, ◌≤◌, ap, sym, subst, refl, ◌∙◌, inl, inr, arith, append_assoc, length-append}
use Rattle.std.proofs.lemmas.List.{take-append-drop}
use Rattle.std.specs.Prelude.{true, Option, Some, None, List, [], ◌∷◌, ◌++◌, length, take, drop}
use Rattle.morsel_grammar.specs.Dialect.{Dialect, IsDialect}
use Rattle.morsel_grammar.specs.Grammar.{CsvRecord, IsRecord}
use Rattle.morsel_grammar.specs.Split.{record_at}
use Rattle.morsel_grammar.specs.GrammarRows.{AreWholeRecords, BeginsNoRecord}
use Rattle.morsel_grammar.specs.Machine.{CutPlace, CutState, AfterEol, InQuotes, BrokenQuote, is_after_eol, cut_step, cut_after, last_end, RefusesRecord, RefusesEnd}
use Rattle.morsel_grammar.specs.Cuts.{EndsAtFirst, FollowsFound, BeginsNoWholeRecord}
use Rattle.morsel_grammar.proofs.ByteLemmas.{true_not_false}
use Rattle.morsel_grammar.proofs.RecordLemmas.{IsFound, record_at-read, refuses_by_grammar}
use Rattle.morsel_grammar.proofs.WholeRecordLemmas.{record_again}
use Rattle.morsel_grammar.proofs.StateLemmas.{last_place-holds, last_place-none_later}
use Rattle.morsel_grammar.proofs.RunLemmas.{lone, IsRun, cut_after-append, no_end-append}
use Rattle.morsel_grammar.proofs.FieldsRunLemmas.{broken_run}
use Rattle.morsel_grammar.proofs.AlikeLemmas.{after_line}
use Rattle.morsel_grammar.proofs.RecordRunLemmas.{record-follows}
use Rattle.morsel_grammar.proofs.FirstEndLemmas.{start, end_here, end_before, line_reaches, reads_to_first_end, reads_nothing_open}

-- after a line that ends at a start, the rest is passed as if the line were not there
after_first : (o : Dialect) (text line rest : List ℕ) → text ≡ line ++ o.eol ∷ rest → cut_after o (start o) (line ++ o.eol ∷ []) ≡ start o
    → cut_after o (start o) text ≡ cut_after o (start o) rest
after_first o text line rest is reaches =
    ap (cut_after o (start o)) (is ∙ sym (append_assoc line (o.eol ∷ []) rest))
    ∙ cut_after-append o (start o) (line ++ o.eol ∷ []) rest
    ∙ ap (λ (x : CutState). cut_after o x rest) reaches

shorter : (n : ℕ) (text line rest : List ℕ) (eol : ℕ) → text ≡ line ++ eol ∷ rest → length text ≤ suc n → length rest ≤ n
shorter n text line rest eol is within =
    let size : length text ≡ length line + suc (length rest) = ap length is ∙ length-append line (eol ∷ rest) in omega arith

-- the whole records of a text at whose end it may be cut
abbrev pub HasWhole : Dialect → List ℕ → Type 0
HasWhole o text = (records : List CsvRecord) × AreWholeRecords o text records

whole_first : (o : Dialect) (r : CsvRecord) (text line rest : List ℕ) → text ≡ line ++ o.eol ∷ rest → IsRecord o r text rest → HasWhole o rest → HasWhole o text
whole_first o r text line rest is first later = (r ∷ later.0, (line, rest, is, first, later.1))

refuses_no_end : (s : CutState) → RefusesEnd s → s.place ≡ AfterEol → ⊥
refuses_no_end s (inl is) ends = let both : InQuotes ≡ AfterEol = sym is ∙ ends in cc
refuses_no_end s (inr is) ends = let both : BrokenQuote ≡ AfterEol = sym is ∙ ends in cc

whole_by_end : (n : ℕ) (o : Dialect) (r : CsvRecord) (b : ℕ) (bs rest : List ℕ) → IsRecord o r (b ∷ bs) rest → EndsAtFirst o (start o) (b ∷ bs) rest
    → length (b ∷ bs) ≤ suc n → (cut_after o (start o) (b ∷ bs)).place ≡ AfterEol
    → ((text : List ℕ) → length text ≤ n → (cut_after o (start o) text).place ≡ AfterEol → HasWhole o text) → HasWhole o (b ∷ bs)
whole_by_end n o r b bs rest first (inl (line, is, none, reaches)) within ends later =
    whole_first o r (b ∷ bs) line rest is first
    (later rest (shorter n (b ∷ bs) line rest o.eol is within) (ap (λ (x : CutState). x.place) (sym (after_first o (b ∷ bs) line rest is reaches)) ∙ ends))
whole_by_end n o r b bs rest first (inr (all, none, may_end)) within ends later = absurd (end_here o (start o) b bs ends none)

whole_by_record : (n : ℕ) (o : Dialect) (b : ℕ) (bs : List ℕ) (found : Option (CsvRecord × List ℕ)) → IsFound o (b ∷ bs) found → FollowsFound o (start o) (b ∷ bs) found
    → length (b ∷ bs) ≤ suc n → (cut_after o (start o) (b ∷ bs)).place ≡ AfterEol
    → ((text : List ℕ) → length text ≤ n → (cut_after o (start o) text).place ≡ AfterEol → HasWhole o text) → HasWhole o (b ∷ bs)
whole_by_record n o b bs None is follows within ends later = absurd (refuses_no_end (cut_after o (start o) (b ∷ bs)) follows.1 ends)
whole_by_record n o b bs (Some found) is follows within ends later = whole_by_end n o found.0 b bs found.1 is follows within ends later

whole_up_to : (n : ℕ) (o : Dialect) (text : List ℕ) → IsDialect o → length text ≤ n → (cut_after o (start o) text).place ≡ AfterEol → HasWhole o text
whole_up_to n o [] fit within ends = ([], refl)
whole_up_to zero o (b ∷ bs) fit within ends = absurd (omega arith)
whole_up_to (suc n) o (b ∷ bs) fit within ends =
    whole_by_record n o b bs (record_at o (b ∷ bs)) (record_at-read o (b ∷ bs)) (record-follows o (b ∷ bs) fit) within ends
    (λ text less text_ends. whole_up_to n o text fit less text_ends)

-- a text at whose end it may be cut is whole records
pub start_whole : (o : Dialect) (text : List ℕ) → IsDialect o → (cut_after o (start o) text).place ≡ AfterEol → HasWhole o text
start_whole o text fit ends = whole_up_to (length text) o text fit (omega arith) ends

-- whole records end where a text may be cut
pub whole_start : (o : Dialect) (text : List ℕ) (records : List CsvRecord) → IsDialect o → AreWholeRecords o text records → cut_after o (start o) text ≡ start o
whole_start o text [] fit none = ap (cut_after o (start o)) none
whole_start o text (r ∷ records) fit (line, rest, is, first, later) =
    after_first o text line rest is (line_reaches o r text line rest fit first is) ∙ whole_start o rest records fit later

-- with an end, there is a first record with its eol byte
pub no_end_no_record : (o : Dialect) (text : List ℕ) → IsDialect o → last_end o (start o) text ≡ 0 → BeginsNoWholeRecord o text
no_end_no_record o text fit none = λ r line rest is first.
    end_before o (start o) line rest (line_reaches o r text line rest fit first is) (ap (last_end o (start o)) (sym is) ∙ none)

front_record : (o : Dialect) (text front back : List ℕ) (b : ℕ) (bs : List ℕ) (records : List CsvRecord) → IsDialect o → front ≡ b ∷ bs → text ≡ front ++ back
    → AreWholeRecords o front records → BeginsNoWholeRecord o text → ⊥
front_record o text front back b bs [] fit some is none never = let both : b ∷ bs ≡ [] = sym some ∙ none in cc
front_record o text front back b bs (r ∷ records) fit some is (line, rest, line_is, first, later) never =
    let split : text ≡ line ++ o.eol ∷ (rest ++ back) = is ∙ ap (λ (x : List ℕ). x ++ back) line_is ∙ append_assoc line (o.eol ∷ rest) back in
    let P : List ℕ → Type 0 = λ x. IsRecord o r x (rest ++ back) in
    never r line (rest ++ back) split (subst P (sym split) (record_again o r front line rest fit first line_is (rest ++ back)))

after_eol_place : (place : CutPlace) → is_after_eol place ≡ true → place ≡ AfterEol
after_eol_place AfterEol is = refl
after_eol_place place is = true_not_false true refl (sym is)

-- at the last end the text may be cut
pub at_last_end : (o : Dialect) (s : CutState) (text : List ℕ) → last_end o s text ≢ 0 → (cut_after o s (take (last_end o s text) text)).place ≡ AfterEol
at_last_end o s text some =
    after_eol_place (cut_after o s (take (last_end o s text) text)).place (last_place-holds (cut_step o) (λ (s : CutState). is_after_eol s.place) s text some)

some_end : (o : Dialect) (text : List ℕ) (n : ℕ) → IsDialect o → BeginsNoWholeRecord o text → last_end o (start o) text ≡ n → n ≡ 0
some_end o text zero fit never is = refl
some_end o [] (suc n) fit never is = cc
some_end o (b ∷ bs) (suc n) fit never is =
    let text : List ℕ = b ∷ bs in
    let P : ℕ → Type 0 = λ n. (cut_after o (start o) (take n (b ∷ bs))).place ≡ AfterEol in
    let Q : ℕ → Type 0 = λ n. n ≢ 0 in
    let suc_some : suc n ≢ 0 = λ none. cc in
    let ends : (cut_after o (start o) (take (suc n) (b ∷ bs))).place ≡ AfterEol = subst P is (at_last_end o (start o) (b ∷ bs) (subst Q (sym is) suc_some)) in
    let whole = start_whole o (take (suc n) (b ∷ bs)) fit ends in
    absurd (front_record o (b ∷ bs) (take (suc n) (b ∷ bs)) (drop (suc n) (b ∷ bs)) b (take n bs) whole.0 fit refl (sym (take-append-drop (suc n) (b ∷ bs))) whole.1 never)

pub no_record_no_end : (o : Dialect) (text : List ℕ) → IsDialect o → BeginsNoWholeRecord o text → last_end o (start o) text ≡ 0
no_record_no_end o text fit never = some_end o text (last_end o (start o) text) fit never refl

-- what is left after the last end has none, and the machine stands behind it as behind the whole text
pub record IsUnderWay (o : Dialect) (text left : List ℕ) : Type 0 where
  pub no_end : last_end o (start o) left ≡ 0
  pub after : cut_after o (start o) left ≡ cut_after o (start o) text

cut_some : (o : Dialect) (b : ℕ) (bs : List ℕ) (n : ℕ) → (cut_after o (start o) (take (suc n) (b ∷ bs))).place ≡ AfterEol
    → last_end o (cut_after o (start o) (take (suc n) (b ∷ bs))) (drop (suc n) (b ∷ bs)) ≡ 0 → IsUnderWay o (b ∷ bs) (drop (suc n) (b ∷ bs))
cut_some o b bs n ends none =
    let front : List ℕ = take (suc n) (b ∷ bs) in
    let back : List ℕ = drop (suc n) (b ∷ bs) in
    let again : cut_after o (start o) front ≡ start o = after_line o (start o) (b ∷ take n bs) (λ none. cc) ends in
    record {
      no_end = ap (λ (x : CutState). last_end o x back) (sym again) ∙ none;
      after = ap (λ (x : CutState). cut_after o x back) (sym again) ∙ sym (cut_after-append o (start o) front back)
          ∙ ap (cut_after o (start o)) (take-append-drop (suc n) (b ∷ bs));
    }

cut_at : (o : Dialect) (text : List ℕ) (n : ℕ) → (n ≢ 0 → (cut_after o (start o) (take n text)).place ≡ AfterEol)
    → last_end o (cut_after o (start o) (take n text)) (drop n text) ≡ 0 → IsUnderWay o text (drop n text)
cut_at o text zero ends none = record { no_end = none; after = refl }
cut_at o [] (suc n) ends none = record { no_end = refl; after = refl }
cut_at o (b ∷ bs) (suc n) ends none = cut_some o b bs n (ends (λ zero. cc)) none

pub under_way : (o : Dialect) (text : List ℕ) → IsUnderWay o text (drop (last_end o (start o) text) text)
under_way o text =
    cut_at o text (last_end o (start o) text) (λ some. at_last_end o (start o) text some)
    (last_place-none_later (cut_step o) (λ (s : CutState). is_after_eol s.place) (start o) text)

-- a refused record
pub lone_state : (s : CutState) → RefusesRecord s → s ≡ lone BrokenQuote
lone_state s is = ap (λ (m : Option ℕ). let t : CutState = record { matched = m; place = s.place } in t) is.0
    ∙ ap (λ (p : CutPlace). let t : CutState = record { matched = None; place = p } in t) is.1

pub refused_left : (o : Dialect) (left more : List ℕ) → IsDialect o → last_end o (start o) left ≡ 0 → RefusesRecord (cut_after o (start o) left) → BeginsNoRecord o (left ++ more)
refused_left o left more fit none is =
    let run : IsRun o (start o) left (lone BrokenQuote) = record { reaches = lone_state (cut_after o (start o) left) is; no_end = none } in
    let stays = broken_run o more in
    let after : cut_after o (start o) (left ++ more) ≡ lone BrokenQuote =
    cut_after-append o (start o) left more ∙ ap (λ (x : CutState). cut_after o x more) run.reaches ∙ stays.reaches in
    (refuses_by_grammar o fit (left ++ more)).0
    (reads_nothing_open o fit (left ++ more) (no_end-append o (start o) (lone BrokenQuote) left more run stays.no_end) (inr (ap (λ (x : CutState). x.place) after)))

pub open_left : (o : Dialect) (left : List ℕ) → IsDialect o → last_end o (start o) left ≡ 0 → RefusesEnd (cut_after o (start o) left) → BeginsNoRecord o left
open_left o left fit none refuses = (refuses_by_grammar o fit left).0 (reads_nothing_open o fit left none refuses)

pub ended_left : (o : Dialect) (left : List ℕ) → IsDialect o → last_end o (start o) left ≡ 0 → (RefusesEnd (cut_after o (start o) left) → ⊥) → (r : CsvRecord) × IsRecord o r left []
ended_left o left fit none may_end =
    let found = reads_to_first_end o fit left [] (inr (refl, none, may_end)) in
    let P : Option (CsvRecord × List ℕ) → Type 0 = λ found. IsFound o left found in
    (found.0, subst P found.1 (record_at-read o left))
