-- The pieces of a text that comes in chunks are whole records, and its rest is the record that is under way.
use Rattle.std.proofs.Common.{◌≡◌, ◌≢◌, ℕ, ◌+◌, ◌≤◌, zero, suc, ap, sym, subst, refl, ◌∙◌, inl, inr, arith, append_assoc}
use Rattle.std.proofs.lemmas.List.{append-nil, take-append-drop, length-take-le, drop_at}
use Rattle.std.proofs.lemmas.List.Elements.{All-nil, All-cons}
use Rattle.std.specs.Prelude.{◌⊎◌, Bool, true, List, [], ◌∷◌, ◌++◌, length, take, drop}
use Rattle.std.specs.List.{All, concat}
use Rattle.morsel_grammar.specs.Dialect.{Dialect, IsDialect}
use Rattle.morsel_grammar.specs.Grammar.{CsvRecord, IsRecord}
use Rattle.morsel_grammar.specs.Rows.{mark_len, unmarked}
use Rattle.morsel_grammar.specs.GrammarRows.{AreWholeRecords}
use Rattle.morsel_grammar.specs.Machine.{CutState, AtOpening, AfterEol, place_or_later, joined_place, state_after, last_place, is_after_eol, begins_record, first_state, cut_step, cut_after, last_end, last_begin}
use Rattle.morsel_grammar.specs.Cuts.{BeginsNoWholeRecord}
use Rattle.morsel_grammar.proofs.StateLemmas.{last_place-append}
use Rattle.morsel_grammar.proofs.RunLemmas.{cut_after-append}
use Rattle.morsel_grammar.proofs.FirstEndLemmas.{start}
use Rattle.morsel_grammar.proofs.WholeCutLemmas.{HasWhole, start_whole}
use Rattle.morsel_grammar.proofs.MarkCutLemmas.{IsPassed, passed_text, begin_is_end}
use Rattle.morsel_grammar.proofs.OpeningCutLemmas.{passed_opening, mark_len-front}
use Rattle.morsel_grammar.proofs.CutLemmas.{cuts_after_whole, passes_what_is_left, finds_no_end, ends_with_record}
use Rattle.morsel_grammar.proofs.BegunLemmas.{counts_begun}
use Rattle.morsel_cut.specs.Cutting.{cut_opening, fed_with}
use Rattle.morsel_cut.specs.Pieces.{last_cut, piece_first, chunk_piece, pieces_after, cut_pieces, cut_rest, cut_texts, texts_unmarked, first_mark, rest_begins, rest_unmarked, IsWhole, CutsWhole, LeavesNoWhole, MarksFirst, BeginsWithRest, EndsWithRest}
use Rattle.morsel_cut.proofs.PieceLemmas.{last_cut-within, last_cut-grows, front_then_piece, pieces_are_front, joins_cut_texts, first_some, some_front}

-- where the test holds at the end of some bytes, that is its last place
pub last_place-all : {S : Type 0} (step : S → ℕ → S) (test : S → Bool) (s : S) (bytes : List ℕ) → bytes ≢ [] → test (state_after step s bytes) ≡ true
    → last_place step test s bytes ≡ length bytes
last_place-all step test s [] some holds = absurd (some refl)
last_place-all step test s (b ∷ []) some holds = ap (λ (t : Bool). place_or_later t 0) holds
last_place-all step test s (b ∷ c ∷ bytes) some holds = ap (place_or_later (test (step s b))) (last_place-all step test (step s b) (c ∷ bytes) (λ none. cc) holds)

-- a record begins at a cut
pub after_cut : (o : Dialect) (text : List ℕ) → IsDialect o → last_cut o text ≢ 0 → cut_after o (first_state o AtOpening) (take (last_cut o text) text) ≡ start o
after_cut o text fit some = (cuts_after_whole o fit AtOpening text tt).1 some

some_grown : (o : Dialect) (came chunk : List ℕ) → last_cut o came ≢ 0 → last_cut o (came ++ chunk) ≢ 0
some_grown o came chunk some = λ none. let grows : last_cut o came ≤ last_cut o (came ++ chunk) = last_cut-grows o came chunk in some (omega arith)

piece_ends : (o : Dialect) (came chunk : List ℕ) → IsDialect o → last_cut o came ≢ 0 → cut_after o (start o) (chunk_piece o came chunk) ≡ start o
piece_ends o came chunk fit some =
    let front : List ℕ = take (last_cut o came) came in
    let piece : List ℕ = chunk_piece o came chunk in
    ap (λ (s : CutState). cut_after o s piece) (sym (after_cut o came fit some))
    ∙ sym (cut_after-append o (first_state o AtOpening) front piece)
    ∙ ap (cut_after o (first_state o AtOpening)) (front_then_piece o came chunk)
    ∙ after_cut o (came ++ chunk) fit (some_grown o came chunk some)

whole_some : (o : Dialect) (text : List ℕ) (records : List CsvRecord) → AreWholeRecords o text records → text ≢ [] → IsWhole o text
whole_some o text [] none some = absurd (some none)
whole_some o text (r ∷ records) whole some = (r, records, whole)

next_whole : (o : Dialect) (came chunk : List ℕ) → IsDialect o → last_cut o came ≢ 0 → chunk_piece o came chunk ≢ [] → IsWhole o (chunk_piece o came chunk)
next_whole o came chunk fit some some_piece =
    let whole : HasWhole o (chunk_piece o came chunk) = start_whole o (chunk_piece o came chunk) fit (ap (λ (s : CutState). s.place) (piece_ends o came chunk fit some)) in
    whole_some o (chunk_piece o came chunk) whole.0 whole.1 some_piece

all_first : (o : Dialect) (piece : List ℕ) (pieces : List (List ℕ)) → (piece ≢ [] → IsWhole o piece) → All (IsWhole o) pieces → All (IsWhole o) (piece_first piece pieces)
all_first o [] pieces whole all = all
all_first o (b ∷ bytes) pieces whole all = All-cons (IsWhole o) (b ∷ bytes) pieces (whole (λ none. cc)) all

later_whole : (o : Dialect) (came : List ℕ) (chunks : List (List ℕ)) → IsDialect o → last_cut o came ≢ 0 → All (IsWhole o) (pieces_after o came chunks)
later_whole o came [] fit some = All-nil (IsWhole o)
later_whole o came (chunk ∷ chunks) fit some =
    all_first o (chunk_piece o came chunk) (pieces_after o (came ++ chunk) chunks) (next_whole o came chunk fit some)
    (later_whole o (came ++ chunk) chunks fit (some_grown o came chunk some))

-- the first piece is the front of a text up to its last end
record HasFirst (o : Dialect) (came : List ℕ) (chunks : List (List ℕ)) : Type 0 where
  seen : List ℕ
  more : List ℕ
  later : List (List ℕ)
  split : came ++ concat chunks ≡ seen ++ more
  some : last_cut o seen ≢ 0
  pieces_are : pieces_after o came chunks ≡ take (last_cut o seen) seen ∷ later
  whole : All (IsWhole o) later

abbrev ShowsPieces : Dialect → List ℕ → List (List ℕ) → Type 0
ShowsPieces o came chunks = ((pieces_after o came chunks ≡ []) × (last_cut o (came ++ concat chunks) ≡ 0)) ⊎ HasFirst o came chunks

shown_later : (o : Dialect) (came chunk : List ℕ) (chunks : List (List ℕ)) → chunk_piece o came chunk ≡ [] → ShowsPieces o (came ++ chunk) chunks → ShowsPieces o came (chunk ∷ chunks)
shown_later o came chunk chunks nothing (inl (none, cut)) = inl (
  ap (λ (x : List ℕ). piece_first x (pieces_after o (came ++ chunk) chunks)) nothing ∙ none,
  ap (last_cut o) (sym (append_assoc came chunk (concat chunks))) ∙ cut,
)
shown_later o came chunk chunks nothing (inr has) = inr (record {
  seen = has.seen;
  more = has.more;
  later = has.later;
  split = sym (append_assoc came chunk (concat chunks)) ∙ has.split;
  some = has.some;
  pieces_are = ap (λ (x : List ℕ). piece_first x (pieces_after o (came ++ chunk) chunks)) nothing ∙ has.pieces_are;
  whole = has.whole;
})

first_piece : (o : Dialect) (came chunk : List ℕ) → last_cut o came ≡ 0 → chunk_piece o came chunk ≡ take (last_cut o (came ++ chunk)) (came ++ chunk)
first_piece o came chunk none = ap (λ (n : ℕ). drop n (take (last_cut o (came ++ chunk)) (came ++ chunk))) none

shown_first : (o : Dialect) (came chunk : List ℕ) (chunks : List (List ℕ)) (n : ℕ) → IsDialect o → last_cut o came ≡ 0 → last_cut o (came ++ chunk) ≡ n
    → (last_cut o (came ++ chunk) ≡ 0 → ShowsPieces o (came ++ chunk) chunks) → ShowsPieces o came (chunk ∷ chunks)
shown_first o came chunk chunks zero fit none is again =
    shown_later o came chunk chunks (first_piece o came chunk none ∙ ap (λ (n : ℕ). take n (came ++ chunk)) is) (again is)
shown_first o came chunk chunks (suc n) fit none is again =
    let some : last_cut o (came ++ chunk) ≢ 0 = λ zero. let both : suc n ≡ 0 = sym is ∙ zero in cc in
    let later : List (List ℕ) = pieces_after o (came ++ chunk) chunks in
    inr (record {
      seen = came ++ chunk;
      more = concat chunks;
      later = later;
      split = sym (append_assoc came chunk (concat chunks));
      some = some;
      pieces_are = ap (λ (x : List ℕ). piece_first x later) (first_piece o came chunk none)
          ∙ first_some (take (last_cut o (came ++ chunk)) (came ++ chunk)) later (some_front o (came ++ chunk) some);
      whole = later_whole o (came ++ chunk) chunks fit some;
    })

shown : (o : Dialect) (came : List ℕ) (chunks : List (List ℕ)) → IsDialect o → last_cut o came ≡ 0 → ShowsPieces o came chunks
shown o came [] fit none = inl (refl, ap (last_cut o) (append-nil came) ∙ none)
shown o came (chunk ∷ chunks) fit none = shown_first o came chunk chunks (last_cut o (came ++ chunk)) fit none refl (λ is. shown o (came ++ chunk) chunks fit is)

-- the first piece after its mark
pub front_size : (o : Dialect) (text : List ℕ) → length (take (last_cut o text) text) ≡ last_cut o text
front_size o text = length-take-le (last_cut o text) text (last_cut-within o text)

front_end : (o : Dialect) (text : List ℕ) → IsDialect o → last_cut o text ≢ 0 → last_cut o (take (last_cut o text) text) ≡ last_cut o text
front_end o text fit some =
    last_place-all (cut_step o) (λ (s : CutState). is_after_eol s.place) (first_state o AtOpening) (take (last_cut o text) text) (some_front o text some)
    (ap (λ (s : CutState). is_after_eol s.place) (after_cut o text fit some)) ∙ front_size o text

some_unmarked : (o : Dialect) (text : List ℕ) → IsDialect o → last_cut o text ≢ 0 → unmarked (take (last_cut o text) text) ≢ []
some_unmarked o text fit some = λ none.
    let front : List ℕ = take (last_cut o text) text in
    let all : IsPassed o AtOpening front = passed_opening o front fit in
    let nothing : drop all.mark front ≡ [] = sym (passed_text o AtOpening front all) ∙ none in
    some (sym (front_end o text fit some) ∙ all.no_end_again (ap (last_end o (start o)) nothing))

first_whole : (o : Dialect) (text : List ℕ) → IsDialect o → last_cut o text ≢ 0 → IsWhole o (unmarked (take (last_cut o text) text))
first_whole o text fit some =
    let whole = (cuts_after_whole o fit AtOpening text tt).0 in
    whole_some o (unmarked (take (last_cut o text) text)) whole.0 whole.1 (some_unmarked o text fit some)

all_whole : (o : Dialect) (chunks : List (List ℕ)) → IsDialect o → ShowsPieces o [] chunks → All (IsWhole o) (texts_unmarked (cut_pieces o chunks))
all_whole o chunks fit (inl (none, cut)) = let P : List (List ℕ) → Type 0 = λ x. All (IsWhole o) (texts_unmarked x) in subst P (sym none) (All-nil (IsWhole o))
all_whole o chunks fit (inr has) =
    let P : List (List ℕ) → Type 0 = λ x. All (IsWhole o) (texts_unmarked x) in
    subst P (sym has.pieces_are) (All-cons (IsWhole o) (unmarked (take (last_cut o has.seen) has.seen)) has.later (first_whole o has.seen fit has.some) has.whole)

pub cuts_whole : (o : Dialect) → IsDialect o → CutsWhole o
cuts_whole o fit = λ chunks. all_whole o chunks fit (shown o [] chunks fit refl)

-- without a cut, the rest is the text
rest_all : (o : Dialect) (chunks : List (List ℕ)) → last_cut o (concat chunks) ≡ 0 → cut_rest o chunks ≡ concat chunks
rest_all o chunks none = ap (λ (n : ℕ). drop n (concat chunks)) none

no_whole : (o : Dialect) (chunks : List (List ℕ)) → IsDialect o → ShowsPieces o [] chunks → BeginsNoWholeRecord o (rest_unmarked (cut_pieces o chunks) (cut_rest o chunks))
no_whole o chunks fit (inl (none, cut)) =
    let P : List ℕ → Type 0 = λ x. BeginsNoWholeRecord o x in
    let same : rest_unmarked (cut_pieces o chunks) (cut_rest o chunks) ≡ unmarked (concat chunks) =
    ap (λ (x : List (List ℕ)). rest_unmarked x (cut_rest o chunks)) none ∙ ap unmarked (rest_all o chunks cut) in
    subst P (sym same) ((finds_no_end o fit AtOpening (concat chunks) tt).0 cut)
no_whole o chunks fit (inr has) =
    let text : List ℕ = concat chunks in
    let P : List ℕ → Type 0 = λ x. BeginsNoWholeRecord o x in
    let Q : List ℕ → Type 0 = λ x. last_cut o x ≢ 0 in
    let some : last_cut o text ≢ 0 = subst Q (sym has.split) (some_grown o has.seen has.more has.some) in
    subst P (sym (ap (λ (x : List (List ℕ)). rest_unmarked x (cut_rest o chunks)) has.pieces_are))
    ((finds_no_end o fit AfterEol (cut_rest o chunks) tt).0 (passes_what_is_left o fit AtOpening text tt some).0)

pub leaves_no_whole : (o : Dialect) → IsDialect o → LeavesNoWhole o
leaves_no_whole o fit = λ chunks. no_whole o chunks fit (shown o [] chunks fit refl)

has_mark : (o : Dialect) (chunks : List (List ℕ)) → IsDialect o → ShowsPieces o [] chunks → first_mark (cut_texts o chunks) ≡ mark_len (concat chunks)
has_mark o chunks fit (inl (none, cut)) = ap (λ (x : List (List ℕ)). first_mark (x ++ cut_rest o chunks ∷ [])) none ∙ ap mark_len (rest_all o chunks cut)
has_mark o chunks fit (inr has) =
    let front : List ℕ = take (last_cut o has.seen) has.seen in
    let left : List ℕ = drop (last_cut o has.seen) has.seen in
    let split : concat chunks ≡ front ++ (left ++ has.more) =
    has.split ∙ ap (λ (x : List ℕ). x ++ has.more) (sym (take-append-drop (last_cut o has.seen) has.seen)) ∙ append_assoc front left has.more in
    ap (λ (x : List (List ℕ)). first_mark (x ++ cut_rest o chunks ∷ [])) has.pieces_are
    ∙ sym (mark_len-front o front (left ++ has.more) fit (ap (λ (s : CutState). s.place) (after_cut o has.seen fit has.some)))
    ∙ ap mark_len (sym split)

pub marks_first : (o : Dialect) → IsDialect o → MarksFirst o
marks_first o fit = λ chunks. has_mark o chunks fit (shown o [] chunks fit refl)

-- the record that is under way begins at the last cut, or where there is none after the mark
pub begin_at_cut : (o : Dialect) (text : List ℕ) → IsDialect o → last_cut o text ≢ 0 → last_begin o (first_state o AtOpening) text ≡ last_cut o text
begin_at_cut o text fit some =
    let opening : CutState = first_state o AtOpening in
    let begins : CutState → Bool = λ s. begins_record s.place in
    let n : ℕ = last_cut o text in
    let front : List ℕ = take n text in
    let left : List ℕ = drop n text in
    let after : cut_after o opening front ≡ start o = after_cut o text fit some in
    let none : last_begin o (cut_after o opening front) left ≡ 0 =
    ap (λ (s : CutState). last_begin o s left) after ∙ begin_is_end o (start o) left tt ∙ (passes_what_is_left o fit AtOpening text tt some).0 in
    ap (last_begin o opening) (sym (take-append-drop n text))
    ∙ last_place-append (cut_step o) begins opening front left
    ∙ ap (joined_place (last_begin o opening front) (length front)) none
    ∙ last_place-all (cut_step o) begins opening front (some_front o text some) (ap begins after)
    ∙ front_size o text

pub begin_at_mark : (o : Dialect) (text : List ℕ) → IsDialect o → last_cut o text ≡ 0 → last_begin o (first_state o AtOpening) text ≡ mark_len text
begin_at_mark o text fit none =
    let all : IsPassed o AtOpening text = passed_opening o text fit in
    let left : last_end o (start o) (drop all.mark text) ≡ 0 = all.no_end none in
    let begin : last_begin o (first_state o AtOpening) text ≡ all.mark + last_end o (start o) (drop all.mark text) = all.begin in
    let same : mark_len text ≡ all.mark = all.mark_is in omega arith

begin_at_rest : (o : Dialect) (chunks : List (List ℕ)) → IsDialect o → ShowsPieces o [] chunks
    → last_begin o (first_state o AtOpening) (concat chunks) ≡ rest_begins (cut_pieces o chunks) (cut_rest o chunks)
begin_at_rest o chunks fit (inl (none, cut)) =
    begin_at_mark o (concat chunks) fit cut ∙ ap mark_len (sym (rest_all o chunks cut)) ∙ sym (ap (λ (x : List (List ℕ)). rest_begins x (cut_rest o chunks)) none)
begin_at_rest o chunks fit (inr has) =
    let text : List ℕ = concat chunks in
    let P : List ℕ → Type 0 = λ x. last_cut o x ≢ 0 in
    let some : last_cut o text ≢ 0 = subst P (sym has.split) (some_grown o has.seen has.more has.some) in
    begin_at_cut o text fit some ∙ sym (front_size o text) ∙ ap length (sym (pieces_are_front o chunks))
    ∙ ap (λ (x : List (List ℕ)). length (concat x)) has.pieces_are
    ∙ sym (ap (λ (x : List (List ℕ)). rest_begins x (cut_rest o chunks)) has.pieces_are)

pub begun_of : (o : Dialect) (file : ℕ) (text : List ℕ) → (fed_with (cut_opening o file) text).begun ≡ last_begin o (first_state o AtOpening) text
begun_of o file text =
    let same : 0 + last_begin o (first_state o AtOpening) text ≡ last_begin o (first_state o AtOpening) text = omega arith in
    counts_begun o (first_state o AtOpening) 0 text ∙ same

pub begins_with_rest : (o : Dialect) → IsDialect o → BeginsWithRest o
begins_with_rest o fit = λ file chunks. begun_of o file (concat chunks) ∙ begin_at_rest o chunks fit (shown o [] chunks fit refl)

-- the rest is what stands from there on
rest_from : (pieces : List (List ℕ)) (rest text : List ℕ) → concat pieces ++ rest ≡ text → drop (rest_begins pieces rest) text ≡ rest_unmarked pieces rest
rest_from [] rest text split = ap (drop (mark_len rest)) (sym split)
rest_from (piece ∷ pieces) rest text split =
    ap (drop (length (concat (piece ∷ pieces)))) (sym split) ∙ drop_at (concat (piece ∷ pieces)) rest (length (concat (piece ∷ pieces))) refl

pub ends_with_rest : (o : Dialect) → IsDialect o → EndsWithRest o
ends_with_rest o fit = λ file chunks may_end.
    let pieces : List (List ℕ) = cut_pieces o chunks in
    let rest : List ℕ = cut_rest o chunks in
    let left : drop (last_begin o (first_state o AtOpening) (concat chunks)) (concat chunks) ≡ rest_unmarked pieces rest =
    ap (λ (n : ℕ). drop n (concat chunks)) (begin_at_rest o chunks fit (shown o [] chunks fit refl)) ∙ rest_from pieces rest (concat chunks) (joins_cut_texts o chunks) in
    let P : List ℕ → Type 0 = λ x. x ≢ [] → (r : CsvRecord) × IsRecord o r x [] in
    subst P left (ends_with_record o fit AtOpening (concat chunks) tt may_end)
