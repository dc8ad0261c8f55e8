-- The bytes of a file that were asked, its last cut among them, and the blocks between two cuts.
use Rattle.std.proofs.Common.{◌≡◌, ◌≢◌, ℕ, zero, suc, ◌+◌, ◌-◌, ◌<◌, ◌≤◌, ap, sym, subst, refl, ◌∙◌, inl, inr, arith}
use Rattle.std.proofs.Math.Seq.{take-add}
use Rattle.std.proofs.lemmas.List.{take_all, take-take, take-append-drop, drop-take, length-take-le, length-drop}
use Rattle.std.specs.Prelude.{◌==◌, ◌&&◌, Bool, true, false, if◌then◌else◌, Some, List, [], ◌∷◌, ◌++◌, length, take, drop, slice_range}
use Rattle.morsel_grammar.specs.Dialect.{Dialect, IsDialect}
use Rattle.morsel_grammar.specs.Grammar.{CsvRecord, IsRecord, Records}
use Rattle.morsel_grammar.specs.Rows.{mark_len, unmarked}
use Rattle.morsel_grammar.specs.GrammarRows.{AreWholeRecords}
use Rattle.morsel_grammar.specs.Machine.{CutState, CutPlace, AtOpening, AfterEol, joined_place, first_state, cut_after, last_end, last_begin, RefusesEnd}
use Rattle.morsel_grammar.specs.Cuts.{BeginsNoWholeRecord, IsFirstPlace, text_from}
use Rattle.morsel_grammar.proofs.RunLemmas.{last_end-append, cut_after-append}
use Rattle.morsel_grammar.proofs.CutLemmas.{cuts_after_whole, passes_what_is_left, finds_no_end, ends_with_record, begins_after_whole}
use Rattle.morsel_grammar.proofs.OpeningCutLemmas.{mark_len-front}
use Rattle.morsel_grammar.proofs.WholeRecordLemmas.{whole_are_records, splits_behind_whole}
use Rattle.morsel_cut.specs.Pieces.{last_cut}
use Rattle.morsel_cut.proofs.PieceLemmas.{last_cut-within, cut_none, cut_some, chunk_end}
use Rattle.morsel_cut.proofs.PieceWholeLemmas.{after_cut}
use Rattle.morsel_scan.specs.FileReads.{text_at, HoldsNoRecord}
use Rattle.morsel_scan.specs.Blocks.{IsBlock, compression_code, zstd_code}

-- what is between two places of a front is so of the whole
pub drop_of_take : (given at : ℕ) (bytes : List ℕ) → given ≤ at → drop given (take at bytes) ≡ slice_range bytes given at
drop_of_take given at bytes order =
    let same : given + (at - given) ≡ at = omega arith in
    ap (λ (n : ℕ). drop given (take n bytes)) (sym same) ∙ drop-take given (at - given) bytes

pub asked_more : (asked len : ℕ) (bytes piece : List ℕ) → slice_range bytes asked (asked + len) ≡ piece → take (asked + len) bytes ≡ take asked bytes ++ piece
asked_more asked len bytes piece held =
    let same : asked + len - asked ≡ len = omega arith in
    take-add asked len bytes ∙ ap (λ (x : List ℕ). take asked bytes ++ x) (ap (λ (n : ℕ). take n (drop asked bytes)) (sym same) ∙ held)

-- at a last cut what is held begins with no whole record
pub holds_no_record : (o : Dialect) (bytes : List ℕ) (given at : ℕ) → IsDialect o → at ≤ length bytes → given ≡ last_cut o (take at bytes) → HoldsNoRecord o bytes given at
holds_no_record o bytes zero at fit within cut =
    let came : List ℕ = take at bytes in
    let P : List ℕ → Type 0 = λ x. BeginsNoWholeRecord o (unmarked x) in
    let same : take at bytes ≡ take (at - 0) bytes = let n : at ≡ at - 0 = omega arith in ap (λ (k : ℕ). take k bytes) n in
    subst P same ((finds_no_end o fit AtOpening came tt).0 (sym cut))
holds_no_record o bytes (suc given) at fit within cut =
    let came : List ℕ = take at bytes in
    let P : List ℕ → Type 0 = λ x. BeginsNoWholeRecord o x in
    let some : last_cut o came ≢ 0 = λ none. let both : suc given ≡ 0 = cut ∙ none in cc in
    let order : suc given ≤ at = omega (arith, cut, last_cut-within o came, length-take-le at bytes within) in
    let same : drop (last_cut o came) came ≡ slice_range bytes (suc given) at = ap (λ (n : ℕ). drop n came) (sym cut) ∙ drop_of_take (suc given) at bytes order in
    subst P same ((finds_no_end o fit AfterEol (drop (last_cut o came) came) tt).0 (passes_what_is_left o fit AtOpening came tt some).0)

-- the end of what comes after a cut
joined_is : (before given m cut len : ℕ) → joined_place before given m ≡ cut → before ≤ given → cut ≡ given + len → 0 < len → m ≡ len
joined_is before given zero cut len is within cut_is some = absurd (omega arith)
joined_is before given (suc m) cut len is within cut_is some = omega arith

next_end : (o : Dialect) (came later : List ℕ) (given len : ℕ) → IsDialect o → given ≢ 0 → given ≡ last_cut o came → take given later ≡ take given came → given ≤ length later
    → given + len ≡ last_cut o later → 0 < len → last_end o (first_state o AfterEol) (drop given later) ≡ len
next_end o came later given len fit some cut same within next more =
    let opening : CutState = first_state o AtOpening in
    let front : List ℕ = take given later in
    let size : length front ≡ given = length-take-le given later within in
    let some_cut : last_cut o came ≢ 0 = λ none. some (cut ∙ none) in
    let after : cut_after o opening front ≡ first_state o AfterEol =
    ap (cut_after o opening) (same ∙ ap (λ (n : ℕ). take n came) cut) ∙ after_cut o came fit some_cut in
    let end : ℕ = last_end o (first_state o AfterEol) (drop given later) in
    let joined : joined_place (last_cut o front) given end ≡ last_cut o later =
    ap (λ (s : CutState). joined_place (last_cut o front) given (last_end o s (drop given later))) (sym after)
    ∙ ap (λ (n : ℕ). joined_place (last_cut o front) n (last_end o (cut_after o opening front) (drop given later))) (sym size)
    ∙ sym (last_end-append o opening front (drop given later))
    ∙ ap (last_cut o) (take-append-drop given later) in
    joined_is (last_cut o front) given end (last_cut o later) len joined (omega (arith, last_cut-within o front)) (sym next) more

-- a text of whole records
abbrev pub IsWholeText : Dialect → List ℕ → Type 0
IsWholeText o text = (records : List CsvRecord) × AreWholeRecords o text records

-- what is between two cuts is whole records
between_cuts : (o : Dialect) (came later : List ℕ) (given len : ℕ) → IsDialect o → given ≡ last_cut o came → take given later ≡ take given came → given ≤ length later
    → given + len ≡ last_cut o later → 0 < len → IsWholeText o (text_at given (take len (drop given later)))
between_cuts o came later zero len fit cut same within next more =
    let is : last_cut o later ≡ len = omega arith in
    subst (λ (n : ℕ). IsWholeText o (unmarked (take n later))) is (cuts_after_whole o fit AtOpening later tt).0
between_cuts o came later (suc given) len fit cut same within next more =
    let is = next_end o came later (suc given) len fit (λ none. cc) cut same within next more in
    subst (λ (n : ℕ). IsWholeText o (take n (drop (suc given) later))) is (cuts_after_whole o fit AfterEol (drop (suc given) later) tt).0

-- the bytes up to a cut have the mark of the file
mark_before_cut : (o : Dialect) (bytes : List ℕ) (at cut : ℕ) → IsDialect o → cut ≡ last_cut o (take at bytes) → cut ≢ 0 → cut ≤ at → mark_len (take cut bytes) ≡ mark_len bytes
mark_before_cut o bytes at cut fit is some order =
    let came : List ℕ = take at bytes in
    let some_cut : last_cut o came ≢ 0 = λ none. some (is ∙ none) in
    let front : take (last_cut o came) came ≡ take cut bytes = ap (λ (n : ℕ). take n came) (sym is) ∙ take-take cut at bytes order in
    let after : (cut_after o (first_state o AtOpening) (take cut bytes)).place ≡ AfterEol =
    ap (λ (x : List ℕ). (cut_after o (first_state o AtOpening) x).place) (sym front) ∙ ap (λ (s : CutState). s.place) (after_cut o came fit some_cut) in
    sym (mark_len-front o (take cut bytes) (drop cut bytes) fit after) ∙ ap mark_len (take-append-drop cut bytes)

-- the bytes between two cuts are a block
pub is_block : (o : Dialect) (bytes held : List ℕ) (asked next given len : ℕ) → IsDialect o → asked ≤ next → next ≤ length bytes → given ≡ last_cut o (take asked bytes)
    → given + len ≡ last_cut o (take next bytes) → 0 < len → held ≡ drop given (take next bytes) → IsBlock o bytes given (take len held)
is_block o bytes held asked next given len fit order within cut next_cut more held_is =
    let came : List ℕ = take asked bytes in
    let later : List ℕ = take next bytes in
    let asked_size : length came ≡ asked = let fits : asked ≤ length bytes = omega arith in length-take-le asked bytes fits in
    let size : length later ≡ next = length-take-le next bytes within in
    let before : given ≤ asked = omega (arith, cut, last_cut-within o came, asked_size) in
    let to : given + len ≤ next = omega (arith, next_cut, last_cut-within o later, size) in
    let front : take given later ≡ take given came =
    take-take given next bytes (omega arith) ∙ sym (take-take given asked bytes before) in
    let whole = between_cuts o came later given len fit cut front (omega arith) next_cut more in
    let block_is : take len held ≡ take len (drop given bytes) =
    ap (take len) held_is ∙ sym (drop-take given len later) ∙ ap (drop given) (take-take (given + len) next bytes to) ∙ drop-take given len bytes in
    let block_size : length (take len (drop given bytes)) ≡ len = length-take-le len (drop given bytes) (omega (arith, length-drop given bytes)) in
    let text : IsWholeText o (text_at given (take len held)) =
    subst (λ (x : List ℕ). IsWholeText o (text_at given (take len x))) (sym held_is) whole in
    let is_size : length (take len held) ≡ len = ap length block_is ∙ block_size in
    let len_is : given + length (take len held) - given ≡ len = omega arith in
    record {
      some = omega arith;
      held = ap (λ (n : ℕ). take n (drop given bytes)) len_is ∙ sym block_is;
      records = text.0;
      split = whole_are_records o fit (text_at given (take len held)) text.0 text.1;
      ends = inl text.1;
      mark = λ none.
          let cut_is : len ≡ last_cut o later = omega arith in
          let same : take len (drop given bytes) ≡ take len bytes = ap (λ (n : ℕ). take len (drop n bytes)) none in
          ap mark_len (block_is ∙ same) ∙ mark_before_cut o bytes next len fit cut_is (λ zero_len. let z : len ≡ 0 = zero_len in omega arith) (omega arith);
    }

-- the records from a place on to the end of the bytes
abbrev pub HasRecords : Dialect → List ℕ → Type 0
HasRecords o text = (records : List CsvRecord) × Records o text records

left_are : (o : Dialect) (left : List ℕ) → (left ≢ [] → (r : CsvRecord) × IsRecord o r left []) → HasRecords o left
left_are o [] is = ([], refl)
left_are o (b ∷ left) is = let some : b ∷ left ≢ [] = λ none. cc in let one = is some in (one.0 ∷ [], (some, [], one.1, refl))

-- bytes that may end are records
records_to_end : (o : Dialect) (place : CutPlace) (bytes : List ℕ) → IsDialect o → IsFirstPlace place → (RefusesEnd (cut_after o (first_state o place) bytes) → ⊥) → HasRecords o (text_from place bytes)
records_to_end o place bytes fit first may_end =
    let before = begins_after_whole o fit place bytes first in
    let n : ℕ = last_begin o (first_state o place) bytes in
    let left = left_are o (drop n bytes) (ends_with_record o fit place bytes first may_end) in (
      before.1 ++ left.0,
      subst (λ (x : List ℕ). Records o x (before.1 ++ left.0)) (sym before.3)
          ((splits_behind_whole o fit before.0 (drop n bytes) before.1 left.0 before.2).1 left.1),
    )

-- bytes from an earlier cut on are records, where the file may end
records_from_cut : (o : Dialect) (bytes : List ℕ) (at given : ℕ) → IsDialect o → at ≤ length bytes → given ≡ last_cut o (take at bytes)
    → (RefusesEnd (cut_after o (first_state o AtOpening) bytes) → ⊥) → HasRecords o (text_at given (drop given bytes))
records_from_cut o bytes at zero fit within cut may_end = records_to_end o AtOpening bytes fit tt may_end
records_from_cut o bytes at (suc given) fit within cut may_end =
    let opening : CutState = first_state o AtOpening in
    let came : List ℕ = take at bytes in
    let some : last_cut o came ≢ 0 = λ none. let both : suc given ≡ 0 = cut ∙ none in cc in
    let order : suc given ≤ at = omega (arith, cut, last_cut-within o came, length-take-le at bytes within) in
    let front : take (last_cut o came) came ≡ take (suc given) bytes = ap (λ (n : ℕ). take n came) (sym cut) ∙ take-take (suc given) at bytes order in
    let state : cut_after o (first_state o AfterEol) (drop (suc given) bytes) ≡ cut_after o opening bytes =
    ap (λ (s : CutState). cut_after o s (drop (suc given) bytes)) (sym (after_cut o came fit some) ∙ ap (cut_after o opening) front)
    ∙ sym (cut_after-append o opening (take (suc given) bytes) (drop (suc given) bytes))
    ∙ ap (cut_after o opening) (take-append-drop (suc given) bytes) in
    records_to_end o AfterEol (drop (suc given) bytes) fit tt (λ refused. may_end (subst RefusesEnd state refused))

pub is_last_block : (o : Dialect) (bytes held : List ℕ) (at given len : ℕ) → IsDialect o → at ≤ length bytes → given ≡ last_cut o (take at bytes) → held ≡ drop given bytes → len ≡ length held → 0 < len
    → (RefusesEnd (cut_after o (first_state o AtOpening) bytes) → ⊥) → IsBlock o bytes given (take len held)
is_last_block o bytes held at given len fit within cut held_is len_is more may_end =
    let all : take len held ≡ held = let over : length held ≤ len = omega arith in take_all len held over in
    let left = records_from_cut o bytes at given fit within cut may_end in
    let is : take len held ≡ drop given bytes = all ∙ held_is in
    let size : length (take len held) ≡ length bytes - given = ap length is ∙ length-drop given bytes in
    let some : 0 < length (take len held) = let same : length (take len held) ≡ length held = ap length all in omega arith in
    let to : given + length (take len held) - given ≡ length (drop given bytes) = let same : length (take len held) ≡ length (drop given bytes) = ap length is in omega arith in
    let rest : take (length (drop given bytes)) (drop given bytes) ≡ drop given bytes = let over : length (drop given bytes) ≤ length (drop given bytes) = omega arith in take_all (length (drop given bytes)) (drop given bytes) over in
    record {
      some = some;
      held = ap (λ (n : ℕ). take n (drop given bytes)) to ∙ rest ∙ sym is;
      records = left.0;
      split = subst (λ (x : List ℕ). Records o (text_at given x) left.0) (sym is) left.1;
      ends = inr (omega arith);
      mark = λ none.
          let same : drop given bytes ≡ bytes = ap (λ (n : ℕ). drop n bytes) none in
          ap mark_len (is ∙ same);
    }

-- the end of a chunk in the bytes that are held is the next cut
end_in_held : (held n len : ℕ) → len ≡ joined_place 0 held n → 0 < len → (n ≢ 0) × (len ≡ held + n)
end_in_held held zero len is more = absurd (omega arith)
end_in_held held (suc n) len is more = (λ none. cc, is)

no_end_in_held : (held n : ℕ) → 0 ≡ joined_place 0 held n → n ≡ 0
no_end_in_held held zero is = refl
no_end_in_held held (suc n) is = absurd (omega arith)

pub cut_stays : (o : Dialect) (came piece : List ℕ) (held : ℕ) → 0 ≡ joined_place 0 held (chunk_end o came piece) → last_cut o (came ++ piece) ≡ last_cut o came
cut_stays o came piece held is = cut_none o came piece (no_end_in_held held (chunk_end o came piece) is)

pub cut_moves : (o : Dialect) (came piece : List ℕ) (given held len : ℕ) → len ≡ joined_place 0 held (chunk_end o came piece) → 0 < len → given + held ≡ length came
    → given + len ≡ last_cut o (came ++ piece)
cut_moves o came piece given held len is more size =
    let end = end_in_held held (chunk_end o came piece) len is more in
    let next : last_cut o (came ++ piece) ≡ length came + chunk_end o came piece = cut_some o came piece end.0 in
    omega (arith, end.1)

-- the beginning of a file tells its compression
zstd-front : (front more : List ℕ) (code : ℕ) → zstd_code front ≡ Some code → zstd_code (front ++ more) ≡ Some code
zstd-front [] more code is = cc
zstd-front (a ∷ []) more code is = cc
zstd-front (a ∷ b ∷ []) more code is = cc
zstd-front (a ∷ b ∷ c ∷ []) more code is = cc
zstd-front (a ∷ b ∷ c ∷ d ∷ front) more code is = is

pub compression-front : (front more : List ℕ) (code : ℕ) → compression_code front ≡ Some code → compression_code (front ++ more) ≡ Some code
compression-front [] more code is = cc
compression-front (a ∷ []) more code is = cc
compression-front (a ∷ b ∷ front) more code is = by_test (a == 31 && b == 139) is
  where
    by_test : (t : Bool) → (if t then Some 31 else zstd_code (a ∷ b ∷ front)) ≡ Some code → (if t then Some 31 else zstd_code (a ∷ b ∷ (front ++ more))) ≡ Some code
    by_test true is = is
    by_test false is = zstd-front (a ∷ b ∷ front) more code is
