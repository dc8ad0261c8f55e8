-- The machine that finds cuts over a whole file, with its byte order mark or without.
use Rattle.std.proofs.Common.{◌≡◌, ℕ, zero, suc, ◌+◌, ◌<◌, ◌≤◌, ap, sym, refl, ◌∙◌, arith}
use Rattle.std.specs.Prelude.{Bool, true, false, ◌&&◌, ◌==◌, if◌then◌else◌, Option, Some, None, List, [], ◌∷◌, ◌++◌, length}
use Rattle.morsel_grammar.specs.Dialect.{Dialect, IsDialect, IsQuoteFor, IsCommentFor}
use Rattle.morsel_grammar.specs.Split.{is_quote}
use Rattle.morsel_grammar.specs.Rows.{mark_len}
use Rattle.morsel_grammar.specs.Machine.{CutPlace, CutState, AtOpening, InMarkOne, InMarkTwo, AfterMark, AfterEol, InPlain, place_or_later, plain_step, first_step, place_step, is_after_eol, begins_record, no_byte_matched, matched_step, first_state, state_at, cut_step, cut_after, last_end, last_begin}
use Rattle.morsel_grammar.specs.Cuts.{IsFirstPlace, PassesMark}
use Rattle.morsel_grammar.proofs.ByteLemmas.{same_byte, other_byte}
use Rattle.morsel_grammar.proofs.FieldRunLemmas.{plain_step-on, first_step-plain}
use Rattle.morsel_grammar.proofs.RunLemmas.{lone, step_on, step_lost, state_at-lost}
use Rattle.morsel_grammar.proofs.FirstEndLemmas.{start}
use Rattle.morsel_grammar.proofs.MarkCutLemmas.{same_step, same_later, show_after, show_neither, show_places, mark_show, mark_end, mark_begin, IsPassed, passed_same, passed_shown, passed_eol, passed_mark}

-- a byte from 128 on is text
high_other : (b c : ℕ) → 128 ≤ b → c < 128 → (b == c) ≡ false
high_other b c high low = other_byte b c (λ e. let same : b ≡ c = e in absurd (omega arith))

high_no_quote : (separator eol b : ℕ) (quote : Option ℕ) → IsQuoteFor separator eol quote → 128 ≤ b → is_quote quote b ≡ false
high_no_quote separator eol b None fit high = refl
high_no_quote separator eol b (Some q) fit high = high_other b q high fit.0

high_plain : (o : Dialect) (b : ℕ) → IsDialect o → 128 ≤ b → plain_step o b ≡ InPlain
high_plain o b fit high = plain_step-on o b (high_other b o.separator high fit.separator_ascii) (high_other b o.eol high fit.eol_ascii)

high_first : (o : Dialect) (b : ℕ) → IsDialect o → 128 ≤ b → first_step o b ≡ InPlain
high_first o b fit high = first_step-plain o b (high_no_quote o.separator o.eol b o.quote fit.quote high) ∙ high_plain o b fit high

high_unmatched : (eol b : ℕ) (prefix : Option (List ℕ)) → IsCommentFor eol prefix → 128 ≤ b → matched_step prefix (no_byte_matched prefix) b ≡ None
high_unmatched eol b None fit high = refl
high_unmatched eol b (Some []) fit high = absurd fit
high_unmatched eol b (Some (c ∷ prefix)) fit high =
    let low : c < 128 = fit.0.0 in
    ap (λ (t : Bool). if t then Some (0 + 1) else None) (other_byte c b (λ e. let same : c ≡ b = e in absurd (omega arith)))

-- the first byte
mark_byte : (a n : ℕ) → (a == n) ≡ true → 128 ≤ n → 128 ≤ a
mark_byte a n is high = let same : a ≡ n = same_byte a n is in omega arith

first_byte : (o : Dialect) (place next : CutPlace) (b : ℕ) → IsDialect o → 128 ≤ b → place_step o place b ≡ next → begins_record next ≡ false
    → cut_step o (first_state o place) b ≡ lone next
first_byte o place next b fit high is goes =
    ap (λ (m : Option ℕ). state_at o m (place_step o place b)) (high_unmatched o.eol b o.comment fit.comment high)
    ∙ ap (state_at o None) is ∙ state_at-lost o next goes

open_one : (o : Dialect) (a : ℕ) → IsDialect o → (a == 239) ≡ true → cut_step o (first_state o AtOpening) a ≡ lone InMarkOne
open_one o a fit is = first_byte o AtOpening InMarkOne a fit (mark_byte a 239 is (omega arith)) (rw is refl) refl

start_one : (o : Dialect) (a : ℕ) → IsDialect o → (a == 239) ≡ true → cut_step o (start o) a ≡ lone InPlain
start_one o a fit is = first_byte o AfterEol InPlain a fit (mark_byte a 239 is (omega arith)) (high_first o a fit (mark_byte a 239 is (omega arith))) refl

open_two : (o : Dialect) (b : ℕ) → (b == 187) ≡ true → cut_step o (lone InMarkOne) b ≡ lone InMarkTwo
open_two o b is = step_on o InMarkOne InMarkTwo b (rw is refl) refl

start_two : (o : Dialect) (b : ℕ) → IsDialect o → (b == 187) ≡ true → cut_step o (lone InPlain) b ≡ lone InPlain
start_two o b fit is = step_on o InPlain InPlain b (high_plain o b fit (mark_byte b 187 is (omega arith))) refl

open_three : (o : Dialect) (c : ℕ) → (c == 191) ≡ true → cut_step o (lone InMarkTwo) c ≡ first_state o AfterMark
open_three o c is =
    let marks : place_step o InMarkTwo c ≡ AfterMark = rw is refl in step_lost o InMarkTwo c ∙ ap (state_at o None) marks

-- a byte that is not the mark's is passed as another place passes it
other_first : (o : Dialect) (a : ℕ) → (a == 239) ≡ false → cut_step o (first_state o AtOpening) a ≡ cut_step o (start o) a
other_first o a other =
    let same : place_step o AtOpening a ≡ place_step o AfterEol a = rw other refl in
    ap (state_at o (matched_step o.comment (no_byte_matched o.comment) a)) same

other_lone : (o : Dialect) (place : CutPlace) (b : ℕ) → place_step o place b ≡ place_step o InPlain b → cut_step o (lone place) b ≡ cut_step o (lone InPlain) b
other_lone o place b same = ap (state_at o (matched_step o.comment None b)) same

-- which bytes are the mark
mark_test : (a b c : ℕ) (r s t : Bool) → (a == 239) ≡ r → (b == 187) ≡ s → (c == 191) ≡ t → (a == 239 && (b == 187 && c == 191)) ≡ (r && (s && t))
mark_test a b c r s t a_is b_is c_is = rw (a_is, b_is, c_is) refl

mark_len_all : (a b c : ℕ) (bytes : List ℕ) (t : Bool) → (a == 239 && (b == 187 && c == 191)) ≡ t → mark_len (a ∷ b ∷ c ∷ bytes) ≡ (if t then 3 else 0)
mark_len_all a b c bytes t is = ap (λ (t : Bool). if t then 3 else 0) is

no_mark_first : (a : ℕ) (bs : List ℕ) → (a == 239) ≡ false → mark_len (a ∷ bs) ≡ 0
no_mark_first a [] other = refl
no_mark_first a (b ∷ []) other = refl
no_mark_first a (b ∷ c ∷ bs) other = mark_len_all a b c bs false (mark_test a b c false (b == 187) (c == 191) other refl refl)

no_mark_second : (a b : ℕ) (bs : List ℕ) → (a == 239) ≡ true → (b == 187) ≡ false → mark_len (a ∷ b ∷ bs) ≡ 0
no_mark_second a b [] is other = refl
no_mark_second a b (c ∷ bs) is other = mark_len_all a b c bs false (mark_test a b c true false (c == 191) is other refl)

no_mark_third : (a b c : ℕ) (bs : List ℕ) → (a == 239) ≡ true → (b == 187) ≡ true → (c == 191) ≡ false → mark_len (a ∷ b ∷ c ∷ bs) ≡ 0
no_mark_third a b c bs is also other = mark_len_all a b c bs false (mark_test a b c true true false is also other)

-- the mark, and what follows it
end_step : (o : Dialect) (s t : CutState) (b : ℕ) (bs : List ℕ) → cut_step o s b ≡ t → last_end o s (b ∷ bs) ≡ place_or_later (is_after_eol t.place) (last_end o t bs)
end_step o s t b bs is = ap (λ (x : CutState). place_or_later (is_after_eol x.place) (last_end o x bs)) is

begin_step : (o : Dialect) (s t : CutState) (b : ℕ) (bs : List ℕ) → cut_step o s b ≡ t → last_begin o s (b ∷ bs) ≡ place_or_later (begins_record t.place) (last_begin o t bs)
begin_step o s t b bs is = ap (λ (x : CutState). place_or_later (begins_record x.place) (last_begin o x bs)) is

after_step : (o : Dialect) (s t : CutState) (b : ℕ) (bs : List ℕ) → cut_step o s b ≡ t → cut_after o s (b ∷ bs) ≡ cut_after o t bs
after_step o s t b bs is = ap (λ (x : CutState). cut_after o x bs) is

third_begin : (n : ℕ) → place_or_later false (place_or_later false (place_or_later true n)) ≡ 3 + n
third_begin zero = refl
third_begin (suc n) = omega arith

third_end : (n : ℕ) → place_or_later false (place_or_later false (place_or_later false n)) ≡ 0 → n ≡ 0
third_end zero none = refl
third_end (suc n) none = cc

third_end_again : (n : ℕ) → n ≡ 0 → place_or_later false (place_or_later false (place_or_later false n)) ≡ 0
third_end_again n none = ap (λ (n : ℕ). place_or_later false (place_or_later false (place_or_later false n))) none

after_mark : (o : Dialect) (a b c : ℕ) (bs : List ℕ) → IsDialect o → (a == 239) ≡ true → (b == 187) ≡ true → (c == 191) ≡ true
    → cut_after o (first_state o AtOpening) (a ∷ b ∷ c ∷ bs) ≡ cut_after o (first_state o AfterMark) bs
after_mark o a b c bs fit one two three =
    after_step o (first_state o AtOpening) (lone InMarkOne) a (b ∷ c ∷ bs) (open_one o a fit one)
    ∙ after_step o (lone InMarkOne) (lone InMarkTwo) b (c ∷ bs) (open_two o b two)
    ∙ after_step o (lone InMarkTwo) (first_state o AfterMark) c bs (open_three o c three)

passed_whole : (o : Dialect) (a b c : ℕ) (bs : List ℕ) → IsDialect o → (a == 239) ≡ true → (b == 187) ≡ true → (c == 191) ≡ true → IsPassed o AtOpening (a ∷ b ∷ c ∷ bs)
passed_whole o a b c bs fit one two three =
    let opening : CutState = first_state o AtOpening in
    let marked : CutState = first_state o AfterMark in
    let end : last_end o opening (a ∷ b ∷ c ∷ bs) ≡ place_or_later false (place_or_later false (place_or_later false (last_end o (start o) bs))) =
    end_step o opening (lone InMarkOne) a (b ∷ c ∷ bs) (open_one o a fit one)
    ∙ ap (place_or_later false) (end_step o (lone InMarkOne) (lone InMarkTwo) b (c ∷ bs) (open_two o b two))
    ∙ ap (λ (n : ℕ). place_or_later false (place_or_later false n)) (end_step o (lone InMarkTwo) marked c bs (open_three o c three))
    ∙ ap (λ (n : ℕ). place_or_later false (place_or_later false (place_or_later false n))) (mark_end o bs) in
    let after : cut_after o opening (a ∷ b ∷ c ∷ bs) ≡ cut_after o marked bs = after_mark o a b c bs fit one two three in
    record {
      mark = 3;
      mark_is = mark_len_all a b c bs true (mark_test a b c true true true one two three);
      begin = begin_step o opening (lone InMarkOne) a (b ∷ c ∷ bs) (open_one o a fit one)
          ∙ ap (place_or_later false) (begin_step o (lone InMarkOne) (lone InMarkTwo) b (c ∷ bs) (open_two o b two))
          ∙ ap (λ (n : ℕ). place_or_later false (place_or_later false n)) (begin_step o (lone InMarkTwo) marked c bs (open_three o c three))
          ∙ third_begin (last_begin o marked bs) ∙ ap (λ (n : ℕ). 3 + n) (mark_begin o bs);
      no_end = λ none. third_end (last_end o (start o) bs) (sym end ∙ none);
      no_end_again = λ none. end ∙ third_end_again (last_end o (start o) bs) none;
      show = show_after (cut_after o opening (a ∷ b ∷ c ∷ bs)) (cut_after o marked bs) (cut_after o (start o) bs) bs after (mark_show o bs);
    }

-- a whole file
third_byte : (o : Dialect) (a b c : ℕ) (bs : List ℕ) (t : Bool) → IsDialect o → (a == 239) ≡ true → (b == 187) ≡ true → (c == 191) ≡ t → IsPassed o AtOpening (a ∷ b ∷ c ∷ bs)
third_byte o a b c bs true fit one two is = passed_whole o a b c bs fit one two is
third_byte o a b c bs false fit one two other =
    let same : place_step o InMarkTwo c ≡ place_step o InPlain c = rw other refl in
    passed_same o AtOpening (a ∷ b ∷ c ∷ bs) (no_mark_third a b c bs one two other)
    (same_later o (first_state o AtOpening) (start o) InMarkOne InPlain a (b ∷ c ∷ bs) (open_one o a fit one) (start_one o a fit one) refl refl refl
    (same_later o (lone InMarkOne) (lone InPlain) InMarkTwo InPlain b (c ∷ bs) (open_two o b two) (start_two o b fit two) refl refl refl
    (same_step o (lone InMarkTwo) (lone InPlain) c bs (other_lone o InMarkTwo c same) tt)))

two_bytes : (o : Dialect) (a b : ℕ) → IsDialect o → (a == 239) ≡ true → (b == 187) ≡ true → IsPassed o AtOpening (a ∷ b ∷ [])
two_bytes o a b fit one two =
    let opening : CutState = first_state o AtOpening in
    let opened : cut_after o opening (a ∷ b ∷ []) ≡ lone InMarkTwo = after_step o opening (lone InMarkOne) a (b ∷ []) (open_one o a fit one) ∙ open_two o b two in
    let started : cut_after o (start o) (a ∷ b ∷ []) ≡ lone InPlain = after_step o (start o) (lone InPlain) a (b ∷ []) (start_one o a fit one) ∙ start_two o b fit two in
    passed_shown o AtOpening (a ∷ b ∷ []) refl
    (begin_step o opening (lone InMarkOne) a (b ∷ []) (open_one o a fit one)
    ∙ ap (place_or_later false) (begin_step o (lone InMarkOne) (lone InMarkTwo) b [] (open_two o b two)))
    (end_step o opening (lone InMarkOne) a (b ∷ []) (open_one o a fit one)
    ∙ ap (place_or_later false) (end_step o (lone InMarkOne) (lone InMarkTwo) b [] (open_two o b two)))
    (end_step o (start o) (lone InPlain) a (b ∷ []) (start_one o a fit one)
    ∙ ap (place_or_later false) (end_step o (lone InPlain) (lone InPlain) b [] (start_two o b fit two)))
    (show_places (cut_after o opening (a ∷ b ∷ [])) (cut_after o (start o) (a ∷ b ∷ [])) (a ∷ b ∷ []) InMarkTwo InPlain opened started tt tt (λ is. cc) (λ is. cc))

second_byte : (o : Dialect) (a b : ℕ) (bs : List ℕ) (t : Bool) → IsDialect o → (a == 239) ≡ true → (b == 187) ≡ t → IsPassed o AtOpening (a ∷ b ∷ bs)
second_byte o a b [] true fit one is = two_bytes o a b fit one is
second_byte o a b (c ∷ bs) true fit one is = third_byte o a b c bs (c == 191) fit one is refl
second_byte o a b bs false fit one other =
    let same : place_step o InMarkOne b ≡ place_step o InPlain b = rw other refl in
    passed_same o AtOpening (a ∷ b ∷ bs) (no_mark_second a b bs one other)
    (same_later o (first_state o AtOpening) (start o) InMarkOne InPlain a (b ∷ bs) (open_one o a fit one) (start_one o a fit one) refl refl refl
    (same_step o (lone InMarkOne) (lone InPlain) b bs (other_lone o InMarkOne b same) tt))

one_byte : (o : Dialect) (a : ℕ) → IsDialect o → (a == 239) ≡ true → IsPassed o AtOpening (a ∷ [])
one_byte o a fit one =
    let opening : CutState = first_state o AtOpening in
    passed_shown o AtOpening (a ∷ []) refl
    (begin_step o opening (lone InMarkOne) a [] (open_one o a fit one))
    (end_step o opening (lone InMarkOne) a [] (open_one o a fit one))
    (end_step o (start o) (lone InPlain) a [] (start_one o a fit one))
    (show_places (cut_after o opening (a ∷ [])) (cut_after o (start o) (a ∷ [])) (a ∷ []) InMarkOne InPlain (open_one o a fit one) (start_one o a fit one) tt tt (λ is. cc) (λ is. cc))

first_of_file : (o : Dialect) (a : ℕ) (bs : List ℕ) (t : Bool) → IsDialect o → (a == 239) ≡ t → IsPassed o AtOpening (a ∷ bs)
first_of_file o a [] true fit is = one_byte o a fit is
first_of_file o a (b ∷ bs) true fit is = second_byte o a b bs (b == 187) fit is refl
first_of_file o a bs false fit other =
    passed_same o AtOpening (a ∷ bs) (no_mark_first a bs other) (same_step o (first_state o AtOpening) (start o) a bs (other_first o a other) tt)

pub passed_opening : (o : Dialect) (bytes : List ℕ) → IsDialect o → IsPassed o AtOpening bytes
passed_opening o [] fit = passed_shown o AtOpening [] refl refl refl refl (show_neither (first_state o AtOpening) (start o) [] tt tt (λ is. cc) (λ some is. some refl))
passed_opening o (a ∷ bs) fit = first_of_file o a bs (a == 239) fit refl

-- from each place where bytes begin
pub passed : (o : Dialect) (place : CutPlace) (bytes : List ℕ) → IsDialect o → IsFirstPlace place → IsPassed o place bytes
passed o AtOpening bytes fit is = passed_opening o bytes fit
passed o AfterMark bytes fit is = passed_mark o bytes
passed o AfterEol bytes fit is = passed_eol o bytes
passed o place bytes fit is = absurd is

pub passes_mark : (o : Dialect) → IsDialect o → PassesMark o
passes_mark o fit = λ bytes. (after_mark o 239 187 191 bytes fit refl refl refl, mark_end o bytes)

-- no record ends within the mark: what follows an end does not make a mark
mark_after_one : (o : Dialect) (a : ℕ) (more : List ℕ) (t : Bool) → IsDialect o → (a == 239) ≡ t → (cut_step o (first_state o AtOpening) a).place ≡ AfterEol → mark_len (a ∷ more) ≡ 0
mark_after_one o a more true fit is ends =
    let both : InMarkOne ≡ AfterEol = ap (λ (x : CutState). x.place) (sym (open_one o a fit is)) ∙ ends in cc
mark_after_one o a more false fit other ends = no_mark_first a more other

mark_after_two : (o : Dialect) (a b : ℕ) (more : List ℕ) (t u : Bool) → IsDialect o → (a == 239) ≡ t → (b == 187) ≡ u
    → (cut_after o (first_state o AtOpening) (a ∷ b ∷ [])).place ≡ AfterEol → mark_len (a ∷ b ∷ more) ≡ 0
mark_after_two o a b more true true fit one two ends =
    let after : cut_after o (first_state o AtOpening) (a ∷ b ∷ []) ≡ lone InMarkTwo =
    after_step o (first_state o AtOpening) (lone InMarkOne) a (b ∷ []) (open_one o a fit one) ∙ open_two o b two in
    let both : InMarkTwo ≡ AfterEol = ap (λ (x : CutState). x.place) (sym after) ∙ ends in cc
mark_after_two o a b more true false fit one other ends = no_mark_second a b more one other
mark_after_two o a b more false u fit other two ends = no_mark_first a (b ∷ more) other

pub mark_len-front : (o : Dialect) (front more : List ℕ) → IsDialect o → (cut_after o (first_state o AtOpening) front).place ≡ AfterEol → mark_len (front ++ more) ≡ mark_len front
mark_len-front o [] more fit ends = let both : AtOpening ≡ AfterEol = ends in cc
mark_len-front o (a ∷ []) more fit ends = mark_after_one o a more (a == 239) fit refl ends
mark_len-front o (a ∷ b ∷ []) more fit ends = mark_after_two o a b more (a == 239) (b == 187) fit refl refl ends
mark_len-front o (a ∷ b ∷ c ∷ front) more fit ends = refl

-- the mark is within the text
pub mark_len-within : (bytes : List ℕ) → mark_len bytes ≤ length bytes
mark_len-within [] = omega arith
mark_len-within (a ∷ []) = omega arith
mark_len-within (a ∷ b ∷ []) = omega arith
mark_len-within (a ∷ b ∷ c ∷ bytes) = within (a == 239 && (b == 187 && c == 191)) (length bytes)
  where
    within : (t : Bool) (n : ℕ) → (if t then 3 else 0) ≤ suc (suc (suc n))
    within true n = omega arith
    within false n = omega arith
