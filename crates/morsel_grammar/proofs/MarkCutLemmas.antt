-- The machine that finds cuts from each place where bytes begin, beside its start after an eol byte.
use Rattle.std.proofs.Common.{◌≡◌, ◌≢◌, ℕ, ◌+◌, ap, sym, subst, refl, ◌∙◌, inl, inr, arith}
use Rattle.std.specs.Prelude.{Bool, true, false, ◌&&◌, ◌==◌, if◌then◌else◌, Option, None, List, [], ◌∷◌, drop}
use Rattle.morsel_grammar.specs.Dialect.{Dialect}
use Rattle.morsel_grammar.specs.Split.{is_quote}
use Rattle.morsel_grammar.specs.Machine.{CutPlace, CutState, AtOpening, InMarkOne, InMarkTwo, AfterMark, AfterEol, AfterSeparator, InPlain, InQuotes, AfterQuote, AfterReturn, InComment, BrokenQuote, place_or_later, plain_step, first_step, closed_step, place_step, is_after_eol, begins_record, matched_step, is_whole_prefix, first_state, cut_step, cut_after, last_end, last_begin, RefusesRecord, RefusesEnd}
use Rattle.morsel_grammar.specs.Cuts.{text_from, text_begins}
use Rattle.morsel_grammar.proofs.RunLemmas.{lone}
use Rattle.morsel_grammar.proofs.FirstEndLemmas.{start}

-- the mark is behind
abbrev pub IsPastMark : CutPlace → Type 0
IsPastMark AtOpening = ⊥
IsPastMark InMarkOne = ⊥
IsPastMark InMarkTwo = ⊥
IsPastMark place = Unit {0}

-- the mark is behind, and was not the last that was passed
abbrev pub IsInRecord : CutPlace → Type 0
IsInRecord AtOpening = ⊥
IsInRecord InMarkOne = ⊥
IsInRecord InMarkTwo = ⊥
IsInRecord AfterMark = ⊥
IsInRecord place = Unit {0}

either_in : (t : Bool) (a b : CutPlace) → IsInRecord a → IsInRecord b → IsInRecord (if t then a else b)
either_in true a b first second = first
either_in false a b first second = second

plain_in : (o : Dialect) (b : ℕ) → IsInRecord (plain_step o b)
plain_in o b = either_in (b == o.separator) AfterSeparator (if b == o.eol then AfterEol else InPlain) tt (either_in (b == o.eol) AfterEol InPlain tt tt)

first_in : (o : Dialect) (b : ℕ) → IsInRecord (first_step o b)
first_in o b = either_in (is_quote o.quote b) InQuotes (plain_step o b) tt (plain_in o b)

closed_in : (o : Dialect) (b : ℕ) → IsInRecord (closed_step o b)
closed_in o b =
    let returned : CutPlace = if b == 13 && o.eol == 10 then AfterReturn else BrokenQuote in
    either_in (b == o.separator) AfterSeparator (if b == o.eol then AfterEol else returned) tt
    (either_in (b == o.eol) AfterEol returned tt (either_in (b == 13 && o.eol == 10) AfterReturn BrokenQuote tt tt))

pub place_in : (o : Dialect) (place : CutPlace) (b : ℕ) → IsPastMark place → IsInRecord (place_step o place b)
place_in o AtOpening b past = absurd past
place_in o InMarkOne b past = absurd past
place_in o InMarkTwo b past = absurd past
place_in o AfterMark b past = first_in o b
place_in o AfterEol b past = first_in o b
place_in o AfterSeparator b past = first_in o b
place_in o InPlain b past = plain_in o b
place_in o InQuotes b past = either_in (is_quote o.quote b) AfterQuote InQuotes tt tt
place_in o AfterQuote b past = either_in (is_quote o.quote b) InQuotes (closed_step o b) tt (closed_in o b)
place_in o AfterReturn b past = either_in (b == o.eol) AfterEol BrokenQuote tt tt
place_in o InComment b past = either_in (b == o.eol) AfterEol InComment tt tt
place_in o BrokenQuote b past = tt

state_in : (o : Dialect) (matched : Option ℕ) (place : CutPlace) (t u : Bool) → IsInRecord place
    → (let s : CutState = if t then first_state o place else (if u then record { matched = None; place = InComment } else record { matched = matched; place = place }) in IsInRecord s.place)
state_in o matched place true u is = is
state_in o matched place false true is = tt
state_in o matched place false false is = is

step_in : (o : Dialect) (s : CutState) (b : ℕ) → IsPastMark s.place → IsInRecord (cut_step o s b).place
step_in o s b past =
    let matched : Option ℕ = matched_step o.comment s.matched b in
    let place : CutPlace = place_step o s.place b in
    state_in o matched place (begins_record place) (is_whole_prefix o.comment matched) (place_in o s.place b past)

pub in_record_past : (place : CutPlace) → IsInRecord place → IsPastMark place
in_record_past AtOpening is = is
in_record_past InMarkOne is = is
in_record_past InMarkTwo is = is
in_record_past AfterMark is = tt
in_record_past place is = tt

pub in_record_begins : (place : CutPlace) → IsInRecord place → begins_record place ≡ is_after_eol place
in_record_begins AfterMark is = absurd is
in_record_begins AtOpening is = refl
in_record_begins InMarkOne is = refl
in_record_begins InMarkTwo is = refl
in_record_begins AfterEol is = refl
in_record_begins AfterSeparator is = refl
in_record_begins InPlain is = refl
in_record_begins InQuotes is = refl
in_record_begins AfterQuote is = refl
in_record_begins AfterReturn is = refl
in_record_begins InComment is = refl
in_record_begins BrokenQuote is = refl

-- behind the mark a record begins only where another ends
pub begin_is_end : (o : Dialect) (s : CutState) (bytes : List ℕ) → IsPastMark s.place → last_begin o s bytes ≡ last_end o s bytes
begin_is_end o s [] past = refl
begin_is_end o s (b ∷ bs) past =
    let next : CutState = cut_step o s b in
    let is : IsInRecord next.place = step_in o s b past in
    ap (λ (t : Bool). place_or_later t (last_begin o next bs)) (in_record_begins next.place is)
    ∙ ap (place_or_later (is_after_eol next.place)) (begin_is_end o next bs (in_record_past next.place is))

-- the machine finds the same from either state
pub record IsSameFrom (o : Dialect) (s t : CutState) (bytes : List ℕ) : Type 0 where
  pub after : cut_after o s bytes ≡ cut_after o t bytes
  pub end : last_end o s bytes ≡ last_end o t bytes
  pub begin : last_begin o s bytes ≡ last_end o t bytes

pub same_step : (o : Dialect) (s t : CutState) (b : ℕ) (bs : List ℕ) → cut_step o s b ≡ cut_step o t b → IsPastMark t.place → IsSameFrom o s t (b ∷ bs)
same_step o s t b bs same past = record {
  after = ap (λ (x : CutState). cut_after o x bs) same;
  end = ap (λ (x : CutState). place_or_later (is_after_eol x.place) (last_end o x bs)) same;
  begin = ap (λ (x : CutState). place_or_later (begins_record x.place) (last_begin o x bs)) same ∙ begin_is_end o t (b ∷ bs) past;
}

-- after a byte that ends nothing and after which nothing begins
pub same_later : (o : Dialect) (s t : CutState) (place other : CutPlace) (b : ℕ) (bs : List ℕ) → cut_step o s b ≡ lone place → cut_step o t b ≡ lone other
    → begins_record place ≡ false → is_after_eol place ≡ false → is_after_eol other ≡ false
    → IsSameFrom o (lone place) (lone other) bs → IsSameFrom o s t (b ∷ bs)
same_later o s t place other b bs s_is t_is begins ends other_ends later =
    let to_other : last_end o t (b ∷ bs) ≡ place_or_later false (last_end o (lone other) bs) =
    ap (λ (x : CutState). place_or_later (is_after_eol x.place) (last_end o x bs)) t_is
    ∙ ap (λ (h : Bool). place_or_later h (last_end o (lone other) bs)) other_ends in
    record {
      after = ap (λ (x : CutState). cut_after o x bs) s_is ∙ later.after ∙ sym (ap (λ (x : CutState). cut_after o x bs) t_is);
      end = ap (λ (x : CutState). place_or_later (is_after_eol x.place) (last_end o x bs)) s_is
          ∙ ap (λ (h : Bool). place_or_later h (last_end o (lone place) bs)) ends
          ∙ ap (place_or_later false) later.end ∙ sym to_other;
      begin = ap (λ (x : CutState). place_or_later (begins_record x.place) (last_begin o x bs)) s_is
          ∙ ap (λ (h : Bool). place_or_later h (last_begin o (lone place) bs)) begins
          ∙ ap (place_or_later false) later.begin ∙ sym to_other;
    }

-- what a text shows of two states at its end
pub record ShowSame (s t : CutState) (text : List ℕ) : Type 0 where
  pub at_end : s.place ≡ AfterEol → t.place ≡ AfterEol
  pub at_end_again : text ≢ [] → t.place ≡ AfterEol → s.place ≡ AfterEol
  pub refuses_record : RefusesRecord s → RefusesRecord t
  pub refuses_record_again : RefusesRecord t → RefusesRecord s
  pub refuses_end : RefusesEnd s → RefusesEnd t
  pub refuses_end_again : RefusesEnd t → RefusesEnd s

pub show_equal : (s t : CutState) (text : List ℕ) → s ≡ t → ShowSame s t text
show_equal s t text same = record {
  at_end = λ is. ap (λ (x : CutState). x.place) (sym same) ∙ is;
  at_end_again = λ some is. ap (λ (x : CutState). x.place) same ∙ is;
  refuses_record = λ is. let P : CutState → Type 0 = λ x. RefusesRecord x in subst P same is;
  refuses_record_again = λ is. let P : CutState → Type 0 = λ x. RefusesRecord x in subst P (sym same) is;
  refuses_end = λ is. let P : CutState → Type 0 = λ x. RefusesEnd x in subst P same is;
  refuses_end_again = λ is. let P : CutState → Type 0 = λ x. RefusesEnd x in subst P (sym same) is;
}

pub show_after : (s t other : CutState) (text : List ℕ) → s ≡ t → ShowSame t other text → ShowSame s other text
show_after s t other text same show = let P : CutState → Type 0 = λ x. ShowSame x other text in subst P (sym same) show

-- a place where a text may end
abbrev pub MayEnd : CutPlace → Type 0
MayEnd InQuotes = ⊥
MayEnd BrokenQuote = ⊥
MayEnd place = Unit {0}

pub may_end : (s : CutState) → MayEnd s.place → RefusesEnd s → ⊥
may_end s may (inl is) = let P : CutPlace → Type 0 = λ x. MayEnd x in subst P is may
may_end s may (inr is) = let P : CutPlace → Type 0 = λ x. MayEnd x in subst P is may

-- neither state is at an end or refuses anything
pub show_neither : (s t : CutState) (text : List ℕ) → MayEnd s.place → MayEnd t.place → (s.place ≡ AfterEol → ⊥) → (text ≢ [] → t.place ≡ AfterEol → ⊥) → ShowSame s t text
show_neither s t text s_may t_may s_ends t_ends = record {
  at_end = λ is. absurd (s_ends is);
  at_end_again = λ some is. absurd (t_ends some is);
  refuses_record = λ is. absurd (may_end s s_may (inr is.1));
  refuses_record_again = λ is. absurd (may_end t t_may (inr is.1));
  refuses_end = λ is. absurd (may_end s s_may is);
  refuses_end_again = λ is. absurd (may_end t t_may is);
}

pub show_places : (s t : CutState) (text : List ℕ) (place other : CutPlace) → s ≡ lone place → t ≡ lone other → MayEnd place → MayEnd other
    → (place ≡ AfterEol → ⊥) → (other ≡ AfterEol → ⊥) → ShowSame s t text
show_places s t text place other s_is t_is may other_may ends other_ends =
    let P : CutState → Type 0 = λ x. ShowSame (lone place) x text in
    show_after s (lone place) t text s_is (subst P (sym t_is) (show_neither (lone place) (lone other) text may other_may ends (λ some. other_ends)))

-- bytes that begin at a place, beside the text of their records after the start of another
pub record IsPassed (o : Dialect) (place : CutPlace) (bytes : List ℕ) : Type 0 where
  pub mark : ℕ
  pub mark_is : text_begins place bytes ≡ mark
  pub begin : last_begin o (first_state o place) bytes ≡ mark + last_end o (start o) (drop mark bytes)
  pub no_end : last_end o (first_state o place) bytes ≡ 0 → last_end o (start o) (drop mark bytes) ≡ 0
  pub no_end_again : last_end o (start o) (drop mark bytes) ≡ 0 → last_end o (first_state o place) bytes ≡ 0
  pub show : ShowSame (cut_after o (first_state o place) bytes) (cut_after o (start o) (drop mark bytes)) (drop mark bytes)

pub text_from-begins : (place : CutPlace) (bytes : List ℕ) → text_from place bytes ≡ drop (text_begins place bytes) bytes
text_from-begins AtOpening bytes = refl
text_from-begins place bytes = refl

pub passed_text : (o : Dialect) (place : CutPlace) (bytes : List ℕ) → (all : IsPassed o place bytes) → text_from place bytes ≡ drop all.mark bytes
passed_text o place bytes all = text_from-begins place bytes ∙ ap (λ (n : ℕ). drop n bytes) all.mark_is

nothing_added : (a b : ℕ) → a ≡ b → a ≡ 0 + b
nothing_added a b same = omega arith

pub passed_same : (o : Dialect) (place : CutPlace) (bytes : List ℕ) → text_begins place bytes ≡ 0 → IsSameFrom o (first_state o place) (start o) bytes → IsPassed o place bytes
passed_same o place bytes is same = record {
  mark = 0;
  mark_is = is;
  begin = nothing_added (last_begin o (first_state o place) bytes) (last_end o (start o) bytes) same.begin;
  no_end = λ none. sym same.end ∙ none;
  no_end_again = λ none. same.end ∙ none;
  show = show_equal (cut_after o (first_state o place) bytes) (cut_after o (start o) bytes) bytes same.after;
}

pub passed_shown : (o : Dialect) (place : CutPlace) (bytes : List ℕ) → text_begins place bytes ≡ 0 → last_begin o (first_state o place) bytes ≡ 0
    → last_end o (first_state o place) bytes ≡ 0 → last_end o (start o) bytes ≡ 0
    → ShowSame (cut_after o (first_state o place) bytes) (cut_after o (start o) bytes) bytes → IsPassed o place bytes
passed_shown o place bytes is begin end start_end show = record {
  mark = 0;
  mark_is = is;
  begin = nothing_added (last_begin o (first_state o place) bytes) (last_end o (start o) bytes) (begin ∙ sym start_end);
  no_end = λ none. start_end;
  no_end_again = λ none. end;
  show = show;
}

-- after an eol byte, and after the mark
pub passed_eol : (o : Dialect) (bytes : List ℕ) → IsPassed o AfterEol bytes
passed_eol o bytes = passed_same o AfterEol bytes refl (record { after = refl; end = refl; begin = begin_is_end o (start o) bytes tt })

pub mark_show : (o : Dialect) (bytes : List ℕ) → ShowSame (cut_after o (first_state o AfterMark) bytes) (cut_after o (start o) bytes) bytes
mark_show o [] = show_neither (first_state o AfterMark) (start o) [] tt tt (λ is. cc) (λ some is. some refl)
mark_show o (b ∷ bs) = show_equal (cut_after o (first_state o AfterMark) (b ∷ bs)) (cut_after o (start o) (b ∷ bs)) (b ∷ bs) refl

pub mark_end : (o : Dialect) (bytes : List ℕ) → last_end o (first_state o AfterMark) bytes ≡ last_end o (start o) bytes
mark_end o [] = refl
mark_end o (b ∷ bs) = refl

pub mark_begin : (o : Dialect) (bytes : List ℕ) → last_begin o (first_state o AfterMark) bytes ≡ last_end o (start o) bytes
mark_begin o bytes = begin_is_end o (first_state o AfterMark) bytes tt ∙ mark_end o bytes

pub passed_mark : (o : Dialect) (bytes : List ℕ) → IsPassed o AfterMark bytes
passed_mark o bytes = record {
  mark = 0;
  mark_is = refl;
  begin = nothing_added (last_begin o (first_state o AfterMark) bytes) (last_end o (start o) bytes) (mark_begin o bytes);
  no_end = λ none. sym (mark_end o bytes) ∙ none;
  no_end_again = λ none. mark_end o bytes ∙ none;
  show = mark_show o bytes;
}
