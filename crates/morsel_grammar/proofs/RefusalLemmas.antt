-- The machine that finds cuts refuses a record as soon as nothing that follows can make it one.
use Rattle.std.proofs.Common.{◌≡◌, ℕ, zero, suc, ◌+◌, ap, sym, subst, refl, ◌∙◌, inl, inr}
use Rattle.std.proofs.lemmas.List.{append-nil}
use Rattle.std.specs.Prelude.{Bool, true, false, ◌&&◌, ◌==◌, ◌⊎◌, if◌then◌else◌, Option, Some, None, List, [], ◌∷◌, ◌++◌, length}
use Rattle.morsel_grammar.specs.Dialect.{Dialect, IsDialect, IsCommentFor}
use Rattle.morsel_grammar.specs.Grammar.{CsvRecord, Comment, IsRecord}
use Rattle.morsel_grammar.specs.Split.{is_quote}
use Rattle.morsel_grammar.specs.GrammarRows.{BeginsNoRecord}
use Rattle.morsel_grammar.specs.Machine.{CutPlace, CutState, AtOpening, InMarkOne, InMarkTwo, AfterMark, AfterEol, AfterSeparator, InPlain, InQuotes, AfterQuote, AfterReturn, InComment, BrokenQuote, place_or_later, joined_place, plain_step, first_step, closed_step, place_step, is_after_eol, begins_record, no_byte_matched, matched_step, is_whole_prefix, first_state, state_at, cut_step, cut_after, last_end, RefusesRecord, RefusesEnd}
use Rattle.morsel_grammar.proofs.ByteLemmas.{byte_itself, same_byte}
use Rattle.morsel_grammar.proofs.PlainFieldLemmas.{quote_is}
use Rattle.morsel_grammar.proofs.RunLemmas.{lone, last_end-append, cut_after-append, step_lost, state_at-lost}
use Rattle.morsel_grammar.proofs.PrefixRunLemmas.{matching, IsLeft, left_next, step_within, step_last, step_differs, place_goes}
use Rattle.morsel_grammar.proofs.FirstEndLemmas.{start}
use Rattle.morsel_grammar.proofs.WholeCutLemmas.{ended_left}
use Rattle.morsel_grammar.proofs.MarkCutLemmas.{IsPastMark, IsInRecord, place_in, in_record_past, in_record_begins, MayEnd, may_end}

-- a quoted field begins only where there is a quote
abbrev HasQuote : Dialect → Type 0
HasQuote o = (q : ℕ) × (o.quote ≡ Some q)

-- the place is in quotes only where there is a quote
abbrev NeedsQuote : Dialect → CutPlace → Type 0
NeedsQuote o InQuotes = HasQuote o
NeedsQuote o place = Unit {0}

either_needs : (o : Dialect) (t : Bool) (a b : CutPlace) → (t ≡ true → NeedsQuote o a) → NeedsQuote o b → NeedsQuote o (if t then a else b)
either_needs o true a b first second = first refl
either_needs o false a b first second = second

plain_needs : (o : Dialect) (b : ℕ) → NeedsQuote o (plain_step o b)
plain_needs o b = either_needs o (b == o.separator) AfterSeparator (if b == o.eol then AfterEol else InPlain) (λ is. tt) (either_needs o (b == o.eol) AfterEol InPlain (λ is. tt) tt)

first_needs : (o : Dialect) (b : ℕ) → NeedsQuote o (first_step o b)
first_needs o b = either_needs o (is_quote o.quote b) InQuotes (plain_step o b) (λ is. (b, quote_is o.quote b is)) (plain_needs o b)

closed_needs : (o : Dialect) (b : ℕ) → NeedsQuote o (closed_step o b)
closed_needs o b =
    let returned : CutPlace = if b == 13 && o.eol == 10 then AfterReturn else BrokenQuote in
    either_needs o (b == o.separator) AfterSeparator (if b == o.eol then AfterEol else returned) (λ is. tt)
    (either_needs o (b == o.eol) AfterEol returned (λ is. tt) (either_needs o (b == 13 && o.eol == 10) AfterReturn BrokenQuote (λ is. tt) tt))

place_needs : (o : Dialect) (place : CutPlace) (b : ℕ) → NeedsQuote o place → NeedsQuote o (place_step o place b)
place_needs o AtOpening b needs = either_needs o (b == 239) InMarkOne (first_step o b) (λ is. tt) (first_needs o b)
place_needs o InMarkOne b needs = either_needs o (b == 187) InMarkTwo (plain_step o b) (λ is. tt) (plain_needs o b)
place_needs o InMarkTwo b needs = either_needs o (b == 191) AfterMark (plain_step o b) (λ is. tt) (plain_needs o b)
place_needs o AfterMark b needs = first_needs o b
place_needs o AfterEol b needs = first_needs o b
place_needs o AfterSeparator b needs = first_needs o b
place_needs o InPlain b needs = plain_needs o b
place_needs o InQuotes b needs = either_needs o (is_quote o.quote b) AfterQuote InQuotes (λ is. tt) needs
place_needs o AfterQuote b needs = either_needs o (is_quote o.quote b) InQuotes (closed_step o b) (λ is. (b, quote_is o.quote b is)) (closed_needs o b)
place_needs o AfterReturn b needs = either_needs o (b == o.eol) AfterEol BrokenQuote (λ is. tt) tt
place_needs o InComment b needs = either_needs o (b == o.eol) AfterEol InComment (λ is. tt) tt
place_needs o BrokenQuote b needs = tt

state_needs : (o : Dialect) (matched : Option ℕ) (place : CutPlace) (t u : Bool) → NeedsQuote o place
    → (let s : CutState = if t then first_state o place else (if u then record { matched = None; place = InComment } else record { matched = matched; place = place }) in NeedsQuote o s.place)
state_needs o matched place true u needs = needs
state_needs o matched place false true needs = tt
state_needs o matched place false false needs = needs

after_needs : (o : Dialect) (s : CutState) (bytes : List ℕ) → NeedsQuote o s.place → NeedsQuote o (cut_after o s bytes).place
after_needs o s [] needs = needs
after_needs o s (b ∷ bs) needs =
    let matched : Option ℕ = matched_step o.comment s.matched b in
    let place : CutPlace = place_step o s.place b in
    after_needs o (cut_step o s b) bs (state_needs o matched place (begins_record place) (is_whole_prefix o.comment matched) (place_needs o s.place b needs))

-- in quotes, a quote more makes a record
quote_may_end : (o : Dialect) (matched : Option ℕ) (u : Bool)
    → (let s : CutState = if u then record { matched = None; place = InComment } else record { matched = matched; place = AfterQuote } in MayEnd s.place × (is_after_eol s.place ≡ false))
quote_may_end o matched true = (tt, refl)
quote_may_end o matched false = (tt, refl)

quote_closes : (o : Dialect) (s : CutState) (q : ℕ) → o.quote ≡ Some q → s.place ≡ InQuotes → MayEnd (cut_step o s q).place × (is_after_eol (cut_step o s q).place ≡ false)
quote_closes o s q asked is =
    let quote : is_quote o.quote q ≡ true = ap (λ (x : Option ℕ). is_quote x q) asked ∙ byte_itself q in
    let matched : Option ℕ = matched_step o.comment s.matched q in
    let closes : place_step o s.place q ≡ AfterQuote = ap (λ (p : CutPlace). place_step o p q) is ∙ ap (λ (t : Bool). if t then AfterQuote else InQuotes) quote in
    let P : CutPlace → Type 0 = λ p. MayEnd (state_at o matched p).place × (is_after_eol (state_at o matched p).place ≡ false) in
    subst P (sym closes) (quote_may_end o matched (is_whole_prefix o.comment matched))

open_mended : (o : Dialect) (left : List ℕ) (q : ℕ) → IsDialect o → last_end o (start o) left ≡ 0 → o.quote ≡ Some q → (cut_after o (start o) left).place ≡ InQuotes
    → (r : CsvRecord) × IsRecord o r (left ++ q ∷ []) []
open_mended o left q fit none asked is =
    let s : CutState = cut_after o (start o) left in
    let closed = quote_closes o s q asked is in
    let after : cut_after o (start o) (left ++ q ∷ []) ≡ cut_step o s q = cut_after-append o (start o) left (q ∷ []) in
    let none_later : last_end o s (q ∷ []) ≡ 0 = ap (λ (t : Bool). place_or_later t 0) closed.1 in
    let P : CutState → Type 0 = λ x. RefusesEnd x in
    ended_left o (left ++ q ∷ []) fit
    (last_end-append o (start o) left (q ∷ []) ∙ ap (joined_place (last_end o (start o) left) (length left)) none_later ∙ none)
    (λ refuses. may_end (cut_step o s q) closed.0 (subst P after refuses))

place_here : (n : ℕ) → place_or_later true n ≡ 0 → ⊥
place_here zero none = cc
place_here (suc n) none = cc

place_later : (n : ℕ) → place_or_later false n ≡ 0 → n ≡ 0
place_later zero none = refl
place_later (suc n) none = cc

-- once the prefix is lost, the record can become no comment
begins_at_end : (o : Dialect) (place : CutPlace) (bs : List ℕ) (t : Bool) → IsInRecord place → begins_record place ≡ t
    → place_or_later (is_after_eol (state_at o None place).place) (last_end o (state_at o None place) bs) ≡ 0
    → (last_end o (lone place) bs ≡ 0 → (cut_after o (lone place) bs).matched ≡ None) → (cut_after o (state_at o None place) bs).matched ≡ None
begins_at_end o place bs true is begins none later =
    let e : state_at o None place ≡ first_state o place = rw begins refl in
    let ends : is_after_eol place ≡ true = sym (in_record_begins place is) ∙ begins in
    absurd (place_here (last_end o (first_state o place) bs)
    (sym (ap (λ (t : Bool). place_or_later t (last_end o (first_state o place) bs)) ends)
    ∙ sym (ap (λ (x : CutState). place_or_later (is_after_eol x.place) (last_end o x bs)) e) ∙ none))
begins_at_end o place bs false is begins none later =
    let e : state_at o None place ≡ lone place = state_at-lost o place begins in
    let goes : is_after_eol place ≡ false = sym (in_record_begins place is) ∙ begins in
    ap (λ (x : CutState). (cut_after o x bs).matched) e
    ∙ later (place_later (last_end o (lone place) bs)
    (sym (ap (λ (t : Bool). place_or_later t (last_end o (lone place) bs)) goes)
    ∙ sym (ap (λ (x : CutState). place_or_later (is_after_eol x.place) (last_end o x bs)) e) ∙ none))

lost_stays : (o : Dialect) (place : CutPlace) (bytes : List ℕ) → IsPastMark place → last_end o (lone place) bytes ≡ 0 → (cut_after o (lone place) bytes).matched ≡ None
lost_stays o place [] past none = refl
lost_stays o place (b ∷ bs) past none =
    let next : CutPlace = place_step o place b in
    let is : IsInRecord next = place_in o place b past in
    ap (λ (x : CutState). (cut_after o x bs).matched) (step_lost o place b)
    ∙ begins_at_end o next bs (begins_record next) is refl
    (sym (ap (λ (x : CutState). place_or_later (is_after_eol x.place) (last_end o x bs)) (step_lost o place b)) ∙ none)
    (λ none. lost_stays o next bs (in_record_past next is) none)

-- what follows the bytes in the prefix, where they are its beginning
abbrev GoesOn : List ℕ → List ℕ → Type 0
GoesOn left bytes = (rest : List ℕ) × (left ≡ bytes ++ rest)

not_matched : {A : Type 0} (s : CutState) (k : ℕ) → s.matched ≡ None → s.matched ≡ Some k → A
not_matched s k none some = let both : None ≡ Some k = sym none ∙ some in cc

-- a state that is still matching is so after a beginning of the prefix
matched_byte : (o : Dialect) (prefix : List ℕ) (k c b j : ℕ) (left bs : List ℕ) (place : CutPlace) (t : Bool) → IsLeft o prefix k (c ∷ left) → (c == b) ≡ t → IsPastMark place
    → last_end o (matching k place) (b ∷ bs) ≡ 0 → (cut_after o (matching k place) (b ∷ bs)).matched ≡ Some j
    → ((d : ℕ) (more : List ℕ) (next : CutPlace) → left ≡ d ∷ more → IsPastMark next → last_end o (matching (k + 1) next) bs ≡ 0
    → (cut_after o (matching (k + 1) next) bs).matched ≡ Some j → GoesOn (d ∷ more) bs)
    → GoesOn (c ∷ left) (b ∷ bs)
matched_byte o prefix k c b j [] bs place true is same past none some later =
    let same_byte_is : c ≡ b = same_byte c b same in
    let e : cut_step o (matching k place) b ≡ lone InComment = ap (cut_step o (matching k place)) (sym same_byte_is) ∙ step_last o prefix k c place is in
    let none_later : last_end o (lone InComment) bs ≡ 0 =
    place_later (last_end o (lone InComment) bs) (sym (ap (λ (x : CutState). place_or_later (is_after_eol x.place) (last_end o x bs)) e) ∙ none) in
    not_matched (cut_after o (lone InComment) bs) j (lost_stays o InComment bs tt none_later) (sym (ap (λ (x : CutState). (cut_after o x bs).matched) e) ∙ some)
matched_byte o prefix k c b j (d ∷ left) bs place true is same past none some later =
    let same_byte_is : c ≡ b = same_byte c b same in
    let next : CutPlace = place_step o place c in
    let e : cut_step o (matching k place) b ≡ matching (k + 1) next = ap (cut_step o (matching k place)) (sym same_byte_is) ∙ step_within o prefix k c d left place is in
    let next_in : IsInRecord next = place_in o place c past in
    let goes : is_after_eol next ≡ false = sym (in_record_begins next next_in) ∙ place_goes o prefix k c (d ∷ left) place is in
    let none_later : last_end o (matching (k + 1) next) bs ≡ 0 =
    place_later (last_end o (matching (k + 1) next) bs)
    (sym (ap (λ (t : Bool). place_or_later t (last_end o (matching (k + 1) next) bs)) goes)
    ∙ sym (ap (λ (x : CutState). place_or_later (is_after_eol x.place) (last_end o x bs)) e) ∙ none) in
    let found = later d left next refl (in_record_past next next_in) none_later (sym (ap (λ (x : CutState). (cut_after o x bs).matched) e) ∙ some) in
    (found.0, ap (λ (x : ℕ). x ∷ d ∷ left) same_byte_is ∙ ap (λ (x : List ℕ). b ∷ x) found.1)
matched_byte o prefix k c b j left bs place false is same past none some later =
    let e : cut_step o (matching k place) b ≡ cut_step o (lone place) b = step_differs o prefix k c b left place is same in
    let none_lone : last_end o (lone place) (b ∷ bs) ≡ 0 = sym (ap (λ (x : CutState). place_or_later (is_after_eol x.place) (last_end o x bs)) e) ∙ none in
    not_matched (cut_after o (lone place) (b ∷ bs)) j (lost_stays o place (b ∷ bs) past none_lone) (sym (ap (λ (x : CutState). (cut_after o x bs).matched) e) ∙ some)

matched_front : (o : Dialect) (prefix : List ℕ) (k j c : ℕ) (left bytes : List ℕ) (place : CutPlace) → IsLeft o prefix k (c ∷ left) → IsPastMark place
    → last_end o (matching k place) bytes ≡ 0 → (cut_after o (matching k place) bytes).matched ≡ Some j → GoesOn (c ∷ left) bytes
matched_front o prefix k j c left [] place is past none some = (c ∷ left, refl)
matched_front o prefix k j c left (b ∷ bs) place is past none some =
    matched_byte o prefix k c b j left bs place (c == b) is refl past none some
    (λ d more next left_is next_past none_later some_later.
    let P : List ℕ → Type 0 = λ x. IsLeft o prefix (k + 1) x in
    matched_front o prefix (k + 1) j d more bs next (subst P left_is (left_next o prefix k c left is)) next_past none_later some_later)

-- of the options, what a record that is still matching can become
matched_mended : (o : Dialect) (comment : Option (List ℕ)) (left : List ℕ) (j : ℕ) → o.comment ≡ comment → IsCommentFor o.eol comment
    → (let s : CutState = record { matched = no_byte_matched comment; place = AfterEol } in
    last_end o s left ≡ 0 → (cut_after o s left).matched ≡ Some j → (rest : List ℕ) × IsRecord o (Comment []) (left ++ rest) [])
matched_mended o None left j asked is = λ none some. not_matched (cut_after o (lone AfterEol) left) j (lost_stays o AfterEol left tt none) some
matched_mended o (Some []) left j asked is = λ none some. absurd is
matched_mended o (Some (c ∷ prefix)) left j asked is = λ none some.
    let begun : IsLeft o (c ∷ prefix) 0 (c ∷ prefix) = record { asked = asked; is = refl; no_eol = is.1; ascii = is.0 } in
    let found = matched_front o (c ∷ prefix) 0 j c prefix left AfterEol begun tt none some in (
      found.0,
      record {
        prefix = c ∷ prefix;
        end = [];
        asked = asked;
        spelled = sym found.1 ∙ sym (append-nil (c ∷ prefix));
        no_eol = tt;
        ended = inr (refl, refl);
      },
    )

-- what a place refuses
abbrev Refuses : CutPlace → Type 0
Refuses place = (place ≡ InQuotes) ⊎ ((place ≡ BrokenQuote) ⊎ MayEnd place)

refuses : (place : CutPlace) → Refuses place
refuses InQuotes = inl refl
refuses BrokenQuote = inr (inl refl)
refuses AtOpening = inr (inr tt)
refuses InMarkOne = inr (inr tt)
refuses InMarkTwo = inr (inr tt)
refuses AfterMark = inr (inr tt)
refuses AfterEol = inr (inr tt)
refuses AfterSeparator = inr (inr tt)
refuses InPlain = inr (inr tt)
refuses AfterQuote = inr (inr tt)
refuses AfterReturn = inr (inr tt)
refuses InComment = inr (inr tt)

by_matched : (o : Dialect) (left : List ℕ) (matched : Option ℕ) → IsDialect o → last_end o (start o) left ≡ 0 → ((more : List ℕ) → BeginsNoRecord o (left ++ more))
    → (cut_after o (start o) left).matched ≡ matched → matched ≡ None
by_matched o left None fit none never is = refl
by_matched o left (Some j) fit none never is =
    let mended = matched_mended o o.comment left j refl fit.comment none is in absurd (never mended.0 (Comment []) [] mended.1)

by_place : (o : Dialect) (left : List ℕ) → IsDialect o → last_end o (start o) left ≡ 0 → ((more : List ℕ) → BeginsNoRecord o (left ++ more))
    → Refuses (cut_after o (start o) left).place → RefusesRecord (cut_after o (start o) left)
by_place o left fit none never (inl is) =
    let P : CutPlace → Type 0 = λ x. NeedsQuote o x in
    let quote : HasQuote o = subst P is (after_needs o (start o) left tt) in
    let mended = open_mended o left quote.0 fit none quote.1 is in
    absurd (never (quote.0 ∷ []) mended.0 [] mended.1)
by_place o left fit none never (inr (inl is)) = (by_matched o left (cut_after o (start o) left).matched fit none never refl, is)
by_place o left fit none never (inr (inr may)) =
    let P : List ℕ → Type 0 = λ x. BeginsNoRecord o x in
    let found = ended_left o left fit none (may_end (cut_after o (start o) left) may) in
    absurd (subst P (append-nil left) (never []) found.0 [] found.1)

-- what nothing can mend is refused
pub hopeless_left : (o : Dialect) (left : List ℕ) → IsDialect o → last_end o (start o) left ≡ 0 → ((more : List ℕ) → BeginsNoRecord o (left ++ more))
    → RefusesRecord (cut_after o (start o) left)
hopeless_left o left fit none never = by_place o left fit none never (refuses (cut_after o (start o) left).place)
