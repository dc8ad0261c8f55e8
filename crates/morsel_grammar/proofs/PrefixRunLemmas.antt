-- The machine that finds cuts and the comment prefix.
use Rattle.std.proofs.Common.{◌≡◌, ℕ, zero, suc, ◌+◌, ◌<◌, ap, sym, subst, refl, ◌∙◌, arith}
use Rattle.std.proofs.lemmas.Bool.{eq-eqb}
use Rattle.std.specs.Prelude.{Bool, true, false, ◌&&◌, ◌==◌, if◌then◌else◌, Option, Some, None, List, [], ◌∷◌, ◌++◌, length, drop}
use Rattle.morsel_grammar.specs.Dialect.{Dialect, IsWithout, AreAscii}
use Rattle.morsel_grammar.specs.Split.{is_quote, begins, behind_front}
use Rattle.morsel_grammar.specs.Machine.{CutPlace, CutState, AtOpening, InMarkOne, InMarkTwo, AfterMark, AfterEol, AfterSeparator, InPlain, InQuotes, AfterQuote, AfterReturn, InComment, BrokenQuote, plain_step, first_step, closed_step, place_step, begins_record, matched_step, is_whole_prefix, state_at, cut_step}
use Rattle.morsel_grammar.proofs.ByteLemmas.{byte_itself, same_byte, other_byte}
use Rattle.morsel_grammar.proofs.RunLemmas.{lone, IsRun, run_byte, run_append, step_lost, step_on, not_after}
use Rattle.morsel_grammar.proofs.AlikeLemmas.{AreAlike, alike_nothing, alike_step, alike_same}

-- a record begins only after an eol byte or after the last byte of the mark
either_goes : (t : Bool) (a b : CutPlace) → begins_record a ≡ false → begins_record b ≡ false → begins_record (if t then a else b) ≡ false
either_goes true a b first second = first
either_goes false a b first second = second

eol_goes : (t : Bool) (next : CutPlace) → t ≡ false → begins_record next ≡ false → begins_record (if t then AfterEol else next) ≡ false
eol_goes t next other goes = rw other goes

plain_goes : (o : Dialect) (b : ℕ) → (b == o.eol) ≡ false → begins_record (plain_step o b) ≡ false
plain_goes o b no_eol = either_goes (b == o.separator) AfterSeparator (if b == o.eol then AfterEol else InPlain) refl (eol_goes (b == o.eol) InPlain no_eol refl)

first_goes : (o : Dialect) (b : ℕ) → (b == o.eol) ≡ false → begins_record (first_step o b) ≡ false
first_goes o b no_eol = either_goes (is_quote o.quote b) InQuotes (plain_step o b) refl (plain_goes o b no_eol)

closed_goes : (o : Dialect) (b : ℕ) → (b == o.eol) ≡ false → begins_record (closed_step o b) ≡ false
closed_goes o b no_eol =
    let returned : CutPlace = if b == 13 && o.eol == 10 then AfterReturn else BrokenQuote in
    either_goes (b == o.separator) AfterSeparator (if b == o.eol then AfterEol else returned) refl
    (eol_goes (b == o.eol) returned no_eol (either_goes (b == 13 && o.eol == 10) AfterReturn BrokenQuote refl refl))

mark_goes : (t : Bool) (next : CutPlace) → t ≡ false → begins_record next ≡ false → begins_record (if t then AfterMark else next) ≡ false
mark_goes t next other goes = rw other goes

pub record_goes : (o : Dialect) (place : CutPlace) (b : ℕ) → (b == o.eol) ≡ false → (b == 191) ≡ false → begins_record (place_step o place b) ≡ false
record_goes o AtOpening b no_eol no_mark = either_goes (b == 239) InMarkOne (first_step o b) refl (first_goes o b no_eol)
record_goes o InMarkOne b no_eol no_mark = either_goes (b == 187) InMarkTwo (plain_step o b) refl (plain_goes o b no_eol)
record_goes o InMarkTwo b no_eol no_mark = mark_goes (b == 191) (plain_step o b) no_mark (plain_goes o b no_eol)
record_goes o AfterMark b no_eol no_mark = first_goes o b no_eol
record_goes o AfterEol b no_eol no_mark = first_goes o b no_eol
record_goes o AfterSeparator b no_eol no_mark = first_goes o b no_eol
record_goes o InPlain b no_eol no_mark = plain_goes o b no_eol
record_goes o InQuotes b no_eol no_mark = either_goes (is_quote o.quote b) AfterQuote InQuotes refl refl
record_goes o AfterQuote b no_eol no_mark = either_goes (is_quote o.quote b) InQuotes (closed_step o b) refl (closed_goes o b no_eol)
record_goes o AfterReturn b no_eol no_mark = eol_goes (b == o.eol) BrokenQuote no_eol refl
record_goes o InComment b no_eol no_mark = eol_goes (b == o.eol) InComment no_eol refl
record_goes o BrokenQuote b no_eol no_mark = refl

-- what is left of a prefix
pub drop_next : (prefix : List ℕ) (k c : ℕ) (left : List ℕ) → drop k prefix ≡ c ∷ left → (drop (k + 1) prefix ≡ left) × (length prefix ≡ k + suc (length left))
drop_next [] zero c left is = cc
drop_next [] (suc k) c left is = cc
drop_next (p ∷ prefix) zero c left is =
    let rest : prefix ≡ left = cc in
    let size : length prefix ≡ length left = ap length rest in
    (rest, omega arith)
drop_next (p ∷ prefix) (suc k) c left is =
    let later = drop_next prefix k c left is in
    let e : suc k + 1 ≡ suc (k + 1) = omega arith in
    let size : length prefix ≡ k + suc (length left) = later.1 in
    (ap (λ (n : ℕ). drop n (p ∷ prefix)) e ∙ later.0, omega arith)

-- the record is `k` bytes of the prefix
abbrev pub matching : ℕ → CutPlace → CutState
matching k place = record { matched = Some k; place = place }

-- what is left of the prefix to be matched
pub record IsLeft (o : Dialect) (prefix : List ℕ) (k : ℕ) (left : List ℕ) : Type 0 where
  pub asked : o.comment ≡ Some prefix
  pub is : drop k prefix ≡ left
  pub no_eol : IsWithout o.eol left
  pub ascii : AreAscii left

pub left_next : (o : Dialect) (prefix : List ℕ) (k c : ℕ) (left : List ℕ) → IsLeft o prefix k (c ∷ left) → IsLeft o prefix (k + 1) left
left_next o prefix k c left is =
    record { asked = is.asked; is = (drop_next prefix k c left is.is).0; no_eol = is.no_eol.1; ascii = is.ascii.1 }

matched_step-left : (o : Dialect) (prefix : List ℕ) (k c b : ℕ) (left : List ℕ) (t : Bool) → IsLeft o prefix k (c ∷ left) → (c == b) ≡ t
    → matched_step o.comment (Some k) b ≡ (if t then Some (k + 1) else None)
matched_step-left o prefix k c b left t is same =
    ap (λ (x : Option (List ℕ)). matched_step x (Some k) b) is.asked
    ∙ ap (λ (x : List ℕ). if begins b x then Some (k + 1) else None) is.is
    ∙ ap (λ (t : Bool). if t then Some (k + 1) else None) same

pub place_goes : (o : Dialect) (prefix : List ℕ) (k c : ℕ) (left : List ℕ) (place : CutPlace) → IsLeft o prefix k (c ∷ left) → begins_record (place_step o place c) ≡ false
place_goes o prefix k c left place is =
    let small : c < 128 = is.ascii.0 in
    record_goes o place c (other_byte c o.eol is.no_eol.0) (other_byte c 191 (λ e. let large : c ≡ 191 = e in absurd (omega arith)))

-- a further byte of the prefix, which is not its last
pub step_within : (o : Dialect) (prefix : List ℕ) (k c d : ℕ) (left : List ℕ) (place : CutPlace) → IsLeft o prefix k (c ∷ d ∷ left)
    → cut_step o (matching k place) c ≡ matching (k + 1) (place_step o place c)
step_within o prefix k c d left place is =
    let size : length prefix ≡ k + suc (suc (length left)) = (drop_next prefix k c (d ∷ left) is.is).1 in
    let not_all : (k + 1 == length prefix) ≡ false = other_byte (k + 1) (length prefix) (λ e. let all : k + 1 ≡ length prefix = e in absurd (omega arith)) in
    let not_whole : is_whole_prefix o.comment (Some (k + 1)) ≡ false = ap (λ (x : Option (List ℕ)). is_whole_prefix x (Some (k + 1))) is.asked ∙ not_all in
    ap (λ (m : Option ℕ). state_at o m (place_step o place c)) (matched_step-left o prefix k c c (d ∷ left) true is (byte_itself c))
    ∙ rw (place_goes o prefix k c (d ∷ left) place is, not_whole) refl

-- the last byte of the prefix
pub step_last : (o : Dialect) (prefix : List ℕ) (k c : ℕ) (place : CutPlace) → IsLeft o prefix k (c ∷ []) → cut_step o (matching k place) c ≡ lone InComment
step_last o prefix k c place is =
    let size : length prefix ≡ k + 1 = (drop_next prefix k c [] is.is).1 in
    let all : (k + 1 == length prefix) ≡ true = eq-eqb (k + 1) (length prefix) (sym size) in
    let whole : is_whole_prefix o.comment (Some (k + 1)) ≡ true = ap (λ (x : Option (List ℕ)). is_whole_prefix x (Some (k + 1))) is.asked ∙ all in
    ap (λ (m : Option ℕ). state_at o m (place_step o place c)) (matched_step-left o prefix k c c [] true is (byte_itself c))
    ∙ rw (place_goes o prefix k c [] place is, whole) refl

-- a byte that differs from the prefix
pub step_differs : (o : Dialect) (prefix : List ℕ) (k c b : ℕ) (left : List ℕ) (place : CutPlace) → IsLeft o prefix k (c ∷ left) → (c == b) ≡ false
    → cut_step o (matching k place) b ≡ cut_step o (lone place) b
step_differs o prefix k c b left place is differs =
    ap (λ (m : Option ℕ). state_at o m (place_step o place b)) (matched_step-left o prefix k c b left false is differs) ∙ sym (step_lost o place b)

-- over the rest of the prefix, into the comment
pub prefix_run : (o : Dialect) (prefix : List ℕ) (k c : ℕ) (left : List ℕ) (place : CutPlace) → IsLeft o prefix k (c ∷ left) → IsRun o (matching k place) (c ∷ left) (lone InComment)
prefix_run o prefix k c [] place is = run_byte o (matching k place) (lone InComment) c (step_last o prefix k c place is) refl
prefix_run o prefix k c (d ∷ left) place is =
    let next : CutPlace = place_step o place c in
    run_append o (matching k place) (matching (k + 1) next) (lone InComment) (c ∷ []) (d ∷ left)
    (run_byte o (matching k place) (matching (k + 1) next) c (step_within o prefix k c d left place is) (not_after next (place_goes o prefix k c (d ∷ left) place is)))
    (prefix_run o prefix (k + 1) d left next (left_next o prefix k c (d ∷ left) is))

-- a byte that goes on as the prefix does, or differs
lost_byte : (o : Dialect) (prefix : List ℕ) (k c b : ℕ) (left bs : List ℕ) (place : CutPlace) (t : Bool) → IsLeft o prefix k (c ∷ left) → (c == b) ≡ t
    → (if t then behind_front left bs else None) ≡ None
    → (behind_front left bs ≡ None → (next : CutPlace) → AreAlike o (matching (k + 1) next) (lone next) bs)
    → AreAlike o (matching k place) (lone place) (b ∷ bs)
lost_byte o prefix k c b [] bs place true is same none later = cc
lost_byte o prefix k c b (d ∷ left) bs place true is same none later =
    let next : CutPlace = place_step o place c in
    let P : ℕ → Type 0 = λ x. AreAlike o (matching k place) (lone place) (x ∷ bs) in
    subst P (same_byte c b same)
    (alike_step o (matching k place) (lone place) (matching (k + 1) next) (lone next) c bs
    (step_within o prefix k c d left place is)
    (step_on o place next c refl (place_goes o prefix k c (d ∷ left) place is))
    refl (later none next))
lost_byte o prefix k c b left bs place false is same none later = alike_same o (matching k place) (lone place) b bs (step_differs o prefix k c b left place is same)

-- a text that does not go on as the prefix does
pub prefix_lost : (o : Dialect) (prefix : List ℕ) (k : ℕ) (left text : List ℕ) (place : CutPlace) → IsLeft o prefix k left → behind_front left text ≡ None
    → AreAlike o (matching k place) (lone place) text
prefix_lost o prefix k left [] place is none = alike_nothing o (matching k place) (lone place) refl
prefix_lost o prefix k [] (b ∷ bs) place is none = cc
prefix_lost o prefix k (c ∷ left) (b ∷ bs) place is none =
    lost_byte o prefix k c b left bs place (c == b) is refl none
    (λ later next. prefix_lost o prefix (k + 1) left bs next (left_next o prefix k c left is) later)

-- a front of a text that does not begin with the prefix does not either
pub behind_front-front : (prefix front back : List ℕ) → behind_front prefix (front ++ back) ≡ None → behind_front prefix front ≡ None
behind_front-front [] front back none = cc
behind_front-front (p ∷ prefix) [] back none = refl
behind_front-front (p ∷ prefix) (b ∷ front) back none = front_byte (p == b) none (behind_front-front prefix front back)
  where
    front_byte : (t : Bool) → (if t then behind_front prefix (front ++ back) else None) ≡ None
        → (behind_front prefix (front ++ back) ≡ None → behind_front prefix front ≡ None) → (if t then behind_front prefix front else None) ≡ None
    front_byte true none later = later none
    front_byte false none later = refl
