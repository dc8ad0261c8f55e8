-- The machine that finds cuts goes over the record that is read at the front of a text.
use Rattle.std.proofs.Common.{◌≡◌, ℕ, ◌+◌, ap, sym, subst, refl, ◌∙◌, inl, inr, arith}
use Rattle.std.specs.Prelude.{Option, Some, None, List, [], ◌∷◌, ◌++◌, length}
use Rattle.morsel_grammar.specs.Dialect.{Dialect, IsDialect, IsWithout, IsCommentFor}
use Rattle.morsel_grammar.specs.Grammar.{CsvField, IsLineEnd}
use Rattle.morsel_grammar.specs.Split.{line_at, behind_front, comment_body, fields_up_to, fields_record, record_then_fields, record_at}
use Rattle.morsel_grammar.specs.Machine.{CutState, AfterEol, AfterSeparator, InComment, no_byte_matched, first_state, RefusesEnd}
use Rattle.morsel_grammar.specs.Cuts.{EndsAtFirst, FollowsFound, FollowsReading}
use Rattle.morsel_grammar.proofs.ByteLemmas.{byte_itself, other_byte}
use Rattle.morsel_grammar.proofs.CommentLemmas.{IsLineText, line_at-read, IsBehind, behind_front-read}
use Rattle.morsel_grammar.proofs.RunLemmas.{lone, IsRun, run_nothing, run_append, run_on, ends_here, ends_with_text, ends_behind}
use Rattle.morsel_grammar.proofs.FieldsRunLemmas.{fields-run}
use Rattle.morsel_grammar.proofs.AlikeLemmas.{AreAlikeWithin, alike_same, follows_alike}
use Rattle.morsel_grammar.proofs.PrefixRunLemmas.{matching, IsLeft, prefix_run, prefix_lost, behind_front-front}

-- a comment runs to the eol byte
comment_run : (o : Dialect) (body : List ℕ) → IsWithout o.eol body → IsRun o (lone InComment) body (lone InComment)
comment_run o [] no_eol = run_nothing o (lone InComment)
comment_run o (b ∷ bs) no_eol =
    run_append o (lone InComment) (lone InComment) (lone InComment) (b ∷ []) bs
    (run_on o InComment InComment b (rw (other_byte b o.eol no_eol.0) refl) refl)
    (comment_run o bs no_eol.1)

comment_may_end : RefusesEnd (lone InComment) → ⊥
comment_may_end (inl is) = cc
comment_may_end (inr is) = cc

line_ends : (o : Dialect) (end rest : List ℕ) → IsLineEnd o end rest → EndsAtFirst o (lone InComment) end rest
line_ends o end rest (inl is) =
    let P : List ℕ → Type 0 = λ x. EndsAtFirst o (lone InComment) x rest in
    subst P (sym is) (ends_here o (lone InComment) rest (rw (byte_itself o.eol) refl))
line_ends o end rest (inr is) =
    let P : List ℕ → Type 0 = λ x. EndsAtFirst o (lone InComment) x rest in
    let Q : List ℕ → Type 0 = λ x. EndsAtFirst o (lone InComment) [] x in
    subst P (sym is.0) (subst Q (sym is.1) (ends_with_text o (lone InComment) comment_may_end))

body_ends : (o : Dialect) (body : List ℕ) (found : List ℕ × List ℕ) → IsLineText o body found → EndsAtFirst o (lone InComment) body found.1
body_ends o body found is =
    let P : List ℕ → Type 0 = λ x. EndsAtFirst o (lone InComment) x found.1 in
    subst P (sym is.is) (ends_behind o (lone InComment) (lone InComment) found.0 is.end found.1 (comment_run o found.0 is.no_eol) (line_ends o is.end found.1 is.line))

-- fields, from a state in which a record begins and can become no comment
first_alike : (o : Dialect) (text : List ℕ) → AreAlikeWithin o (lone AfterEol) (lone AfterSeparator) text
first_alike o text [] back is some = absurd (some refl)
first_alike o text (b ∷ front) back is some = alike_same o (lone AfterEol) (lone AfterSeparator) b front refl

fields_follow : (o : Dialect) (s : CutState) (text : List ℕ) (found : Option (List CsvField × List ℕ)) → FollowsFound o s text found → FollowsFound o s text (fields_record found)
fields_follow o s text None follows = follows
fields_follow o s text (Some found) follows = follows

lone_follows : (o : Dialect) (b : ℕ) (bs : List ℕ) → IsDialect o
    → FollowsFound o (lone AfterEol) (b ∷ bs) (fields_record (fields_up_to (length (b ∷ bs) + 1) o (b ∷ bs)))
lone_follows o b bs fit =
    fields_follow o (lone AfterEol) (b ∷ bs) (fields_up_to (length (b ∷ bs) + 1) o (b ∷ bs))
    (follows_alike o (lone AfterEol) (lone AfterSeparator) (b ∷ bs) (fields_up_to (length (b ∷ bs) + 1) o (b ∷ bs)) (λ none. cc) (first_alike o (b ∷ bs))
    (fields-run (length (b ∷ bs) + 1) o (b ∷ bs) fit (omega arith)))

prefix_alike : (o : Dialect) (prefix text : List ℕ) → IsLeft o prefix 0 prefix → behind_front prefix text ≡ None → AreAlikeWithin o (matching 0 AfterEol) (lone AfterEol) text
prefix_alike o prefix text is none front back split some =
    prefix_lost o prefix 0 prefix front AfterEol is (behind_front-front prefix front back (ap (behind_front prefix) (sym split) ∙ none))

-- with a prefix, whether the text begins with it or not
prefix_follows : (o : Dialect) (c : ℕ) (prefix : List ℕ) (b : ℕ) (bs : List ℕ) (body : Option (List ℕ)) → IsDialect o → IsLeft o (c ∷ prefix) 0 (c ∷ prefix)
    → behind_front (c ∷ prefix) (b ∷ bs) ≡ body → FollowsFound o (matching 0 AfterEol) (b ∷ bs) (record_then_fields o (b ∷ bs) body)
prefix_follows o c prefix b bs None fit is none =
    follows_alike o (matching 0 AfterEol) (lone AfterEol) (b ∷ bs) (record_then_fields o (b ∷ bs) None) (λ none. cc)
    (prefix_alike o (c ∷ prefix) (b ∷ bs) is none) (lone_follows o b bs fit)
prefix_follows o c prefix b bs (Some body) fit is found =
    let P : Option (List ℕ) → Type 0 = λ x. IsBehind (c ∷ prefix) (b ∷ bs) x in
    let split : b ∷ bs ≡ (c ∷ prefix) ++ body = subst P found (behind_front-read (c ∷ prefix) (b ∷ bs)) in
    let Q : List ℕ → Type 0 = λ x. EndsAtFirst o (matching 0 AfterEol) x (line_at o.eol body).1 in
    subst Q (sym split)
    (ends_behind o (matching 0 AfterEol) (lone InComment) (c ∷ prefix) body (line_at o.eol body).1 (prefix_run o (c ∷ prefix) 0 c prefix AfterEol is)
    (body_ends o body (line_at o.eol body) (line_at-read o body)))

-- of the options, what begins a record
by_comment : (o : Dialect) (comment : Option (List ℕ)) (b : ℕ) (bs : List ℕ) → IsDialect o → o.comment ≡ comment → IsCommentFor o.eol comment
    → FollowsFound o (record { matched = no_byte_matched comment; place = AfterEol }) (b ∷ bs) (record_then_fields o (b ∷ bs) (comment_body comment (b ∷ bs)))
by_comment o None b bs fit asked is = lone_follows o b bs fit
by_comment o (Some []) b bs fit asked is = absurd is
by_comment o (Some (c ∷ prefix)) b bs fit asked is =
    prefix_follows o c prefix b bs (behind_front (c ∷ prefix) (b ∷ bs)) fit (record { asked = asked; is = refl; no_eol = is.1; ascii = is.0 }) refl

first_may_end : (o : Dialect) → RefusesEnd (first_state o AfterEol) → ⊥
first_may_end o (inl is) = cc
first_may_end o (inr is) = cc

no_text_follows : (o : Dialect) (comment : Option (List ℕ)) → IsCommentFor o.eol comment → EndsAtFirst o (first_state o AfterEol) [] []
    → FollowsFound o (first_state o AfterEol) [] (record_then_fields o [] (comment_body comment []))
no_text_follows o None is ends = ends
no_text_follows o (Some []) is ends = absurd is
no_text_follows o (Some (c ∷ prefix)) is ends = ends

-- the record that is read at the front of a text
pub record-follows : (o : Dialect) (text : List ℕ) → IsDialect o → FollowsFound o (first_state o AfterEol) text (record_at o text)
record-follows o [] fit = no_text_follows o o.comment fit.comment (ends_with_text o (first_state o AfterEol) (first_may_end o))
record-follows o (b ∷ bs) fit = by_comment o o.comment b bs fit refl fit.comment

pub follows_reading : (o : Dialect) → IsDialect o → FollowsReading o
follows_reading o fit = λ text. record-follows o text fit
