-- Whole records in front of a text are its first records, whatever follows them.
use Rattle.std.proofs.Common.{◌≡◌, ◌≢◌, ℕ, ap, sym, subst, refl, ◌∙◌, inl, inr, arith, append_assoc}
use Rattle.std.proofs.lemmas.List.{append-nil, append_cancel_left, append_cancel_right}
use Rattle.std.specs.Prelude.{Bool, true, false, ◌⊎◌, Option, Some, None, List, [], ◌∷◌, ◌++◌}
use Rattle.morsel_grammar.specs.Dialect.{Dialect, IsDialect, IsWithout, IsQuoteFor}
use Rattle.morsel_grammar.specs.Grammar.{CsvField, CsvRecord, Comment, Fields, doubled, Spells, IsLineEnd, IsEnd, AreFields, IsRecord, Records}
use Rattle.morsel_grammar.specs.GrammarRows.{AreWholeRecords}
use Rattle.morsel_grammar.specs.Laws.{EndsWithEol, StandsWhateverFollows, SplitsBehindWhole, JoinsWhole, WholeAreRecords}
use Rattle.morsel_grammar.proofs.CommentLemmas.{prefix_without_eol, front_before}
use Rattle.morsel_grammar.proofs.RecordLemmas.{EndsIn, record_ends, begins_with_one}

-- the last byte of the text is this one
abbrev pub IsLast : ℕ → List ℕ → Type 0
IsLast byte [] = ⊥
IsLast byte (b ∷ []) = b ≡ byte
IsLast byte (b ∷ c ∷ bs) = IsLast byte (c ∷ bs)

IsLast-push : (byte : ℕ) (front : List ℕ) → IsLast byte (front ++ byte ∷ [])
IsLast-push byte [] = refl
IsLast-push byte (b ∷ []) = refl
IsLast-push byte (b ∷ c ∷ front) = IsLast-push byte (c ∷ front)

IsLast-behind : (byte b : ℕ) (front back : List ℕ) → IsLast byte (front ++ b ∷ back) → IsLast byte (b ∷ back)
IsLast-behind byte b [] back last = last
IsLast-behind byte b (c ∷ []) back last = last
IsLast-behind byte b (c ∷ d ∷ front) back last = IsLast-behind byte b (d ∷ front) back last

IsLast-without : (byte : ℕ) (bytes : List ℕ) → IsWithout byte bytes → IsLast byte bytes → ⊥
IsLast-without byte [] without last = last
IsLast-without byte (b ∷ []) without last = without.0 last
IsLast-without byte (b ∷ c ∷ bytes) without last = IsLast-without byte (c ∷ bytes) without.1 last

-- what is spelled without an end does not end in eol
quote_no_eol : (separator eol q : ℕ) (quote : Option ℕ) → IsQuoteFor separator eol quote → quote ≡ Some q → q ≢ eol
quote_no_eol separator eol q None apart asked = cc
quote_no_eol separator eol q (Some p) apart asked = λ is. let same : p ≡ q = cc in apart.2 (same ∙ is)

spelled_no_eol : (o : Dialect) (quoted : Bool) (bytes spelled : List ℕ) → IsDialect o → Spells o quoted bytes spelled → IsLast o.eol spelled → ⊥
spelled_no_eol o true bytes spelled fit spells last =
    let P : List ℕ → Type 0 = λ x. IsLast o.eol x in
    quote_no_eol o.separator o.eol spells.0 o.quote fit.quote spells.1
    (IsLast-behind o.eol spells.0 (spells.0 ∷ doubled spells.0 bytes) [] (subst P spells.2 last))
spelled_no_eol o false bytes spelled fit spells last =
    let P : List ℕ → Type 0 = λ x. IsLast o.eol x in
    IsLast-without o.eol bytes spells.1.no_eol (subst P spells.0 last)

-- fields up to the end of a text whose last byte is eol have it as their end
last_line : (o : Dialect) (f : CsvField) (text spelled end : List ℕ) → IsDialect o → Spells o f.quoted f.bytes spelled → text ≡ spelled ++ end → IsLast o.eol text
    → IsEnd o f end [] → (line : List ℕ) × (text ≡ line ++ o.eol ∷ []) × ((more : List ℕ) → AreFields o (f ∷ []) (line ++ o.eol ∷ more) more)
last_line o f text spelled end fit spells is last (inl (ten, after, end_is, inl line)) = (
  spelled ++ 13 ∷ [],
  is ∙ ap (λ (x : List ℕ). spelled ++ x) (end_is ∙ ap (λ (x : List ℕ). 13 ∷ x) line) ∙ sym (append_assoc spelled (13 ∷ []) (o.eol ∷ [])),
  λ more. (spelled, 13 ∷ o.eol ∷ more, spells, append_assoc spelled (13 ∷ []) (o.eol ∷ more), inl (ten, o.eol ∷ more, refl, inl refl)),
)
last_line o f text spelled end fit spells is last (inl (ten, after, end_is, inr line)) =
    let P : List ℕ → Type 0 = λ x. IsLast o.eol x in
    let here : text ≡ spelled ++ 13 ∷ [] = is ∙ ap (λ (x : List ℕ). spelled ++ x) (end_is ∙ ap (λ (x : List ℕ). 13 ∷ x) line.0) in
    let return : 13 ≡ o.eol = IsLast-behind o.eol 13 spelled [] (subst P here last) in
    absurd (omega arith)
last_line o f text spelled end fit spells is last (inr (inl line, never)) =
    (spelled, is ∙ ap (λ (x : List ℕ). spelled ++ x) line, λ more. (spelled, o.eol ∷ more, spells, refl, inr (inl refl, never)))
last_line o f text spelled end fit spells is last (inr (inr line, never)) =
    let P : List ℕ → Type 0 = λ x. IsLast o.eol x in
    let here : text ≡ spelled = is ∙ ap (λ (x : List ℕ). spelled ++ x) line.0 ∙ append-nil spelled in
    absurd (spelled_no_eol o f.quoted f.bytes spelled fit spells (subst P here last))

last_after : (o : Dialect) (after : List ℕ) → IsDialect o → IsLast o.eol (o.separator ∷ after) → IsLast o.eol after
last_after o [] fit last = absurd (fit.apart last)
last_after o (b ∷ after) fit last = last

fields_line : (o : Dialect) (fields : List CsvField) (text : List ℕ) → IsDialect o → AreFields o fields text [] → IsLast o.eol text
    → (line : List ℕ) × (text ≡ line ++ o.eol ∷ []) × ((more : List ℕ) → AreFields o fields (line ++ o.eol ∷ more) more)
fields_line o [] text fit are last = absurd are
fields_line o (f ∷ []) text fit are last = last_line o f text are.0 are.1 fit are.2 are.3 last are.4
fields_line o (f ∷ g ∷ fields) text fit are last =
    let P : List ℕ → Type 0 = λ x. IsLast o.eol x in
    let found = fields_line o (g ∷ fields) are.1 fit are.4
    (last_after o are.1 fit (IsLast-behind o.eol o.separator are.0 are.1 (subst P are.3 last))) in (
      are.0 ++ o.separator ∷ found.0,
      are.3 ∙ ap (λ (x : List ℕ). are.0 ++ o.separator ∷ x) found.1 ∙ sym (append_assoc are.0 (o.separator ∷ found.0) (o.eol ∷ [])),
      λ more. (are.0, found.0 ++ o.eol ∷ more, are.2, append_assoc are.0 (o.separator ∷ found.0) (o.eol ∷ more), found.2 more),
    )

-- a prefix of some bytes
last_of_comment : (o : Dialect) (prefix body : List ℕ) → IsWithout o.eol prefix → IsWithout o.eol body → IsLast o.eol (prefix ++ body) → ⊥
last_of_comment o prefix [] no_eol body_no_eol last =
    let P : List ℕ → Type 0 = λ x. IsLast o.eol x in IsLast-without o.eol prefix no_eol (subst P (append-nil prefix) last)
last_of_comment o prefix (b ∷ body) no_eol body_no_eol last = IsLast-without o.eol (b ∷ body) body_no_eol (IsLast-behind o.eol b prefix body last)

comment_line : (o : Dialect) (body text prefix end : List ℕ) → IsDialect o → o.comment ≡ Some prefix → text ≡ prefix ++ (body ++ end) → IsWithout o.eol body → IsLast o.eol text → IsLineEnd o end []
    → (line : List ℕ) × (text ≡ line ++ o.eol ∷ []) × ((more : List ℕ) → IsRecord o (Comment body) (line ++ o.eol ∷ more) more)
comment_line o body text prefix end fit asked is no_eol last (inl line) = (
  prefix ++ body,
  is ∙ ap (λ (x : List ℕ). prefix ++ (body ++ x)) line ∙ sym (append_assoc prefix body (o.eol ∷ [])),
  λ more. record { prefix = prefix; end = o.eol ∷ more; asked = asked; spelled = append_assoc prefix body (o.eol ∷ more); no_eol = no_eol; ended = inl refl },
)
comment_line o body text prefix end fit asked is no_eol last (inr line) =
    let P : List ℕ → Type 0 = λ x. IsLast o.eol x in
    let here : text ≡ prefix ++ body = is ∙ ap (λ (x : List ℕ). prefix ++ (body ++ x)) line.0 ∙ ap (λ (x : List ℕ). prefix ++ x) (append-nil body) in
    absurd (last_of_comment o prefix body (prefix_without_eol o.eol o.comment prefix fit.comment asked) no_eol (subst P here last))

record_line : (o : Dialect) (r : CsvRecord) (text : List ℕ) → IsDialect o → IsRecord o r text [] → IsLast o.eol text
    → (line : List ℕ) × (text ≡ line ++ o.eol ∷ []) × ((more : List ℕ) → IsRecord o r (line ++ o.eol ∷ more) more)
record_line o (Comment body) text fit is last = comment_line o body text is.prefix is.end fit is.asked is.spelled is.no_eol last is.ended
record_line o (Fields fields) text fit is last =
    let found = fields_line o fields text fit is.1 last in (
      found.0,
      found.1,
      λ more. (
        λ begins.
            let inside = front_before o.eol begins.0 begins.1 found.0 more (prefix_without_eol o.eol o.comment begins.0 fit.comment begins.2) begins.3 in
            is.0 (
              begins.0,
              inside.0 ++ o.eol ∷ [],
              begins.2,
              found.1 ∙ ap (λ (x : List ℕ). x ++ o.eol ∷ []) inside.1 ∙ append_assoc begins.0 inside.0 (o.eol ∷ []),
            ),
        found.2 more,
      ),
    )

same_line : (o : Dialect) (r : CsvRecord) (line other rest : List ℕ) → line ++ o.eol ∷ rest ≡ other ++ o.eol ∷ rest
    → ((more : List ℕ) → IsRecord o r (other ++ o.eol ∷ more) more) → (more : List ℕ) → IsRecord o r (line ++ o.eol ∷ more) more
same_line o r line other rest is again more =
    let P : List ℕ → Type 0 = λ x. IsRecord o r (x ++ o.eol ∷ more) more in
    subst P (sym (append_cancel_right line other (o.eol ∷ rest) is)) (again more)

by_end : (o : Dialect) (r : CsvRecord) (text line rest : List ℕ) → IsDialect o → IsRecord o r text rest → text ≡ line ++ o.eol ∷ rest → EndsIn o (IsRecord o r) text rest
    → (more : List ℕ) → IsRecord o r (line ++ o.eol ∷ more) more
by_end o r text line rest fit is split (inl none) =
    let P : List ℕ → Type 0 = λ x. IsRecord o r text x in
    let Q : List ℕ → Type 0 = λ x. IsLast o.eol x in
    let end : text ≡ line ++ o.eol ∷ [] = split ∙ ap (λ (x : List ℕ). line ++ o.eol ∷ x) none in
    let found = record_line o r text fit (subst P none is) (subst Q (sym end) (IsLast-push o.eol line)) in
    same_line o r line found.0 [] (sym end ∙ found.1) found.2
by_end o r text line rest fit is split (inr (other, other_split, again)) = same_line o r line other rest (sym split ∙ other_split) again

-- a record with its eol byte is the same record whatever follows
pub record_again : (o : Dialect) (r : CsvRecord) (text line rest : List ℕ) → IsDialect o → IsRecord o r text rest → text ≡ line ++ o.eol ∷ rest
    → (more : List ℕ) → IsRecord o r (line ++ o.eol ∷ more) more
record_again o r text line rest fit is split = by_end o r text line rest fit is split (record_ends o r text rest fit is)

-- the records of a text that begins with whole records begin with these
pub records_behind : (o : Dialect) (front rest : List ℕ) (a all : List CsvRecord) → IsDialect o → AreWholeRecords o front a → Records o (front ++ rest) all
    → (later : List CsvRecord) × (all ≡ a ++ later) × Records o rest later
records_behind o front rest [] all fit none split =
    let P : List ℕ → Type 0 = λ x. Records o (x ++ rest) all in (all, refl, subst P none split)
records_behind o front rest (r ∷ a) [] fit whole split = absurd (some_front (whole.0) (whole.1) (ap (λ (x : List ℕ). x ++ rest) (sym whole.2) ∙ split))
  where
    some_front : (line after : List ℕ) → (line ++ o.eol ∷ after) ++ rest ≡ [] → ⊥
    some_front [] after is = cc
    some_front (b ∷ line) after is = cc
records_behind o front rest (r ∷ a) (s ∷ all) fit whole split =
    let whole_text : front ++ rest ≡ whole.0 ++ o.eol ∷ (whole.1 ++ rest) = ap (λ (x : List ℕ). x ++ rest) whole.2 ∙ append_assoc whole.0 (o.eol ∷ whole.1) rest in
    let P : List ℕ → Type 0 = λ x. IsRecord o r x (whole.1 ++ rest) in
    let first : IsRecord o r (front ++ rest) (whole.1 ++ rest) =
    subst P (sym whole_text) (record_again o r front whole.0 whole.1 fit whole.3 whole.2 (whole.1 ++ rest)) in
    let same = begins_with_one o fit (front ++ rest) r s (whole.1 ++ rest) split.1 first split.2 in
    let Q : List ℕ → Type 0 = λ x. Records o x all in
    let later = records_behind o whole.1 rest a all fit whole.4 (subst Q (sym same.1) split.3) in
    let one : s ≡ r = sym same.0 in
    let more : all ≡ a ++ later.0 = later.1 in
    (later.0, cc, later.2)

-- records after whole records are records of all
pub records_joined : (o : Dialect) (front rest : List ℕ) (a b : List CsvRecord) → IsDialect o → AreWholeRecords o front a → Records o rest b → Records o (front ++ rest) (a ++ b)
records_joined o front rest [] b fit none split = let P : List ℕ → Type 0 = λ x. Records o (x ++ rest) b in subst P (sym none) split
records_joined o front rest (r ∷ a) b fit whole split =
    let whole_text : front ++ rest ≡ whole.0 ++ o.eol ∷ (whole.1 ++ rest) = ap (λ (x : List ℕ). x ++ rest) whole.2 ∙ append_assoc whole.0 (o.eol ∷ whole.1) rest in
    let P : List ℕ → Type 0 = λ x. IsRecord o r x (whole.1 ++ rest) in (
      λ none. some_line whole.0 (whole.1 ++ rest) (sym whole_text ∙ none),
      whole.1 ++ rest,
      subst P (sym whole_text) (record_again o r front whole.0 whole.1 fit whole.3 whole.2 (whole.1 ++ rest)),
      records_joined o whole.1 rest a b fit whole.4 split,
    )
  where
    some_line : (line after : List ℕ) → line ++ o.eol ∷ after ≡ [] → ⊥
    some_line [] after is = cc
    some_line (b ∷ line) after is = cc

-- whole records are records
pub records_whole : (o : Dialect) (front : List ℕ) (records : List CsvRecord) → IsDialect o → AreWholeRecords o front records → Records o front records
records_whole o front records fit whole =
    let P : List ℕ → Type 0 = λ x. Records o x (records ++ []) in
    let Q : List CsvRecord → Type 0 = λ x. Records o front x in
    subst Q (append-nil records) (subst P (append-nil front) (records_joined o front [] records [] fit whole refl))

-- whole records after whole records are whole records
pub whole_joined : (o : Dialect) (front back : List ℕ) (a b : List CsvRecord) → IsDialect o → AreWholeRecords o front a → AreWholeRecords o back b → AreWholeRecords o (front ++ back) (a ++ b)
whole_joined o front back [] b fit none whole = let P : List ℕ → Type 0 = λ x. AreWholeRecords o (x ++ back) b in subst P (sym none) whole
whole_joined o front back (r ∷ a) b fit whole more =
    let split : front ++ back ≡ whole.0 ++ o.eol ∷ (whole.1 ++ back) = ap (λ (x : List ℕ). x ++ back) whole.2 ∙ append_assoc whole.0 (o.eol ∷ whole.1) back in
    let P : List ℕ → Type 0 = λ x. IsRecord o r x (whole.1 ++ back) in (
      whole.0,
      whole.1 ++ back,
      split,
      subst P (sym split) (record_again o r front whole.0 whole.1 fit whole.3 whole.2 (whole.1 ++ back)),
      whole_joined o whole.1 back a b fit whole.4 more,
    )

by_eol : (o : Dialect) (r : CsvRecord) (text rest : List ℕ) → EndsIn o (IsRecord o r) text rest → (rest ≡ []) ⊎ ((line : List ℕ) × (text ≡ line ++ o.eol ∷ rest))
by_eol o r text rest (inl none) = inl none
by_eol o r text rest (inr (line, split, again)) = inr (line, split)

pub ends_with_eol : (o : Dialect) → IsDialect o → EndsWithEol o
ends_with_eol o fit = λ text r rest is. by_eol o r text rest (record_ends o r text rest fit is)

pub stands_whatever_follows : (o : Dialect) → IsDialect o → StandsWhateverFollows o
stands_whatever_follows o fit = λ text r line rest is split more. record_again o r text line rest fit is split more

pub splits_behind_whole : (o : Dialect) → IsDialect o → SplitsBehindWhole o
splits_behind_whole o fit = λ front rest whole records are. (
  λ all. let found = records_behind o front rest whole (whole ++ records) fit are all in
      let same : records ≡ found.0 = append_cancel_left whole records found.0 found.1 in
      let P : List CsvRecord → Type 0 = λ x. Records o rest x in
      subst P (sym same) found.2,
  λ split. records_joined o front rest whole records fit are split,
)

pub joins_whole : (o : Dialect) → IsDialect o → JoinsWhole o
joins_whole o fit = λ front back records others first second. whole_joined o front back records others fit first second

pub whole_are_records : (o : Dialect) → IsDialect o → WholeAreRecords o
whole_are_records o fit = λ text records whole. records_whole o text records fit whole
