-- What the machine that finds the cuts and the grammar say of each other, for one choice of options; and what holds of any machine.
use Rattle.std.specs.Prelude.{◌≡◌, ◌≢◌, ◌⊎◌, ◌↔◌, ℕ, ◌+◌, ◌≤◌, Bool, true, Option, Some, None, List, [], ◌∷◌, ◌++◌, length, take, drop}
use Rattle.morsel_grammar.specs.Dialect.{Dialect}
use Rattle.morsel_grammar.specs.Grammar.{CsvRecord, IsRecord}
use Rattle.morsel_grammar.specs.Split.{record_at}
use Rattle.morsel_grammar.specs.Rows.{mark_len, unmarked}
use Rattle.morsel_grammar.specs.GrammarRows.{AreWholeRecords, BeginsNoRecord}
use Rattle.morsel_grammar.specs.Machine.{CutPlace, CutState, AtOpening, AfterMark, AfterEol, state_after, last_place, joined_place, first_state, cut_after, last_end, last_begin, begun_after, RefusesRecord, RefusesEnd}

-- a text in two parts is passed one part after the other
abbrev pub PassesParts : {S : Type 0} → (S → ℕ → S) → Type 0
PassesParts {S} step = (s : S) (front back : List ℕ) → state_after step s (front ++ back) ≡ state_after step (state_after step s front) back

-- the last place of a text in two parts
abbrev pub JoinsPlaces : {S : Type 0} → (S → ℕ → S) → Type 0
JoinsPlaces {S} step = (test : S → Bool) (s : S) (front back : List ℕ) → last_place step test s (front ++ back)
    ≡ joined_place (last_place step test s front) (length front) (last_place step test (state_after step s front) back)

-- the last place is within the text
abbrev pub StaysWithin : {S : Type 0} → (S → ℕ → S) → Type 0
StaysWithin {S} step = (test : S → Bool) (s : S) (bytes : List ℕ) → last_place step test s bytes ≤ length bytes

-- where there is a last place, the test holds at it
abbrev pub HoldsAtLast : {S : Type 0} → (S → ℕ → S) → Type 0
HoldsAtLast {S} step = (test : S → Bool) (s : S) (bytes : List ℕ) → last_place step test s bytes ≢ 0
    → test (state_after step s (take (last_place step test s bytes) bytes)) ≡ true

-- after the last place there is none
abbrev pub HoldsNotLater : {S : Type 0} → (S → ℕ → S) → Type 0
HoldsNotLater {S} step = (test : S → Bool) (s : S) (bytes : List ℕ) → (let n = last_place step test s bytes in
    last_place step test (state_after step s (take n bytes)) (drop n bytes) ≡ 0)

-- the place at which bytes begin: a file, its first record after the mark, or a record after an eol byte
abbrev pub IsFirstPlace : CutPlace → Type 0
IsFirstPlace AtOpening = Unit {0}
IsFirstPlace AfterMark = Unit {0}
IsFirstPlace AfterEol = Unit {0}
IsFirstPlace place = ⊥

-- the text of the records, of the bytes that begin at a place
abbrev pub text_from : CutPlace → List ℕ → List ℕ
text_from AtOpening bytes = unmarked bytes
text_from place bytes = bytes

-- how many bytes there are before it
abbrev pub text_begins : CutPlace → List ℕ → ℕ
text_begins AtOpening bytes = mark_len bytes
text_begins place bytes = 0

-- the record is what there is up to the first place where the text may be cut; or there is no such place, and the record ends with the text
abbrev pub EndsAtFirst : Dialect → CutState → List ℕ → List ℕ → Type 0
EndsAtFirst o s text rest =
    ((line : List ℕ) × (text ≡ line ++ o.eol ∷ rest) × (last_end o s line ≡ 0) × (cut_after o s (line ++ o.eol ∷ []) ≡ first_state o AfterEol))
    ⊎ ((rest ≡ []) × (last_end o s text ≡ 0) × (RefusesEnd (cut_after o s text) → ⊥))

-- the machine goes over what is found at the front of a text, up to its end. Where nothing is, it finds no end, and the text may not end
abbrev pub FollowsFound : {R : Type 0} → Dialect → CutState → List ℕ → Option (R × List ℕ) → Type 0
FollowsFound o s text None = (last_end o s text ≡ 0) × RefusesEnd (cut_after o s text)
FollowsFound o s text (Some found) = EndsAtFirst o s text found.1

-- what is read at the front of a text, the machine follows
abbrev pub FollowsReading : Dialect → Type 0
FollowsReading o = (text : List ℕ) → FollowsFound o (first_state o AfterEol) text (record_at o text)

-- a record is read up to the first place where the text may be cut, or up to the end of the text where there is none
abbrev pub ReadsToFirstEnd : Dialect → Type 0
ReadsToFirstEnd o = (text rest : List ℕ) → EndsAtFirst o (first_state o AfterEol) text rest → (r : CsvRecord) × (record_at o text ≡ Some (r, rest))

-- no record is read where the text has no place where it may be cut, and may not end
abbrev pub ReadsNothingOpen : Dialect → Type 0
ReadsNothingOpen o = (text : List ℕ) → last_end o (first_state o AfterEol) text ≡ 0 → RefusesEnd (cut_after o (first_state o AfterEol) text) → record_at o text ≡ None

-- no record with its eol byte is a front of the text
abbrev pub BeginsNoWholeRecord : Dialect → List ℕ → Type 0
BeginsNoWholeRecord o text = (r : CsvRecord) (line rest : List ℕ) → text ≡ line ++ o.eol ∷ rest → IsRecord o r text rest → ⊥

-- bytes at whose end the text may be cut are whole records, each with its eol byte
abbrev pub AreWholeAtEnds : Dialect → Type 0
AreWholeAtEnds o = (place : CutPlace) (bytes : List ℕ) → IsFirstPlace place → (cut_after o (first_state o place) bytes).place ≡ AfterEol
    → (records : List CsvRecord) × AreWholeRecords o (text_from place bytes) records

-- after whole records, at least one, a text may be cut, and a record begins
abbrev pub MayCutAfterWhole : Dialect → Type 0
MayCutAfterWhole o = (place : CutPlace) (bytes : List ℕ) (r : CsvRecord) (records : List CsvRecord) → IsFirstPlace place → AreWholeRecords o (text_from place bytes) (r ∷ records)
    → cut_after o (first_state o place) bytes ≡ first_state o AfterEol

-- bytes up to their last end are whole records, and after them a record begins
abbrev pub CutsAfterWhole : Dialect → Type 0
CutsAfterWhole o = (place : CutPlace) (bytes : List ℕ) → IsFirstPlace place → (let n = last_end o (first_state o place) bytes in
    ((records : List CsvRecord) × AreWholeRecords o (text_from place (take n bytes)) records)
    × (n ≢ 0 → cut_after o (first_state o place) (take n bytes) ≡ first_state o AfterEol))

-- bytes after their last end have none, and the machine passes them as if nothing were before them
abbrev pub PassesWhatIsLeft : Dialect → Type 0
PassesWhatIsLeft o = (place : CutPlace) (bytes : List ℕ) → IsFirstPlace place → (let n = last_end o (first_state o place) bytes in
    n ≢ 0 → (last_end o (first_state o AfterEol) (drop n bytes) ≡ 0)
    × (cut_after o (first_state o AfterEol) (drop n bytes) ≡ cut_after o (first_state o place) bytes))

-- what follows the mark of a file is passed as from the place after it, and its last end is the one that is found after an eol byte
abbrev pub PassesMark : Dialect → Type 0
PassesMark o = (bytes : List ℕ) → (cut_after o (first_state o AtOpening) (239 ∷ 187 ∷ 191 ∷ bytes) ≡ cut_after o (first_state o AfterMark) bytes)
    × (last_end o (first_state o AfterMark) bytes ≡ last_end o (first_state o AfterEol) bytes)

-- there is no place where the text may be cut exactly where it begins with no record that has its eol byte
abbrev pub FindsNoEnd : Dialect → Type 0
FindsNoEnd o = (place : CutPlace) (bytes : List ℕ) → IsFirstPlace place
    → (last_end o (first_state o place) bytes ≡ 0) ↔ BeginsNoWholeRecord o (text_from place bytes)

-- where a record is refused, none begins at its first byte, whatever follows
abbrev pub RefusesWhateverFollows : Dialect → Type 0
RefusesWhateverFollows o = (place : CutPlace) (bytes more : List ℕ) → IsFirstPlace place → RefusesRecord (cut_after o (first_state o place) bytes)
    → BeginsNoRecord o (drop (last_begin o (first_state o place) bytes) bytes ++ more)

-- where no record begins at the first byte of the one that is under way, whatever follows, it is refused
abbrev pub RefusesWithoutDelay : Dialect → Type 0
RefusesWithoutDelay o = (place : CutPlace) (bytes : List ℕ) → IsFirstPlace place
    → ((more : List ℕ) → BeginsNoRecord o (drop (last_begin o (first_state o place) bytes) bytes ++ more)) → RefusesRecord (cut_after o (first_state o place) bytes)

-- where the text may not end, no record begins at the first byte of the one that is under way
abbrev pub RefusesOpenEnd : Dialect → Type 0
RefusesOpenEnd o = (place : CutPlace) (bytes : List ℕ) → IsFirstPlace place → RefusesEnd (cut_after o (first_state o place) bytes)
    → BeginsNoRecord o (drop (last_begin o (first_state o place) bytes) bytes)

-- where the text may end, what there is of the record that is under way is one record
abbrev pub EndsWithRecord : Dialect → Type 0
EndsWithRecord o = (place : CutPlace) (bytes : List ℕ) → IsFirstPlace place → (RefusesEnd (cut_after o (first_state o place) bytes) → ⊥)
    → (let left = drop (last_begin o (first_state o place) bytes) bytes in left ≢ [] → (r : CsvRecord) × IsRecord o r left [])

-- a refused record is refused for good, and no other begins
abbrev pub RefusesForGood : Dialect → Type 0
RefusesForGood o = (s : CutState) (bytes : List ℕ) → RefusesRecord s
    → (cut_after o s bytes ≡ s) × (last_end o s bytes ≡ 0) × ((fed begun : ℕ) → begun_after o s fed begun bytes ≡ begun)

-- the place of the record that is under way is found part by part
abbrev pub CarriesBegun : Dialect → Type 0
CarriesBegun o = (s : CutState) (fed begun : ℕ) (front back : List ℕ)
    → begun_after o s fed begun (front ++ back) ≡ begun_after o (cut_after o s front) (fed + length front) (begun_after o s fed begun front) back

-- where the first record of the bytes begins with them, the place of the one that is under way counts from there
abbrev pub CountsBegun : Dialect → Type 0
CountsBegun o = (s : CutState) (fed : ℕ) (bytes : List ℕ) → begun_after o s fed fed bytes ≡ fed + last_begin o s bytes

-- after the mark, a record begins only where another ends
abbrev pub BeginsAtEnds : Dialect → Type 0
BeginsAtEnds o = (place : CutPlace) (bytes : List ℕ) → IsFirstPlace place → place ≢ AtOpening → last_begin o (first_state o place) bytes ≡ last_end o (first_state o place) bytes

-- before the record that is under way there are whole records, and before them the mark
abbrev pub BeginsAfterWhole : Dialect → Type 0
BeginsAfterWhole o = (place : CutPlace) (bytes : List ℕ) → IsFirstPlace place → (let n = last_begin o (first_state o place) bytes in
    (front : List ℕ) × (records : List CsvRecord) × AreWholeRecords o front records
    × (text_from place bytes ≡ front ++ drop n bytes) × (n ≡ text_begins place bytes + length front))
