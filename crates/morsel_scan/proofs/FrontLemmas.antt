-- The front of a block: its mark, its records up to the header, and what follows them.
use Rattle.std.proofs.Common.{◌≡◌, ◌≢◌, ℕ, zero, suc, ◌+◌, ◌≤◌, ap, sym, subst, refl, ◌∙◌, inl, inr, arith, length-append, append_assoc, append-nil}
use Rattle.std.proofs.Math.Seq.{take-add}
use borrow.Author.Tests.{eqb-true}
use Rattle.std.proofs.lemmas.List.{take-append-drop, drop-drop, drop-take, drop_all, length-take-le, length-drop, length-take}
use Rattle.std.proofs.lemmas.Str.{IsUtf8-append, IsUtf8-nil}
use Rattle.std.specs.Prelude.{◌⊎◌, ◌==◌, ◌&&◌, Bool, true, false, if◌then◌else◌, List, [], ◌∷◌, ◌++◌, length, take, drop, IsUtf8}
use lib.Utf8.{encode}
use Rattle.morsel_meaning.specs.declared.fault.Fault.{Fault}
use Rattle.morsel_meaning.specs.declared.fault.Fault.TheVariants as faults
use Rattle.morsel_meaning.specs.declared.fault.ComputeKind.TheVariants as kinds
use Rattle.morsel_grammar.specs.Dialect.{Dialect, IsDialect}
use Rattle.morsel_grammar.specs.Grammar.{CsvRecord, IsRecord, Records}
use Rattle.morsel_grammar.specs.Rows.{mark_len, behind_header}
use Rattle.morsel_grammar.specs.GrammarRows.{AreWholeRecords}
use Rattle.morsel_grammar.proofs.RecordLemmas.{begins_with_one}
use Rattle.morsel_grammar.proofs.WholeRecordLemmas.{stands_whatever_follows, joins_whole}
use Rattle.morsel_cut.specs.RowCounts.{row_count}
use Rattle.morsel_cut.specs.declared.header.HeadEnd.{HeadEnd}
use Rattle.morsel_scan.specs.FileReads.{text_at}
use Rattle.morsel_scan.specs.RowBlocks.{HasRecordNotUtf8, IsTextFault}
use Rattle.morsel_scan.specs.BlockRows.{mark_at, header_front, IsHeaderPart, IsFrontOf}

-- what comes after whole records of whole records is whole records
pub whole_behind : (o : Dialect) (front rest : List ℕ) (records all : List CsvRecord) → IsDialect o → AreWholeRecords o front records → AreWholeRecords o (front ++ rest) all
    → (left : List CsvRecord) × (all ≡ records ++ left) × AreWholeRecords o rest left
whole_behind o front rest [] all fit none whole = (all, refl, subst (λ (x : List ℕ). AreWholeRecords o (x ++ rest) all) none whole)
whole_behind o front rest (r ∷ records) [] fit (line, after, front_is, is, later) whole =
    absurd (let size : length (front ++ rest) ≡ 0 = ap length whole in omega (arith, length-append front rest, ap length front_is, length-append line (o.eol ∷ after)))
whole_behind o front rest (r ∷ records) (q ∷ all) fit (line, after, front_is, is, later) (other, next, all_is, other_is, whole) =
    let text_is : front ++ rest ≡ line ++ o.eol ∷ (after ++ rest) = ap (λ (x : List ℕ). x ++ rest) front_is ∙ append_assoc line (o.eol ∷ after) rest in
    let here : IsRecord o r (front ++ rest) (after ++ rest) =
    subst (λ (x : List ℕ). IsRecord o r x (after ++ rest)) (sym text_is) (stands_whatever_follows o fit front r line after is front_is (after ++ rest)) in
    let same = begins_with_one o fit (front ++ rest) r q (after ++ rest) next here other_is in
    let more = whole_behind o after rest records all fit later (subst (λ (x : List ℕ). AreWholeRecords o x all) (sym same.1) whole) in
    (more.0, ap (λ (x : CsvRecord). x ∷ all) (sym same.0) ∙ ap (λ (x : List CsvRecord). r ∷ x) more.1, more.2)

-- a record of a front of whole records is one of the text
record_goes_on : (o : Dialect) (r : CsvRecord) (text rest more : List ℕ) (records : List CsvRecord) → IsDialect o → IsRecord o r text rest → text ≢ [] → AreWholeRecords o text records
    → IsRecord o r (text ++ more) (rest ++ more)
record_goes_on o r text rest more [] fit is some none = absurd (some none)
record_goes_on o r text rest more (q ∷ records) fit is some (line, after, text_is, other, later) =
    let same = begins_with_one o fit text r q rest after is other in
    let parts : text ≡ line ++ o.eol ∷ rest = text_is ∙ ap (λ (x : List ℕ). line ++ o.eol ∷ x) (sym same.1) in
    subst (λ (x : List ℕ). IsRecord o r x (rest ++ more)) (sym (ap (λ (x : List ℕ). x ++ more) parts ∙ append_assoc line (o.eol ∷ rest) more))
    (stands_whatever_follows o fit text r line rest is parts (rest ++ more))

not_nothing : (bytes rest : List ℕ) → (IsUtf8 bytes → ⊥) → bytes ++ rest ≢ []
not_nothing [] rest bad = λ none. absurd (bad IsUtf8-nil)
not_nothing (b ∷ bytes) rest bad = λ none. cc

-- a record that is not UTF-8 in the front of a text
pub bad_in_text : (o : Dialect) (at place : ℕ) (part more : List ℕ) (records : List CsvRecord) → IsDialect o → HasRecordNotUtf8 o at part place
    → AreWholeRecords o part records ⊎ (more ≡ []) → HasRecordNotUtf8 o at (part ++ more) place
bad_in_text o at place part more records fit bad (inr none) =
    subst (λ (x : List ℕ). HasRecordNotUtf8 o at x place) (sym (ap (λ (x : List ℕ). part ++ x) none ∙ append-nil part)) bad
bad_in_text o at place part more records fit bad (inl whole) =
    let left = whole_behind o bad.front (bad.bytes ++ bad.rest) bad.records records fit bad.whole (subst (λ (x : List ℕ). AreWholeRecords o x records) bad.split whole) in
    let is = record_goes_on o bad.first (bad.bytes ++ bad.rest) bad.rest more left.0 fit bad.is (not_nothing bad.bytes bad.rest bad.not_utf8) left.2 in
    record {
      front = bad.front;
      records = bad.records;
      bytes = bad.bytes;
      rest = bad.rest ++ more;
      split = ap (λ (x : List ℕ). x ++ more) bad.split ∙ append_assoc bad.front (bad.bytes ++ bad.rest) more ∙ ap (λ (x : List ℕ). bad.front ++ x) (append_assoc bad.bytes bad.rest more);
      whole = bad.whole;
      place_is = bad.place_is;
      first = bad.first;
      is = subst (λ (x : List ℕ). IsRecord o bad.first x (bad.rest ++ more)) (append_assoc bad.bytes bad.rest more) is;
      not_utf8 = bad.not_utf8;
    }

-- a record that is not UTF-8 after whole records of a text
pub bad_behind : (o : Dialect) (at next place : ℕ) (part more : List ℕ) (records : List CsvRecord) → IsDialect o → HasRecordNotUtf8 o next more place
    → AreWholeRecords o part records → next ≡ at + length part → HasRecordNotUtf8 o at (part ++ more) place
bad_behind o at next place part more records fit bad whole next_is = record {
  front = part ++ bad.front;
  records = records ++ bad.records;
  bytes = bad.bytes;
  rest = bad.rest;
  split = ap (λ (x : List ℕ). part ++ x) bad.split ∙ sym (append_assoc part bad.front (bad.bytes ++ bad.rest));
  whole = joins_whole o fit part bad.front records bad.records whole bad.whole;
  place_is = let p = bad.place_is in omega (arith, length-append part bad.front);
  first = bad.first;
  is = bad.is;
  not_utf8 = bad.not_utf8;
}

nothing_bad : (o : Dialect) (at place : ℕ) → HasRecordNotUtf8 o at [] place → ⊥
nothing_bad o at place bad =
    not_nothing bad.bytes bad.rest bad.not_utf8
    (none (bad.bytes ++ bad.rest) (let size : length (bad.front ++ (bad.bytes ++ bad.rest)) ≡ 0 = ap length (sym bad.split) in omega (arith, length-append bad.front (bad.bytes ++ bad.rest))))
  where
    none : (x : List ℕ) → length x ≡ 0 → x ≡ []
    none [] size = refl
    none (b ∷ x) size = absurd (omega arith)

-- a fault of a part is one of the text
fault_with : (o : Dialect) (source at next : ℕ) (part text : List ℕ) (fault : Fault) → ((place : ℕ) → HasRecordNotUtf8 o next part place → HasRecordNotUtf8 o at text place)
    → IsTextFault o source next part fault → IsTextFault o source at text fault
fault_with o source at next part text faults.OutOfMemory has is = tt
fault_with o source at next part text (faults.ComputeError kinds.NotUtf8 number place) has is = (is.0, has place is.1)
fault_with o source at next part text fault has is = absurd is

part_whole : (o : Dialect) (head : Bool) (text : List ℕ) (records : List CsvRecord) (len : ℕ) → len ≤ length text
    → AreWholeRecords o (take len text) (header_front head records) ⊎ (length text ≤ len) → AreWholeRecords o (take len text) (header_front head records) ⊎ (drop len text ≡ [])
part_whole o head text records len within (inl whole) = inl whole
part_whole o head text records len within (inr over) = inr (drop_all len text over)

pub front_fault : (o : Dialect) (source at : ℕ) (head : Bool) (text : List ℕ) (records : List CsvRecord) (end : HeadEnd) (fault : Fault) → IsDialect o → end.len ≤ length text
    → IsHeaderPart o head text records end → IsTextFault o source at (take end.len text) fault → IsTextFault o source at text fault
front_fault o source at head text records end fault fit within part is =
    fault_with o source at at (take end.len text) text fault
    (λ place bad. subst (λ (x : List ℕ). HasRecordNotUtf8 o at x place) (take-append-drop end.len text)
    (bad_in_text o at place (take end.len text) (drop end.len text) (header_front head records) fit bad (part_whole o head text records end.len within part.whole)))
    is

pub rest_fault : (o : Dialect) (source at next : ℕ) (head : Bool) (text : List ℕ) (records : List CsvRecord) (end : HeadEnd) (fault : Fault) → IsDialect o → end.len ≤ length text
    → next ≡ at + end.len → IsHeaderPart o head text records end → IsTextFault o source next (drop end.len text) fault → IsTextFault o source at text fault
rest_fault o source at next head text records end fault fit within next_is part is =
    fault_with o source at next (drop end.len text) text fault
    (λ place bad. by_whole place bad (part_whole o head text records end.len within part.whole))
    is
  where
    size : length (take end.len text) ≡ end.len
    size = length-take-le end.len text within

    by_whole : (place : ℕ) → HasRecordNotUtf8 o next (drop end.len text) place → AreWholeRecords o (take end.len text) (header_front head records) ⊎ (drop end.len text ≡ [])
        → HasRecordNotUtf8 o at text place
    by_whole place bad (inl whole) =
        subst (λ (x : List ℕ). HasRecordNotUtf8 o at x place) (take-append-drop end.len text)
        (bad_behind o at next place (take end.len text) (drop end.len text) (header_front head records) fit bad whole (omega (arith, size)))
    by_whole place bad (inr none) = absurd (nothing_bad o next place (subst (λ (x : List ℕ). HasRecordNotUtf8 o next x place) none bad))

-- the mark
mark_utf8 : IsUtf8 (239 ∷ 187 ∷ 191 ∷ [])
unfolding encode
mark_utf8 = (65279 ∷ [], (refl, refl))

pub text-mark : (at : ℕ) (bytes : List ℕ) → text_at at bytes ≡ drop (mark_at at bytes) bytes
text-mark zero bytes = refl
text-mark (suc at) bytes = refl

test_and : (p q : Bool) → (p && q) ≡ true → (p ≡ true) × (q ≡ true)
test_and true true is = (refl, refl)
test_and true false is = absurd (cc)
test_and false q is = absurd (cc)

marked_bytes : (a b c : ℕ) (bytes : List ℕ) (t : Bool) → (a == 239 && (b == 187 && c == 191)) ≡ t → IsUtf8 (take (if t then 3 else 0) (a ∷ b ∷ c ∷ bytes))
marked_bytes a b c bytes true is =
    let first = test_and (a == 239) (b == 187 && c == 191) is in
    let later = test_and (b == 187) (c == 191) first.1 in
    let p : a ≡ 239 = eqb-true a 239 first.0 in
    let q : b ≡ 187 = eqb-true b 187 later.0 in
    let r : c ≡ 191 = eqb-true c 191 later.1 in
    subst IsUtf8 (sym (ap (λ (x : ℕ). x ∷ b ∷ c ∷ []) p ∙ ap (λ (x : ℕ). 239 ∷ x ∷ c ∷ []) q ∙ ap (λ (x : ℕ). 239 ∷ 187 ∷ x ∷ []) r)) mark_utf8
marked_bytes a b c bytes false is = IsUtf8-nil

marked : (bytes : List ℕ) → IsUtf8 (take (mark_len bytes) bytes)
marked [] = IsUtf8-nil
marked (a ∷ []) = IsUtf8-nil
marked (a ∷ b ∷ []) = IsUtf8-nil
marked (a ∷ b ∷ c ∷ bytes) = marked_bytes a b c bytes (a == 239 && (b == 187 && c == 191)) refl

pub marked_at : (at : ℕ) (bytes : List ℕ) → IsUtf8 (take (mark_at at bytes) bytes)
marked_at zero bytes = marked bytes
marked_at (suc at) bytes = IsUtf8-nil

-- the mark of a front that has it
no_mark : (bytes : List ℕ) → length bytes ≤ 2 → mark_len bytes ≡ 0
no_mark [] few = refl
no_mark (a ∷ []) few = refl
no_mark (a ∷ b ∷ []) few = refl
no_mark (a ∷ b ∷ c ∷ bytes) few = absurd (omega arith)

mark-short : (n : ℕ) (bytes : List ℕ) → length bytes ≤ 2 → mark_len (take (mark_len bytes + n) bytes) ≡ mark_len bytes
mark-short n bytes few = no_mark (take (mark_len bytes + n) bytes) (omega (arith, length-take (mark_len bytes + n) bytes)) ∙ sym (no_mark bytes few)

mark-taken : (n : ℕ) (bytes : List ℕ) → mark_len (take (mark_len bytes + n) bytes) ≡ mark_len bytes
mark-taken n [] = mark-short n [] (omega arith)
mark-taken n (a ∷ []) = mark-short n (a ∷ []) (omega arith)
mark-taken n (a ∷ b ∷ []) = mark-short n (a ∷ b ∷ []) (omega arith)
mark-taken n (a ∷ b ∷ c ∷ bytes) = by_test n (a == 239 && (b == 187 && c == 191)) refl
  where
    by_test : (n : ℕ) (t : Bool) → (a == 239 && (b == 187 && c == 191)) ≡ t → mark_len (take ((if t then 3 else 0) + n) (a ∷ b ∷ c ∷ bytes)) ≡ (if t then 3 else 0)
    by_test n true is =
        let three : 3 + n ≡ suc (suc (suc n)) = omega arith in
        ap (λ (k : ℕ). mark_len (take k (a ∷ b ∷ c ∷ bytes))) three ∙ ap (λ (t : Bool). if t then 3 else 0) is
    by_test zero false is = no_mark (take (0 + 0) (a ∷ b ∷ c ∷ bytes)) (omega (arith, length-take (0 + 0) (a ∷ b ∷ c ∷ bytes)))
    by_test (suc zero) false is = no_mark (take (0 + 1) (a ∷ b ∷ c ∷ bytes)) (omega (arith, length-take (0 + 1) (a ∷ b ∷ c ∷ bytes)))
    by_test (suc (suc zero)) false is = no_mark (take (0 + 2) (a ∷ b ∷ c ∷ bytes)) (omega (arith, length-take (0 + 2) (a ∷ b ∷ c ∷ bytes)))
    by_test (suc (suc (suc n))) false is =
        let three : 0 + suc (suc (suc n)) ≡ suc (suc (suc n)) = omega arith in
        ap (λ (k : ℕ). mark_len (take k (a ∷ b ∷ c ∷ bytes))) three ∙ ap (λ (t : Bool). if t then 3 else 0) is

pub mark_at-taken : (at n : ℕ) (bytes : List ℕ) → mark_at at (take (mark_at at bytes + n) bytes) ≡ mark_at at bytes
mark_at-taken zero n bytes = mark-taken n bytes
mark_at-taken (suc at) n bytes = refl

take_drop : (m n : ℕ) (bytes : List ℕ) → drop m (take (m + n) bytes) ≡ take n (drop m bytes)
take_drop m n bytes = drop-take m n bytes

pub text-taken : (at n : ℕ) (bytes : List ℕ) → text_at at (take (mark_at at bytes + n) bytes) ≡ take n (text_at at bytes)
text-taken at n bytes =
    let part : List ℕ = take (mark_at at bytes + n) bytes in
    text-mark at part ∙ ap (λ (k : ℕ). drop k part) (mark_at-taken at n bytes) ∙ take_drop (mark_at at bytes) n bytes ∙ ap (take n) (sym (text-mark at bytes))

-- the front that was found
pub is_front : (o : Dialect) (columns : ℕ) (head : Bool) (at mark : ℕ) (block text : List ℕ) (records : List CsvRecord) (end : HeadEnd) (rows : ℕ) → mark ≡ mark_at at block
    → text ≡ drop mark block → end.len ≤ length text → mark ≤ length block → IsHeaderPart o head text records end → IsUtf8 (take end.len text)
    → ((records : List CsvRecord) → Records o (drop (mark + end.len) block) records → rows ≡ row_count columns records)
    → (rows ≡ 0 → IsUtf8 (drop (mark + end.len) block))
    → IsFrontOf o columns head at block records (record { len = mark + end.len; rows = rows; awaits_header = end.awaits_header })
is_front o columns head at mark block text records end rows mark_is text_is within inside part utf8 counted passed =
    let len : ℕ = mark + end.len in
    let behind : drop len block ≡ drop end.len text = sym (drop-drop end.len mark block) ∙ ap (drop end.len) (sym text_is) in
    let text_same : text_at at block ≡ text = text-mark at block ∙ ap (λ (k : ℕ). drop k block) (sym mark_is) ∙ sym text_is in
    let front_text : text_at at (take len block) ≡ take end.len text =
    ap (λ (k : ℕ). text_at at (take (k + end.len) block)) mark_is ∙ text-taken at end.len block ∙ ap (take end.len) text_same in
    let back : Records o (drop len block) (behind_header head records) = subst (λ (x : List ℕ). Records o x (behind_header head records)) (sym behind) part.back in
    let parts : take len block ≡ take mark block ++ take end.len text = take-add mark end.len block ∙ ap (λ (x : List ℕ). take mark block ++ take end.len x) (sym text_is) in
    let front_utf8 : IsUtf8 (take len block) =
    subst IsUtf8 (sym parts) (IsUtf8-append (take mark block) (take end.len text) (subst (λ (k : ℕ). IsUtf8 (take k block)) (sym mark_is) (marked_at at block)) utf8) in
    record {
      mark_within = omega (arith, mark_is);
      awaits = part.awaits;
      rows_are = counted (behind_header head records) back;
      utf8 = front_utf8;
      whole = by_whole len front_text part.whole;
      back = back;
      all_utf8 = λ none. subst IsUtf8 (take-append-drop len block) (IsUtf8-append (take len block) (drop len block) front_utf8 (passed none));
    }
  where
    by_whole : (len : ℕ) → text_at at (take len block) ≡ take end.len text → AreWholeRecords o (take end.len text) (header_front head records) ⊎ (length text ≤ end.len)
        → AreWholeRecords o (text_at at (take len block)) (header_front head records) ⊎ (length block ≤ mark + end.len)
    by_whole len same (inl whole) = inl (subst (λ (x : List ℕ). AreWholeRecords o x (header_front head records)) (sym same) whole)
    by_whole len same (inr over) = inr (omega (arith, ap length text_is, length-drop mark block))

-- the same of a block, given its parts
block_records : (o : Dialect) (at mark : ℕ) (block text : List ℕ) (records : List CsvRecord) → mark ≡ mark_at at block → text ≡ drop mark block
    → Records o (text_at at block) records → Records o text records
block_records o at mark block text records mark_is text_is are =
    subst (λ (x : List ℕ). Records o x records) (text-mark at block ∙ ap (λ (k : ℕ). drop k block) (sym mark_is) ∙ sym text_is) are

fault_of_block : (o : Dialect) (source at mark : ℕ) (block text : List ℕ) (fault : Fault) → mark ≡ mark_at at block → text ≡ drop mark block
    → IsTextFault o source (at + mark) text fault → IsTextFault o source (at + mark_at at block) (text_at at block) fault
fault_of_block o source at mark block text fault mark_is text_is is =
    subst (λ (x : List ℕ). IsTextFault o source (at + mark_at at block) x fault) (text_is ∙ ap (λ (k : ℕ). drop k block) mark_is ∙ sym (text-mark at block))
    (subst (λ (k : ℕ). IsTextFault o source (at + k) text fault) mark_is is)

pub front_refused : (o : Dialect) (source at mark : ℕ) (head : Bool) (block text part : List ℕ) (records : List CsvRecord) (end : HeadEnd) (fault : Fault) → IsDialect o
    → mark ≡ mark_at at block → text ≡ drop mark block → part ≡ take end.len text → end.len ≤ length text
    → ((records : List CsvRecord) → Records o text records → IsHeaderPart o head text records end) → Records o (text_at at block) records
    → IsTextFault o source (at + mark) part fault → IsTextFault o source (at + mark_at at block) (text_at at block) fault
front_refused o source at mark head block text part records end fault fit mark_is text_is part_is within is_part are is =
    fault_of_block o source at mark block text fault mark_is text_is
    (front_fault o source (at + mark) head text records end fault fit within (is_part records (block_records o at mark block text records mark_is text_is are))
    (subst (λ (x : List ℕ). IsTextFault o source (at + mark) x fault) part_is is))

pub rest_refused : (o : Dialect) (source at mark next : ℕ) (head : Bool) (block text part : List ℕ) (records : List CsvRecord) (end : HeadEnd) (fault : Fault) → IsDialect o
    → mark ≡ mark_at at block → text ≡ drop mark block → part ≡ drop (mark + end.len) block → end.len ≤ length text → next ≡ at + (mark + end.len)
    → ((records : List CsvRecord) → Records o text records → IsHeaderPart o head text records end) → Records o (text_at at block) records
    → IsTextFault o source next part fault → IsTextFault o source (at + mark_at at block) (text_at at block) fault
rest_refused o source at mark next head block text part records end fault fit mark_is text_is part_is within next_is is_part are is =
    fault_of_block o source at mark block text fault mark_is text_is
    (rest_fault o source (at + mark) next head text records end fault fit within (omega arith) (is_part records (block_records o at mark block text records mark_is text_is are))
    (subst (λ (x : List ℕ). IsTextFault o source next x fault) (part_is ∙ sym (drop-drop end.len mark block) ∙ ap (drop end.len) (sym text_is)) is))

pub front_found : (o : Dialect) (columns : ℕ) (head : Bool) (at mark : ℕ) (block text part rest : List ℕ) (records : List CsvRecord) (end : HeadEnd) (rows : ℕ) → mark ≡ mark_at at block
    → text ≡ drop mark block → part ≡ take end.len text → rest ≡ drop (mark + end.len) block → end.len ≤ length text → mark ≤ length block
    → ((records : List CsvRecord) → Records o text records → IsHeaderPart o head text records end) → Records o (text_at at block) records → IsUtf8 part
    → ((records : List CsvRecord) → Records o rest records → rows ≡ row_count columns records)
    → (rows ≡ 0 → IsUtf8 rest)
    → IsFrontOf o columns head at block records (record { len = mark + end.len; rows = rows; awaits_header = end.awaits_header })
front_found o columns head at mark block text part rest records end rows mark_is text_is part_is rest_is within inside is_part are utf8 counted passed =
    is_front o columns head at mark block text records end rows mark_is text_is within inside
    (is_part records (block_records o at mark block text records mark_is text_is are))
    (subst IsUtf8 part_is utf8)
    (λ later is. counted later (subst (λ (x : List ℕ). Records o x later) (sym rest_is) is))
    (λ none. subst IsUtf8 rest_is (passed none))
