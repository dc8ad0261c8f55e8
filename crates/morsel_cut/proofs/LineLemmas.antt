-- Records up to an end are as many as ends, and each is a row where none is blank.
use Rattle.std.proofs.Common.{◌≡◌, ℕ, suc, ◌+◌, ◌<◌, ◌∙◌, sym, ap, arith, subst, inl, inr, cond, Bool, true, false, ◌==◌, List, [], ◌∷◌, ◌++◌, length, take, drop, length-append, append_assoc}
use Rattle.std.proofs.lemmas.List.{drop-drop, take-append-drop}
use Rattle.std.proofs.lemmas.List.Sums.{sum_by-append, sum_by-cons}
use Rattle.std.proofs.lemmas.Bool.{eq-eqb}
use Rattle.std.specs.Prelude.{Option, Some, None, not, ◌||◌, if◌then◌else◌, is_some}
use Rattle.morsel_grammar.specs.Dialect.{Dialect, IsDialect}
use Rattle.morsel_grammar.specs.Grammar.{CsvRecord, Records}
use Rattle.morsel_grammar.specs.GrammarRows.{AreWholeRecords}
use Rattle.morsel_grammar.specs.Split.{comment_body, record_at}
use Rattle.morsel_grammar.specs.Machine.{CutPlace, CutState, AfterEol, state_after, last_place, place_step, first_state, last_end, cut_after, is_after_eol}
use Rattle.morsel_grammar.specs.Cuts.{EndsAtFirst, FollowsFound}
use Rattle.morsel_grammar.proofs.ByteLemmas.{either_first, either_second}
use Rattle.morsel_grammar.proofs.RecordLemmas.{record_at-written}
use Rattle.morsel_grammar.proofs.RecordRunLemmas.{record-follows}
use Rattle.morsel_grammar.proofs.StateLemmas.{state_after-append}
use Rattle.morsel_grammar.proofs.WholeCutLemmas.{start_whole}
use Rattle.morsel_grammar.proofs.WholeRecordLemmas.{records_behind}
use Rattle.morsel_cut.specs.Places.{options_with, delimiter_options}
use Rattle.morsel_cut.specs.Cutting.{cut_options}
use Rattle.morsel_cut.specs.FirstEnds.{record_size, is_blank}
use Rattle.morsel_cut.specs.declared.step.Delimiters.{Delimiters}
use Rattle.morsel_cut.specs.RowCounts.{is_row, row_count, TakesRows}
use Rattle.morsel_cut.specs.Blocks.{count_after, has_blank, AreCountedLines}
use Rattle.morsel_cut.proofs.PassLemmas.{quiet_start, quiet_after, quiet_last}
use Rattle.morsel_cut.proofs.SizeLemmas.{has_first}
use Rattle.morsel_cut.proofs.RowLemmas.{HasCounted}
use Rattle.morsel_cut.proofs.BlankLemmas.{row_at, row_by, blank_no}
use Rattle.morsel_cut.proofs.BlockRunLemmas.{MayCount, may_parts, neither_of, count_after-append, count_none, none_at_end}

-- the first of records that may be counted is a row
first_row : (o : Dialect) (columns : ℕ) (b : ℕ) (bs : List ℕ) → MayCount o columns AfterEol (b ∷ bs) → row_by columns o.eol (b ∷ bs) false ≡ true
first_row o columns b bs (inl one) = either_first (columns == 1) (not (is_blank o.eol (b ∷ bs))) (eq-eqb columns 1 one)
first_row o columns b bs (inr none) =
    let here = neither_of (b == o.eol || b == 13) (has_blank o (place_step o AfterEol b) bs) none in
    let bytes = neither_of (b == o.eol) (b == 13) here.0 in
    either_second (columns == 1) (not (is_blank o.eol (b ∷ bs))) (ap not (blank_no o.eol b bs bytes.0 bytes.1))

-- a line and its eol byte, between which no record ends, are one record
record Line (o : Dialect) (line rest lines : List ℕ) : Type 0 where
  is : lines ≡ (line ++ o.eol ∷ []) ++ rest
  reaches : state_after (place_step o) AfterEol (line ++ o.eol ∷ []) ≡ AfterEol
  one : count_after (place_step o) is_after_eol AfterEol (line ++ o.eol ∷ []) ≡ 1

one_end : (o : Dialect) (line : List ℕ) → last_place (place_step o) is_after_eol AfterEol line ≡ 0 → state_after (place_step o) AfterEol (line ++ o.eol ∷ []) ≡ AfterEol
    → count_after (place_step o) is_after_eol AfterEol (line ++ o.eol ∷ []) ≡ 1
one_end o line none reaches =
    let step = place_step o in
    let after = state_after step AfterEol line in
    let last : step after o.eol ≡ AfterEol = sym (state_after-append step AfterEol line (o.eol ∷ [])) ∙ reaches in
    let here : count_after step is_after_eol after (o.eol ∷ []) ≡ 1 = ap (λ (p : CutPlace). (if is_after_eol p then 1 else 0) + 0) last in
    omega (arith, here, count_none step is_after_eol AfterEol line none, count_after-append step is_after_eol AfterEol line (o.eol ∷ []))

line_of : (o : Dialect) (lines rest : List ℕ) → o.comment ≡ None → 0 < length lines → state_after (place_step o) AfterEol lines ≡ AfterEol
    → EndsAtFirst o (first_state o AfterEol) lines rest → (line : List ℕ) × Line o line rest lines
line_of o lines rest quiet some ends (inl (line, is, none, reaches)) =
    let start = quiet_start o AfterEol quiet in
    let step = place_step o in
    let none_here : last_place step is_after_eol AfterEol line ≡ 0 =
    sym (quiet_last o is_after_eol AfterEol line quiet) ∙ ap (λ (s : CutState). last_end o s line) (sym start) ∙ none in
    let reaches_here : state_after step AfterEol (line ++ o.eol ∷ []) ≡ AfterEol =
    ap (λ (s : CutState). s.place)
    (sym (quiet_after o AfterEol (line ++ o.eol ∷ []) quiet) ∙ ap (λ (s : CutState). cut_after o s (line ++ o.eol ∷ [])) (sym start) ∙ reaches) in (
      line,
      record {
        is = is ∙ sym (append_assoc line (o.eol ∷ []) rest);
        reaches = reaches_here;
        one = one_end o line none_here reaches_here;
      },
    )
line_of o [] rest quiet some ends (inr over) = absurd (omega arith)
line_of o (b ∷ bs) rest quiet some ends (inr (all, none, may_end)) =
    let none_here : last_place (place_step o) is_after_eol AfterEol (b ∷ bs) ≡ 0 =
    sym (quiet_last o is_after_eol AfterEol (b ∷ bs) quiet) ∙ ap (λ (s : CutState). last_end o s (b ∷ bs)) (sym (quiet_start o AfterEol quiet)) ∙ none in
    let no : is_after_eol (state_after (place_step o) AfterEol (b ∷ bs)) ≡ false = none_at_end (place_step o) is_after_eol AfterEol b bs none_here in
    let yes : is_after_eol (state_after (place_step o) AfterEol (b ∷ bs)) ≡ true = ap is_after_eol ends in
    absurd (let both : true ≡ false = sym yes ∙ no in cc)

-- as many ends as rows
counted_rows : (o : Dialect) (columns : ℕ) (records : List CsvRecord) (lines : List ℕ) → IsDialect o → o.comment ≡ None → MayCount o columns AfterEol lines
    → state_after (place_step o) AfterEol lines ≡ AfterEol → AreWholeRecords o lines records → count_after (place_step o) is_after_eol AfterEol lines ≡ row_count columns records
counted_rows o columns [] lines fit quiet may ends whole = ap (count_after (place_step o) is_after_eol AfterEol) whole
counted_rows o columns (r ∷ records) [] fit quiet may ends (line, rest, is, first, later) =
    let none : 0 ≡ length line + suc (length rest) = ap length is ∙ length-append line (o.eol ∷ rest) in absurd (omega arith)
counted_rows o columns (r ∷ records) (b ∷ bs) fit quiet may ends (line, rest, is, first, later) =
    let step = place_step o in
    let lines = b ∷ bs in
    let read : record_at o lines ≡ Some (r, rest) = record_at-written o r lines rest fit first in
    let follows : EndsAtFirst o (first_state o AfterEol) lines rest = subst (λ found. FollowsFound o (first_state o AfterEol) lines found) read (record-follows o lines fit) in
    let found = line_of o lines rest quiet (omega arith) ends follows in
    let front = found.0 ++ o.eol ∷ [] in
    let parts : count_after step is_after_eol AfterEol lines ≡ 1 + count_after step is_after_eol AfterEol rest =
    ap (count_after step is_after_eol AfterEol) found.1.is
    ∙ count_after-append step is_after_eol AfterEol front rest
    ∙ ap (λ (n : ℕ). n + count_after step is_after_eol (state_after step AfterEol front) rest) found.1.one
    ∙ ap (λ (p : CutPlace). 1 + count_after step is_after_eol p rest) found.1.reaches in
    let ends_rest : state_after step AfterEol rest ≡ AfterEol =
    ap (λ (p : CutPlace). state_after step p rest) (sym found.1.reaches) ∙ sym (state_after-append step AfterEol front rest)
    ∙ ap (state_after step AfterEol) (sym found.1.is) ∙ ends in
    let may_rest : MayCount o columns AfterEol rest = subst (λ (p : CutPlace). MayCount o columns p rest) found.1.reaches
    (may_parts o columns AfterEol front rest (subst (MayCount o columns AfterEol) found.1.is may)).1 in
    let more = counted_rows o columns records rest fit quiet may_rest ends_rest later in
    let no_comment : is_some (comment_body o.comment lines) ≡ false = ap (λ (c : Option (List ℕ)). is_some (comment_body c lines)) quiet in
    let row : is_row columns r ≡ true = row_at o columns lines r rest fit read ∙ ap (row_by columns o.eol lines) no_comment ∙ first_row o columns b bs may in
    let counts : ◌≡◌ {A = ℕ} (cond (is_row columns r) 1 0) 1 = ap (λ (t : Bool). cond t 1 0) row in
    omega (arith, parts, more, counts, sum_by-cons (λ (x : CsvRecord). cond (is_row columns x) 1 0) r records)

-- what is counted by the bytes of the options
pub counted_by : (o : Dialect) (delimiters : Delimiters) (columns : ℕ) (lines : List ℕ) (count : ℕ) → o.comment ≡ None → options_with delimiters o.comment ≡ cut_options o
    → AreCountedLines (delimiter_options delimiters) columns lines count → AreCountedLines o columns lines count
counted_by o delimiters columns lines count quiet same counted =
    let with_comment : AreCountedLines (options_with delimiters o.comment) columns lines count =
    subst (λ (c : Option (List ℕ)). AreCountedLines (options_with delimiters c) columns lines count) (sym quiet) counted in
    let cut : AreCountedLines (cut_options o) columns lines count = subst (λ (p : Dialect). AreCountedLines p columns lines count) same with_comment in
    record { ends = cut.ends; count_is = cut.count_is; blanks = cut.blanks }

-- the rows of the records up to an end, and then those of what follows
pub takes_lines : (o : Dialect) (columns : ℕ) (text : List ℕ) (len rows : ℕ) (all : List CsvRecord) → IsDialect o → o.comment ≡ None → AreCountedLines o columns (take len text) rows
    → Records o text all → TakesRows o columns text all len rows
takes_lines o columns text len rows all fit quiet lines are =
    let front = take len text in
    let ends : (cut_after o (first_state o AfterEol) front).place ≡ AfterEol =
    ap (λ (s : CutState). (cut_after o s front).place) (quiet_start o AfterEol quiet) ∙ ap (λ (s : CutState). s.place) (quiet_after o AfterEol front quiet) ∙ lines.ends in
    let whole = start_whole o front fit ends in
    let behind = records_behind o front (drop len text) whole.0 all fit whole.1 (subst (λ (x : List ℕ). Records o x all) (sym (take-append-drop len text)) are) in
    let parts : row_count columns all ≡ row_count columns whole.0 + row_count columns behind.0 =
    ap (row_count columns) behind.1 ∙ sum_by-append (λ (x : CsvRecord). cond (is_row columns x) 1 0) whole.0 behind.0 in
    let rows_are : rows ≡ row_count columns whole.0 = lines.count_is ∙ counted_rows o columns whole.0 front fit quiet lines.blanks lines.ends whole.1 in
    (behind.0, behind.2, omega (arith, parts, rows_are))

-- the row of the first record, if it is one
pub takes_first : (o : Dialect) (columns : ℕ) (text : List ℕ) (size rows : ℕ) (test : Bool) (all : List CsvRecord) → IsDialect o → 0 < length text → size ≡ record_size o text
    → ((r : CsvRecord) (after : List ℕ) → record_at o text ≡ Some (r, after) → test ≡ is_row columns r) → rows ≡ (if test then 1 else 0)
    → Records o text all → TakesRows o columns text all size rows
takes_first o columns text size rows test [] fit some size_is test_is rows_is are = let none : length text ≡ 0 = ap length are in absurd (omega arith)
takes_first o columns text size rows test (r ∷ all) fit some size_is test_is rows_is are =
    let first = has_first o text r all fit are in
    let one : rows ≡ (if is_row columns r then 1 else 0) = rows_is ∙ ap (λ (t : Bool). if t then 1 else 0) (test_is r (drop (record_size o text) text) first.read) in (
      all,
      subst (λ (n : ℕ). Records o (drop n text) all) (sym size_is) first.later,
      omega (arith, one, sum_by-cons (λ (x : CsvRecord). cond (is_row columns x) 1 0) r all),
    )

-- one step of a count
pub counts_more : (o : Dialect) (columns : ℕ) (bytes rest : List ℕ) (at len rows more : ℕ) (records : List CsvRecord) → rest ≡ drop at bytes → HasCounted o columns bytes at rows records
    → ((all : List CsvRecord) → Records o rest all → TakesRows o columns rest all len more) → HasCounted o columns bytes (at + len) (rows + more) records
counts_more o columns bytes rest at len rows more records rest_is has takes =
    let taken = takes has.left (subst (λ (x : List ℕ). Records o x has.left) (sym rest_is) has.are) in
    record {
      left = taken.0;
      are = subst (λ (x : List ℕ). Records o x taken.0) (ap (drop len) rest_is ∙ drop-drop len at bytes) taken.1;
      counted = omega (arith, taken.2, has.counted);
    }
