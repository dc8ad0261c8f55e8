-- The sides of a join as they are run, and the join of the sides that are meant.
use Rattle.std.proofs.Common.{◌≡◌, ℕ, zero, suc, ◌-◌, ◌*◌, ◌^◌, ◌<◌, ◌≤◌, ap, sym, subst, ◌∙◌, inr, arith}
use Rattle.std.specs.Prelude.{min, Bool, true, false, Result, List, length}
use Rattle.morsel_meaning.specs.declared.fault.Fault.{Fault}
use Rattle.morsel_meaning.specs.declared.value.Field.{Field}
use Rattle.morsel_grammar.specs.Dialect.{IsDialect}
use Rattle.morsel_outside.specs.declared.io.FileNo.{FileNo}
use Rattle.morsel_outside.specs.Outside.{Outside}
use Rattle.morsel_scan.specs.Scans.{CsvScan}
use Rattle.morsel_scan.specs.ScanColumns.{output_fields}
use Rattle.morsel_scan.specs.declared.spec.ScanSpec.{ScanSpec}
use Rattle.morsel_read.specs.ScanReads.{PiecesRead, pieces_at_start, SuitsPieces}
use Rattle.morsel_join.specs.declared.rules.JoinRules.{JoinRules}
use Rattle.morsel_join.specs.Rows.{FitRules, keeps_left}
use Rattle.morsel_join.specs.Sides.{FitSides}
use Rattle.morsel_join_plan.specs.JoinRuns.{JoinScan, JoinsScans, SweepsJoin}
use Rattle.morsel_group_units.specs.GroupAsks.{GroupRulesSeen}
use Rattle.morsel_group_plan.specs.GroupRuns.{GroupsJoin, SweepsGroupsJoin}
use Rattle.morsel_query.specs.RunOptions.{RunOptions, pieces_ahead}
use Rattle.morsel_query.specs.Queries.{file_scan}
use Rattle.morsel_query.specs.Meanings.{csv_scan}
use Rattle.morsel_engine.specs.Stages.{bytes_bound, IsOpenSide, side_scan, JoinsSides, JoinsFiles, SweepsSides, SweepsFiles, GroupsSides, JoinsGroups, SweepsGroupSides, SweepsJoinedGroups}
use Rattle.morsel_engine.proofs.ToldLemmas.{suits_at_first}

-- a scan and its reader
abbrev pub the_scan : CsvScan → PiecesRead → JoinScan
the_scan scan reader = record { scan = scan; reader = reader }

-- what was made of a side
pub record IsMade (spec : ScanSpec) (columns : List Field) (numbers : List FileNo) (first : ℕ) (options : RunOptions) (node : CsvScan) (made_columns : List Field) (reader : PiecesRead) : Type 0 where
  pub node_is : node ≡ csv_scan (file_scan spec)
  pub columns_are : made_columns ≡ columns
  pub reader_is : reader ≡ (side_scan (file_scan spec) numbers first options).reader
  pub fit : IsDialect (csv_scan (file_scan spec)).options

pub made_suits : (o : Outside) (spec : ScanSpec) (columns : List Field) (numbers : List FileNo) (first : ℕ) (options : RunOptions) (node : CsvScan) (made_columns : List Field) (reader : PiecesRead)
    → IsOpenSide o spec columns numbers → first ≤ 65536 → 0 < options.chunk_bytes → IsMade spec columns numbers first options node made_columns reader → SuitsPieces o reader
made_suits o spec columns numbers first options node made_columns reader open_side low some made =
    subst (λ (r : PiecesRead). SuitsPieces o r) (sym made.reader_is)
    (suits_at_first (side_scan (file_scan spec) numbers first options).reader.sources o
    (record { one_each = sym open_side.one_each; numbers = let n = open_side.one_each in let m = open_side.few in omega (arith, n, m, low); chunk = some }) open_side.opened)

-- some byte may be read ahead, so some is read at once
pub chunk_some : (options : RunOptions) → 0 < bytes_bound options → 0 < options.chunk_bytes
chunk_some options some = by options.chunk_bytes some
  where
    by : (chunk : ℕ) → 0 < min (pieces_ahead options * chunk) (2 ^ 64 - 1) → 0 < chunk
    by zero some = absurd (let none : pieces_ahead options * 0 ≡ 0 = omega arith in omega (arith, some, none))
    by (suc n) some = omega arith

pub made_start : (spec : ScanSpec) (columns : List Field) (numbers : List FileNo) (first : ℕ) (options : RunOptions) (node : CsvScan) (made_columns : List Field) (reader : PiecesRead)
    → IsMade spec columns numbers first options node made_columns reader → reader ≡ pieces_at_start reader.sources
made_start spec columns numbers first options node made_columns reader made = made.reader_is ∙ ap pieces_at_start (sym (ap (λ (r : PiecesRead). r.sources) made.reader_is))

pub made_columns_are : (o : Outside) (spec : ScanSpec) (columns : List Field) (numbers : List FileNo) (first : ℕ) (options : RunOptions) (node : CsvScan) (made_columns : List Field) (reader : PiecesRead)
    → IsOpenSide o spec columns numbers → IsMade spec columns numbers first options node made_columns reader → made_columns ≡ output_fields node.scan
made_columns_are o spec columns numbers first options node made_columns reader open_side made =
    made.columns_are ∙ open_side.columns_are ∙ sym (ap (λ (s : CsvScan). output_fields s.scan) made.node_is)

pub scan_is : (spec : ScanSpec) (columns : List Field) (numbers : List FileNo) (first : ℕ) (options : RunOptions) (node : CsvScan) (made_columns : List Field) (reader : PiecesRead)
    → IsMade spec columns numbers first options node made_columns reader → the_scan node reader ≡ side_scan (file_scan spec) numbers first options
scan_is spec columns numbers first options node made_columns reader made =
    ap (λ (s : CsvScan). the_scan s reader) made.node_is ∙ ap (the_scan (csv_scan (file_scan spec))) made.reader_is

-- the rules fit what was made of the sides, whichever is kept
pub fit_made : (left right made_left made_right : List Field) (rules : JoinRules) → made_left ≡ left → made_right ≡ right → FitRules left right rules → FitRules made_left made_right rules
fit_made left right made_left made_right rules first second fit =
    subst (λ (xs : List Field). FitRules xs made_right rules) (sym first) (subst (λ (xs : List Field). FitRules left xs rules) (sym second) fit)

pub fit_left : (left right made_left made_right : List Field) (rules : JoinRules) → made_left ≡ left → made_right ≡ right → keeps_left rules.how rules.maintain_order ≡ true → FitRules left right rules
    → FitSides (keeps_left rules.how rules.maintain_order) made_left made_right rules
fit_left left right made_left made_right rules first second keeps fit =
    subst (λ (b : Bool). FitSides b made_left made_right rules) (sym keeps) (fit_made left right made_left made_right rules first second fit)

pub fit_right : (left right made_left made_right : List Field) (rules : JoinRules) → made_left ≡ left → made_right ≡ right → keeps_left rules.how rules.maintain_order ≡ false → FitRules left right rules
    → FitSides (keeps_left rules.how rules.maintain_order) made_right made_left rules
fit_right left right made_left made_right rules first second keeps fit =
    subst (λ (b : Bool). FitSides b made_right made_left rules) (sym keeps) (fit_made left right made_left made_right rules first second fit)

module _ (o new : Outside) (left right : ScanSpec) (left_columns right_columns : List Field) (lefts rights : List FileNo) (firsts : ℕ) (rules : JoinRules) (options : RunOptions)
    (left_node right_node : CsvScan) (left_made_columns right_made_columns : List Field) (left_reader right_reader : PiecesRead)
    (same : firsts ≡ length left.sources.items)
    (left_made : IsMade left left_columns lefts 0 options left_node left_made_columns left_reader) (right_made : IsMade right right_columns rights firsts options right_node right_made_columns right_reader) where
  left_is : the_scan left_node left_reader ≡ side_scan (file_scan left) lefts 0 options
  left_is = scan_is left left_columns lefts 0 options left_node left_made_columns left_reader left_made

  right_is : the_scan right_node right_reader ≡ side_scan (file_scan right) rights (length left.sources.items) options
  right_is = scan_is right right_columns rights firsts options right_node right_made_columns right_reader right_made ∙ ap (λ (n : ℕ). side_scan (file_scan right) rights n options) same

  pub joins_left : (bound : ℕ) (result : Result ℕ Fault) → keeps_left rules.how rules.maintain_order ≡ true → bound ≡ bytes_bound options → 0 < bound
      → JoinsScans (the_scan left_node left_reader) (the_scan right_node right_reader) rules bound o result new → JoinsFiles o (file_scan left) (file_scan right) lefts rights rules options result new
  joins_left bound result keeps is some joins = inr (
    left_made.fit,
    right_made.fit,
    omega (arith, is, some),
    subst (λ (b : Bool). JoinsSides b (side_scan (file_scan left) lefts 0 options) (side_scan (file_scan right) rights (length left.sources.items) options) rules (bytes_bound options) o result new) (sym keeps)
        (subst (λ (n : ℕ). JoinsScans (side_scan (file_scan left) lefts 0 options) (side_scan (file_scan right) rights (length left.sources.items) options) rules n o result new) is
        (subst (λ (s : JoinScan). JoinsScans s (side_scan (file_scan right) rights (length left.sources.items) options) rules bound o result new) left_is
        (subst (λ (s : JoinScan). JoinsScans (the_scan left_node left_reader) s rules bound o result new) right_is joins))),
  )

  pub joins_right : (bound : ℕ) (result : Result ℕ Fault) → keeps_left rules.how rules.maintain_order ≡ false → bound ≡ bytes_bound options → 0 < bound
      → JoinsScans (the_scan right_node right_reader) (the_scan left_node left_reader) rules bound o result new → JoinsFiles o (file_scan left) (file_scan right) lefts rights rules options result new
  joins_right bound result keeps is some joins = inr (
    left_made.fit,
    right_made.fit,
    omega (arith, is, some),
    subst (λ (b : Bool). JoinsSides b (side_scan (file_scan left) lefts 0 options) (side_scan (file_scan right) rights (length left.sources.items) options) rules (bytes_bound options) o result new) (sym keeps)
        (subst (λ (n : ℕ). JoinsScans (side_scan (file_scan right) rights (length left.sources.items) options) (side_scan (file_scan left) lefts 0 options) rules n o result new) is
        (subst (λ (s : JoinScan). JoinsScans (side_scan (file_scan right) rights (length left.sources.items) options) s rules bound o result new) left_is
        (subst (λ (s : JoinScan). JoinsScans s (the_scan left_node left_reader) rules bound o result new) right_is joins))),
  )

  pub sweeps_left : (before after : ℕ) → keeps_left rules.how rules.maintain_order ≡ true → SweepsJoin (the_scan left_node left_reader) (the_scan right_node right_reader) o before after
      → SweepsFiles o (file_scan left) (file_scan right) lefts rights rules options before after
  sweeps_left before after keeps sweeps = inr (
    left_made.fit,
    right_made.fit,
    subst (λ (b : Bool). SweepsSides b (side_scan (file_scan left) lefts 0 options) (side_scan (file_scan right) rights (length left.sources.items) options) o before after) (sym keeps)
        (subst (λ (s : JoinScan). SweepsJoin s (side_scan (file_scan right) rights (length left.sources.items) options) o before after) left_is
        (subst (λ (s : JoinScan). SweepsJoin (the_scan left_node left_reader) s o before after) right_is sweeps)),
  )

  pub sweeps_right : (before after : ℕ) → keeps_left rules.how rules.maintain_order ≡ false → SweepsJoin (the_scan right_node right_reader) (the_scan left_node left_reader) o before after
      → SweepsFiles o (file_scan left) (file_scan right) lefts rights rules options before after
  sweeps_right before after keeps sweeps = inr (
    left_made.fit,
    right_made.fit,
    subst (λ (b : Bool). SweepsSides b (side_scan (file_scan left) lefts 0 options) (side_scan (file_scan right) rights (length left.sources.items) options) o before after) (sym keeps)
        (subst (λ (s : JoinScan). SweepsJoin (side_scan (file_scan right) rights (length left.sources.items) options) s o before after) left_is
        (subst (λ (s : JoinScan). SweepsJoin s (the_scan left_node left_reader) o before after) right_is sweeps)),
  )

  -- what holds of the scans as they are run holds of the sides
  as_sides : (P : JoinScan → JoinScan → Type 0) → P (the_scan left_node left_reader) (the_scan right_node right_reader)
      → P (side_scan (file_scan left) lefts 0 options) (side_scan (file_scan right) rights (length left.sources.items) options)
  as_sides P is = subst (λ (s : JoinScan). P s (side_scan (file_scan right) rights (length left.sources.items) options)) left_is (subst (λ (s : JoinScan). P (the_scan left_node left_reader) s) right_is is)

  pub groups_left : (group : GroupRulesSeen) (result : Result ℕ Fault) → keeps_left rules.how rules.maintain_order ≡ true → GroupsJoin (the_scan left_node left_reader) (the_scan right_node right_reader) rules group o result new
      → JoinsGroups o (file_scan left) (file_scan right) lefts rights rules group options result new
  groups_left group result keeps groups = inr (
    left_made.fit,
    right_made.fit,
    subst (λ (b : Bool). GroupsSides b (side_scan (file_scan left) lefts 0 options) (side_scan (file_scan right) rights (length left.sources.items) options) rules group o result new) (sym keeps)
        (as_sides (λ s t. GroupsJoin s t rules group o result new) groups),
  )

  pub groups_right : (group : GroupRulesSeen) (result : Result ℕ Fault) → keeps_left rules.how rules.maintain_order ≡ false → GroupsJoin (the_scan right_node right_reader) (the_scan left_node left_reader) rules group o result new
      → JoinsGroups o (file_scan left) (file_scan right) lefts rights rules group options result new
  groups_right group result keeps groups = inr (
    left_made.fit,
    right_made.fit,
    subst (λ (b : Bool). GroupsSides b (side_scan (file_scan left) lefts 0 options) (side_scan (file_scan right) rights (length left.sources.items) options) rules group o result new) (sym keeps)
        (as_sides (λ s t. GroupsJoin t s rules group o result new) groups),
  )

  pub group_sweeps_left : (before after : ℕ) → keeps_left rules.how rules.maintain_order ≡ true → SweepsGroupsJoin (the_scan left_node left_reader) (the_scan right_node right_reader) o before after
      → SweepsJoinedGroups o (file_scan left) (file_scan right) lefts rights rules options before after
  group_sweeps_left before after keeps sweeps = inr (
    left_made.fit,
    right_made.fit,
    subst (λ (b : Bool). SweepsGroupSides b (side_scan (file_scan left) lefts 0 options) (side_scan (file_scan right) rights (length left.sources.items) options) o before after) (sym keeps)
        (as_sides (λ s t. SweepsGroupsJoin s t o before after) sweeps),
  )

  pub group_sweeps_right : (before after : ℕ) → keeps_left rules.how rules.maintain_order ≡ false → SweepsGroupsJoin (the_scan right_node right_reader) (the_scan left_node left_reader) o before after
      → SweepsJoinedGroups o (file_scan left) (file_scan right) lefts rights rules options before after
  group_sweeps_right before after keeps sweeps = inr (
    left_made.fit,
    right_made.fit,
    subst (λ (b : Bool). SweepsGroupSides b (side_scan (file_scan left) lefts 0 options) (side_scan (file_scan right) rights (length left.sources.items) options) o before after) (sym keeps)
        (as_sides (λ s t. SweepsGroupsJoin t s o before after) sweeps),
  )
