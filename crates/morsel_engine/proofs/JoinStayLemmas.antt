-- A join opens no file.
use Rattle.std.proofs.Common.{◌≡◌, ◌⊎◌, ℕ, ap, refl, ◌∙◌, inl, inr}
use Rattle.std.specs.Prelude.{Bool, true, false, Result, Ok, Err, List, length}
use Rattle.morsel_meaning.specs.declared.fault.Fault.{Fault}
use Rattle.morsel_outside.specs.declared.io.FileNo.{FileNo}
use Rattle.morsel_outside.specs.Outside.{Outside}
use Rattle.morsel_drive.proofs.TransferLemmas.{stays, either_writing}
use Rattle.morsel_join.specs.declared.rules.JoinRules.{JoinRules}
use Rattle.morsel_join.specs.Rows.{keeps_left}
use Rattle.morsel_join.specs.Sides.{KeptSide, wants_kept}
use Rattle.morsel_join_plan.specs.PhaseRuns.{KeepsScan, WritesAlone}
use Rattle.morsel_join_plan.specs.JoinRuns.{JoinScan, HasKept, and_more, IsLeftSo, EndsJoin, WritesJoin, JoinsScans}
use Rattle.morsel_query.specs.RunOptions.{RunOptions}
use Rattle.morsel_query.specs.Queries.{FileScan}
use Rattle.morsel_engine.specs.Stages.{bytes_bound, side_scan, JoinsSides, JoinsFiles}

-- the files are what they were
abbrev pub AreSame : Outside → Outside → Type 0
AreSame old new = (new.sizes ≡ old.sizes) × (new.held ≡ old.held)

pub then_same : (old between new : Outside) → AreSame old between → AreSame between new → AreSame old new
then_same old between new one two = (two.0 ∙ one.0, two.1 ∙ one.1)

pub left_same : (o : Outside) (result : Result ℕ Fault) (new : Outside) → IsLeftSo o result new → AreSame o new
left_same o result new so = (ap (λ (x : Outside). x.sizes) so.1, ap (λ (x : Outside). x.held) so.1)

pub is_same : (o new : Outside) → new ≡ o → AreSame o new
is_same o new is = (ap (λ (x : Outside). x.sizes) is, ap (λ (x : Outside). x.held) is)

ends_same : (asked : JoinScan) (side : KeptSide) (opened : Outside) (count : ℕ) (o : Outside) (result : Result ℕ Fault) (new : Outside) → EndsJoin asked side opened count o result new → AreSame o new
ends_same asked side opened count o result new ends = by (wants_kept side) refl
  where
    alone : IsLeftSo o result new ⊎ ((found : Result ℕ Fault) × WritesAlone asked.scan asked.reader opened side o found new × (result ≡ and_more count found)) → AreSame o new
    alone (inl so) = left_same o result new so
    alone (inr (found, writes, is)) = let there = stays o new writes.actions (either_writing writes.actions writes.each) writes.does in (there.sizes, there.held)

    by : (wanted : Bool) → wants_kept side ≡ wanted → AreSame o new
    by false none = is_same o new (ends.none none).1
    by true some = alone (ends.alone some)

writes_same : (asked : JoinScan) (side : KeptSide) (bound : ℕ) (o : Outside) (result : Result ℕ Fault) (new : Outside) → WritesJoin asked side bound o result new → AreSame o new
writes_same asked side bound o result new w = then_same o w.between new (let there = stays o w.between w.writes.actions w.writes.each w.writes.does in (there.sizes, there.held)) (by w.found refl)
  where
    or : (count : ℕ) → IsLeftSo w.between result new ⊎ EndsJoin asked side o count w.between result new → AreSame w.between new
    or count (inl so) = left_same w.between result new so
    or count (inr ends) = ends_same asked side o count w.between result new ends

    by : (found : Result ℕ Fault) → w.found ≡ found → AreSame w.between new
    by (Err fault) is = is_same w.between new (w.stops fault is).1
    by (Ok count) is = or count (w.ends count is)

joins_same : (kept asked : JoinScan) (rules : JoinRules) (bound : ℕ) (o : Outside) (result : Result ℕ Fault) (new : Outside) → JoinsScans kept asked rules bound o result new → AreSame o new
joins_same kept asked rules bound o result new joins = by joins.course
  where
    by : IsLeftSo o result new
        ⊎ (((fault : Fault) × KeepsScan kept.scan kept.reader o (Err fault) new × (result ≡ Err fault))
        ⊎ (((given : ℕ) × (between : Outside) × KeepsScan kept.scan kept.reader o (Ok given) between × IsLeftSo between result new)
        ⊎ ((side : KeptSide) × (between : Outside) × HasKept kept rules side o between × WritesJoin asked side bound between result new)))
        → AreSame o new
    by (inl so) = left_same o result new so
    by (inr (inl (fault, keeps, is))) = (keeps.leaves.sizes, keeps.leaves.held)
    by (inr (inr (inl (given, between, keeps, so)))) = then_same o between new (keeps.leaves.sizes, keeps.leaves.held) (left_same between result new so)
    by (inr (inr (inr (side, between, has, writes)))) = then_same o between new (has.keeps.leaves.sizes, has.keeps.leaves.held) (writes_same asked side bound between result new writes)

pub joined_same : (o : Outside) (left right : FileScan) (lefts rights : List FileNo) (rules : JoinRules) (options : RunOptions) (result : Result ℕ Fault) (new : Outside)
    → JoinsFiles o left right lefts rights rules options result new → AreSame o new
joined_same o left right lefts rights rules options result new (inl so) = left_same o result new so
joined_same o left right lefts rights rules options result new (inr (left_fit, right_fit, some, joins)) = by (keeps_left rules.how rules.maintain_order) joins
  where
    by : (is_left : Bool) → JoinsSides is_left (side_scan left lefts 0 options) (side_scan right rights (length left.sources) options) rules (bytes_bound options) o result new
        → AreSame o new
    by true joined = joins_same _ _ rules _ o result new joined
    by false joined = joins_same _ _ rules _ o result new joined
