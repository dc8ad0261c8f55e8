-- The course of a join, put together of what its phases did.
use Rattle.std.proofs.Common.{◌≡◌, ◌⊎◌, ◌<◌, inl, inr, ℕ, Bool, true, false, if◌then◌else◌, Result, Ok, Err, IsOkAnd, refl, sym, ap, subst, ◌∙◌}
use Rattle.morsel_meaning.specs.declared.fault.Fault.{Fault}
use Rattle.morsel_meaning.specs.declared.fault.Fault.TheVariants as faults
use Rattle.morsel_outside.specs.Outside.{Outside}
use Rattle.morsel_scan.specs.Scans.{CsvScan}
use Rattle.morsel_read.specs.ScanReads.{PiecesRead}
use Rattle.morsel_drive.proofs.TransferLemmas.{stays}
use Rattle.morsel_join.specs.declared.rules.JoinRules.{JoinRules}
use Rattle.morsel_join.specs.Items.{wants_left, wants_right}
use Rattle.morsel_join.specs.Sides.{KeptSide, IsRightSide, wants_kept}
use Rattle.morsel_join_phases.specs.JoinPhases.{has_alone}
use Rattle.morsel_keep_run.specs.KeepRuns.{KeepsOrNot, KeepsScan}
use Rattle.morsel_probe_run.specs.ProbeRuns.{WritesFoundOrNot}
use Rattle.morsel_emit_run.specs.EmitRuns.{WritesAlone, WritesAloneOrNot}
use Rattle.morsel_join_plan.specs.JoinRuns.{JoinScan, EndsJoin, HasKept, JoinsScans, and_more}
use Rattle.morsel_join_plan.specs.JoinLanes.{StopsKept, WritesRest}

-- memory ran out behind it
pub stops_behind : (kept : JoinScan) (before after : Outside) (given : ℕ) (fault : Fault) → KeepsOrNot kept.scan kept.reader before (Ok given) after → fault ≡ faults.OutOfMemory → StopsKept kept before fault after
stops_behind kept before after given fault (inl left) is = absurd (let no : Ok given ≡ Err faults.OutOfMemory = left.0 in cc)
stops_behind kept before after given fault (inr keeps) is = inr (inr (given, keeps, is))

-- it went well
pub was_kept : (kept : JoinScan) (before after : Outside) (given : ℕ) → KeepsOrNot kept.scan kept.reader before (Ok given) after → KeepsScan kept.scan kept.reader before (Ok given) after
was_kept kept before after given (inl left) = absurd (let no : Ok given ≡ Err faults.OutOfMemory = left.0 in cc)
was_kept kept before after given (inr keeps) = keeps

-- rows could not be kept
pub joins_stopped : (kept asked : JoinScan) (rules : JoinRules) (bound : ℕ) (before after : Outside) (fault : Fault) → StopsKept kept before fault after → JoinsScans kept asked rules bound before (Err fault) after
joins_stopped kept asked rules bound before after fault (inl left) = record { course = inl left }
joins_stopped kept asked rules bound before after fault (inr (inl keeps)) = record { course = inr (inl (fault, keeps, refl)) }
joins_stopped kept asked rules bound before after fault (inr (inr (given, keeps, out))) = record { course = inr (inr (inl (given, after, keeps, (ap Err out, refl)))) }

-- they were kept
pub joins_kept : (kept asked : JoinScan) (rules : JoinRules) (side : KeptSide) (bound : ℕ) (before between after : Outside) (result : Result ℕ Fault) → HasKept kept rules side before between → WritesRest asked side bound between result after
    → JoinsScans kept asked rules bound before result after
joins_kept kept asked rules side bound before between after result has (inl left) = record { course = inr (inr (inl (has.given, between, has.keeps, left))) }
joins_kept kept asked rules side bound before between after result has (inr writes) = record { course = inr (inr (inr (side, between, has, writes))) }

-- looking rows up makes no sink
pub found_made : (asked : JoinScan) (side : KeptSide) (bound : ℕ) (before after : Outside) (count : ℕ) → WritesFoundOrNot asked.scan asked.reader side bound before (Ok count) after → 0 < before.sinks → 0 < after.sinks
found_made asked side bound before after count (inl left) some = absurd (let no : Ok count ≡ Err faults.OutOfMemory = left.0 in cc)
found_made asked side bound before after count (inr writes) some = subst (λ (n : ℕ). 0 < n) (sym (stays before after writes.actions writes.each writes.does).sinks) some

-- rows could not be looked up
pub rest_stopped : (asked : JoinScan) (side : KeptSide) (bound : ℕ) (before after : Outside) (fault : Fault) → WritesFoundOrNot asked.scan asked.reader side bound before (Err fault) after → WritesRest asked side bound before (Err fault) after
rest_stopped asked side bound before after fault (inl left) = inl left
rest_stopped asked side bound before after fault (inr writes) = inr (record {
  found = Err fault;
  between = after;
  writes = writes;
  stops = λ other is. (is, refl);
  ends = λ count is. absurd cc;
})

-- they were
pub rest_found : (asked : JoinScan) (side : KeptSide) (bound : ℕ) (before between after : Outside) (count : ℕ) (result : Result ℕ Fault) → WritesFoundOrNot asked.scan asked.reader side bound before (Ok count) between
    → EndsJoin asked side before count between result after → WritesRest asked side bound before result after
rest_found asked side bound before between after count result (inl left) ends = absurd (let no : Ok count ≡ Err faults.OutOfMemory = left.0 in cc)
rest_found asked side bound before between after count result (inr writes) ends = inr (record {
  found = Ok count;
  between = between;
  writes = writes;
  stops = λ other is. absurd cc;
  ends = λ other is. inr (let same : count ≡ other = cc in subst (λ (n : ℕ). EndsJoin asked side before n between result after) same ends);
})

-- the rules say whether there are kept rows that none finds
pub wants_there : (side : KeptSide) → IsRightSide side → wants_kept side ≡ has_alone side.rules
wants_there side right = ap (λ (is_left : Bool). if is_left then wants_left side.rules.how else wants_right side.rules.how) right

-- there are none
pub ends_none : (asked : JoinScan) (side : KeptSide) (opened : Outside) (count : ℕ) (o : Outside) → wants_kept side ≡ false → EndsJoin asked side opened count o (Ok count) o
ends_none asked side opened count o wants = record { none = λ _. (refl, refl); alone = λ is. absurd (let both : true ≡ false = sym is ∙ wants in cc) }

-- their number cannot be counted
uncounted : (s : CsvScan) (r : PiecesRead) (opened : Outside) (side : KeptSide) (before after : Outside) (n : ℕ) → WritesAlone s r opened side before (Ok n) after → WritesAlone s r opened side before (Err faults.OutOfMemory) after
uncounted s r opened side before after n writes = record {
  actions = writes.actions;
  does = writes.does;
  each = writes.each;
  stops = inr tt;
  fine = tt;
  told = λ files had. (let told = writes.told files had in record { answers = tt; due = tt; rest = told.rest; front = told.front });
}

-- they were written
pub ends_alone : (asked : JoinScan) (side : KeptSide) (opened : Outside) (count : ℕ) (before after : Outside) (alone result : Result ℕ Fault) → wants_kept side ≡ true → WritesAloneOrNot asked.scan asked.reader opened side before alone after
    → (result ≡ and_more count alone) ⊎ (IsOkAnd alone (λ _. Unit {0}) × (result ≡ Err faults.OutOfMemory)) → EndsJoin asked side opened count before result after
ends_alone asked side opened count before after (Err fault) result wants (inl left) (inl is) = record {
  none = λ no. absurd (let both : true ≡ false = sym wants ∙ no in cc);
  alone = λ _. inl (is ∙ left.0, left.1);
}
ends_alone asked side opened count before after (Ok n) result wants (inl left) (inl is) = absurd (let no : Ok n ≡ Err faults.OutOfMemory = left.0 in cc)
ends_alone asked side opened count before after alone result wants (inr writes) (inl is) = record {
  none = λ no. absurd (let both : true ≡ false = sym wants ∙ no in cc);
  alone = λ _. inr (alone, writes, is);
}
ends_alone asked side opened count before after (Err fault) result wants writes (inr out) = absurd out.0
ends_alone asked side opened count before after (Ok n) result wants (inl left) (inr out) = absurd (let no : Ok n ≡ Err faults.OutOfMemory = left.0 in cc)
ends_alone asked side opened count before after (Ok n) result wants (inr writes) (inr out) = record {
  none = λ no. absurd (let both : true ≡ false = sym wants ∙ no in cc);
  alone = λ _. inr (Err faults.OutOfMemory, uncounted asked.scan asked.reader opened side before after n writes, out.1);
}
