-- A command whose query is valid ends with status 0 or that of `OutOfMemory`.
use Rattle.std.specs.Prelude.{◌≡◌, ◌⊎◌, ℕ, ◌-◌, ◌^◌, ◌<◌, ◌≤◌, ltb, Bool, true, false, IsOkUnless, Option, Some, None, Result, Ok, Err, List, [], ◌∷◌, ◌++◌, length, refl}
use Rattle.std.proofs.Common.{sym, ap, subst, ◌∙◌, arith, inl, inr, append-nil}
use Rattle.std.proofs.lemmas.Bool.{ltb-true, ltb-false}
use Rattle.std.proofs.lemmas.List.{append_cancel_left}
use Rattle.serde_json.specs.Data.{Data}
use Rattle.morsel_meaning.specs.declared.fault.Fault.{Fault}
use Rattle.morsel_meaning.specs.declared.fault.Fault.TheVariants as faults
use Rattle.morsel_outside.specs.Outside.{Outside, with_more}
use Rattle.morsel_outside.specs.Actions.{Rises}
use Rattle.morsel_outside.proofs.ActionLemmas.{rises_since}
use Rattle.morsel_query.specs.Queries.{QueryParts}
use Rattle.morsel_query.specs.QueryFlaws.{IsSound, IsFlawFault}
use Rattle.morsel_query.specs.RunOptions.{RunOptions}
use Rattle.morsel_query.proofs.SoundLemmas.{sound_has_no_flaw}
use Rattle.morsel_query.specs.Meanings.{IsValid}
use Rattle.morsel_query_text.specs.Written.{WrittenQuery, query_written}
use Rattle.morsel_query_text.specs.QueryTexts.{QueryOf}
use Rattle.morsel_query_text.specs.TextFlaws.{HasTextFlaw, name_repeated}
use Rattle.morsel_query_text.proofs.OneLemmas.{one_query}
use Rattle.morsel_engine.specs.Runs.{TellsBytes, NoneRises}
use Rattle.morsel_prog.specs.Words.{Command, ScanFile, AnswerQuery}
use Rattle.morsel_prog.specs.QueryFiles.{IsTextOf, IsQueryFile, RefusesBytesOf}
use Rattle.morsel_prog.specs.CommandQueries.{query_files, scan_parts, IsQueryOf, RefusesQueryOf, HasNoQueryFor, LacksQuery}
use Rattle.morsel_prog.specs.CommandRuns.{RunsQuery, RunsWords, IsValidFor}
use Rattle.morsel_prog.specs.Complete.{IsValidCommand, IsDone}
use Rattle.morsel_prog.specs.Program.{ReportsFault, Reports}
use Rattle.morsel_prog.proofs.AlikeLemmas.{valid_alike}
use Rattle.morsel_prog.proofs.ReportLemmas.{printed_on, reported, rises_reported, memory_status}
use Rattle.morsel_prog.proofs.RunLemmas.{lack-kept, held-run}

-- bytes that are told are told once
told_once : (held : Option (List (List ℕ))) (now : Outside) (first second : List (List ℕ)) → TellsBytes now → now.held ≡ with_more held first → now.held ≡ with_more held second → first ≡ second
told_once None now first second told a b = absurd (let none : Some told.0 ≡ None = sym told.1 ∙ a in cc)
told_once (Some files) now first second told a b = append_cancel_left files first second (by (sym a ∙ b))
  where
    by : Some (files ++ first) ≡ Some (files ++ second) → files ++ first ≡ files ++ second
    by is = cc

-- lists that begin with as many
fronts : {X : Type 0} (a b c d : List X) → length a ≡ length b → a ++ c ≡ b ++ d → (a ≡ b) × (c ≡ d)
fronts [] [] c d len is = (refl, is)
fronts [] (y ∷ b) c d len is = absurd (omega (arith, len))
fronts (x ∷ a) [] c d len is = absurd (omega (arith, len))
fronts (x ∷ a) (y ∷ b) c d len is =
    let heads : x ≡ y = cc in
    let tails : a ++ c ≡ b ++ d = cc in
    let rest = fronts a b c d (let l = len in omega (arith, l)) tails in (
      ap (λ z. z ∷ a) heads ∙ ap (λ zs. y ∷ zs) rest.0,
      rest.1,
    )

-- bytes are the text of one query
one_text : (bytes : List ℕ) (a b : WrittenQuery) → IsTextOf bytes a → IsTextOf bytes b → a ≡ b
one_text bytes a b first second = one_query second.tree a b (subst (λ (tree : Data). QueryOf tree a) trees first.is_query) second.is_query
  where
    trees : first.tree ≡ second.tree
    trees = let both : Some first.tree ≡ Some second.tree = sym first.json ∙ second.json in cc

-- the bytes of a query without flaws are not refused
not_refused : (bytes out : List ℕ) (query : QueryParts) (options : RunOptions) (fault : Fault) → IsQueryFile bytes out query options → RefusesBytesOf bytes out fault → ⊥
not_refused bytes out query options faults.QueryText is why = why (query_written query options) is.text
not_refused bytes out query options (faults.InvalidQuery flaw) is (written, text, has) =
    is.flawless flaw (subst (λ (q : WrittenQuery). HasTextFlaw q out flaw) (one_text bytes written (query_written query options) text is.text) has)
not_refused bytes out query options (faults.Duplicate name) is (written, text, flawless, repeated) =
    let same = one_text bytes written (query_written query options) text is.text in
    let both : None ≡ Some name = sym is.distinct ∙ ap name_repeated (sym same) ∙ repeated in absurd (cc)
not_refused bytes out query options fault is why = absurd why

no_flaw : (query : QueryParts) (fault : Fault) → IsSound query → IsFlawFault query fault → ⊥
no_flaw query (faults.InvalidQuery why) sound is = sound_has_no_flaw _ _ _ _ why sound is
no_flaw query fault sound is = absurd is

-- a query that was had is not refused
refused_query : (command : Command) (texts : List (List ℕ)) (query : QueryParts) (options : RunOptions) (fault : Fault) → IsQueryOf command texts query options → RefusesQueryOf command texts fault → ⊥
refused_query (ScanFile file schema out) texts query options fault (sound, is, standard) why = no_flaw (scan_parts file schema out) fault (subst IsSound is sound) why
refused_query (AnswerQuery name out) [] query options fault is why = absurd is
refused_query (AnswerQuery name out) (text ∷ texts) query options fault is why = not_refused text out query options fault is why

-- a command whose query is valid lacks it only where memory is out
lack_of_memory : (old : Outside) (command : Command) (new : Outside) (fault : Fault) → LacksQuery old command new fault → IsValidFor old command new → NoneRises old new → fault ≡ faults.OutOfMemory
lack_of_memory old command new fault lack valid none = by fault lack.cause
  where
    refuted : (f : Fault) → length lack.texts ≡ length (query_files command) → RefusesQueryOf command lack.texts f → f ≡ faults.OutOfMemory
    refuted f all why =
        let both = told_once old.held new lack.texts (valid.texts ++ valid.files) valid.told lack.reads.held valid.held in
        let same = fronts lack.texts valid.texts [] valid.files (all ∙ sym valid.all) (append-nil lack.texts ∙ both) in
        absurd (refused_query command valid.texts valid.query valid.options f valid.is_query (subst (λ (texts : List (List ℕ)). RefusesQueryOf command texts f) same.0 why))

    by : (f : Fault) → HasNoQueryFor old command lack.texts new f → f ≡ faults.OutOfMemory
    by faults.OutOfMemory why = refl
    by (faults.ReadFault file) why = absurd (none.reads why.1)
    by f why = refuted f why.1 why.2

-- a command's queries are valid over the same files
valid_again : (command : Command) (texts files : List (List ℕ)) (query other : QueryParts) (options others : RunOptions) → IsQueryOf command texts query options → IsQueryOf command texts other others
    → IsValid query files → IsValid other files
valid_again (ScanFile file schema out) texts files query other options others is again valid = subst (λ (q : QueryParts). IsValid q files) (is.1 ∙ sym again.1) valid
valid_again (AnswerQuery name out) [] files query other options others is again valid = absurd is
valid_again (AnswerQuery name out) (text ∷ texts) files query other options others is again valid =
    valid_alike query other options others files (one_text text (query_written query options) (query_written other others) is.text again.text) valid

-- a count that rose by some moment rose by each later one
rises_up : (a b c : ℕ) → Rises a b → b ≤ c → Rises a c
rises_up a b c r le = record { no_lower = let n = r.no_lower in omega (arith, n, le); rose = by r.rose }
  where
    by : (a < b) ⊎ (b ≡ 2 ^ 64 - 1) → (a < c) ⊎ (c ≡ 2 ^ 64 - 1)
    by (inl less) = inl (omega (arith, less, le))
    by (inr end) = at (ltb b c) refl
      where
        at : (t : Bool) → ltb b c ≡ t → (a < c) ⊎ (c ≡ 2 ^ 64 - 1)
        at true is = inl (let n = r.no_lower in let m = ltb-true b c is in omega (arith, n, m))
        at false is = inr (let m = ltb-false b c is in omega (arith, le, m, end))

-- a run of a valid query answers rows, or that memory is out
run_done : (old : Outside) (command : Command) (result : Result ℕ Fault) (ran new : Outside) → RunsQuery old command result ran → ran.write_faults ≤ new.write_faults
    → IsValidFor old command (printed_on ran new) → NoneRises old (printed_on ran new) → IsOkUnless result faults.OutOfMemory
run_done old command result ran new r le valid none = r.runs.complete valid.told is_valid (record { reads = reads; writes = writes })
  where
    both : r.had.texts ++ r.runs.files ≡ valid.texts ++ valid.files
    both = told_once old.held ran (r.had.texts ++ r.runs.files) (valid.texts ++ valid.files) valid.told (held-run old command result ran r) valid.held

    same : (r.had.texts ≡ valid.texts) × (r.runs.files ≡ valid.files)
    same = fronts r.had.texts valid.texts r.runs.files valid.files (r.had.all ∙ sym valid.all) both

    is_valid : IsValid r.had.query r.runs.files
    is_valid = subst (IsValid r.had.query) (sym same.1) (valid_again command valid.texts valid.files valid.query r.had.query valid.options r.had.options valid.is_query
        (subst (λ (texts : List (List ℕ)). IsQueryOf command texts r.had.query r.had.options) same.0 r.had.is_query) valid.valid)

    reads : Rises r.between.read_faults ran.read_faults → ⊥
    reads rises = none.reads (subst (λ (n : ℕ). Rises n ran.read_faults) r.had.read_well.count rises)

    writes : Rises r.between.write_faults ran.write_faults → ⊥
    writes rises = none.writes (rises_up old.write_faults ran.write_faults new.write_faults (subst (λ (n : ℕ). Rises n ran.write_faults) r.had.same.write_faults rises) le)

-- a report that memory is out
done-memory : (ran new : Outside) (fault : Fault) (status : ℕ) → fault ≡ faults.OutOfMemory → ReportsFault ran fault status new → IsDone status
done-memory ran new fault status is reports = inr (memory_status ran new status (subst (λ (f : Fault). ReportsFault ran f status new) is reports))

pub completes_words : (old new : Outside) (command : Option Command) (status : ℕ) → (ran : Outside) (answer : Result ℕ Fault) → RunsWords old command answer ran → Reports ran answer status new
    → IsValidCommand old command new → NoneRises old new → IsDone status
completes_words old new None status ran answer runs reports valid none = absurd valid
completes_words old new (Some command) status ran (Ok count) (inl lacks) reports valid none = absurd lacks
completes_words old new (Some command) status ran (Err fault) (inl (lack, same)) reports valid none =
    let is = reported ran new (Err fault) status reports in
    done-memory ran new fault status
    (lack_of_memory old command (printed_on ran new) fault (lack-kept old command ran new fault lack) (subst (IsValidFor old command) is.after valid) (subst (NoneRises old) is.after none))
    reports
completes_words old new (Some command) status ran (Err fault) (inr r) reports valid none =
    let is = reported ran new (Err fault) status reports in
    done-memory ran new fault status
    (run_done old command (Err fault) ran new r is.no_lower (subst (IsValidFor old command) is.after valid) (subst (NoneRises old) is.after none))
    reports
completes_words old new (Some command) status ran (Ok count) (inr r) (inl h) valid none = inl h.0
completes_words old new (Some command) status ran (Ok count) (inr r) (inr (inl (unprinted, failing, later))) valid none =
    let low : old.write_faults ≤ ran.write_faults = let a = r.runs.no_lower in let b = r.had.same.write_faults in omega (arith, a, b) in
    absurd (none.writes (rises_reported old unprinted new faults.WriteFault status (rises_since _ _ _ low failing.write_faults) later))
completes_words old new (Some command) status ran (Ok count) (inr r) (inr (inr h)) valid none = inr (memory_status ran new status h)
