-- What the run of a command says, whatever is printed after it.
use Rattle.std.specs.Prelude.{◌≡◌, ◌⊎◌, ℕ, zero, suc, ◌+◌, ◌<◌, ◌≤◌, Option, Result, List, [], ◌∷◌, ◌++◌, map, length, take, drop, refl}
use Rattle.std.proofs.Common.{sym, ap, subst, ◌∙◌, arith, inl, inr, append-nil, length-append, append_assoc}
use Rattle.std.proofs.lemmas.List.{map-append, take_all}
use Rattle.morsel_meaning.specs.declared.fault.Fault.{Fault}
use Rattle.morsel_meaning.specs.declared.fault.Fault.TheVariants as faults
use Rattle.morsel_outside.specs.declared.events.Asked.{Asked}
use Rattle.morsel_outside.specs.declared.events.Asked.TheVariants.{Open, Make}
use Rattle.morsel_outside.specs.Outside.{Outside, with_more}
use Rattle.morsel_outside.specs.Actions.{Rises}
use Rattle.morsel_outside.proofs.ActionLemmas.{with_more-with_more}
use Rattle.morsel_query.specs.Queries.{QueryParts}
use Rattle.morsel_query.specs.QueryFlaws.{sources_of}
use Rattle.morsel_engine.specs.Courses.{names_asked}
use Rattle.morsel_engine.specs.Runs.{HasOpened, HasBegun, Leaves}
use Rattle.morsel_prog.specs.Words.{Command}
use Rattle.morsel_prog.specs.CommandQueries.{query_files, ReadsQueryFiles, NoReadFails, HasQuery, HasNoQueryFor, LacksQuery}
use Rattle.morsel_prog.specs.CommandRuns.{RunsQuery, HasRun, AsksFrontOf, names_of_command, AsksInOrder, IsNotFarAhead, ReadsOnlyQueries, LeavesInRun, FailsAtFile, KeepsOther, files_of_command, KeepsInOrder}
use Rattle.morsel_prog.proofs.ReportLemmas.{printed_on}

length_map : {X Y : Type 0} (f : X → Y) (xs : List X) → length (map f xs) ≡ length xs
length_map f [] = refl
length_map f (x ∷ xs) = ap suc (length_map f xs)

length_take : {X : Type 0} (k : ℕ) (xs : List X) → length (take k xs) ≤ k
length_take zero xs = omega arith
length_take (suc k) [] = omega arith
length_take (suc k) (x ∷ xs) = let h = length_take k xs in omega (arith, h)

take_drop : {X Y : Type 0} (f : X → Y) (k : ℕ) (xs : List X) → map f xs ≡ map f (take k xs) ++ map f (drop k xs)
take_drop f zero xs = refl
take_drop f (suc k) [] = refl
take_drop f (suc k) (x ∷ xs) = ap (λ ys. f x ∷ ys) (take_drop f k xs)

-- the run of a query that was had
abbrev pub run_of : (old : Outside) (command : Command) (result : Result ℕ Fault) (new : Outside) → RunsQuery old command result new → HasRun old command new
run_of old command result new r = record {
  between = r.between;
  had = r.had;
  files = r.runs.files;
  opened = r.runs.opened;
  asked = r.runs.asked;
  events = r.runs.events;
  gained = r.runs.gained;
  once = r.runs.once;
}

-- ---- what is printed after it changes none of this

abbrev pub run-kept : (old : Outside) (command : Command) (ran new : Outside) → HasRun old command ran → HasRun old command (printed_on ran new)
run-kept old command ran new run = record {
  between = run.between;
  had = run.had;
  files = run.files;
  opened = record { few = run.opened.few; sizes = run.opened.sizes; held = run.opened.held };
  asked = run.asked;
  events = run.events;
  gained = run.gained;
  once = run.once;
}

pub begun-kept : (between : Outside) (query : QueryParts) (files : List (List ℕ)) (ran new : Outside) → HasBegun between query files ran → HasBegun between query files (printed_on ran new)
begun-kept between query files ran new begun = record {
  all = begun.all;
  between = begun.between;
  begins = begun.begins;
  events = begun.events;
  gained = begun.gained;
  asked = begun.asked;
  one_sink = begun.one_sink;
}

pub reads-kept : (old : Outside) (names texts : List (List ℕ)) (ran new : Outside) → ReadsQueryFiles old names texts ran → ReadsQueryFiles old names texts (printed_on ran new)
reads-kept old names texts ran new r = record {
  tried = r.tried;
  known = r.known;
  opened = r.opened;
  in_order = r.in_order;
  sizes = r.sizes;
  held = r.held;
  sinks = r.sinks;
  made = r.made;
  events = r.events;
  gained = r.gained;
  within = r.within;
  asked = r.asked;
}

no_read_fails-kept : (old ran new : Outside) → NoReadFails old ran → NoReadFails old (printed_on ran new)
no_read_fails-kept old ran new well = record { count = well.count; failed = well.failed }

cause-kept : (old : Outside) (command : Command) (texts : List (List ℕ)) (ran new : Outside) (fault : Fault) → HasNoQueryFor old command texts ran fault
    → HasNoQueryFor old command texts (printed_on ran new) fault
cause-kept old command texts ran new faults.OutOfMemory why = no_read_fails-kept old ran new why
cause-kept old command texts ran new (faults.ReadFault file) why = why
cause-kept old command texts ran new fault (well, all, why) = (no_read_fails-kept old ran new well, all, why)

pub lack-kept : (old : Outside) (command : Command) (ran new : Outside) (fault : Fault) → LacksQuery old command ran fault → LacksQuery old command (printed_on ran new) fault
lack-kept old command ran new fault lack = record {
  texts = lack.texts;
  reads = reads-kept old (query_files command) lack.texts ran new lack.reads;
  cause = cause-kept old command lack.texts ran new fault lack.cause;
}

pub leaves-kept : (between : Outside) (query : QueryParts) (files : List (List ℕ)) (ran new : Outside) → Leaves between query files ran → Leaves between query files (printed_on ran new)
leaves-kept between query files ran new (inl none) = inl (record {
  sinks = none.sinks;
  made = none.made;
  events = none.events;
  asked = none.asked;
  later = none.later;
  gained = none.gained;
  front = none.front;
  in_order = none.in_order;
  failed = none.failed;
})
leaves-kept between query files ran new (inr (begun, text, made, front)) = inr (begun-kept between query files ran new begun, text, made, front)

-- ---- the names that were asked for

-- of query files alone
asks_queries : (old : Outside) (names texts : List (List ℕ)) (new : Outside) → ReadsQueryFiles old names texts new → AsksFrontOf old (map Open names) new
asks_queries old names texts new r = record {
  asked = map Open (take r.tried names);
  later = map Open (drop r.tried names);
  gained = r.asked;
  front = take_drop Open r.tried names;
  opened = map length texts;
  sizes = r.sizes;
  in_order = let a = length_map Open (take r.tried names) in let b = length_take r.tried names in let c = length_map length texts in let d = r.in_order in omega (arith, a, b, c, d);
}

-- all query files were asked for
asked_all : (old : Outside) (command : Command) (between : Outside) (had : HasQuery old command between) → between.asked ≡ old.asked ++ map Open (query_files command)
asked_all old command between had =
    had.reads.asked ∙ ap (λ (names : List (List ℕ)). old.asked ++ map Open names)
    (take_all had.reads.tried (query_files command) (let a = had.all in let b = had.reads.opened in omega (arith, a, b)))

length_names : (query : QueryParts) → length (names_asked query) ≡ length (sources_of query) + 1
length_names query = length-append (map Open (sources_of query)) (Make query.sink.name ∷ []) ∙ ap (λ n. n + 1) (length_map Open (sources_of query))

-- the first names of a query
asks_of : (old : Outside) (command : Command) (between new : Outside) (had : HasQuery old command between) (files : List (List ℕ)) → HasOpened between had.query files new
    → (asked later : List Asked) → new.asked ≡ between.asked ++ asked → names_asked had.query ≡ asked ++ later → length asked ≤ length files + 1
    → AsksFrontOf old (names_of_command command had.query) new
asks_of old command between new had files opened asked later gained front in_order = record {
  asked = map Open (query_files command) ++ asked;
  later = later;
  gained = gained ∙ ap (λ (names : List Asked). names ++ asked) (asked_all old command between had) ∙ append_assoc old.asked (map Open (query_files command)) asked;
  front = ap (λ (names : List Asked). map Open (query_files command) ++ names) front ∙ sym (append_assoc (map Open (query_files command)) asked later);
  opened = map length had.texts ++ map length files;
  sizes = opened.sizes ∙ ap (λ (sizes : List ℕ). sizes ++ map length files) had.reads.sizes ∙ append_assoc old.sizes (map length had.texts) (map length files);
  in_order =
      let a = length-append (map Open (query_files command)) asked in
      let b = length_map Open (query_files command) in
      let c = length-append (map length had.texts) (map length files) in
      let d = length_map length had.texts in
      let e = length_map length files in
      let f = had.all in
      omega (arith, a, b, c, d, e, f, in_order);
}

asks_left : (old : Outside) (command : Command) (between new : Outside) (had : HasQuery old command between) (files : List (List ℕ)) → HasOpened between had.query files new
    → Leaves between had.query files new → AsksFrontOf old (names_of_command command had.query) new
asks_left old command between new had files opened (inl none) =
    asks_of old command between new had files opened none.asked none.later none.gained none.front none.in_order
asks_left old command between new had files opened (inr (begun, text, made, front)) =
    asks_of old command between new had files opened (names_asked had.query) [] begun.asked (sym (append-nil (names_asked had.query)))
    (let a = length_names had.query in let b = begun.all in omega (arith, a, b))

front-kept : (old : Outside) (names : List Asked) (ran new : Outside) → AsksFrontOf old names ran → AsksFrontOf old names (printed_on ran new)
front-kept old names ran new f = record {
  asked = f.asked;
  later = f.later;
  gained = f.gained;
  front = f.front;
  opened = f.opened;
  sizes = f.sizes;
  in_order = f.in_order;
}

pub asks-lack : (old : Outside) (command : Command) (ran new : Outside) (fault : Fault) → LacksQuery old command ran fault → AsksInOrder old command (printed_on ran new)
asks-lack old command ran new fault lack = inl (front-kept old (map Open (query_files command)) ran new (asks_queries old (query_files command) lack.texts ran lack.reads))

pub asks-run : (old : Outside) (command : Command) (ran new : Outside) (result : Result ℕ Fault) → RunsQuery old command result ran → AsksInOrder old command (printed_on ran new)
asks-run old command ran new result r =
    inr (
      run-kept old command ran new (run_of old command result ran r),
      front-kept old (names_of_command command r.had.query) ran new (asks_left old command r.between ran r.had r.runs.files r.runs.opened r.runs.leaves),
    )

-- ---- how far reading was ahead

pub ahead-run : (old : Outside) (command : Command) (ran new : Outside) (result : Result ℕ Fault) → RunsQuery old command result ran → IsNotFarAhead old command (printed_on ran new)
ahead-run old command ran new result r = record {
  run = run-kept old command ran new (run_of old command result ran r);
  short = r.runs.short;
  ahead = r.runs.ahead;
}

-- ---- the sink

pub leaves-run : (old : Outside) (command : Command) (ran new : Outside) (result : Result ℕ Fault) → RunsQuery old command result ran → LeavesInRun old command (printed_on ran new)
leaves-run old command ran new result r =
    (run-kept old command ran new (run_of old command result ran r), leaves-kept r.between r.had.query r.runs.files ran new r.runs.leaves)

pub queries-lack : (old : Outside) (command : Command) (ran new : Outside) (fault : Fault) → LacksQuery old command ran fault → ReadsOnlyQueries old command (printed_on ran new)
queries-lack old command ran new fault lack = (lack.texts, reads-kept old (query_files command) lack.texts ran new lack.reads)

-- ---- what else changed

keeps-kept : (old : Outside) (files : ℕ) (ran new : Outside) → KeepsOther old files ran → KeepsOther old files (printed_on ran new)
keeps-kept old files ran new k = record {
  opened = k.opened;
  few = k.few;
  sizes = k.sizes;
  held = k.held;
  sinks = k.sinks;
  reads = by k.reads;
}
  where
    by : NoReadFails old ran ⊎ FailsAtFile old files ran → NoReadFails old (printed_on ran new) ⊎ FailsAtFile old files (printed_on ran new)
    by (inl well) = inl (no_read_fails-kept old ran new well)
    by (inr fails) = inr fails

fails_at_query : (old : Outside) (command : Command) (texts : List (List ℕ)) (new : Outside) (fault : Fault) → HasNoQueryFor old command texts new fault
    → NoReadFails old new ⊎ FailsAtFile old (length (query_files command)) new
fails_at_query old command texts new faults.OutOfMemory why = inl why
fails_at_query old command texts new (faults.ReadFault file) why = inr (why.2, why.3, why.1, why.4)
fails_at_query old command texts new fault why = inl why.0

pub keeps-lack : (old : Outside) (command : Command) (ran new : Outside) (fault : Fault) → LacksQuery old command ran fault → KeepsInOrder old command (printed_on ran new)
keeps-lack old command ran new fault lack = inl (keeps-kept old (length (query_files command)) ran new (record {
  opened = lack.texts;
  few = let a = lack.reads.opened in let b = lack.reads.known in omega (arith, a, b);
  sizes = lack.reads.sizes;
  held = lack.reads.held;
  sinks = inl lack.reads.sinks;
  reads = fails_at_query old command lack.texts ran fault lack.cause;
}))

-- what the files of a command are, where its query was had
pub held-run : (old : Outside) (command : Command) (result : Result ℕ Fault) (new : Outside) (r : RunsQuery old command result new) → new.held ≡ with_more old.held (r.had.texts ++ r.runs.files)
held-run old command result new r = r.runs.opened.held ∙ ap (λ (held : Option (List (List ℕ))). with_more held r.runs.files) r.had.reads.held
    ∙ with_more-with_more old.held r.had.texts r.runs.files

sinks_after : (between : Outside) (query : QueryParts) (files : List (List ℕ)) (new : Outside) → Leaves between query files new → (new.sinks ≡ between.sinks) ⊎ (new.sinks ≡ between.sinks + 1)
sinks_after between query files new (inl none) = inl none.sinks
sinks_after between query files new (inr (begun, text, made, front)) = inr begun.one_sink

pub keeps-run : (old : Outside) (command : Command) (ran new : Outside) (result : Result ℕ Fault) → RunsQuery old command result ran → KeepsInOrder old command (printed_on ran new)
keeps-run old command ran new result r =
    inr (
      run-kept old command ran new (run_of old command result ran r),
      keeps-kept old (files_of_command command r.had.query) ran new (record {
        opened = r.had.texts ++ r.runs.files;
        few = let a = length-append r.had.texts r.runs.files in let b = r.had.all in let d = r.runs.opened.few in omega (arith, a, b, d);
        sizes = r.runs.opened.sizes ∙ ap (λ (sizes : List ℕ). sizes ++ map length r.runs.files) r.had.reads.sizes
            ∙ append_assoc old.sizes (map length r.had.texts) (map length r.runs.files) ∙ ap (λ (sizes : List ℕ). old.sizes ++ sizes) (sym (map-append length r.had.texts r.runs.files));
        held = held-run old command result ran r;
        sinks = subst (λ (n : ℕ). (ran.sinks ≡ n) ⊎ (ran.sinks ≡ n + 1)) r.had.reads.sinks (sinks_after r.between r.had.query r.runs.files ran r.runs.leaves);
        reads = by r.runs.reads_fail;
      }),
    )
  where
    number : (file : ℕ) → length r.between.sizes + file ≡ length old.sizes + (length (query_files command) + file)
    number file =
        let a = ap length r.had.reads.sizes in let b = length-append old.sizes (map length r.had.texts) in let d = length_map length r.had.texts in let e = r.had.all in
        omega (arith, a, b, d, e)

    by : ((ran.read_faults ≡ r.between.read_faults) × (ran.failed ≡ r.between.failed))
        ⊎ ((file : ℕ) × (file < length (sources_of r.had.query)) × Rises r.between.read_faults ran.read_faults × (ran.failed ≡ length r.between.sizes + file))
        → NoReadFails old ran ⊎ FailsAtFile old (files_of_command command r.had.query) ran
    by (inl well) = inl (record { count = well.0 ∙ r.had.read_well.count; failed = well.1 ∙ r.had.read_well.failed })
    by (inr (file, within, rises, failed)) = inr (
      length (query_files command) + file,
      omega (arith, within),
      subst (λ (n : ℕ). Rises n ran.read_faults) r.had.read_well.count rises,
      failed ∙ number file,
    )
