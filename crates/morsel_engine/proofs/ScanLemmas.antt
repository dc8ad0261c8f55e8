-- Runs that make the sink, and then read the sources and write.
use Rattle.std.proofs.Common.{◌≡◌, ◌⊎◌, ℕ, ◌+◌, ◌<◌, ap, sym, subst, refl, ◌∙◌, inl, inr, arith, append-nil, append_assoc}
use Rattle.std.proofs.lemmas.List.{take_all}
use Rattle.std.specs.Prelude.{Option, Some, None, Result, Ok, Err, IfOk, IfErr, IsOkUnless, List, [], ◌∷◌, ◌++◌, map, length, take}
use Rattle.std.specs.List.{fold, flat_map, sum_by}
use Rattle.morsel_meaning.specs.declared.fault.Fault.{Fault}
use Rattle.morsel_meaning.specs.declared.fault.Fault.TheVariants as faults
use Rattle.morsel_outside.specs.declared.events.Asked.{Asked}
use Rattle.morsel_outside.specs.declared.events.Asked.TheVariants.{Open, Make}
use Rattle.morsel_outside.specs.declared.io.FileNo.{FileNo}
use Rattle.morsel_outside.specs.Outside.{Outside, with_more, with_piece, with_sink, IsSized}
use Rattle.morsel_outside.specs.Actions.{Action, Making, Rises, RisesBy, Does, event_of, text_by, read_failures, write_failures, failed_after}
use Rattle.morsel_outside.proofs.ActionLemmas.{with_more-nil, does-append, rises_by-no_lower}
use Rattle.morsel_outside.proofs.SinkLemmas.{with_piece-with_sink}
use Rattle.morsel_outside.proofs.DoesLemmas.{does-nothing}
use Rattle.morsel_outside.proofs.TransferLemmas.{AreTransfers, only_transfers}
use Rattle.morsel_drive.specs.Lines.{Each}
use Rattle.morsel_group.specs.Asked.{GroupAsked}
use Rattle.morsel_query.specs.RunOptions.{RunOptions}
use Rattle.morsel_query.specs.Queries.{JoinPart, QueryParts}
use Rattle.morsel_query.specs.QueryFlaws.{sources_of}
use Rattle.morsel_query.specs.Plans.{query_fault}
use Rattle.morsel_query.specs.Meanings.{text_of, IsValid}
use Rattle.morsel_engine.specs.Courses.{openings, names_asked, SidesAsked, AsksSides, IsShort}
use Rattle.morsel_engine.specs.Stages.{HasOpenedAll}
use Rattle.morsel_engine.specs.Runs.{TellsBytes, rows_before_fault, HasOpened, HasBegun, Answers, HasCause, HasCauseInRun, IsFrontBy, IsFrontOfText, LeavesNoRowBy, NoneRises, ReadsAheadBy, Runs}
use Rattle.morsel_engine.proofs.OpenLemmas.{is_opened}
use Rattle.morsel_engine.proofs.RunLemmas.{none_asked, nothing_ahead, no_row}
use Rattle.morsel_engine.proofs.AskLemmas.{asks_no_side, FailsAt}

-- all sources are open, and the sink is made
pub record Begun (old : Outside) (query : QueryParts) (files : List (List ℕ)) (now : Outside) : Type 0 where
  pub all : length files ≡ length (sources_of query)
  pub does : Does old (openings (sources_of query) files ++ Making query.sink.name ∷ []) now
  pub sizes : now.sizes ≡ old.sizes ++ map length files
  pub held : now.held ≡ with_more old.held files
  pub sized : 0 < length files → IsSized now.held now.sizes
  pub sinks : now.sinks ≡ old.sinks + 1
  pub made : now.made ≡ with_sink old.made query.sink.name []
  pub printed : now.printed ≡ old.printed
  pub events : now.events ≡ old.events
  pub read_faults : now.read_faults ≡ old.read_faults
  pub write_faults : now.write_faults ≡ old.write_faults
  pub print_faults : now.print_faults ≡ old.print_faults
  pub failed : now.failed ≡ old.failed
  pub asked : now.asked ≡ old.asked ++ names_asked query

pub begun : (old between now : Outside) (query : QueryParts) (numbers : List FileNo) (files : List (List ℕ)) → HasOpenedAll old (sources_of query) numbers files between
    → Does between (Making query.sink.name ∷ []) now → Begun old query files now
begun old between now query numbers files opened does =
    let is = is_opened old between (sources_of query) files opened.first in
    let same : now.sizes ≡ between.sizes = does.sizes ∙ append-nil between.sizes in
    let held : now.held ≡ between.held = does.held ∙ with_more-nil between.held in record {
      all = opened.all;
      does = does-append old between now (openings (sources_of query) files) (Making query.sink.name ∷ []) opened.first.does does;
      sizes = same ∙ is.sizes;
      held = held ∙ is.held;
      sized = λ some. subst (λ (x : List ℕ). IsSized now.held x) (sym same) (subst (λ (x : Option (List (List ℕ))). IsSized x between.sizes) (sym held) (opened.first.sized some));
      sinks = let n = does.sinks in let m = is.sinks in omega (arith, n, m);
      made = does.made ∙ ap (λ made. with_sink made query.sink.name []) is.made;
      printed = does.printed ∙ with_more-nil between.printed ∙ is.printed;
      events = does.events ∙ with_more-nil between.events ∙ is.events;
      read_faults = does.read_faults ∙ is.read_faults;
      write_faults = does.write_faults ∙ is.write_faults;
      print_faults = does.print_faults ∙ is.print_faults;
      failed = does.failed ∙ is.failed;
      asked = does.asked ∙ ap (λ (xs : List Asked). xs ++ Make query.sink.name ∷ []) is.asked ∙ append_assoc old.asked (map Open (take (length files) (sources_of query))) (Make query.sink.name ∷ [])
          ∙ ap (λ (xs : List (List ℕ)). old.asked ++ (map Open xs ++ Make query.sink.name ∷ [])) (take_all (length files) (sources_of query) (let n = opened.all in omega (arith, n)));
    }

-- what reads and writes leave after that
pub record GoesOn (old : Outside) (query : QueryParts) (files : List (List ℕ)) (actions : List Action) (new : Outside) : Type 0 where
  pub opened : HasOpened old query files new
  pub has_begun : HasBegun old query files new
  pub made : new.made ≡ with_sink old.made query.sink.name (flat_map text_by actions)
  pub gained : new.events ≡ with_more old.events (flat_map event_of actions)
  pub printed : new.printed ≡ old.printed
  pub print_faults : new.print_faults ≡ old.print_faults
  pub read_faults : RisesBy (sum_by read_failures actions) old.read_faults new.read_faults
  pub write_faults : RisesBy (sum_by write_failures actions) old.write_faults new.write_faults
  pub failed : new.failed ≡ fold failed_after old.failed actions

pub goes_on : (old now new : Outside) (query : QueryParts) (files : List (List ℕ)) (actions : List Action) → Begun old query files now → AreTransfers actions → Does now actions new
    → GoesOn old query files actions new
goes_on old now new query files actions b each does =
    let only = only_transfers actions each in record {
      opened = record {
        few = let n = b.all in omega (arith, n);
        sizes = does.sizes ∙ ap (λ (xs : List (List ℕ)). now.sizes ++ map length xs) only.opened ∙ append-nil now.sizes ∙ b.sizes;
        held = does.held ∙ ap (with_more now.held) only.opened ∙ with_more-nil now.held ∙ b.held;
      };
      has_begun = record {
        all = b.all;
        between = now;
        begins = b.does;
        events = flat_map event_of actions;
        gained = does.events;
        asked = does.asked ∙ ap (λ (xs : List Asked). now.asked ++ xs) only.asked ∙ append-nil now.asked ∙ b.asked;
        one_sink = let n = does.sinks in let m = only.sinks in let k = b.sinks in omega (arith, n, m, k);
      };
      made = does.made ∙ only.made now.made ∙ ap (λ made. with_piece made (flat_map text_by actions)) b.made ∙ with_piece-with_sink old.made query.sink.name (flat_map text_by actions);
      gained = does.events ∙ ap (λ events. with_more events (flat_map event_of actions)) b.events;
      printed = does.printed ∙ ap (with_more now.printed) only.printed ∙ with_more-nil now.printed ∙ b.printed;
      print_faults = does.print_faults ∙ only.print_faults now.print_faults ∙ b.print_faults;
      read_faults = subst (λ (n : ℕ). RisesBy (sum_by read_failures actions) n new.read_faults) b.read_faults does.read_faults;
      write_faults = subst (λ (n : ℕ). RisesBy (sum_by write_failures actions) n new.write_faults) b.write_faults does.write_faults;
      failed = does.failed ∙ ap (λ (n : ℕ). fold failed_after n actions) b.failed;
    }

-- a count rose where something failed
pub rises_some : (n a b : ℕ) → 0 < n → RisesBy n a b → Rises a b
rises_some Rattle.std.specs.Prelude.zero a b some by = absurd (omega (arith, some))
rises_some (Rattle.std.specs.Prelude.suc n) a b some by = by

-- a count stands where nothing did
pub stands_none : (n a b : ℕ) → n ≡ 0 → RisesBy n a b → b ≡ a
stands_none n a b none by = subst (λ (k : ℕ). RisesBy k a b) none by

-- what a run that made its sink asked of the sources, and which of its reads failed
pub record AsksOn (old : Outside) (query : QueryParts) (options : RunOptions) (files : List (List ℕ)) (actions : List Action) (asked : SidesAsked) : Type 0 where
  pub once : AsksSides query.left query.join (length old.sizes) (map length files) asked (flat_map event_of actions)
  pub short : Each (IsShort options.chunk_bytes) (flat_map event_of actions)
  pub fails : FailsAt (length old.sizes) (length files) old.failed actions

-- whether reads failed, told by the counts
reads_fail : (old new : Outside) (query : QueryParts) (files : List (List ℕ)) (actions : List Action) → FailsAt (length old.sizes) (length files) old.failed actions → GoesOn old query files actions new
    → ((new.read_faults ≡ old.read_faults) × (new.failed ≡ old.failed)) ⊎ ((file : ℕ) × (file < length (sources_of query)) × Rises old.read_faults new.read_faults × (new.failed ≡ length old.sizes + file))
reads_fail old new query files actions (inl none) on = inl (stands_none (sum_by read_failures actions) old.read_faults new.read_faults none.0 on.read_faults, on.failed ∙ none.1)
reads_fail old new query files actions (inr some) on = inr (
  some.0,
  (let less = some.1 in let all = on.has_begun.all in omega (arith, less, all)),
  rises_some (sum_by read_failures actions) old.read_faults new.read_faults some.2 on.read_faults,
  on.failed ∙ some.3,
)

-- where no read failed, the counts tell none
pub none_fail : (old new : Outside) (query : QueryParts) (files : List (List ℕ)) (actions : List Action) → FailsAt (length old.sizes) (length files) old.failed actions
    → sum_by read_failures actions ≡ 0 → GoesOn old query files actions new → (new.read_faults ≡ old.read_faults) × (new.failed ≡ old.failed)
none_fail old new query files actions (inl none) zero on = (stands_none (sum_by read_failures actions) old.read_faults new.read_faults zero on.read_faults, on.failed ∙ none.1)
none_fail old new query files actions (inr some) zero on = absurd (let more = some.2 in omega (arith, more, zero))

-- a run that made the sink
pub runs_on : (old new : Outside) (query : QueryParts) (options : RunOptions) (files : List (List ℕ)) (actions : List Action) (asked : SidesAsked) (result : Result ℕ Fault) → query_fault query ≡ None
    → AsksOn old query options files actions asked → GoesOn old query files actions new
    → (TellsBytes new → ReadsAheadBy query.join query.group query options (length old.sizes) files (flat_map event_of actions))
    → IfOk result (Answers old query files asked new) → IfErr result (HasCauseInRun old query files asked new)
    → (TellsBytes new → IsFrontOfText query files (flat_map text_by actions)) → LeavesNoRowBy query.group old query result new
    → (TellsBytes new → IsValid query files → NoneRises old new → IsOkUnless result faults.OutOfMemory)
    → Runs old query options result new
runs_on old new query options files actions asked result planned asks on ahead answers caused front head complete = record {
  files = files;
  opened = on.opened;
  asked = asked;
  events = flat_map event_of actions;
  gained = on.gained;
  once = asks.once;
  short = asks.short;
  ahead = ahead;
  answers = answers;
  caused = cause result caused;
  leaves = inr (on.has_begun, flat_map text_by actions, on.made, front);
  head_alone = head;
  complete = complete;
  refused = λ due is. absurd (let both : None ≡ Some due = sym planned ∙ is in cc);
  reads_fail = reads_fail old new query files actions asks.fails on;
  printed = on.printed;
  print_faults = on.print_faults;
  no_lower = rises_by-no_lower _ _ _ on.write_faults;
}
  where
    cause : (result : Result ℕ Fault) → IfErr result (HasCauseInRun old query files asked new) → IfErr result (HasCause old query files asked new)
    cause (Ok n) h = tt
    cause (Err fault) h = inr h

-- a text without a byte is the beginning of any
front_nothing : (join : Option JoinPart) (group : Option GroupAsked) (query : QueryParts) (files : List (List ℕ)) → IsFrontBy join group query files []
front_nothing None None query files = record { later = text_of query (rows_before_fault query files); front = refl; valid = λ is. (text_of query is.rows, refl) }
front_nothing None (Some group) query files = λ is. record { rows = is.rows; means = is.means; rest = text_of query is.rows; front = refl }
front_nothing (Some join) group query files = λ is. record { rows = is.rows; means = is.means; rest = text_of query is.rows; front = refl }

-- memory ran out before anything was read
pub runs_begun : (old now : Outside) (query : QueryParts) (options : RunOptions) (files : List (List ℕ)) → query_fault query ≡ None → Begun old query files now
    → Runs old query options (Err faults.OutOfMemory) now
runs_begun old now query options files planned b =
    runs_on old now query options files [] none_asked (Err faults.OutOfMemory) planned
    (record { once = asks_no_side query.left query.join (length old.sizes) (map length files); short = tt; fails = inl (refl, refl) })
    (goes_on old now now query files [] b tt (does-nothing now)) (λ told. nothing_ahead query.join query.group query options (length old.sizes) files) tt tt
    (λ told. front_nothing query.join query.group query files) (no_row query.group old query now faults.OutOfMemory tt) (λ told valid none. refl)
