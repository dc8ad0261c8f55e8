-- Runs that make no sink.
use Rattle.std.proofs.Common.{◌≡◌, ◌⊎◌, ℕ, ◌+◌, ◌<◌, ◌≤◌, ap, sym, subst, refl, ◌∙◌, inl, inr, arith, append-nil, length-append, append_assoc}
use Rattle.std.proofs.lemmas.List.{take_all}
use Rattle.std.specs.Prelude.{Option, Some, None, Err, List, [], ◌∷◌, ◌++◌, map, length, take, drop, slice_get}
use Rattle.morsel_meaning.specs.declared.fault.Fault.{Fault}
use Rattle.morsel_meaning.specs.declared.fault.Fault.TheVariants as faults
use Rattle.morsel_frame.specs.Refusals.{Refuses}
use Rattle.morsel_outside.specs.declared.events.Asked.{Asked}
use Rattle.morsel_outside.specs.declared.events.Asked.TheVariants.{Open, Make}
use Rattle.morsel_outside.specs.Outside.{Outside, with_sink}
use Rattle.morsel_group.specs.Asked.{GroupAsked}
use Rattle.morsel_outside.specs.Actions.{Rises, Does, FailedMaking}
use Rattle.morsel_outside.proofs.ActionLemmas.{with_more-nil}
use Rattle.morsel_query.specs.RunOptions.{RunOptions}
use Rattle.morsel_query.specs.Queries.{JoinPart, QueryParts}
use Rattle.morsel_query.specs.QueryFlaws.{sources_of}
use Rattle.morsel_query.specs.Plans.{query_fault}
use Rattle.morsel_query.specs.Meanings.{text_of}
use Rattle.morsel_engine.specs.Courses.{names_asked, SidesAsked}
use Rattle.morsel_engine.specs.Stages.{HasOpenedFirst, FailsToOpen}
use Rattle.morsel_engine.specs.Runs.{HasOpened, HasNotBegun, HasCause, HasCauseInRun, LeavesNoRow, LeavesNoRowBy, NoneRises, ReadsAheadBy, Runs}
use Rattle.morsel_engine.proofs.OpenLemmas.{is_opened}
use Rattle.morsel_engine.proofs.AskLemmas.{asks_no_side}

-- no byte was asked
abbrev pub none_asked : SidesAsked
none_asked = record { left = 0; right = 0 }

-- what a run that makes no sink leaves as it was
pub record Stopped (old : Outside) (query : QueryParts) (files : List (List ℕ)) (fault : Fault) (new : Outside) : Type 0 where
  pub opened : HasOpened old query files new
  pub not_begun : HasNotBegun old query files new
  pub cause : HasCause old query files none_asked new fault
  pub complete : NoneRises old new → query_fault query ≡ None → fault ≡ faults.OutOfMemory
  pub refused : (due : Fault) → query_fault query ≡ Some due → (new ≡ old) × ((fault ≡ due) ⊎ (fault ≡ faults.OutOfMemory))
  pub reads_fail : ((new.read_faults ≡ old.read_faults) × (new.failed ≡ old.failed))
      ⊎ ((file : ℕ) × (file < length (sources_of query)) × Rises old.read_faults new.read_faults × (new.failed ≡ length old.sizes + file))
  pub printed : new.printed ≡ old.printed
  pub print_faults : new.print_faults ≡ old.print_faults
  pub no_lower : old.write_faults ≤ new.write_faults

-- without events no read is far ahead
pub nothing_ahead : (join : Option JoinPart) (group : Option GroupAsked) (query : QueryParts) (options : RunOptions) (number : ℕ) (files : List (List ℕ)) → ReadsAheadBy join group query options number files []
nothing_ahead None None query options number files = tt
nothing_ahead None (Some group) query options number files = tt
nothing_ahead (Some join) group query options number files = tt

-- no row is left, after any fault, where no sink is more, or one with the text of no row
pub no_row_left : (old : Outside) (query : QueryParts) (new : Outside) (fault : Fault) → (new.made ≡ old.made) ⊎ (new.made ≡ with_sink old.made query.sink.name (text_of query [])) → LeavesNoRow old query new fault
no_row_left old query new faults.WriteFault is = tt
no_row_left old query new faults.OutOfMemory is = tt
no_row_left old query new (faults.ReadFault file) is = is
no_row_left old query new (faults.InvalidQuery why) is = is
no_row_left old query new (faults.Malformed file at) is = is
no_row_left old query new (faults.Unsupported file code) is = is
no_row_left old query new (faults.ColumnNotFound name) is = is
no_row_left old query new (faults.SchemaMismatch name) is = is
no_row_left old query new (faults.Duplicate name) is = is
no_row_left old query new (faults.ComputeError kind file at) is = is
no_row_left old query new faults.QueryText is = is
no_row_left old query new faults.Usage is = is

-- the same with a group-by or without
pub no_row : (group : Option GroupAsked) (old : Outside) (query : QueryParts) (new : Outside) (fault : Fault) → LeavesNoRow old query new fault → LeavesNoRowBy group old query (Err fault) new
no_row None old query new fault none = tt
no_row (Some group) old query new fault none = none

pub runs_stopped : (old : Outside) (query : QueryParts) (options : RunOptions) (files : List (List ℕ)) (fault : Fault) (new : Outside) → Stopped old query files fault new
    → Runs old query options (Err fault) new
runs_stopped old query options files fault new s = record {
  files = files;
  opened = s.opened;
  asked = none_asked;
  events = [];
  gained = s.not_begun.events ∙ sym (with_more-nil old.events);
  once = asks_no_side query.left query.join (length old.sizes) (map length files);
  short = tt;
  ahead = λ told. nothing_ahead query.join query.group query options (length old.sizes) files;
  answers = tt;
  caused = s.cause;
  leaves = inl s.not_begun;
  head_alone = no_row query.group old query new fault (no_row_left old query new fault (inl s.not_begun.made));
  complete = λ told valid none. s.complete none valid.planned;
  refused = s.refused;
  reads_fail = s.reads_fail;
  printed = s.printed;
  print_faults = s.print_faults;
  no_lower = s.no_lower;
}

-- a source's name among those that are asked for
names_front : (query : QueryParts) (k : ℕ) → names_asked query ≡ map Open (take k (sources_of query)) ++ (map Open (drop k (sources_of query)) ++ Make query.sink.name ∷ [])
names_front query k = by (sources_of query) k
  where
    by : (names : List (List ℕ)) (n : ℕ) → map Open names ++ Make query.sink.name ∷ [] ≡ map Open (take n names) ++ (map Open (drop n names) ++ Make query.sink.name ∷ [])
    by names Rattle.std.specs.Prelude.zero = refl
    by [] (Rattle.std.specs.Prelude.suc n) = refl
    by (name ∷ names) (Rattle.std.specs.Prelude.suc n) = ap (λ (xs : List Asked). Open name ∷ xs) (by names n)

length_map : (names : List (List ℕ)) → length (map Open names) ≡ length names
length_map [] = refl
length_map (name ∷ names) = ap Rattle.std.specs.Prelude.suc (length_map names)

length_take : (names : List (List ℕ)) (k : ℕ) → length (take k names) ≤ k
length_take names Rattle.std.specs.Prelude.zero = omega arith
length_take [] (Rattle.std.specs.Prelude.suc k) = omega arith
length_take (name ∷ names) (Rattle.std.specs.Prelude.suc k) = let h = length_take names k in omega (arith, h)

-- nothing was done
not_begun-nothing : (o : Outside) (query : QueryParts) → HasNotBegun o query [] o
not_begun-nothing o query = record {
  sinks = refl;
  made = refl;
  events = refl;
  asked = [];
  later = names_asked query;
  gained = sym (append-nil o.asked);
  front = refl;
  in_order = omega arith;
  failed = inl (refl, refl);
}

opened-nothing : (o : Outside) (query : QueryParts) → HasOpened o query [] o
opened-nothing o query = record { few = omega arith; sizes = sym (append-nil o.sizes); held = sym (with_more-nil o.held) }

-- a query without a plan, or memory that ran out before anything was done
pub runs_refused : (o : Outside) (query : QueryParts) (options : RunOptions) (fault : Fault) → (query_fault query ≡ Some fault) ⊎ (fault ≡ faults.OutOfMemory) → Runs o query options (Err fault) o
runs_refused o query options fault why = runs_stopped o query options [] fault o (record {
  opened = opened-nothing o query;
  not_begun = not_begun-nothing o query;
  cause = caused why;
  complete = λ none planned. done why planned;
  refused = λ due is. (refl, one due is why);
  reads_fail = inl (refl, refl);
  printed = refl;
  print_faults = refl;
  no_lower = omega arith;
})
  where
    caused : (query_fault query ≡ Some fault) ⊎ (fault ≡ faults.OutOfMemory) → HasCause o query [] none_asked o fault
    caused (inl is) = inl (is, refl)
    caused (inr is) = inr (subst (HasCauseInRun o query [] none_asked o) (sym is) tt)

    done : (query_fault query ≡ Some fault) ⊎ (fault ≡ faults.OutOfMemory) → query_fault query ≡ None → fault ≡ faults.OutOfMemory
    done (inl is) planned = absurd (let both : None ≡ Some fault = sym planned ∙ is in cc)
    done (inr is) planned = is

    one : (due : Fault) → query_fault query ≡ Some due → (query_fault query ≡ Some fault) ⊎ (fault ≡ faults.OutOfMemory) → (fault ≡ due) ⊎ (fault ≡ faults.OutOfMemory)
    one due is (inl found) = inl (let both : Some fault ≡ Some due = sym found ∙ is in cc)
    one due is (inr found) = inr found

-- a fault that is answered where one is due
pub refused_by : (T : Type 0) (due : Option Fault) (fault : Fault) → Refuses {T = T} due (Err fault) → (due ≡ Some fault) ⊎ (fault ≡ faults.OutOfMemory)
refused_by T due faults.OutOfMemory h = inr refl
refused_by T due (faults.ReadFault file) h = inl h
refused_by T due faults.WriteFault h = inl h
refused_by T due (faults.InvalidQuery why) h = inl h
refused_by T due (faults.Malformed file at) h = inl h
refused_by T due (faults.Unsupported file code) h = inl h
refused_by T due (faults.ColumnNotFound name) h = inl h
refused_by T due (faults.SchemaMismatch name) h = inl h
refused_by T due (faults.Duplicate name) h = inl h
refused_by T due (faults.ComputeError kind file at) h = inl h
refused_by T due faults.QueryText h = inl h
refused_by T due faults.Usage h = inl h

-- sources are open, and nothing else was done
not_begun-opened : (old now : Outside) (query : QueryParts) (files : List (List ℕ)) → HasOpenedFirst old (sources_of query) files now → HasNotBegun old query files now
not_begun-opened old now query files first =
    let is = is_opened old now (sources_of query) files first in record {
      sinks = is.sinks;
      made = is.made;
      events = is.events;
      asked = map Open (take (length files) (sources_of query));
      later = map Open (drop (length files) (sources_of query)) ++ Make query.sink.name ∷ [];
      gained = is.asked;
      front = names_front query (length files);
      in_order = let n = length_map (take (length files) (sources_of query)) in let m = length_take (sources_of query) (length files) in omega (arith, n, m);
      failed = inl (is.read_faults, is.failed);
    }

has_opened : (old now : Outside) (query : QueryParts) (files : List (List ℕ)) → HasOpenedFirst old (sources_of query) files now → HasOpened old query files now
has_opened old now query files first = let is = is_opened old now (sources_of query) files first in record { few = first.few; sizes = is.sizes; held = is.held }

-- memory ran out after some sources were opened
pub runs_short : (old now : Outside) (query : QueryParts) (options : RunOptions) (files : List (List ℕ)) → query_fault query ≡ None → HasOpenedFirst old (sources_of query) files now
    → Runs old query options (Err faults.OutOfMemory) now
runs_short old now query options files planned first =
    let is = is_opened old now (sources_of query) files first in
    runs_stopped old query options files faults.OutOfMemory now (record {
      opened = has_opened old now query files first;
      not_begun = not_begun-opened old now query files first;
      cause = inr tt;
      complete = λ none plan. refl;
      refused = λ due due_is. absurd (let both : None ≡ Some due = sym planned ∙ due_is in cc);
      reads_fail = inl (is.read_faults, is.failed);
      printed = is.printed;
      print_faults = is.print_faults;
      no_lower = let n = is.write_faults in omega (arith, n);
    })

-- the names that were asked for, where one more could not be opened
names_next : (names : List (List ℕ)) (n : ℕ) (name : List ℕ) → slice_get names n ≡ Some name → map Open (take n names) ++ Open name ∷ [] ≡ map Open (take (n + 1) names)
names_next [] n name is = absurd (let e : None ≡ Some name = is in cc)
names_next (first ∷ names) Rattle.std.specs.Prelude.zero name is =
    let e : Some first ≡ Some name = is in let same : first ≡ name = cc in ap (λ (x : List ℕ). Open x ∷ []) (sym same) ∙ ap (λ (k : ℕ). map Open (take k (first ∷ names))) (let one : Rattle.std.specs.Prelude.suc 0 ≡ 0 + 1 = omega arith in one)
names_next (first ∷ names) (Rattle.std.specs.Prelude.suc n) name is = ap (λ (xs : List Asked). Open first ∷ xs) (names_next names n name is)
    ∙ ap (λ (k : ℕ). map Open (take k (first ∷ names))) (let one : Rattle.std.specs.Prelude.suc (n + 1) ≡ Rattle.std.specs.Prelude.suc n + 1 = omega arith in one)

-- a source could not be opened
pub runs_unopened : (old new : Outside) (query : QueryParts) (options : RunOptions) (files : List (List ℕ)) (file : ℕ) → query_fault query ≡ None → FailsToOpen old (sources_of query) files file new
    → Runs old query options (Err (faults.ReadFault file)) new
runs_unopened old new query options files file planned f =
    let is = is_opened old f.between (sources_of query) files f.first in
    let does = f.fails in
    let rises : Rises old.read_faults new.read_faults = subst (λ (n : ℕ). Rises n new.read_faults) is.read_faults does.read_faults in
    runs_stopped old query options files (faults.ReadFault file) new (record {
      opened = record {
        few = f.first.few;
        sizes = does.sizes ∙ append-nil f.between.sizes ∙ is.sizes;
        held = does.held ∙ with_more-nil f.between.held ∙ is.held;
      };
      not_begun = record {
        sinks = let n = does.sinks in let m = is.sinks in omega (arith, n, m);
        made = does.made ∙ is.made;
        events = does.events ∙ with_more-nil f.between.events ∙ is.events;
        asked = map Open (take (length files + 1) (sources_of query));
        later = map Open (drop (length files + 1) (sources_of query)) ++ Make query.sink.name ∷ [];
        gained = does.asked ∙ ap (λ (xs : List Asked). xs ++ Open f.name ∷ []) is.asked ∙ append_assoc old.asked (map Open (take (length files) (sources_of query))) (Open f.name ∷ [])
            ∙ ap (λ (xs : List Asked). old.asked ++ xs) (names_next (sources_of query) (length files) f.name (ap (slice_get (sources_of query)) (sym f.number) ∙ f.is_name));
        front = names_front query (length files + 1);
        in_order = let n = length_map (take (length files + 1) (sources_of query)) in let m = length_take (sources_of query) (length files + 1) in omega (arith, n, m);
        failed = inr (does.failed ∙ ap (λ (n : ℕ). length old.sizes + n) f.number);
      };
      cause = inr (f.within, (let n = f.number in omega (arith, n)), rises, does.failed);
      complete = λ none plan. absurd (none.reads rises);
      refused = λ due due_is. absurd (let both : None ≡ Some due = sym planned ∙ due_is in cc);
      reads_fail = inr (file, f.within, rises, does.failed);
      printed = does.printed ∙ with_more-nil f.between.printed ∙ is.printed;
      print_faults = does.print_faults ∙ is.print_faults;
      no_lower = let n = does.write_faults in let m = is.write_faults in omega (arith, n, m);
    })

-- the sink could not be made
pub runs_unmade : (old now new : Outside) (query : QueryParts) (options : RunOptions) (files : List (List ℕ)) → query_fault query ≡ None → HasOpenedFirst old (sources_of query) files now
    → length files ≡ length (sources_of query) → Does now (FailedMaking query.sink.name ∷ []) new → Runs old query options (Err faults.WriteFault) new
runs_unmade old now new query options files planned first all does =
    let is = is_opened old now (sources_of query) files first in
    let rises : Rises old.write_faults new.write_faults = subst (λ (n : ℕ). Rises n new.write_faults) is.write_faults does.write_faults in
    runs_stopped old query options files faults.WriteFault new (record {
      opened = record {
        few = first.few;
        sizes = does.sizes ∙ append-nil now.sizes ∙ is.sizes;
        held = does.held ∙ with_more-nil now.held ∙ is.held;
      };
      not_begun = record {
        sinks = let n = does.sinks in let m = is.sinks in omega (arith, n, m);
        made = does.made ∙ is.made;
        events = does.events ∙ with_more-nil now.events ∙ is.events;
        asked = names_asked query;
        later = [];
        gained = does.asked ∙ ap (λ (xs : List Asked). xs ++ Make query.sink.name ∷ []) is.asked ∙ append_assoc old.asked (map Open (take (length files) (sources_of query))) (Make query.sink.name ∷ [])
            ∙ ap (λ (xs : List (List ℕ)). old.asked ++ (map Open xs ++ Make query.sink.name ∷ [])) (take_all (length files) (sources_of query) (omega (arith, all)));
        front = sym (append-nil (names_asked query));
        in_order = let n = length_append-last (map Open (sources_of query)) in let m = length_map (sources_of query) in omega (arith, n, m, all);
        failed = inl (does.read_faults ∙ is.read_faults, does.failed ∙ is.failed);
      };
      cause = inr (all, rises);
      complete = λ none plan. absurd (none.writes rises);
      refused = λ due due_is. absurd (let both : None ≡ Some due = sym planned ∙ due_is in cc);
      reads_fail = inl (does.read_faults ∙ is.read_faults, does.failed ∙ is.failed);
      printed = does.printed ∙ with_more-nil now.printed ∙ is.printed;
      print_faults = does.print_faults ∙ is.print_faults;
      no_lower = rises.no_lower;
    })
  where
    length_append-last : (xs : List Asked) → length (xs ++ Make query.sink.name ∷ []) ≡ length xs + 1
    length_append-last xs = length-append xs (Make query.sink.name ∷ [])
