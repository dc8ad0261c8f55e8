-- The query of a command, and its run.
use Rattle.std.specs.Prelude.{◌≡◌, ◌⊎◌, ℕ, IfOk, IfErr, Option, Some, None, Result, Ok, Err, List, [], ◌∷◌, length, refl}
use Rattle.std.proofs.Common.{sym, subst, ◌∙◌, arith, inl, inr, add-zero}
use Rattle.morsel_meaning.specs.declared.fault.Fault.{Fault}
use Rattle.morsel_meaning.specs.declared.fault.Fault.TheVariants as faults
use Rattle.morsel_meaning.specs.declared.value.Field.{Field}
use Rattle.morsel_outside.specs.Outside.{Outside}
use Rattle.morsel_query.specs.Queries.{QueryParts}
use Rattle.morsel_query.specs.QueryFlaws.{IsSound, IsFlawFault}
use Rattle.morsel_query.specs.RunOptions.{RunOptions, standard_options}
use Rattle.morsel_engine.specs.Runs.{Runs}
use Rattle.morsel_prog.specs.Results.{Finds}
use Rattle.morsel_prog.specs.Words.{Command, ScanFile, AnswerQuery}
use Rattle.morsel_prog.specs.QueryFiles.{IsQueryFile, RefusesBytesOf}
use Rattle.morsel_prog.specs.CommandQueries.{scan_parts, NoReadFails, HasNoQueryFor}
use Rattle.morsel_prog.specs.QueryReads.{IsNotReadFor, ReadsWhole, HasOrLacks}
use Rattle.morsel_prog.specs.CommandRuns.{RunsCommand, RunsWords}
use Rattle.morsel_prog.proofs.QueryReadLemmas.{reads-nothing, no_read_fails-refl, same_prints-refl}

-- bytes that are refused are none of a query
refused_bytes : (old new : Outside) (name out bytes : List ℕ) (fault : Fault) → NoReadFails old new → (fault ≡ faults.OutOfMemory) ⊎ RefusesBytesOf bytes out fault
    → HasNoQueryFor old (AnswerQuery name out) (bytes ∷ []) new fault
refused_bytes old new name out bytes fault well (inl is) = subst (HasNoQueryFor old (AnswerQuery name out) (bytes ∷ []) new) (sym is) well
refused_bytes old new name out bytes fault well (inr h) = by fault h
  where
    by : (f : Fault) → RefusesBytesOf bytes out f → HasNoQueryFor old (AnswerQuery name out) (bytes ∷ []) new f
    by faults.OutOfMemory never = absurd never
    by (faults.ReadFault file) never = absurd never
    by faults.QueryText why = (well, refl, why)
    by (faults.InvalidQuery flaw) why = (well, refl, why)
    by (faults.Duplicate twice) why = (well, refl, why)
    by f never = absurd never

-- the query file was read whole, and read as a query
pub file-read : (old new : Outside) (name out bytes : List ℕ) (result : Result (QueryParts × RunOptions) Fault) → ReadsWhole old name (Ok bytes) new
    → IfOk result (λ pair. IsQueryFile bytes out pair.0 pair.1) → IfErr result (λ fault. (fault ≡ faults.OutOfMemory) ⊎ RefusesBytesOf bytes out fault)
    → HasOrLacks old (AnswerQuery name out) result new
file-read old new name out bytes (Ok pair) whole ok err = (
  record {
    texts = bytes ∷ [];
    all = refl;
    query = pair.0;
    options = pair.1;
    is_query = ok;
    reads = whole.1;
    read_well = whole.2;
    same = whole.3;
  },
  refl,
  refl,
)
file-read old new name out bytes (Err fault) whole ok err =
    (record { texts = bytes ∷ []; reads = whole.1; cause = refused_bytes old new name out bytes fault whole.2 err }, whole.3)

-- the query file was not read whole
not_read : (old new : Outside) (name out : List ℕ) (texts : List (List ℕ)) (fault : Fault) → IsNotReadFor old texts new fault → HasNoQueryFor old (AnswerQuery name out) texts new fault
not_read old new name out texts faults.OutOfMemory why = why
not_read old new name out texts (faults.ReadFault file) (is, rises, failed) = (is, rises, 0, omega arith, failed ∙ sym (add-zero (length old.sizes)))
not_read old new name out texts faults.QueryText (well, text, are, many) =
    subst (λ (all : List (List ℕ)). HasNoQueryFor old (AnswerQuery name out) all new faults.QueryText) (sym are) (well, refl, λ query is. let few = is.few in omega (arith, many, few))
not_read old new name out texts fault why = absurd why

pub file-unread : (old new : Outside) (name out : List ℕ) (fault : Fault) → ReadsWhole old name (Err fault) new → HasOrLacks old (AnswerQuery name out) (Err fault) new
file-unread old new name out fault (texts, reads, why, same) = (record { texts = texts; reads = reads; cause = not_read old new name out texts fault why }, same)

-- the query of a scan
pub scan-had : (o : Outside) (file : List ℕ) (schema : List Field) (out : List ℕ) (query : QueryParts) (options : RunOptions) → IsSound query × (query ≡ scan_parts file schema out)
    → options ≡ standard_options → HasOrLacks o (ScanFile file schema out) (Ok (query, options)) o
scan-had o file schema out query options is standard = (
  record {
    texts = [];
    all = refl;
    query = query;
    options = options;
    is_query = (is.0, is.1, standard);
    reads = reads-nothing o [];
    read_well = no_read_fails-refl o;
    same = same_prints-refl o;
  },
  refl,
  refl,
)

-- a scan that has a flaw
flawed_scan : (o : Outside) (file : List ℕ) (schema : List Field) (out : List ℕ) (fault : Fault) → IsFlawFault (scan_parts file schema out) fault → HasNoQueryFor o (ScanFile file schema out) [] o fault
flawed_scan o file schema out faults.OutOfMemory never = absurd never
flawed_scan o file schema out (faults.ReadFault number) never = absurd never
flawed_scan o file schema out (faults.InvalidQuery why) is = (no_read_fails-refl o, refl, is)
flawed_scan o file schema out fault never = absurd never

lack_of_scan : (o : Outside) (file : List ℕ) (schema : List Field) (out : List ℕ) (fault : Fault) → (fault ≡ faults.OutOfMemory) ⊎ IsFlawFault (scan_parts file schema out) fault
    → HasNoQueryFor o (ScanFile file schema out) [] o fault
lack_of_scan o file schema out fault (inl is) = subst (HasNoQueryFor o (ScanFile file schema out) [] o) (sym is) (no_read_fails-refl o)
lack_of_scan o file schema out fault (inr is) = flawed_scan o file schema out fault is

pub scan-lacked : (o : Outside) (file : List ℕ) (schema : List Field) (out : List ℕ) (fault : Fault) → (fault ≡ faults.OutOfMemory) ⊎ IsFlawFault (scan_parts file schema out) fault
    → HasOrLacks o (ScanFile file schema out) (Err fault) o
scan-lacked o file schema out fault why =
    (record { texts = []; reads = reads-nothing o []; cause = lack_of_scan o file schema out fault why }, same_prints-refl o)

-- the query was had, and run
pub runs-had : (old between new : Outside) (command : Command) (query : QueryParts) (options : RunOptions) (result : Result ℕ Fault)
    → HasOrLacks old command (Ok (query, options)) between → Runs between query options result new → RunsCommand old command result new
runs-had old between new command query options result (had, is_query, is_options) runs =
    inr (record { between = between; had = had; runs = rw (is_query, is_options) runs })

pub runs-lacked : (old new : Outside) (command : Command) (fault : Fault) → HasOrLacks old command (Err fault) new → RunsCommand old command (Err fault) new
runs-lacked old new command fault lacks = inl lacks

-- words that are no command
pub runs_none : (o : Outside) (command : Option Command) (fault : Fault) → Finds command (Err fault) → RunsWords o command (Err fault) o
runs_none o None faults.OutOfMemory h = (refl, inr refl)
runs_none o None faults.Usage h = (refl, inl refl)
runs_none o None fault h = absurd h
runs_none o (Some command) faults.OutOfMemory h =
    inl (record { texts = []; reads = reads-nothing o _; cause = no_read_fails-refl o }, same_prints-refl o)
runs_none o (Some command) faults.Usage h = absurd (let both : Some command ≡ None = h in cc)
runs_none o (Some command) fault h = absurd h
