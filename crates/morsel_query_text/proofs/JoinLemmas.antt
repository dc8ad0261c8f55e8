-- What is no part of a join makes it none.
use Rattle.std.proofs.Common.{◌≡◌, Option, Some, None, subst}
use Rattle.std.specs.Prelude.{codes}
use Rattle.serde_json.specs.Data.{Data}
use Rattle.serde_json.specs.Find.{get}
use Rattle.morsel_meaning.specs.declared.fault.Fault.{Fault}
use Rattle.morsel_meaning.specs.declared.fault.Fault.TheVariants as faults
use Rattle.morsel_query_text.specs.Trees.{FoundAs, IsAtKey, SomeOf}
use Rattle.morsel_query_text.specs.Written.{WrittenJoin}
use Rattle.morsel_query_text.specs.QueryTexts.{JoinOf}
use Rattle.morsel_query_text.specs.Reads.{RefusedBy, AreJoinArgs}

pub args_part : (tree : Data) (join : WrittenJoin) → JoinOf tree join → AreJoinArgs tree join.args
args_part tree join is = record { kind = is.kind; order = is.order; nulls = is.nulls; coalesce = is.coalesce; suffix = is.suffix }

pub refused_args : (tree : Data) (fault : Fault) → RefusedBy (AreJoinArgs tree) fault → RefusedBy (JoinOf tree) fault
refused_args tree faults.OutOfMemory refused = tt
refused_args tree faults.QueryText refused = λ join is. refused join.args (args_part tree join is)
refused_args tree (faults.ReadFault file) refused = refused
refused_args tree faults.WriteFault refused = refused
refused_args tree (faults.InvalidQuery why) refused = refused
refused_args tree (faults.Malformed file at) refused = refused
refused_args tree (faults.Unsupported file code) refused = refused
refused_args tree (faults.ColumnNotFound name) refused = refused
refused_args tree (faults.SchemaMismatch name) refused = refused
refused_args tree (faults.Duplicate name) refused = refused
refused_args tree (faults.ComputeError kind file at) refused = refused
refused_args tree faults.Usage refused = refused

none_of_some : (found : Data) → ((join : WrittenJoin) → JoinOf found join → ⊥) → (join : Option WrittenJoin) → SomeOf JoinOf found join → ⊥
none_of_some found none None is = is
none_of_some found none (Some join) is = none join is

-- what is no join makes the query that has it none
pub refused_join : (tree found : Data) (fault : Fault) → get (codes "join") tree ≡ Some found → RefusedBy (JoinOf found) fault → RefusedBy (IsAtKey (codes "join") (SomeOf JoinOf) (Some None) tree) fault
refused_join tree found faults.OutOfMemory there refused = tt
refused_join tree found faults.QueryText there refused =
    λ join is. none_of_some found refused join (subst (λ (d : Option Data). FoundAs (SomeOf JoinOf) (Some None) d join) there is)
refused_join tree found (faults.ReadFault file) there refused = refused
refused_join tree found faults.WriteFault there refused = refused
refused_join tree found (faults.InvalidQuery why) there refused = refused
refused_join tree found (faults.Malformed file at) there refused = refused
refused_join tree found (faults.Unsupported file code) there refused = refused
refused_join tree found (faults.ColumnNotFound name) there refused = refused
refused_join tree found (faults.SchemaMismatch name) there refused = refused
refused_join tree found (faults.Duplicate name) there refused = refused
refused_join tree found (faults.ComputeError kind file at) there refused = refused
refused_join tree found faults.Usage there refused = refused
