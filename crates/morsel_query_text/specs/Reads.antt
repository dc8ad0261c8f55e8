-- What a part of a tree is read as, or why it is refused.
use Rattle.std.specs.Prelude.{◌≡◌, Bool, true, false, codes, Option, Some, None, []}
use Rattle.serde_json.specs.Data.{Data}
use Rattle.serde_json.specs.Find.{as_str, as_bool}
use Rattle.morsel_meaning.specs.declared.fault.Fault.{Fault}
use Rattle.morsel_meaning.specs.declared.fault.Fault.TheVariants.{OutOfMemory, QueryText}
use Rattle.morsel_expr.specs.declared.node.PredNode.{PredNode}
use Rattle.morsel_join.specs.declared.join_type.JoinType.TheVariants as joins
use Rattle.morsel_join.specs.declared.join_type.MaintainOrderJoin.TheVariants as orders
use Rattle.morsel_join.specs.declared.payload.JoinArgs.{JoinArgs}
use Rattle.morsel_scan.specs.Scans.{FileOptions}
use Rattle.morsel_query_text.specs.Trees.{has_only, at_key, IsAtKey, some_of, word_as, list_of, pair_of, number, signed_number}
use Rattle.morsel_query_text.specs.Predicates.{pred_tree, is_predicate}
use Rattle.morsel_query_text.specs.Written.{WrittenCsv, standard_csv}
use Rattle.morsel_query_text.specs.QueryTexts.{CsvOf, csv_scan_keys, row_index, join_type_named, order_named}

-- a value that is none is refused, or memory is out
abbrev pub Refused : {T : Type 0} → Option T → Fault → Type 0
Refused told OutOfMemory = Unit {0}
Refused told QueryText = told ≡ None
Refused told fault = ⊥

-- what is no value by a relation is refused, or memory is out
abbrev pub RefusedBy : {T : Type 0} → (T → Type 0) → Fault → Type 0
RefusedBy Of OutOfMemory = Unit {0}
RefusedBy {T} Of QueryText = (value : T) → Of value → ⊥
RefusedBy Of fault = ⊥

-- the tree is this predicate
pub record IsPredOf (tree : Data) (node : PredNode) : Type 0 where
  pub written : tree ≡ pred_tree node
  pub predicate : is_predicate tree ≡ true

-- a tree that is no predicate is refused, or memory is out
abbrev pub RefusedUnless : Bool → Fault → Type 0
RefusedUnless told OutOfMemory = Unit {0}
RefusedUnless told QueryText = told ≡ false
RefusedUnless told fault = ⊥

-- a scan of CSV files: its format, and how the files are written
pub record IsCsvFormat (tree : Data) (written : WrittenCsv) : Type 0 where
  pub keys : has_only csv_scan_keys tree ≡ true
  pub format : at_key (codes "format") as_str None tree ≡ Some (codes "csv")
  pub csv : IsAtKey (codes "csv") CsvOf (Some standard_csv) tree written

-- what a scan of CSV files asks of their rows
pub record AreAsked (tree : Data) (asked : FileOptions) : Type 0 where
  pub columns : at_key (codes "columns") (list_of as_str) (Some []) tree ≡ Some asked.columns
  pub slice : at_key (codes "slice") (some_of (pair_of signed_number number)) (Some None) tree ≡ Some asked.slice
  pub row_index : at_key (codes "row_index") (some_of row_index) (Some None) tree ≡ Some asked.row_index
  pub path : at_key (codes "path") (some_of as_str) (Some None) tree ≡ Some asked.path
  pub allow_missing_columns : at_key (codes "allow_missing_columns") as_bool (Some false) tree ≡ Some asked.allow_missing_columns

-- what a join asks of its rows
pub record AreJoinArgs (tree : Data) (args : JoinArgs) : Type 0 where
  pub kind : at_key (codes "kind") (word_as join_type_named) (Some joins.Inner) tree ≡ Some args.how
  pub order : at_key (codes "order") (word_as order_named) (Some orders.None) tree ≡ Some args.maintain_order
  pub nulls : at_key (codes "nulls") as_bool (Some false) tree ≡ Some args.join_nulls
  pub coalesce : at_key (codes "coalesce") as_bool (Some true) tree ≡ Some args.coalesce
  pub suffix : at_key (codes "suffix") as_str (Some (codes "_right")) tree ≡ Some args.suffix
