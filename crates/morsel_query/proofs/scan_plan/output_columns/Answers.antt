use Rattle.std.proofs.Common.{◌≡◌, ◌++◌, sym, subst, rules, append_assoc, List}
use Rattle.morsel_meaning.specs.declared.value.Field.{Field}
use Rattle.morsel_meaning.specs.Values.{names_of}
use Rattle.morsel_frame.specs.Names.{AreDistinct}
use Rattle.morsel_scan.specs.ScanColumns.{index_fields, path_fields}
use Rattle.morsel_query.specs.Queries.{kept_fields}
use Rattle.morsel_query.proofs.FieldLemmas.{kept-distinct}
use Rattle.morsel_query.proofs.scan_plan.output_columns.Goals as goal

pub of_distinct-requires : goal.of_distinct-requires
of_distinct-requires c =
    let asked = c.args.asked.now in
    let whole : c.push_path.new.fields.items ≡ index_fields asked.row_index ++ (kept_fields asked.columns c.args.schema.now ++ path_fields asked.path) = search (rules, append_assoc) in
    subst (λ (fs : List Field). AreDistinct (names_of fs)) (sym whole) (kept-distinct asked.columns (index_fields asked.row_index) c.args.schema.now (path_fields asked.path) c.requires)
