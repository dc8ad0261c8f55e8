use Rattle.std.proofs.Common.{◌≡◌, ◌<◌, ◌∙◌, [], ℕ, List, length, refl, sym, subst}
use Rattle.std.specs.List.{All}
use Rattle.morsel_meaning.specs.Values.{kinds_of}
use Rattle.morsel_frame.specs.Tables.{fields_at}
use Rattle.morsel_group.specs.declared.groups.Groups.{Groups}
use Rattle.morsel_group.specs.Arrivals.{keyed_in}
use Rattle.morsel_group.proofs.BlankLemmas.{blank_are, blank_empty, blank_group_by}
use Rattle.morsel_group.proofs.blank.planned_groups.Goals as goal

pub blank_keys-requires : goal.blank_keys-requires
blank_keys-requires c = subst (λ (ps : List ℕ). All (λ at. at < length c.args.input.now) ps) (sym c.deref.ensures.value) c.requires.within

pub blank_reductions-requires-clause-columns : goal.blank_reductions-requires-clause-columns
blank_reductions-requires-clause-columns c = c.deref-2.ensures.value ∙ c.requires.columns

pub returns-clause-groups : goal.returns-clause-groups
returns-clause-groups c =
    let g : Groups = record {
      alloc = c.args.alloc;
      input = c.in_ok-fields.fields;
      keys = c.args.plan.keys;
      reduced = c.in_ok-reducing.reducing.0;
      table = c.in_ok-keyed.keyed.0;
      key_rows = c.in_ok-keyed.keyed.1;
      counts = c.new.result;
      parts = c.in_ok-reducing.reducing.1;
      took = 0;
    } in
    let table = subst (λ (ps : List ℕ). keyed_in g.table ≡ record { kinds = kinds_of (fields_at c.args.input.now ps); keys = [] }) c.deref.ensures.value c.in_ok-keyed.ensures.table in
    let rows = subst (λ (ps : List ℕ). g.key_rows ≡ record { schema = fields_at c.args.input.now ps; rows = [] }) c.deref.ensures.value c.in_ok-keyed.ensures.rows in
    blank_are c.args.input.now c.args.aggs.now g c.in_ok-fields.ensures.same c.requires.within table rows c.in_ok-reducing.ensures.schema c.in_ok-reducing.ensures.each c.in_ok-reducing.ensures.kinds c.new.ensures

pub returns-clause-group_by : goal.returns-clause-group_by
returns-clause-group_by c asked same keys =
    let g : Groups = record {
      alloc = c.args.alloc;
      input = c.in_ok-fields.fields;
      keys = c.args.plan.keys;
      reduced = c.in_ok-reducing.reducing.0;
      table = c.in_ok-keyed.keyed.0;
      key_rows = c.in_ok-keyed.keyed.1;
      counts = c.new.result;
      parts = c.in_ok-reducing.reducing.1;
      took = 0;
    } in
    let rows = subst (λ (ps : List ℕ). g.key_rows ≡ record { schema = fields_at c.args.input.now ps; rows = [] }) c.deref.ensures.value c.in_ok-keyed.ensures.rows in
    blank_group_by c.args.input.now asked c.args.aggs.now g same c.in_ok-fields.ensures.same keys rows c.in_ok-reducing.ensures.schema c.in_ok-reducing.ensures.reducers

pub returns-clause-empty : goal.returns-clause-empty
returns-clause-empty c =
    let g : Groups = record {
      alloc = c.args.alloc;
      input = c.in_ok-fields.fields;
      keys = c.args.plan.keys;
      reduced = c.in_ok-reducing.reducing.0;
      table = c.in_ok-keyed.keyed.0;
      key_rows = c.in_ok-keyed.keyed.1;
      counts = c.new.result;
      parts = c.in_ok-reducing.reducing.1;
      took = 0;
    } in
    blank_empty c.args.input.now g (kinds_of (fields_at c.args.input.now c.deref.result.now)) c.in_ok-keyed.ensures.table c.in_ok-reducing.ensures.each c.new.ensures refl
