use Rattle.std.proofs.Common.{◌≡◌, ◌<◌, ◌≤◌, ◌++◌, take, drop, ℕ, List, length, map, get_or, None, refl, arith, ap, ◌∙◌, sym, subst}
use Rattle.std.proofs.lemmas.List.{length-map}
use Rattle.morsel_meaning.specs.Values.{Table}
use Rattle.morsel_frame.specs.Tables.{cells_at}
use Rattle.morsel_keys.specs.Reductions.{input_place}
use Rattle.morsel_keys.specs.declared.reduction.Reduction.TheVariants as ops
use Rattle.morsel_keys.specs.Slots.{NumbersAll}
use Rattle.morsel_states.specs.GroupRows.{group_rows, with_group_rows}
use Rattle.morsel_states.specs.States.{with_groups}
use Rattle.morsel_states.proofs.RowLemmas.{length-with_group_rows, all_written}
use Rattle.morsel_group.specs.declared.part.AggStates.{AggStates}
use Rattle.morsel_group.specs.Arrivals.{keyed_in, RefusesKeys}
use Rattle.morsel_group.specs.Asked.{Reducer}
use Rattle.morsel_group.specs.Grouping.{value_in}
use Rattle.morsel_group.specs.Takes.{placed_rows}
use Rattle.morsel_group.specs.Parts.{IsPart, updated_part}
use Rattle.morsel_group.specs.Locals.{HeldGroups, held_in, reducer_in, HasGroupedRows}
use Rattle.morsel_group.proofs.CountLemmas.{grown_len}
use Rattle.morsel_group.proofs.HeldLemmas.{entries_in, reducers_updated}
use Rattle.morsel_group.proofs.GroupsLemmas.{parts_updated, kinds_updated, held_put, keys_refused, lens_refused}
use Rattle.morsel_group.proofs.groups.put_numbered.Goals as goal

pub returns-in-Err-clause-refused : goal.returns-in-Err-clause-refused
returns-in-Err-clause-refused c rows has =
    keys_refused (held_in c.args.groups.now) rows (input_place c.args.number (length rows)) c.args.frame.now.rows c.in-Err.fault has
    (subst (λ (ps : List ℕ). RefusesKeys (keyed_in c.args.groups.now.table).keys (map (cells_at ps) c.args.frame.now.rows) c.in-Err.fault) c.deref.ensures.value c.in-Err.ensures.refused)

pub returns-in-Err-count_rows-clause-refused : goal.returns-in-Err-count_rows-clause-refused
returns-in-Err-count_rows-clause-refused c rows has =
    let g = c.args.groups.now in
    let numbers = c.take_keys.new.numbers in
    let new = (keyed_in c.take_keys.new.table).keys in
    let all = subst (λ (ps : List ℕ). NumbersAll (keyed_in g.table).keys (map (cells_at ps) c.args.frame.now.rows) numbers new) c.deref.ensures.value c.in-Ok.ensures.numbers in
    lens_refused (held_in g) rows (input_place c.args.number (length rows)) c.args.frame.now.rows numbers new c.in-Ok.count c.in-Err-count_rows.fault has all c.in-Ok.ensures.count
    (c.in-Err-count_rows.ensures.refused (input_place c.args.number (length rows)) (map (value_in None) c.args.frame.now.rows) (omega (arith, length-map c.args.frame.now.rows (value_in None), c.requires.len, c.take_keys.auto.numbers)))

pub returns-clause-groups : goal.returns-clause-groups
returns-clause-groups c =
    let g = c.args.groups.now in
    let old = c.requires.groups in
    let more = c.args.frame.now.rows in
    let numbers = c.take_keys.new.numbers in
    let new = (keyed_in c.take_keys.new.table).keys in
    let count = c.in-Ok.count in
    let place = input_place c.args.number g.took in
    let final = take g.parts.len (c.update_parts.new.parts ++ drop (length c.update_parts.new.parts) g.parts.items) in
    let parts_are : final ≡ map (updated_part count place numbers more) g.parts.items =
    all_written g.parts.len c.update_parts.new.parts g.parts.items (omega (arith, g.parts.ok.0, c.update_parts.auto.parts, ap length c.deref_mut.ensures.value)) ∙ c.in-Ok-update_parts.ensures.ok ∙ ap (map (updated_part count place numbers more)) c.deref_mut.ensures.value in
    let counted = c.in-Ok-count_rows.ensures.rows place (map (value_in None) more) (omega (arith, length-map more (value_in None), c.requires.len, c.take_keys.auto.numbers)) in
    let few : length g.counts.entries ≤ count = omega (arith, old.counts_len, c.in-Ok.ensures.longer) in
    record {
      within = old.within;
      kinds = c.in-Ok.ensures.kinds ∙ old.kinds;
      key_fields = ap (λ (t : Table). t.schema) c.in-Ok.ensures.rows ∙ old.key_fields;
      key_values = ap (λ (t : Table). t.rows) c.in-Ok.ensures.rows;
      counts_op = c.in-Ok-count_rows.ensures.op ∙ old.counts_op;
      counts_kind = c.in-Ok-count_rows.ensures.kind ∙ old.counts_kind;
      counts_len = ap length counted ∙ length-with_group_rows ops.Len (with_groups count g.counts.entries) (group_rows place numbers (map (value_in None) more)) ∙ grown_len count g.counts.entries few ∙ c.in-Ok.ensures.count;
      each_part = subst (λ (n : ℕ). (k : ℕ) (d : AggStates) → k < length final → IsPart g.input n (get_or final k d)) c.in-Ok.ensures.count
          (subst (λ (ps : List AggStates). (k : ℕ) (d : AggStates) → k < length ps → IsPart g.input count (get_or ps k d)) (sym parts_are) (parts_updated g.input (length (keyed_in g.table).keys) count place numbers more g.parts.items c.in-Ok.ensures.longer old.each_part));
      reduced_kinds = old.reduced_kinds ∙ sym (ap (map (λ (part : AggStates). part.kind)) parts_are ∙ kinds_updated count place numbers more g.parts.items);
    }

pub returns-clause-same : goal.returns-clause-same
returns-clause-same c =
    let g = c.args.groups.now in
    let more = c.args.frame.now.rows in
    let numbers = c.take_keys.new.numbers in
    let count = c.in-Ok.count in
    let place = input_place c.args.number g.took in
    let final = take g.parts.len (c.update_parts.new.parts ++ drop (length c.update_parts.new.parts) g.parts.items) in
    let parts_are : final ≡ map (updated_part count place numbers more) g.parts.items =
    all_written g.parts.len c.update_parts.new.parts g.parts.items (omega (arith, g.parts.ok.0, c.update_parts.auto.parts, ap length c.deref_mut.ensures.value)) ∙ c.in-Ok-update_parts.ensures.ok ∙ ap (map (updated_part count place numbers more)) c.deref_mut.ensures.value in (
      refl,
      ap (λ (rs : List Reducer). record { keys = g.keys.items; aggs = rs }) (ap (map reducer_in) parts_are ∙ reducers_updated count place numbers more g.parts.items),
      ap (λ (t : Table). t.schema ++ g.reduced) c.in-Ok.ensures.rows,
    )

pub returns-clause-rows : goal.returns-clause-rows
returns-clause-rows c rows has =
    let g = c.args.groups.now in
    let more = c.args.frame.now.rows in
    let numbers = c.take_keys.new.numbers in
    let new = (keyed_in c.take_keys.new.table).keys in
    let count = c.in-Ok.count in
    let place = input_place c.args.number g.took in
    let final = take g.parts.len (c.update_parts.new.parts ++ drop (length c.update_parts.new.parts) g.parts.items) in
    let parts_are : final ≡ map (updated_part count place numbers more) g.parts.items =
    all_written g.parts.len c.update_parts.new.parts g.parts.items (omega (arith, g.parts.ok.0, c.update_parts.auto.parts, ap length c.deref_mut.ensures.value)) ∙ c.in-Ok-update_parts.ensures.ok ∙ ap (map (updated_part count place numbers more)) c.deref_mut.ensures.value in
    let counted = c.in-Ok-count_rows.ensures.rows place (map (value_in None) more) (omega (arith, length-map more (value_in None), c.requires.len, c.take_keys.auto.numbers)) in
    let all = subst (λ (ps : List ℕ). NumbersAll (keyed_in g.table).keys (map (cells_at ps) more) numbers new) c.deref.ensures.value c.in-Ok.ensures.numbers in
    let next : HeldGroups = record {
      input = g.input;
      shape = record { keys = g.keys.items; aggs = map reducer_in final };
      output = c.take_keys.new.keys.schema ++ g.reduced;
      took = c.args.took;
      keys = new;
      counts = c.count_rows.new.counts.entries;
      kept = map entries_in final;
    } in
    subst (λ (n : ℕ). HasGroupedRows next (rows ++ placed_rows (input_place c.args.number n) more)) has.took
    (held_put (held_in g) next rows place more numbers g.parts.items has all (omega (arith, c.in-Ok.ensures.count, c.in-Ok.ensures.few)) refl refl
    (ap (λ (rs : List Reducer). record { keys = g.keys.items; aggs = rs }) (ap (map reducer_in) parts_are ∙ reducers_updated count place numbers more g.parts.items))
    c.requires.took
    (counted ∙ ap (λ (n : ℕ). with_group_rows ops.Len (with_groups n g.counts.entries) (group_rows place numbers (map (value_in None) more))) c.in-Ok.ensures.count)
    c.in-Ok-count_rows.ensures.room
    (ap (map entries_in) parts_are ∙ ap (λ (n : ℕ). map entries_in (map (updated_part n place numbers more) g.parts.items)) c.in-Ok.ensures.count))
