use Rattle.std.proofs.Common.{◌≡◌, ◌<◌, ◌≤◌, ◌++◌, take, drop, ℕ, List, length, map, get_or, refl, arith, ap, ◌∙◌, sym, subst}
use Rattle.std.specs.Prelude.{Option}
use Rattle.morsel_meaning.specs.Values.{Row, Table}
use Rattle.morsel_keys.specs.declared.reduction.Reduction.TheVariants as ops
use Rattle.morsel_keys.specs.Reductions.{Entry}
use Rattle.morsel_keys.specs.Slots.{NumbersAll}
use Rattle.morsel_states.specs.GroupParts.{with_group_parts}
use Rattle.morsel_states.specs.States.{GroupStates, with_groups}
use Rattle.morsel_states.proofs.PartLemmas.{length-with_group_parts}
use Rattle.morsel_states.proofs.RowLemmas.{all_written}
use Rattle.morsel_group.specs.declared.part.AggStates.{AggStates}
use Rattle.morsel_group.specs.Arrivals.{keyed_in, RefusesKeys, RefusesLens}
use Rattle.morsel_group.specs.Asked.{Reducer, GroupShape}
use Rattle.morsel_group.specs.Parts.{AreSameReduction, IsPart, joined_parts}
use Rattle.morsel_group.specs.Locals.{HeldGroups, held_in, reducer_in}
use Rattle.morsel_group.proofs.CountLemmas.{grown_len}
use Rattle.morsel_group.proofs.HeldLemmas.{entries_in, reducers_joined}
use Rattle.morsel_group.proofs.OthersLemmas.{places_within, columns_len, key_columns, key_kinds, key_rows_are, parts_few, parts_len, parts_joined, kinds_joined, same_reductions, same_count, theirs, held_joined, others_refused, counts_refused}
use Rattle.morsel_group.proofs.groups.join_numbered.Goals as goal

pub take_keys-requires-clause-within : goal.take_keys-requires-clause-within
take_keys-requires-clause-within c =
    places_within (length c.args.groups.now.keys.items) (length c.args.other.now.key_rows.schema) c.args.places.now c.requires.places (columns_len c.args.groups.now c.args.other.now c.requires.groups c.requires.other c.requires.alike)

pub take_keys-requires-clause-kinds : goal.take_keys-requires-clause-kinds
take_keys-requires-clause-kinds c = key_kinds c.args.groups.now c.args.other.now c.args.places.now c.requires.groups c.requires.other c.requires.alike c.requires.places

pub take_keys-requires-clause-fields : goal.take_keys-requires-clause-fields
take_keys-requires-clause-fields c = key_columns c.args.groups.now c.args.other.now c.args.places.now c.requires.groups c.requires.other c.requires.alike c.requires.places

pub count_others-requires-clause-other_op : goal.count_others-requires-clause-other_op
count_others-requires-clause-other_op c = ap (λ (s : GroupStates). s.op) c.replace-counts.ensures.value ∙ c.requires.other.counts_op

pub count_others-requires-clause-kind : goal.count_others-requires-clause-kind
count_others-requires-clause-kind c = ap (λ (s : GroupStates). s.kind) c.replace-counts.ensures.value ∙ c.requires.other.counts_kind ∙ sym c.requires.groups.counts_kind

pub count_others-requires-clause-len : goal.count_others-requires-clause-len
count_others-requires-clause-len c =
    let same = ap (λ (s : GroupStates). length s.entries) c.replace-counts.ensures.value in
    let rows = ap length c.requires.other.key_values in
    omega (arith, c.take_keys.auto.numbers, c.requires.len, same, c.requires.other.counts_len, rows)

pub merge_parts-requires-clause-len : goal.merge_parts-requires-clause-len
merge_parts-requires-clause-len c =
    let asked = ap (λ (s : GroupShape). s.aggs) c.requires.alike.1 in
    let count = same_count c.args.groups.now.parts.items c.args.other.now.parts.items asked in
    let given = ap (λ v. length v.items) c.replace-parts.ensures.value in
    omega (arith, given, count, ap length c.deref_mut.ensures.value)

pub merge_parts-requires-clause-same : goal.merge_parts-requires-clause-same
merge_parts-requires-clause-same c =
    let g = c.args.groups.now in
    let o = c.args.other.now in
    let asked = ap (λ (s : GroupShape). s.aggs) c.requires.alike.1 in
    let theirs_are : (k : ℕ) (d : AggStates) → k < length o.parts.items → IsPart g.input (length (keyed_in o.table).keys) (get_or o.parts.items k d) =
    subst (λ fs. (k : ℕ) (d : AggStates) → k < length o.parts.items → IsPart fs (length (keyed_in o.table).keys) (get_or o.parts.items k d)) c.requires.alike.0 c.requires.other.each_part in
    let held = same_reductions g.input (length (keyed_in g.table).keys) (length (keyed_in o.table).keys) g.parts.items o.parts.items asked c.requires.groups.each_part theirs_are in
    subst (λ (ps : List AggStates). (k : ℕ) (p q : AggStates) → k < length ps → AreSameReduction (get_or ps k p) (get_or c.replace-parts.result.items k q)) (sym c.deref_mut.ensures.value)
    (subst (λ (os : List AggStates). (k : ℕ) (p q : AggStates) → k < length g.parts.items → AreSameReduction (get_or g.parts.items k p) (get_or os k q)) (sym (ap (λ v. v.items) c.replace-parts.ensures.value)) held)

pub merge_parts-requires-clause-few : goal.merge_parts-requires-clause-few
merge_parts-requires-clause-few c =
    let g = c.args.groups.now in
    subst (λ (ps : List AggStates). (k : ℕ) (d : AggStates) → k < length ps → length (get_or ps k d).states.entries ≤ c.in-Ok.count) (sym c.deref_mut.ensures.value)
    (parts_few g.input (length (keyed_in g.table).keys) c.in-Ok.count g.parts.items c.in-Ok.ensures.longer c.requires.groups.each_part)

pub merge_parts-requires-clause-numbers : goal.merge_parts-requires-clause-numbers
merge_parts-requires-clause-numbers c =
    let o = c.args.other.now in
    let rows = ap length c.requires.other.key_values in
    let count : length c.take_keys.new.numbers ≡ length (keyed_in o.table).keys = omega (arith, c.take_keys.auto.numbers, c.requires.len, rows) in
    subst (λ (os : List AggStates). (k : ℕ) (d : AggStates) → k < length os → length c.take_keys.new.numbers ≡ length (get_or os k d).states.entries) (sym (ap (λ v. v.items) c.replace-parts.ensures.value))
    (parts_len o.input (length (keyed_in o.table).keys) (length c.take_keys.new.numbers) o.parts.items count c.requires.other.each_part)

pub returns-in-Err-clause-refused : goal.returns-in-Err-clause-refused
returns-in-Err-clause-refused c rows more has has_more =
    let g = c.args.groups.now in
    let o = c.args.other.now in
    others_refused (held_in g) (held_in o) rows more c.in-Err.fault has (theirs (held_in g) (held_in o) more has_more c.requires.alike.1)
    (subst (λ (ks : List Row). RefusesKeys (keyed_in g.table).keys ks c.in-Err.fault) (key_rows_are g o c.args.places.now more c.requires.other c.requires.alike c.requires.places has_more) c.in-Err.ensures.refused)

pub returns-in-Err-count_others-clause-refused : goal.returns-in-Err-count_others-clause-refused
returns-in-Err-count_others-clause-refused c rows more has has_more =
    let g = c.args.groups.now in
    let o = c.args.other.now in
    let numbers = c.take_keys.new.numbers in
    let new = (keyed_in c.take_keys.new.table).keys in
    let all = subst (λ (ks : List Row). NumbersAll (keyed_in g.table).keys ks numbers new) (key_rows_are g o c.args.places.now more c.requires.other c.requires.alike c.requires.places has_more) c.in-Ok.ensures.numbers in
    counts_refused (held_in g) (held_in o) rows more numbers new c.in-Ok.count c.in-Err-count_others.fault has (theirs (held_in g) (held_in o) more has_more c.requires.alike.1) all c.in-Ok.ensures.count
    (subst (λ (es : List (Option Entry)). RefusesLens (with_group_parts ops.Len (with_groups c.in-Ok.count g.counts.entries) numbers es) c.in-Err-count_others.fault) (ap (λ (s : GroupStates). s.entries) c.replace-counts.ensures.value) c.in-Err-count_others.ensures.refused)

pub returns-clause-groups : goal.returns-clause-groups
returns-clause-groups c =
    let g = c.args.groups.now in
    let o = c.args.other.now in
    let old = c.requires.groups in
    let numbers = c.take_keys.new.numbers in
    let count = c.in-Ok.count in
    let final = take g.parts.len (c.merge_parts.new.parts ++ drop (length c.merge_parts.new.parts) g.parts.items) in
    let given = ap (λ v. v.items) c.replace-parts.ensures.value in
    let parts_are : final ≡ joined_parts count numbers g.parts.items o.parts.items =
    all_written g.parts.len c.merge_parts.new.parts g.parts.items (omega (arith, g.parts.ok.0, c.merge_parts.auto.parts, ap length c.deref_mut.ensures.value)) ∙ c.in-Ok-merge_parts.ensures.ok
    ∙ ap (λ (ps : List AggStates). joined_parts count numbers ps c.replace-parts.result.items) c.deref_mut.ensures.value ∙ ap (joined_parts count numbers g.parts.items) given in
    let few : length g.counts.entries ≤ count = omega (arith, old.counts_len, c.in-Ok.ensures.longer) in
    let asked = ap (λ (s : GroupShape). s.aggs) c.requires.alike.1 in
    record {
      within = old.within;
      kinds = c.in-Ok.ensures.kinds ∙ old.kinds;
      key_fields = ap (λ (t : Table). t.schema) c.in-Ok.ensures.rows ∙ old.key_fields;
      key_values = ap (λ (t : Table). t.rows) c.in-Ok.ensures.rows;
      counts_op = c.in-Ok-count_others.ensures.op ∙ old.counts_op;
      counts_kind = c.in-Ok-count_others.ensures.kind ∙ old.counts_kind;
      counts_len = ap length c.in-Ok-count_others.ensures.rows ∙ length-with_group_parts ops.Len (with_groups count g.counts.entries) numbers c.replace-counts.result.entries ∙ grown_len count g.counts.entries few ∙ c.in-Ok.ensures.count;
      each_part = subst (λ (n : ℕ). (k : ℕ) (d : AggStates) → k < length final → IsPart g.input n (get_or final k d)) c.in-Ok.ensures.count
          (subst (λ (ps : List AggStates). (k : ℕ) (d : AggStates) → k < length ps → IsPart g.input count (get_or ps k d)) (sym parts_are)
          (parts_joined g.input (length (keyed_in g.table).keys) count numbers g.parts.items o.parts.items c.in-Ok.ensures.longer (same_count g.parts.items o.parts.items asked) old.each_part));
      reduced_kinds = old.reduced_kinds ∙ sym (ap (map (λ (part : AggStates). part.kind)) parts_are ∙ kinds_joined count numbers g.parts.items o.parts.items);
    }

pub returns-clause-same : goal.returns-clause-same
returns-clause-same c =
    let g = c.args.groups.now in
    let o = c.args.other.now in
    let numbers = c.take_keys.new.numbers in
    let count = c.in-Ok.count in
    let final = take g.parts.len (c.merge_parts.new.parts ++ drop (length c.merge_parts.new.parts) g.parts.items) in
    let given = ap (λ v. v.items) c.replace-parts.ensures.value in
    let parts_are : final ≡ joined_parts count numbers g.parts.items o.parts.items =
    all_written g.parts.len c.merge_parts.new.parts g.parts.items (omega (arith, g.parts.ok.0, c.merge_parts.auto.parts, ap length c.deref_mut.ensures.value)) ∙ c.in-Ok-merge_parts.ensures.ok
    ∙ ap (λ (ps : List AggStates). joined_parts count numbers ps c.replace-parts.result.items) c.deref_mut.ensures.value ∙ ap (joined_parts count numbers g.parts.items) given in (
      refl,
      ap (λ (rs : List Reducer). record { keys = g.keys.items; aggs = rs }) (ap (map reducer_in) parts_are ∙ reducers_joined count numbers g.parts.items o.parts.items),
      ap (λ (t : Table). t.schema ++ g.reduced) c.in-Ok.ensures.rows,
    )

pub returns-clause-rows : goal.returns-clause-rows
returns-clause-rows c rows more has has_more =
    let g = c.args.groups.now in
    let o = c.args.other.now in
    let numbers = c.take_keys.new.numbers in
    let new = (keyed_in c.take_keys.new.table).keys in
    let count = c.in-Ok.count in
    let final = take g.parts.len (c.merge_parts.new.parts ++ drop (length c.merge_parts.new.parts) g.parts.items) in
    let given = ap (λ v. v.items) c.replace-parts.ensures.value in
    let parts_are : final ≡ joined_parts count numbers g.parts.items o.parts.items =
    all_written g.parts.len c.merge_parts.new.parts g.parts.items (omega (arith, g.parts.ok.0, c.merge_parts.auto.parts, ap length c.deref_mut.ensures.value)) ∙ c.in-Ok-merge_parts.ensures.ok
    ∙ ap (λ (ps : List AggStates). joined_parts count numbers ps c.replace-parts.result.items) c.deref_mut.ensures.value ∙ ap (joined_parts count numbers g.parts.items) given in
    let all = subst (λ (ks : List Row). NumbersAll (keyed_in g.table).keys ks numbers new) (key_rows_are g o c.args.places.now more c.requires.other c.requires.alike c.requires.places has_more) c.in-Ok.ensures.numbers in
    let next : HeldGroups = record {
      input = g.input;
      shape = record { keys = g.keys.items; aggs = map reducer_in final };
      output = c.take_keys.new.keys.schema ++ g.reduced;
      took = c.args.took;
      keys = new;
      counts = c.count_others.new.counts.entries;
      kept = map entries_in final;
    } in
    held_joined (held_in g) next (held_in o) rows more numbers g.parts.items o.parts.items has (theirs (held_in g) (held_in o) more has_more c.requires.alike.1) c.requires.alike.1 all (omega (arith, c.in-Ok.ensures.count, c.in-Ok.ensures.few)) refl refl refl refl
    (ap (λ (rs : List Reducer). record { keys = g.keys.items; aggs = rs }) (ap (map reducer_in) parts_are ∙ reducers_joined count numbers g.parts.items o.parts.items))
    c.requires.took
    (c.in-Ok-count_others.ensures.rows
    ∙ ap (λ (n : ℕ). with_group_parts ops.Len (with_groups n g.counts.entries) numbers c.replace-counts.result.entries) c.in-Ok.ensures.count
    ∙ ap (with_group_parts ops.Len (with_groups (length new) g.counts.entries) numbers) (ap (λ (s : GroupStates). s.entries) c.replace-counts.ensures.value))
    c.in-Ok-count_others.ensures.room
    (ap (map entries_in) parts_are ∙ ap (λ (n : ℕ). map entries_in (joined_parts n numbers g.parts.items o.parts.items)) c.in-Ok.ensures.count)
