use Rattle.std.proofs.Common.{arith, ap, get_or, map, set, sym, subst, ◌≡◌, ◌∙◌, ◌+◌, ◌<◌, Err, refl, length}
use Rattle.std.proofs.lemmas.List.{length-set, length-map, map-set, set-get_or}
use Rattle.std.proofs.lemmas.List.Elements.{All-get_or, All-set}
use Rattle.std.proofs.Math.ListN.{get_or-map}
use Rattle.morsel_meaning.specs.declared.value.Value.TheVariants as values
use Rattle.morsel_frame.specs.Cells.{value_of}
use Rattle.morsel_frame.specs.Refusals.{Refuses}
use Rattle.morsel_keys.specs.Reductions.{Reducing, entry_len, input_place, len_fault}
use Rattle.morsel_states.specs.GroupRows.{group_rows, with_value, StopsRows}
use Rattle.morsel_states.proofs.RowLemmas.{step_done, stops_at, rows_done, acc_step}
use Rattle.morsel_states.proofs.accs.put_each.Goals as goal

pub returns-in-Err-clause-rows : goal.returns-in-Err-clause-rows
returns-in-Err-clause-rows c =
    let group = get_or c.args.groups.now c.loop-i.i 0 in
    let d : Reducing = c.index-accs-groups.result in
    let there : group < length c.args.accs.now = All-get_or (λ g. g < length c.args.accs.now) c.args.groups.now c.loop-i.i 0 (omega arith) c.requires.within in
    let back : map (λ (acc : Reducing). acc.entry) (set c.loop-i.accs group c.update.new.self) ≡ map (λ (acc : Reducing). acc.entry) c.loop-i.accs = ap (λ accs. map (λ (acc : Reducing). acc.entry) accs) (ap (set c.loop-i.accs group) c.in-Err.ensures.err ∙ set-get_or c.loop-i.accs group d) in
    let refused = subst (λ e. Refuses {T = Unit {0}} (len_fault (entry_len e + 1)) (Err c.in-Err.fault)) (sym (get_or-map (λ (acc : Reducing). acc.entry) c.loop-i.accs group d)) c.in-Err.ensures.refused in
    subst (λ es. StopsRows c.args.op (map (λ (acc : Reducing). acc.entry) c.args.accs.now) (group_rows (input_place c.args.place.0 c.args.place.1) c.args.groups.now c.args.column.now.values) c.in-Err.fault es) (sym back)
    (stops_at c.args.op (map (λ (acc : Reducing). acc.entry) c.args.accs.now) (map (λ (acc : Reducing). acc.entry) c.loop-i.accs) (input_place c.args.place.0 c.args.place.1) c.args.groups.now c.args.column.now.values c.loop-i.i group d.entry c.in-Err.fault
    (sym c.requires.len) (omega arith) refl (omega (arith, there, c.loop-i.invariant.len, length-map c.loop-i.accs (λ (acc : Reducing). acc.entry))) refused c.loop-i.invariant.done)

pub loop-i-preserved : goal.loop-i-preserved
loop-i-preserved c =
    let group = get_or c.args.groups.now c.loop-i.i 0 in
    let d : Reducing = c.index-accs-groups.result in
    let held : Reducing = get_or c.loop-i.accs group d in
    let there : group < length c.args.accs.now = All-get_or (λ g. g < length c.args.accs.now) c.args.groups.now c.loop-i.i 0 (omega arith) c.requires.within in
    let is_acc = All-get_or (λ (acc : Reducing). (acc.op ≡ c.args.op) × (acc.kind ≡ c.args.column.now.kind)) c.loop-i.accs group d (omega (arith, there, c.loop-i.invariant.len)) c.loop-i.invariant.accs in
    let place : input_place c.args.place.0 (c.args.place.1 + c.loop-i.i) ≡ input_place c.args.place.0 c.args.place.1 + c.loop-i.i = omega arith in
    let next = acc_step c.args.op held c.update.new.self (input_place c.args.place.0 (c.args.place.1 + c.loop-i.i)) (input_place c.args.place.0 c.args.place.1 + c.loop-i.i) (value_of c.get.result) (get_or c.args.column.now.values c.loop-i.i values.Null) is_acc.0 c.in-Ok.ensures.ok place c.get.ensures.value in
    record {
      len = length-set c.loop-i.accs group c.update.new.self ∙ c.loop-i.invariant.len;
      accs = All-set (λ (acc : Reducing). (acc.op ≡ c.args.op) × (acc.kind ≡ c.args.column.now.kind)) c.loop-i.accs group c.update.new.self (ap (λ acc. acc.op) c.in-Ok.ensures.ok ∙ is_acc.0, ap (λ acc. acc.kind) c.in-Ok.ensures.ok ∙ is_acc.1) c.loop-i.invariant.accs;
      done = map-set (λ (acc : Reducing). acc.entry) c.loop-i.accs group c.update.new.self
          ∙ step_done c.args.op (map (λ (acc : Reducing). acc.entry) c.args.accs.now) (map (λ (acc : Reducing). acc.entry) c.loop-i.accs) (input_place c.args.place.0 c.args.place.1) c.args.groups.now c.args.column.now.values c.loop-i.i group d.entry c.update.new.self.entry
          (sym c.requires.len) (omega arith) refl (omega (arith, there, c.loop-i.invariant.len, length-map c.loop-i.accs (λ (acc : Reducing). acc.entry)))
          (next ∙ ap (λ e. with_value c.args.op e (record { at = input_place c.args.place.0 c.args.place.1 + c.loop-i.i; value = get_or c.args.column.now.values c.loop-i.i values.Null })) (sym (get_or-map (λ (acc : Reducing). acc.entry) c.loop-i.accs group d))) c.loop-i.invariant.done;
    }

pub returns-clause-rows : goal.returns-clause-rows
returns-clause-rows c = rows_done c.args.op (map (λ (acc : Reducing). acc.entry) c.args.accs.now) (map (λ (acc : Reducing). acc.entry) c.loop-i.accs) (input_place c.args.place.0 c.args.place.1) c.args.groups.now c.args.column.now.values c.loop-i.i (sym c.requires.len) (omega arith) c.loop-i.invariant.done
