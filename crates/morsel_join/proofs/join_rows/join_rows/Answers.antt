use Rattle.std.proofs.Common.{◌≡◌, ◌∙◌, List, [], subst, sym, length}
use Rattle.std.specs.Prelude.{ℕ}
use Rattle.std.proofs.lemmas.List.{length-map}
use Rattle.morsel_frame.specs.Tables.{cells_at}
use Rattle.morsel_join.specs.Items.{JoinItem, left_items, right_items}
use Rattle.morsel_join.specs.Chains.{AreRowChains, same_number}
use Rattle.morsel_join.specs.Probes.{PutsItems}
use Rattle.morsel_join.specs.Rows.{rows_match}
use Rattle.morsel_join.proofs.ProbeLemmas.{puts-more}
use Rattle.morsel_join.proofs.join_rows.join_rows.Goals as goal
use Rattle.morsel_join.proofs.AgreeLemmas.{left-agree, right-agree, keyed-agree}

pub returns-clause-ok : goal.returns-clause-ok
returns-clause-ok c =
    let keyed = c.in_ok-keyed.keyed in
    let h = c.in_ok-keyed.ensures.ok in
    let kept = keyed.numbers.items in
    let numbers = c.in_ok-numbers.numbers.items in
    let looked = c.in_ok-numbers.ensures.ok in
    let same = rows_match c.args.nulls c.args.asked_keys.now c.args.kept_keys.now in
    let asked_len : length numbers ≡ length c.args.asked.now.rows = looked.len ∙ length-map c.args.asked.now.rows (cells_at c.args.asked_keys.now) in
    let agree = keyed-agree c.args.nulls c.args.asked.now.rows c.args.kept.now.rows c.args.asked_keys.now c.args.kept_keys.now numbers kept keyed.keys.keys h.once h.few looked h.each in
    let chained : AreRowChains kept c.deref.result.now c.deref-2.result.now 0 =
    subst (λ (f : List ℕ). AreRowChains kept f c.deref-2.result.now 0) (sym c.deref.ensures.value) (subst (λ (x : List ℕ). AreRowChains kept keyed.first.items x 0) (sym c.deref-2.ensures.value) h.linked.chained) in
    let p0 = c.in_ok-probe.ensures.ok kept chained in
    let p1 = subst (λ (xs : List ℕ). PutsItems (left_items (same_number (length xs)) c.args.lone_asked 0 c.deref-3.result.now kept) c.new-lefts.result.items c.new-rights.result.items c.probe.new.lefts.items c.probe.new.rights.items) c.deref.ensures.value p0 in
    let p2 = subst (λ (n : ℕ). PutsItems (left_items (same_number n) c.args.lone_asked 0 c.deref-3.result.now kept) c.new-lefts.result.items c.new-rights.result.items c.probe.new.lefts.items c.probe.new.rights.items) h.linked.width p1 in
    let p3 = subst (λ (xs : List ℕ). PutsItems (left_items (same_number (length keyed.keys.keys)) c.args.lone_asked 0 xs kept) c.new-lefts.result.items c.new-rights.result.items c.probe.new.lefts.items c.probe.new.rights.items) c.deref-3.ensures.value p2 in
    let p4 = subst (λ (xs : List ℕ). PutsItems (left_items (same_number (length keyed.keys.keys)) c.args.lone_asked 0 numbers kept) xs c.new-rights.result.items c.probe.new.lefts.items c.probe.new.rights.items) c.new-lefts.ensures.items p3 in
    let p5 = subst (λ (xs : List ℕ). PutsItems (left_items (same_number (length keyed.keys.keys)) c.args.lone_asked 0 numbers kept) [] xs c.probe.new.lefts.items c.probe.new.rights.items) c.new-rights.ensures.items p4 in
    let p = subst (λ (items : List JoinItem). PutsItems items [] [] c.probe.new.lefts.items c.probe.new.rights.items) (sym (left-agree same (same_number (length keyed.keys.keys)) c.args.lone_asked 0 c.args.asked.now.rows c.args.kept.now.rows numbers kept asked_len h.len agree)) p5 in
    let q0 = c.in_ok-put_unpaired.ensures.ok in
    let q1 = subst (λ (n : ℕ). PutsItems (right_items (same_number n) c.args.lone_kept c.deref-4.result.now c.deref-5.result.now) c.probe.new.lefts.items c.probe.new.rights.items c.put_unpaired.new.lefts.items c.put_unpaired.new.rights.items) c.len.ensures.len q0 in
    let q2 = subst (λ (xs : List ℕ). PutsItems (right_items (same_number (length keyed.keys.keys)) c.args.lone_kept xs c.deref-5.result.now) c.probe.new.lefts.items c.probe.new.rights.items c.put_unpaired.new.lefts.items c.put_unpaired.new.rights.items) c.deref-4.ensures.value q1 in
    let q3 = subst (λ (xs : List ℕ). PutsItems (right_items (same_number (length keyed.keys.keys)) c.args.lone_kept numbers xs) c.probe.new.lefts.items c.probe.new.rights.items c.put_unpaired.new.lefts.items c.put_unpaired.new.rights.items) c.deref-5.ensures.value q2 in
    let q = subst (λ (items : List JoinItem). PutsItems items c.probe.new.lefts.items c.probe.new.rights.items c.put_unpaired.new.lefts.items c.put_unpaired.new.rights.items) (sym (right-agree same (same_number (length keyed.keys.keys)) c.args.lone_kept c.args.asked.now.rows c.args.kept.now.rows numbers kept asked_len h.len agree)) q3 in
    puts-more (left_items same c.args.lone_asked 0 c.args.asked.now.rows c.args.kept.now.rows) (right_items same c.args.lone_kept c.args.asked.now.rows c.args.kept.now.rows) [] [] c.probe.new.lefts.items c.probe.new.rights.items c.put_unpaired.new.lefts.items c.put_unpaired.new.rights.items p q
