use Rattle.std.proofs.Common.{◌++◌, List, [], subst}
use Rattle.std.specs.Prelude.{ℕ, Bool}
use Rattle.morsel_join.specs.Items.{left_items, right_items, wants_right}
use Rattle.morsel_join.specs.Probes.{PutsItems}
use Rattle.morsel_join.specs.Rows.{rows_match}
use Rattle.morsel_join.proofs.frames.rows_by_right.Goals as goal
use Rattle.morsel_join.proofs.OrderLemmas.{items-exchanged}

pub returns-clause-ok : goal.returns-clause-ok
returns-clause-ok c =
    let rules = c.args.rules.now in
    let xs = c.args.right.now.rows in
    let ys = c.args.left.now.rows in
    let one = c.in_ok-rights.rights.items in
    let two = c.in_ok-rights.lefts.items in
    let p0 = c.in_ok-rights.ensures.ok in
    let p1 = subst (λ (f : List ℕ). PutsItems (left_items (rows_match rules.join_nulls f c.deref-2.result.now) c.wants_right-lone_right.result 0 xs ys ++ right_items (rows_match rules.join_nulls f c.deref-2.result.now) c.wants_left-lone_left.result xs ys) [] [] one two) c.deref.ensures.value p0 in
    let p2 = subst (λ (g : List ℕ). PutsItems (left_items (rows_match rules.join_nulls rules.right_keys.items g) c.wants_right-lone_right.result 0 xs ys ++ right_items (rows_match rules.join_nulls rules.right_keys.items g) c.wants_left-lone_left.result xs ys) [] [] one two) c.deref-2.ensures.value p1 in
    let p3 = subst (λ (a : Bool). PutsItems (left_items (rows_match rules.join_nulls rules.right_keys.items rules.left_keys.items) a 0 xs ys ++ right_items (rows_match rules.join_nulls rules.right_keys.items rules.left_keys.items) c.wants_left-lone_left.result xs ys) [] [] one two) c.wants_right-lone_right.ensures p2 in
    let p4 = subst (λ (b : Bool). PutsItems (left_items (rows_match rules.join_nulls rules.right_keys.items rules.left_keys.items) (wants_right rules.how) 0 xs ys ++ right_items (rows_match rules.join_nulls rules.right_keys.items rules.left_keys.items) b xs ys) [] [] one two) c.wants_left-lone_left.ensures p3 in
    items-exchanged rules c.args.left.now.rows c.args.right.now.rows c.in_ok-rights.lefts.items c.in_ok-rights.rights.items c.requires.keeps p4
