use Rattle.std.proofs.Common.{◌≤◌, ◌∙◌, List, map, length, ap, sym, arith}
use Rattle.std.specs.Prelude.{ℕ}
use Rattle.std.proofs.lemmas.List.{length-map}
use Rattle.morsel_meaning.specs.Values.{Table}
use Rattle.morsel_frame.specs.Columns.{no_row}
use Rattle.morsel_frame.specs.Frames.{rows_of}
use Rattle.morsel_join.specs.Chains.{left_mark, right_mark}
use Rattle.morsel_join.specs.Rows.{marked_column}
use Rattle.morsel_join.proofs.frames.gather_found.Goals as goal
use Rattle.morsel_join.proofs.RowLemmas.{rows-gathered}

pub gather_rows-requires-clause-len : goal.gather_rows-requires-clause-len
gather_rows-requires-clause-len c =
    let h = c.requires.items in
    ap (λ (ns : List ℕ). length ns) h.right_side ∙ length-map h.items right_mark ∙ sym (length-map h.items left_mark) ∙ ap (λ (ns : List ℕ). length ns) (sym h.left_side)

pub returns-clause-ok : goal.returns-clause-ok
returns-clause-ok c =
    let h = c.requires.items in
    let l = c.args.left.now in
    let r = c.args.right.now in
    let cs = c.args.rules.now.columns.items in
    let few : length l.rows ≤ no_row = omega (arith, c.requires.left_short) in
    let fewer : length r.rows ≤ no_row = omega (arith, c.requires.right_short) in
    record {
      schema = ap (λ (t : Table). t.schema) c.in_ok-out.ensures.ok;
      items = h.items;
      once = h.once;
      promised = h.promised;
      rows = ap (λ (t : Table). t.rows) c.in_ok-out.ensures.ok
          ∙ ap (λ (ls : List ℕ). rows_of (length ls) (map (marked_column l r ls c.args.rights.now) cs)) h.left_side
          ∙ ap (λ (rs : List ℕ). rows_of (length (map left_mark h.items)) (map (marked_column l r (map left_mark h.items) rs) cs)) h.right_side
          ∙ ap (λ (n : ℕ). rows_of n (map (marked_column l r (map left_mark h.items) (map right_mark h.items)) cs)) (length-map h.items left_mark)
          ∙ rows-gathered l r h.items cs few fewer;
    }
