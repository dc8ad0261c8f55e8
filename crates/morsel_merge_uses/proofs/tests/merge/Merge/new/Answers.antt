use Rattle.std.proofs.Common.{ap, sym, ◌∙◌}
use Rattle.morsel_merge_uses.proofs.tests.merge.Merge.new.Goals as goal

pub invariant_of-result : goal.invariant_of-result
invariant_of-result g c =
    let same = ap (λ id. id.lane_table) (sym c.in_ok-linearizer.ensures.same_board) in
    record {
      home = ap (λ id. id.lane_table) c.in_ok-linearizer.ensures.home ∙ same;
      homes = λ k d within. (c.in_ok-linearizer.ensures.inserters k d within).0 ∙ same;
    }
