use Rattle.morsel_frame.proofs.PieceLemmas.{blank-pieces, blank-are_pieces}
use Rattle.morsel_frame.proofs.texts.Texts.blank.Goals as goal

pub invariant_of-result : goal.invariant_of-result
invariant_of-result c =
    rw (c.in_ok-vec.ensures.items_if_clones_equal (λ _ same. same), c.new.ensures.bytes) (blank-are_pieces c.args.len)

pub returns-clause-ok : goal.returns-clause-ok
returns-clause-ok c =
    rw (c.in_ok-vec.ensures.items_if_clones_equal (λ _ same. same), c.new.ensures.bytes) (blank-pieces c.args.len)
