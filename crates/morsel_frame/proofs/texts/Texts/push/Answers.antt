use Rattle.std.proofs.Common.{rules}
use Rattle.morsel_frame.proofs.PieceLemmas.{pieces-push, are_pieces-push}
use Rattle.morsel_frame.proofs.texts.Texts.push.Goals as goal

pub invariant_of-self-2 : goal.invariant_of-self-2
invariant_of-self-2 c =
    rw (c.in_ok-push.ensures.items, c.in_ok-push_str.ensures.bytes, c.in_ok-reserve.ensures.items)
    (are_pieces-push _ _ _ _ _ (search rules) c.utf8.text c.self.invariant)

pub returns-clause-ok : goal.returns-clause-ok
returns-clause-ok c =
    rw (← c.self.view_is, c.in_ok-push.ensures.items, c.in_ok-push_str.ensures.bytes, c.in_ok-reserve.ensures.items)
    (pieces-push _ _ _ _ _ (search rules) c.self.invariant)
