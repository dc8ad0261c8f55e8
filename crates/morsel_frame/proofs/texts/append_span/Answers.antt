use Rattle.std.proofs.Common.{arith, ap, length, ◌∙◌, get_or, ◌∷◌}
use Rattle.std.specs.Prelude.{slice_range}
use Rattle.std.proofs.lemmas.Str.{IsCharBoundary-start}
use Rattle.morsel_frame.proofs.RangeLemmas.{length-range}
use Rattle.morsel_frame.proofs.PieceLemmas.{between-range, between-at, cut_at_start}
use Rattle.morsel_frame.proofs.texts.append_span.Goals as goal

pub append_ends-requires-clause-behind : goal.append_ends-requires-clause-behind
append_ends-requires-clause-behind c = λ k inside.
    let between = between-range c.args.other_ends.now c.args.others.now c.args.from c.args.to c.requires.in_order c.requires.within c.requires.are_pieces in
    let here = between-at (get_or (0 ∷ c.args.other_ends.now) c.args.from 0) (slice_range c.args.other_ends.now c.args.from c.args.to) (get_or (0 ∷ c.args.other_ends.now) c.args.to 0) c.args.others.now k inside between in
    omega (arith, here.0, c.start-begin.ensures)

pub append_ends-requires-clause-fit : goal.append_ends-requires-clause-fit
append_ends-requires-clause-fit c = λ k inside.
    let between = between-range c.args.other_ends.now c.args.others.now c.args.from c.args.to c.requires.in_order c.requires.within c.requires.are_pieces in
    let here = between-at (get_or (0 ∷ c.args.other_ends.now) c.args.from 0) (slice_range c.args.other_ends.now c.args.from c.args.to) (get_or (0 ∷ c.args.other_ends.now) c.args.to 0) c.args.others.now k inside between in
    let stop = cut_at_start 0 c.args.other_ends.now c.args.others.now c.args.to c.requires.within (IsCharBoundary-start c.args.others.now c.utf8.others) c.requires.are_pieces in
    let len = ap length c.span-piece.ensures ∙ length-range c.args.others.now (get_or (0 ∷ c.args.other_ends.now) c.args.from 0) (get_or (0 ∷ c.args.other_ends.now) c.args.to 0) stop.0 in
    omega (arith, here.0, here.1, len, c.start-begin.ensures, c.len.ensures, c.len.type_inv, c.in_ok-push_str.ensures.len)
