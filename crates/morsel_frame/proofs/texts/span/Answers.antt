use Rattle.std.proofs.Common.{rules}
use Rattle.std.proofs.lemmas.Str.{IsCharBoundary-start}
use Rattle.morsel_frame.proofs.PieceLemmas.{start_rises, cut_at_start}
use Rattle.morsel_frame.proofs.texts.span.Goals as goal

pub range-requires-clause-start_le_end : goal.range-requires-clause-start_le_end
range-requires-clause-start_le_end c =
    rw (c.start-begin.ensures, c.start-end.ensures)
    (start_rises 0 c.args.ends.now c.args.bytes.now c.args.from c.args.to c.requires.in_order c.requires.within c.requires.are_pieces)

pub range-requires-clause-start_boundary : goal.range-requires-clause-start_boundary
range-requires-clause-start_boundary c =
    rw c.start-begin.ensures (λ _. cut_at_start 0 c.args.ends.now c.args.bytes.now c.args.from (search rules) (IsCharBoundary-start c.args.bytes.now c.utf8.bytes) c.requires.are_pieces)

pub range-requires-clause-end_boundary : goal.range-requires-clause-end_boundary
range-requires-clause-end_boundary c =
    rw c.start-end.ensures (cut_at_start 0 c.args.ends.now c.args.bytes.now c.args.to c.requires.within (IsCharBoundary-start c.args.bytes.now c.utf8.bytes) c.requires.are_pieces)
