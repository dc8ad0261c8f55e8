use Rattle.std.proofs.Common.{rules, arith, sym, ap, length}
use Rattle.std.specs.String.{string_bytes}
use Rattle.std.proofs.lemmas.List.{take_all}
use Rattle.std.proofs.lemmas.Str.{IsCharBoundary-start, IsUtf8-string_bytes}
use Rattle.morsel_frame.proofs.PieceLemmas.{length-pieces, cut_at_start, take-pieces, take-are_pieces}
use Rattle.morsel_frame.proofs.texts.Texts.truncate.Goals as goal

pub returns-then-len : goal.returns-then-len
returns-then-len c =
    let lens = length-pieces 0 c.self.inside.ends.items (string_bytes c.self.inside.bytes) in
    let seen = ap length c.self.view_is in
    sym (take_all c.args.len c.args.self.now (omega (arith, lens, seen)))

pub truncate-requires : goal.truncate-requires
truncate-requires c = λ _.
    rw (c.start-end.ensures, c.as_slice.ensures.value)
    (let cut = cut_at_start 0 c.self.inside.ends.items (string_bytes c.self.inside.bytes) c.args.len (search rules) (IsCharBoundary-start (string_bytes c.self.inside.bytes) (IsUtf8-string_bytes c.self.inside.bytes)) c.self.invariant in
    (cut.0, λ _. cut.1))

pub invariant_of-self : goal.invariant_of-self
invariant_of-self c =
    rw (c.truncate.ensures.bytes, c.truncate-2.ensures.items, c.start-end.ensures, c.as_slice.ensures.value)
    (take-are_pieces 0 c.self.inside.ends.items (string_bytes c.self.inside.bytes) c.args.len (search rules) (IsCharBoundary-start (string_bytes c.self.inside.bytes) (IsUtf8-string_bytes c.self.inside.bytes)) c.self.invariant)

pub returns : goal.returns
returns c =
    rw (← c.self.view_is, c.truncate.ensures.bytes, c.truncate-2.ensures.items, c.start-end.ensures, c.as_slice.ensures.value)
    (take-pieces 0 c.self.inside.ends.items (string_bytes c.self.inside.bytes) c.args.len (search rules) c.self.invariant)
