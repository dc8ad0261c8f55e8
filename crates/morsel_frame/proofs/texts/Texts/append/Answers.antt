use Rattle.std.proofs.Common.{arith, ap, length, refl}
use Rattle.std.specs.String.{string_bytes}
use Rattle.std.proofs.lemmas.Str.{IsUtf8-string_bytes}
use Rattle.morsel_frame.proofs.PieceLemmas.{length-pieces, append-range, append-range_are}
use Rattle.morsel_frame.proofs.texts.Texts.append.Goals as goal

pub append_span-requires-clause-within : goal.append_span-requires-clause-within
append_span-requires-clause-within c =
    let lens = length-pieces 0 c.other.inside.ends.items (string_bytes c.other.inside.bytes) in
    let seen = ap length c.other.view_is in
    rw c.as_slice.ensures.value (omega (arith, lens, seen, c.requires.within))

pub invariant_of-self-2 : goal.invariant_of-self-2
invariant_of-self-2 c =
    rw (c.in_ok-append_span.ensures.ends, c.in_ok-append_span.ensures.bytes, c.as_slice.ensures.value, c.as_str.ensures.value)
    (append-range_are c.self.inside.ends.items (string_bytes c.self.inside.bytes) c.other.inside.ends.items (string_bytes c.other.inside.bytes) c.args.from c.args.to (length (string_bytes c.self.inside.bytes)) refl c.requires.in_order (omega (arith, length-pieces 0 c.other.inside.ends.items (string_bytes c.other.inside.bytes), ap length c.other.view_is, c.requires.within)) (IsUtf8-string_bytes c.other.inside.bytes) c.self.invariant c.other.invariant)

pub returns-clause-ok : goal.returns-clause-ok
returns-clause-ok c =
    rw (← c.self.view_is, ← c.other.view_is, c.in_ok-append_span.ensures.ends, c.in_ok-append_span.ensures.bytes, c.as_slice.ensures.value, c.as_str.ensures.value)
    (append-range c.self.inside.ends.items (string_bytes c.self.inside.bytes) c.other.inside.ends.items (string_bytes c.other.inside.bytes) c.args.from c.args.to (length (string_bytes c.self.inside.bytes)) refl c.requires.in_order (omega (arith, length-pieces 0 c.other.inside.ends.items (string_bytes c.other.inside.bytes), ap length c.other.view_is, c.requires.within)) (IsUtf8-string_bytes c.other.inside.bytes) c.self.invariant c.other.invariant)
