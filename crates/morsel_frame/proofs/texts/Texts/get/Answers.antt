use Rattle.std.proofs.Common.{arith, sym, ap, length, ◌<◌, add-one}
use Rattle.std.specs.String.{string_bytes}
use Rattle.morsel_frame.proofs.PieceLemmas.{length-pieces, get_or-pieces}
use Rattle.morsel_frame.proofs.texts.Texts.get.Goals as goal

pub overflow_add-at : goal.overflow_add-at
overflow_add-at c =
    let lens = length-pieces 0 c.self.inside.ends.items (string_bytes c.self.inside.bytes) in
    let seen = ap length c.self.view_is in
    omega (arith, lens, seen, c.as_slice.ensures.len, c.as_slice.type_inv.0)

pub span-requires-clause-within : goal.span-requires-clause-within
span-requires-clause-within c =
    let lens = length-pieces 0 c.self.inside.ends.items (string_bytes c.self.inside.bytes) in
    let seen = ap length c.self.view_is in
    rw c.as_slice.ensures.value (omega (arith, lens, seen))

pub returns : goal.returns
returns c =
    let lens = length-pieces 0 c.self.inside.ends.items (string_bytes c.self.inside.bytes) in
    let seen = ap length c.self.view_is in
    let within : c.args.at < length c.self.inside.ends.items = omega (arith, lens, seen) in
    rw (← c.self.view_is, c.span.ensures, c.as_str.ensures.value, c.as_slice.ensures.value, add-one)
    (sym (get_or-pieces 0 c.self.inside.ends.items (string_bytes c.self.inside.bytes) c.args.at within))
