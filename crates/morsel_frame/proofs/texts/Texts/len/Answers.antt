use Rattle.std.proofs.Common.{arith, ap, length}
use Rattle.std.specs.String.{string_bytes}
use Rattle.morsel_frame.proofs.PieceLemmas.{length-pieces}
use Rattle.morsel_frame.proofs.texts.Texts.len.Goals as goal

pub returns : goal.returns
returns c =
    let lens = length-pieces 0 c.self.inside.ends.items (string_bytes c.self.inside.bytes) in
    let seen = ap length c.self.view_is in omega (arith, lens, seen)
