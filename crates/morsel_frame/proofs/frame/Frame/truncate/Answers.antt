use Rattle.std.proofs.Common.{arith, ◌≤◌, ap, length, refl}
use Rattle.std.proofs.lemmas.List.{take_all}
use Rattle.morsel_meaning.specs.Values.{Table}
use Rattle.morsel_frame.proofs.FrameLemmas.{length-framed}
use Rattle.morsel_frame.proofs.BesideLemmas.{framed-front, rows-front}
use Rattle.morsel_frame.proofs.frame.Frame.truncate.Goals as goal

pub returns-then-len-self : goal.returns-then-len-self
returns-then-len-self c =
    let lens = length-framed c.self.inside.schema c.self.inside.height c.self.inside.columns.items c.self.invariant.0 in
    let seen = ap (λ (table : Table). length table.rows) c.self.view_is in
    let all : length c.args.self.now.rows ≤ c.args.len = omega (arith, lens, seen) in
    rw (take_all c.args.len c.args.self.now.rows all) refl

pub invariant_of-self : goal.invariant_of-self
invariant_of-self c =
    rw c.truncate_each.ensures
    (framed-front c.self.inside.schema c.self.inside.height c.args.len c.self.inside.columns.items (omega arith) c.self.invariant.0, c.self.invariant.1)

pub returns : goal.returns
returns c =
    rw (← c.self.view_is, c.truncate_each.ensures, rows-front c.self.inside.height c.args.len c.self.inside.columns.items (omega arith)) refl
