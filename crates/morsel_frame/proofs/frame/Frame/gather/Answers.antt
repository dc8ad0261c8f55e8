use Rattle.std.proofs.Common.{arith, ◌<◌, ap, length, refl}
use Rattle.std.specs.List.{All}
use Rattle.morsel_meaning.specs.Values.{Table}
use Rattle.morsel_frame.proofs.FrameLemmas.{length-framed}
use Rattle.morsel_frame.proofs.BesideLemmas.{framed-picks, rows-framed_picks}
use Rattle.morsel_frame.proofs.frame.Frame.gather.Goals as goal

pub framed-requires : goal.framed-requires
framed-requires c =
    let lens = length-framed c.self.inside.schema c.self.inside.height c.self.inside.columns.items c.self.invariant.0 in
    let seen = ap (λ (table : Table). length table.rows) c.self.view_is in
    let within : All (λ at. at < c.self.inside.height) c.args.rows.now = λ k d inside. omega (arith, c.requires k d inside, lens, seen) in
    rw (c.in_ok-schema.ensures.same, c.in_ok-columns.ensures.ok, c.as_slice.ensures.value)
    (framed-picks c.self.inside.schema c.self.inside.height c.self.inside.columns.items c.args.rows.now within c.self.invariant.0)

pub returns-clause-ok : goal.returns-clause-ok
returns-clause-ok c =
    let lens = length-framed c.self.inside.schema c.self.inside.height c.self.inside.columns.items c.self.invariant.0 in
    let seen = ap (λ (table : Table). length table.rows) c.self.view_is in
    let within : All (λ at. at < c.self.inside.height) c.args.rows.now = λ k d inside. omega (arith, c.requires k d inside, lens, seen) in
    rw (
      ← c.self.view_is,
      c.framed.ensures,
      c.in_ok-schema.ensures.same,
      c.in_ok-columns.ensures.ok,
      c.as_slice.ensures.value,
      rows-framed_picks c.self.inside.schema c.self.inside.height c.self.inside.columns.items c.args.rows.now within c.self.invariant.0,
    ) refl
