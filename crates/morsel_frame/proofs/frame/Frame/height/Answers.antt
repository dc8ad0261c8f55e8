use Rattle.std.proofs.Common.{sym}
use Rattle.morsel_frame.proofs.FrameLemmas.{length-framed, framed_rows_fit}
use Rattle.morsel_frame.proofs.frame.Frame.height.Goals as goal

pub returns-clause-len : goal.returns-clause-len
returns-clause-len c =
    rw (← c.self.view_is) (sym (length-framed c.self.inside.schema c.self.inside.height c.self.inside.columns.items c.self.invariant.0))

pub returns-clause-fits : goal.returns-clause-fits
returns-clause-fits c =
    rw (← c.self.view_is) (framed_rows_fit c.self.inside.schema c.self.inside.height c.self.inside.columns.items c.self.invariant.0)
