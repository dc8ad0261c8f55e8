use Rattle.std.proofs.Common.{sym}
use Rattle.morsel_frame.proofs.FrameLemmas.{length-framed}
use Rattle.morsel_frame.proofs.frame.Frame.into_parts.Goals as goal

pub returns-clause-height : goal.returns-clause-height
returns-clause-height c =
    rw (← c.self.view_is) (sym (length-framed c.self.inside.schema c.self.inside.height c.self.inside.columns.items c.self.invariant.0))
