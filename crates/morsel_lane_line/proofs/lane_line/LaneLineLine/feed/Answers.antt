use Rattle.std.proofs.Common.{subst, sym}
use Rattle.morsel_scan_units.specs.LaneJobs.{TellsJob}
use Rattle.morsel_line.specs.Jobs.{Job}
use Rattle.morsel_line.specs.ScanJobs.{IsJobPiece}
use Rattle.morsel_lane_line.specs.LaneLines.{FeedsLine, IfOpenFeed, LineSeen}
use Rattle.morsel_lane_line.specs.declared.lane_line.Feed.{Feed}
use Rattle.morsel_lane_line.proofs.PieceLemmas.{piece_suits}
use Rattle.morsel_lane_line.proofs.lane_line.LaneLineLine.feed.Goals as goal

pub try_send-requires-clause-suits : goal.try_send-requires-clause-suits
try_send-requires-clause-suits g c =
    let last = g.L.Receiver.LaneReceiver.job c.self.inside.parts in
    let feeds : FeedsLine c.self.inside.local.home.lane_table (g.L.Sender.LaneSender.home c.in-Open.to) (g.L.Sender.LaneSender.job c.in-Open.to) last =
    subst (λ (feed : Feed g.row.L-Sender.Denot). IfOpenFeed feed (λ end. FeedsLine c.self.inside.local.home.lane_table (g.L.Sender.LaneSender.home end) (g.L.Sender.LaneSender.job end) last)) c.in-Open.is c.self.invariant.feed_is in (
      piece_suits (g.L.Sender.LaneSender.job c.in-Open.to) last c.args.piece feeds.is_first c.requires.fits
          (subst (λ (seen : LineSeen g.row.S.Denot). (job : Job) → TellsJob seen.lane job → IsJobPiece job c.args.piece) (sym c.self.view_is) c.requires.told),
      tt,
    )
