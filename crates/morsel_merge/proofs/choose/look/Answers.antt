use Rattle.std.proofs.Common.{◌≡◌, get_or, inl, ◌∙◌}
use Rattle.std.proofs.lemmas.List.Elements.{All-set}
use Rattle.morsel_merge.specs.Ends.{sender_seen}
use Rattle.morsel_merge.specs.Spread.{IsLook}
use Rattle.morsel_merge.proofs.SpreadLemmas.{looked_at-one}
use Rattle.morsel_merge.proofs.choose.look.Goals as goal

pub returns-clause-looked : goal.returns-clause-looked
returns-clause-looked g c =
    let home = c.len_bound.ensures.same_end.0 in let lane = c.len_bound.ensures.same_end.1 in let room = c.len_bound.ensures.same_end.2 in let job = c.len_bound.ensures.same_end.3 in let places = c.len_bound.ensures.same_end.4 in
    let same : sender_seen g.S.LaneSender.home g.S.LaneSender.lane g.S.LaneSender.room g.S.LaneSender.job g.S.LaneSender.wait_places c.len_bound.new.self ≡ sender_seen g.S.LaneSender.home g.S.LaneSender.lane g.S.LaneSender.room g.S.LaneSender.job g.S.LaneSender.wait_places (get_or c.args.lanes.now c.args.lane c.index-lanes-lane.result) = cc (home, lane, room, job, places) in
    looked_at-one (sender_seen g.S.LaneSender.home g.S.LaneSender.lane g.S.LaneSender.room g.S.LaneSender.job g.S.LaneSender.wait_places) g.S.LaneSender.sent (IsLook g.S.LaneSender.found_held g.S.LaneSender.found_full g.S.LaneSender.found_closed) c.args.lanes.now c.args.lane c.index-lanes-lane.result c.len_bound.new.self c.requires.within same c.len_bound.ensures.sent
    (c.len_bound.new.cx.board, inl (c.len_bound.ensures.at_least.0, c.len_bound.ensures.at_least.1))

pub returns-clause-home : goal.returns-clause-home
returns-clause-home g c =
    All-set (λ end. g.S.LaneSender.home end ≡ (g.B.Board.id c.args.cx.now.board).lane_table) c.args.lanes.now c.args.lane c.len_bound.new.self (c.len_bound.ensures.same_end.0 ∙ c.requires.home c.args.lane c.index-lanes-lane.result c.requires.within) c.requires.home
