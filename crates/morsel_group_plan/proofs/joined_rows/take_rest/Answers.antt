use Rattle.morsel_group_plan.proofs.joined_rows.take_rest.Goals as goal

pub take_lone_rows-requires-clause-lane : goal.take_lone_rows-requires-clause-lane
take_lone_rows-requires-clause-lane g c = (let has = c.requires.has in (has.0, c.args.given, has.1, c.in_ok-end_looking_up.ensures.has has.0 has.1 has.2, has.3, has.4, has.5, has.6))
