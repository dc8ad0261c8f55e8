use Rattle.std.proofs.Common.{Some, sym, ap, subst, ◌∙◌}
use Rattle.morsel_scan_units.specs.LaneRows.{CarriesCuts}
use Rattle.morsel_group_units.specs.GroupAsks.{GroupRulesSeen}
use Rattle.morsel_group_plan.proofs.joined_rows.new_taking.Goals as goal

pub new-node-requires-clause-cuts : goal.new-node-requires-clause-cuts
new-node-requires-clause-cuts g c = subst (λ (rules : GroupRulesSeen). CarriesCuts c.args.found.now rules.columns) (sym c.in_ok-rules.ensures.ok) c.requires.cuts

pub returns-clause-none : goal.returns-clause-none
returns-clause-none g c = record { takes = c.new-node.ensures.at; rules_are = c.new-node.ensures.rules ∙ ap Some c.in_ok-rules.ensures.ok; lane_is = c.new-node.ensures.job; none = c.new-node.ensures.ends }

pub returns-clause-takes : goal.returns-clause-takes
returns-clause-takes g c given = c.new-node.ensures.fits given

pub returns-clause-new : goal.returns-clause-new
returns-clause-new g c = c.new-node.ensures.none
