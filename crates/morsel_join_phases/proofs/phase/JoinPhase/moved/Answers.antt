use Rattle.morsel_join_phases.proofs.PhaseLemmas.{keeps_more, kept_more, rules_more}
use Rattle.morsel_join_phases.proofs.phase.JoinPhase.moved.Goals as goal

pub returns-clause-keeps : goal.returns-clause-keeps
returns-clause-keeps g c =
    let first = c.in_ok-asked.ensures.had in
    let then = c.past_given.ensures.had in
    keeps_more c.args.self c.in_ok-kept.kept _ c.in_ok-kept.ensures.keeps (rules_more c.in_ok-kept.kept c.in_ok-asked.asked _ first.0 then.0) (kept_more c.in_ok-kept.kept c.in_ok-asked.asked _ first.1 then.1)
