use Rattle.morsel_group_plan.proofs.lone.all_kept.Goals as goal

pub keep_given-requires : goal.keep_given-requires
keep_given-requires g c = record { for_job = c.requires.for_job }

pub returns-clause-keeps : goal.returns-clause-keeps
returns-clause-keeps g c = c.in-Ok.ensures.keeps

pub returns-clause-later : goal.returns-clause-later
returns-clause-later g c = c.in-Ok.ensures.later.1
