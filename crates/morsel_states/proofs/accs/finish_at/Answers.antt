use Rattle.std.proofs.Common.{ap, map, set, ◌∙◌}
use Rattle.std.proofs.lemmas.List.{map-set}
use Rattle.morsel_states.proofs.accs.finish_at.Goals as goal

pub returns-clause-taken : goal.returns-clause-taken
returns-clause-taken c =
    map-set (λ acc. acc.entry) c.args.accs.now c.args.group c.replace-acc.new.dest
    ∙ ap (λ acc. set (map (λ a. a.entry) c.args.accs.now) c.args.group acc.entry) (c.replace-acc.ensures.after ∙ c.new-blank.ensures)
