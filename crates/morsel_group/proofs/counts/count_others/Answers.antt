use Rattle.morsel_group.proofs.CountLemmas.{parts_stop}
use Rattle.morsel_group.proofs.counts.count_others.Goals as goal

pub returns-in-Err-clause-refused : goal.returns-in-Err-clause-refused
returns-in-Err-clause-refused c =
    parts_stop c.args.counts.now c.grow.new.self c.args.count c.merge.new.self.entries c.args.numbers.now c.args.other.entries c.in-Err.fault c.in_ok-grow.ensures.ok c.requires.op c.requires.few c.requires.len c.requires.within c.in-Err.ensures.too_long c.in-Err.ensures.parts
