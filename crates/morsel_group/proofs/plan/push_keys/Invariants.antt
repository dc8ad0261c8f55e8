use Rattle.std.proofs.Common.{◌≡◌, ◌++◌, take}
use Rattle.morsel_meaning.specs.Values.{names_of}
use Rattle.morsel_group.proofs.plan.push_keys.Given as goal

abbrev pub invariant-loop-name : goal.invariant-loop-name
invariant-loop-name l = names_of l.fields.items ≡ names_of l.initial.fields.items ++ take l.name-index l.keys
