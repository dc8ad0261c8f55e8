use Rattle.std.proofs.Common.{◌≡◌, ◌++◌, drop}
use Rattle.morsel_ndjson.specs.Members.{members_from}
use Rattle.morsel_ndjson.proofs.members.make_members.Given as goal

abbrev pub invariant-loop-at : goal.invariant-loop-at
invariant-loop-at l = l.members.items ++ members_from l.at (drop l.at l.begins) l.frame.rows ≡ members_from 0 l.begins l.frame.rows
