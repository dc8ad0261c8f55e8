use Rattle.std.proofs.Common.{◌≡◌, length, drop, arith}
use Rattle.std.proofs.lemmas.List.{take_rest, take_at}
use Rattle.morsel_ndjson.specs.Members.{members_at}
use Rattle.morsel_ndjson.proofs.PutLemmas.{puts_more}
use Rattle.morsel_ndjson.proofs.MemberLemmas.{room_within, have_row_from}
use Rattle.morsel_ndjson.proofs.lines.put_members.Goals as goal

pub put_others-requires-clause-row : goal.put_others-requires-clause-row
put_others-requires-clause-row c =
    rw (take_rest c.args.members.now c.put_fitting-count.result.0) (have_row_from c.args.members.now c.args.row c.put_fitting-count.result.0 c.requires.row)

pub put_others-requires-clause-whole : goal.put_others-requires-clause-whole
put_others-requires-clause-whole c =
    rw (take_rest c.args.members.now c.put_fitting-count.result.0) (omega (arith, c.requires.whole, room_within c.args.members.now c.put_fitting-count.result.0))

pub returns-then-count-members-clause-put : goal.returns-then-count-members-clause-put
returns-then-count-members-clause-put c =
    let count = c.put_fitting-count.result.0 in
    let part = c.put_fitting-count.new.out in
    let same : length part ≡ c.args.out.now.len = omega (arith, c.as_mut_slice.ensures.len, c.put_fitting-count.auto.out) in
    let back = take_at part (drop (length part) c.args.out.now.items) c.args.out.now.len same in
    puts_more c.args.out.now.items part c.put_others.new.out.items (members_at c.args.row (drop count c.args.members.now)) (members_at c.args.row c.args.members.now)
    c.args.at c.put_fitting-count.result.1 c.put_others.result c.put_fitting-count.ensures.rises (omega (arith, c.put_fitting-count.ensures.within)) (omega (arith, c.requires.room))
    (rw c.as_mut_slice.ensures.value at c.put_fitting-count.ensures.written) (rw (take_rest c.args.members.now count, back) at c.put_others.ensures.put)
