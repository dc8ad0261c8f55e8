use Rattle.std.proofs.Common.{◌+◌, ◌++◌, [], get_or, drop, ◌∙◌, arith}
use Rattle.std.proofs.lemmas.List.{get_or_read}
use Rattle.morsel_frame.specs.Columns.{value_at}
use Rattle.morsel_ndjson.specs.Ndjson.{json_value}
use Rattle.morsel_ndjson.specs.Members.{members_at, members_room}
use Rattle.morsel_ndjson.proofs.PutLemmas.{one_more, front_kept, kept_below}
use Rattle.morsel_ndjson.proofs.MemberLemmas.{members_more, room_more, room_within, room_least, have_row_at}
use Rattle.morsel_ndjson.proofs.lines.put_others.Goals as goal

pub put-requires-clause-row : goal.put-requires-clause-row
put-requires-clause-row c =
    let read = get_or_read c.args.members.now c.loop-column.column c.index-members-column.result c.loop-column-test.true c.index-members-column.is ([], []) in
    rw read (have_row_at c.args.members.now c.args.row c.loop-column.column c.loop-column-test.true c.requires.row)

pub put-requires-clause-own : goal.put-requires-clause-own
put-requires-clause-own c =
    let read = get_or_read c.args.members.now c.loop-column.column c.index-members-column.result c.loop-column-test.true c.index-members-column.is ([], []) in
    rw read (omega (arith, c.requires.whole, room_within c.args.members.now c.loop-column.column, room_more c.args.members.now c.loop-column.column c.loop-column-test.true))

pub put-requires-clause-room : goal.put-requires-clause-room
put-requires-clause-room c =
    let read = get_or_read c.args.members.now c.loop-column.column c.index-members-column.result c.loop-column-test.true c.index-members-column.is ([], []) in
    rw read (omega (arith, c.loop-column.invariant.within, room_more c.args.members.now c.loop-column.column c.loop-column-test.true))

pub loop-column-preserved : goal.loop-column-preserved
loop-column-preserved c =
    let members = c.args.members.now in
    let here = get_or members c.loop-column.column ([], []) in
    let rest = drop (c.loop-column.column + 1) members in
    let read = get_or_read members c.loop-column.column c.index-members-column.result c.loop-column-test.true c.index-members-column.is ([], []) in
    let next = members_more members c.args.row c.loop-column.column c.loop-column-test.true in
    let room = room_more members c.loop-column.column c.loop-column-test.true in
    record {
      rises = omega (arith, c.in-Ok.ensures.put.rises);
      within = c.in-Ok.ensures.left (members_room rest) (omega (arith, room_within members (c.loop-column.column + 1), c.requires.whole))
          (rw read (omega (arith, c.loop-column.invariant.within, room)));
      written = one_more c.args.out.now.items c.loop-column.out.items c.put.new.out.items c.args.at c.loop-column.to c.in-Ok.end
          (here.0 ++ json_value (value_at here.1 c.args.row)) (members_at c.args.row rest) _
          (rw read at c.in-Ok.ensures.put.written) (rw next at c.loop-column.invariant.written);
    }

pub returns-in-Err-clause-put : goal.returns-in-Err-clause-put
returns-in-Err-clause-put c =
    kept_below c.put.new.out.items c.loop-column.out.items c.args.at c.loop-column.to c.loop-column.invariant.rises c.in-Err.ensures.put
    ∙ front_kept c.args.out.now.items c.loop-column.out.items c.args.at c.loop-column.to _ _ c.loop-column.invariant.rises (omega (arith, c.loop-column.invariant.within))
    (omega (arith, c.requires.room)) c.loop-column.invariant.written

pub returns-clause-left : goal.returns-clause-left
returns-clause-left c = omega (arith, c.loop-column.invariant.within, room_least (drop c.loop-column.column c.args.members.now))
