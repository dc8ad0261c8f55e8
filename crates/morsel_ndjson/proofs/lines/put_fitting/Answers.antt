use Rattle.std.proofs.Common.{◌+◌, ◌++◌, [], get_or, drop, arith}
use Rattle.std.proofs.lemmas.List.{get_or_read}
use Rattle.morsel_frame.specs.Columns.{value_at}
use Rattle.morsel_ndjson.specs.Ndjson.{json_value}
use Rattle.morsel_ndjson.specs.Members.{members_at}
use Rattle.morsel_ndjson.proofs.PutLemmas.{one_more}
use Rattle.morsel_ndjson.proofs.MemberLemmas.{members_more, room_more, have_row_at}
use Rattle.morsel_ndjson.proofs.lines.put_fitting.Goals as goal

pub put_small-requires-clause-row : goal.put_small-requires-clause-row
put_small-requires-clause-row c =
    let read = get_or_read c.args.members.now c.loop-column.column c.index-members-column.result c.loop-column-test.true c.index-members-column.is ([], []) in
    rw read (have_row_at c.args.members.now c.args.row c.loop-column.column c.loop-column-test.true c.requires.row)

pub put_small-requires-clause-room : goal.put_small-requires-clause-room
put_small-requires-clause-room c =
    let read = get_or_read c.args.members.now c.loop-column.column c.index-members-column.result c.loop-column-test.true c.index-members-column.is ([], []) in
    rw read (omega (arith, c.loop-column.invariant.within, room_more c.args.members.now c.loop-column.column c.loop-column-test.true))

pub loop-column-preserved : goal.loop-column-preserved
loop-column-preserved c =
    let members = c.args.members.now in
    let here = get_or members c.loop-column.column ([], []) in
    let rest = drop (c.loop-column.column + 1) members in
    let next = members_more members c.args.row c.loop-column.column c.loop-column-test.true in
    let room = room_more members c.loop-column.column c.loop-column-test.true in
    let read = get_or_read members c.loop-column.column c.index-members-column.result c.loop-column-test.true c.index-members-column.is ([], []) in
    let ends = rw read at c.in-Some.ensures.within in
    record {
      rises = omega (arith, c.in-Some.ensures.rises, c.loop-column.invariant.rises);
      within = omega (arith, ends, room, c.loop-column.invariant.within);
      written = one_more c.args.out.now c.loop-column.out c.put_small.new.out c.args.at c.loop-column.to c.in-Some.end
          (here.0 ++ json_value (value_at here.1 c.args.row)) (members_at c.args.row rest) _
          (rw read at c.in-Some.ensures.written) (rw next at c.loop-column.invariant.written);
    }
