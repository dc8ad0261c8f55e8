use Rattle.std.proofs.Common.{ap, arith, [], length}
use Rattle.morsel_text.proofs.TurnLemmas.{puts_room}
use Rattle.morsel_text.proofs.read.read_more.Goals as goal

pub returns-in-Some-clause-room : goal.returns-in-Some-clause-room
returns-in-Some-clause-room c =
    let room = puts_room c.args.reader.now.options.now c.args.reader.now.used.now c.args.text.now [] c.in-Some.rows c.args.columns.now.items c.read_marked.new.columns.items
    (rw c.in-Some.is at c.in_ok-rows.ensures.rows) in
    omega (arith, room.0, ap length c.end_of.ensures)
