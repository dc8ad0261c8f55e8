use Rattle.std.proofs.Common.{subst, List}
use Rattle.morsel_frame.specs.Columns.{Values}
use Rattle.morsel_text.specs.Batches.{TurnsTo}
use Rattle.morsel_text.proofs.TurnLemmas.{puts_room, puts_text, turn_of_record}
use Rattle.morsel_text.proofs.read.read_turn.Goals as goal

pub returns-in-Some-clause-shorter : goal.returns-in-Some-clause-shorter
returns-in-Some-clause-shorter c =
    (puts_room c.args.reader.now.options.now c.args.reader.now.used.now c.args.text.now c.in-Some.rest.now c.in-Some.rows c.args.columns.now.items c.read_batch.new.columns.items (rw c.in-Some.is at c.in_ok-rest.ensures.batch)).1

pub returns-in-Some-clause-room : goal.returns-in-Some-clause-room
returns-in-Some-clause-room c =
    (puts_room c.args.reader.now.options.now c.args.reader.now.used.now c.args.text.now c.in-Some.rest.now c.in-Some.rows c.args.columns.now.items c.read_batch.new.columns.items (rw c.in-Some.is at c.in_ok-rest.ensures.batch)).0

pub returns-in-Some-clause-utf8 : goal.returns-in-Some-clause-utf8
returns-in-Some-clause-utf8 c =
    puts_text c.args.reader.now.options.now c.args.reader.now.used.now c.args.text.now c.in-Some.rest.now c.in-Some.rows c.args.columns.now.items c.read_batch.new.columns.items c.requires.fit (rw c.in-Some.is at c.in_ok-rest.ensures.batch)

pub returns-in-None-clause-turns : goal.returns-in-None-clause-turns
returns-in-None-clause-turns c =
    subst (λ (old : List Values). TurnsTo c.args.reader.now.options.now c.args.reader.now.used.now c.args.reader.now.file c.args.head c.args.at c.args.text.now old
    c.read_record-in-None.result c.read_record-in-None.new.columns.items) (rw c.in-None.is at c.in_ok-rest.ensures.batch)
    (turn_of_record c.args.reader.now.options.now c.args.reader.now.used.now c.args.reader.now.file c.args.head c.args.at c.args.text.now _ c.read_record-in-None.new.columns.items
    c.read_record-in-None.result c.read_record-in-None.ensures.steps)
