use Rattle.morsel_text.proofs.TextRoomLemmas.{text_put}
use Rattle.morsel_text.proofs.text_room.TextRoom.push.Goals as goal

pub invariant_of-self-2 : goal.invariant_of-self-2
invariant_of-self-2 c =
    let room = c.self.inside in
    let made = c.in_ok-end.ensures in
    let put = text_put room.at c.in_ok-end.end c.args.from c.args.len room.ends.items c.push.new.self.items room.bytes.items c.put_with_room.new.bytes.items c.args.source.now
    c.self.invariant.0 c.requires.within made.end made.written c.in_ok-push.ensures.items c.self.invariant.1 c.requires.utf8 c.self.invariant.2 in
    (made.room, put.utf8, put.are_pieces)

pub returns : goal.returns
returns c =
    let room = c.self.inside in
    let made = c.in_ok-end.ensures in
    let put = text_put room.at c.in_ok-end.end c.args.from c.args.len room.ends.items c.push.new.self.items room.bytes.items c.put_with_room.new.bytes.items c.args.source.now
    c.self.invariant.0 c.requires.within made.end made.written c.in_ok-push.ensures.items c.self.invariant.1 c.requires.utf8 c.self.invariant.2 in
    rw (← c.self.view_is) put.texts
