use Rattle.std.proofs.Common.{rules, arith, ◌-◌, ◌<◌, length}
use Rattle.std.proofs.lemmas.List.{length_push}
use Rattle.morsel_join.proofs.probe_some.follow_some.Goals as goal
use Rattle.morsel_join.proofs.CutLemmas.{walk-begun, walk-more}

pub loop-link-init : goal.loop-link-init
loop-link-init c = record {
  within = c.requires.within;
  room = c.requires.room;
  len = c.requires.len;
  so_far = walk-begun c.args.next.now c.args.head c.args.row c.args.lefts.now.items c.args.rights.now.items;
}

pub loop-link-preserved : goal.loop-link-preserved
loop-link-preserved c =
    let inv = c.loop-link.invariant in
    let less : length c.loop-link.lefts.items < c.args.limit = search rules in
    rw (c.in_ok-push.ensures.items, c.in_ok-push-2.ensures.items) (record {
      within = (c.requires.rises (c.loop-link.link - 1)).0;
      room = omega (arith, length_push c.loop-link.lefts.items c.args.row, less);
      len = omega (arith, length_push c.loop-link.lefts.items c.args.row, length_push c.loop-link.rights.items (c.loop-link.link - 1), inv.len);
      so_far = walk-more c.args.next.now c.args.head c.loop-link.link (c.loop-link.link - 1) c.args.row c.args.lefts.now.items c.args.rights.now.items c.loop-link.lefts.items c.loop-link.rights.items (search rules) inv.so_far;
    })
