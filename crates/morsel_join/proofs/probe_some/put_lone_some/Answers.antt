use Rattle.std.proofs.Common.{rules, ◌<◌, get_or, length, refl, arith}
use Rattle.morsel_join.proofs.LoneLemmas.{unmarked-begun, unmarked-more, lone-lengths}
use Rattle.morsel_join.proofs.probe_some.put_lone_some.Goals as goal

pub loop-at-init : goal.loop-at-init
loop-at-init c = record {
  put = unmarked-begun c.args.seen.now c.args.numbers.now c.args.from c.args.lefts.now.items c.args.rights.now.items;
  room = c.requires.room;
  len = c.requires.len;
}

pub loop-at-preserved : goal.loop-at-preserved
loop-at-preserved c =
    let inv = c.loop-at.invariant in
    let number = get_or c.args.numbers.now c.loop-at.at 0 in
    let put = c.in_ok-put_lone_row.ensures.ok in
    let less : length c.loop-at.lefts.items < c.args.limit = search rules in
    let many = lone-lengths c.args.seen.now number c.loop-at.at c.loop-at.lefts.items c.loop-at.rights.items c.put_lone_row.new.lefts.items c.put_lone_row.new.rights.items put inv.len in
    record {
      put = unmarked-more c.args.seen.now c.args.numbers.now c.args.from c.loop-at.at number c.args.lefts.now.items c.args.rights.now.items c.loop-at.lefts.items c.loop-at.rights.items c.put_lone_row.new.lefts.items c.put_lone_row.new.rights.items
          (search rules) refl inv.put put;
      room = omega (arith, less, many.0);
      len = many.1;
    }
