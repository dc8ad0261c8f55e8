use Rattle.std.proofs.Common.{◌+◌, ◌-◌, length, arith}
use Rattle.morsel_ndjson.proofs.EscapeLemmas.{plain_more}
use Rattle.morsel_ndjson.proofs.PutLemmas.{one_word, word_over}
use Rattle.morsel_ndjson.proofs.values.put_lanes.Goals as goal

pub loop-from-preserved : goal.loop-from-preserved
loop-from-preserved c = record {
  within = omega arith;
  plain = plain_more c.args.text.now 0 c.loop-from.from (c.loop-from.from + 16) c.loop-from.from (omega arith) c.loop-from.invariant.plain c.if-not-put_lane.ensures.plain;
  written = one_word c.args.out.now c.loop-from.out c.put_lane.new.out c.args.text.now c.args.at c.loop-from.from 16 (omega arith)
      c.loop-from.invariant.written c.put_lane.ensures.written;
}

pub returns-then-not-put_lane-clause-written : goal.returns-then-not-put_lane-clause-written
returns-then-not-put_lane-clause-written c =
    word_over c.args.out.now c.loop-from.out c.put_lane.new.out c.args.text.now c.args.at c.loop-from.from c.loop-from.from 16 c.loop-from.from
    (omega arith) (omega arith) (omega arith) (omega arith) (omega arith) (omega arith) (omega arith) c.loop-from.invariant.written c.put_lane.ensures.written

pub returns-then-put_lane-clause-written : goal.returns-then-put_lane-clause-written
returns-then-put_lane-clause-written c =
    word_over c.args.out.now c.loop-from.out c.put_lane-2.new.out c.args.text.now c.args.at c.loop-from.from (length c.args.text.now - 16) 16 (length c.args.text.now)
    (omega arith) (omega arith) (omega arith) (omega arith) (omega arith) (omega arith) (omega arith) c.loop-from.invariant.written c.put_lane-2.ensures.written

pub returns-else-put_lane-clause-written : goal.returns-else-put_lane-clause-written
returns-else-put_lane-clause-written c =
    word_over c.args.out.now c.loop-from.out c.put_lane-2.new.out c.args.text.now c.args.at c.loop-from.from (length c.args.text.now - 16) 16 c.loop-from.from
    (omega arith) (omega arith) (omega arith) (omega arith) (omega arith) (omega arith) (omega arith) c.loop-from.invariant.written c.put_lane-2.ensures.written
