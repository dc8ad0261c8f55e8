use Rattle.std.proofs.Common.{arith}
use Rattle.morsel_ndjson.proofs.PutLemmas.{one_word, cut_words}
use Rattle.morsel_ndjson.proofs.cursor.put_more_words.Goals as goal

pub loop-from-init : goal.loop-from-init
loop-from-init c = record { short = omega arith; written = c.requires.first }

pub loop-from-preserved : goal.loop-from-preserved
loop-from-preserved c = record {
  short = omega arith;
  written = one_word c.args.out.now c.loop-from.out c.put_word.new.out c.args.padded.now c.args.at c.loop-from.from 16 (omega arith)
      c.loop-from.invariant.written c.put_word.ensures;
}

pub returns : goal.returns
returns c =
    cut_words c.args.out.now c.loop-from.out c.args.padded.now c.args.at c.loop-from.from c.args.len c.loop-from-test.false
    (omega arith) (omega arith) (omega arith) c.loop-from.invariant.written
