use Rattle.std.proofs.Common.{◌≡◌, ◌-◌, ◌∙◌, length, take, drop, ap, arith}
use Rattle.std.proofs.lemmas.List.{take_rest, length-drop}
use Rattle.morsel_cut.proofs.RowLemmas.{passed_none, passes_record, finds_header, finds_no_header}
use Rattle.morsel_cut.proofs.HeadLemmas.{passed_whole_none, passes_whole, ends_whole, ends_whole_nowhere}
use Rattle.morsel_cut.proofs.header.head_end.Goals as goal

pub loop-at-init : goal.loop-at-init
loop-at-init c = record {
  within = omega arith;
  passed = λ records are. passed_none c.args.options.now c.args.bytes.now records are;
  whole = λ records are. passed_whole_none c.args.options.now c.args.bytes.now records are;
}

pub loop-at-preserved : goal.loop-at-preserved
loop-at-preserved c =
    let bytes = c.args.bytes.now in
    let at = c.loop-at.at in
    let size : length (take (length bytes - at) (drop at bytes)) ≡ length bytes - at = ap length (take_rest bytes at) ∙ length-drop at bytes in
    record {
      within = omega (arith, size);
      passed = λ records are.
          passes_record c.args.options.now bytes _ at c.record_size-at.result c.is_header-found.result records c.record_size-at.ensures.fit c.loop-at-test.true
          (take_rest bytes at) (c.loop-at.invariant.passed records are) c.record_size-at.ensures.value c.is_header-found.ensures c.if-found.false;
      whole = λ records are.
          passes_whole c.args.options.now bytes _ at c.record_size-at.result c.is_header-found.result records c.record_size-at.ensures.fit c.loop-at-test.true
          (take_rest bytes at) (c.loop-at.invariant.whole records are) c.record_size-at.ensures.value c.is_header-found.ensures c.if-found.false;
    }

pub returns-then-found-clause-ends : goal.returns-then-found-clause-ends
returns-then-found-clause-ends c = λ records are.
    finds_header c.args.options.now c.args.bytes.now _ c.loop-at.at c.record_size-at.result c.is_header-found.result records c.record_size-at.ensures.fit c.loop-at-test.true
    (take_rest c.args.bytes.now c.loop-at.at) (c.loop-at.invariant.passed records are) c.record_size-at.ensures.value c.is_header-found.ensures c.if-found.true

pub returns-clause-ends : goal.returns-clause-ends
returns-clause-ends c = λ records are.
    finds_no_header c.args.options.now c.args.bytes.now c.loop-at.at records c.loop-at.invariant.within c.loop-at-test.false (c.loop-at.invariant.passed records are)

pub returns-then-found-clause-whole : goal.returns-then-found-clause-whole
returns-then-found-clause-whole c = λ records are.
    ends_whole c.args.options.now c.args.bytes.now _ c.loop-at.at c.record_size-at.result c.is_header-found.result records c.record_size-at.ensures.fit c.loop-at-test.true
    (take_rest c.args.bytes.now c.loop-at.at) (c.loop-at.invariant.whole records are) c.record_size-at.ensures.value c.is_header-found.ensures c.if-found.true

pub returns-clause-whole : goal.returns-clause-whole
returns-clause-whole c = λ records are.
    ends_whole_nowhere c.args.options.now c.args.bytes.now c.loop-at.at records c.loop-at-test.false (c.loop-at.invariant.whole records are)
