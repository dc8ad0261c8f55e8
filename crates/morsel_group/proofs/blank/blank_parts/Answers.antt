use Rattle.std.proofs.lemmas.List.Elements.{All-push, All-same}
use Rattle.std.proofs.Common.{◌++◌, ◌∷◌, []}
use Rattle.morsel_group.specs.Parts.{IsPart}
use Rattle.morsel_group.proofs.BlankLemmas.{fits_at, found_at, has_at, kinds_more, reducers_more}
use Rattle.morsel_group.proofs.blank.blank_parts.Goals as goal

pub blank_part-requires-clause-has : goal.blank_part-requires-clause-has
blank_part-requires-clause-has c = has_at c.args.aggs.now c.loop-i.i c.index-aggs-i.result c.loop-i-test.true c.index-aggs-i.is c.requires.has

pub blank_part-requires-clause-found : goal.blank_part-requires-clause-found
blank_part-requires-clause-found c = found_at c.args.input.now c.args.aggs.now c.loop-i.i c.index-aggs-i.result c.loop-i-test.true c.index-aggs-i.is c.requires.found

pub blank_part-requires-clause-fits : goal.blank_part-requires-clause-fits
blank_part-requires-clause-fits c = fits_at c.args.input.now c.args.aggs.now c.loop-i.i c.index-aggs-i.result c.loop-i-test.true c.index-aggs-i.is c.requires.fits

pub loop-i-preserved : goal.loop-i-preserved
loop-i-preserved c =
    let old = c.loop-i.parts.items in
    let new = c.push.new.self.items in
    let agg = c.index-aggs-i.result in
    let part = c.blank_part.result in
    record {
      each = All-same (IsPart c.args.input.now 0) new (old ++ part ∷ []) c.in_ok-push.ensures.items (All-push (IsPart c.args.input.now 0) old part c.loop-i.invariant.each c.blank_part.ensures.part);
      reducers = reducers_more c.args.input.now c.args.aggs.now c.loop-i.i agg old new part c.loop-i-test.true c.index-aggs-i.is c.in_ok-push.ensures.items c.blank_part.ensures.reducer c.loop-i.invariant.reducers;
      kinds = kinds_more c.args.input.now c.args.aggs.now c.loop-i.i agg old new part c.loop-i-test.true c.index-aggs-i.is c.in_ok-push.ensures.items c.blank_part.ensures.kind c.loop-i.invariant.kinds;
    }
