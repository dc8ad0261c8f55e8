use Rattle.std.proofs.Common.{◌≡◌, length, ◌+◌, ◌-◌, arith, suc, ℕ, subst}
use Rattle.morsel_meaning.specs.Values.{kinds_of}
use Rattle.morsel_grammar.specs.Reading.{reading, reading_up_to, row_place}
use Rattle.morsel_text.proofs.PlaceLemmas.{place_here, place_next, place_over, place_same, next_fuel}
use Rattle.morsel_text.proofs.place.place_of_row.Goals as goal

pub returns-then-before-eq0-clause-ok : goal.returns-then-before-eq0-clause-ok
returns-then-before-eq0-clause-ok c =
    let ks = kinds_of c.args.schema.now in
    let n = length c.args.bytes.now - (c.loop.counter + 1) in
    let total = row_place (reading c.args.options.now ks c.args.head c.args.at c.args.bytes.now).rows c.args.row in
    let row = (rw c.in-Row.is at c.in_ok-after.ensures.value) in
    let so_far = subst (λ (k : ℕ). row_place (reading_up_to (length c.args.bytes.now - c.loop.counter) c.args.options.now ks c.loop.awaits_header c.loop.place c.loop.rest.now).rows k ≡ total)
    c.if-before-eq0.true c.loop.invariant.so_far in
    place_here total _ _ c.loop.place row.0 (row.1 n)
    (next_fuel c.args.options.now ks c.loop.awaits_header c.loop.place n (length c.args.bytes.now - c.loop.counter) 0 c.loop.rest.now total (omega arith) so_far)

pub returns-in-Refused-clause-ok : goal.returns-in-Refused-clause-ok
returns-in-Refused-clause-ok c =
    let ks = kinds_of c.args.schema.now in
    let n = length c.args.bytes.now - (c.loop.counter + 1) in
    let total = row_place (reading c.args.options.now ks c.args.head c.args.at c.args.bytes.now).rows c.args.row in
    place_over total c.loop.before _ ((rw c.in-Refused.is at c.in_ok-after.ensures.value) n)
    (next_fuel c.args.options.now ks c.loop.awaits_header c.loop.place n (length c.args.bytes.now - c.loop.counter) c.loop.before c.loop.rest.now total (omega arith) c.loop.invariant.so_far)

pub loop-preserved-in-Row : goal.loop-preserved-in-Row
loop-preserved-in-Row c =
    let ks = kinds_of c.args.schema.now in
    let n = length c.args.bytes.now - (c.loop.counter + 1) in
    let total = row_place (reading c.args.options.now ks c.args.head c.args.at c.args.bytes.now).rows c.args.row in
    let row = (rw c.in-Row.is at c.in_ok-after.ensures.value) in
    let one_more : c.loop.before ≡ suc (c.loop.before - 1) = omega (arith, c.if-before-eq0.false) in
    let so_far = subst (λ (k : ℕ). row_place (reading_up_to (length c.args.bytes.now - c.loop.counter) c.args.options.now ks c.loop.awaits_header c.loop.place c.loop.rest.now).rows k ≡ total)
    one_more c.loop.invariant.so_far in
    record {
      so_far = place_next total (c.loop.before - 1) _ _ c.loop.place row.0 (row.1 n)
          (next_fuel c.args.options.now ks c.loop.awaits_header c.loop.place n (length c.args.bytes.now - c.loop.counter) (suc (c.loop.before - 1)) c.loop.rest.now total (omega arith) so_far);
      places = omega (arith, rw c.in-Row.is at c.in_ok-after.ensures.within);
    }

pub loop-preserved : goal.loop-preserved
loop-preserved c =
    let ks = kinds_of c.args.schema.now in
    let n = length c.args.bytes.now - (c.loop.counter + 1) in
    let total = row_place (reading c.args.options.now ks c.args.head c.args.at c.args.bytes.now).rows c.args.row in
    record {
      so_far = place_same total c.loop.before _ _ ((rw c.in-Other.is at c.in_ok-after.ensures.value) n)
          (next_fuel c.args.options.now ks c.loop.awaits_header c.loop.place n (length c.args.bytes.now - c.loop.counter) c.loop.before c.loop.rest.now total (omega arith) c.loop.invariant.so_far);
      places = omega (arith, rw c.in-Other.is at c.in_ok-after.ensures.within);
    }
