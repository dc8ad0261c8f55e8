use Rattle.std.proofs.Common.{◌≡◌, ◌+◌, ◌-◌, ◌%◌, ◌∙◌, ◌++◌, ℕ, ap, take, set, arith}
use Rattle.std.specs.Int.RustNames.{bit_and}
use Rattle.std.specs.Int.Count.{count_trailing_zeros}
use Rattle.morsel_marks.specs.Marks.{set_places}
use Rattle.morsel_marks.proofs.PlaceLemmas.{place_put}
use Rattle.morsel_marks.proofs.places.put_lowest.Goals as goal

pub returns-clause-some : goal.returns-clause-some
returns-clause-some c = λ some.
    let to = c.args.to in
    let at = c.args.at in
    let bits = c.args.bits in
    let out = c.args.out.now in
    let less : (bits + 18446744073709551615) % 18446744073709551616 ≡ bits - 1 = omega (arith, c.ranges.bits.fits) in
    ap (λ (b : ℕ). take (to + 1) (set out to (at + count_trailing_zeros 64 bits)) ++ set_places 64 at (bit_and bits b)) less
    ∙ place_put to at bits out c.requires.room some c.ranges.bits.fits
