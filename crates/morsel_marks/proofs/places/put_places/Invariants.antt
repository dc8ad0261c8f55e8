use Rattle.std.proofs.Common.{◌≡◌, ◌+◌, ◌-◌, ◌^◌, ◌<◌, length}
use Rattle.morsel_marks.proofs.PlaceLemmas.{Placed}
use Rattle.morsel_marks.proofs.places.put_places.Given as goal

abbrev pub invariant-loop-to : goal.invariant-loop-to
invariant-loop-to l = record {
  fits : l.left < 2 ^ 64;
  kept : length l.out ≡ length l.fn.out;
  placed : Placed l.fn.count l.at l.fn.bits l.fn.out l.next l.to l.left l.out;
}

abbrev pub decreases-loop-to : goal.decreases-loop-to
decreases-loop-to l = l.next - l.to

abbrev pub invariant-loop-i : goal.invariant-loop-i
invariant-loop-i l = record {
  fits : l.left < 2 ^ 64;
  kept : length l.out ≡ length l.fn.out;
  placed : Placed l.fn.count l.at l.fn.bits l.fn.out l.next (l.to + l.i) l.left l.out;
}
