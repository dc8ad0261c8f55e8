use Rattle.std.proofs.Common.{◌≡◌, map, drop}
use Rattle.morsel_frame.specs.Names.{stands_in}
use Rattle.morsel_query_text.proofs.trees.is_among.Given as goal

abbrev pub invariant-loop-key : goal.invariant-loop-key
invariant-loop-key l = stands_in l.text (map (λ key. key.now) l.keys) ≡ stands_in l.text (map (λ key. key.now) (drop l.key-index l.keys))
