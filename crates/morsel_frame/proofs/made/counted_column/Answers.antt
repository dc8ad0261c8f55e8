use Rattle.std.proofs.Common.{◌∙◌, sym, refl, map, true}
use Rattle.std.proofs.lemmas.List.{length-map, length-replicate}
use Rattle.morsel_meaning.specs.declared.value.Value.TheVariants as values
use Rattle.morsel_frame.specs.Made.{counted}
use Rattle.morsel_frame.proofs.BesideLemmas.{length-counted, masked-all}
use Rattle.morsel_frame.proofs.made.counted_column.Goals as goal

pub from_ints-requires : goal.from_ints-requires
from_ints-requires c =
    rw (c.in_ok-vec.ensures.items_if_clones_equal (λ _ same. same), c.push_counted.ensures, c.in_ok-numbers.ensures.items)
    (length-replicate c.args.len true ∙ sym (length-counted c.args.first c.args.len))

pub returns-clause-ok : goal.returns-clause-ok
returns-clause-ok c =
    rw (
      c.from_ints.ensures,
      c.in_ok-vec.ensures.items_if_clones_equal (λ _ same. same),
      c.push_counted.ensures,
      c.in_ok-numbers.ensures.items,
      masked-all c.args.len (map values.Int (counted c.args.first c.args.len)) (length-map (counted c.args.first c.args.len) values.Int ∙ length-counted c.args.first c.args.len),
    ) refl
