use Rattle.morsel_meaning.specs.declared.value.Value.TheVariants as values
use Rattle.morsel_frame.proofs.ColumnLemmas.{map-replicate}
use Rattle.morsel_frame.proofs.packed.Packed.blank.Goals as goal

pub returns-in_ok-vec-in-Int-clause-items : goal.returns-in_ok-vec-in-Int-clause-items
returns-in_ok-vec-in-Int-clause-items c =
    rw (c.in_ok-vec-in-Int.ensures.items_if_clones_equal (λ _ same. same), c.in-Int.is) (map-replicate values.Int c.args.len _)

pub returns-in_ok-vec-in-Bool-clause-items : goal.returns-in_ok-vec-in-Bool-clause-items
returns-in_ok-vec-in-Bool-clause-items c =
    rw (c.in_ok-vec-in-Bool.ensures.items_if_clones_equal (λ _ same. same), c.in-Bool.is) (map-replicate values.Bool c.args.len _)

pub returns-in_ok-blank-in-Text-clause-items : goal.returns-in_ok-blank-in-Text-clause-items
returns-in_ok-blank-in-Text-clause-items c =
    rw (c.in_ok-blank-in-Text.ensures.ok, c.in-Text.is) (map-replicate values.Text c.args.len _)
