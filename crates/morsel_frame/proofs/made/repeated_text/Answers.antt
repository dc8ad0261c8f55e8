use Rattle.std.proofs.Common.{refl, replicate}
use Rattle.std.proofs.lemmas.List.{length-replicate}
use Rattle.morsel_meaning.specs.declared.value.Value.TheVariants as values
use Rattle.morsel_frame.proofs.ColumnLemmas.{map-replicate}
use Rattle.morsel_frame.proofs.BesideLemmas.{masked-all}
use Rattle.morsel_frame.proofs.made.repeated_text.Goals as goal

pub returns-clause-ok : goal.returns-clause-ok
returns-clause-ok c =
    rw (
      c.from_texts.ensures,
      c.in_ok-vec.ensures.items_if_clones_equal (λ _ same. same),
      c.in_ok-texts.ensures.ok,
      map-replicate values.Text c.args.len c.args.text.now,
      masked-all c.args.len (replicate c.args.len (values.Text c.args.text.now)) (length-replicate c.args.len (values.Text c.args.text.now)),
    ) refl
