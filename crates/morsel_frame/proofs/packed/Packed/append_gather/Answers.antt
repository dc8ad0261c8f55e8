use Rattle.std.specs.Prelude.{pos, false, []}
use Rattle.morsel_meaning.specs.declared.value.Value.TheVariants as values
use Rattle.morsel_frame.proofs.ColumnLemmas.{kept_gather}
use Rattle.morsel_frame.proofs.packed.Packed.append_gather.Goals as goal
use Rattle.morsel_frame.proofs.packed.Packed.append_gather.Goals.{in-Int-Int, in-Bool-Bool, in-Text-Text}

pub returns-clause-items : goal.returns-clause-items
returns-clause-items g c = elim c.match-self.branch [
  | in-Int-Int w ↦ rw (w.result-is, w.self-is, w.in-Int-Int.is-0, w.in-Int-Int.is-1)
      (kept_gather values.Int w.gather_slice.result w.gather_slice.new.items.items w.in-Int-Int.numbers.items w.in-Int-Int.others.items c.args.limit g.R.RowNumber.place c.args.rows.now (pos 0)
      (rw w.deref.ensures.value at w.gather_slice.ensures.ok))
  | in-Bool-Bool w ↦ rw (w.result-is, w.self-is, w.in-Bool-Bool.is-0, w.in-Bool-Bool.is-1)
      (kept_gather values.Bool w.gather_slice-in-Bool-Bool.result w.gather_slice-in-Bool-Bool.new.items.items w.in-Bool-Bool.flags.items w.in-Bool-Bool.others.items c.args.limit g.R.RowNumber.place c.args.rows.now false
      (rw w.deref-in-Bool-Bool.ensures.value at w.gather_slice-in-Bool-Bool.ensures.ok))
  | in-Text-Text w ↦ rw (w.result-is, w.self-is, w.in-Text-Text.is-0, w.in-Text-Text.is-1)
      (kept_gather values.Text w.gather_texts.result w.gather_texts.new.texts w.in-Text-Text.texts w.in-Text-Text.others c.args.limit g.R.RowNumber.place c.args.rows.now [] w.gather_texts.ensures.ok)
]
