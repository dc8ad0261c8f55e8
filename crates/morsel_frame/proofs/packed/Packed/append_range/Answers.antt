use Rattle.morsel_meaning.specs.declared.value.Value.TheVariants as values
use Rattle.morsel_frame.proofs.RangeLemmas.{kept_range}
use Rattle.morsel_frame.proofs.packed.Packed.append_range.Goals as goal
use Rattle.morsel_frame.proofs.packed.Packed.append_range.Goals.{in-Int-Int, in-Bool-Bool, in-Text-Text}

pub returns-clause-items : goal.returns-clause-items
returns-clause-items c = elim c.match-self.branch [
  | in-Int-Int w ↦ rw (w.result-is, w.self-is, w.in-Int-Int.is-0, w.in-Int-Int.is-1)
      (kept_range values.Int w.append_slice.result w.append_slice.new.items.items w.in-Int-Int.numbers.items w.in-Int-Int.others.items c.args.from c.args.to w.append_slice.ensures.ok)
  | in-Bool-Bool w ↦ rw (w.result-is, w.self-is, w.in-Bool-Bool.is-0, w.in-Bool-Bool.is-1)
      (kept_range values.Bool w.append_slice-in-Bool-Bool.result w.append_slice-in-Bool-Bool.new.items.items w.in-Bool-Bool.flags.items w.in-Bool-Bool.others.items c.args.from c.args.to w.append_slice-in-Bool-Bool.ensures.ok)
  | in-Text-Text w ↦ rw (w.result-is, w.self-is, w.in-Text-Text.is-0, w.in-Text-Text.is-1)
      (kept_range values.Text w.append.result w.append.new.self w.in-Text-Text.texts w.in-Text-Text.others c.args.from c.args.to w.append.ensures.ok)
]
