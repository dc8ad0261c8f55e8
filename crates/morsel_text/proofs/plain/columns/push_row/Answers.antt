use Rattle.std.proofs.Common.{sym, refl}
use Rattle.morsel_text.proofs.PlainLemmas.{fits-length}
use Rattle.morsel_text.proofs.plain.columns.push_row.Goals as goal

pub loop-at-init : goal.loop-at-init
loop-at-init c = record {
  so_far = refl;
  fits = c.requires;
  width = sym (fits-length c.args.columns.now.items c.args.values.now c.requires);
}
