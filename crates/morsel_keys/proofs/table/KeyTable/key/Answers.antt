use Rattle.std.proofs.Common.{length, refl, arith, ap}
use Rattle.std.proofs.lemmas.Option.{slice_get_read}
use Rattle.morsel_keys.specs.Keyed.{Keyed}
use Rattle.morsel_keys.proofs.FitLemmas.{fits_held}
use Rattle.morsel_keys.proofs.table.KeyTable.key.Goals as goal

pub returns-clause-of_type : goal.returns-clause-of_type
returns-clause-of_type c =
    let same = ap (λ (t : Keyed). length t.keys) c.self.view_is in
    let held = slice_get_read c.self.inside.keys.items (length c.self.inside.keys.items) c.args.at c.index-key.result.now refl (omega (arith, same, c.requires)) c.index-key.ensures in
    rw (c.values.ensures, ← c.self.view_is) (fits_held c.self.inside.kinds.items c.self.inside.keys.items c.args.at c.index-key.result.now c.self.invariant.fit held)
