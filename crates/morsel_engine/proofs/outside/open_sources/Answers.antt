use Rattle.std.proofs.Common.{sym, subst, arith, add-zero}
use Rattle.std.specs.Prelude.{List, [], ◌∷◌, ◌++◌}
use Rattle.morsel_outside.specs.declared.io.FileNo.{FileNo}
use Rattle.morsel_engine.proofs.OpenLemmas.{Opened, opened-none, opened-next, opened-all, opened-fails, name_is, failed_opening}
use Rattle.morsel_engine.proofs.outside.open_sources.Goals as goal

pub names-init : goal.names-init
names-init g c = record {
  number = sym (add-zero c.args.first);
  files = [];
  opened = subst (λ (xs : List FileNo). Opened (g.H.Io.seen c.args.io.now) c.args.names.now [] xs 0 (g.H.Io.seen c.args.io.now)) (sym c.new-files.ensures.items)
      (opened-none (g.H.Io.seen c.args.io.now) c.args.names.now);
}

pub returns-in_default : goal.returns-in_default
returns-in_default g c =
    let next = c.in-Ok.ensures in
    (c.names.invariant.files ++ next.0 ∷ [], (opened-next _ _ _ _ _ _ _ _ _ _ c.names.invariant.opened c.names-test.true (name_is c.args.names.now c.names.name-index c.name-item.result c.names-test.true c.name-item.is) (rw c.as_str.ensures at next.1)).first)

pub returns-in-Err-Failed : goal.returns-in-Err-Failed
returns-in-Err-Failed g c =
    (c.names.invariant.files, c.names.name-index, c.names.invariant.number, opened-fails _ _ _ _ _ _ _ _ c.names.invariant.opened c.names-test.true (name_is c.args.names.now c.names.name-index c.name-item.result c.names-test.true c.name-item.is) (failed_opening _ _ _ _ _ c.in-Err-Failed.field-0-is c.as_str.ensures c.in-Err-Failed.ensures))

pub names-preserved : goal.names-preserved
names-preserved g c =
    let next = c.in-Ok.ensures in record {
      number = let n = c.names.invariant.number in omega (arith, n);
      files = c.names.invariant.files ++ next.0 ∷ [];
      opened = rw c.in-Ok-push.ensures.items (opened-next _ _ _ _ _ _ _ _ _ _ c.names.invariant.opened c.names-test.true (name_is c.args.names.now c.names.name-index c.name-item.result c.names-test.true c.name-item.is) (rw c.as_str.ensures at next.1));
    }

pub returns : goal.returns
returns g c = (c.names.invariant.files, opened-all _ _ _ _ _ _ c.names.invariant.opened (let low = c.names.auto.name-index-end in let high = c.names-test.false in omega (arith, low, high)))
