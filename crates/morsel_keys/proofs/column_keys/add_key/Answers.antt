use Rattle.std.proofs.Common.{rules, subst, sym, ap, ◌∙◌, ◌++◌, [], ◌∷◌}
use Rattle.morsel_frame.specs.Cells.{value_of}
use Rattle.morsel_meaning.specs.declared.value.Value.{Value}
use Rattle.morsel_keys.specs.Slots.{IsNewKey}
use Rattle.morsel_keys.specs.ColumnKeys.{stored_keys, with_null}
use Rattle.morsel_keys.proofs.ColumnKeyLemmas.{new_stored, stored_room, null_last, key_last, keys_same}
use Rattle.morsel_keys.proofs.column_keys.add_key.Goals as goal

pub push-requires-clause-new : goal.push-requires-clause-new
push-requires-clause-new c = new_stored c.args.null.now (stored_keys c.args.store.now) (value_of c.args.cell) c.requires.keys.place c.requires.new

pub push-requires-clause-room : goal.push-requires-clause-room
push-requires-clause-room c = stored_room c.args.null.now (stored_keys c.args.store.now) (search rules)

pub returns-in-Null-clause-keys : goal.returns-in-Null-clause-keys
returns-in-Null-clause-keys c =
    let new = subst (λ (v : Value). IsNewKey v (with_null c.args.null.now (stored_keys c.args.store.now))) (ap value_of c.in-Null.is) c.requires.new in
    (null_last c.args.null.now c.args.store.now c.args.len c.requires.keys new c.requires.len c.requires.room).keys

pub returns-in-Null-clause-ok : goal.returns-in-Null-clause-ok
returns-in-Null-clause-ok c =
    let new = subst (λ (v : Value). IsNewKey v (with_null c.args.null.now (stored_keys c.args.store.now))) (ap value_of c.in-Null.is) c.requires.new in
    (null_last c.args.null.now c.args.store.now c.args.len c.requires.keys new c.requires.len c.requires.room).last
    ∙ ap (λ (v : Value). with_null c.args.null.now (stored_keys c.args.store.now) ++ v ∷ []) (sym (ap value_of c.in-Null.is))

pub returns-in-Ok-clause-keys : goal.returns-in-Ok-clause-keys
returns-in-Ok-clause-keys c = (key_last c.args.null.now c.args.store.now c.push.new.store (value_of c.args.cell) c.requires.keys (search rules) c.requires.new (search rules) c.in-Ok.ensures.ok).keys

pub returns-in-Ok-clause-ok : goal.returns-in-Ok-clause-ok
returns-in-Ok-clause-ok c = (key_last c.args.null.now c.args.store.now c.push.new.store (value_of c.args.cell) c.requires.keys (search rules) c.requires.new (search rules) c.in-Ok.ensures.ok).last

pub returns-in-Err-clause-keys : goal.returns-in-Err-clause-keys
returns-in-Err-clause-keys c = keys_same c.args.null.now c.args.store.now c.push.new.store c.requires.keys (search rules) c.in-Err.ensures.err

pub returns-in-Err-clause-err : goal.returns-in-Err-clause-err
returns-in-Err-clause-err c = ap (with_null c.args.null.now) c.in-Err.ensures.err
