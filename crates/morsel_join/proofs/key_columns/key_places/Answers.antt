use Rattle.std.proofs.Common.{◌∙◌, ◌<◌, [], length, ap, sym, Some, None, rules}
use Rattle.std.specs.Str.{bytes_eq}
use Rattle.std.proofs.lemmas.List.Elements.{All-push}
use Rattle.std.proofs.lemmas.List.Quantifiers.{position-Some}
use Rattle.morsel_meaning.specs.declared.value.ColType.TheVariants as types
use Rattle.morsel_meaning.specs.declared.fault.Fault.TheVariants.{ColumnNotFound}
use Rattle.morsel_join.proofs.key_columns.key_places.Goals as goal
use Rattle.morsel_join.proofs.KeyLemmas.{key-done, key-due}

pub returns-in-None-clause-refused : goal.returns-in-None-clause-refused
returns-in-None-clause-refused c =
    c.loop-key.invariant.due
    ∙ key-due c.args.schema.now c.args.keys.now c.loop-key.key-index c.key-item.result c.as_str.result.now None c.as_str.ensures c.loop-key-test.true c.key-item.is (sym c.find.ensures ∙ c.in-None.is)
    ∙ ap (λ n. Some (ColumnNotFound n)) (c.as_str.ensures ∙ sym (c.in_ok-name-in-None.ensures.value ∙ c.as_str-in-None.ensures))

pub loop-key-preserved : goal.loop-key-preserved
loop-key-preserved c = record {
  done = key-done c.args.schema.now c.args.keys.now c.loop-key.key-index c.in-Some.at c.key-item.result c.as_str.result.now c.loop-key.places.items c.push.new.self.items c.as_str.ensures c.loop-key-test.true c.key-item.is (sym c.find.ensures ∙ c.in-Some.is) c.loop-key.invariant.done c.in_ok-push-in-Some.ensures.items;
  within = rw c.in_ok-push-in-Some.ensures.items (All-push (λ at. at < length c.args.schema.now) c.loop-key.places.items c.in-Some.at c.loop-key.invariant.within
      (position-Some (λ f. bytes_eq f.name c.as_str.result.now) c.args.schema.now c.in-Some.at (record { name = []; kind = types.Int }) (sym c.find.ensures ∙ c.in-Some.is)).0);
  len = search rules;
  due = c.loop-key.invariant.due ∙ key-due c.args.schema.now c.args.keys.now c.loop-key.key-index c.key-item.result c.as_str.result.now (Some c.in-Some.at) c.as_str.ensures c.loop-key-test.true c.key-item.is (sym c.find.ensures ∙ c.in-Some.is);
}
