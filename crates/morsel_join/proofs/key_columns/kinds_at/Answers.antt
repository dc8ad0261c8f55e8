use Rattle.std.proofs.Common.{◌≡◌, ◌∙◌, ◌++◌, ◌∷◌, [], List, get_or, refl, ap, sym, subst, rules}
use Rattle.morsel_meaning.specs.declared.value.Field.{Field}
use Rattle.morsel_join.proofs.key_columns.kinds_at.Goals as goal
use Rattle.morsel_join.proofs.KeyLemmas.{kinds-more}

pub loop-at-preserved : goal.loop-at-preserved
loop-at-preserved c =
    let at = get_or c.args.places.now c.loop-at.at-index 0 in record {
      done = kinds-more c.args.schema.now c.args.places.now c.loop-at.at-index at c.index-fields-at.result c.loop-at.kinds.items c.push.new.self.items c.loop-at-test.true refl (c.requires c.loop-at.at-index 0 c.loop-at-test.true)
          (subst (λ (fs : List Field). c.index-fields-at.result ≡ get_or fs at c.index-fields-at.result) c.fields.ensures c.index-fields-at.is) c.loop-at.invariant.done
          (c.in_ok-push.ensures.items ∙ ap (λ (f : Field). c.loop-at.kinds.items ++ f.kind ∷ []) (sym c.index-fields-at.is));
      len = search rules;
    }
