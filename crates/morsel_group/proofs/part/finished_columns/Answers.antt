use Rattle.std.proofs.Common.{ap, sym, ◌∙◌, ◌++◌, ◌∷◌, [], map, List, append_assoc}
use Rattle.std.proofs.lemmas.List.{map-append}
use Rattle.std.proofs.lemmas.List.Elements.{All-push}
use Rattle.std.specs.Vec.Iter.{into_iter_items}
use Rattle.morsel_frame.specs.Columns.{Values}
use Rattle.morsel_group.specs.Parts.{finished_values, RefusesNone}
use Rattle.morsel_group.proofs.JoinLemmas.{refuses_some}
use Rattle.morsel_group.proofs.part.finished_columns.Goals as goal

pub loop-part-preserved : goal.loop-part-preserved
loop-part-preserved c =
    let before = c.loop-part.yielded in
    let part = c.in-Some.part in
    let rest = into_iter_items c.next.new.self in
    let more = ap (λ xs. before ++ xs) (sym c.in-Some.ensures.steps.0) ∙ c.loop-part.invariant.all in
    record {
      all = append_assoc before (part ∷ []) rest ∙ more;
      columns = c.in_ok-push-in-Ok.ensures.items ∙ ap (λ (vs : List Values). vs ++ c.in-Ok.column ∷ []) c.loop-part.invariant.columns ∙ ap (λ (v : Values). map finished_values before ++ v ∷ []) c.in-Ok.ensures.ok ∙ sym (map-append finished_values before (part ∷ []));
      none = All-push RefusesNone before part c.loop-part.invariant.none c.in-Ok.ensures.fits;
    }

pub returns-in-Err-clause-refused : goal.returns-in-Err-clause-refused
returns-in-Err-clause-refused c =
    let before = c.loop-part.yielded in
    let more = ap (λ xs. before ++ xs) (sym c.in-Some.ensures.steps.0) ∙ c.loop-part.invariant.all in
    refuses_some before (into_iter_items c.next.new.self) c.args.parts.items c.in-Some.part c.in-Err.fault more c.in-Err.ensures.refused
