-- What was given of the kept rows that no row finds.
use Rattle.std.proofs.Common.{◌≡◌, ◌++◌, [], ◌∷◌, List, ℕ, sym, ap, subst, ◌∙◌, append_assoc}
use Rattle.std.specs.Arc.{arc_value}
use Rattle.std.specs.List.{All}
use Rattle.std.proofs.lemmas.List.{flat_map_more}
use Rattle.std.proofs.lemmas.List.Elements.{All-push}
use Rattle.morsel_meaning.specs.Values.{Row, Table}
use Rattle.morsel_load.specs.Loads.{LoadSeen, SeenMorsel, seen_seq}
use Rattle.morsel_load.specs.Sources.{SourceSeen}
use Rattle.morsel_load.specs.declared.morsels.Stretch.{Stretch}
use Rattle.morsel_join.specs.declared.build_side.Build.{Build}
use Rattle.morsel_join.specs.declared.hits.Hits.{Hits}
use Rattle.morsel_join.specs.BuildSides.{kept_side}
use Rattle.morsel_join.specs.Hits.{HaveHit}
use Rattle.morsel_join.specs.LoneRows.{LeavesAlone}
use Rattle.morsel_join.specs.Sides.{rows_alone}
use Rattle.morsel_join_units.specs.RowCutters.{GivesRest, rows_of_load, rows_of_loads}
use Rattle.morsel_join_units.specs.LoneGivers.{DidGiveAlone, IsLaterGiver}
use Rattle.morsel_join_units.specs.declared.lone_giver.LoneGiver.{LoneGiver}

-- one more load was given
pub did-alone : (giver later : LoneGiver) (made : List LoadSeen) (frame : Table) (seq : ℕ) (source : SourceSeen) (stretch : Stretch) → IsLaterGiver giver later → ((rest : List Row) → LeavesAlone giver.lone rest → GivesRest (LeavesAlone later.lone) rest frame.rows stretch.last)
    → seq ≡ giver.cutter.seq → later.ended ≡ stretch.last → DidGiveAlone giver made → DidGiveAlone later (made ++ SeenMorsel frame seq source stretch ∷ [])
did-alone giver later made frame seq source stretch is gives number ended did =
    let load : LoadSeen = SeenMorsel frame seq source stretch in
    let h = gives did.rest did.left in
    record {
      rest = h.later;
      left = h.left;
      all = λ asked hit.
          let marked : HaveHit (arc_value later.lone.build) giver.hits.value.seen.items asked = subst (λ (hits : Hits). HaveHit (arc_value later.lone.build) hits.seen.items asked) is.hits hit in
          let same : HaveHit (arc_value giver.lone.build) giver.hits.value.seen.items asked = subst (λ (build : Build). HaveHit build giver.hits.value.seen.items asked) is.build marked in
          ap (λ (xs : List Row). xs ++ h.later) (sym (flat_map_more rows_of_load [] made load)) ∙ append_assoc (rows_of_loads made) frame.rows h.later ∙ ap (λ (xs : List Row). rows_of_loads made ++ xs) (sym h.same) ∙ did.all asked same
          ∙ ap (λ (build : Build). rows_alone (kept_side build) asked) (sym is.build);
      none = λ last. h.none (sym ended ∙ last);
      numbers = subst (λ (n : ℕ). All (λ (l : LoadSeen). seen_seq l ≡ n) (made ++ load ∷ [])) (sym is.number) (All-push (λ (l : LoadSeen). seen_seq l ≡ giver.cutter.seq) made load did.numbers number);
    }
