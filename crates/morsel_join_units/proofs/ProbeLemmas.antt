-- What was made of rows that are looked up.
use Rattle.std.proofs.Common.{◌≡◌, ◌++◌, [], ◌∷◌, List, ℕ, Bool, true, false, if◌then◌else◌, Option, None, Some, refl, sym, ap, subst, ◌∙◌, append_assoc}
use Rattle.std.specs.Arc.{arc_value}
use Rattle.std.specs.List.{All}
use Rattle.std.proofs.lemmas.List.{append-nil, flat_map_more}
use Rattle.morsel_meaning.specs.Values.{Row, Table}
use Rattle.morsel_meaning.specs.declared.value.Field.{Field}
use Rattle.morsel_load.specs.Loads.{LoadSeen, SeenMorsel}
use Rattle.morsel_load.specs.Sources.{SourceSeen}
use Rattle.morsel_load.specs.declared.morsels.Stretch.{Stretch}
use Rattle.morsel_lane_pipe.specs.Stretches.{ends_of}
use Rattle.morsel_rows_job.specs.RowsJobs.{AreWholeRows}
use Rattle.morsel_join.specs.declared.build_side.Build.{Build}
use Rattle.morsel_join.specs.BuildSides.{kept_side}
use Rattle.morsel_join.specs.Hits.{HaveHit}
use Rattle.morsel_join.specs.Probings.{IsProbing, LooksUp}
use Rattle.morsel_join.specs.Sides.{KeptSide, found_by_row, rows_found}
use Rattle.morsel_join_units.specs.RowCutters.{GivesRest, rows_of_load, rows_of_loads, stretch_of}
use Rattle.morsel_join_units.specs.LookedUps.{AreLookedUpOf}
use Rattle.morsel_join_units.specs.ProbeMakers.{AreToGive, DidProbe, FindsFor, FindsOf, HasGiven, IsLookedUp, IsProbeMaker, stretch_left}
use Rattle.morsel_join_units.specs.declared.probe_maker.ProbeMaker.{ProbeMaker}
use Rattle.morsel_join_units.specs.declared.probe_maker.Probed.{Probed}

-- what rows find and then more rows is what all of them find
found-append : (side : KeptSide) (xs ys : List Row) → rows_found side (xs ++ ys) ≡ rows_found side xs ++ rows_found side ys
found-append side [] ys = refl
found-append side (x ∷ xs) ys = ap (λ (rows : List Row). found_by_row side x ++ rows) (found-append side xs ys) ∙ sym (append_assoc (found_by_row side x) (rows_found side xs) (rows_found side ys))

-- where no stretch is left nothing is looked up
pub nothing-left : (probed : Option Probed) → stretch_left probed ≡ [] → probed ≡ None
nothing-left None left = refl
nothing-left (Some probed) left = absurd (cc)

-- a maker still makes loads for the same jobs
pub joins-later : {J : Type 0} (suits : J → LoadSeen → Type 0) (gives_rows : J → List Field → Type 0) (finds : KeptSide → J → J → Type 0) (maker later : ProbeMaker) (from to : J) → arc_value later.build ≡ arc_value maker.build → IsProbeMaker later
    → (All (AreLookedUpOf suits from) maker.looked.items → All (AreLookedUpOf suits from) later.looked.items)
    → IsProbeMaker maker × gives_rows from (arc_value maker.build).asked × finds (kept_side (arc_value maker.build)) from to × All (AreLookedUpOf suits from) maker.looked.items
    → IsProbeMaker later × gives_rows from (arc_value later.build).asked × finds (kept_side (arc_value later.build)) from to × All (AreLookedUpOf suits from) later.looked.items
joins-later suits gives_rows finds maker later from to same is all joins = (
  is,
  subst (λ (b : Build). gives_rows from b.asked) (sym same) joins.1,
  subst (λ (b : Build). finds (kept_side b) from to) (sym same) joins.2,
  all joins.3,
)

-- of a load that is looked up nothing was given
pub finds-begun : {J : Type 0} (suits : J → LoadSeen → Type 0) (finds : KeptSide → J → J → Type 0) (build now : Build) (from to : J) (frame given : Table) (seq : ℕ) (source : SourceSeen) (stretch : Stretch) (probed : Probed) → now ≡ build → given ≡ frame → finds (kept_side build) from to
    → suits from (SeenMorsel frame seq source stretch) → probed.cutter.seq ≡ seq → probed.cutter.source.source ≡ source.source → probed.cutter.from ≡ stretch.from → probed.cutter.to ≡ stretch.to → probed.cutter.given ≡ 0 → IsLookedUp build given probed.probing → FindsOf suits finds (kept_side now) to probed
finds-begun suits finds build now from to frame given seq source stretch probed same frame_is found suited seq_is source_is from_is to_is none is =
    let looked : IsLookedUp build frame probed.probing = subst (λ (t : Table). IsLookedUp build t probed.probing) frame_is is in
    subst (λ (b : Build). FindsOf suits finds (kept_side b) to probed) (sym same)
    (record {
      from = from;
      frame = frame;
      seq = seq;
      source = source;
      stretch = stretch;
      found = found;
      suited = suited;
      seq_is = seq_is;
      source_is = source_is;
      from_is = from_is;
      to_is = to_is;
      side_is = ap kept_side looked.build_is;
      probing = looked.probing_is;
      given = record { front = []; rest = rows_found (kept_side build) frame.rows; left = looked.all; same = refl; many = sym none };
    })

-- the load was taken, and nothing is made of it yet
pub did-begun : (maker later : ProbeMaker) (probed : Probed) (taken made : List LoadSeen) (seen : LoadSeen) (frame given : Table) (seq : ℕ) (source : SourceSeen) (stretch : Stretch) → seen ≡ SeenMorsel frame seq source stretch → given ≡ frame → maker.probed ≡ None → later.probed ≡ Some probed
    → arc_value later.build ≡ arc_value maker.build → IsLookedUp (arc_value maker.build) given probed.probing → ((asked : List Row) → HaveHit (arc_value maker.build) maker.hits.seen.items asked → HaveHit (arc_value maker.build) later.hits.seen.items (asked ++ given.rows)) → DidProbe maker taken made
    → DidProbe later (taken ++ seen ∷ []) made
did-begun maker later probed taken made seen frame given seq source stretch seen_is frame_is before now build is hits did =
    let looked : IsLookedUp (arc_value maker.build) frame probed.probing = subst (λ (t : Table). IsLookedUp (arc_value maker.build) t probed.probing) frame_is is in
    let side : KeptSide = kept_side (arc_value maker.build) in
    let none : did.rest ≡ [] = subst (λ (p : Option Probed). AreToGive (arc_value maker.build) p did.rest) before did.left in
    let more : rows_of_loads taken ++ given.rows ≡ rows_of_loads (taken ++ seen ∷ []) =
    ap (λ (t : Table). rows_of_loads taken ++ t.rows) frame_is ∙ flat_map_more rows_of_load [] taken (SeenMorsel frame seq source stretch) ∙ ap (λ (l : LoadSeen). rows_of_loads (taken ++ l ∷ [])) (sym seen_is) in
    let marked : HaveHit (arc_value maker.build) later.hits.seen.items (rows_of_loads (taken ++ seen ∷ [])) = subst (λ (rows : List Row). HaveHit (arc_value maker.build) later.hits.seen.items rows) more (hits (rows_of_loads taken) did.hits) in
    let done : rows_of_loads made ≡ rows_found side (rows_of_loads taken) = sym (append-nil (rows_of_loads made)) ∙ ap (λ (rows : List Row). rows_of_loads made ++ rows) (sym none) ∙ did.all in
    let whole : rows_of_loads made ++ rows_found side frame.rows ≡ rows_found side (rows_of_loads (taken ++ seen ∷ [])) =
    ap (λ (rows : List Row). rows ++ rows_found side frame.rows) done ∙ sym (found-append side (rows_of_loads taken) frame.rows) ∙ ap (λ (t : Table). rows_found side (rows_of_loads taken ++ t.rows)) (sym frame_is) ∙ ap (rows_found side) more in
    record {
      hits = subst (λ (b : Build). HaveHit b later.hits.seen.items (rows_of_loads (taken ++ seen ∷ []))) (sym build) marked;
      rest = rows_found side frame.rows;
      left = subst (λ (b : Build). AreToGive b later.probed (rows_found side frame.rows)) (sym build) (subst (λ (p : Option Probed). AreToGive (arc_value maker.build) p (rows_found side frame.rows)) (sym now) (looked.build_is, looked.probing_is, looked.all));
      all = whole ∙ ap (λ (b : Build). rows_found (kept_side b) (rows_of_loads (taken ++ seen ∷ []))) (sym build);
    }

-- more loads are to be made for the same job, unless the last one was
pub finds-more : {J : Type 0} (suits : J → LoadSeen → Type 0) (finds : KeptSide → J → J → Type 0) (side : KeptSide) (to : J) (probed now : Probed) (last : Bool) (left : Option Probed) → left ≡ (if last then None else Some now) → now.cutter.seq ≡ probed.cutter.seq → now.cutter.source ≡ probed.cutter.source → stretch_of now.cutter ≡ stretch_of probed.cutter
    → now.probing.build ≡ probed.probing.build → IsProbing now.probing → ((all : List Row) → HasGiven all probed → HasGiven all now) → FindsOf suits finds side to probed → FindsFor suits finds side to left
finds-more suits finds side to probed now last left is number source stretch build probing given f = subst (λ (p : Option Probed). FindsFor suits finds side to p) (sym is) (by last)
  where
    by : (b : Bool) → FindsFor suits finds side to (if b then None else Some now)
    by true = tt
    by false = record {
      from = f.from;
      frame = f.frame;
      seq = f.seq;
      source = f.source;
      stretch = f.stretch;
      found = f.found;
      suited = f.suited;
      seq_is = number ∙ f.seq_is;
      source_is = ap (λ (s : SourceSeen). s.source) source ∙ f.source_is;
      from_is = ap (λ (s : Stretch). s.from) stretch ∙ f.from_is;
      to_is = ap (λ (s : Stretch). s.to) stretch ∙ f.to_is;
      side_is = ap (λ b. kept_side (arc_value b)) build ∙ f.side_is;
      probing = probing;
      given = given (rows_found side f.frame.rows) f.given;
    }

-- the last load ends the stretch, and no other one does
pub ends-left : (probed now : Probed) (old left : Option Probed) (stretch : Stretch) → old ≡ Some probed → left ≡ (if stretch.last then None else Some now) → stretch.from ≡ probed.cutter.from → stretch.to ≡ probed.cutter.to → stretch_of now.cutter ≡ stretch_of probed.cutter
    → stretch_left old ≡ (if stretch.last then (stretch.from, stretch.to) ∷ [] else []) ++ stretch_left left
ends-left probed now old left stretch old_is left_is from to same =
    ap stretch_left old_is ∙ by stretch.last ∙ ap (λ (p : Option Probed). (if stretch.last then (stretch.from, stretch.to) ∷ [] else []) ++ stretch_left p) (sym left_is)
  where
    by : (b : Bool) → ◌≡◌ {A = List (ℕ × ℕ)} ((probed.cutter.from, probed.cutter.to) ∷ []) ((if b then (stretch.from, stretch.to) ∷ [] else []) ++ stretch_left (if b then None else Some now))
    by true = ap (λ (n : ℕ). (n, probed.cutter.to) ∷ []) (sym from) ∙ ap (λ (n : ℕ). (stretch.from, n) ∷ []) (sym to)
    by false = ap (λ (s : Stretch). (s.from, s.to) ∷ []) (sym same)

-- one more load was made
pub did-more : (maker later : ProbeMaker) (probed now : Probed) (taken made : List LoadSeen) (frame : Table) (seq : ℕ) (source : SourceSeen) (stretch : Stretch) → maker.probed ≡ Some probed → later.probed ≡ (if stretch.last then None else Some now) → arc_value later.build ≡ arc_value maker.build
    → later.hits ≡ maker.hits → now.probing.build ≡ probed.probing.build → IsProbing now.probing → ((rest : List Row) → LooksUp probed.probing rest → GivesRest (LooksUp now.probing) rest frame.rows stretch.last) → DidProbe maker taken made → DidProbe later taken (made ++ SeenMorsel frame seq source stretch ∷ [])
did-more maker later probed now taken made frame seq source stretch old_is left_is build hits same probing gives did =
    let load : LoadSeen = SeenMorsel frame seq source stretch in
    let looks = subst (λ (p : Option Probed). AreToGive (arc_value maker.build) p did.rest) old_is did.left in
    let h = gives did.rest looks.2 in
    let left : AreToGive (arc_value maker.build) later.probed h.later = subst (λ (p : Option Probed). AreToGive (arc_value maker.build) p h.later) (sym left_is) (by h.later stretch.last h.none (ap arc_value same ∙ looks.0) h.left) in
    record {
      hits = subst (λ (b : Build). HaveHit b later.hits.seen.items (rows_of_loads taken)) (sym build) (subst (λ hs. HaveHit (arc_value maker.build) hs.seen.items (rows_of_loads taken)) (sym hits) did.hits);
      rest = h.later;
      left = subst (λ (b : Build). AreToGive b later.probed h.later) (sym build) left;
      all = ap (λ (xs : List Row). xs ++ h.later) (sym (flat_map_more rows_of_load [] made load)) ∙ append_assoc (rows_of_loads made) frame.rows h.later ∙ ap (λ (xs : List Row). rows_of_loads made ++ xs) (sym h.same) ∙ did.all
          ∙ ap (λ (b : Build). rows_found (kept_side b) (rows_of_loads taken)) (sym build);
    }
  where
    by : (rest : List Row) (b : Bool) → (b ≡ true → rest ≡ []) → arc_value now.probing.build ≡ arc_value maker.build → LooksUp now.probing rest → AreToGive (arc_value maker.build) (if b then None else Some now) rest
    by rest true none is left = none refl
    by rest false none is left = (is, probing, left)

-- a load in whole stretches ends its own
pub ends-begun : (columns : List Field) (seen : LoadSeen) (frame : Table) (seq : ℕ) (source : SourceSeen) (stretch : Stretch) (from to : ℕ) → seen ≡ SeenMorsel frame seq source stretch → AreWholeRows columns seen → from ≡ stretch.from → to ≡ stretch.to → ◌≡◌ {A = List (ℕ × ℕ)} ((from, to) ∷ []) (ends_of seen)
ends-begun columns seen frame seq source stretch from to seen_is whole from_is to_is =
    let rows : AreWholeRows columns (SeenMorsel frame seq source stretch) = subst (λ (l : LoadSeen). AreWholeRows columns l) seen_is whole in
    ap (λ (n : ℕ). (n, to) ∷ []) from_is ∙ ap (λ (n : ℕ). (stretch.from, n) ∷ []) to_is ∙ ap (λ (b : Bool). if b then (stretch.from, stretch.to) ∷ [] else []) (sym rows.2) ∙ ap ends_of (sym seen_is)
