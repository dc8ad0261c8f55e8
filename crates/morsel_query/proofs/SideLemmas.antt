-- Flaws of a side and of keys, as those of a query that has them.
use Rattle.std.proofs.Common.{◌≡◌, ◌∙◌, ◌++◌, ◌||◌, ◌⊎◌, inl, inr, ℕ, ◌<◌, List, [], ◌∷◌, Bool, true, false, Option, Some, None, length, refl, ap, sym, append-nil}
use Rattle.std.specs.Str.{bytes_eq}
use Rattle.morsel_meaning.specs.declared.fault.Why.{Why}
use Rattle.morsel_meaning.specs.declared.fault.Why.TheVariants as whys
use Rattle.morsel_frame.specs.Names.{stands_in}
use Rattle.morsel_query.specs.QueryFlaws.{Side, JoinKeys, HasSide, sources_of_sides, IsFlaw, AreJoinKeys, AreSoundGroupKeys, AreSound}

or_assoc : (a b c : Bool) → ((a || b) || c) ≡ (a || (b || c))
or_assoc true b c = refl
or_assoc false b c = refl

or_right : (a b : Bool) → b ≡ true → (a || b) ≡ true
or_right true b is = refl
or_right false b is = is

or_left : (a b : Bool) → a ≡ true → (a || b) ≡ true
or_left true b is = refl
or_left false b is = cc

neither : (a b : Bool) → a ≡ false → b ≡ false → (a || b) ≡ false
neither a b first second = rw (first, second) refl

stands_in-append : (name : List ℕ) (before after : List (List ℕ)) → stands_in name (before ++ after) ≡ (stands_in name before || stands_in name after)
stands_in-append name [] after = refl
stands_in-append name (other ∷ before) after =
    ap (λ (t : Bool). bytes_eq other name || t) (stands_in-append name before after)
    ∙ sym (or_assoc (bytes_eq other name) (stands_in name before) (stands_in name after))

side_alone : (P : Side → Type 0) (side : Side) (sides : List Side) → HasSide P (side ∷ []) → HasSide P (side ∷ sides)
side_alone P side sides has = elim has [ inl here ↦ inl here | inr there ↦ absurd there ]

among_sources : (side : Side) (sink : List ℕ) → stands_in sink (sources_of_sides (side ∷ [])) ≡ stands_in sink side.sources
among_sources side sink = ap (stands_in sink) (append-nil side.sources)

neither_of : ⊥ ⊎ ⊥ → ⊥
neither_of has = elim has [ inl here ↦ here | inr there ↦ there ]

-- a flaw of the first side is one of the whole
pub flaw_in_front : (side : Side) (sides : List Side) (keys : Option JoinKeys) (group : Option (List (List ℕ))) (sink : List ℕ) (why : Why) → IsFlaw (side ∷ []) None None sink why
    → IsFlaw (side ∷ sides) keys group sink why
flaw_in_front side sides keys group sink whys.NoSource flaw = side_alone (λ s. length s.sources ≡ 0) side sides flaw
flaw_in_front side sides keys group sink whys.ManySources flaw = side_alone (λ s. 65536 < length s.sources) side sides flaw
flaw_in_front side sides keys group sink whys.NoColumn flaw = side_alone (λ s. Rattle.morsel_query.specs.QueryFlaws.AreNoColumns s.columns) side sides flaw
flaw_in_front side sides keys group sink whys.SinkIsSource flaw =
    stands_in-append sink side.sources (sources_of_sides sides) ∙ or_left (stands_in sink side.sources) (stands_in sink (sources_of_sides sides)) (sym (among_sources side sink) ∙ flaw)
flaw_in_front side sides keys group sink whys.NoKeys flaw = absurd (neither_of flaw)
flaw_in_front side sides keys group sink whys.RepeatedKey flaw = absurd (neither_of flaw)
flaw_in_front side sides keys group sink whys.UnequalKeys flaw = absurd flaw
flaw_in_front side sides keys group sink whys.OptionRange flaw = absurd flaw
flaw_in_front side sides keys group sink whys.BlockFiles flaw = absurd flaw
flaw_in_front side sides keys group sink whys.ParseBytes flaw = absurd flaw
flaw_in_front side sides keys group sink whys.PredDepth flaw = absurd flaw

-- and so is one of what follows it
pub flaw_behind : (side : Side) (sides : List Side) (keys : Option JoinKeys) (group : Option (List (List ℕ))) (sink : List ℕ) (why : Why) → IsFlaw sides keys group sink why
    → IsFlaw (side ∷ sides) keys group sink why
flaw_behind side sides keys group sink whys.NoSource flaw = inr flaw
flaw_behind side sides keys group sink whys.ManySources flaw = inr flaw
flaw_behind side sides keys group sink whys.NoColumn flaw = inr flaw
flaw_behind side sides keys group sink whys.SinkIsSource flaw =
    stands_in-append sink side.sources (sources_of_sides sides) ∙ or_right (stands_in sink side.sources) (stands_in sink (sources_of_sides sides)) flaw
flaw_behind side sides keys group sink whys.NoKeys flaw = flaw
flaw_behind side sides keys group sink whys.RepeatedKey flaw = flaw
flaw_behind side sides keys group sink whys.UnequalKeys flaw = flaw
flaw_behind side sides keys group sink whys.OptionRange flaw = absurd flaw
flaw_behind side sides keys group sink whys.BlockFiles flaw = absurd flaw
flaw_behind side sides keys group sink whys.ParseBytes flaw = absurd flaw
flaw_behind side sides keys group sink whys.PredDepth flaw = absurd flaw

-- and one of the keys of a join
pub flaw_among_keys : (sides : List Side) (keys : JoinKeys) (group : Option (List (List ℕ))) (sink : List ℕ) (why : Why) → IsFlaw [] (Some keys) None [] why → IsFlaw sides (Some keys) group sink why
flaw_among_keys sides keys group sink whys.NoSource flaw = absurd flaw
flaw_among_keys sides keys group sink whys.ManySources flaw = absurd flaw
flaw_among_keys sides keys group sink whys.NoColumn flaw = absurd flaw
flaw_among_keys sides keys group sink whys.SinkIsSource flaw = cc
flaw_among_keys sides keys group sink whys.NoKeys flaw = elim flaw [ inl joined ↦ inl joined | inr grouped ↦ absurd grouped ]
flaw_among_keys sides keys group sink whys.RepeatedKey flaw = elim flaw [ inl joined ↦ inl joined | inr grouped ↦ absurd grouped ]
flaw_among_keys sides keys group sink whys.UnequalKeys flaw = flaw
flaw_among_keys sides keys group sink whys.OptionRange flaw = absurd flaw
flaw_among_keys sides keys group sink whys.BlockFiles flaw = absurd flaw
flaw_among_keys sides keys group sink whys.ParseBytes flaw = absurd flaw
flaw_among_keys sides keys group sink whys.PredDepth flaw = absurd flaw

-- and one of all that comes before a group-by
pub flaw_before_group : (sides : List Side) (keys : Option JoinKeys) (group : Option (List (List ℕ))) (sink : List ℕ) (why : Why) → IsFlaw sides keys None sink why → IsFlaw sides keys group sink why
flaw_before_group sides keys group sink whys.NoSource flaw = flaw
flaw_before_group sides keys group sink whys.ManySources flaw = flaw
flaw_before_group sides keys group sink whys.NoColumn flaw = flaw
flaw_before_group sides keys group sink whys.SinkIsSource flaw = flaw
flaw_before_group sides keys group sink whys.NoKeys flaw = elim flaw [ inl joined ↦ inl joined | inr grouped ↦ absurd grouped ]
flaw_before_group sides keys group sink whys.RepeatedKey flaw = elim flaw [ inl joined ↦ inl joined | inr grouped ↦ absurd grouped ]
flaw_before_group sides keys group sink whys.UnequalKeys flaw = flaw
flaw_before_group sides keys group sink whys.OptionRange flaw = absurd flaw
flaw_before_group sides keys group sink whys.BlockFiles flaw = absurd flaw
flaw_before_group sides keys group sink whys.ParseBytes flaw = absurd flaw
flaw_before_group sides keys group sink whys.PredDepth flaw = absurd flaw

-- and one of the keys of a group-by
pub flaw_in_group : (sides : List Side) (keys : Option JoinKeys) (group : Option (List (List ℕ))) (sink : List ℕ) (why : Why) → IsFlaw [] None group [] why → IsFlaw sides keys group sink why
flaw_in_group sides keys group sink whys.NoSource flaw = absurd flaw
flaw_in_group sides keys group sink whys.ManySources flaw = absurd flaw
flaw_in_group sides keys group sink whys.NoColumn flaw = absurd flaw
flaw_in_group sides keys group sink whys.SinkIsSource flaw = cc
flaw_in_group sides keys group sink whys.NoKeys flaw = elim flaw [ inl joined ↦ absurd joined | inr grouped ↦ inr grouped ]
flaw_in_group sides keys group sink whys.RepeatedKey flaw = elim flaw [ inl joined ↦ absurd joined | inr grouped ↦ inr grouped ]
flaw_in_group sides keys group sink whys.UnequalKeys flaw = absurd flaw
flaw_in_group sides keys group sink whys.OptionRange flaw = absurd flaw
flaw_in_group sides keys group sink whys.BlockFiles flaw = absurd flaw
flaw_in_group sides keys group sink whys.ParseBytes flaw = absurd flaw
flaw_in_group sides keys group sink whys.PredDepth flaw = absurd flaw

-- a side without flaws, and what follows it without flaws
pub sound_with_side : (side : Side) (sides : List Side) (keys : Option JoinKeys) (group : Option (List (List ℕ))) (sink : List ℕ) → AreSound (side ∷ []) None None sink → AreSound sides keys group sink
    → AreSound (side ∷ sides) keys group sink
sound_with_side side sides keys group sink first rest = record {
  each = (first.each.0, rest.each);
  keys_fit = rest.keys_fit;
  group_fits = rest.group_fits;
  sink_apart =
      stands_in-append sink side.sources (sources_of_sides sides)
      ∙ neither (stands_in sink side.sources) (stands_in sink (sources_of_sides sides)) (sym (among_sources side sink) ∙ first.sink_apart) rest.sink_apart;
}

-- sides without flaws, and keys of a join without flaws
pub sound_with_keys : (sides : List Side) (keys : JoinKeys) (sink : List ℕ) → AreSound sides None None sink → AreJoinKeys keys → AreSound sides (Some keys) None sink
sound_with_keys sides keys sink sound fit = record { each = sound.each; keys_fit = fit; group_fits = sound.group_fits; sink_apart = sound.sink_apart }

-- what comes before a group-by without flaws, and its keys without flaws
pub sound_with_group : (sides : List Side) (keys : Option JoinKeys) (group : Option (List (List ℕ))) (sink : List ℕ) → AreSound sides keys None sink → AreSoundGroupKeys group
    → AreSound sides keys group sink
sound_with_group sides keys group sink sound fit = record { each = sound.each; keys_fit = sound.keys_fit; group_fits = fit; sink_apart = sound.sink_apart }
