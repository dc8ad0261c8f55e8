-- A query that is sound has no flaw.
use Rattle.std.proofs.Common.{◌≡◌, inl, inr, ℕ, ◌<◌, ◌||◌, Bool, true, false, List, [], ◌∷◌, Option, Some, None, length, arith}
use Rattle.morsel_meaning.specs.declared.fault.Why.TheVariants as whys
use Rattle.morsel_query.specs.QueryFlaws.{Side, JoinKeys, has_repeats, HasSide, HasKeys, HasGroupKeys, AreNoColumns, AreColumns, AreNoKeys, IsSoundSide, AreSoundSides, AreSoundKeys, AreSoundGroupKeys, SoundHasNoFlaw}

none-has : (P : Side → Type 0) (sides : List Side) → ((side : Side) → IsSoundSide side → P side → ⊥) → AreSoundSides sides → HasSide P sides → ⊥
none-has P [] apart sound has = has
none-has P (side ∷ sides) apart sound has = elim has [ inl here ↦ apart side sound.0 here | inr there ↦ none-has P sides apart sound.1 there ]

columns-apart : (columns : Option ℕ) → AreColumns columns → AreNoColumns columns → ⊥
columns-apart None are none = none
columns-apart (Some columns) are none = elim none [ inl nothing ↦ omega arith | inr many ↦ omega arith ]

once_told : (a b : Bool) → a ≡ false → b ≡ false → (a || b) ≡ true → ⊥
once_told true b left right either = cc
once_told false b left right either = cc

some_joined : (keys : Option JoinKeys) → AreSoundKeys keys → HasKeys AreNoKeys keys → ⊥
some_joined None fit none = none
some_joined (Some keys) fit none = omega (arith, fit.some, none.0)

once_joined : (keys : Option JoinKeys) → AreSoundKeys keys → HasKeys (λ names. (has_repeats names.left || has_repeats names.right) ≡ true) keys → ⊥
once_joined None fit twice = twice
once_joined (Some keys) fit twice = once_told (has_repeats keys.left) (has_repeats keys.right) fit.left_once fit.right_once twice

some_grouped : (group : Option (List (List ℕ))) → AreSoundGroupKeys group → HasGroupKeys (λ names. length names ≡ 0) group → ⊥
some_grouped None fit none = none
some_grouped (Some names) fit none = omega (arith, fit.some, none)

once_grouped : (group : Option (List (List ℕ))) → AreSoundGroupKeys group → HasGroupKeys (λ names. has_repeats names ≡ true) group → ⊥
once_grouped None fit twice = twice
once_grouped (Some names) fit twice = let once = fit.once in cc

pub sound_has_no_flaw : SoundHasNoFlaw
sound_has_no_flaw sides keys group sink whys.NoSource sound flaw = none-has (λ side. length side.sources ≡ 0) sides (λ side is none. omega (arith, is.some_source, none)) sound.each flaw
sound_has_no_flaw sides keys group sink whys.ManySources sound flaw = none-has (λ side. 65536 < length side.sources) sides (λ side is many. omega (arith, is.few_sources, many)) sound.each flaw
sound_has_no_flaw sides keys group sink whys.NoColumn sound flaw = none-has (λ side. AreNoColumns side.columns) sides (λ side is none. columns-apart side.columns is.columns none) sound.each flaw
sound_has_no_flaw sides keys group sink whys.SinkIsSource sound flaw = let apart = sound.sink_apart in cc
sound_has_no_flaw sides keys group sink whys.OptionRange sound flaw = flaw
sound_has_no_flaw sides keys group sink whys.BlockFiles sound flaw = flaw
sound_has_no_flaw sides keys group sink whys.ParseBytes sound flaw = flaw
sound_has_no_flaw sides keys group sink whys.NoKeys sound flaw = elim flaw [ inl joined ↦ some_joined keys sound.keys_fit joined | inr grouped ↦ some_grouped group sound.group_fits grouped ]
sound_has_no_flaw sides keys group sink whys.RepeatedKey sound flaw = elim flaw [ inl joined ↦ once_joined keys sound.keys_fit joined | inr grouped ↦ once_grouped group sound.group_fits grouped ]
sound_has_no_flaw sides None group sink whys.UnequalKeys sound flaw = flaw
sound_has_no_flaw sides (Some keys) group sink whys.UnequalKeys sound flaw = flaw sound.keys_fit.equal
sound_has_no_flaw sides keys group sink whys.PredDepth sound flaw = flaw
