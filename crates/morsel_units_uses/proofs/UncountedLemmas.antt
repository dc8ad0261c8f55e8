-- Loads that end no stretch among those that are sent.
use Rattle.std.proofs.Common.{◌≡◌, ◌∙◌, sym, ap, refl, ℕ, All, None, List, [], ◌∷◌, ◌++◌, replicate, false, arith}
use Rattle.std.proofs.lemmas.Grind.{flat_map-append}
use Rattle.std.proofs.lemmas.List.{length-append, length-replicate}
use Rattle.std.proofs.lemmas.List.Elements.{All-append, All-head, All-replicate, All-tail}
use Rattle.morsel_load.specs.Loads.{load_seen}
use Rattle.morsel_load.specs.declared.load.Load.{Load}
use Rattle.morsel_load.specs.declared.load.Load.TheVariants.{Part}
use Rattle.morsel_prims.specs.Polled.{held_list}
use Rattle.morsel_lane_pipe.specs.Stretches.{ends_of, stretches}
use Rattle.morsel_units_uses.specs.Uncounted.{EndsNone, AddsNoStretch, BoundsNoNumber, SomeEndsNone}

module _ {K J : Type 0} where
  -- such loads end no stretch together
  stretches-none : (more : List (Load K J)) → All EndsNone more → stretches more ≡ []
  stretches-none [] none = refl
  stretches-none (load ∷ more) none =
      ap (λ z. z ++ stretches more) (All-head EndsNone load more none) ∙ stretches-none more (All-tail EndsNone load more none)

  -- they change nothing between others
  stretches-among : (before more after : List (Load K J)) → All EndsNone more → stretches (before ++ after) ≡ stretches (before ++ (more ++ after))
  stretches-among before more after none =
      let ends : Load K J → List (ℕ × ℕ) = λ load. ends_of (load_seen load) in
      let whole = flat_map-append ends before (more ++ after) in
      let behind = flat_map-append ends more after in
      let without = flat_map-append ends before after in
      let gone = ap (λ z. z ++ stretches after) (stretches-none more none) in
      without ∙ ap (λ z. stretches before ++ z) (sym gone ∙ sym behind) ∙ sym whole

  pub adds_no_stretch : AddsNoStretch K J
  adds_no_stretch taken before more after held left none =
      let rest : List (ℕ × ℕ) = stretches (held_list held) ++ left in
      let same = stretches-among before more after none in (
        (λ kept. record { same = kept.same ∙ ap (λ z. z ++ rest) same }),
        (λ kept. record { same = kept.same ∙ ap (λ z. z ++ rest) (sym same) }),
      )

  pub bounds_no_number : (suits : J → Load K J → Type 0) → BoundsNoNumber suits
  bounds_no_number suits job one suited none taken sent held left all kept n =
      let more : List (Load K J) = replicate n one in
      let long = length-append more sent in
      let many = length-replicate n one in (
        more ++ sent,
        omega (arith, long, many),
        All-append (suits job) more sent (All-replicate (suits job) n one suited) all,
        (adds_no_stretch taken [] more sent held left (All-replicate EndsNone n one none)).0 kept,
      )

  pub has_some : SomeEndsNone K J
  has_some = (Part 0 (record { rows = 0; bytes = []; from = 0; to = 0; skip = 0; last = false; meta = None }), refl)
