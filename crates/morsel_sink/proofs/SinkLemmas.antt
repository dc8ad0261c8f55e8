-- The texts of parts, one after the other.
use Rattle.std.proofs.Common.{◌≡◌, ℕ, ap, refl, ◌∙◌}
use Rattle.std.specs.Prelude.{List, [], ◌∷◌, ◌++◌}
use Rattle.std.specs.List.{flat_map}
use Rattle.std.proofs.lemmas.Grind.{flat_map-append}
use Rattle.morsel_meaning.specs.Values.{Row}
use Rattle.morsel_ndjson.specs.Ndjson.{ndjson, json_line}
use Rattle.morsel_sink.specs.Sinks.{text_by_format}
use Rattle.morsel_sink.specs.declared.spec.SinkFormat.{SinkFormat}
use Rattle.morsel_sink.specs.declared.spec.SinkFormat.TheVariants as formats

pub text-parts : (format : SinkFormat) (names : List (List ℕ)) (parts : List (List Row)) → text_by_format format names (flat_map (λ rows. rows) parts) ≡ flat_map (text_by_format format names) parts
text-parts formats.NdJson names [] = refl
text-parts formats.NdJson names (rows ∷ parts) =
    flat_map-append (json_line names) rows (flat_map (λ (rows : List Row). rows) parts) ∙ ap (λ text. ndjson names rows ++ text) (text-parts formats.NdJson names parts)
