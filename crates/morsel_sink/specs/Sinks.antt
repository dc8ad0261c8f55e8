-- The text of rows in a sink.
use Rattle.std.specs.Prelude.{◌≡◌, ℕ, true, None, List, length}
use Rattle.morsel_meaning.specs.Values.{Row}
use Rattle.morsel_ndjson.specs.Ndjson.{ndjson}
use Rattle.morsel_pipe.specs.Pieces.{Part}
use Rattle.morsel_sink.specs.declared.spec.SinkFormat.{SinkFormat}
use Rattle.morsel_sink.specs.declared.spec.SinkFormat.TheVariants as formats

-- the text of rows with columns of these names, in a format
abbrev pub text_by_format : SinkFormat → List (List ℕ) → List Row → List ℕ
text_by_format formats.NdJson names rows = ndjson names rows

-- the part is the text of these rows, as all rows of a stretch that begins and ends at 0
pub record EncodesRows (format : SinkFormat) (names : List (List ℕ)) (rows : List Row) (part : Part) : Type 0 where
  pub count : part.rows ≡ length rows
  pub text : part.bytes ≡ text_by_format format names rows
  pub from : part.from ≡ 0
  pub to : part.to ≡ 0
  pub skip : part.skip ≡ 0
  pub last : part.last ≡ true
  pub meta : part.meta ≡ None
