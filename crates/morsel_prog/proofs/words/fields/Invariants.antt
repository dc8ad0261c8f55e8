use Rattle.std.proofs.Common.{◌≡◌, length}
use denote.Text.{Utf8}
use denote.Shadow.{shadow}
use Rattle.morsel_prog.specs.Words.{parts_at, fields_of}
use Rattle.morsel_prog.proofs.FieldLemmas.{prefixed}
use Rattle.morsel_prog.proofs.words.fields.Given as goal

-- the fields so far, and those of what is left, are those of the text
abbrev pub invariant-parts : goal.invariant-parts
invariant-parts l = shadow (Utf8 l.rest)
    × (prefixed l.fields.items (fields_of (parts_at 44 l.rest)) ≡ fields_of (parts_at 44 l.text))

abbrev pub decreases-parts : goal.decreases-parts
decreases-parts l = length l.rest
