use Rattle.std.proofs.Common.{◌≡◌, length, ap, ◌∙◌, arith}
use Rattle.std.proofs.lemmas.List.{length-map}
use Rattle.morsel_meaning.specs.declared.value.Field.{Field}
use Rattle.morsel_meaning.specs.Values.{names_of}
use Rattle.morsel_ndjson.proofs.MemberLemmas.{length_beginnings}
use Rattle.morsel_ndjson.proofs.members.make_members.Goals as goal

pub column-requires : goal.column-requires
column-requires c =
    let count : length c.args.begins.now ≡ length c.args.frame.now.schema =
    ap length c.requires ∙ (length_beginnings 123 (names_of c.args.frame.now.schema) ∙ length-map c.args.frame.now.schema (λ (f : Field). f.name))
    in omega (arith, count, c.loop-at-test.true)
