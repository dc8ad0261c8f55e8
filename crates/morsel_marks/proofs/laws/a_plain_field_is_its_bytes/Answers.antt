use Rattle.morsel_marks.proofs.ReadLemmas.{keeps_plain_fields}
use Rattle.morsel_marks.proofs.laws.a_plain_field_is_its_bytes.Goals as goal

pub returns : goal.returns
returns c = λ o fit. keeps_plain_fields o fit
