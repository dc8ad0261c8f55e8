use Rattle.std.proofs.Common.{◌≡◌, ℕ, true, false, Bool, take, MatchOption, IfOk}
use Rattle.morsel_marks.specs.Marks.{marks_from, is_well_quoted_by}
use Rattle.morsel_marks.proofs.TextLemmas.{same_bytes}
use Rattle.morsel_marks.proofs.fields.mark_fields.Goals as goal

pub returns-clause-ok : goal.returns-clause-ok
returns-clause-ok c =
    let text = c.args.text.now in
    same_bytes c.args.options.now c.separator-separator.result c.eol-eol.result c.quote-quote.result
    (λ (q s : ℕ → Bool). IfOk c.mark_bytes.result (λ found. MatchOption found (is_well_quoted_by q s text ≡ false)
    (λ n. (is_well_quoted_by q s text ≡ true) × (take n c.mark_bytes.new.places.items ≡ marks_from q s 0 false text))))
    c.separator-separator.ensures c.quote-quote.ensures c.eol-eol.ensures c.mark_bytes.ensures.ok
