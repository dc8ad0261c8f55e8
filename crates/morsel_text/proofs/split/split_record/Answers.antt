use Rattle.std.proofs.Common.{◌≡◌, Some, arith, rules, map}
use Rattle.std.proofs.lemmas.List.{length-map}
use Rattle.morsel_grammar.specs.Grammar.{Fields}
use Rattle.morsel_grammar.specs.Split.{record_at}
use Rattle.morsel_text.specs.RawFields.{shown}
use Rattle.morsel_text.proofs.KeptLemmas.{kept_all}
use Rattle.morsel_text.proofs.SplitLemmas.{comment_found}
use Rattle.morsel_text.proofs.split.split_record.Goals as goal

pub returns-in-Some-behind_front-clause-value : goal.returns-in-Some-behind_front-clause-value
returns-in-Some-behind_front-clause-value c =
    comment_found c.args.options.now c.args.text.now c.in-Some.prefix.now c.in-Some-behind_front.body.now _ c.eol.result
    c.in-Some.ensures.value (rw (c.as_bytes.ensures.value, c.as_str.ensures) at c.in-Some-behind_front.ensures.value)
    c.eol.ensures c.behind_line.ensures.value

pub returns-in-Some-split_short-clause-value : goal.returns-in-Some-split_short-clause-value
returns-in-Some-split_short-clause-value c =
    let fields = c.split_short.new.fields.items in
    let found : record_at c.args.options.now c.args.text.now ≡ Some (Fields (map shown fields), c.in-Some-split_short.rest.now) = search rules in
    (map shown fields, found, kept_all c.args.limit (map shown fields) (omega (arith, length-map fields shown, c.in-Some-split_short.ensures.few)))
