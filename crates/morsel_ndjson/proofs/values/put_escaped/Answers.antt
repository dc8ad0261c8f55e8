use Rattle.std.proofs.Common.{◌≡◌, ℕ, List, ◌+◌, ◌-◌, ◌++◌, length, take, drop, ap, sym, ◌∙◌, append_assoc, length-drop, arith}
use Rattle.std.proofs.lemmas.List.{take_all}
use Rattle.std.specs.List.{flat_map}
use Rattle.morsel_ndjson.specs.Ndjson.{escaped}
use Rattle.morsel_ndjson.proofs.EscapeLemmas.{plain_front}
use Rattle.morsel_ndjson.proofs.values.put_escaped.Goals as goal

pub returns-clause-written : goal.returns-clause-written
returns-clause-written c =
    let text : List ℕ = c.args.text.now
    in let plain : ℕ = c.put_front-plain.result
    in let whole : take (length text - plain) (drop plain text) ≡ drop plain text = take_all (length text - plain) (drop plain text) (omega (arith, length-drop plain text))
    in c.put_chars.ensures.written
    ∙ (ap (λ (s : List ℕ). take (c.args.at + plain) c.put_front-plain.new.out ++ flat_map escaped s) whole
    ∙ (ap (λ (s : List ℕ). s ++ flat_map escaped (drop plain text)) c.put_front-plain.ensures.written
    ∙ (append_assoc (take c.args.at c.args.out.now) (take plain text) (flat_map escaped (drop plain text))
    ∙ ap (λ (s : List ℕ). take c.args.at c.args.out.now ++ s) (sym (plain_front text plain c.put_front-plain.ensures.within c.put_front-plain.ensures.plain)))))
