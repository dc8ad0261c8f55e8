use Rattle.std.proofs.Common.{◌+◌, ◌-◌, ◌∙◌, ◌++◌, List, [], ◌∷◌, Option, Some, ℕ, length, sym, ap, arith, rules}
use Rattle.morsel_grammar.specs.Grammar.{CsvField}
use Rattle.morsel_grammar.specs.Split.{fields_up_to}
use Rattle.morsel_text.specs.RawFields.{with_front}
use Rattle.morsel_text.specs.declared.parts.Next.TheVariants as nexts
use Rattle.morsel_text.proofs.SplitLemmas.{fields_next, with_front-field}
use Rattle.morsel_text.proofs.plain.records.split_fields.Goals as goal

pub returns-in-End-clause-value : goal.returns-in-End-clause-value
returns-in-End-clause-value c =
    let n = length c.args.text.now + 1 in
    let front = c.loop.fields.items in
    sym c.loop.invariant.found
    ∙ fields_next c.args.options.now front n c.loop.counter c.loop.rest.now c.in-Some.found c.in-Some.after.now (nexts.End c.in-End.next)
    (omega arith) (rw c.in-Some.is at c.in_ok-found.ensures.value) c.in-End.ensures.value
    ∙ ap (λ (fs : List CsvField). let found : List CsvField × List ℕ = (fs, c.in-End.next.now) in Some found)
    (ap (λ f. front ++ f ∷ []) (sym c.last.ensures) ∙ sym c.in_ok-push-in-End.ensures.items)

pub loop-preserved : goal.loop-preserved
loop-preserved c =
    let n = length c.args.text.now + 1 in
    let front = c.loop.fields.items in
    let more : Option (List CsvField × List ℕ) = fields_up_to (n - (c.loop.counter + 1)) c.args.options.now c.in-Field.next.now in
    record {
      found = ap (λ fs. with_front fs more) c.in_ok-push-in-Field.ensures.items
          ∙ sym (with_front-field front c.in-Some.found more)
          ∙ sym (fields_next c.args.options.now front n c.loop.counter c.loop.rest.now c.in-Some.found c.in-Some.after.now (nexts.Field c.in-Field.next)
          (omega arith) (rw c.in-Some.is at c.in_ok-found.ensures.value) c.in-Field.ensures.value)
          ∙ c.loop.invariant.found;
      within = search rules;
    }
