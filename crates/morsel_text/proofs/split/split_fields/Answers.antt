use Rattle.std.proofs.Common.{◌+◌, ◌-◌, ◌∙◌, ◌++◌, ◌∷◌, [], List, Option, Some, ℕ, length, sym, ap, arith, rules}
use Rattle.morsel_grammar.specs.Grammar.{CsvField}
use Rattle.morsel_grammar.specs.Split.{fields_up_to}
use Rattle.morsel_text.specs.RawFields.{shown}
use Rattle.morsel_text.specs.declared.parts.Next.TheVariants as nexts
use Rattle.morsel_text.proofs.SplitLemmas.{fields_next, with_front-field}
use Rattle.morsel_text.proofs.split.split_fields.Goals as goal

pub returns-in-End-clause-value : goal.returns-in-End-clause-value
returns-in-End-clause-value c =
    let n = length c.args.text.now + 1 in
    let front = c.loop.invariant.found.0 in (
      front ++ shown c.last.result ∷ [],
      sym c.loop.invariant.found.2
          ∙ fields_next c.args.options.now front n c.loop.counter c.loop.rest.now (shown c.in-Some.raw) c.in-Some.after.now (nexts.End c.in-End.next)
          (omega arith) c.in-Some.ensures.value c.in-End.ensures.value
          ∙ ap (λ (f : CsvField). let found : List CsvField × List ℕ = (front ++ f ∷ [], c.in-End.next.now) in Some found) (sym c.last.ensures),
      c.in_ok-keep-in-End.ensures front c.loop.invariant.found.1,
    )

pub loop-preserved : goal.loop-preserved
loop-preserved c =
    let n = length c.args.text.now + 1 in
    let front = c.loop.invariant.found.0 in
    let more : Option (List CsvField × List ℕ) = fields_up_to (n - (c.loop.counter + 1)) c.args.options.now c.in-Field.next.now in
    record {
      found = (
        front ++ shown c.in-Some.raw ∷ [],
        c.in_ok-keep-in-Field.ensures front c.loop.invariant.found.1,
        sym (with_front-field front (shown c.in-Some.raw) more)
            ∙ sym (fields_next c.args.options.now front n c.loop.counter c.loop.rest.now (shown c.in-Some.raw) c.in-Some.after.now (nexts.Field c.in-Field.next)
            (omega arith) c.in-Some.ensures.value c.in-Field.ensures.value)
            ∙ c.loop.invariant.found.2,
      );
      within = search rules;
    }
