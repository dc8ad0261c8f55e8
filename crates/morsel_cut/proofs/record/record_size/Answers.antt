use Rattle.std.proofs.Common.{◌∙◌, List, ℕ, sym, ap, arith}
use Rattle.std.specs.Prelude.{Option, Some, None}
use Rattle.morsel_grammar.specs.Dialect.{Dialect}
use Rattle.morsel_cut.specs.Places.{options_with}
use Rattle.morsel_cut.specs.FirstEnds.{record_size}
use Rattle.morsel_cut.proofs.SizeLemmas.{bare_size, record_size-le, record_size-some}
use Rattle.morsel_cut.proofs.record.record_size.Goals as goal

pub returns-in-Some-clause-within : goal.returns-in-Some-clause-within
returns-in-Some-clause-within c = omega (arith, c.prefix_size.ensures, record_size-le (options_with c.of-delimiters.result (Some c.as_bytes.result.now)) c.args.text.now)

pub returns-in-Some-clause-some : goal.returns-in-Some-clause-some
returns-in-Some-clause-some c = λ some. omega (arith, c.prefix_size.ensures, record_size-some (options_with c.of-delimiters.result (Some c.as_bytes.result.now)) c.args.text.now some)

pub returns-in-None-clause-value : goal.returns-in-None-clause-value
returns-in-None-clause-value c =
    c.plain_size.ensures
    ∙ sym (bare_size c.of-delimiters.result c.args.text.now)
    ∙ ap (λ (p : Option (List ℕ)). record_size (options_with c.of-delimiters.result p) c.args.text.now) c.in-None.ensures.value
    ∙ ap (λ (o : Dialect). record_size o c.args.text.now) c.of-delimiters.ensures

pub returns-in-None-clause-within : goal.returns-in-None-clause-within
returns-in-None-clause-within c =
    omega (arith, c.plain_size.ensures, bare_size c.of-delimiters.result c.args.text.now, record_size-le (options_with c.of-delimiters.result None) c.args.text.now)

pub returns-in-None-clause-some : goal.returns-in-None-clause-some
returns-in-None-clause-some c = λ some.
    omega (arith, c.plain_size.ensures, bare_size c.of-delimiters.result c.args.text.now, record_size-some (options_with c.of-delimiters.result None) c.args.text.now some)
