use Rattle.std.proofs.Common.{◌↔◌, drop}
use Rattle.morsel_grammar.specs.Dialect.{AreAscii, IsWithout}
use Rattle.morsel_grammar.proofs.options.are_comment_bytes.Given as goal

-- what is left decides
abbrev pub invariant-loop-b : goal.invariant-loop-b
invariant-loop-b l = (AreAscii (drop l.b-index l.prefix) × IsWithout l.eol (drop l.b-index l.prefix)) ↔ (AreAscii l.prefix × IsWithout l.eol l.prefix)
