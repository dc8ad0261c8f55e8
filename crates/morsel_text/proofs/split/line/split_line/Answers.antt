use Rattle.std.proofs.Common.{◌≡◌, ◌==◌, ◌+◌, ◌-◌, ◌∙◌, List, Option, Some, ℕ, length, take, drop, map, sym, ap, refl, arith, length-append}
use Rattle.std.proofs.lemmas.List.{length-drop}
use Rattle.morsel_grammar.specs.Grammar.{CsvField}
use Rattle.morsel_grammar.specs.Split.{fields_up_to}
use Rattle.morsel_text.specs.RawFields.{shown, with_front}
use Rattle.morsel_text.proofs.SplitLemmas.{shown-push}
use Rattle.morsel_text.proofs.LineLemmas.{plain, line_behind, marks_behind, separated, line_ended}
use Rattle.morsel_text.proofs.split.line.split_line.Goals as goal

pub loop-at-preserved : goal.loop-at-preserved
loop-at-preserved c =
    let o = c.args.options.now in
    let items = c.loop-at.fields.items in
    let rest = c.loop-at.rest.now in
    let at = c.loop-at.at in
    let n = length c.args.text.now + 1 in
    let front = map shown items in
    let more : Option (List CsvField × List ℕ) = fields_up_to (n - (length items + 1)) o (drop (at + 1) rest) in
    let pushed : length c.push.new.self.items ≡ length items + 1 = omega (arith, simp length-append at (ap length c.in-Ok.ensures.items)) in
    record {
      short = omega arith;
      few = omega (arith, pushed);
      line = rw c.rest_after-rest.ensures (line_behind o rest c.loop-at.left (at + 1) c.loop-at.invariant.line (omega arith));
      marked = rw c.rest_after-rest.ensures (marks_behind (λ b. b == o.separator) rest c.loop-at.left c.loop-at.marks (at + 1) c.loop-at.invariant.marked (omega arith));
      lowest = refl;
      within = omega (arith, ap length c.rest_after-rest.ensures, length-drop (at + 1) rest, c.loop-at.invariant.line.within);
      found = ap (λ k. with_front (map shown c.push.new.self.items) (fields_up_to (n - k) o c.rest_after-rest.result.now)) pushed
          ∙ ap (λ r. with_front (map shown c.push.new.self.items) (fields_up_to (n - (length items + 1)) o r)) c.rest_after-rest.ensures
          ∙ ap (λ fs. with_front fs more) (shown-push items _ _ (plain (take at rest)) c.in-Ok.ensures.items refl)
          ∙ sym (separated o front rest n (length items) c.loop-at.left c.loop-at.marks at (omega arith) c.loop-at.invariant.line c.loop-at.invariant.marked
          c.loop-at.auto.marks-fits.fits c.loop-at.invariant.lowest c.loop-at-test.true c.loop-at.invariant.short)
          ∙ c.loop-at.invariant.found;
    }

pub returns-clause-value : goal.returns-clause-value
returns-clause-value c =
    let o = c.args.options.now in
    let items = c.loop-at.fields.items in
    let rest = c.loop-at.rest.now in
    let left = c.loop-at.left in
    sym c.loop-at.invariant.found
    ∙ line_ended o (map shown items) rest (length c.args.text.now + 1) (length items) left c.loop-at.marks c.requires.fit (omega arith) c.loop-at.invariant.line
    c.loop-at.invariant.marked c.loop-at.auto.marks-fits.fits (omega arith)
    ∙ ap (λ (fs : List CsvField). let found : List CsvField × List ℕ = (fs, drop (left + 1) rest) in Some found)
    (sym (shown-push items _ _ _ c.in-Ok-push.ensures.items c.last.ensures))
    ∙ ap (λ (r : List ℕ). let found : List CsvField × List ℕ = (map shown c.push-2.new.self.items, r) in Some found) (sym c.rest_after.ensures)
