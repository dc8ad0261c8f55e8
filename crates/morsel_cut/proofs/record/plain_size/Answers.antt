use Rattle.std.proofs.Common.{◌≡◌, ℕ, ◌+◌, ◌≤◌, ◌∙◌, length, drop, sym, ap, arith}
use Rattle.std.proofs.lemmas.List.{take_rest, length-drop}
use Rattle.morsel_grammar.specs.Machine.{place_step, is_after_eol}
use Rattle.morsel_cut.specs.Places.{cut_place, delimiter_options}
use Rattle.morsel_cut.specs.FirstEnds.{first_place}
use Rattle.morsel_cut.proofs.SizeLemmas.{size_on, size_ends}
use Rattle.morsel_cut.proofs.record.plain_size.Goals as goal

pub returns-then-is_after_eol : goal.returns-then-is_after_eol
returns-then-is_after_eol c =
    let at = c.loop-at.at in
    let text = c.args.text.now in
    let len = c.next_place-next.result.1 in
    let within : len ≤ length (drop at text) = omega (arith, length-drop at text) in
    let ends = size_ends (place_step (delimiter_options c.args.delimiters)) is_after_eol (cut_place c.loop-at.place) (cut_place c.next_place-next.result.0) text at len within
    c.next_place-next.ensures.some (rw (take_rest text at) at c.next_place-next.ensures.first) (rw (take_rest text at) at c.next_place-next.ensures.place)
    (sym c.is_after_eol.ensures ∙ c.if-is_after_eol.true) in
    sym (c.loop-at.invariant.size ∙ ap (λ (n : ℕ). at + n) ends)

pub loop-at-preserved : goal.loop-at-preserved
loop-at-preserved c =
    let at = c.loop-at.at in
    let text = c.args.text.now in
    let len = c.next_place-next.result.1 in
    let within : len ≤ length (drop at text) = omega (arith, length-drop at text) in
    let later = first_place (place_step (delimiter_options c.args.delimiters)) is_after_eol (cut_place c.next_place-next.result.0) (drop (at + len) text) in
    let goes = size_on (place_step (delimiter_options c.args.delimiters)) is_after_eol (cut_place c.loop-at.place) (cut_place c.next_place-next.result.0) text at len within
    (rw (take_rest text at) at c.next_place-next.ensures.first) (rw (take_rest text at) at c.next_place-next.ensures.place)
    (sym c.is_after_eol.ensures ∙ c.if-is_after_eol.false) in
    let both : at + (len + later) ≡ at + len + later = omega arith in
    record { within = omega (arith, length-drop at text); size = c.loop-at.invariant.size ∙ ap (λ (n : ℕ). at + n) goes ∙ both }
