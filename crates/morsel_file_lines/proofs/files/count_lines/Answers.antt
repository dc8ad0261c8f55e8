use Rattle.std.proofs.Common.{rules, ◌≡◌, length, take, arith}
use Rattle.std.proofs.lemmas.Grind.{common_steps}
use Rattle.morsel_file_lines.proofs.LineLemmas.{line_more_of_part}
use Rattle.morsel_file_lines.proofs.files.count_lines.Goals as goal

-- src/files.rt:97:5
pub loop-from-preserved : goal.loop-from-preserved
loop-from-preserved g c =
    let part : length (take c.min-len.result c.loop-from.chunk) ≡ c.min-len.result = grind (arith, common_steps) in
    record {
      same_sizes = search rules;
      same_held = search rules;
      within = omega arith;
      fits = omega (arith, c.in_ok-line.ensures.no_more, part);
      is_line = line_more_of_part (g.H.Io.seen c.args.io.now).held (g.H.Io.seen c.loop-from.io).held c.args.file.0 c.loop-from.from c.min-len.result (length (take c.min-len.result c.loop-from.chunk)) c.loop-from.line c.in_ok-line.field-0 c.loop-from.invariant.same_held part c.loop-from.invariant.is_line c.in_ok-line.ensures.value;
    }
