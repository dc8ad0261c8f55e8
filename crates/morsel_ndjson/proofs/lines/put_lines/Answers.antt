use Rattle.std.proofs.Common.{◌<◌, ◌+◌, ◌++◌, [], length, get_or, drop, ◌∙◌, arith}
use Rattle.morsel_meaning.specs.Values.{Row, names_of}
use Rattle.morsel_ndjson.specs.Ndjson.{ndjson}
use Rattle.morsel_ndjson.specs.Members.{beginnings, members_at, line_end}
use Rattle.morsel_ndjson.proofs.PutLemmas.{one_more, front_kept, kept_below}
use Rattle.morsel_ndjson.proofs.MemberLemmas.{length_row, members_line, have_row, ndjson_more}
use Rattle.morsel_ndjson.proofs.lines.put_lines.Goals as goal

pub put_line-requires-clause-row : goal.put_line-requires-clause-row
put_line-requires-clause-row c =
    rw c.requires.members (have_row 0 (beginnings 123 (names_of c.args.frame.now.schema)) c.args.frame.now.rows c.loop-row.row (omega (arith, c.loop-row-test.true, c.height-row-end.ensures.len)))

pub loop-row-preserved : goal.loop-row-preserved
loop-row-preserved c =
    let rows = c.args.frame.now.rows
    in let names = names_of c.args.frame.now.schema
    in let row : Row = get_or rows c.loop-row.row []
    in let here : c.loop-row.row < length rows = omega (arith, c.loop-row-test.true, c.height-row-end.ensures.len)
    in let wide = length_row c.args.frame.now.schema rows c.loop-row.row c.height-row-end.ensures.fits here
    in let line = members_line names rows c.loop-row.row here wide
    in let next = ndjson_more names rows c.loop-row.row here
    in record {
      rises = omega (arith, c.in-Ok.ensures.rises);
      within = c.in-Ok.ensures.within;
      written = one_more c.args.out.now.items c.loop-row.out.items c.put_line.new.out.items c.args.at c.loop-row.to c.in-Ok.end
          (members_at c.loop-row.row c.args.members.now ++ line_end c.args.members.now) (ndjson names (drop (c.loop-row.row + 1) rows)) _
          c.in-Ok.ensures.written
          (rw c.requires.members (rw line (rw next at c.loop-row.invariant.written)));
    }

pub returns-in-Err : goal.returns-in-Err
returns-in-Err c =
    kept_below c.put_line.new.out.items c.loop-row.out.items c.args.at c.loop-row.to c.loop-row.invariant.rises c.in-Err.ensures
    ∙ front_kept c.args.out.now.items c.loop-row.out.items c.args.at c.loop-row.to _ _ c.loop-row.invariant.rises c.loop-row.invariant.within c.requires.within
    c.loop-row.invariant.written
