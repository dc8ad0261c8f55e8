use Rattle.std.proofs.Common.{◌-◌, ◌∙◌, length, sym, arith}
use Rattle.morsel_cut.specs.Places.{cut_place, delimiter_options}
use Rattle.morsel_cut.proofs.RunLemmas.{outside_after, outside_end, outside_begin}
use Rattle.morsel_cut.proofs.pass.plain_run.Goals as goal

pub returns : goal.returns
returns c =
    let o = delimiter_options c.args.delimiters in
    let from = cut_place c.args.from in
    let bytes = c.args.bytes.now in
    record {
      place_is = c.plain_step.ensures ∙ sym (outside_after o from bytes (length bytes - 1) c.requires.outside c.requires.unquoted (omega arith));
      end_is = c.len_up_to_last-end.ensures ∙ sym (outside_end o from bytes c.requires.apart c.requires.outside c.requires.unquoted);
      begin_is = c.len_up_to_last-end.ensures ∙ sym (outside_begin o from bytes c.requires.apart c.requires.outside c.requires.unquoted);
    }
