use Rattle.morsel_prog.proofs.CommandLemmas.{file-read}
use Rattle.morsel_prog.proofs.commands.query_of_file.Goals as goal

pub returns : goal.returns
returns g c =
    let read = rw c.as_slice.ensures.value at c.query_of_bytes.ensures in
    file-read _ _ c.args.name.now c.args.out.now c.in_ok-bytes.bytes.items c.query_of_bytes.result c.in_ok-bytes.ensures read.ok read.refused
