use Rattle.std.proofs.Common.{◌≡◌, ◌∙◌, length, rules, vec_len}
use Rattle.morsel_scan.proofs.ChunkLemmas.{reads_more, written_back}
use Rattle.morsel_scan.proofs.reader.blocks.read_more.Goals as goal

pub returns : goal.returns
returns g c =
    let old = c.args.held.now.items in
    let whole : vec_len c.args.held.now ≡ length old = search rules in
    let same : length c.read_into.new.buffer ≡ c.grow.new.bytes.len = c.read_into.auto.buffer ∙ c.deref_mut.ensures.len in
    reads_more (g.H.Io.seen c.args.io.now) (g.H.Io.seen c.read_into.new.io) c.args.file.0 c.args.at c.args.len c.len-before.result
    old c.grow.new.bytes.items c.deref_mut.result.now c.read_into.new.buffer _ c.read_into.result
    (c.len-before.ensures ∙ whole)
    c.in-Ok.ensures.front
    c.in-Ok.ensures.len
    c.deref_mut.ensures.value
    c.read_into.auto.buffer
    (written_back _ c.read_into.new.buffer _ same)
    c.read_into.ensures.front
    c.read_into.ensures.reads
