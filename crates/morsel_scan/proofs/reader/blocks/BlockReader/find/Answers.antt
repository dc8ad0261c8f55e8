use Rattle.std.proofs.Common.{◌<◌, ◌≤◌, subst, arith}
use Rattle.morsel_scan.specs.Blocks.{BlocksRead}
use Rattle.morsel_scan.proofs.GoingLemmas.{goes_from, goes_on, found_reads, found_block, fault_reads, fault_cause, last_block}
use Rattle.morsel_scan.proofs.reader.blocks.BlockReader.find.Goals as goal

pub chunks-init : goal.chunks-init
chunks-init g c = goes_from (g.H.Io.seen c.args.io.now) c.args.self.now c.args.chunk c.requires.«open»

pub chunks-preserved : goal.chunks-preserved
chunks-preserved g c =
    let more : c.chunks.self.asked < c.chunks.self.size = subst (λ (b : BlocksRead). b.asked < b.size) c.self.view_is c.chunks-test.true in
    let over : c.read_chunk.new.self.size ≤ c.read_chunk.new.self.asked = subst (λ (b : BlocksRead). b.size ≤ b.asked) c.self-in-chunks.view_is c.if-self.false in
    goes_on _ (g.H.Io.seen c.chunks.io) _ c.args.self.now c.chunks.self c.read_chunk.new.self c.args.chunk c.in-Ok.len c.chunks.invariant more c.in-Ok.ensures.reads
    (λ unread. absurd (omega arith))

pub chunks-preserved-else-len-gt0 : goal.chunks-preserved-else-len-gt0
chunks-preserved-else-len-gt0 g c =
    let more : c.chunks.self.asked < c.chunks.self.size = subst (λ (b : BlocksRead). b.asked < b.size) c.self.view_is c.chunks-test.true in
    goes_on _ (g.H.Io.seen c.chunks.io) _ c.args.self.now c.chunks.self c.read_chunk.new.self c.args.chunk c.in-Ok.len c.chunks.invariant more c.in-Ok.ensures.reads
    (λ unread. omega arith)

pub returns-then-len-gt0-clause-reads : goal.returns-then-len-gt0-clause-reads
returns-then-len-gt0-clause-reads g c =
    let more : c.chunks.self.asked < c.chunks.self.size = subst (λ (b : BlocksRead). b.asked < b.size) c.self.view_is c.chunks-test.true in
    found_reads _ (g.H.Io.seen c.chunks.io) _ c.args.self.now c.chunks.self c.read_chunk.new.self c.args.chunk c.in-Ok.len c.chunks.invariant more c.in-Ok.ensures.reads

pub returns-then-len-gt0-clause-block : goal.returns-then-len-gt0-clause-block
returns-then-len-gt0-clause-block g c =
    let more : c.chunks.self.asked < c.chunks.self.size = subst (λ (b : BlocksRead). b.asked < b.size) c.self.view_is c.chunks-test.true in
    let unread : c.read_chunk.new.self.asked < c.read_chunk.new.self.size = subst (λ (b : BlocksRead). b.asked < b.size) c.self-in-chunks.view_is c.if-self.true in
    found_block _ (g.H.Io.seen c.chunks.io) _ c.args.self.now c.chunks.self c.read_chunk.new.self c.args.chunk c.in-Ok.len c.chunks.invariant more c.in-Ok.ensures.reads
    c.if-len-gt0.true unread

pub returns-in-Err-clause-reads : goal.returns-in-Err-clause-reads
returns-in-Err-clause-reads g c =
    let more : c.chunks.self.asked < c.chunks.self.size = subst (λ (b : BlocksRead). b.asked < b.size) c.self.view_is c.chunks-test.true in
    fault_reads _ (g.H.Io.seen c.chunks.io) _ c.args.self.now c.chunks.self c.read_chunk.new.self c.args.chunk c.in-Err.fault c.chunks.invariant more c.in-Err.ensures.reads

pub returns-in-Err-clause-block : goal.returns-in-Err-clause-block
returns-in-Err-clause-block g c =
    let more : c.chunks.self.asked < c.chunks.self.size = subst (λ (b : BlocksRead). b.asked < b.size) c.self.view_is c.chunks-test.true in
    fault_cause _ (g.H.Io.seen c.chunks.io) _ c.args.self.now c.chunks.self c.read_chunk.new.self c.args.chunk c.in-Err.fault c.chunks.invariant more c.in-Err.ensures.reads

pub returns-clause-block : goal.returns-clause-block
returns-clause-block g c =
    let over : c.chunks.self.size ≤ c.chunks.self.asked = subst (λ (b : BlocksRead). b.size ≤ b.asked) c.self.view_is c.chunks-test.false in
    last_block _ (g.H.Io.seen c.chunks.io) c.args.self.now c.chunks.self c.args.chunk c.find_last.result c.chunks.invariant over
    c.find_last.ensures
