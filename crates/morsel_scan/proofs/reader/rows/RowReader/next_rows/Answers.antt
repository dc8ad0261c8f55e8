use Rattle.std.proofs.Common.{subst, sym, arith}
use Rattle.std.specs.Prelude.{Err}
use Rattle.morsel_meaning.specs.declared.fault.Fault.{Fault}
use Rattle.morsel_scan.specs.RowBlocks.{RowsRead, ReadsOnForRows, ReadsForRows}
use Rattle.morsel_scan.proofs.PassingLemmas.{IsPassing, passes_from, passes_on, reads_on, block_fault_reads, text_fault_reads}
use Rattle.morsel_scan.proofs.FoundLemmas.{no_more, block_fault_rows, front_fault_rows, gives_rows}
use Rattle.morsel_scan.proofs.reader.rows.RowReader.next_rows.Goals as goal

pub search-init : goal.search-init
search-init g c = passes_from c.args.options.now c.args.columns (g.H.Io.seen c.args.io.now) c.args.self.now c.args.chunk c.requires.file

pub returns-in-Err-clause-reads : goal.returns-in-Err-clause-reads
returns-in-Err-clause-reads g c =
    let p = subst (λ (r : RowsRead). IsPassing c.args.options.now c.args.columns (g.H.Io.seen c.args.io.now) c.args.self.now c.args.chunk (g.H.Io.seen c.search.io) r) (sym c.self.view_is) c.search.invariant in
    block_fault_reads c.args.options.now c.args.columns _ (g.H.Io.seen c.search.io) _ c.args.self.now _ c.args.chunk c.in-Err.fault c.find.new.self _ p c.in-Err.ensures.reads

pub returns-in-Err-clause-rows : goal.returns-in-Err-clause-rows
returns-in-Err-clause-rows g c =
    let p = subst (λ (r : RowsRead). IsPassing c.args.options.now c.args.columns (g.H.Io.seen c.args.io.now) c.args.self.now c.args.chunk (g.H.Io.seen c.search.io) r) (sym c.self.view_is) c.search.invariant in
    block_fault_rows c.args.options.now c.args.columns _ (g.H.Io.seen c.search.io) c.args.self.now _ c.args.chunk c.in-Err.fault p c.in-Err.ensures.block

pub returns-then-len-eq0-clause-reads : goal.returns-then-len-eq0-clause-reads
returns-then-len-eq0-clause-reads g c =
    let p = subst (λ (r : RowsRead). IsPassing c.args.options.now c.args.columns (g.H.Io.seen c.args.io.now) c.args.self.now c.args.chunk (g.H.Io.seen c.search.io) r) (sym c.self.view_is) c.search.invariant in
    reads_on c.args.options.now c.args.columns _ (g.H.Io.seen c.search.io) _ c.args.self.now _ c.args.chunk _ p c.in-Ok.ensures.reads

pub returns-then-len-eq0-clause-rows : goal.returns-then-len-eq0-clause-rows
returns-then-len-eq0-clause-rows g c =
    let p = subst (λ (r : RowsRead). IsPassing c.args.options.now c.args.columns (g.H.Io.seen c.args.io.now) c.args.self.now c.args.chunk (g.H.Io.seen c.search.io) r) (sym c.self.view_is) c.search.invariant in
    no_more c.args.options.now c.args.columns _ (g.H.Io.seen c.search.io) c.args.self.now _ c.args.chunk c.in-Ok.len c.find.new.self p c.in-Ok.ensures.block c.if-len-eq0.true

pub returns-in-Err-front-clause-reads : goal.returns-in-Err-front-clause-reads
returns-in-Err-front-clause-reads g c =
    let p = subst (λ (r : RowsRead). IsPassing c.args.options.now c.args.columns (g.H.Io.seen c.args.io.now) c.args.self.now c.args.chunk (g.H.Io.seen c.search.io) r) (sym c.self.view_is) c.search.invariant in
    text_fault_reads c.args.options.now c.args.columns _ _ c.args.self.now c.args.chunk _ c.find.new.self.asked c.in-Err-front.fault _ c.in-Err-front.ensures.listed
    (reads_on c.args.options.now c.args.columns _ (g.H.Io.seen c.search.io) _ c.args.self.now _ c.args.chunk _ p c.in-Ok.ensures.reads)

pub returns-in-Err-front-clause-rows : goal.returns-in-Err-front-clause-rows
returns-in-Err-front-clause-rows g c =
    let p = subst (λ (r : RowsRead). IsPassing c.args.options.now c.args.columns (g.H.Io.seen c.args.io.now) c.args.self.now c.args.chunk (g.H.Io.seen c.search.io) r) (sym c.self.view_is) c.search.invariant in
    front_fault_rows c.args.options.now c.args.columns _ (g.H.Io.seen c.search.io) c.args.self.now _ c.args.chunk c.in-Ok.len c.find.new.self c.in-Err-front.fault p
    c.in-Ok.ensures.same c.in-Ok.ensures.within c.in-Ok.ensures.block (omega arith) c.in-Err-front.ensures.front

pub search-preserved : goal.search-preserved
search-preserved g c =
    let p = subst (λ (r : RowsRead). IsPassing c.args.options.now c.args.columns (g.H.Io.seen c.args.io.now) c.args.self.now c.args.chunk (g.H.Io.seen c.search.io) r) (sym c.self.view_is) c.search.invariant in
    subst (λ (r : RowsRead). IsPassing c.args.options.now c.args.columns (g.H.Io.seen c.args.io.now) c.args.self.now c.args.chunk (g.H.Io.seen c.find.new.io) r) (sym c.pass.ensures)
    (passes_on c.args.options.now c.args.columns _ (g.H.Io.seen c.search.io) _ c.args.self.now _ c.args.chunk c.in-Ok.len c.find.new.self c.in-Ok-front.front c.comment-comment.ensures.fit p
    c.in-Ok.ensures.«open» c.in-Ok.ensures.same c.in-Ok.ensures.within c.in-Ok.ensures.reads c.in-Ok.ensures.block (omega arith) c.in-Ok-front.ensures.front (omega arith))

pub returns-in-Ok-give-clause-reads : goal.returns-in-Ok-give-clause-reads
returns-in-Ok-give-clause-reads g c =
    let p = subst (λ (r : RowsRead). IsPassing c.args.options.now c.args.columns (g.H.Io.seen c.args.io.now) c.args.self.now c.args.chunk (g.H.Io.seen c.search.io) r) (sym c.self.view_is) c.search.invariant in
    subst (λ (r : RowsRead). ReadsOnForRows c.args.options.now c.args.columns (g.H.Io.seen c.args.io.now) c.args.self.now c.args.chunk (g.H.Io.seen c.find.new.io) r.blocks.asked) (sym c.in-Ok-give.ensures.1)
    (reads_on c.args.options.now c.args.columns _ (g.H.Io.seen c.search.io) _ c.args.self.now _ c.args.chunk c.find.new.self.asked p c.in-Ok.ensures.reads)

pub returns-in-Ok-give-clause-rows : goal.returns-in-Ok-give-clause-rows
returns-in-Ok-give-clause-rows g c =
    let p = subst (λ (r : RowsRead). IsPassing c.args.options.now c.args.columns (g.H.Io.seen c.args.io.now) c.args.self.now c.args.chunk (g.H.Io.seen c.search.io) r) (sym c.self.view_is) c.search.invariant in
    gives_rows c.args.options.now c.args.columns _ (g.H.Io.seen c.search.io) (g.H.Io.seen c.find.new.io) c.args.self.now _ c.args.chunk c.in-Ok.len c.find.new.self c.in-Ok-front.front c.in-Ok-give.block c.give.new.self p
    c.in-Ok.ensures.«open» c.in-Ok.ensures.same c.in-Ok.ensures.within c.in-Ok.ensures.block (omega arith) c.in-Ok-front.ensures.front c.in-Ok-front.ensures.within c.if-front-gt0.true
    c.in-Ok-give.ensures.0 c.in-Ok-give.ensures.1

pub returns-in-Err-give-clause-reads : goal.returns-in-Err-give-clause-reads
returns-in-Err-give-clause-reads g c =
    let p = subst (λ (r : RowsRead). IsPassing c.args.options.now c.args.columns (g.H.Io.seen c.args.io.now) c.args.self.now c.args.chunk (g.H.Io.seen c.search.io) r) (sym c.self.view_is) c.search.invariant in
    subst (λ (f : Fault). ReadsForRows c.args.options.now c.args.columns (g.H.Io.seen c.args.io.now) c.args.self.now c.args.chunk (Err f) (g.H.Io.seen c.find.new.io) c.give.new.self) (sym c.in-Err-give.ensures.0)
    (c.find.new.self.asked, reads_on c.args.options.now c.args.columns _ (g.H.Io.seen c.search.io) _ c.args.self.now _ c.args.chunk c.find.new.self.asked p c.in-Ok.ensures.reads)
