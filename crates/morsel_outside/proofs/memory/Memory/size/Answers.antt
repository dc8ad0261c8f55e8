use Rattle.morsel_outside.proofs.MemoryLemmas.{size_of-held}
use Rattle.morsel_outside.proofs.memory.Memory.size.Goals as goal

pub returns : goal.returns
returns c =
    rw (c.as_slice.ensures.value, ← c.self.view_is) (size_of-held c.self.inside.held.items c.args.file.0 c.index.result.now (rw (← c.self.view_is) at c.requires) c.index.ensures)
