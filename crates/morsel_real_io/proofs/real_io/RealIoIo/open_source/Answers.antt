use Rattle.morsel_real_io.proofs.RealIoLemmas.{opens-kept}
use Rattle.morsel_real_io.proofs.real_io.RealIoIo.open_source.Goals as goal

pub returns-in-Ok : goal.returns-in-Ok
returns-in-Ok g c =
    let kept = c.in-Ok-keep_source in
    opens-kept _ _ _ _ _ kept.file _ c.open.ensures kept.ensures.untold kept.ensures.number kept.ensures.ok c.keep_descriptor.ensures
