use Rattle.std.proofs.Common.{ap, sym, ◌∙◌, length}
use Rattle.morsel_local.specs.Sweeps.{all_woken, woken}
use Rattle.morsel_local.proofs.SweepLemmas.{all_woken-last, length-changed}
use Rattle.morsel_local.proofs.local_task.deliver.Goals as goal

pub loop-number-preserved : goal.loop-number-preserved
loop-number-preserved g c = (
  ap (λ ts. all_woken c.pop.new.self.numbers ts) c.wake.ensures.woken ∙ all_woken-last c.in-Some.number.0 c.pop.new.self.numbers c.loop-number.tasks ∙ ap (λ ns. all_woken ns c.loop-number.tasks) (sym c.in-Some.ensures.taken) ∙ c.loop-number.invariant.0,
  ap (λ ts. length ts) c.wake.ensures.woken ∙ length-changed woken c.in-Some.number.0 c.loop-number.tasks ∙ c.loop-number.invariant.1,
  c.pop.ensures.bound ∙ c.loop-number.invariant.2,
)
