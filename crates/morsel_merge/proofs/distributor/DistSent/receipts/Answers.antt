use Rattle.std.proofs.Common.{map, sym, ◌∙◌}
use Rattle.std.proofs.lemmas.List.{length-map}
use Rattle.morsel_merge.proofs.distributor.DistSent.receipts.Goals as goal

pub returns-clause-spread : goal.returns-clause-spread
returns-clause-spread g c =
    let log = c.args.self.log.seat.me.0 in
    (map (λ s. s.lane) log, length-map log (λ s. s.lane) ∙ sym (length-map log (λ s. s.value.value)), c.args.self.sent)
