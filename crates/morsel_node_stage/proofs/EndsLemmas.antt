-- Ends that are for the jobs of their ports.
use Rattle.std.proofs.Common.{List, [], ◌∷◌}
use Rattle.morsel_ports.specs.declared.node.Ends.{Ends}
use Rattle.morsel_ports.specs.Nodes.{AreEndsFor}

-- what follows from what is so of each end is so of each
pub ends_for-each : {E J : Type 0} (P Q : J → E → Type 0) → ((job : J) (end : E) → P job end → Q job end) → (ports : List (Ends E)) (jobs : List J) → AreEndsFor P ports jobs → AreEndsFor Q ports jobs
ends_for-each P Q from [] [] are = tt
ends_for-each P Q from [] (job ∷ jobs) are = absurd are
ends_for-each P Q from (port ∷ ports) [] are = absurd are
ends_for-each P Q from (port ∷ ports) (job ∷ jobs) are = ((λ k d lt. from job _ (are.0 k d lt)), ends_for-each P Q from ports jobs are.1)
