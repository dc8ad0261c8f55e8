use Rattle.std.proofs.Common.{◌≡◌, ◌+◌, ◌∷◌, [], ◌++◌, List, ap}
use Rattle.std.proofs.lemmas.Result.{err_from_is_err_and}
use Rattle.morsel_meaning.specs.declared.fault.Fault.{Fault}
use Rattle.morsel_ports.specs.Nodes.{NodeSeen}
use Rattle.morsel_phase.specs.Stages.{HasOut}
use Rattle.morsel_phase.proofs.StageLemmas.{all_between, given_fault, less_out, not_empty, told_cut, told_fault, told_whole}
use Rattle.morsel_phase.proofs.node_stage.NodeStage.give_back.Given.{Over}
use Rattle.morsel_phase.proofs.node_stage.NodeStage.give_back.Goals.{else-is_empty-via-then-is_empty+else-is_empty-2, else-is_empty-via-else-is_empty}
use Rattle.morsel_phase.proofs.node_stage.NodeStage.give_back.Goals as goal

module _ (g : Over) where
  abbrev may_fail : g.row.N.Denot → g.row.J.Denot → Fault → Type 0
  may_fail begun job = g.N.ComputeNode.fails begun (job ∷ [])

  abbrev Out : g.row.N.Denot → (Fault → Type 0) → List g.row.N-Unit.Denot → Type 0
  Out node may units = HasOut (g.N.ComputeNode.seen node).units (g.N.ComputeNode.is_unit node) g.N.ComputeNode.unit_fails may units

  -- the other units are out
  back : (node node' : g.row.N.Denot) (may : Fault → Type 0) → (let less : NodeSeen = record (g.N.ComputeNode.seen node') { units = (g.N.ComputeNode.seen node').units + 1 } in less ≡ g.N.ComputeNode.seen node)
      → ((unit : g.row.N-Unit.Denot) → g.N.ComputeNode.is_unit node unit → g.N.ComputeNode.is_unit node' unit) → (before after : List g.row.N-Unit.Denot) (unit : g.row.N-Unit.Denot) → Out node may (before ++ unit ∷ after) → Out node' may (before ++ after)
  back node node' may out stays before after unit it =
      less_out (g.N.ComputeNode.is_unit node) g.N.ComputeNode.unit_fails may (g.N.ComputeNode.is_unit node') (g.N.ComputeNode.seen node).units (g.N.ComputeNode.seen node').units before after unit
      (ap (λ (seen : NodeSeen). seen.units) out) stays it

pub give_back-requires-clause-unit : goal.give_back-requires-clause-unit
give_back-requires-clause-unit g c =
    let owed = c.requires.owed in
    (owed.2, all_between (g.N.ComputeNode.is_unit c.args.self.now.node) owed.0 owed.1 owed.2 owed.3.own, owed.4)

pub returns-in_err-receipts-clause-owed : goal.returns-in_err-receipts-clause-owed
returns-in_err-receipts-clause-owed g c before after unit it gave = back g c.args.self.now.node c.give_back.new.self (may_fail g c.args.self.now.begun.value c.args.self.now.job.value) c.in_err-receipts.ensures.out c.in_err-receipts.ensures.others before after unit it

pub returns-then-is_empty-2-clause-owed : goal.returns-then-is_empty-2-clause-owed
returns-then-is_empty-2-clause-owed g c before after unit it gave = back g c.args.self.now.node c.give_back.new.self (may_fail g c.args.self.now.begun.value c.args.self.now.job.value) c.in_ok-receipts.ensures.out c.in_ok-receipts.ensures.others before after unit it

pub returns-clause-owed : goal.returns-clause-owed
returns-clause-owed g c before after unit it gave = back g c.args.self.now.node c.give_back.new.self (may_fail g c.args.self.now.begun.value c.args.self.now.job.value) c.in_ok-receipts.ensures.out c.in_ok-receipts.ensures.others before after unit it

pub returns-in_err-receipts-clause-fault : goal.returns-in_err-receipts-clause-fault
returns-in_err-receipts-clause-fault g c =
    let owed = c.requires.owed in
    let is = all_between (g.N.ComputeNode.is_unit c.args.self.now.node) owed.0 owed.1 owed.2 owed.3.own in
    let fails = all_between (λ (unit : g.row.N-Unit.Denot). (fault : Fault) → g.N.ComputeNode.unit_fails unit fault → may_fail g c.args.self.now.begun.value c.args.self.now.job.value fault) owed.0 owed.1 owed.2 owed.3.fails in
    let told = given_fault (g.N.ComputeNode.unit_fails owed.2) (g.N.ComputeNode.end_of c.args.out) c.in_err-receipts.field-0.0 c.in_err-receipts.ensures.end (c.in_err-receipts.ensures.fault owed.2 is owed.4) in
    let p = err_from_is_err_and c.from_residual.result c.from_residual.ensures.1 in
    rw (p.1, p.2) (fails c.in_err-receipts.field-0.0 told)

pub returns-in_err-receipts-clause-told : goal.returns-in_err-receipts-clause-told
returns-in_err-receipts-clause-told g c =
    let p = err_from_is_err_and c.from_residual.result c.from_residual.ensures.1 in
    rw (p.1, p.2) (told_fault (g.N.ComputeNode.end_of c.args.out) c.in_err-receipts.field-0.0 c.in_err-receipts.ensures.end)

pub returns-then-is_empty-2-clause-told : goal.returns-then-is_empty-2-clause-told
returns-then-is_empty-2-clause-told g c = told_cut (g.N.ComputeNode.end_of c.args.out) c.in_ok-receipts.receipts c.in_ok-receipts.ensures.end

pub returns-clause-told : goal.returns-clause-told
returns-clause-told g c = told_whole (g.N.ComputeNode.end_of c.args.out) c.in_ok-receipts.receipts c.in_ok-receipts.ensures.end (λ none_taken none_sent.
    elim c.else-is_empty.branch [
      | else-is_empty-via-then-is_empty+else-is_empty-2 w ↦ not_empty c.in_ok-receipts.receipts.sent _ w.is_empty-then-is_empty.ensures w.if-is_empty-2.false none_sent
      | else-is_empty-via-else-is_empty w ↦ not_empty c.in_ok-receipts.receipts.taken _ c.is_empty.ensures w.if-is_empty.false none_taken
    ])
