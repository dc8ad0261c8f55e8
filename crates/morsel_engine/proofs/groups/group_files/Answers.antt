use Rattle.std.proofs.Common.{subst, inr, arith}
use Rattle.morsel_join_plan.specs.JoinRuns.{JoinScan}
use Rattle.morsel_group_plan.specs.GroupRuns.{GroupsScan}
use Rattle.morsel_engine.proofs.JoinFilesLemmas.{made_suits, chunk_some, scan_is}
use Rattle.morsel_engine.proofs.groups.group_files.Goals as goal

pub write_groups-requires-clause-suits : goal.write_groups-requires-clause-suits
write_groups-requires-clause-suits g c =
    let some = c.scan_run-run.ensures.some in let is = c.scan_run-run.ensures.bound in
    made_suits _ c.args.scan.spec c.args.scan.columns c.args.scan.files.items 0 c.args.options.now _ _ _ c.requires.open (omega arith) (chunk_some c.args.options.now (omega (arith, some, is)))
    (record { node_is = c.in-Ok.ensures.node; columns_are = c.in-Ok.ensures.columns; reader_is = c.in-Ok.ensures.reader; fit = c.in-Ok.ensures.fit })

pub returns-clause-groups : goal.returns-clause-groups
returns-clause-groups g c = inr (
  c.in-Ok.ensures.fit,
  subst (λ (s : JoinScan). GroupsScan s c.args.group.rules (g.H.Io.seen c.args.io.now) c.write_groups.result (g.H.Io.seen c.write_groups.new.io))
      (scan_is c.args.scan.spec c.args.scan.columns c.args.scan.files.items 0 c.args.options.now _ c.in-Ok.side.columns _
      (record { node_is = c.in-Ok.ensures.node; columns_are = c.in-Ok.ensures.columns; reader_is = c.in-Ok.ensures.reader; fit = c.in-Ok.ensures.fit }))
      c.write_groups.ensures.groups,
)
